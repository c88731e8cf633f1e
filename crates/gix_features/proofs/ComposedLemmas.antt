-- Lemmas on composed paths: each name of a path is a name, and so is one more.
use Rattle.std.proofs.Common.{◌≡◌, ℕ, zero, suc, ◌+◌, ◌≤◌, ◌<◌, true, List, [], ◌∷◌, ◌++◌, length, map, take, get_or, sym, ap, ◌∙◌, refl, arith}
use Rattle.std.specs.List.{list_all}
use Rattle.std.proofs.lemmas.Bool.{and_parts}
use Rattle.std.proofs.lemmas.List.{map-append, take_all, take_more}
use denote.Ref.{Bor}
use Rattle.odb_base.specs.Path.{Path, Name, is_name}
use Rattle.gix_features.specs.Composed.{composed_part, composed_path}

pub is_name-at : (names : List (Bor Name)) (i : ℕ) (d : Bor Name) → list_all is_name (map (λ name. name.now) names) ≡ true → i < length names
    → is_name (get_or names i d).now ≡ true
is_name-at [] i d all within = absurd (omega arith)
is_name-at (name ∷ names) zero d all within = (and_parts _ _ all).0
is_name-at (name ∷ names) (suc i) d all within =
    is_name-at names i d (and_parts (is_name name.now) (list_all is_name (map (λ n. n.now) names)) all).1 (omega arith)

pub composed_path-none : composed_path [] ≡ []
unfolding composed_path
composed_path-none = refl

composed_path-push : (path : Path) (name : Name) → composed_path (path ++ name ∷ []) ≡ composed_path path ++ composed_part name ∷ []
unfolding composed_path
composed_path-push path name = map-append composed_part path (name ∷ [])

composed_path-take : (names : List (Bor Name)) (i : ℕ) (d : Bor Name) → i < length names → composed_path (map (λ name. name.now) (take (i + 1) names))
    ≡ composed_path (map (λ name. name.now) (take i names)) ++ composed_part (get_or names i d).now ∷ []
composed_path-take names i d within =
    ap (λ all. composed_path (map (λ name. name.now) all)) (take_more names i d within)
    ∙ ap composed_path (map-append (λ name. name.now) (take i names) (get_or names i d ∷ []))
    ∙ composed_path-push (map (λ name. name.now) (take i names)) (get_or names i d).now

pub composed_path-more : (names : List (Bor Name)) (i : ℕ) (d : Bor Name) (front next : Path) → i < length names
    → front ≡ composed_path (map (λ name. name.now) (take i names)) → next ≡ front ++ composed_part (get_or names i d).now ∷ []
    → next ≡ composed_path (map (λ name. name.now) (take (i + 1) names))
composed_path-more names i d front next within is more =
    more ∙ ap (λ path. path ++ composed_part (get_or names i d).now ∷ []) is ∙ sym (composed_path-take names i d within)

pub composed_path-all : (names : List (Bor Name)) (i : ℕ) → length names ≤ i → composed_path (map (λ name. name.now) (take i names))
    ≡ composed_path (map (λ name. name.now) names)
composed_path-all names i whole = ap (λ all. composed_path (map (λ name. name.now) all)) (take_all i names whole)
