-- The names in a text, and the order of texts.
use Rattle.std.proofs.Common.{◌≡◌, ◌≢◌, ◌↔◌, ◌==◌, ℕ, suc, ◌+◌, ◌<◌, ◌≤◌, true, false, cond, List, [], ◌∷◌, ◌++◌, length, get_or, take, map, Bor, append-nil, append_assoc, refl, sym, ap, ◌∙◌, arith}
use Rattle.std.specs.List.{list_any, list_all, flat_map}
use Rattle.std.specs.Ordering.{nat_cmp, ordering_then, is_eq}
use Rattle.std.specs.declared.cmp.Ordering.{Ordering}
use Rattle.std.specs.declared.cmp.Ordering.TheVariants.{Less, Equal, Greater}
use Rattle.std.specs.Cmp.Lexicographic.{slice_cmp, texts_ties, lists_ties}
use lib.Pointwise.{pointwise}
use Rattle.std.proofs.Math.Seq.{take-suc}
use Rattle.std.proofs.lemmas.Bool.{lt-ltb, le-ltb, and_parts, and_from, or_parts, ne_eqb, eqb-false}
use Rattle.std.proofs.lemmas.List.{take_all, get_or_default, map-append}
use Rattle.std.proofs.lemmas.List.Folds.{list_any_none, list_all-append}
use Rattle.odb_base.specs.Path.{Name, Path, is_name, same_name, name_cmp, path_cmp}
use Rattle.odb_base.specs.JoinedPath.{joined, names_joined, IsJoined}
use Rattle.odb_base.specs.PathLaws.{slice_split-behind, is_name-no_nul}

-- no byte is NUL
pub free-any : (xs : List ℕ) → ((i : ℕ) → i < length xs → get_or xs i 0 ≢ 0) → list_any (λ b. b == 0) xs ≡ false
free-any xs free = list_any_none (λ b. b == 0) xs (λ k d h. ne_eqb _ _ (λ e. free k h (get_or_default xs k 0 d h ∙ e)))

-- ---- the names in a text

pub joined-push : (path : Path) (name : Name) → joined (path ++ name ∷ []) ≡ joined path ++ 0 ∷ name
unfolding joined
joined-push [] name = ap (λ t. 0 ∷ t) (append-nil name)
joined-push (first ∷ path) name =
    ap (λ t. 0 ∷ first ++ t) (joined-push path name) ∙ ap (λ t. 0 ∷ t) (sym (append_assoc first (flat_map (λ n. 0 ∷ n) path) (0 ∷ name)))

pub joined-append : (path rest : Path) → joined (path ++ rest) ≡ joined path ++ joined rest
unfolding joined
joined-append [] rest = refl
joined-append (first ∷ path) rest =
    ap (λ t. 0 ∷ first ++ t) (joined-append path rest) ∙ ap (λ t. 0 ∷ t) (sym (append_assoc first (flat_map (λ n. 0 ∷ n) path) (flat_map (λ n. 0 ∷ n) rest)))

pub names_joined-joined : (path : Path) → list_all is_name path ≡ true → names_joined (joined path) ≡ path
unfolding joined names_joined
names_joined-joined [] e = refl
names_joined-joined (name ∷ names) e = slice_split-behind 0 is_name-no_nul name names e

-- a text that is that of names
module _ (text : List ℕ) (path : Path) (is : text ≡ joined path) (names : list_all is_name path ≡ true) where
  pub names_in : names_joined text ≡ path
  names_in = ap names_joined is ∙ names_joined-joined path names

  pub is_joined : IsJoined text
  is_joined = record { whole = is ∙ ap joined (sym names_in); are_names = ap (list_all is_name) names_in ∙ names }

pub joined_nil : [] ≡ joined []
unfolding joined
joined_nil = refl

pub empty_root : (text : List ℕ) → IsJoined text → (text ≡ []) ↔ (names_joined text ≡ [])
unfolding joined names_joined
empty_root text whole = (λ e. ap names_joined e, λ e. whole.whole ∙ ap joined e)

-- a path that is seen in a text: its text and its names
module _ (text : List ℕ) (path : Path) (view : names_joined text ≡ path) (whole : IsJoined text) where
  pub whole_text : text ≡ joined path
  whole_text = whole.whole ∙ ap joined view

  pub all_names : list_all is_name path ≡ true
  all_names = ap (list_all is_name) (sym view) ∙ whole.are_names

pub names-append : (path rest : Path) → list_all is_name path ≡ true → list_all is_name rest ≡ true → list_all is_name (path ++ rest) ≡ true
names-append path rest names more = list_all-append is_name path rest ∙ and_from _ _ names more

pub names-push : (path : Path) (name : Name) → list_all is_name path ≡ true → is_name name ≡ true → list_all is_name (path ++ name ∷ []) ≡ true
names-push path name names is = names-append path (name ∷ []) names (and_from _ _ is refl)

-- the names so far, and one more
pub texts-push : (texts : List (Bor (List ℕ))) (i : ℕ) (d : Bor (List ℕ)) → i < length texts → map (λ t. t.now) (take (i + 1) texts) ≡ map (λ t. t.now) (take i texts) ++ (get_or texts i d).now ∷ []
texts-push texts i d h = let next : i + 1 ≡ suc i = omega arith in ap (λ n. map (λ t. t.now) (take n texts)) next ∙ ap (map (λ t. t.now)) (take-suc texts i d h)
    ∙ map-append (λ t. t.now) (take i texts) (get_or texts i d ∷ [])

pub texts-all : (texts : List (Bor (List ℕ))) (i : ℕ) → length texts ≤ i → map (λ t. t.now) (take i texts) ≡ map (λ t. t.now) texts
texts-all texts i h = ap (map (λ t. t.now)) (take_all i texts h)

-- ---- the order of the texts

then_assoc : (a b c : Ordering) → ordering_then a (ordering_then b c) ≡ ordering_then (ordering_then a b) c
then_assoc Less b c = refl
then_assoc Equal b c = refl
then_assoc Greater b c = refl

nul_first : (y : ℕ) → (y == 0) ≡ false → nat_cmp 0 y ≡ Less
nul_first y some = let less : 0 < y = omega (arith, eqb-false y 0 some) in ap (λ t. cond t Less (cond (0 == y) Equal Greater)) (lt-ltb 0 y less)

nul_last : (x : ℕ) → (x == 0) ≡ false → nat_cmp x 0 ≡ Greater
nul_last x some = ap (λ t. cond t Less (cond (x == 0) Equal Greater)) (le-ltb x 0 (omega arith)) ∙ ap (λ t. cond t Equal Greater) some

-- a text that ends, or goes on with NUL, comes before one that goes on within a name
ends_first : (path : Path) (y : ℕ) (ys : List ℕ) → (y == 0) ≡ false → slice_cmp nat_cmp (joined path) (y ∷ ys) ≡ Less
unfolding joined
ends_first [] y ys some = refl
ends_first (name ∷ names) y ys some = ap (λ o. ordering_then o (slice_cmp nat_cmp (name ++ flat_map (λ n. 0 ∷ n) names) ys)) (nul_first y some)

ends_last : (path : Path) (x : ℕ) (xs : List ℕ) → (x == 0) ≡ false → slice_cmp nat_cmp (x ∷ xs) (joined path) ≡ Greater
unfolding joined
ends_last [] x xs some = refl
ends_last (name ∷ names) x xs some = ap (λ o. ordering_then o (slice_cmp nat_cmp xs (name ++ flat_map (λ n. 0 ∷ n) names))) (nul_last x some)

-- names are compared before what follows them
names_first : (p q : Path) (a b : Name) → list_any (λ c. c == 0) a ≡ false → list_any (λ c. c == 0) b ≡ false
    → slice_cmp nat_cmp (a ++ joined p) (b ++ joined q) ≡ ordering_then (name_cmp a b) (slice_cmp nat_cmp (joined p) (joined q))
names_first p q [] [] free free' = refl
names_first p q [] (y ∷ b) free free' = ends_first p y (b ++ joined q) (or_parts _ _ free').0
names_first p q (x ∷ a) [] free free' = ends_last q x (a ++ joined p) (or_parts _ _ free).0
names_first p q (x ∷ a) (y ∷ b) free free' =
    ap (ordering_then (nat_cmp x y)) (names_first p q a b (or_parts _ _ free).1 (or_parts _ _ free').1) ∙ then_assoc (nat_cmp x y) (name_cmp a b) (slice_cmp nat_cmp (joined p) (joined q))

-- the texts of paths are in the order of the paths
pub joined_cmp : (p q : Path) → list_all is_name p ≡ true → list_all is_name q ≡ true → slice_cmp nat_cmp (joined p) (joined q) ≡ path_cmp p q
unfolding joined
joined_cmp [] [] e e' = refl
joined_cmp [] (m ∷ q) e e' = refl
joined_cmp (n ∷ p) [] e e' = refl
joined_cmp (n ∷ p) (m ∷ q) e e' =
    let here = and_parts _ _ e in
    let there = and_parts _ _ e' in
    names_first p q n m (is_name-no_nul n here.0) (is_name-no_nul m there.0) ∙ ap (ordering_then (name_cmp n m)) (joined_cmp p q here.1 there.1)

pub text_cmp : (s t : List ℕ) → IsJoined s → IsJoined t → slice_cmp nat_cmp s t ≡ path_cmp (names_joined s) (names_joined t)
text_cmp s t a b = ap (λ u. slice_cmp nat_cmp u t) a.whole ∙ ap (slice_cmp nat_cmp (joined (names_joined s))) b.whole ∙ joined_cmp _ _ a.are_names b.are_names

pub text_eq : (s t : List ℕ) → IsJoined s → IsJoined t → same_name s t ≡ pointwise same_name (names_joined s) (names_joined t)
text_eq s t a b = texts_ties s t ∙ ap is_eq (text_cmp s t a b) ∙ sym (lists_ties name_cmp texts_ties (names_joined s) (names_joined t))
