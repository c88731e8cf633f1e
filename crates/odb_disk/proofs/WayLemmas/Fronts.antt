-- Two prefixes of one path.
use Rattle.std.proofs.Common.{◌≡◌, ◌⊎◌, inl, inr, true, [], ◌∷◌, ◌++◌, length, drop, refl, sym, ap, ◌∙◌, append_assoc}
use Rattle.odb_base.specs.Path.{Name, Path}
use Rattle.odb_base.specs.PathLaws.{goes_beyond, lies_below}
use Rattle.odb_disk.proofs.TreeLemmas.Moved.{begins, behind-append}

-- of two prefixes of a path one is a prefix of the other, or goes beyond it
two_fronts : (p q r s : Path) → p ++ r ≡ q ++ s → ((rest : Path) × (p ≡ q ++ rest)) ⊎ ((name : Name) × (names : Path) × (q ≡ p ++ name ∷ names))
two_fronts p [] r s is = inl (p, refl)
two_fronts [] (y ∷ q) r s is = inr (y, q, refl)
two_fronts (x ∷ p) (y ∷ q) r s is =
    let head : x ≡ y = cc in
    let tail : p ++ r ≡ q ++ s = cc in
    elim (two_fronts p q r s tail) [
      | inl shorter ↦ inl (shorter.0, ap (λ n. n ∷ p) head ∙ ap (λ l. y ∷ l) shorter.1)
      | inr longer ↦ inr (longer.0, longer.1, ap (λ l. y ∷ l) longer.2 ∙ ap (λ n. n ∷ p ++ longer.0 ∷ longer.1) (sym head))
    ]

pub fronts_of : (path p q : Path) → begins path p ≡ true → begins path q ≡ true → ((rest : Path) × (p ≡ q ++ rest)) ⊎ ((name : Name) × (names : Path) × (q ≡ p ++ name ∷ names))
fronts_of path p q one two = two_fronts p q (drop (length p) path) (drop (length q) path) (sym (goes_beyond path p one) ∙ goes_beyond path q two)

no_tail : (rest s : Path) → [] ≡ rest ++ s → rest ≡ []
no_tail [] s is = refl
no_tail (x ∷ rest) s is = absurd (cc)

-- a prefix of a path with one more name is one of the path, or the whole
pub front_or_whole : (front : Path) (name : Name) (q : Path) → begins (front ++ name ∷ []) q ≡ true → (begins front q ≡ true) ⊎ (q ≡ front ++ name ∷ [])
front_or_whole front name q is =
    let s = drop (length q) (front ++ name ∷ []) in
    let whole : front ++ name ∷ [] ≡ q ++ s = goes_beyond (front ++ name ∷ []) q is in
    elim (two_fronts front q (name ∷ []) s whole) [
      | inl shorter ↦ inl (lies_below front q shorter.0 shorter.1)
      | inr longer ↦
          let split : front ++ name ∷ [] ≡ front ++ (longer.0 ∷ longer.1 ++ s) = whole ∙ ap (λ p. p ++ s) longer.2 ∙ append_assoc front (longer.0 ∷ longer.1) s in
          let tail : name ∷ [] ≡ longer.0 ∷ longer.1 ++ s = sym (behind-append front (name ∷ [])) ∙ ap (drop (length front)) split ∙ behind-append front (longer.0 ∷ longer.1 ++ s) in
          let head : longer.0 ≡ name = cc in
          let none : [] ≡ longer.1 ++ s = cc in
          inr (longer.2 ∙ ap (λ n. front ++ n ∷ longer.1) head ∙ ap (λ l. front ++ name ∷ l) (no_tail longer.1 s none))
    ]
