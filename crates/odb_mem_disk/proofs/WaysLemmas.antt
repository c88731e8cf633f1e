-- The paths along which a path is followed, step by step.
use Rattle.std.proofs.Common.{◌≡◌, ℕ, suc, ◌-◌, true, List, [], ◌∷◌, ◌++◌, Option, Some, None, Result, Ok, Err, OnOk, append_assoc, refl, sym, ap, ◌∙◌, subst, arith}
use Rattle.odb_base.specs.Path.{Path}
use Rattle.odb_disk.specs.Tree.{Tree}
use Rattle.odb_disk.specs.Tree.Follow.{Pass, Reached, Onward, Missing, Blocked, pass}
use Rattle.odb_disk.specs.Tree.Way.{ways_onward, ways_within}
use Rattle.odb_mem_disk.specs.PassCalls.{onward_of}

none_onward : (further : Path → List Path) (p : Pass) → onward_of p ≡ None → ways_onward further p ≡ []
none_onward further (Reached path node) is = refl
none_onward further (Onward path) is = absurd (cc)
none_onward further Missing is = refl
none_onward further Blocked is = refl

one_onward : (further : Path → List Path) (p : Pass) (onward : Path) → onward_of p ≡ Some onward → ways_onward further p ≡ further onward
one_onward further (Reached path node) onward is = absurd (cc)
one_onward further (Onward path) onward is = let same : path ≡ onward = cc in ap further same
one_onward further Missing onward is = absurd (cc)
one_onward further Blocked onward is = absurd (cc)

module _ (t : Tree) (path : Path) where
  ways_next : (less : ℕ) → ways_within (suc less) t true path ≡ path ∷ ways_onward (ways_within less t true) (pass t true [] path)
  unfolding ways_within
  ways_next less = refl

  ways_alone : ways_within 0 t true path ≡ path ∷ []
  unfolding ways_within
  ways_alone = refl

  -- no link is left to follow
  pub added_alone : (links : ℕ) → links ≡ 0 → (ways new : List Path) → new ≡ ways ++ path ∷ [] → new ≡ ways ++ ways_within links t true path
  added_alone links none ways new is = is ∙ ap (λ (w : List Path). ways ++ w) (sym (ap (λ (n : ℕ). ways_within n t true path) none ∙ ways_alone))

  -- no link leads on
  pub added_end : (links less : ℕ) → links ≡ suc less → onward_of (pass t true [] path) ≡ None → (ways new : List Path) → new ≡ ways ++ path ∷ []
      → new ≡ ways ++ ways_within links t true path
  added_end links less one end ways new is =
      is
      ∙ ap (λ (w : List Path). ways ++ w)
      (sym (ap (λ (n : ℕ). ways_within n t true path) one ∙ ways_next less
      ∙ ap (λ (w : List Path). path ∷ w) (none_onward (ways_within less t true) (pass t true [] path) end)))

  -- a link leads on
  pub added_onward : {A E : Type 0} (links less : ℕ) → links ≡ suc less → (onward : Path) → onward_of (pass t true [] path) ≡ Some onward → (ways pushed new : List Path)
      → pushed ≡ ways ++ path ∷ [] → (answer : Result A E) → OnOk answer (new ≡ pushed ++ ways_within less t true onward)
      → OnOk answer (new ≡ ways ++ ways_within links t true path)
  added_onward links less one onward leads ways pushed new is (Ok done) more =
      more ∙ ap (λ (w : List Path). w ++ ways_within less t true onward) is ∙ append_assoc ways (path ∷ []) (ways_within less t true onward)
      ∙ ap (λ (w : List Path). ways ++ w)
      (sym (ap (λ (n : ℕ). ways_within n t true path) one ∙ ways_next less
      ∙ ap (λ (w : List Path). path ∷ w) (one_onward (ways_within less t true) (pass t true [] path) onward leads)))
  added_onward links less one onward leads ways pushed new is (Err error) more = tt
