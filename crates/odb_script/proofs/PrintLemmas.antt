-- Lemmas on the lines of places.
use Rattle.std.proofs.Common.{◌≡◌, ℕ, ◌+◌, ◌<◌, List, [], ◌∷◌, ◌++◌, length, take, get_or, refl, sym, ap, ◌∙◌}
use Rattle.std.specs.Prelude.{slice_get}
use Rattle.std.specs.List.{flat_map}
use Rattle.std.proofs.lemmas.List.{take_more, flat_map_more}
use Rattle.gix_odb_calls.specs.declared.step.Outcome.{Outcome}
use Rattle.odb_script.specs.Print.{printed_at, line_of}

append-nil : (xs : List ℕ) → xs ++ [] ≡ xs
append-nil [] = refl
append-nil (x ∷ xs) = ap (λ ys. x ∷ ys) (append-nil xs)

pub printed_at-nothing : (outcomes : List Outcome) (before : List ℕ) → before ≡ before ++ printed_at outcomes []
unfolding printed_at
printed_at-nothing outcomes before = sym (append-nil before)

pub printed_at-more : (outcomes : List Outcome) (places before now next : List ℕ) (i : ℕ) → i < length places → now ≡ before ++ printed_at outcomes (take i places)
    → next ≡ now ++ line_of (slice_get outcomes (get_or places i 0)) → next ≡ before ++ printed_at outcomes (take (i + 1) places)
unfolding printed_at
printed_at-more outcomes places before now next i within so_far added =
    added ∙ ap (λ n. n ++ line_of (slice_get outcomes (get_or places i 0))) so_far
    ∙ flat_map_more (λ place. line_of (slice_get outcomes place)) before (take i places) (get_or places i 0)
    ∙ ap (λ ps. before ++ flat_map (λ place. line_of (slice_get outcomes place)) ps) (sym (take_more places i 0 within))
