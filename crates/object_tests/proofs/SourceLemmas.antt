-- What was read from a source so far.
use Rattle.std.proofs.Common.{◌≡◌, ℕ, ◌<◌, List, [], ◌++◌, length, take, drop, refl, sym, ap, ◌∙◌, subst, Option, Some, None, IfSome, Ok, append_assoc}
use Rattle.std.proofs.lemmas.List.{append-nil, take-append-drop}
use Rattle.std.proofs.Math.Seq.{drop-append_seam}
use Rattle.odb_mem_disk.specs.Source.{Reads, Takes as takes_once}
use Rattle.gix_object.specs.Stream.{Takes}

-- what was left is what was read so far, and what is left now
abbrev pub ReadSoFar : Option (List ℕ) → Option (List ℕ) → List ℕ → Type 0
ReadSoFar None now bytes = now ≡ None
ReadSoFar (Some left) now bytes = (rest : List ℕ) × (left ≡ bytes ++ rest) × (now ≡ Some rest)

taken_of : (rest : List ℕ) (next : Option (List ℕ)) (buffer : List ℕ) (n : ℕ) → Reads (Some rest) next buffer (Ok n) → (after : List ℕ) × (next ≡ Some after) × takes_once rest after buffer n
taken_of rest None buffer n reads = absurd reads
taken_of rest (Some after) buffer n reads = (after, refl, reads)

-- one more read
pub ReadSoFar-more : (left now next : Option (List ℕ)) (bytes buffer : List ℕ) (n : ℕ) → ReadSoFar left now bytes → Reads now next buffer (Ok n) → ReadSoFar left next (bytes ++ take n buffer)
ReadSoFar-more None now next bytes buffer n so_far reads =
    let P : Option (List ℕ) → Type 0 = λ o. Reads o next buffer (Ok n) in subst P so_far reads
ReadSoFar-more (Some left) now next bytes buffer n so_far reads =
    let P : Option (List ℕ) → Type 0 = λ o. Reads o next buffer (Ok n) in
    let taken = taken_of so_far.0 next buffer n (subst P so_far.2 reads) in
    let t = taken.2 in (
      taken.0,
      so_far.1 ∙ ap (λ r. bytes ++ r) (sym (take-append-drop n so_far.0) ∙ ap (λ f. f ++ drop n so_far.0) (sym t.front) ∙ ap (λ r. take n buffer ++ r) (sym t.rest_is))
          ∙ sym (append_assoc bytes (take n buffer) taken.0),
      taken.1,
    )

-- what was read came from the front
pub Takes-ReadSoFar : (left now : Option (List ℕ)) (bytes : List ℕ) → ReadSoFar left now bytes → Takes left now
Takes-ReadSoFar None now bytes so_far = so_far
Takes-ReadSoFar (Some left) now bytes so_far =
    (length bytes, so_far.2 ∙ ap Some (sym (ap (drop (length bytes)) so_far.1 ∙ drop-append_seam bytes so_far.0)))

-- a read of nothing is the end
pub at_end : (left now next : Option (List ℕ)) (bytes buffer : List ℕ) → 0 < length buffer → ReadSoFar left now bytes → Reads now next buffer (Ok 0)
    → IfSome left (λ all. (all ≡ bytes) × (next ≡ Some []))
at_end None now next bytes buffer some so_far reads = tt
at_end (Some left) now next bytes buffer some so_far reads =
    let P : Option (List ℕ) → Type 0 = λ o. Reads o next buffer (Ok 0) in
    let taken = taken_of so_far.0 next buffer 0 (subst P so_far.2 reads) in
    let t = taken.2 in
    let none : so_far.0 ≡ [] = t.at_end refl some in
    (so_far.1 ∙ ap (λ r. bytes ++ r) none ∙ append-nil bytes, taken.1 ∙ ap Some (t.rest_is ∙ ap (drop 0) none))
