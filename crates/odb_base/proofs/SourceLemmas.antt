-- What was read from a source so far, and what was written to a sink so far.
use Rattle.std.proofs.Common.{◌≡◌, ℕ, ◌+◌, ◌<◌, ◌≤◌, List, [], ◌++◌, length, take, drop, append-nil, append_assoc, Option}
use Rattle.std.proofs.Common.{Some, None, Result, Ok, Err, refl, sym, ap, ◌∙◌, subst, arith, take-append-drop}
use Rattle.std.proofs.Math.Seq.{take-append_seam}
use Rattle.std.specs.Result.{OnErr}
use Rattle.odb_base.specs.declared.source.Failed.{Failed}
use Rattle.odb_base.specs.Source.{Reads, Takes, Writes, Adds, ReadsFile, piece_length}

-- what was left is what was read so far, and what is left now
abbrev pub ReadsSoFar : Option (List ℕ) → Option (List ℕ) → List ℕ → Type 0
ReadsSoFar None now text = Unit {0}
ReadsSoFar (Some left) now text = (rest : List ℕ) × (left ≡ text ++ rest) × (now ≡ Some rest)

pub ReadsSoFar-nothing : (left : Option (List ℕ)) → ReadsSoFar left left []
ReadsSoFar-nothing None = tt
ReadsSoFar-nothing (Some left) = (left, refl, refl)

takes-of : (rest : List ℕ) (next : Option (List ℕ)) (buffer : List ℕ) (n : ℕ) → Reads (Some rest) next buffer (Ok n) → (after : List ℕ) × (next ≡ Some after) × Takes rest after buffer n
takes-of rest None buffer n reads = absurd reads
takes-of rest (Some after) buffer n reads = (after, refl, reads)

pub ReadsSoFar-more : (left now next : Option (List ℕ)) (text buffer : List ℕ) (n : ℕ) → ReadsSoFar left now text → Reads now next buffer (Ok n) → ReadsSoFar left next (text ++ take n buffer)
ReadsSoFar-more None now next text buffer n so_far reads = tt
ReadsSoFar-more (Some left) now next text buffer n so_far reads =
    let P : Option (List ℕ) → Type 0 = λ o. Reads o next buffer (Ok n) in
    let taken = takes-of so_far.0 next buffer n (subst P so_far.2 reads) in
    let t = taken.2 in
    let parts = sym (take-append-drop n so_far.0) ∙ ap (λ f. f ++ drop n so_far.0) (sym t.front) ∙ ap (λ r. take n buffer ++ r) (sym t.rest_is) in
    (taken.0, so_far.1 ∙ ap (λ r. text ++ r) parts ∙ sym (append_assoc text (take n buffer) taken.0), taken.1)

-- a read of nothing is the end
pub ReadsFile-at_end : (limit : ℕ) (left now next : Option (List ℕ)) (text buffer : List ℕ) → 0 < length buffer → length text ≤ limit
    → ReadsSoFar left now text → Reads now next buffer (Ok 0) → ReadsFile limit left next text
ReadsFile-at_end limit None now next text buffer some fits so_far reads = omega arith
ReadsFile-at_end limit (Some left) now next text buffer some fits so_far reads =
    let P : Option (List ℕ) → Type 0 = λ o. Reads o next buffer (Ok 0) in
    let taken = takes-of so_far.0 next buffer 0 (subst P so_far.2 reads) in
    let t = taken.2 in
    let none : so_far.0 ≡ [] = t.at_end refl some in
    let rest_none : taken.0 ≡ [] = t.rest_is ∙ ap (drop 0) none in
    (taken.0, so_far.1 ∙ ap (λ r. text ++ r) (none ∙ sym rest_none), taken.1, λ short. rest_none, omega arith)

-- more was read than the limit
pub ReadsFile-too_long : (limit : ℕ) (left now : Option (List ℕ)) (text : List ℕ) → limit < length text → length text ≤ limit + piece_length → ReadsSoFar left now text → ReadsFile limit left now text
ReadsFile-too_long limit None now text long bound so_far = bound
ReadsFile-too_long limit (Some left) now text long bound so_far = (so_far.0, so_far.1, so_far.2, λ short. absurd (omega arith), bound)

-- ---- what was written

-- a prefix of the bytes was written, and the rest is still to come
pub record Written (before now : Option (List ℕ)) (bytes rest : List ℕ) : Type 0 where
  pub front : List ℕ
  pub whole : front ++ rest ≡ bytes
  pub added : Adds before now front

Adds-nothing : (held : Option (List ℕ)) → Adds held held []
Adds-nothing None = refl
Adds-nothing (Some held) = ap Some (sym (append-nil held))

pub Written-nothing : (held : Option (List ℕ)) (bytes : List ℕ) → Written held held bytes bytes
Written-nothing held bytes = record { front = []; whole = refl; added = Adds-nothing held }

-- a write that follows
Adds-more : (before now next : Option (List ℕ)) (front rest : List ℕ) (n : ℕ) → Adds before now front → Writes now next rest (Ok n) → Adds before next (front ++ take n rest)
Adds-more None now next front rest n added writes =
    let P : Option (List ℕ) → Type 0 = λ o. Writes o next rest (Ok n) in subst P added writes
Adds-more (Some held) now next front rest n added writes =
    let P : Option (List ℕ) → Type 0 = λ o. Writes o next rest (Ok n) in
    subst P added writes ∙ ap Some (append_assoc held front (take n rest))

Adds-failed : (before now next : Option (List ℕ)) (front rest : List ℕ) (e : Failed) → Adds before now front → Writes now next rest (Err e) → Adds before next front
Adds-failed None now next front rest e added writes =
    let P : Option (List ℕ) → Type 0 = λ o. Writes o next rest (Err e) in subst P added writes
Adds-failed (Some held) now next front rest e added writes =
    let P : Option (List ℕ) → Type 0 = λ o. Writes o next rest (Err e) in subst P added writes

pub Written-more : (before now next : Option (List ℕ)) (bytes rest : List ℕ) (n : ℕ) → Written before now bytes rest → Writes now next rest (Ok n) → Written before next bytes (drop n rest)
Written-more before now next bytes rest n w writes =
    record {
      front = w.front ++ take n rest;
      whole = append_assoc w.front (take n rest) (drop n rest) ∙ ap (λ r. w.front ++ r) (take-append-drop n rest) ∙ w.whole;
      added = Adds-more before now next w.front rest n w.added writes;
    }

-- all was written if nothing is still to come
pub Adds-all : (before now : Option (List ℕ)) (bytes rest : List ℕ) → rest ≡ [] → Written before now bytes rest → Adds before now bytes
Adds-all before now bytes rest none w =
    let P : List ℕ → Type 0 = λ b. Adds before now b in
    subst P (sym (append-nil w.front) ∙ ap (λ r. w.front ++ r) (sym none) ∙ w.whole) w.added

-- a write that failed leaves a prefix
pub Adds-front : (before now next : Option (List ℕ)) (bytes rest : List ℕ) (e : Failed) → Written before now bytes rest
    → Writes now next rest (Err e) → (count : ℕ) × Adds before next (take count bytes)
Adds-front before now next bytes rest e w writes =
    let P : List ℕ → Type 0 = λ b. Adds before next b in
    (length w.front, subst P (sym (take-append_seam w.front rest) ∙ ap (take (length w.front)) w.whole) (Adds-failed before now next w.front rest e w.added writes))

-- what always holds, holds of an error
pub OnErr-always : {T E P : Type 0} (r : Result T E) → P → OnErr r P
OnErr-always (Ok x) p = tt
OnErr-always (Err e) p = p
