-- Items of an iterator, cut into chunks of one size.
use Rattle.std.specs.Prelude.{◌≡◌, ℕ, ◌+◌, ◌<◌, ◌≤◌, Bool, true, false, List, length, Option, Some, None, Result, Ok, Err}
use Rattle.std.specs.Iterator.{Count, IsFinite, size, Yields, YieldsThen}
use Rattle.odb_base.specs.declared.no_memory.NoMemory.{NoMemory}

-- an iterator by its steps, and chunks by the items in them
module _ {S A V : Type 0} (steps : S → Option A → S → Type 0) (items : V → List A) (most : ℕ) where
  -- The next chunk, and whether it is the last answer that the inner iterator is asked for.
  pub data Cuts : S → Bool → Option (Result V NoMemory) → S → Bool → Type 0 where
    -- there is none after the end
    Over : {s : S} → Cuts s true None s true
    -- the next items, as many as a chunk has
    Full : {s t : S} {chunk : V} → length (items chunk) ≡ most → Yields steps s (items chunk) t → Cuts s false (Some (Ok chunk)) t false
    -- the last items, fewer than a chunk has
    Last : {s t : S} {chunk : V} → 0 < length (items chunk) → length (items chunk) < most → YieldsThen steps s (items chunk) None t
        → Cuts s false (Some (Ok chunk)) t true
    -- no items are left
    Nothing : {s t : S} → steps s None t → Cuts s false None t true
    -- out of memory for the items that came
    Lost : {s t : S} {failed : NoMemory} (lost : List A) → 0 < length lost → length lost ≤ most → Yields steps s lost t
        → Cuts s false (Some (Err failed)) t true

-- no fewer items were left than these
abbrev pub LeavesAtMost : {S A : Type 0} → (S → Count) → S → List A → Type 0
LeavesAtMost left s xs = IsFinite (left s) → length xs ≤ size (left s)

-- an iterator that was asked for items, may be asked again, and has so many fewer left
pub record Runs {S A : Type 0} (can : S → Type 0) (steps : S → Option A → S → Type 0) (left : S → Count) (s : S) (xs : List A) (t : S) : Type 0 where
  pub yields : Yields steps s xs t
  pub can_go_on : can t
  pub fewer : IsFinite (left s) → IsFinite (left t) × (size (left t) + length xs ≤ size (left s))
