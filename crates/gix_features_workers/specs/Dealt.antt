-- Items that are dealt to workers in turn, and outputs that are merged in turn. No clause of a public call cites this.
use Rattle.std.specs.Prelude.{◌≡◌, ℕ, ◌+◌, ◌-◌, ◌<◌, ◌==◌, nat_lt, List, [], ◌++◌, length, map, slice_index_or, if◌then◌else◌, Result, Ok, IfOk}
use Rattle.std.specs.declared.vec.IntoIter.{IntoIter}
use Rattle.std.specs.Vec.Iter.{into_iter_items}
use Rattle.odb_base.specs.declared.no_memory.NoMemory.{NoMemory}
use Rattle.gix_features_workers.specs.declared.deal.Job.{Job}
use Rattle.gix_features_workers.specs.declared.work.Worked.{Worked}
use Rattle.gix_features_workers.specs.Workers.{share, IsWorked}

-- whose turn it is after a worker's
abbrev pub turn_after : ℕ → ℕ → ℕ
turn_after n turn = if turn + 1 == n then 0 else (turn + 1)

-- how many others have their turn before worker k
abbrev pub turns_before : ℕ → ℕ → ℕ → ℕ
turns_before n turn k = if nat_lt k turn then ((k + n) - turn) else (k - turn)

-- n workers without items
pub record HaveNone {T : Type 0} (n : ℕ) (jobs : List (Job T)) : Type 0 where
  pub workers : length jobs ≡ n
  pub each : (k : ℕ) (d : Job T) → k < n → ((slice_index_or jobs k d).worker ≡ k) × ((slice_index_or jobs k d).items.items ≡ [])

-- n workers that have their shares of the items so far, at the turn of a worker
pub record AreDealing {T : Type 0} (n turn : ℕ) (given : List T) (jobs : List (Job T)) : Type 0 where
  pub in_turn : turn < n
  pub workers : length jobs ≡ n
  pub each : (k : ℕ) (d : Job T) → k < n → ((slice_index_or jobs k d).worker ≡ k)
      × ((rest : List T) → share n k (given ++ rest) ≡ (slice_index_or jobs k d).items.items ++ share n (turns_before n turn k) rest)

-- n workers, each with its share of the items
pub record AreDealt {T : Type 0} (n : ℕ) (items : List T) (jobs : List (Job T)) : Type 0 where
  pub workers : length jobs ≡ n
  pub each : (k : ℕ) (d : Job T) → k < n → ((slice_index_or jobs k d).worker ≡ k) × ((slice_index_or jobs k d).items.items ≡ share n k items)

-- the result of each job, if there was memory for it
pub record AreDone {S T O L : Type 0} (begins : ℕ → S → Type 0) (consumes : S → T → O → S → Type 0) (ends : S → L → Type 0) (jobs : List (Job T)) (results : List (Result (Worked O L) NoMemory)) : Type 0 where
  pub workers : length results ≡ length jobs
  pub each : (k : ℕ) (d : Result (Worked O L) NoMemory) (j : Job T) → k < length jobs
      → IfOk (slice_index_or results k d) (λ w. IsWorked begins consumes ends (slice_index_or jobs k j).worker (slice_index_or jobs k j).items.items w.outputs.items w.last)

-- results that are all there, in their parts
pub record AreGathered {O L A : Type 0} (results : List (Result (Worked O L) NoMemory)) (streams : List (IntoIter O A)) (lasts : List L) : Type 0 where
  pub worked : List (Worked O L)
  pub are_there : results ≡ map Ok worked
  pub outputs : map into_iter_items streams ≡ map (λ (w : Worked O L). w.outputs.items) worked
  pub last_states : lasts ≡ map (λ (w : Worked O L). w.last) worked

-- n streams with their shares of the outputs that are left, at the turn of a worker
pub record AreShares {O A : Type 0} (n turn : ℕ) (left : List O) (streams : List (IntoIter O A)) : Type 0 where
  pub in_turn : turn < n
  pub workers : length streams ≡ n
  pub each : (k : ℕ) (d : IntoIter O A) → k < n → into_iter_items (slice_index_or streams k d) ≡ share n (turns_before n turn k) left
