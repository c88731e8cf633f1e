-- The result of a reducer that is fed outputs, and the answer of a parallel call.
use Rattle.std.specs.Prelude.{◌≡◌, ℕ, ◌<◌, ◌≤◌, Bool, if◌then◌else◌, List, [], ◌∷◌, ◌++◌, Option, Some, None, Result, Ok, Err, ⊤}
use Rattle.gix_features_workers.specs.declared.calls.ParallelError.{ParallelError}
use Rattle.gix_features_workers.specs.declared.calls.ParallelError.TheVariants.{Reduce, NoMemory}

-- what a reducer gives for a value that it is fed, and its result at the end
module _ {R O P A E : Type 0} (feeds : R → O → Result P E → R → Type 0) (comes_to : R → Result A E → Type 0) where
  -- A reducer is fed outputs one after another, and has a result: the first error ends it.
  pub data Reduces : R → List O → Result A E → Type 0 where
    Ends : {r : R} {answer : Result A E} → comes_to r answer → Reduces r [] answer
    Feeds : {r s : R} {o : O} {os : List O} {given : P} {answer : Result A E} → feeds r o (Ok given) s → Reduces s os answer → Reduces r (o ∷ os) answer
    Fails : {r s : R} {o : O} {os : List O} {error : E} → feeds r o (Err error) s → Reduces r (o ∷ os) (Err error)

-- an answer other than out of memory
abbrev pub IfReduced : {A E : Type 0} → Result A (ParallelError E) → (Result A E → Type 0) → Type 0
IfReduced (Ok value) P = P (Ok value)
IfReduced (Err (Reduce error)) P = P (Err error)
IfReduced (Err NoMemory) P = ⊤

-- the answer to a value that is fed
abbrev pub answer_of : {P E : Type 0} → Result P E → Result P (ParallelError E)
answer_of (Ok given) = Ok given
answer_of (Err error) = Err (Reduce error)

-- a reducer is fed the next of the outputs that are left, if there is one
module _ {R O P E : Type 0} (feeds : R → O → Result P E → R → Type 0) where
  pub data IsStep : R → List O → Option (Result P (ParallelError E)) → R → List O → Type 0 where
    Done : {r : R} → IsStep r [] None r []
    Fed : {r s : R} {o : O} {os : List O} {given : Result P E} → feeds r o given s → IsStep r (o ∷ os) (Some (answer_of given)) s os

abbrev pub want_of_memory : {E : Type 0} → ParallelError E
want_of_memory = NoMemory

-- items that an iterator gives, outputs that workers make of them, and the result of a reducer that is fed the outputs in order
pub record IsAnswer {T O L A : Type 0} (gives : List T → Type 0) (works : List T → List O → List L → Type 0) (reduces : List O → A → Type 0) (answer : A) : Type 0 where
  pub items : List T
  pub outputs : List O
  pub lasts : List L
  pub given : gives items
  pub worked : works items outputs lasts
  pub reduced : reduces outputs answer

-- the answer if each worker's result at the end is fed too, in the order of the workers
pub record IsFinalAnswer {T O A : Type 0} (gives : List T → Type 0) (works : List T → List O → List O → Type 0) (reduces : List O → A → Type 0) (answer : A) : Type 0 where
  pub items : List T
  pub outputs : List O
  pub lasts : List O
  pub given : gives items
  pub worked : works items outputs lasts
  pub reduced : reduces (outputs ++ lasts) answer

-- the number of workers, if a condition is asked when there may be more than one
pub record IsChosen (answers : Bool → Type 0) (most chosen : ℕ) : Type 0 where
  pub one : most ≤ 1 → chosen ≡ 1
  pub asked : 1 < most → (yes : Bool) × answers yes × (chosen ≡ (if yes then most else 1))
