-- What workers do to a slice in rounds: each has a run of its items, and a round takes one item of each run.
use Rattle.std.specs.Prelude.{◌≡◌, ℕ, ◌+◌, ◌/◌, ◌%◌, ◌<◌, ◌≤◌, min, List, [], ◌∷◌, ◌++◌, length, take, drop, slice_index_or, slice_set, Option, Some, None, Result, Ok, Err, IfOk, IfErr}
use Rattle.std.specs.Fn.{Shared}
use Rattle.std.specs.List.{AllZip}
use Rattle.std.specs.Borrow.{MutBor}

-- the most items that each of n workers has
abbrev pub run_of : ℕ → ℕ → ℕ
run_of n len = len / n + min 1 (len % n)

-- of the answers of a round, the first error counts
abbrev pub first_of : {E : Type 0} → Result (Unit {0}) E → Result (Unit {0}) E → Result (Unit {0}) E
first_of (Ok done) other = other
first_of (Err error) other = Err error

-- how a worker consumes an item: an item and a state give an answer, and another item and state
module _ {S T E : Type 0} (consumes : T → S → Result (Unit {0}) E → T → S → Type 0) where
  -- A worker's turn in a round takes the item at one place of its run, if there is one.
  pub data Turn (place : ℕ) : S → List T → Result (Unit {0}) E → S → List T → Type 0 where
    Takes : {s t : S} {y : T} {answer : Result (Unit {0}) E} {run : List T} (x : T) → place < length run → slice_index_or run place x ≡ x
        → consumes x s answer y t → Turn place s run answer t (slice_set run place y)
    Idle : {s : S} {run : List T} → length run ≤ place → Turn place s run (Ok tt) s run

  -- A round has a turn of each worker, at the same place of its run.
  pub data Round (size place : ℕ) : List S → List T → Result (Unit {0}) E → List S → List T → Type 0 where
    Over : {items : List T} → Round size place [] items (Ok tt) [] items
    Next : {s t : S} {ss ts : List S} {items mine others : List T} {answer rest : Result (Unit {0}) E}
        → Turn place s (take size items) answer t mine → Round size place ss (drop size items) rest ts others
        → Round size place (s ∷ ss) items (first_of answer rest) (t ∷ ts) (mine ++ others)

  -- There is a round for each place of a run, until one fails or, after a round, work isn't to go on.
  module _ {P : Type 0} (asks : P → Option (Unit {0}) → P → Type 0) where
    pub data Rounds (size : ℕ) : ℕ → P → List S → List T → Result (Unit {0}) E → List S → List T → Type 0 where
      Done : {p : P} {ss : List S} {items : List T} {place : ℕ} → size ≤ place → Rounds size place p ss items (Ok tt) ss items
      Fails : {p : P} {ss ts : List S} {items left : List T} {place : ℕ} {error : E} → place < size
          → Round size place ss items (Err error) ts left → Rounds size place p ss items (Err error) ts left
      Stops : {p q : P} {ss ts : List S} {items left : List T} {place : ℕ} → place < size
          → Round size place ss items (Ok tt) ts left → asks p None q → Rounds size place p ss items (Ok tt) ts left
      Goes : {p q : P} {ss ts us : List S} {items next left : List T} {place : ℕ} {answer : Result (Unit {0}) E} → place < size
          → Round size place ss items (Ok tt) ts next → asks p (Some tt) q → Rounds size (place + 1) q ts next answer us left
          → Rounds size place p ss items answer us left

-- a call with an item and a state may give an answer, and leave another item and another state
pub record ChangesTo {C T S A : Type 0} (g : Shared C (MutBor T × (MutBor S × Unit {0})) (A × (MutBor T × (MutBor S × Unit {0})))) (c : C) (x : T) (s : S) (answer : A) (y : T) (t : S) : Type 0 where
  pub item : MutBor T
  pub state : MutBor S
  pub shows : (item.now ≡ x) × (state.now ≡ s)
  pub item_left : MutBor T
  pub state_left : MutBor S
  pub met : g.post c (item, (state, tt)) (answer, (item_left, (state_left, tt)))
  pub leaves : (item_left.now ≡ y) × (state_left.now ≡ t)

-- the first states of n workers
pub record Begin {S : Type 0} (begins : ℕ → S → Type 0) (n : ℕ) (states : List S) : Type 0 where
  pub workers : length states ≡ n
  pub each : (k : ℕ) (d : S) → k < n → begins k (slice_index_or states k d)

-- What n workers do to a slice in rounds, and how they leave it. If no round failed, the answer has each last state's
-- result.
module _ {S T E P V W : Type 0} (begins : ℕ → S → Type 0) (consumes : T → S → Result (Unit {0}) E → T → S → Type 0) (asks : P → Option (Unit {0}) → P → Type 0) (ends : S → V → Type 0) (listed : W → List V) where
  pub record IsOfRounds (n : ℕ) (p : P) (items left : List T) (answer : Result W E) : Type 0 where
    pub firsts : List S
    pub lasts : List S
    pub outcome : Result (Unit {0}) E
    pub begun : Begin begins n firsts
    pub rounds : Rounds consumes asks (run_of n (length items)) 0 p firsts items outcome lasts left
    pub failed : IfErr answer (λ error. outcome ≡ Err error)
    pub ended : IfOk answer (λ values. (outcome ≡ Ok tt) × AllZip ends lasts (listed values))
