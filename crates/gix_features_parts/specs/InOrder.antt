-- Items that come in any order, given by their numbers: what one call gives.
use Rattle.std.specs.Prelude.{◌≡◌, ◌≢◌, ℕ, ◌+◌, ◌-◌, ◌^◌, ◌<◌, ◌==◌, ◌⊎◌, min, map, Bool, true, false, List, [], ◌∷◌, Option, Some, None, Result, Ok, Err, IsSome, if◌then◌else◌}
use Rattle.std.specs.Map.{lookup}
use Rattle.std.specs.Option.{option_or}
use Rattle.std.specs.Iterator.{YieldsThen}
use Rattle.gix_features_parts.specs.declared.parallel.in_order.InOrderError.{InOrderError}
use Rattle.gix_features_parts.specs.declared.parallel.in_order.InOrderError.TheVariants.{Inner, OutOfSequence, NoMemory}

-- the greatest number that an item can have
abbrev pub greatest_number : ℕ
greatest_number = 2 ^ 64 - 1

-- the first item with a number
abbrev pub item_numbered : {T : Type 0} → ℕ → List (ℕ × T) → Option T
item_numbered number pairs = lookup (λ k. k == number) pairs

-- no number comes twice
abbrev pub EachOnce : {T : Type 0} → List (ℕ × T) → Type 0
EachOnce [] = Unit {0}
EachOnce (pair ∷ pairs) = (item_numbered pair.0 pairs ≡ None) × EachOnce pairs

-- which items wait for their turn, by their numbers
abbrev pub Waiting : Type 0 → Type 0
Waiting T = ℕ → Option T

-- only the item with this number differs, and is this one, or none
abbrev pub Changes : {T : Type 0} → Waiting T → ℕ → Option T → Waiting T → Type 0
Changes before number item after = (k : ℕ) → after k ≡ (if number == k then item else before k)

-- an item with this number came before: it had its turn, or it waits
abbrev pub CameBefore : {T : Type 0} → ℕ → Waiting T → ℕ → Type 0
CameBefore next waiting number = (number < next) ⊎ IsSome (waiting number)

-- these items come before their turn, each for the first time
pub record AreEarly {T : Type 0} (next : ℕ) (waiting : Waiting T) (pairs : List (ℕ × T)) : Type 0 where
  pub once : EachOnce pairs
  pub early : (number : ℕ) → IsSome (item_numbered number pairs) → (next < number) × (waiting number ≡ None)

-- these items wait, in addition to those that waited
abbrev pub WaitToo : {T : Type 0} → List (ℕ × T) → Waiting T → Waiting T → Type 0
WaitToo pairs before after = (number : ℕ) → after number ≡ option_or (item_numbered number pairs) (before number)

-- a number had its turn, and the next has it now; after the greatest number nothing more is given
pub record PassesTurn (number next : ℕ) (is_over : Bool) : Type 0 where
  pub passed : next ≡ min (number + 1) greatest_number
  pub last : is_over ≡ (number == greatest_number)

-- the state of an iterator in order: the inner iterator, the number whose turn it is, what waits, and whether nothing more
-- is given
pub record At (S T : Type 0) : Type 0 where
  pub inner : S
  pub next : ℕ
  pub waiting : Waiting T
  pub is_over : Bool

-- nothing has come yet
pub record IsBegun {S T : Type 0} (at : At S T) : Type 0 where
  pub first : at.next ≡ 0
  pub none : (k : ℕ) → at.waiting k ≡ None
  pub going : at.is_over ≡ false

-- an item that waits has its turn, and is given without asking the inner iterator
pub record Releases {S T : Type 0} (before : At S T) (item : T) (after : At S T) : Type 0 where
  pub waited : before.waiting before.next ≡ Some item
  pub rest : Changes before.waiting before.next None after.waiting
  pub unasked : after.inner ≡ before.inner
  pub passes : PassesTurn before.next after.next after.is_over

-- nothing more is given, with this number's turn still to come
abbrev pub Stops : {S T : Type 0} → ℕ → At S T → Type 0
Stops next after = (after.next ≡ next) × (after.is_over ≡ true)

-- What is given for an answer of the inner iterator, by the number whose turn it is and by what waits then.
pub data IsGivenFor {S T E : Type 0} (next : ℕ) (after : At S T) : Option (Result (ℕ × T) E) → Option (Result T (InOrderError E)) → Type 0 where
  -- an item in its turn is given
  InTurn : {number : ℕ} {item : T} → number ≡ next → PassesTurn next after.next after.is_over
      → IsGivenFor next after (Some (Ok (number, item))) (Some (Ok item))
  -- a number that came before is out of sequence
  Again : {number : ℕ} {item : T} → CameBefore next after.waiting number → Stops next after
      → IsGivenFor next after (Some (Ok (number, item))) (Some (Err (OutOfSequence number next)))
  -- memory may run out for an item before its turn that comes for the first time
  NoRoom : {number : ℕ} {item : T} → number ≢ next → ¬ CameBefore next after.waiting number → Stops next after
      → IsGivenFor next after (Some (Ok (number, item))) (Some (Err NoMemory))
  -- an error is passed on
  Fails : {error : E} → Stops next after → IsGivenFor next after (Some (Err error)) (Some (Err (Inner error)))
  -- the end is the end, since nothing that waits has its turn
  Ends : Stops next after → IsGivenFor next after None None

-- an inner iterator by its steps
module _ {S T E : Type 0} (steps : S → Option (Result (ℕ × T) E) → S → Type 0) where
  -- The item whose turn it is doesn't wait. The inner iterator gives items before their turn, which wait, and then this
  -- answer.
  pub record Asks (before : At S T) (pairs : List (ℕ × T)) (answer : Option (Result (ℕ × T) E)) (after : At S T) : Type 0 where
    pub gap : before.waiting before.next ≡ None
    pub early : AreEarly before.next before.waiting pairs
    pub answers : YieldsThen steps before.inner (map Ok pairs) answer after.inner
    pub wait : WaitToo pairs before.waiting after.waiting

  -- what is given when the inner iterator is asked
  abbrev pub Comes : At S T → Option (Result T (InOrderError E)) → At S T → Type 0
  Comes before result after = (pairs : List (ℕ × T)) × (answer : Option (Result (ℕ × T) E)) × Asks before pairs answer after
      × IsGivenFor before.next after answer result

  -- What one call gives.
  pub data GivesInOrder : At S T → Option (Result T (InOrderError E)) → At S T → Type 0 where
    Over : {at : At S T} → at.is_over ≡ true → GivesInOrder at None at
    Waited : {before after : At S T} {item : T} → before.is_over ≡ false → Releases before item after → GivesInOrder before (Some (Ok item)) after
    Came : {before after : At S T} {result : Option (Result T (InOrderError E))} → before.is_over ≡ false → Comes before result after
        → GivesInOrder before result after
