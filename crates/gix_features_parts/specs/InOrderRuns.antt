-- What an iterator in order gives when it is run to its end: of items that come with numbers and what ends them, and of all
-- items of a list, in any order.
use Rattle.std.specs.Prelude.{◌≡◌, ◌≢◌, ℕ, ◌<◌, List, [], ◌∷◌, ◌++◌, length, map, Option, Some, None, Result, Ok, Err, IsSome, slice_get}
use Rattle.std.specs.Iterator.{YieldsThen}
use Rattle.gix_features_parts.specs.InOrder.{item_numbered, EachOnce}
use Rattle.gix_features_parts.specs.declared.parallel.in_order.InOrderError.{InOrderError}
use Rattle.gix_features_parts.specs.declared.parallel.in_order.InOrderError.TheVariants.{Inner, OutOfSequence, NoMemory}

-- the items by their numbers, from 0 up to the first number that didn't come
pub record AreInTurn {T : Type 0} (pairs : List (ℕ × T)) (items : List T) : Type 0 where
  pub each : (number : ℕ) → number < length items → slice_get items number ≡ item_numbered number pairs
  pub gap : item_numbered (length items) pairs ≡ None

-- What follows the items in turn, by the answer that the inner iterator gave after these.
pub data IsLast {T E : Type 0} (pairs : List (ℕ × T)) (next : ℕ) : Option (Result (ℕ × T) E) → List (Result T (InOrderError E)) → Type 0 where
  -- nothing after the inner end
  Ends : IsLast pairs next None []
  -- an error of the inner iterator
  Fails : {error : E} → IsLast pairs next (Some (Err error)) (Err (Inner error) ∷ [])
  -- a number that came before
  Again : {number : ℕ} {item : T} → IsSome (item_numbered number pairs)
      → IsLast pairs next (Some (Ok (number, item))) (Err (OutOfSequence number next) ∷ [])
  -- out of memory for an item that came for the first time, and before its turn
  NoRoom : {number : ℕ} {item : T} → item_numbered number pairs ≡ None → number ≢ next
      → IsLast pairs next (Some (Ok (number, item))) (Err NoMemory ∷ [])

-- The inner iterator gave items, none of whose numbers came twice, and then this answer. The results are the items in turn,
-- and what follows them for the answer.
pub record GivesInTurn {S T E : Type 0} (steps : S → Option (Result (ℕ × T) E) → S → Type 0) (began : S)
    (results : List (Result T (InOrderError E))) : Type 0 where
  pub pairs : List (ℕ × T)
  pub answer : Option (Result (ℕ × T) E)
  pub ended : S
  pub answers : YieldsThen steps began (map Ok pairs) answer ended
  pub once : EachOnce pairs
  pub items : List T
  pub in_turn : AreInTurn pairs items
  pub behind : List (Result T (InOrderError E))
  pub last : IsLast pairs (length items) answer behind
  pub given : results ≡ map Ok items ++ behind

-- the items come with their places as numbers, each once, in any order; no other number comes
pub record ArriveOnce {T : Type 0} (items : List T) (pairs : List (ℕ × T)) : Type 0 where
  pub found : (number : ℕ) → item_numbered number pairs ≡ slice_get items number
  pub once : EachOnce pairs

-- the items in order; running out of memory may end them early
abbrev pub GivesItems : {T E : Type 0} → List T → List (Result T (InOrderError E)) → Type 0
GivesItems items [] = items ≡ []
GivesItems {T} items (Ok item ∷ results) = (rest : List T) × (items ≡ item ∷ rest) × GivesItems rest results
GivesItems items (Err error ∷ results) = (error ≡ NoMemory) × (results ≡ [])
