-- What an iterator has given whose items are drawn ahead.
use Rattle.std.specs.Prelude.{◌≡◌, true, false, Bool, List, [], ◌∷◌, ◌++◌, Option, Some, None, Result, Ok, Err, IfSome, ⊤}
use Rattle.std.specs.Iterator.{Count, at_most, Yields, Drains}
use Rattle.std.specs.Vec.Iter.{into_iter_items}
use Rattle.odb_base.specs.declared.no_memory.NoMemory.{NoMemory}
use Rattle.gix_features_channel.specs.declared.source.Source.{Source}
use Rattle.gix_features_channel.specs.declared.source.Source.TheVariants.{Elsewhere, Here, Ended}
use Rattle.gix_features_channel.specs.declared.iter.EagerIter.{EagerIter}
use Rattle.gix_features_channel.specs.declared.choice.EagerIterIf.{EagerIterIf}
use Rattle.gix_features_channel.specs.declared.choice.EagerIterIf.TheVariants.{Eager, OnDemand}
use Rattle.gix_features_channel.specs.Messages.{AreTaken}
use Rattle.gix_features_channel.specs.Taking.{MayTake, taken_of}

-- items may be drawn if the iterator in this state may be asked
abbrev pub MayDraw : {I T : Type 0} → (I → Type 0) → Source I T → Type 0
MayDraw can (Elsewhere worker) = MayTake worker
MayDraw can (Here iter) = can iter
MayDraw can Ended = ⊤

abbrev pub IsReady : {I H T : Type 0} → (I → Type 0) → EagerIter I H T → Type 0
IsReady can eager = MayDraw can eager.source

-- There are no more items: none is left of a chunk, and none is drawn any more.
abbrev pub IsOver : {I H T : Type 0} → EagerIter I H T → Type 0
IsOver eager = (eager.source ≡ Ended) × (into_iter_items eager.at_hand ≡ [])

-- whether nothing follows an answer: it is the end, or out of memory
abbrev pub is_last : {T : Type 0} → Option (Result T NoMemory) → Bool
is_last None = true
is_last (Some (Ok item)) = false
is_last (Some (Err failed)) = true

-- whether an answer is out of memory
abbrev pub is_want : {T : Type 0} → Option (Result T NoMemory) → Bool
is_want None = false
is_want (Some (Ok item)) = false
is_want (Some (Err failed)) = true

-- an iterator by its steps
module _ {I T : Type 0} (steps : I → Option T → I → Type 0) where
  -- These items came from an iterator that was so at first: by a worker's messages, or from the iterator here; or they were
  -- all.
  abbrev pub CameOf : I → Source I T → List T → Type 0
  CameOf first (Elsewhere worker) items = AreTaken first (taken_of worker) items
  CameOf first (Here iter) items = Yields steps first items iter
  CameOf first Ended items = Drains steps first items

  pub record Came (first : I) (source : Source I T) (items : List T) : Type 0 where
    pub of : CameOf first source items
    pub drawn : (t : I) × Yields steps first items t

  -- These items were given by an iterator that was so at first, and those left of a chunk are the next.
  abbrev pub HasGiven : {H : Type 0} → I → EagerIter I H T → List T → Type 0
  HasGiven first eager items = Came first eager.source (items ++ into_iter_items eager.at_hand)

  -- What follows these items: the end, if they are all; the next item; or out of memory.
  abbrev pub Follows : {E : Type 0} → I → (E → List T → Type 0) → List T → Option (Result T NoMemory) → E → Type 0
  Follows first Given items None after = Drains steps first items
  Follows first Given items (Some (Ok item)) after = Given after (items ++ item ∷ [])
  Follows first Given items (Some (Err failed)) after = ⊤

  -- the next answer of an iterator whose items are drawn ahead
  abbrev pub GivesNext : {H : Type 0} → EagerIter I H T → Option (Result T NoMemory) → EagerIter I H T → Type 0
  GivesNext before answer after = (first : I) (items : List T) → HasGiven first before items → Follows first (HasGiven first) items answer after

  -- what was given, if it was chosen whether items are drawn ahead
  abbrev pub HasGivenIf : {H : Type 0} → I → EagerIterIf I H T → List T → Type 0
  HasGivenIf first (Eager eager) items = HasGiven first eager items
  HasGivenIf first (OnDemand iter) items = Yields steps first items iter

  abbrev pub GivesNextIf : {H : Type 0} → EagerIterIf I H T → Option (Result T NoMemory) → EagerIterIf I H T → Type 0
  GivesNextIf before answer after = (first : I) (items : List T) → HasGivenIf first before items → Follows first (HasGivenIf first) items answer after

abbrev pub IsReadyIf : {I H T : Type 0} → (I → Type 0) → EagerIterIf I H T → Type 0
IsReadyIf can (Eager eager) = IsReady can eager
IsReadyIf can (OnDemand iter) = can iter

-- There are no more items. What is drawn on demand may not be asked after its end.
abbrev pub IsOverIf : {I H T : Type 0} → EagerIterIf I H T → Type 0
IsOverIf (Eager eager) = IsOver eager
IsOverIf (OnDemand iter) = ⊥

-- whether items are drawn ahead
abbrev pub is_eager : {I H T : Type 0} → EagerIterIf I H T → Bool
is_eager (Eager eager) = true
is_eager (OnDemand iter) = false

-- whether a worker draws the items
abbrev pub has_worker : {I T : Type 0} → Source I T → Bool
has_worker (Elsewhere worker) = true
has_worker (Here iter) = false
has_worker Ended = false

-- how many answers an iterator gives at most
abbrev pub turns_left : {I H T : Type 0} → EagerIter I H T → Count
turns_left eager = at_most eager.turns

abbrev pub turns_left_if : {I H T : Type 0} → (I → Count) → EagerIterIf I H T → Count
turns_left_if left (Eager eager) = turns_left eager
turns_left_if left (OnDemand iter) = left iter

module _ {I H T : Type 0} (can : I → Type 0) (steps : I → Option T → I → Type 0) where
  -- A call of `next`: it may be called again; its answer follows what was given; after the end, and after out of memory,
  -- there is nothing more, and it stays so; and memory runs out only if a worker draws the items.
  pub record Draws (before : EagerIter I H T) (answer : Option (Result T NoMemory)) (after : EagerIter I H T) : Type 0 where
    pub ready : IsReady can after
    pub given : GivesNext steps before answer after
    pub over : is_last answer ≡ true → IsOver after
    pub stays : IsOver before → (answer ≡ None) × IsOver after
    pub want : is_want answer ≡ true → has_worker before.source ≡ true

  -- A call of `next`, if it was chosen whether items are drawn ahead. The choice stays.
  pub record DrawsIf (before : EagerIterIf I H T) (answer : Option (Result T NoMemory)) (after : EagerIterIf I H T) : Type 0 where
    pub ready : IfSome answer (λ _. IsReadyIf can after)
    pub given : GivesNextIf steps before answer after
    pub over : is_last answer ≡ true → is_eager before ≡ true → IsOverIf after
    pub stays : IsOverIf before → (answer ≡ None) × IsOverIf after
    pub want : is_want answer ≡ true → is_eager before ≡ true
    pub choice : is_eager after ≡ is_eager before
