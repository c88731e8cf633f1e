-- What a worker sends of an iterator's items.
use Rattle.std.specs.Prelude.{◌≡◌, true, false, Bool, List, [], ◌∷◌, ◌++◌, map, Option, None, ⊤}
use Rattle.std.specs.Iterator.{Yields}
use Rattle.std.specs.declared.alloc.Global.{Global}
use Rattle.std.specs.declared.vec.Vec.{Vec}
use Rattle.std.specs.declared.snapshot.Snapshot.{Snapshot}
use Rattle.gix_features_channel.specs.declared.messages.Message.{Message}
use Rattle.gix_features_channel.specs.declared.messages.Message.TheVariants.{Begun, Chunk, Whole}

-- the items of chunks, one after another
abbrev pub items_in : {T A : Type 0} → List (Vec T A) → List T
items_in [] = []
items_in (chunk ∷ chunks) = chunk.items ++ items_in chunks

-- These are the items that were taken, by messages, from an iterator that was so at first.
pub record AreTaken {I T : Type 0} (first : I) (taken : List (Message I T)) (items : List T) : Type 0 where
  pub start : Snapshot I
  pub chunks : List (Vec T Global)
  pub messages : taken ≡ Begun start ∷ map Chunk chunks
  pub from_first : start.value ≡ first
  pub in_chunks : items ≡ items_in chunks

-- The first of these messages has the iterator as it was.
pub record HaveBegun {I T : Type 0} (taken : List (Message I T)) : Type 0 where
  pub start : Snapshot I
  pub rest : List (Message I T)
  pub begun : taken ≡ Begun start ∷ rest

-- an iterator by its steps
module _ {I T : Type 0} (steps : I → Option T → I → Type 0) where
  -- Messages lead an iterator from one state to another: its items in chunks, and at last that there are no more.
  abbrev pub Tells : I → List (Message I T) → I → Type 0
  Tells s [] t = s ≡ t
  Tells s (Begun start ∷ messages) t = ⊥
  Tells s (Chunk chunk ∷ messages) t = (j : I) × Yields steps s chunk.items j × Tells j messages t
  Tells s (Whole ∷ messages) t = (messages ≡ []) × (j : I) × steps s None j

  -- The first message has the iterator as it was before its first item was drawn; those after it say what it gave.
  abbrev pub IsTold : List (Message I T) → Type 0
  IsTold [] = ⊤
  IsTold (Begun start ∷ messages) = (t : I) × Tells start.value messages t
  IsTold (Chunk chunk ∷ messages) = ⊥
  IsTold (Whole ∷ messages) = ⊥

  -- what was sent of an iterator that may have more items: the iterator as it was, and its items in chunks, up to a state
  pub record IsSent (sent : List (Message I T)) (at : I) : Type 0 where
    pub start : Snapshot I
    pub chunks : List (Vec T Global)
    pub messages : sent ≡ Begun start ∷ map Chunk chunks
    pub tells : Tells start.value (map Chunk chunks) at
