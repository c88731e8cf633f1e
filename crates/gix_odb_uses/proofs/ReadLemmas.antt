-- Reads of the paths of objects by calls built on finds and header look-ups.
use Rattle.std.proofs.Common.{◌≡◌, ℕ, zero, suc, ◌+◌, ◌<◌, List, [], ◌∷◌, ◌++◌, length, take, get_or, Result, inl, inr, refl, sym, subst}
use Rattle.std.proofs.lemmas.List.{take_more}
use Rattle.odb_base.specs.Path.{Path}
use Rattle.odb_disk.specs.declared.ask.DiskAsk.{DiskAsk}
use Rattle.odb_disk.specs.declared.ask.DiskAsk.TheVariants as asks
use Rattle.odb_disk.specs.declared.ask.DiskAnswer.{DiskAnswer}
use Rattle.gix_hash.specs.declared.object_id.ObjectId.{ObjectId}
use Rattle.gix_odb_loose.specs.Answers.{path_in}
use Rattle.gix_odb_loose.specs.Asked.{AsksOnce}
use Rattle.gix_odb_loose.specs.declared.find.Error.{Error}
use Rattle.gix_odb_loose.specs.declared.store.Store.{Store}
use Rattle.gix_odb_uses.specs.Reads.{MayRead, MayReadEach}

module _ {D : Type 0} (answered : D → DiskAsk → DiskAnswer → D → Type 0) where
  -- a call that asks for a read of a path once reads it, or makes no call
  pub may_read : {A : Type 0} (path : Path) (before after : D) (given_by : DiskAnswer → Result A Error) (result : Result A Error) → AsksOnce answered (asks.Read path) before after given_by result
      → MayRead answered path before after
  may_read path before after given_by result asked = elim asked [ inl none ↦ inl none.0 | inr once ↦ inr (once.0, once.1) ]

  module _ (store : Store) where
    -- the path of one more object
    one_more : (ids : List ObjectId) (first now next : D) (id : ObjectId) → MayReadEach answered store ids first now → MayRead answered (path_in store id) now next
        → MayReadEach answered store (ids ++ id ∷ []) first next
    one_more [] first now next id none read = (next, subst (λ (d : D). MayRead answered (path_in store id) d next) (sym none) read, refl)
    one_more (x ∷ ids) first now next id each read = (each.0, each.1, one_more ids each.0 now next id each.2 read)

    pub reads_more : (ids : List ObjectId) (i : ℕ) (d : ObjectId) (first now next : D) → i < length ids → MayReadEach answered store (take i ids) first now
        → MayRead answered (path_in store (get_or ids i d)) now next → MayReadEach answered store (take (i + 1) ids) first next
    reads_more ids i d first now next within each read =
        subst (λ (front : List ObjectId). MayReadEach answered store front first next) (sym (take_more ids i d within)) (one_more (take i ids) first now next (get_or ids i d) each read)

    -- the paths of the others weren't read
    reads_none : (ids : List ObjectId) (first now : D) → first ≡ now → MayReadEach answered store ids first now
    reads_none [] first now none = none
    reads_none (id ∷ ids) first now none = (first, inl refl, reads_none ids first now none)

    pub reads_front : (count : ℕ) (ids : List ObjectId) (first now : D) → MayReadEach answered store (take count ids) first now → MayReadEach answered store ids first now
    reads_front zero ids first now each = reads_none ids first now each
    reads_front (suc count) [] first now each = each
    reads_front (suc count) (id ∷ ids) first now each = (each.0, each.1, reads_front count ids each.0 now each.2)
