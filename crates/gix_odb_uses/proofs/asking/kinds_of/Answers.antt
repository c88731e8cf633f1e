use Rattle.std.proofs.Common.{◌+◌, arith, sym, ◌∙◌, rules}
use Rattle.std.proofs.lemmas.List.Elements.{Contains-get_or}
use Rattle.odb_base.specs.Faults.{Rose}
use Rattle.gix_odb_loose.specs.declared.find.Error.TheVariants.{NoMemory}
use Rattle.gix_odb_uses.specs.Objects.{IsKindAt}
use Rattle.gix_odb_uses.proofs.ObjectLemmas.{at_told, header_refused, if_err_made, if_told, kinds_more, rose_between, some_among}
use Rattle.gix_odb_uses.proofs.ReadLemmas.{reads_front, reads_more}
use Rattle.gix_odb_uses.proofs.asking.kinds_of.Goals as goal

-- one more id has its kind
pub loop-id-preserved : goal.loop-id-preserved
loop-id-preserved g c =
    let state = g.D.Disk.state in
    record {
      kinds =
          if_told (state c.args.disk.now) _ (λ s is.
          kinds_more (IsKindAt c.args.store.now s) c.args.ids.now c.loop-id.id-index _ c.loop-id.kinds.items c.add.new.kinds.items c.in_ok-kind.kind c.loop-id-test.true
          (at_told (state c.args.disk.now) _ s is c.loop-id.invariant.kinds) (at_told (state c.loop-id.disk) _ s (c.loop-id.invariant.kept ∙ is) c.in_ok-kind.ensures.kind) c.in_ok-add.ensures.ok);
      kept = c.kind_at.ensures.kept ∙ c.loop-id.invariant.kept;
      later = search rules;
      streams = c.kind_at.ensures.streams ∙ c.loop-id.invariant.streams;
      asked = reads_more g.D.Disk.answered c.args.store.now c.args.ids.now c.loop-id.id-index _ _ _ _ c.loop-id-test.true c.loop-id.invariant.asked c.kind_at.ensures.asked;
    }

-- the header look-up of this id was refused
pub returns-in_err-kind-clause-refused : goal.returns-in_err-kind-clause-refused
returns-in_err-kind-clause-refused g c =
    let state = g.D.Disk.state in
    let start = g.D.Disk.faults c.args.disk.now in
    let then = g.D.Disk.faults c.loop-id.disk in
    let now = g.D.Disk.faults c.kind_at.new.disk in
    let error = c.in_err-kind.field-0.0 in
    if_err_made c.from_residual.result error _ c.from_residual.ensures.1 (
      _,
      Contains-get_or c.args.ids.now c.loop-id.id-index _ c.loop-id-test.true,
      header_refused c.args.store.now _ (state c.loop-id.disk) (state c.args.disk.now) (sym c.loop-id.invariant.kept) (Rose then now) (Rose start now)
          (rose_between start then now now c.loop-id.invariant.later (omega arith)) error
          c.in_err-kind.ensures.refused,
    )

-- memory ran out after the look-up of this one
pub returns-in_err-add-clause-refused : goal.returns-in_err-add-clause-refused
returns-in_err-add-clause-refused g c =
    let some = some_among c.args.ids.now c.loop-id.id-index c.loop-id-test.true in
    if_err_made c.from_residual-in_err-add.result NoMemory _ c.from_residual-in_err-add.ensures.1 (some.0, some.1, tt)

-- the paths of the ids so far were read, and of this one
pub returns-in_err-kind-clause-asked : goal.returns-in_err-kind-clause-asked
returns-in_err-kind-clause-asked g c =
    reads_front g.D.Disk.answered c.args.store.now (c.loop-id.id-index + 1) c.args.ids.now _ _
    (reads_more g.D.Disk.answered c.args.store.now c.args.ids.now c.loop-id.id-index _ _ _ _ c.loop-id-test.true c.loop-id.invariant.asked c.kind_at.ensures.asked)

pub returns-in_err-add-clause-asked : goal.returns-in_err-add-clause-asked
returns-in_err-add-clause-asked g c =
    reads_front g.D.Disk.answered c.args.store.now (c.loop-id.id-index + 1) c.args.ids.now _ _
    (reads_more g.D.Disk.answered c.args.store.now c.args.ids.now c.loop-id.id-index _ _ _ _ c.loop-id-test.true c.loop-id.invariant.asked c.kind_at.ensures.asked)

pub returns-clause-asked : goal.returns-clause-asked
returns-clause-asked g c = reads_front g.D.Disk.answered c.args.store.now c.loop-id.id-index c.args.ids.now _ _ c.loop-id.invariant.asked
