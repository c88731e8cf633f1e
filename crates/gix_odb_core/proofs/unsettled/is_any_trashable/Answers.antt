use Rattle.std.proofs.Common.{arith, sym}
use Rattle.gix_odb_events.specs.PackFiles.{PackFile}
use Rattle.gix_odb_events.proofs.PackListLaws.{list_any-here, list_any-more}
use Rattle.gix_odb_core.specs.Publish.{is_trashable}
use Rattle.gix_odb_core.proofs.unsettled.is_any_trashable.Goals as goal

pub returns-then-is_trashable_at : goal.returns-then-is_trashable_at
returns-then-is_trashable_at c = record {
  trashable = sym (list_any-here (λ (pack : PackFile). is_trashable pack.state) c.args.packs.now c.loop-place.place c.is_trashable_at.result c.is_trashable_at.ensures.trashable c.if-is_trashable_at.true);
}

pub loop-place-preserved : goal.loop-place-preserved
loop-place-preserved c =
    list_any-more (λ (pack : PackFile). is_trashable pack.state) c.args.packs.now c.loop-place.place c.is_trashable_at.result (omega arith) c.is_trashable_at.ensures.trashable c.if-is_trashable_at.false c.loop-place.invariant
