use Rattle.gix_odb_events.specs.OnDiskFile.{is_disposable}
use Rattle.gix_odb_events.specs.PackFiles.{PackFile}
use Rattle.gix_odb_events.proofs.PackListLaws.{list_any-here, list_any-more}
use Rattle.std.proofs.Common.{arith, sym}
use Rattle.gix_odb_events.proofs.slot.is_any_disposable.Goals as goal

pub returns-then-is_disposable_at : goal.returns-then-is_disposable_at
returns-then-is_disposable_at c = record {
  disposable = sym (list_any-here (λ (pack : PackFile). is_disposable pack.state) c.args.packs.now c.loop-place.place c.is_disposable_at.result c.is_disposable_at.ensures.disposable c.if-is_disposable_at.true);
}

pub loop-place-preserved : goal.loop-place-preserved
loop-place-preserved c =
    list_any-more (λ (pack : PackFile). is_disposable pack.state) c.args.packs.now c.loop-place.place c.is_disposable_at.result (omega arith) c.is_disposable_at.ensures.disposable c.if-is_disposable_at.false c.loop-place.invariant
