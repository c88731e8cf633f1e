use Rattle.std.proofs.Common.{arith, sym}
use Rattle.gix_odb_events.proofs.PackListLaws.{list_any-here, list_any-more}
use Rattle.gix_odb_core.specs.Files.{turns_missing}
use Rattle.gix_odb_core.proofs.pass.is_one_turning_missing.Goals as goal

pub returns-then-turns_missing_at : goal.returns-then-turns_missing_at
returns-then-turns_missing_at c = record {
  missing = sym (list_any-here (turns_missing c.args.path.now) c.args.packs.now c.loop-place.place c.turns_missing_at.result c.turns_missing_at.ensures.missing c.if-turns_missing_at.true);
}

pub loop-place-preserved : goal.loop-place-preserved
loop-place-preserved c =
    list_any-more (turns_missing c.args.path.now) c.args.packs.now c.loop-place.place c.turns_missing_at.result (omega arith) c.turns_missing_at.ensures.missing c.if-turns_missing_at.false c.loop-place.invariant
