use Rattle.std.proofs.Common.{arith, sym, ◌∙◌}
use Rattle.gix_odb_events.specs.PackList.{has_path}
use Rattle.gix_odb_events.proofs.PackListLaws.{list_any-more}
use Rattle.gix_odb_events.proofs.pack_list.first_place.Goals as goal

-- the first pack that has the path
pub returns-then-has_path_at : goal.returns-then-has_path_at
returns-then-has_path_at c = record { place = record { here = sym c.has_path_at.ensures.has ∙ c.if-has_path_at.true; before = c.loop-place.invariant } }

pub loop-place-preserved : goal.loop-place-preserved
loop-place-preserved c =
    list_any-more (has_path c.args.path.now) c.args.packs.now c.loop-place.place c.has_path_at.result (omega arith) c.has_path_at.ensures.has c.if-has_path_at.false c.loop-place.invariant
