use Rattle.std.proofs.Common.{sym, ◌∙◌}
use Rattle.gix_odb_core.proofs.PacksOfPathLemmas.{missing-at, missing-none}
use Rattle.gix_odb_core.proofs.pass.is_rising_turning_missing.Goals as goal

-- no pack has the path
pub returns-in-None : goal.returns-in-None
returns-in-None c = record { missing = sym (missing-none c.args.path.now c.args.packs.now c.in-None.ensures.place) }

-- the pack that has it is the only one
pub returns-in-Some : goal.returns-in-Some
returns-in-Some c = record {
  missing = c.turns_missing_at.ensures.missing ∙ sym (missing-at c.args.path.now c.args.packs.now c.in-Some.place c.requires.rising c.in-Some.ensures.place);
}
