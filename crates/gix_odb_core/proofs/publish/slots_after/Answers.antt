use Rattle.std.proofs.Common.{All, subst, sym}
use Rattle.gix_odb_core.proofs.FewPacksLemmas.{few-all_settled}
use Rattle.gix_odb_events.specs.Slots.{HasFewPacks}
use Rattle.gix_odb_core.proofs.publish.slots_after.Goals as goal

pub take-requires-clause-packs : goal.take-requires-clause-packs
take-requires-clause-packs c =
    subst (All HasFewPacks) (sym c.in_ok-after.ensures.settled) (few-all_settled c.args.stable c.args.matched.now.rows.now c.args.matched.now.slots.now c.requires.packs)
