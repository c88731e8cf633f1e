use Rattle.std.proofs.Common.{◌∙◌, lit<, sym}
use Rattle.std.proofs.lemmas.Option.{slice_get_past}
use Rattle.odb_base.specs.Blocks.{joined}
use Rattle.odb_base.proofs.BlocksLemmas.{get_joined, joined_past}
use Rattle.odb_base.proofs.shared_list.block_at.Goals as goal

-- the number is after the last group
pub returns-in-None : goal.returns-in-None
returns-in-None g c =
    let past = joined_past 32 c.args.groups.now c.args.number c.requires.filled (lit< tt) (sym c.in-None.ensures.group) in
    record { block = sym (slice_get_past (joined c.args.groups.now) c.args.number past) }

-- the block is in the group that was found
pub returns-in-Some : goal.returns-in-Some
returns-in-Some g c =
    let there = get_joined 32 c.args.groups.now c.args.number c.requires.filled (lit< tt) (sym c.in-Some.ensures.group) in
    record { block = c.block_in.ensures.block ∙ sym there }
