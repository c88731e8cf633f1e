use Rattle.std.proofs.Common.{◌∙◌, None, ap, lit<, slice_get, sym}
use Rattle.std.proofs.lemmas.Option.{slice_get_past}
use Rattle.std.specs.Prelude.{unwrap_or}
use Rattle.odb_base.specs.Blocks.{joined}
use Rattle.odb_base.proofs.BlocksLemmas.{get_joined, joined_past}
use Rattle.odb_base.proofs.shared_list.value_at.Goals as goal

-- the place is after the last block
pub returns-in-None : goal.returns-in-None
returns-in-None g c =
    let past = joined_past 32 (joined c.args.groups.now) c.args.place c.requires.filled.1 (lit< tt) (sym c.in-None.ensures.block) in
    record { value = sym (ap (λ place. unwrap_or place None) (slice_get_past (joined (joined c.args.groups.now)) c.args.place past)) }

-- the place is in the block that was found
pub returns-in-Some : goal.returns-in-Some
returns-in-Some g c =
    let there = get_joined 32 (joined c.args.groups.now) c.args.place c.requires.filled.1 (lit< tt) (sym c.in-Some.ensures.block) in
    record { value = c.value_in.ensures.value ∙ sym (ap (λ place. unwrap_or place None) there) }
