use Rattle.gix_odb_world.proofs.FedLemmas.{refused_if_done}
use Rattle.gix_odb_world.proofs.turn.fed_opening.Goals as goal

-- an opening that a call of the disk ends is refused
pub finished_opening-requires : goal.finished_opening-requires
finished_opening-requires c = record {
  refused = refused_if_done c.args.opening c.in-Answer-Disk.answer c.feed.new.self c.requires.under_way c.in_ok-feed-in-Answer-Disk.ensures.fed;
}
