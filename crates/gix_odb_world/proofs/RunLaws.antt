-- The laws of runs, in which a world knows after each event what its handles are at.
pub mod KnownRun
mod LastTold
mod QueryTurns
pub mod JustRead
mod OneTree
pub mod ToldThen
mod RefreshListings
mod CallTurns
mod TurnsAtWork
mod ListChecks
mod PendingTurns
mod OnceLaws
mod ReadLaws
mod ListingLaws
mod HashLaws
mod MovedLaws
mod MissLaws
pub mod FinishLaws
mod OwnAnswerLaws
mod MemoryLaws
use Rattle.std.specs.Prelude.{List}
use Rattle.odb_disk.specs.MemDisk.{Volume}
use Rattle.gix_odb_history.specs.Event.{Event}
use Rattle.gix_odb_world.specs.RunLaws.{KeepsRunLaws}
use Rattle.gix_odb_world.proofs.RunLaws.FinishLaws.{pending_turns_are_fewer_than_the_bound}
use Rattle.gix_odb_world.proofs.RunLaws.HashLaws.{found_data_hash_to_the_sought_id}
use Rattle.gix_odb_world.proofs.RunLaws.KnownRun.{IsKnownRun}
use Rattle.gix_odb_world.proofs.RunLaws.ListingLaws.{rows_that_a_turn_publishes_are_those_of_the_tree, rows_that_a_turn_publishes_were_shown}
use Rattle.gix_odb_world.proofs.RunLaws.MemoryLaws.{no_event_is_answered_by_want_of_memory, no_reply_tells_want_of_memory}
use Rattle.gix_odb_world.proofs.RunLaws.MissLaws.{query_that_misses_ends_at_its_last_list}
use Rattle.gix_odb_world.proofs.RunLaws.MovedLaws.{object_that_moves_into_a_pack_is_not_missed}
use Rattle.gix_odb_world.proofs.RunLaws.OnceLaws.{object_at_hand_is_found_in_the_first_turn}
use Rattle.gix_odb_world.proofs.RunLaws.OwnAnswerLaws.{without_a_cause_the_answer_is_its_own}
use Rattle.gix_odb_world.proofs.RunLaws.ReadLaws.{index_that_a_turn_read_is_stored_in_the_next, pack_that_a_turn_read_is_stored_in_the_next, what_a_turn_stores_or_passes_over_was_just_read}

pub keeps_run_laws : (first : Volume) (events : List Event) → IsKnownRun first events → KeepsRunLaws first events
keeps_run_laws first events is = record {
  at_hand = object_at_hand_is_found_in_the_first_turn first events is;
  stores_index = index_that_a_turn_read_is_stored_in_the_next first events is;
  stores_pack = pack_that_a_turn_read_is_stored_in_the_next first events is;
  just_read = what_a_turn_stores_or_passes_over_was_just_read first events is;
  rows_shown = rows_that_a_turn_publishes_were_shown first events is;
  rows_of_tree = rows_that_a_turn_publishes_are_those_of_the_tree first events is;
  hashes = found_data_hash_to_the_sought_id first events is;
  moved_found = object_that_moves_into_a_pack_is_not_missed first events is;
  misses_at_last_list = query_that_misses_ends_at_its_last_list first events is;
  pending_in_time = pending_turns_are_fewer_than_the_bound first events is;
  own_answer = without_a_cause_the_answer_is_its_own first events is;
  no_want_answered = no_event_is_answered_by_want_of_memory first events is;
  no_want_told = no_reply_tells_want_of_memory first events is;
}
