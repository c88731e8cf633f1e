-- The order of work in which the indices of a list are tried.
pub mod Asked
pub mod Seek
pub mod Loading
pub mod Pack
use Rattle.std.specs.Prelude.{Ok, Err}
use Rattle.gix_hash.specs.ObjectId.{kind_of}
use Rattle.gix_odb_events.specs.declared.answer.Answer.{Answer}
use Rattle.gix_odb_events.specs.declared.answer.Answer.TheVariants as told
use Rattle.gix_odb_search.specs.LoadOrder as load
use Rattle.gix_odb_search.specs.declared.goal.Goal.{Goal}
use Rattle.gix_odb_search.specs.declared.trier.Ahead.{Ahead}
use Rattle.gix_odb_search.specs.declared.trier.Stage.{Stage}
use Rattle.gix_odb_search.specs.declared.trier.Stage.TheVariants as stages
use Rattle.gix_odb_search.specs.declared.trier.Tried.{Tried}
use Rattle.gix_odb_search.specs.declared.trier.Tried.TheVariants as ends
use Rattle.gix_odb_search.specs.declared.trier.Trier.{Trier}
pub use Rattle.gix_odb_search.specs.TryOrder.Asked.{put_pack, ask_at, ask_of}
pub use Rattle.gix_odb_search.specs.TryOrder.Seek.{at, at_todo, at_search, seek}
pub use Rattle.gix_odb_search.specs.TryOrder.Loading.{is_failed, noting, after_load}
pub use Rattle.gix_odb_search.specs.TryOrder.Pack.{pack_or_bad, pack_read, by_given, pack_among, pack_in, pack_or, pack_shown, pack_behind, pack_stored, pack_passed}

-- An index is loaded, then searched, and its pack is read and stored. The core may refuse an event, which ends the work. What is fed
-- answers the ask: the rows for the other kind, of the disk or of the core, only make the function total.
abbrev pub by_answer : Goal → Ahead → Stage → Answer → Tried
by_answer goal ahead (stages.Loading loader) answer = after_load goal ahead (load.fed (kind_of goal.id) loader answer)
by_answer goal ahead (stages.ReadingPack pack) (told.Disk answer) = pack_read goal ahead pack answer
by_answer goal ahead (stages.ReadingPack pack) (told.Core answer) = at goal ahead (stages.ReadingPack pack)
by_answer goal ahead (stages.StoringPack pack file) (told.Core (Ok effect)) = pack_stored goal pack file effect
by_answer goal ahead (stages.PassingPack pack) (told.Core (Ok effect)) = pack_passed goal ahead pack
by_answer goal ahead stage (told.Core (Err refusal)) = ends.Broken refusal
by_answer goal ahead stage (told.Disk answer) = at goal ahead stage

abbrev pub fed : Trier → Answer → Tried
fed trier answer = by_answer trier.goal trier.ahead trier.stage answer
