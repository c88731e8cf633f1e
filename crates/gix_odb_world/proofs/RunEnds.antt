-- The run of a world.
use Rattle.std.proofs.Common.{◌≡◌, ℕ, ◌≤◌, List, length, map, sym, ap, ◌∙◌, subst}
use Rattle.std.specs.List.{All}
use Rattle.gix_odb_core.specs.History.{History}
use Rattle.gix_odb_core.specs.Journal.{entries_of}
use Rattle.gix_odb_events.specs.View.{last_state}
use Rattle.gix_odb_core.specs.declared.journal.Journal.{Journal}
use Rattle.odb_disk.specs.MemDisk.{Volume}
use Rattle.gix_odb_world.specs.declared.course.Course.{Course}
use Rattle.gix_odb_history.specs.Cores.{cores_after}
use Rattle.gix_odb_history.specs.Event.{Event}
use Rattle.gix_odb_world.specs.Headline.{Headline, IsRun}
use Rattle.gix_odb_history.specs.JournalKept.{IsJournal}
use Rattle.gix_odb_history.specs.declared.record.Run.{Run}
use Rattle.gix_odb_calls.specs.declared.line.Line.{Line}
use Rattle.gix_odb_calls.specs.declared.step.Step.{Step}
use Rattle.gix_odb_world.specs.Play.{IsPlayed, Plays, made_of}
use Rattle.gix_odb_world.specs.Played.{HasPlayed}
use Rattle.gix_odb_world.specs.Seats.{HasSeatThroughout}
use Rattle.gix_odb_world.specs.World.{Explains, IsRunOf}
use Rattle.gix_odb_world.proofs.EntryLemmas.{each_entry_told}
use Rattle.gix_odb_world.proofs.NameSteps.{names_stay_whole}
use Rattle.gix_odb_world.proofs.LawfulRun.{LawfulRun}
use Rattle.gix_odb_world.proofs.OneContent.{one_content_shown}
use Rattle.gix_odb_world.proofs.RunLaws.{keeps_run_laws}
use Rattle.gix_odb_world.proofs.RunLaws.FinishLaws.{lines_are_finished_in_time}
use Rattle.gix_odb_world.proofs.SeatLemmas.{registers_own_throughout, seats_throughout}
use Rattle.gix_odb_world.proofs.SeatLemmas.Snapshots.{snapshots_never_fall}
use Rattle.gix_odb_world.proofs.StandAlone.{writes_stand_alone}

-- what led to the world is its run
pub is_run : (world : Course) (journals : List Journal) → map entries_of journals ≡ map (λ (h : History). h.entries) world.cores.items → All IsJournal world.cores.items
    → length world.records ≤ last_state
    → (first : Volume) (events : List Event) → Explains first events world
    → IsRun first events (record { outcomes = world.outcomes; records = world.records; disk = world.disk; journals = journals })
is_run world journals entries each few first events explains =
    let lawful_run : LawfulRun =
    record { first = first; events = events; start = explains.start; lawful = explains.lawful; throughout = explains.throughout } in
    let each_here : All IsJournal (cores_after events) = subst (All IsJournal) explains.cores each in
    let seats : HasSeatThroughout events = seats_throughout first events explains.lawful in
    record {
      outcomes_are = explains.outcomes;
      records_are = explains.records;
      lawful = explains.lawful;
      disk = explains.disk;
      journals_are = entries ∙ ap (map (λ (h : History). h.entries)) explains.cores;
      journals = each_here;
      entries = each_entry_told first events world.records explains.lawful explains.records few;
      seats = seats;
      registers_own = registers_own_throughout first events explains.lawful;
      snapshots = snapshots_never_fall events each_here seats;
      contents = one_content_shown lawful_run;
      alone = writes_stand_alone lawful_run;
      names = names_stay_whole lawful_run;
      laws = keeps_run_laws first events (record { start = explains.start; lawful = explains.lawful; throughout = explains.throughout });
    }

-- the run of some steps that were all made
pub headline_of : (first : Volume) (made : List Step) (steps : List Step) (world : Course) (run : Run) → made ≡ steps → IsRunOf first made world
    → ((start : Volume) (events : List Event) → Explains start events world → IsRun start events run)
    → Headline first steps run
headline_of first made steps world run all own is =
    record { events = own.events; steps_are = own.steps_are ∙ all; is_run = is first own.events own.explains }

-- the lines are played by the run of the world, and those that finish what a handle is at end in time
pub is_played : (first : Volume) (lines : List Line) (steps : List Step) (last : List ℕ) (world : Course) (run : Run) → HasPlayed first lines steps last world
    → ((events : List Event) → Explains first events world → IsRun first events run)
    → IsPlayed first lines (record { run = run; steps = steps; last = last })
is_played first lines steps last world run played ends =
    let events : List Event = played.run.events in
    let is_run : IsRun first events run = ends events played.run.explains in
    let same : world.outcomes ≡ run.outcomes = sym played.run.explains.outcomes ∙ is_run.outcomes_are in
    let plays : Plays 0 lines (made_of steps run.outcomes) last = subst (λ o. Plays 0 lines (made_of steps o) last) same played.plays in
    record {
      headline = record { events = events; steps_are = played.run.steps_are; is_run = is_run };
      plays = plays;
      in_time = lines_are_finished_in_time first events is_run.lawful steps played.run.steps_are run.outcomes is_run.outcomes_are lines last plays;
    }
