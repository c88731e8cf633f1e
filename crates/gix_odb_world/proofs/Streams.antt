-- The stream that a handle at work reads is open on the disk, and gives what its folder listed when it was opened.
pub mod OneEvent
pub mod Apart
pub mod Step
use Rattle.std.proofs.Common.{◌≡◌, ℕ, zero, suc, ◌+◌, ◌≤◌, List, [], ◌∷◌, ◌++◌, length, map, take, Some, Ok, inl, inr, refl, sym, ◌∙◌, ap, subst, arith}
use Rattle.std.proofs.lemmas.List.{length-append, length-map, length_push}
use Rattle.std.proofs.Math.Seq.{take-length}
use Rattle.odb_base.specs.Path.{Name, Path}
use Rattle.odb_disk.specs.Tree.{Tree}
use Rattle.odb_disk.specs.Tree.Follow.{listed}
use Rattle.odb_disk.specs.declared.disk_error.DiskError.TheVariants as errors
use Rattle.odb_disk.specs.declared.entry.Entry.{Entry}
use Rattle.odb_disk.specs.Ask.{answer_now}
use Rattle.odb_disk.specs.MemDisk.{Volume}
use Rattle.odb_disk.specs.declared.ask.DiskAnswer.{DiskAnswer}
use Rattle.odb_disk.specs.declared.ask.DiskAnswer.TheVariants as answers
use Rattle.odb_disk.specs.declared.ask.DiskAsk.{DiskAsk}
use Rattle.odb_disk.specs.declared.ask.DiskAsk.TheVariants as asks
use Rattle.gix_odb_search.specs.PackFolder.{pack_folder}
use Rattle.gix_odb_events.specs.declared.answer.Answer.TheVariants as told
use Rattle.gix_odb_events.specs.declared.answer.Ask.TheVariants as parts
use Rattle.gix_odb.specs.Laps as laps
use Rattle.gix_odb.specs.OpenStream.{GivesNext}
use Rattle.gix_odb.specs.Stream.{Stream, reads, stream_by, stream_in}
use Rattle.gix_odb.specs.True.{Suits}
use Rattle.gix_odb.proofs.HandedLaws.{IsOwnStream}
use Rattle.gix_odb.proofs.StreamLaws.Calls.{stream_gives_what_is_coming}
use Rattle.gix_odb.proofs.StreamLaws.Directories.{entries_are_of_the_names}
use Rattle.gix_odb_world.specs.AtWork.{Running}
use Rattle.gix_odb_world.specs.Bound.{HasAtMost, Pack}
use Rattle.gix_odb_history.specs.Event.{Event}
use Rattle.gix_odb_world.specs.Headline.{IsLawful}
use Rattle.gix_odb_history.specs.Run.{disk_after, tree_at}
use Rattle.gix_odb_world.specs.Running.{RunsThroughout}
use Rattle.gix_odb_world.specs.Status.{Free, Working, status_of, statuses_from}
use Rattle.gix_odb_world.specs.Told.{told_since}
use Rattle.gix_odb_world.proofs.HistoryLemmas.{tree_at-before}
use Rattle.gix_odb_world.proofs.MachineLaws.{IsRunning}
use Rattle.gix_odb_world.proofs.RunSteps.{event_or_end, none_beyond, take_next}
use Rattle.gix_odb_world.proofs.Streams.Apart.{AreOpen}
use Rattle.gix_odb_world.proofs.Streams.OneEvent.{StandsOpen}
use Rattle.gix_odb_world.proofs.Streams.Step.{open_on}

-- ---- along a run

none_open : (first : Volume) → AreOpen first []
unfolding statuses_from
none_open first = record {
  stands = λ handle running status stream is. let free : Free ≡ Working running = status in absurd (cc free);
  apart = λ handle other running further apart status working one two is there same. let free : Free ≡ Working running = status in absurd (cc free);
}

module _ (first : Volume) (events : List Event) (lawful : IsLawful first events) (throughout : RunsThroughout first events) where
  at_place : (place : ℕ) → place ≤ length events → AreOpen first (take place events)
  at_place zero within = none_open first
  at_place (suc place) within = elim (event_or_end events place) [
    | inl at ↦
        let one : place + 1 ≡ suc place = omega arith in
        let few : place ≤ length events = omega (arith, within) in
        subst (λ n. AreOpen first (take n events)) one
        (subst (AreOpen first) (sym (take_next events place at.0 at.1))
        (open_on first (take place events) at.0 (lawful place at.0 at.1) (λ handle. throughout place handle few) (at_place place few)))
    | inr none ↦ let beyond = none_beyond events place none in absurd (omega (arith, within, beyond))
  ]

  pub are_open : AreOpen first events
  are_open = subst (AreOpen first) (take-length events) (at_place (length events) (omega arith))

-- The stream that a handle at work reads is open: no other handle reads or closes it, since each reads and closes its own, and a new stream has
-- the number of none that is open.
pub streams_stand : (first : Volume) (events : List Event) → IsLawful first events → RunsThroughout first events
    → (handle : ℕ) (running : Running) → status_of events handle ≡ Working running
    → (stream : Stream) → stream_in (told_since events handle running.begun) ≡ Some stream → StandsOpen first events running stream
streams_stand first events lawful throughout handle running status stream is =
    (are_open first events lawful throughout).stands handle running status stream is

-- ---- the own stream of a handle at work

gives_suit : (dir : ℕ) (coming left : List Entry) (answer : DiskAnswer) → GivesNext coming answer left → Suits (asks.NextEntry dir) answer
gives_suit dir coming left (answers.Entry entry) gives = tt
gives_suit dir coming left answers.End gives = tt
gives_suit dir coming left (answers.Refused errors.Failed) gives = refl
gives_suit dir coming left (answers.Refused errors.Absent) gives = absurd gives
gives_suit dir coming left (answers.Refused errors.WrongKind) gives = absurd gives
gives_suit dir coming left (answers.Refused errors.LinkLoop) gives = absurd gives
gives_suit dir coming left (answers.Refused errors.Exists) gives = absurd gives
gives_suit dir coming left (answers.Refused errors.NotEmpty) gives = absurd gives
gives_suit dir coming left (answers.Refused errors.NoMemory) gives = absurd gives
gives_suit dir coming left (answers.Meta meta) gives = absurd gives
gives_suit dir coming left (answers.File bytes time) gives = absurd gives
gives_suit dir coming left (answers.Dir other) gives = absurd gives
gives_suit dir coming left answers.Done gives = absurd gives

module _ (first : Volume) (events : List Event) (e : Event) (handle : ℕ) (running : Running) (ran : IsRunning first events handle running) where
  abbrev whole : List Event
  whole = events ++ e ∷ []

  abbrev disk : Volume
  disk = disk_after first events

  module _ (dir : ℕ) (own : IsOwnStream (told_since events handle running.begun) dir) where
    stands : StandsOpen first events running own.stream
    stands = streams_stand first events ran.lawful ran.throughout handle running ran.status own.stream own.told

    -- the call for the next entry is on an open stream
    pub next_entry_suits : Suits (asks.NextEntry dir) (answer_now disk (asks.NextEntry dir))
    next_entry_suits =
        let read = stream_gives_what_is_coming disk own.stream.dir stands.coming stands.is.now in
        gives_suit dir stands.coming read.left (answer_now disk (asks.NextEntry dir))
        (subst (λ n. GivesNext stands.coming (answer_now disk (asks.NextEntry n)) read.left) own.number read.next)

    -- and it has given no more entries than the folder had names
    given_few : (entries : ℕ) → HasAtMost (tree_at first whole) running.store.parts running.begun (length whole) entries
        → laps.HasAtMost entries (reads (Some own.stream) (answer_now disk (asks.NextEntry dir)))
    given_few entries most = by (answer_now disk (asks.NextEntry dir)) refl
      where
        tree : Tree
        tree = tree_at first events stands.moment

        names : List Name
        names = map (λ (entry : Entry). entry.name) (own.stream.entries ++ stands.coming)

        few : length names ≤ entries
        few =
            let longer = length_push events e in
            let to = stands.to in
            most stands.moment stands.from (omega (arith, to, longer)) (pack_folder stands.folder) names (Pack stands.folder stands.among)
            (subst (λ t. listed t (pack_folder stands.folder) ≡ Ok names) (sym (tree_at-before first events e stands.moment stands.to))
            (subst (λ f. listed tree f ≡ Ok names) stands.of_packs
            (entries_are_of_the_names tree own.stream.folder (own.stream.entries ++ stands.coming) stands.is.fixed)))

        all : length names ≡ length own.stream.entries + length stands.coming
        all = length-map (own.stream.entries ++ stands.coming) (λ (entry : Entry). entry.name) ∙ length-append own.stream.entries stands.coming

        by : (answer : DiskAnswer) → answer_now disk (asks.NextEntry dir) ≡ answer → laps.HasAtMost entries (reads (Some own.stream) answer)
        by (answers.Entry entry) is =
            let read = stream_gives_what_is_coming disk own.stream.dir stands.coming stands.is.now in
            let first_is : stands.coming ≡ entry ∷ read.left =
            subst (λ (a : DiskAnswer). GivesNext stands.coming a read.left) (ap (λ n. answer_now disk (asks.NextEntry n)) own.number ∙ is) read.next in
            let count : length stands.coming ≡ length (entry ∷ read.left) = ap length first_is in
            let more = length_push own.stream.entries entry in
            omega (arith, few, all, count, more)
        by (answers.Refused error) is = omega (arith, few, all)
        by answers.End is = omega (arith, few, all)
        by answers.Done is = omega (arith, few, all)
        by (answers.Meta meta) is = omega (arith, few, all)
        by (answers.File bytes time) is = omega (arith, few, all)
        by (answers.Dir other) is = omega (arith, few, all)

  opened_few : (entries : ℕ) (folder : Path) (answer : DiskAnswer)
      → laps.HasAtMost entries (stream_by (stream_in (told_since events handle running.begun)) (parts.Disk (asks.OpenDir folder)) (told.Disk answer))
  opened_few entries folder (answers.Dir dir) = omega arith
  opened_few entries folder (answers.Refused error) = tt
  opened_few entries folder (answers.Entry entry) = tt
  opened_few entries folder answers.End = tt
  opened_few entries folder answers.Done = tt
  opened_few entries folder (answers.Meta meta) = tt
  opened_few entries folder (answers.File bytes time) = tt

  -- after a call of the disk the open stream has given no more entries than a folder has
  pub streams_are_short : (ask : DiskAsk) → ((dir : ℕ) → ask ≡ asks.NextEntry dir → IsOwnStream (told_since events handle running.begun) dir)
      → (entries : ℕ) → HasAtMost (tree_at first whole) running.store.parts running.begun (length whole) entries
      → laps.HasAtMost entries (stream_in (told_since events handle running.begun))
      → laps.HasAtMost entries (stream_by (stream_in (told_since events handle running.begun)) (parts.Disk ask) (told.Disk (answer_now disk ask)))
  streams_are_short (asks.OpenDir folder) own entries most before = opened_few entries folder (answer_now disk (asks.OpenDir folder))
  streams_are_short (asks.NextEntry dir) own entries most before =
      let stream = own dir refl in
      subst (λ o. laps.HasAtMost entries (reads o (answer_now disk (asks.NextEntry dir)))) (sym stream.told) (given_few dir stream entries most)
  streams_are_short (asks.CloseDir dir) own entries most before = tt
  streams_are_short (asks.Look path follow) own entries most before = before
  streams_are_short (asks.Read path) own entries most before = before
  streams_are_short (asks.MakeDir path) own entries most before = before
  streams_are_short (asks.NewFile path) own entries most before = before
  streams_are_short (asks.Append path bytes) own entries most before = before
  streams_are_short (asks.Rename from to) own entries most before = before
  streams_are_short (asks.Remove path) own entries most before = before
