-- A look-up of a prefix after any answer to its call of the disk: where it stands, which stream is open, and the state of the disk.
use Rattle.std.proofs.Common.{◌≡◌, ℕ, ◌<◌, ◌≤◌, true, List, Option, Some, None, refl, sym, ap, subst}
use Rattle.std.specs.List.{IsDistinct}
use Rattle.std.specs.Option.{ForSome}
use Rattle.odb_base.specs.Path.{Path}
use Rattle.odb_disk.specs.Ask.{AnswersAsk, answer_of, change_of_ask, state_told_after}
use Rattle.odb_disk.specs.Streams.{Streams}
use Rattle.odb_disk.specs.StreamAsks.{AnswersStreams, GivesAs}
use Rattle.odb_disk.specs.Tree.{State, Tree, tree_of}
use Rattle.odb_disk.specs.Tree.Write.{written}
use Rattle.odb_disk.specs.declared.ask.DiskAnswer.{DiskAnswer}
use Rattle.odb_disk.specs.declared.ask.DiskAnswer.TheVariants as answers
use Rattle.odb_disk.specs.declared.ask.DiskAsk.{DiskAsk}
use Rattle.odb_disk.specs.declared.ask.DiskAsk.TheVariants as asks
use Rattle.odb_disk.specs.declared.disk_error.DiskError.TheVariants as errors
use Rattle.gix_hash.specs.Prefix.{IsPrefix}
use Rattle.gix_hash.specs.declared.object_id.ObjectId.{ObjectId}
use Rattle.gix_odb_loose.specs.LooseFile.{loose_path}
use Rattle.gix_odb_loose.specs.PrefixNames.{same_id}
use Rattle.gix_odb_loose.specs.PrefixOrder.{ask_at, ask_of, fed, fed_at}
use Rattle.gix_odb_loose.specs.PrefixSearches.{AreNamed, Began, BreaksAt, IsAnswered, IsAtIn, OwnsOne, Stands, StandsAfter, calls_after, calls_at, folder_in, head_in, matches_at, own_after, own_at}
use Rattle.gix_odb_loose.specs.declared.prefix_search.PrefixSearch.{PrefixSearch}
use Rattle.gix_odb_loose.specs.declared.prefix_search.SearchHead.{SearchHead}
use Rattle.gix_odb_loose.specs.declared.prefix_search.SearchStage.{SearchStage}
use Rattle.gix_odb_loose.specs.declared.prefix_search.SearchStage.TheVariants as stages
use Rattle.gix_odb_loose.proofs.PrefixSearchesLemmas.Ends.{Turned, for_some}
use Rattle.gix_odb_loose.proofs.PrefixSearchesLemmas.Links.{linked_turns}
use Rattle.gix_odb_loose.proofs.PrefixSearchesLemmas.Reads.{closed_turns, own_none, read_turns, rose_since, still_later}
use Rattle.gix_odb_loose.proofs.PrefixSearchesLemmas.Streams.{own_drawn, own_opened, own_same}
use Rattle.gix_odb_loose.proofs.PrefixSearchesLemmas.Turns.{opened_turns, statted_turns, told_look}

-- ---- the state stays

still : (state : State) (ask : DiskAsk) → change_of_ask (tree_of state) ask ≡ None → (answer : DiskAnswer) → state_told_after (Some state) ask answer ≡ Some state
still state ask none (answers.Meta meta) = refl
still state ask none (answers.File bytes time) = refl
still state ask none (answers.Dir dir) = refl
still state ask none (answers.Entry entry) = refl
still state ask none answers.End = refl
still state ask none answers.Done = ap (λ change. Some (written state change)) none
still state ask none (answers.Refused error) = refl

stage_changes_nothing : (head : SearchHead) (tree : Tree) (stage : SearchStage) → change_of_ask tree (ask_at head stage) ≡ None
unfolding change_of_ask
stage_changes_nothing head tree (stages.Statting follow) = refl
stage_changes_nothing head tree stages.Opening = refl
stage_changes_nothing head tree (stages.Reading dir matches) = refl
stage_changes_nothing head tree (stages.Closing dir read) = refl
stage_changes_nothing head tree (stages.Linked id left) = refl

changes_nothing : (search : PrefixSearch) (tree : Tree) → change_of_ask tree (ask_of search) ≡ None
changes_nothing search tree = stage_changes_nothing search.head tree search.stage

pub state_stays : (state : Option State) (search : PrefixSearch) (answer : DiskAnswer) → state_told_after state (ask_of search) answer ≡ state
state_stays None search answer = refl
state_stays (Some state) search answer = still state (ask_of search) (changes_nothing search (tree_of state)) answer

-- ---- where it stands

module _ (b : Began) (is : IsPrefix b.prefix) (old new : Streams) (before now : ℕ) (first : b.faults ≤ before) (then : before ≤ now) (names : List ObjectId) (distinct : IsDistinct same_id names)
    (answer : DiskAnswer) where
  abbrev pub Told : SearchStage → Type 0
  Told stage = IsAnswered (ask_at (head_in b names) stage) b.state old new before now answer

  pub stage_turns : (stage : SearchStage) → AreNamed b (matches_at stage) → OwnsOne b (own_at stage) old → ForSome b.state (λ s. IsAtIn b (tree_of s) old names stage) → BreaksAt b before stage → Told stage
      → Turned b new now (calls_at old stage) (fed_at (head_in b names) stage answer)
  stage_turns (stages.Statting follow) named own at breaks told =
      statted_turns b is old new before now first then names distinct follow answer told.failed (own_same b None old new (told.same refl) own)
      (λ s here. (at s here, told_look (tree_of s) (folder_in b) follow answer (for_some b.state (λ s. AnswersAsk answer (answer_of (tree_of s) (asks.Look (folder_in b) follow))) (told.told refl) s here)))
  stage_turns stages.Opening named own at breaks told = opened_turns b is old new before now first then names distinct answer told.failed own told.streams at
  stage_turns (stages.Reading dir matches) named own at breaks told = read_turns b is old new before now first then names distinct dir matches named answer told.failed told.streams own at
  stage_turns (stages.Closing dir read) named own at breaks told =
      closed_turns b is old new before now first then names distinct dir (own_none b is old new before now first then dir answer told.streams own) read named at breaks
  stage_turns (stages.Linked id left) named own at breaks told =
      linked_turns b is old new now (still_later b is old new before now first then) id left names distinct named (own_same b None old new (told.same refl) own) answer
      (λ failed. rose_since b is old new before now first then (told.failed failed))
      (λ s here. (at s here, told_look (tree_of s) (loose_path b.objects id) true answer (for_some b.state (λ s. AnswersAsk answer (answer_of (tree_of s) (asks.Look (loose_path b.objects id) true))) (told.told refl) s here)))

-- ---- which stream is open

reading_owns : (b : Began) (old new : Streams) (dir : ℕ) (gave : DiskAnswer) → GivesAs old new dir gave → OwnsOne b (Some dir) old → OwnsOne b (Some dir) new
reading_owns b old new dir (answers.Entry entry) gives own = own_drawn b old new dir gives.rest gives.left own
reading_owns b old new dir answers.End gives own = own_same b (Some dir) old new gives.same own
reading_owns b old new dir (answers.Refused errors.Absent) gives own = own_same b (Some dir) old new gives.same own
reading_owns b old new dir (answers.Refused errors.Failed) gives own = own_same b (Some dir) old new gives own
reading_owns b old new dir (answers.Refused errors.NoMemory) gives own = own_same b (Some dir) old new gives own
reading_owns b old new dir (answers.Refused errors.WrongKind) gives own = absurd gives
reading_owns b old new dir (answers.Refused errors.LinkLoop) gives own = absurd gives
reading_owns b old new dir (answers.Refused errors.Exists) gives own = absurd gives
reading_owns b old new dir (answers.Refused errors.NotEmpty) gives own = absurd gives
reading_owns b old new dir (answers.Meta meta) gives own = absurd gives
reading_owns b old new dir (answers.File bytes time) gives own = absurd gives
reading_owns b old new dir (answers.Dir other) gives own = absurd gives
reading_owns b old new dir answers.Done gives own = absurd gives

opening_owns : (b : Began) (path : Path) (old new : Streams) (answer : DiskAnswer) → AnswersStreams b.state old new (asks.OpenDir path) answer → OwnsOne b None old → OwnsOne b (own_after stages.Opening answer) new
opening_owns b path old new (answers.Dir dir) opens own = own_opened b b.state path old new dir opens own
opening_owns b path old new (answers.Refused error) refused own = own_same b None old new refused.0 own
opening_owns b path old new (answers.Meta meta) odd own = absurd odd
opening_owns b path old new (answers.File bytes time) odd own = absurd odd
opening_owns b path old new (answers.Entry entry) odd own = absurd odd
opening_owns b path old new answers.End odd own = absurd odd
opening_owns b path old new answers.Done odd own = absurd odd

module _ (b : Began) (is : IsPrefix b.prefix) (old new : Streams) (before now : ℕ) (first : b.faults ≤ before) (then : before ≤ now) (names : List ObjectId) (distinct : IsDistinct same_id names)
    (answer : DiskAnswer) where
  stage_owns : (stage : SearchStage) → OwnsOne b (own_at stage) old → Told b is old new before now first then names distinct answer stage → OwnsOne b (own_after stage answer) new
  stage_owns (stages.Statting follow) own told = own_same b None old new (told.same refl) own
  stage_owns stages.Opening own told = opening_owns b (folder_in b) old new answer told.streams own
  stage_owns (stages.Reading dir matches) own told = reading_owns b old new dir answer told.streams own
  stage_owns (stages.Closing dir read) own told = own_none b is old new before now first then dir answer told.streams own
  stage_owns (stages.Linked id left) own told = own_same b None old new (told.same refl) own

-- ---- any look-up that stands so

module _ (b : Began) (old new : Streams) (before now : ℕ) (then : before ≤ now) (search : PrefixSearch) (answer : DiskAnswer) (stands : Stands b old before search)
    (told : IsAnswered (ask_of search) b.state old new before now answer) where
  abbrev pub own_search : PrefixSearch
  own_search = record { head = head_in b stands.names; stage = stands.stage }

  own_told : IsAnswered (ask_of own_search) b.state old new before now answer
  own_told = subst (λ (s : PrefixSearch). IsAnswered (ask_of s) b.state old new before now answer) stands.is told

  pub turns : StandsAfter b new now (fed search answer) × (calls_after new (fed search answer) < calls_at old search.stage)
  turns =
      subst (λ (s : PrefixSearch). StandsAfter b new now (fed s answer) × (calls_after new (fed s answer) < calls_at old s.stage)) (sym stands.is)
      (stage_turns b stands.prefix old new before now stands.later then stands.names stands.distinct answer stands.stage stands.named stands.own stands.at stands.breaks own_told)

  pub owns_after : OwnsOne b (own_after search.stage answer) new
  owns_after =
      subst (λ (s : PrefixSearch). OwnsOne b (own_after s.stage answer) new) (sym stands.is)
      (stage_owns b stands.prefix old new before now stands.later then stands.names stands.distinct answer stands.stage stands.own own_told)

pub owns_at : (b : Began) (old : Streams) (before : ℕ) (search : PrefixSearch) → Stands b old before search → OwnsOne b (own_at search.stage) old
owns_at b old before search stands = subst (λ (s : PrefixSearch). OwnsOne b (own_at s.stage) old) (sym stands.is) stands.own
