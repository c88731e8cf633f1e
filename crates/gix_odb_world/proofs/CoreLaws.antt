-- Laws of what a core answers to the events of look-ups, as its journal grows by each.
pub mod Wider
pub mod Fairness
pub mod MultiRows
mod HeldRows
pub mod LastListing
pub mod Journals
pub mod Shapes
mod Answers
use Rattle.std.proofs.Common.{◌≡◌, ℕ, ◌≤◌, List, [], ◌∷◌, ◌++◌, length, Contains, Option, Some, Ok, inr, refl, sym, ap, subst, ◌∙◌, arith}
use Rattle.odb_base.specs.Path.{Path}
use Rattle.gix_hash.specs.declared.kind.Kind.{Kind}
use Rattle.gix_hash.specs.declared.object_id.ObjectId.{ObjectId}
use Rattle.gix_odb_core.specs.Possible.{IsOpened, IsPossible}
use Rattle.gix_odb_events.specs.Answers as core
use Rattle.gix_odb_core.specs.Replay.{CanHappen, IsLegal, IsNext, answer_of, number_behind, replay}
use Rattle.gix_odb_events.specs.Answers.{view_in}
use Rattle.gix_odb_core.specs.State.{entry_of}
use Rattle.gix_odb_core.specs.Steps.{IsShape}
use Rattle.gix_odb_events.specs.View.{last_state}
use Rattle.gix_odb_core.specs.Views.{view_of}
use Rattle.gix_odb_events.specs.declared.event.Effect.TheVariants as effects
use Rattle.gix_odb_events.specs.declared.event.Event.{Event}
use Rattle.gix_odb_core.specs.declared.journal.Entry.{Entry}
use Rattle.gix_odb_core.specs.declared.shape.Shape.{Shape}
use Rattle.gix_odb_events.specs.declared.view.View.{View}
use Rattle.gix_odb_core.proofs.NumberLaws.{entries_lower_no_number}
use Rattle.gix_odb_core.proofs.ShapeLaws.{journal_comes_to_a_shape, possible_journal_grows}
use Rattle.gix_odb_core.proofs.SnapshotLaws.{entry_hands_the_view_behind_it}
use Rattle.gix_odb_events.specs.declared.answer.Answer.TheVariants as told
use Rattle.gix_odb_events.specs.declared.answer.Ask.TheVariants as asks
use Rattle.gix_object.specs.declared.want.Want.{Want}
use Rattle.gix_odb_calls.specs.declared.verdict.Verdict.{Verdict}
use Rattle.gix_odb.specs.LookExchanges.{Exchange, IsAnswerTo}
use Rattle.gix_odb.specs.Fair.{HasRows, IsCarried, IsFair, IsIndexSound, ItsIndex, PackedPlace, index_at}
use Rattle.gix_odb.specs.Laps.{Follows, HasFew, IsNumbered, number_by}
use Rattle.gix_odb.specs.LookUpOrder.{Setting}
use Rattle.gix_odb.specs.Shown.{IsHanded, IsShownView, ShowedBytes}
use Rattle.gix_odb.specs.Store.{listed_for}
use Rattle.gix_odb.specs.True.{IsTrue}
use Rattle.gix_odb_world.proofs.ViewLaws.{what_a_core_shows_was_shown}
use Rattle.gix_odb_world.proofs.CoreLaws.Answers.{answer_follows_its_base, answer_suits_its_event, number_behind_gives, outdated_tells_the_number}
use Rattle.gix_odb_world.proofs.CoreLaws.Fairness.{shown_views_are_fair}
use Rattle.gix_odb_world.proofs.CoreLaws.Journals.{each_of_grown, legal_journal_grows, next_entry_lowers_no_number}
use Rattle.gix_odb_world.proofs.CoreLaws.MultiRows.{MultisHaveOne, published_views_have_their_rows}
use Rattle.gix_odb_world.proofs.CoreLaws.Shapes.{entries_stay_below, shape_shows_few}

-- an event of the handle of a seat is answered after a journal, which has one more entry then
module _ (opening : Shape) (entries : List Entry) (seat : ℕ) (event : Event) (answer : core.Answer)
    (answered : answer ≡ answer_of entries (replay opening entries) (number_behind entries) seat event) where
  abbrev entry : Entry
  entry = entry_of entries seat event answer

  abbrev now : List Entry
  now = entries ++ entry ∷ []

  abbrev before_it : Shape
  before_it = replay opening entries

  abbrev behind_it : Shape
  behind_it = replay opening now

  next : IsNext opening entries entry
  next = record { numbered = refl; answered = inr answered }

  -- a view that it passes is that of the shape after it
  view_shows_it : (view : View) → view_in answer ≡ Some view → view ≡ view_of behind_it (number_behind entries)
  view_shows_it view handed = entry_hands_the_view_behind_it opening entries entry view next handed

  -- ---- of which kind the answer is

  pub core_answers_suit_their_events : IsAnswerTo (asks.Core event) (told.Core answer)
  core_answers_suit_their_events =
      subst (λ (a : core.Answer). IsAnswerTo (asks.Core event) (told.Core a)) (sym answered)
      (answer_suits_its_event entries before_it (number_behind entries) seat event)

  -- ---- its number

  module _ (before : ℕ) (no_later : before ≤ before_it.list_no) where
    abbrev IsBetween : ℕ → Type 0
    IsBetween number = (before ≤ number) × (number ≤ behind_it.list_no)

    number_is_between : IsBetween (number_by before (told.Core answer))
    number_is_between = number_behind_gives IsBetween before answer outdated shows (omega arith, omega (arith, rises))
      where
        rises : before_it.list_no ≤ behind_it.list_no
        rises = (next_entry_lowers_no_number entries entry opening).list_no

        outdated : (number : ℕ) → answer ≡ Ok (effects.Outdated number) → IsBetween number
        outdated number is =
            let same : before_it.list_no ≡ number = outdated_tells_the_number entries before_it (number_behind entries) seat event number (sym answered ∙ is) in
            (omega arith, omega (arith, rises))

        shows : (view : View) → view_in answer ≡ Some view → IsBetween view.list_no
        shows view handed =
            let same : view.list_no ≡ behind_it.list_no = ap (λ (v : View). v.list_no) (view_shows_it view handed) in
            (omega (arith, rises), omega arith)

    -- the number after an answer is at most that of the list then
    pub core_answers_tell_no_later_number : number_by before (told.Core answer) ≤ behind_it.list_no
    core_answers_tell_no_later_number = number_is_between.1

    -- The answered numbers never fall, a publish makes the next number of its base, and a view has no more indices than there are slots. The
    -- state number that the core was made with is a number of 64 bits.
    pub core_answers_are_numbered : IsOpened opening → opening.state_id ≤ last_state → IsPossible opening entries → CanHappen before_it seat event
        → (slots : ℕ) → slots ≡ length opening.slots
        → IsNumbered slots before (asks.Core event) (told.Core answer)
    core_answers_are_numbered opened below possible can slots many = (number_is_between.0, follows, few)
      where
        shape_before : IsShape before_it
        shape_before = journal_comes_to_a_shape opening opened entries possible

        shape_behind : IsShape behind_it
        shape_behind = journal_comes_to_a_shape opening opened now (possible_journal_grows entries opening entry possible can)

        follows : Follows before event answer
        follows =
            let numbered = shape_before.numbered in
            let last = entries_stay_below entries opening below in
            subst (Follows before event) (sym answered) (answer_follows_its_base entries before_it (number_behind entries) seat before (omega arith) event)

        shows_few : HasFew slots (view_of behind_it (number_behind entries))
        shows_few =
            let shows = shape_shows_few behind_it shape_behind in
            let same = (entries_lower_no_number now opening).slots in
            let numbered = shape_behind.numbered in
            let last = entries_stay_below now opening below in
            (omega arith, omega arith)

        few : (view : View) → view_in answer ≡ Some view → HasFew slots view
        few view handed = subst (HasFew slots) (sym (view_shows_it view handed)) shows_few

  -- ---- what it shows

  module _ (opened : IsOpened opening) (legal : IsLegal opening entries) (possible : IsPossible opening entries) (can : CanHappen before_it seat event)
      (Shown : Path → ℕ → List ℕ → Type 0) (setting : Setting) (hash : Kind)
      (each : (one : Entry) → Contains entries one → IsHanded Shown setting hash one.event) (handed : IsHanded Shown setting hash event) where
    legal_now : IsLegal opening now
    legal_now = legal_journal_grows entries entry opening legal next

    possible_now : IsPossible opening now
    possible_now = possible_journal_grows entries opening entry possible can

    handed_now : (one : Entry) → Contains now one → IsHanded Shown setting hash one.event
    handed_now = each_of_grown entries entry (λ (one : Entry). IsHanded Shown setting hash one.event) each handed

    -- it shows what was shown, where only such files, and rows of the folders, were passed to the core
    pub core_answers_show_what_was_shown : (view : View) → view_in answer ≡ Some view → IsShownView Shown setting hash view
    core_answers_show_what_was_shown view shows =
        subst (IsShownView Shown setting hash) (sym (view_shows_it view shows))
        (what_a_core_shows_was_shown Shown setting hash now handed_now opening opened legal_now possible_now (number_behind entries))

    pub core_answers_are_true : IsTrue Shown setting hash (asks.Core event) (told.Core answer)
    core_answers_are_true = core_answers_show_what_was_shown

    -- and it is fair to a place where all that was shown as its index is sound, and no multi-pack index was shown with two contents at one time
    pub core_answers_are_fair : MultisHaveOne Shown setting → (id : ObjectId) (place : PackedPlace) → IsCarried (listed_for setting.parts).multi place
        → (place.carrier ≡ ItsIndex → (bytes : List ℕ) → ShowedBytes Shown (index_at place) bytes → IsIndexSound (listed_for setting.parts).multi hash id place bytes)
        → (past : List Exchange) → IsFair (listed_for setting.parts).multi hash id place past (asks.Core event) (told.Core answer)
    core_answers_are_fair rule id place carried index_sound past = (
      λ view shows.
          shown_views_are_fair (listed_for setting.parts).multi hash id place carried Shown setting index_sound view (core_answers_show_what_was_shown view shows),
      subst (HasRows event) (sym answered)
          (published_views_have_their_rows Shown setting hash rule opening opened entries seat event answer answered legal_now possible_now handed_now handed),
    )
