-- Which entry of a journal returned a handle its snapshot, for laws of what journals say.
use Rattle.std.specs.Prelude.{◌≡◌, ◌++◌, ◌==◌, ℕ, List, [], ◌∷◌, filter, Some}
use Rattle.std.specs.List.{filter_map}
use Rattle.gix_odb_events.specs.Answers.{view_in}
use Rattle.gix_odb_core.specs.declared.journal.Entry.{Entry}
use Rattle.gix_odb_events.specs.declared.view.View.{View}

-- the views that entries returned to the handle of a seat, in order
abbrev pub handed_to : (seat : ℕ) → List Entry → List View
handed_to seat entries = filter_map (λ entry. view_in entry.answer) (filter (λ entry. entry.seat == seat) entries)

-- an entry of the handle returned the view, and no later one returned it another
pub record IsHandedLast (seat : ℕ) (entries : List Entry) (view : View) : Type 0 where
  pub past : List Entry
  pub entry : Entry
  pub later : List Entry
  pub splits : entries ≡ past ++ entry ∷ later
  pub own : entry.seat ≡ seat
  pub handed : view_in entry.answer ≡ Some view
  pub last : handed_to seat later ≡ []
