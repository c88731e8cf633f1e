-- What a handle sees of the core of its store: what was read since the store was opened, and no more than there are slots.
use Rattle.std.proofs.Common.{◌≡◌, ℕ, zero, suc, ◌≤◌, List, [], ◌∷◌, ◌++◌, length, take, Contains, Option, Some, None, refl, sym, ◌∙◌, ap, subst, arith}
use Rattle.std.specs.Prelude.{slice_get, unwrap_or}
use Rattle.std.specs.List.{All}
use Rattle.std.proofs.lemmas.List.{length-replicate}
use Rattle.std.proofs.lemmas.List.Elements.{Contains-append_left}
use Rattle.odb_disk.specs.MemDisk.{Volume}
use Rattle.gix_odb_core.specs.History.{History}
use Rattle.gix_odb_core.specs.Possible.{IsOpened, IsPossible}
use Rattle.gix_odb_core.specs.Replay.{IsLegal, IsNext, number_behind, replay, snapshot_of}
use Rattle.gix_odb_events.specs.Answers.{view_in}
use Rattle.gix_odb_core.specs.Snapshots.{IsHandedLast}
use Rattle.gix_odb_core.specs.Steps.{IsShape}
use Rattle.gix_odb_core.specs.Views.{view_of}
use Rattle.gix_odb_core.specs.declared.journal.Entry.{Entry}
use Rattle.gix_odb_core.specs.declared.shape.Shape.{Shape}
use Rattle.gix_odb_events.specs.declared.view.View.{View}
use Rattle.gix_odb_core.proofs.NumberLaws.{entries_lower_no_number}
use Rattle.gix_odb_core.proofs.ShapeLaws.{journal_comes_to_a_shape, possible_journal_splits}
use Rattle.gix_odb_core.proofs.SnapshotLaws.{entry_hands_the_view_behind_it, snapshot_is_the_last_view_handed}
use Rattle.gix_odb.specs.Shown.{IsShownView}
use Rattle.gix_odb_world.proofs.CoreLaws.Shapes.{shape_shows_few}
use Rattle.gix_odb_world.proofs.ViewLaws.{what_a_core_shows_was_shown}
use Rattle.gix_odb.specs.Contents.{folder_list}
use Rattle.gix_odb.specs.HandleState.{unseen}
use Rattle.gix_odb_world.specs.AtWork.{Modes, Store, setting_in}
use Rattle.gix_odb_history.specs.Cores.{cores_after}
use Rattle.gix_odb_history.specs.Event.{Event}
use Rattle.gix_odb_world.specs.Seats.{IsSeated}
use Rattle.gix_odb_world.proofs.Stock.OneCore.{IsOfStore, IsStocked, ShownSince}

-- ---- the prefix of a journal

seam : {A : Type 0} (xs : List A) (x : A) (ys : List A) → slice_get (xs ++ x ∷ ys) (length xs) ≡ Some x
seam [] x ys = refl
seam (z ∷ xs) x ys = seam xs x ys

front : {A : Type 0} (xs ys : List A) → take (length xs) (xs ++ ys) ≡ xs
front [] [] = refl
front [] (y ∷ ys) = refl
front (x ∷ xs) ys = ap (λ zs. x ∷ zs) (front xs ys)

kept_in_front : {A : Type 0} (xs ys : List A) (i : ℕ) (x : A) → slice_get xs i ≡ Some x → (slice_get (xs ++ ys) i ≡ Some x) × (take i (xs ++ ys) ≡ take i xs)
kept_in_front [] ys i x is = absurd (cc is)
kept_in_front (z ∷ xs) ys zero x is = (is, refl)
kept_in_front (z ∷ xs) ys (suc i) x is = let rest = kept_in_front xs ys i x is in (rest.0, ap (λ zs. z ∷ zs) rest.1)

legal_front : (opening : Shape) (past later : List Entry) → IsLegal opening (past ++ later) → IsLegal opening past
legal_front opening past later legal i entry there =
    let whole = kept_in_front past later i entry there in
    subst (λ before. IsNext opening before entry) whole.1 (legal i entry whole.0)

shift : {A : Type 0} (xs : List A) (x : A) (ys : List A) → xs ++ x ∷ ys ≡ (xs ++ x ∷ []) ++ ys
shift [] x ys = refl
shift (z ∷ xs) x ys = ap (λ zs. z ∷ zs) (shift xs x ys)

module _ (first : Volume) (events : List Event) (store : Store) (history : History) (of : IsOfStore first events store history) where
  abbrev pub Shows : View → Type 0
  Shows view = IsShownView (ShownSince first events store) (setting_in store) store.parts.object_hash view × (length view.snapshot.indices ≤ of.slots)

  pub is_opened : IsOpened history.opening
  is_opened = record { slots = of.slots; folders = length (folder_list store.parts); generation = 0; state = 0; is = of.opening }

  pub slots_are : length history.opening.slots ≡ of.slots
  slots_are = ap (λ (s : Shape). length s.slots) of.opening ∙ length-replicate of.slots None

  -- a view that an entry passes on shows what was read
  module _ (past : List Entry) (entry : Entry) (later : List Entry) (splits : history.entries ≡ past ++ entry ∷ later) where
    abbrev to_here : List Entry
    to_here = past ++ entry ∷ []

    split : history.entries ≡ to_here ++ later
    split = splits ∙ shift past entry later

    legal_here : IsLegal history.opening to_here
    legal_here = legal_front history.opening to_here later (subst (IsLegal history.opening) split of.legal)

    next : IsNext history.opening past entry
    next =
        subst (λ before. IsNext history.opening before entry) (front past (entry ∷ []))
        (legal_here (length past) entry (seam past entry []))

    possible_here : IsPossible history.opening to_here
    possible_here = (possible_journal_splits to_here later history.opening (subst (IsPossible history.opening) split of.possible)).0

    shape_here : IsShape (replay history.opening to_here)
    shape_here = journal_comes_to_a_shape history.opening is_opened to_here possible_here

    pub shows_here : (view : View) → view ≡ view_of (replay history.opening to_here) (number_behind past) → Shows view
    shows_here view is =
        let few = shape_shows_few (replay history.opening to_here) shape_here in
        let same = (entries_lower_no_number to_here history.opening).slots in
        let many = slots_are in
        subst Shows (sym is) (
          what_a_core_shows_was_shown (ShownSince first events store) (setting_in store) store.parts.object_hash to_here
              (λ one among. of.handed one (subst (λ es. Contains es one) (sym split) (Contains-append_left to_here later one among)))
              history.opening is_opened legal_here possible_here (number_behind past),
          grind (arith, few, same, many),
        )

    pub hands_over : (view : View) → view_in entry.answer ≡ Some view → Shows view
    hands_over view handed = shows_here view (entry_hands_the_view_behind_it history.opening past entry view next handed)

  unseen_shows : Shows unseen
  unseen_shows = (record { indices = none _; kept = none _; todo = none _ }, omega arith)
    where
      none : {A : Type 0} (P : A → Type 0) → All P []
      none P i d within = absurd (omega (arith, within))

  -- a handle's snapshot shows what was read
  pub snapshot_shows : (seat : ℕ) → Shows (unwrap_or (snapshot_of seat history.entries) unseen)
  snapshot_shows seat = by (snapshot_of seat history.entries) refl
    where
      by : (o : Option View) → snapshot_of seat history.entries ≡ o → Shows (unwrap_or o unseen)
      by None is = unseen_shows
      by (Some view) is =
          let last : IsHandedLast seat history.entries view = snapshot_is_the_last_view_handed seat history.entries view is in
          hands_over last.past last.entry last.later last.splits view last.handed

-- the core of a store has as many slots as a handle says that is seated there
pub slots_of_seat : (first : Volume) (events : List Event) (handle : ℕ) (store : Store) (modes : Modes) → IsSeated (cores_after events) handle modes
    → (stock : IsStocked first events modes.core store) → stock.of.slots ≡ modes.slots
slots_of_seat first events handle store modes seated stock =
    let both : Some stock.history ≡ Some seated.history = sym stock.there ∙ seated.there in
    let same : stock.history ≡ seated.history = cc both in
    sym (slots_are first events store stock.history stock.of) ∙ (ap (λ (h : History). length h.opening.slots) same ∙ seated.slots)
