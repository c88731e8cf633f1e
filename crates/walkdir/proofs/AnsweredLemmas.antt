-- Laws of what the calls of a walk were answered.
pub mod Calls
pub mod Handled
pub mod Loops
pub mod Steps
use Rattle.std.proofs.Common.{◌≡◌, ℕ, inl, inr, true, List, [], ◌∷◌, ◌++◌, reverse, Option, Some, None, Ok, Err, sym, ap, subst, ◌∙◌}
use Rattle.odb_base.specs.Path.{Path}
use Rattle.odb_disk.specs.CallsMade.{Leads}
use Rattle.odb_disk.specs.declared.ask.DiskAsk.{DiskAsk}
use Rattle.odb_disk.specs.declared.ask.DiskAsk.TheVariants as asks
use Rattle.odb_disk.specs.declared.ask.DiskAnswer.{DiskAnswer}
use Rattle.odb_disk.specs.declared.ask.DiskAnswer.TheVariants as answers
use Rattle.odb_disk.proofs.CallsMadeLaws.{answered_wider, leads_by_one, leads_nowhere, leads_on}
use Rattle.walkdir.specs.Answered.{AreHeld, AreListsTold, IsHeld, IsHeldIn, IsItemTold, IsPlaceTold, IsStackTold, IsTold, IsToldIn}
use Rattle.walkdir.specs.AnsweredTurns.{IsItemHeld, IsKnown, IsSeenIn}
use Rattle.walkdir.specs.Directory.{TakesHeld, held}
use Rattle.walkdir.specs.Turns.AtIndex.{Puts}
use Rattle.walkdir.specs.Walk.{Item}
use Rattle.walkdir.specs.Walk.Entries.{place_of}
use Rattle.walkdir.specs.declared.error.Error.{Error}
use Rattle.walkdir.specs.declared.error.ErrorInner.{ErrorInner}
use Rattle.walkdir.specs.declared.error.ErrorInner.TheVariants.{Io, Loop, NoMemory}
use Rattle.walkdir.specs.declared.directory.DirList.{DirList}
use Rattle.walkdir.specs.declared.directory.Items.{Items}
use Rattle.walkdir.specs.declared.directory.Place.{Place}
use Rattle.walkdir.proofs.StackLemmas.{reversed_at}

module _ {D : Type 0} (answered : D → DiskAsk → DiskAnswer → D → Type 0) where
  pub leads_by : (old new : D) {ask : DiskAsk} {answer : DiskAnswer} → answered old ask answer new → Leads answered old new
  leads_by old new {ask} {answer} by = leads_by_one answered old new ask answer by

  pub leads_then : (first old new : D) → Leads answered first old → Leads answered old new → Leads answered first new
  leads_then first old new earlier later = leads_on answered first old new earlier later

  pub leads_still : (at : D) → Leads answered at at
  leads_still at = leads_nowhere answered at

  -- ---- between disks further apart

  pub place_wider : (first before after last : D) (path : Path) (place : Place) → Leads answered first before
      → IsPlaceTold answered before after path place → Leads answered after last
      → IsPlaceTold answered first last path place
  place_wider first before after last path place earlier told later =
      (told.0, answered_wider answered first before after last (asks.Look path true) (answers.Meta told.0) earlier told.1 later, told.2)

  pub error_wider : (first before after last : D) (inner : ErrorInner) → Leads answered first before → IsToldIn answered before after inner
      → Leads answered after last → IsToldIn answered first last inner
  error_wider first before after last (Io (Some path) error) earlier (inl told) later =
      inl (told.0, answered_wider answered first before after last (asks.Look path told.0) (answers.Refused error) earlier told.1 later)
  error_wider first before after last (Io (Some path) error) earlier (inr told) later =
      inr (answered_wider answered first before after last (asks.OpenDir path) (answers.Refused error) earlier told later)
  error_wider first before after last (Io None error) earlier told later =
      (told.0, answered_wider answered first before after last (asks.NextEntry told.0) (answers.Refused error) earlier told.1 later)
  error_wider first before after last (Loop ancestor child) earlier told later = record {
    meta = told.meta;
    looked = answered_wider answered first before after last (asks.Look child true) (answers.Meta told.meta) earlier told.looked later;
    kind = told.kind;
    above = place_wider first before after last ancestor (place_of told.meta) earlier told.above later;
  }
  error_wider first before after last NoMemory earlier told later = tt

  -- an error that a directory still has
  held_wider : (first before after last : D) (inner : ErrorInner) → Leads answered first before → IsHeldIn answered before after inner
      → Leads answered after last → IsHeldIn answered first last inner
  held_wider first before after last (Io (Some path) error) earlier held later =
      answered_wider answered first before after last (asks.OpenDir path) (answers.Refused error) earlier held later
  held_wider first before after last (Io None error) earlier held later =
      (held.0, answered_wider answered first before after last (asks.NextEntry held.0) (answers.Refused error) earlier held.1 later)
  held_wider first before after last (Loop ancestor child) earlier held later = absurd held
  held_wider first before after last NoMemory earlier held later = tt

  held_told : (first now : D) (inner : ErrorInner) → IsHeldIn answered first now inner → IsToldIn answered first now inner
  held_told first now (Io (Some path) error) held = inr held
  held_told first now (Io None error) held = held
  held_told first now (Loop ancestor child) held = absurd held
  held_told first now NoMemory held = tt

  -- an error that stats reported
  pub seen_since : (first old new : D) (inner : ErrorInner) → Leads answered first old → IsSeenIn answered old new inner
      → IsSeenIn answered first new inner
  seen_since first old new (Io (Some path) error) earlier seen =
      (seen.0, answered_wider answered first old new new (asks.Look path seen.0) (answers.Refused error) earlier seen.1 (leads_nowhere answered new))
  seen_since first old new (Io None error) earlier seen = absurd seen
  seen_since first old new (Loop ancestor child) earlier seen =
      error_wider first old new new (Loop ancestor child) earlier seen (leads_nowhere answered new)
  seen_since first old new NoMemory earlier seen = tt

  seen_told : (first now : D) (inner : ErrorInner) → IsSeenIn answered first now inner → IsToldIn answered first now inner
  seen_told first now (Io (Some path) error) seen = inl seen
  seen_told first now (Io None error) seen = absurd seen
  seen_told first now (Loop ancestor child) seen = seen
  seen_told first now NoMemory seen = tt

  pub error_seen : (first now : D) (error : Error) → IsSeenIn answered first now error.inner → IsToldIn answered first now error.inner
  error_seen first now error seen = seen_told first now error.inner seen

  item_wider : (first before after last : D) (item : Item) → Leads answered first before → IsTold answered before after item
      → Leads answered after last → IsTold answered first last item
  item_wider first before after last (Ok entry) earlier told later = tt
  item_wider first before after last (Err error) earlier told later = error_wider first before after last error.inner earlier told later

  pub item_held : (first now : D) (item : Option Item) → IsItemHeld answered first now item → IsItemTold answered first now item
  item_held first now None held = tt
  item_held first now (Some (Ok entry)) held = tt
  item_held first now (Some (Err error)) held = held_told first now error.inner held

  one_wider : (first before after last : D) (item : Item) → Leads answered first before → IsHeld answered before after item
      → Leads answered after last → IsHeld answered first last item
  one_wider first before after last (Ok entry) earlier held later = tt
  one_wider first before after last (Err error) earlier held later = held_wider first before after last error.inner earlier held later

  pub drawn_wider : (first before after last : D) (item : Option Item) → Leads answered first before → IsItemHeld answered before after item
      → Leads answered after last
      → IsItemHeld answered first last item
  drawn_wider first before after last None earlier held later = tt
  drawn_wider first before after last (Some item) earlier held later = one_wider first before after last item earlier held later

  pub are_wider : (first before after last : D) (items : List Item) → Leads answered first before → AreHeld answered before after items
      → Leads answered after last → AreHeld answered first last items
  are_wider first before after last [] earlier told later = tt
  are_wider first before after last (item ∷ items) earlier told later =
      (one_wider first before after last item earlier told.0 later, are_wider first before after last items earlier told.1 later)

  -- since an earlier disk
  pub item_since : (first old new : D) (item : Option Item) → Leads answered first old → IsItemHeld answered old new item
      → IsItemHeld answered first new item
  item_since first old new item earlier held = drawn_wider first old new new item earlier held (leads_nowhere answered new)

  pub are_since : (first old new : D) (items : List Item) → Leads answered first old → AreHeld answered old new items
      → AreHeld answered first new items
  are_since first old new items earlier told = are_wider first old new new items earlier told (leads_nowhere answered new)

  -- up to a later disk
  pub item_later : (first now last : D) (item : Option Item) → Leads answered now last → IsItemTold answered first now item
      → IsItemTold answered first last item
  item_later first now last None later told = tt
  item_later first now last (Some item) later told = item_wider first first now last item (leads_nowhere answered first) told later

  pub known_later : (first now last : D) (path : Path) (place : Option Place) → Leads answered now last → IsKnown answered first now path place
      → IsKnown answered first last path place
  known_later first now last path None later known = tt
  known_later first now last path (Some place) later known = place_wider first first now last path place (leads_nowhere answered first) known later

  lists_later : (first now last : D) (stack : List DirList) → Leads answered now last → AreListsTold answered first now stack
      → AreListsTold answered first last stack
  lists_later first now last [] later told = tt
  lists_later first now last (list ∷ outer) later told = (
    (
      are_wider first first now last (held list.items) (leads_nowhere answered first) told.0.0 later,
      known_later first now last list.path list.place later told.0.1,
    ),
    lists_later first now last outer later told.1,
  )

  pub stack_later : (first now last : D) (stack : List DirList) → IsStackTold answered first now stack → Leads answered now last
      → IsStackTold answered first last stack
  stack_later first now last stack told later =
      record { leads = leads_on answered first now last told.leads later; lists = lists_later first now last stack later told.lists }

  pub stack_as : (first now : D) (old new : List DirList) → new ≡ old → IsStackTold answered first now old → IsStackTold answered first now new
  stack_as first now old new same told = subst (λ (l : List DirList). IsStackTold answered first now l) (sym same) told

  -- ---- the stack

  lists_put : (first now : D) (inner : List DirList) (list : DirList) (items : Items) (outer : List DirList)
      → AreListsTold answered first now (inner ++ list ∷ outer)
      → AreHeld answered first now (held items) → AreListsTold answered first now (inner ++ (record list { items = items }) ∷ outer)
  lists_put first now [] list items outer told held_told = ((held_told, told.0.1), told.1)
  lists_put first now (next ∷ inner) list items outer told held_told = (told.0, lists_put first now inner list items outer told.1 held_told)

  pub stack_put : (first now : D) (old new : List DirList) (index : ℕ) (items : Items) → Puts old new index items
      → IsStackTold answered first now (reverse old) → AreHeld answered first now (held items)
      → IsStackTold answered first now (reverse new)
  stack_put first now old new index items puts told held_told = record {
    leads = told.leads;
    lists = subst (λ (l : List DirList). AreListsTold answered first now l)
        (sym (ap reverse puts.is ∙ reversed_at puts.outer (record puts.list { items = items }) puts.inner))
        (lists_put first now (reverse puts.inner) puts.list items (reverse puts.outer)
        (subst (λ (l : List DirList). AreListsTold answered first now l) (ap reverse puts.was
        ∙ reversed_at puts.outer puts.list puts.inner) told.lists) held_told);
  }

  pub stack_push : (first now : D) (list : DirList) (outer new : List DirList) → new ≡ list ∷ outer → IsStackTold answered first now outer
      → AreHeld answered first now (held list.items)
      → IsKnown answered first now list.path list.place → IsStackTold answered first now new
  stack_push first now list outer new is told held_told known =
      subst (λ (l : List DirList). IsStackTold answered first now l) (sym is)
      (record { leads = told.leads; lists = ((held_told, known), told.lists) })

  pub stack_pop : (first now : D) (list : DirList) (old new : List DirList) → old ≡ list ∷ new → IsStackTold answered first now old
      → IsStackTold answered first now new
  stack_pop first now list old new was told =
      let both_told : AreListsTold answered first now (list ∷ new) = subst (λ (l : List DirList). AreListsTold answered first now l) was told.lists in
      record { leads = told.leads; lists = both_told.1 }

  -- what was read of the innermost directory
  pub top_told : (first now : D) (list : DirList) (stack outer : List DirList) → stack ≡ list ∷ outer → IsStackTold answered first now stack
      → AreHeld answered first now (held list.items)
  top_told first now list stack outer is told =
      let all : AreListsTold answered first now (list ∷ outer) = subst (λ (l : List DirList). AreListsTold answered first now l) is told.lists in
      all.0.0

  pub taken_told : (first now : D) (old : Items) (item : Option Item) (new : Items) → TakesHeld old item new → AreHeld answered first now (held old)
      → AreHeld answered first now (held new) × IsItemHeld answered first now item
  taken_told first now old None new takes told = (subst (AreHeld answered first now) (sym takes.1.nothing) tt, tt)
  taken_told first now old (Some item) new takes told =
      let all : AreHeld answered first now (item ∷ held new) = subst (AreHeld answered first now) takes.0 told in (all.1, all.0)

  pub none_told : (first now : D) (items : List Item) → items ≡ [] → AreHeld answered first now items
  none_told first now items none = subst (AreHeld answered first now) (sym none) tt
