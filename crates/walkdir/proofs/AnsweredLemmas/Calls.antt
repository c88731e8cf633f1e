-- What one call of a walk was answered, and what a stream gave.
use Rattle.std.proofs.Common.{◌≡◌, ℕ, inl, inr, Bool, true, List, [], ◌∷◌, ◌++◌, map, Result, Ok, Err, refl, sym, subst}
use Rattle.std.specs.Prelude.{IfErr, IfOk}
use Rattle.std.specs.List.{filter_map}
use Rattle.odb_base.specs.Path.{Path}
use Rattle.odb_disk.specs.CallsMade.{Leads}
use Rattle.odb_disk.specs.declared.ask.DiskAsk.{DiskAsk}
use Rattle.odb_disk.specs.declared.ask.DiskAsk.TheVariants as asks
use Rattle.odb_disk.specs.declared.ask.DiskAnswer.{DiskAnswer}
use Rattle.odb_disk.specs.declared.ask.DiskAnswer.TheVariants as answers
use Rattle.odb_disk.specs.declared.disk_error.DiskError.{DiskError}
use Rattle.odb_disk.specs.declared.disk_error.DiskError.TheVariants as refusals
use Rattle.odb_disk.specs.declared.meta.Meta.{Meta}
use Rattle.odb_disk.proofs.CallsMadeLaws.{answered_here, leads_by_one, leads_nowhere}
use Rattle.walkdir.specs.Answered.{AreHeld, IsHeld, IsHeldIn, IsLookRefused, IsPlaceTold, IsToldIn, LooksBy}
use Rattle.walkdir.specs.AnsweredTurns.{IsSeenIn, TellsContents}
use Rattle.walkdir.specs.Error.{IsFromPath, is_no_memory, is_no_memory_inner, no_memory, stream_failed}
use Rattle.walkdir.specs.Directory.{held}
use Rattle.walkdir.specs.Turns.Drawn.{OnlyFailure}
use Rattle.walkdir.specs.Walk.Children.{IsInOrder, error_in}
use Rattle.walkdir.specs.Walk.{Item, Order}
use Rattle.walkdir.specs.Walk.Entries.{place_of}
use Rattle.walkdir.specs.declared.dent.DirEntry.{DirEntry}
use Rattle.walkdir.specs.declared.error.Error.{Error}
use Rattle.walkdir.specs.declared.error.ErrorInner.{ErrorInner}
use Rattle.walkdir.specs.declared.error.ErrorInner.TheVariants.{Io, Loop, NoMemory}
use Rattle.walkdir.specs.declared.directory.Items.{Items}
use Rattle.walkdir.specs.declared.directory.Place.{Place}
use Rattle.walkdir.proofs.AnsweredLemmas.{are_since, are_wider, leads_by, leads_then, place_wider, seen_since}

module _ {D : Type 0} (answered : D → DiskAsk → DiskAnswer → D → Type 0) where
  -- ---- one call

  lost_told : (first now : D) (inner : ErrorInner) → is_no_memory_inner inner ≡ true → IsToldIn answered first now inner
  lost_told first now (Io path error) is = absurd cc
  lost_told first now (Loop ancestor child) is = absurd cc
  lost_told first now NoMemory is = tt

  pub no_memory_told : (first now : D) (error : Error) → is_no_memory error ≡ true → IsToldIn answered first now error.inner
  no_memory_told first now error is = lost_told first now error.inner is

  refused_told : (old new : D) (depth : ℕ) (path : Path) (refusal : DiskError) (error : Error) → IsFromPath depth path refusal error
      → IsLookRefused answered old new path refusal → IsSeenIn answered old new error.inner
  refused_told old new depth path refusals.Absent error (inl is) call = subst (λ (e : Error). IsSeenIn answered old new e.inner) (sym is) call
  refused_told old new depth path refusals.Absent error (inr lost) call = subst (λ (e : Error). IsSeenIn answered old new e.inner) (sym lost) tt
  refused_told old new depth path refusals.WrongKind error (inl is) call = subst (λ (e : Error). IsSeenIn answered old new e.inner) (sym is) call
  refused_told old new depth path refusals.WrongKind error (inr lost) call = subst (λ (e : Error). IsSeenIn answered old new e.inner) (sym lost) tt
  refused_told old new depth path refusals.LinkLoop error (inl is) call = subst (λ (e : Error). IsSeenIn answered old new e.inner) (sym is) call
  refused_told old new depth path refusals.LinkLoop error (inr lost) call = subst (λ (e : Error). IsSeenIn answered old new e.inner) (sym lost) tt
  refused_told old new depth path refusals.Exists error (inl is) call = subst (λ (e : Error). IsSeenIn answered old new e.inner) (sym is) call
  refused_told old new depth path refusals.Exists error (inr lost) call = subst (λ (e : Error). IsSeenIn answered old new e.inner) (sym lost) tt
  refused_told old new depth path refusals.NotEmpty error (inl is) call = subst (λ (e : Error). IsSeenIn answered old new e.inner) (sym is) call
  refused_told old new depth path refusals.NotEmpty error (inr lost) call = subst (λ (e : Error). IsSeenIn answered old new e.inner) (sym lost) tt
  refused_told old new depth path refusals.Failed error (inl is) call = subst (λ (e : Error). IsSeenIn answered old new e.inner) (sym is) call
  refused_told old new depth path refusals.Failed error (inr lost) call = subst (λ (e : Error). IsSeenIn answered old new e.inner) (sym lost) tt
  refused_told old new depth path refusals.NoMemory error lost call = subst (λ (e : Error). IsSeenIn answered old new e.inner) (sym lost) tt

  pub look_leads : (depth : ℕ) (path : Path) (follow : Bool) (old new : D) (result : Result Meta Error)
      → LooksBy answered depth path follow old result new → Leads answered old new
  look_leads depth path follow old new (Ok meta) by = leads_by_one answered old new (asks.Look path follow) (answers.Meta meta) by
  look_leads depth path follow old new (Err error) by = leads_by_one answered old new (asks.Look path follow) (answers.Refused by.0) by.1

  -- since an earlier disk
  pub look_refused : (first : D) (depth : ℕ) (path : Path) (follow : Bool) (old new : D) (error : Error) → Leads answered first old
      → LooksBy answered depth path follow old (Err error) new
      → IsSeenIn answered first new error.inner
  look_refused first depth path follow old new error earlier by =
      seen_since answered first old new error.inner earlier
      (refused_told old new depth path by.0 error by.2 (follow, answered_here answered old new (asks.Look path follow) (answers.Refused by.0) by.1))

  look_placed : (first : D) (depth : ℕ) (path : Path) (old new : D) (meta : Meta) → Leads answered first old
      → LooksBy answered depth path true old (Ok meta) new
      → IsPlaceTold answered first new path (place_of meta)
  look_placed first depth path old new meta earlier by =
      place_wider answered first old new new path (place_of meta) earlier (
        meta,
        answered_here answered old new (asks.Look path true) (answers.Meta meta) by,
        refl,
      ) (leads_nowhere answered new)

  -- a place that a stat reported, by the names that the code has
  pub look_known : (first : D) (depth : ℕ) (path at : Path) (old new : D) (meta : Meta) (place : Place) → Leads answered first old
      → LooksBy answered depth path true old (Ok meta) new → path ≡ at
      → place ≡ place_of meta → IsPlaceTold answered first new at place
  look_known first depth path at old new meta place earlier by same is =
      subst (λ (p : Path). IsPlaceTold answered first new p place) same
      (subst (λ (p : Place). IsPlaceTold answered first new path p) (sym is) (look_placed first depth path old new meta earlier by))

  pub stream_told : (old new : D) (depth : ℕ) {dir : ℕ} (refusal : DiskError) → answered old (asks.NextEntry dir) (answers.Refused refusal) new
      → IsHeldIn answered old new (stream_failed depth refusal).inner
  stream_told old new depth {dir} refusals.Absent by = (dir, answered_here answered old new (asks.NextEntry dir) (answers.Refused refusals.Absent) by)
  stream_told old new depth {dir} refusals.WrongKind by =
      (dir, answered_here answered old new (asks.NextEntry dir) (answers.Refused refusals.WrongKind) by)
  stream_told old new depth {dir} refusals.LinkLoop by =
      (dir, answered_here answered old new (asks.NextEntry dir) (answers.Refused refusals.LinkLoop) by)
  stream_told old new depth {dir} refusals.Exists by = (dir, answered_here answered old new (asks.NextEntry dir) (answers.Refused refusals.Exists) by)
  stream_told old new depth {dir} refusals.NotEmpty by =
      (dir, answered_here answered old new (asks.NextEntry dir) (answers.Refused refusals.NotEmpty) by)
  stream_told old new depth {dir} refusals.Failed by = (dir, answered_here answered old new (asks.NextEntry dir) (answers.Refused refusals.Failed) by)
  stream_told old new depth {dir} refusals.NoMemory by = tt

  pub unopened_told : (old new : D) (depth : ℕ) (path : Path) (refusal : DiskError) (items : Items) → OnlyFailure depth path refusal items
      → answered old (asks.OpenDir path) (answers.Refused refusal) new → AreHeld answered old new (held items)
  unopened_told old new depth path refusal items only by =
      subst (AreHeld answered old new) (sym only.1) (answered_here answered old new (asks.OpenDir path) (answers.Refused refusal) by, tt)

  pub contents_unopened : (old new : D) (depth : ℕ) (path : Path) (refusal : DiskError) (result : Result Items Error)
      → IfOk result (λ items. OnlyFailure depth path refusal items)
      → answered old (asks.OpenDir path) (answers.Refused refusal) new → TellsContents answered old result new
  contents_unopened old new depth path refusal (Ok items) only by =
      record { leads = leads_by answered old new by; told = unopened_told old new depth path refusal items only by }
  contents_unopened old new depth path refusal (Err error) only by = record { leads = leads_by answered old new by; told = tt }

  pub contents_after : (first old new : D) (result : Result Items Error) → Leads answered first old → TellsContents answered old result new
      → TellsContents answered first result new
  contents_after first old new (Ok items) earlier tells =
      record {
        leads = leads_then answered first old new earlier tells.leads;
        told = are_since answered first old new (held items) earlier tells.told;
      }
  contents_after first old new (Err error) earlier tells = record { leads = leads_then answered first old new earlier tells.leads; told = tt }

  pub contents_lost : (old new : D) (result : Result Items Error) (error : Error) → result ≡ Err error → Leads answered old new
      → TellsContents answered old result new
  contents_lost old new result error is leads =
      subst (λ (r : Result Items Error). TellsContents answered old r new) (sym is) (record { leads = leads; told = tt })

  pub child_told : (old new : D) (result : Result DirEntry Error) → IfErr result (λ e. e ≡ no_memory) → IsHeld answered old new result
  child_told old new (Ok entry) lost = tt
  child_told old new (Err error) lost = subst (λ (e : Error). IsHeldIn answered old new e.inner) (sym lost) tt

  -- ---- what a stream gave

  pub told_push : (first now : D) (items : List Item) (item : Item) → AreHeld answered first now items → IsHeld answered first now item
      → AreHeld answered first now (items ++ item ∷ [])
  told_push first now [] item told last = (last, tt)
  told_push first now (next ∷ items) item told last = (told.0, told_push first now items item told.1 last)

  pub are_later : (first now last : D) (items : List Item) → Leads answered now last → AreHeld answered first now items
      → AreHeld answered first last items
  are_later first now last items later told = are_wider answered first first now last items (leads_nowhere answered first) told later

  errors_told : (first now : D) (given : List Item) → AreHeld answered first now given → AreHeld answered first now (filter_map error_in given)
  errors_told first now [] told = tt
  errors_told first now (Ok entry ∷ given) told = errors_told first now given told.1
  errors_told first now (Err error ∷ given) told = (told.0, errors_told first now given told.1)

  told_append : (first now : D) (items : List Item) (entries : List DirEntry) → AreHeld answered first now items
      → AreHeld answered first now (items ++ map Ok entries)
  told_append first now [] [] told = tt
  told_append first now [] (entry ∷ entries) told = (tt, told_append first now [] entries tt)
  told_append first now (item ∷ items) entries told = (told.0, told_append first now items entries told.1)

  pub ordered_told : (first now : D) (order : Order) (given children : List Item) → IsInOrder order given children → AreHeld answered first now given
      → AreHeld answered first now children
  ordered_told first now order given children ordered told =
      subst (AreHeld answered first now) (sym ordered.is)
      (told_append first now (filter_map error_in given) ordered.entries (errors_told first now given told))
