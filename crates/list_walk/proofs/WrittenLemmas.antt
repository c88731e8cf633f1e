-- What is written of a walk item by item, and how it ends.
use Rattle.std.proofs.Common.{◌≡◌, ◌⊎◌, inl, inr, ℕ, Bool, true, false, cond, ◌||◌, List, [], ◌∷◌, ◌++◌, length, take, Option, Some, None, Ok, Err, refl, sym, ap, subst, ◌∙◌, append_assoc}
use Rattle.std.proofs.Math.Seq.{take-length}
use Rattle.std.specs.Prelude.{Result}
use Rattle.std.specs.List.{list_any}
use Rattle.std.specs.Result.{IfOk, IsErr, OnErr}
use Rattle.std.proofs.lemmas.Result.{IfOk-from_err}
use Rattle.odb_mem_disk.specs.Source.{Adds}
use Rattle.odb_disk.specs.Tree.{State}
use Rattle.odb_disk.specs.Streams.{Streams}
use Rattle.walkdir.proofs.WholeWalks.{begun_keeps}
use Rattle.walkdir.specs.Failures.{failures_among, failures_given}
use Rattle.walkdir.specs.Options.{Built}
use Rattle.walkdir.specs.OwnStreams.{AreBack}
use Rattle.walkdir.specs.Progress.{FailsByFault, Keeps, Progress, Steps, begun}
use Rattle.walkdir.specs.Walk.{Item, Order}
use Rattle.list_walk.specs.Lines.{TakesFront, EndsWritten, IsFront, IsWhole, Leaves, Gave, Listing, error_of, errors_of, is_error, is_want, line_of, lines_of, status_of}
use Rattle.list_walk.specs.declared.line.LineError.{LineError}
use Rattle.list_walk.specs.declared.status.Status.{Status}
use Rattle.list_walk.specs.declared.status.Status.TheVariants as statuses
use Rattle.walkdir.proofs.FailuresLaws.{fails_cut, fails_end, fails_more, fails_none}
use Rattle.odb_program.proofs.AddsLaws.{adds_both, adds_front, adds_nothing}
use Rattle.list_walk.proofs.LinesLemmas.{any_more, flat_more, yields_more}

-- What is written so far of a walk: its items, the text that is gathered, what was reported, and the disk's counts of
-- faults.
pub record SoFar (nul : Bool) (state : Option State) (first at : Progress) (faults faults' : ℕ) (held held' told told' : Option (List ℕ)) (text : List ℕ) (status : Status) : Type 0 where
  pub items : List Item
  pub gave : Gave state first items at
  pub memory : list_any is_want items ≡ false
  pub status_is : status ≡ status_of items
  pub delivers : TakesFront held held' (lines_of nul items) text
  pub tells : Adds told told' (errors_of items)
  pub fails : FailsByFault first faults (failures_among items) at faults'

pub begins : (nul : Bool) (state : Option State) (first : Progress) (faults : ℕ) (held told : Option (List ℕ)) (text : List ℕ) → text ≡ []
    → SoFar nul state first first faults faults held held told told text statuses.Done
begins nul state first faults held told text none = record {
  items = [];
  gave = refl;
  memory = refl;
  status_is = refl;
  delivers = ([], sym none, adds_nothing held);
  tells = adds_nothing told;
  fails = fails_none first faults;
}

-- the status with one more item
abbrev pub status_with : Bool → Status → Status
status_with true status = statuses.SomeErrors
status_with false status = status

status_more : (items : List Item) (item : Item) → status_with (is_error item) (status_of items) ≡ status_of (items ++ item ∷ [])
status_more items item = by_cases (list_any is_error items) (is_error item) ∙ ap of_errors (sym (any_more is_error items item))
  where
    of_errors : Bool → Status
    of_errors errors = cond errors statuses.SomeErrors statuses.Done

    by_cases : (errors error : Bool) → status_with error (cond errors statuses.SomeErrors statuses.Done) ≡ cond (errors || error) statuses.SomeErrors statuses.Done
    by_cases true true = refl
    by_cases true false = refl
    by_cases false true = refl
    by_cases false false = refl

-- a prefix was written
abbrev pub Front : Option (List ℕ) → Option (List ℕ) → List ℕ → Type 0
Front before now bytes = (count : ℕ) × Adds before now (take count bytes)

-- all of a text is a prefix of it
pub all_of : (now next : Option (List ℕ)) (text : List ℕ) → Adds now next text → Front now next text
all_of now next text added = (length text, subst (Adds now next) (sym (take-length text)) added)

module _ (nul : Bool) (state : Option State) (first at : Progress) (x y z : ℕ) (held now next told tells more_told : Option (List ℕ)) (text : List ℕ) (status : Status)
    (so_far : SoFar nul state first at x y held now told tells text status) where
  delivered_more : (item : Item) (left : List ℕ) → TakesFront now next (text ++ line_of nul item) left → TakesFront held next (lines_of nul (so_far.items ++ item ∷ [])) left
  delivered_more item left given =
      let before = so_far.delivers in (
        before.0 ++ given.0,
        flat_more (line_of nul) so_far.items item ∙ ap (λ t. t ++ line_of nul item) before.1 ∙ append_assoc before.0 text (line_of nul item) ∙ ap (λ t. before.0 ++ t) given.1
            ∙ sym (append_assoc before.0 given.0 left),
        adds_both held now next before.0 given.0 before.2 given.2,
      )

  told_more : (item : Item) → Adds tells more_told (error_of item) → Adds told more_told (errors_of (so_far.items ++ item ∷ []))
  told_more item more =
      subst (Adds told more_told) (sym (flat_more error_of so_far.items item)) (adds_both told tells more_told (errors_of so_far.items) (error_of item) so_far.tells more)

  pub more : (item : Item) (new : Progress) (left : List ℕ) (after : Status) → Steps state at (Some item) new → FailsByFault at y (failures_given (Some item)) new z → is_want item ≡ false
      → TakesFront now next (text ++ line_of nul item) left → Adds tells more_told (error_of item) → after ≡ status_with (is_error item) status
      → SoFar nul state first new x z held next told more_told left after
  more item new left after step fails want given tell after_is = record {
    items = so_far.items ++ item ∷ [];
    gave = yields_more (Steps state) first so_far.items at item new so_far.gave step;
    memory = any_more is_want so_far.items item ∙ ap (λ b. b || is_want item) so_far.memory ∙ want;
    status_is = after_is ∙ ap (status_with (is_error item)) so_far.status_is ∙ status_more so_far.items item;
    delivers = delivered_more item left given;
    tells = told_more item tell;
    fails = fails_more first at new x y z so_far.items so_far.fails item fails;
  }

  pub whole : (new : Progress) → Steps state at None new → FailsByFault at y (failures_given None) new z → Adds now next text
      → IsWhole (record { state = state; first = first; nul = nul; held = held; held' = next; told = told; told' = tells; disk_faults = x; disk_faults' = z }) status
  whole new ended fails added = record {
    items = so_far.items;
    gave = record { at = at; gave = so_far.gave; now = new; ended = ended };
    memory = so_far.memory;
    status_is = so_far.status_is;
    added = subst (Adds held next) (sym so_far.delivers.1) (adds_both held now next so_far.delivers.0 text so_far.delivers.2 added);
    errors = so_far.tells;
    fails = fails_end first at new x y z so_far.items so_far.fails fails;
  }

  -- a prefix of the text that is gathered was written, and one more call was made
  pub front : (given : ℕ) (new : Progress) → FailsByFault at y given new z → Front now next text
      → IsFront (record { state = state; first = first; nul = nul; held = held; held' = next; told = told; told' = tells; disk_faults = x; disk_faults' = z })
  front given new fails added =
      let all = adds_front held now next so_far.delivers.0 text so_far.delivers.2 added in
      let told_all = all_of told tells (errors_of so_far.items) so_far.tells in
      record {
        items = so_far.items;
        gave = record { at = at; gave = so_far.gave };
        count = all.0;
        added = subst (λ t. Adds held next (take all.0 t)) (sym so_far.delivers.1) all.1;
        error_count = told_all.0;
        errors = told_all.1;
        fails = fails_cut first at new x y z so_far.items so_far.fails given fails;
      }

  -- a prefix of it with the line of one more item was written
  pub front_more : (item : Item) (new : Progress) → Steps state at (Some item) new → FailsByFault at y (failures_given (Some item)) new z
      → Front now next (text ++ line_of nul item) → Front tells more_told (error_of item)
      → IsFront (record { state = state; first = first; nul = nul; held = held; held' = next; told = told; told' = more_told; disk_faults = x; disk_faults' = z })
  front_more item new step fails added tell =
      let all = adds_front held now next so_far.delivers.0 (text ++ line_of nul item) so_far.delivers.2 added in
      let lines : lines_of nul (so_far.items ++ item ∷ []) ≡ so_far.delivers.0 ++ (text ++ line_of nul item) = flat_more (line_of nul) so_far.items item
      ∙ ap (λ t. t ++ line_of nul item) so_far.delivers.1 ∙ append_assoc so_far.delivers.0 text (line_of nul item) in
      let told_all = adds_front told tells more_told (errors_of so_far.items) (error_of item) so_far.tells tell in
      record {
        items = so_far.items ++ item ∷ [];
        gave = record { at = new; gave = yields_more (Steps state) first so_far.items at item new so_far.gave step };
        count = all.0;
        added = subst (λ t. Adds held next (take all.0 t)) (sym lines) all.1;
        error_count = told_all.0;
        errors = subst (λ t. Adds told more_told (take told_all.0 t)) (sym (flat_more error_of so_far.items item)) told_all.1;
        fails = fails_more first at new x y z so_far.items so_far.fails item fails;
      }

pub leaves_all : (at : Progress) → Leaves at at
leaves_all at = record { options = refl; keeps = λ before keeps. keeps }

pub leaves_more : (state : Option State) (first at new : Progress) (item : Option Item) → Leaves first at → Steps state at item new → Leaves first new
leaves_more state first at new item left step =
    record { options = step.options ∙ left.options; keeps = λ before keeps. step.keeps before (left.keeps before keeps) }

-- the streams are back once a walk is dropped that left all others as they were
pub back_after : {T : Type 0} (order : T → Order) (built : Built T) (streams : Streams) (first last : Progress) (now : Streams) → first ≡ begun order built streams → Leaves first last
    → ((before : Streams) → Keeps before last → AreBack before last.options.max_open now) → AreBack streams built.options.max_open now
back_after order built streams first last now is left back =
    subst (λ options. AreBack streams options.max_open now) (left.options ∙ ap (λ at. at.options) is)
    (back streams (left.keeps streams (subst (Keeps streams) (sym is) (begun_keeps order built streams))))

pub back_on : {D : Type 0} (streams : D → Streams) (a b : D) (before : Streams) (most : ℕ) → a ≡ b → AreBack before most (streams a) → AreBack before most (streams b)
back_on streams a b before most same back = subst (λ d. AreBack before most (streams d)) same back

-- a disk that reports the same
pub step_at : (told state : Option State) (at : Progress) (item : Option Item) (new : Progress) → told ≡ state → Steps told at item new → Steps state at item new
step_at told state at item new same step = subst (λ x. Steps x at item new) same step

listing : (errors : Bool) (status : Status) → status ≡ cond errors statuses.SomeErrors statuses.Done → (status ≡ statuses.SomeErrors) ⊎ (status ≡ statuses.Done)
listing true status is = inl is
listing false status is = inr is

pub ends_whole : (o : Listing) (status : Status) → IsWhole o status → EndsWritten o (Ok status)
ends_whole o statuses.Done w = w
ends_whole o statuses.SomeErrors w = w
ends_whole o statuses.NoMemory w = absurd (elim (listing (list_any is_error w.items) statuses.NoMemory w.status_is) [ inl is ↦ cc is | inr is ↦ cc is ])
ends_whole o statuses.HelpSought w = absurd (elim (listing (list_any is_error w.items) statuses.HelpSought w.status_is) [ inl is ↦ cc is | inr is ↦ cc is ])
ends_whole o (statuses.NotUnderstood told) w = absurd (elim (listing (list_any is_error w.items) (statuses.NotUnderstood told) w.status_is) [ inl is ↦ cc is | inr is ↦ cc is ])
ends_whole o statuses.WriteFault w = absurd (elim (listing (list_any is_error w.items) statuses.WriteFault w.status_is) [ inl is ↦ cc is | inr is ↦ cc is ])
ends_whole o statuses.ErrorFault w = absurd (elim (listing (list_any is_error w.items) statuses.ErrorFault w.status_is) [ inl is ↦ cc is | inr is ↦ cc is ])

pub ends_cut : (o : Listing) (result : Result Status LineError) → IsErr result → IsFront o → EndsWritten o result
ends_cut o (Ok status) is_err front = absurd (IfOk-from_err {E = LineError} (Ok status) (λ _. ⊥) is_err)
ends_cut o (Err error) is_err front = front

-- what is gathered was written, or a prefix of it
pub ends_by : (o : Listing) (result : Result Status LineError) (status : Status) (Whole Part : Type 0) → IfOk result (λ answer. (answer ≡ status) × Whole) → OnErr result Part
    → (Whole → EndsWritten o (Ok status))
    → (Part → IsFront o) → EndsWritten o result
ends_by o (Ok answer) status Whole Part ok err whole part = subst (λ s. EndsWritten o (Ok s)) (sym ok.0) (whole ok.1)
ends_by o (Err error) status Whole Part ok err whole part = part err
