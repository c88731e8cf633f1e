-- Turns that gave nothing so far, and the item of a step after them.
use Rattle.std.proofs.Common.{◌≡◌, ℕ, ◌<◌, ◌≤◌, true, false, [], Option, Some, None, Err, refl, sym, ap, subst, ◌∙◌, arith}
use Rattle.odb_base.specs.Path.{Path}
use Rattle.odb_disk.specs.Streams.{Streams}
use Rattle.odb_disk.specs.Tree.{State}
use Rattle.walkdir.specs.Error.{is_no_memory}
use Rattle.walkdir.specs.Innermost.{SkipsNone}
use Rattle.walkdir.specs.OwnStreams.{AreBack, AreBeside, Owns}
use Rattle.walkdir.specs.Progress.{Progress, GivesDirectory, GivesEntered, GivesNext, Keeps, Steps, is_lost, work_left, work_of}
use Rattle.walkdir.proofs.CausesLemmas.{caused_by_call, lost_call}
use Rattle.walkdir.specs.Stack.{ancestors, own_streams, work_in}
use Rattle.walkdir.specs.Turns.{Turns}
use Rattle.walkdir.specs.Walk.{Item}
use Rattle.walkdir.specs.declared.error.Error.{Error}
use Rattle.walkdir.specs.declared.stack.Turn.TheVariants as turns
use Rattle.walkdir.proofs.InnermostLemmas.{after_lost}
use Rattle.walkdir.proofs.SkippedLemmas.{none_skipped}
use Rattle.walkdir.proofs.TurnsLemmas.{gives_nothing, gives_then}

-- ---- turns that gave nothing so far

pub record Passes (state : Option State) (old new : Progress) : Type 0 where
  pub gives : GivesNext state old None new
  pub keeps : (before : Streams) → Keeps before old → Keeps before new
  pub options : new.options ≡ old.options
  pub entered : new.entered ≡ false
  pub skips : SkipsNone old.stack new.stack
  pub above : GivesEntered state old None new
  pub less : work_left new ≤ work_left old

work_same : (old new : Progress) → new.options ≡ old.options → new.start ≡ old.start → new.streams ≡ old.streams → new.stack ≡ old.stack
    → work_left new ≡ work_left old
unfolding work_left
work_same old new options start streams stack = ap (work_of new) start ∙ parts old.start
  where
    parts : (s : Option Path) → work_of new s ≡ work_of old s
    parts None =
        ap (λ o. work_in o.max_depth new.streams new.stack) options ∙ ap (λ s. work_in old.options.max_depth s new.stack) streams
        ∙ ap (work_in old.options.max_depth old.streams) stack
    parts (Some root) = ap (λ o. work_of (record new { options = o }) (Some root)) options

entered_same : (state : Option State) (old new : Progress) → GivesEntered state old None (record old { entered = false })
entered_same None old new = tt
entered_same (Some s) old new = λ walk before tree of keeps lost entered. entered

pub entered_then : (state : Option State) (old mid new : Progress) (item : Option Item) → Passes state old mid → GivesEntered state mid item new
    → GivesEntered state old item new
entered_then None old mid new item passes tells = tt
entered_then (Some s) old mid new item passes tells = λ walk before tree of keeps lost entered.
    let one = passes.gives walk before tree of keeps refl in
    tells walk before tree one.0 (passes.keeps before keeps) lost (passes.above walk before tree of keeps refl entered)

lost_entered : (state : Option State) (old new : Progress) (error : Error) → is_no_memory error ≡ true → GivesEntered state old (Some (Err error)) new
lost_entered None old new error is = tt
lost_entered (Some s) old new error is = λ walk before tree of keeps lost entered. absurd (let no : true ≡ false = sym is ∙ lost in cc)

-- only the mark of an entered directory is removed
pub passes_none : (state : Option State) (old : Progress) → Passes state old (record old { entered = false })
passes_none state old =
    let new : Progress = record old { entered = false } in
    let same : work_left new ≡ work_left old = work_same old new refl refl refl refl in
    record {
      gives = gives_nothing state old new refl refl refl refl refl refl;
      keeps = λ before keeps. keeps;
      options = refl;
      entered = refl;
      skips = λ path depth was. was;
      above = entered_same state old old;
      less = omega arith;
    }

pub passes_on : (state : Option State) (old mid new : Progress) → Passes state old mid → GivesNext state mid None new → Turns mid turns.Passed new
    → GivesEntered state mid None new
    → Passes state old new
passes_on state old mid new passes gives turn above =
    let was = passes.less in
    let less : work_left new < work_left mid = turn.ends in
    record {
      gives = gives_then state old mid new None passes.gives passes.keeps gives;
      keeps = λ before keeps. turn.keeps before (passes.keeps before keeps);
      options = turn.options ∙ passes.options;
      entered = turn.entered passes.entered;
      skips = λ path depth was. passes.skips path depth (turn.skips path depth was);
      above = entered_then state old mid new None passes above;
      less = omega arith;
    }

-- ---- the item of a step

over_none : (at : Progress) → at.stack ≡ [] → at.start ≡ None → work_left at ≡ 0
unfolding work_left work_in
over_none at empty none = ap (work_of at) none ∙ ap (work_in at.options.max_depth at.streams) empty

never_over : (at : Progress) (n : ℕ) → n < work_left at → at.stack ≡ [] → at.start ≡ None → ⊥
never_over at n less empty none = let zero = over_none at empty none in omega arith

pub steps_ended : (state : Option State) (old mid new : Progress) → Passes state old mid → GivesNext state mid None new → Turns mid turns.Ended new
    → GivesDirectory state old None new
    → GivesEntered state old None new → Steps state old None new
steps_ended state old mid new passes gives turn directory above =
    let ends = turn.ends in
    let same : new ≡ mid = ends.0 in
    record {
      gives = gives_then state old mid new None passes.gives passes.keeps gives;
      keeps = λ before keeps. turn.keeps before (passes.keeps before keeps);
      options = turn.options ∙ passes.options;
      entered = turn.entered passes.entered;
      ended = λ _. (ap (λ (at : Progress). at.stack) same ∙ ends.1, ap (λ (at : Progress). at.start) same ∙ ends.2);
      over = λ _ _. refl;
      lost = λ lost. absurd cc;
      less = tt;
      causes = tt;
      innermost = tt;
      skips = λ path depth was. passes.skips path depth (turn.skips path depth was);
      directory = directory;
      above = above;
    }

pub steps_given : (state : Option State) (old mid new : Progress) (item : Item) → is_lost (Some item) ≡ false → Passes state old mid
    → GivesNext state mid (Some item) new
    → Turns mid (turns.Item item) new → GivesDirectory state old (Some item) new → GivesEntered state old (Some item) new
    → Steps state old (Some item) new
steps_given state old mid new item kept passes gives turn directory above =
    let was = passes.less in
    let less : work_left new < work_left mid = turn.ends in
    let fewer : work_left new < work_left old = omega arith in
    record {
      gives = gives_then state old mid new (Some item) passes.gives passes.keeps gives;
      keeps = λ before keeps. turn.keeps before (passes.keeps before keeps);
      options = turn.options ∙ passes.options;
      entered = turn.entered passes.entered;
      ended = λ none. absurd cc;
      over = λ empty none. absurd (never_over old (work_left new) fewer empty none);
      lost = λ lost. absurd (let no : true ≡ false = sym lost ∙ kept in cc);
      less = fewer;
      causes = turn.causes;
      innermost = turn.innermost;
      skips = λ path depth was. passes.skips path depth (turn.skips path depth was);
      directory = directory;
      above = above;
    }

back_keeps : (before : Streams) (at : Progress) (most : ℕ) → at.options.max_open ≡ most → at.stack ≡ [] → AreBack before most at.streams
    → Keeps before at
unfolding AreBeside
back_keeps before at most same empty back =
    let none : [] ≡ own_streams at.stack = ap own_streams (sym empty) in
    subst (λ m. Owns before m (own_streams at.stack) at.streams) (sym same)
    (subst (λ own. Owns before most own at.streams) none (record { beside = back.same; few = omega arith; peak = back.peak }))

-- a walk that was ended still has its streams: none
pub ended_keeps : (before : Streams) (there new : Progress) → new.options ≡ there.options → new.stack ≡ []
    → (Keeps before there → AreBack before there.options.max_open new.streams)
    → Keeps before there → Keeps before new
ended_keeps before there new options empty back keeps = back_keeps before new there.options.max_open (ap (λ o. o.max_open) options) empty (back keeps)

lost_gives : (state : Option State) (old new : Progress) (error : Error) → is_no_memory error ≡ true → GivesNext state old (Some (Err error)) new
lost_gives None old new error is = tt
lost_gives (Some s) old new error is = λ walk before tree of kept lost. absurd (let no : true ≡ false = sym is ∙ lost in cc)

-- memory ran out, and the walk was ended
pub steps_lost : (state : Option State) (old mid there new : Progress) (error : Error) → is_no_memory error ≡ true → Passes state old mid
    → Turns mid (turns.Item (Err error)) there
    → new.stack ≡ [] → new.start ≡ None → new.options ≡ there.options → new.entered ≡ false
    → ((before : Streams) → Keeps before there → AreBack before there.options.max_open new.streams) → GivesDirectory state old (Some (Err error)) new
    → Steps state old (Some (Err error)) new
steps_lost state old mid there new error is passes turn empty none options entered back directory =
    let was = passes.less in
    let less : work_left there < work_left mid = turn.ends in
    let zero = over_none new empty none in
    let fewer : work_left new < work_left old = omega arith in
    record {
      gives = lost_gives state old new error is;
      keeps = λ before keeps. ended_keeps before there new options empty (back before) (turn.keeps before (passes.keeps before keeps));
      options = options ∙ turn.options ∙ passes.options;
      entered = entered;
      ended = λ no. absurd cc;
      over = λ gone not_begun. absurd (never_over old (work_left new) fewer gone not_begun);
      lost = λ _. (empty, none);
      less = fewer;
      causes = caused_by_call new.options (ancestors new.stack) error (lost_call error is);
      innermost = after_lost new.options error new.stack is;
      skips = λ path depth there_too. absurd (none_skipped path depth new.stack empty there_too);
      directory = directory;
      above = lost_entered state old new error is;
    }
