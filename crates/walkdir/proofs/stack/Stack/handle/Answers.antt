-- An entry is followed, and then stays, is entered, or gives the error of a stat.
use Rattle.std.proofs.Common.{◌≡◌, Ok, Err, refl, reverse, subst, sym, ◌∙◌}
use lib.ListN.{length-reverse}
use Rattle.odb_base.specs.Path.{Path}
use Rattle.walkdir.specs.EnteredTurns.{EntersTelling}
use Rattle.walkdir.specs.Innermost.{IsAfter}
use Rattle.walkdir.specs.Options.{is_given}
use Rattle.walkdir.specs.StackProgress.{progress}
use Rattle.walkdir.specs.Turns.Taken.{EntersBy, OnlyEnters}
use Rattle.walkdir.specs.Turns.Stands.{EntersDirectory, HandlesEntry}
use Rattle.walkdir.specs.Turns.{handed}
use Rattle.walkdir.specs.Within.{LiesIn}
use Rattle.walkdir.specs.Stack.{ancestors}
use Rattle.walkdir.specs.Walk.Entries.{enter, entering}
use Rattle.walkdir.specs.declared.directory.Entering.TheVariants.{Stays, Enters}
use Rattle.walkdir.proofs.AboveLemmas.{above_entering, above_same, unless_lost}
use Rattle.walkdir.proofs.EnteredLemmas.{handles_entering, handles_failed, handles_staying}
use Rattle.walkdir.proofs.HandlesLemmas.{err_is}
use Rattle.walkdir.proofs.HandlesLemmas.Entered.{enters_as}
use Rattle.walkdir.proofs.HandlesLemmas.Handled.{handles_alone, handles_closed, handles_entered, handles_wrong}
use Rattle.walkdir.proofs.InnermostLemmas.{after_entry_error, after_shown, link_looked, looked_at, on_entry}
use Rattle.walkdir.specs.AnsweredTurns.{IsEnteringTold}
use Rattle.walkdir.proofs.AnsweredLemmas.{leads_then}
use Rattle.walkdir.proofs.AnsweredLemmas.Handled.{tells_entered, tells_seen, tells_shown}
use Rattle.walkdir.proofs.stack.Stack.handle.Goals as goal

pub returns-in_err-found-clause-walks : goal.returns-in_err-found-clause-walks
returns-in_err-found-clause-walks g c =
    let state = g.D.Disk.state c.args.disk.now in
    let old = progress g.S.Sorter.order c.args.self.now (g.D.Disk.streams c.args.disk.now) in
    let new = progress g.S.Sorter.order c.args.self.now (g.D.Disk.streams c.followed.new.disk) in
    subst (λ r. HandlesEntry state old c.args.entry (handed r) new)
    (sym (err_is c.from_residual.result c.in_err-found.field-0.0 c.from_residual.ensures.1))
    (handles_wrong state old new c.args.entry c.in_err-found.field-0.0 refl c.in_err-found.ensures.streams c.in_err-found.ensures.looks
    c.in_err-found.ensures.follows)

pub returns-in_err-entering-clause-walks : goal.returns-in_err-entering-clause-walks
returns-in_err-entering-clause-walks g c =
    let state = g.D.Disk.state c.args.disk.now in
    let walk = c.args.self.now in
    let found = c.in_ok-found.found in
    let error = c.in_err-entering.field-0.0 in
    let old = progress g.S.Sorter.order walk (g.D.Disk.streams c.args.disk.now) in
    let new = progress g.S.Sorter.order walk (g.D.Disk.streams c.entering.new.disk) in
    subst (λ r. HandlesEntry state old c.args.entry (handed r) new)
    (sym (err_is c.from_residual-in_err-entering.result error c.from_residual-in_err-entering.ensures.1))
    (handles_closed state old new c.args.entry found error refl (c.in_err-entering.ensures.streams
    ∙ c.in_ok-found.ensures.streams) c.in_ok-found.ensures.follows
    c.in_err-entering.ensures.looks
    (subst (λ s. EntersBy entering s walk.options walk.root_device found (Err error)) c.in_ok-found.ensures.state c.in_err-entering.ensures.enters))

pub returns-in-Stays-clause-walks : goal.returns-in-Stays-clause-walks
returns-in-Stays-clause-walks g c =
    let state = g.D.Disk.state c.args.disk.now in
    let walk = c.args.self.now in
    let found = c.in_ok-found.found in
    let old = progress g.S.Sorter.order walk (g.D.Disk.streams c.args.disk.now) in
    let new = progress g.S.Sorter.order walk (g.D.Disk.streams c.entering.new.disk) in
    handles_alone state old new c.args.entry found c.shown.result refl (c.in_ok-entering.ensures.streams
    ∙ c.in_ok-found.ensures.streams) c.in_ok-found.ensures.follows
    (enters_as _ _ c.in_ok-found.ensures.state walk.options walk.root_device found _ Stays c.in-Stays.is c.in_ok-entering.ensures.enters)
    c.shown.ensures.given

pub returns-in-Enters-clause-walks : goal.returns-in-Enters-clause-walks
returns-in-Enters-clause-walks g c =
    let state = g.D.Disk.state c.args.disk.now in
    let walk = c.args.self.now in
    let found = c.in_ok-found.found in
    let place = c.in-Enters.place in
    let old = progress g.S.Sorter.order walk (g.D.Disk.streams c.args.disk.now) in
    let new = progress g.S.Sorter.order c.enter.new.self (g.D.Disk.streams c.enter.new.disk) in
    handles_entered state old new c.args.entry found place (handed c.enter.result) c.in_ok-found.ensures.follows
    (enters_as _ _ c.in_ok-found.ensures.state walk.options walk.root_device found _ (Enters place) c.in-Enters.is c.in_ok-entering.ensures.enters)
    (subst (λ s. EntersDirectory s old found.entry place (handed c.enter.result) new) (c.in_ok-entering.ensures.state ∙ c.in_ok-found.ensures.state)
    (subst (λ t. EntersDirectory (g.D.Disk.state c.entering.new.disk) (progress g.S.Sorter.order walk t) found.entry place
    (handed c.enter.result) new)
    (c.in_ok-entering.ensures.streams ∙ c.in_ok-found.ensures.streams) c.enter.ensures.enters))

pub returns-in_err-found-clause-directory : goal.returns-in_err-found-clause-directory
returns-in_err-found-clause-directory g c = λ unmarked.
    handles_failed (g.D.Disk.state c.args.disk.now) (progress g.S.Sorter.order c.args.self.now (g.D.Disk.streams c.args.disk.now))
    (progress g.S.Sorter.order c.args.self.now (g.D.Disk.streams c.followed.new.disk)) c.from_residual.result c.in_err-found.field-0.0
    (err_is c.from_residual.result c.in_err-found.field-0.0 c.from_residual.ensures.1)

pub returns-in_err-entering-clause-directory : goal.returns-in_err-entering-clause-directory
returns-in_err-entering-clause-directory g c = λ unmarked.
    handles_failed (g.D.Disk.state c.args.disk.now) (progress g.S.Sorter.order c.args.self.now (g.D.Disk.streams c.args.disk.now))
    (progress g.S.Sorter.order c.args.self.now (g.D.Disk.streams c.entering.new.disk)) c.from_residual-in_err-entering.result
    c.in_err-entering.field-0.0
    (err_is c.from_residual-in_err-entering.result c.in_err-entering.field-0.0 c.from_residual-in_err-entering.ensures.1)

pub returns-in-Stays-clause-directory : goal.returns-in-Stays-clause-directory
returns-in-Stays-clause-directory g c = λ unmarked.
    let state = g.D.Disk.state c.args.disk.now in
    let walk = c.args.self.now in
    let found = c.in_ok-found.found in
    let old = progress g.S.Sorter.order walk (g.D.Disk.streams c.args.disk.now) in
    let new = progress g.S.Sorter.order walk (g.D.Disk.streams c.entering.new.disk) in
    handles_staying state old new c.args.entry found c.shown.result (is_given walk.options found.entry.depth) unmarked c.in_ok-found.ensures.follows
    (enters_as _ _ c.in_ok-found.ensures.state walk.options walk.root_device found _ Stays c.in-Stays.is c.in_ok-entering.ensures.enters)
    c.shown.ensures.given

pub returns-in-Enters-clause-directory : goal.returns-in-Enters-clause-directory
returns-in-Enters-clause-directory g c = λ unmarked.
    let state = g.D.Disk.state c.args.disk.now in
    let walk = c.args.self.now in
    let found = c.in_ok-found.found in
    let place = c.in-Enters.place in
    let item = handed c.enter.result in
    let old = progress g.S.Sorter.order walk (g.D.Disk.streams c.args.disk.now) in
    let new = progress g.S.Sorter.order c.enter.new.self (g.D.Disk.streams c.enter.new.disk) in
    handles_entering state old new c.args.entry found place item c.in_ok-found.ensures.follows
    (enters_as _ _ c.in_ok-found.ensures.state walk.options walk.root_device found _ (Enters place) c.in-Enters.is c.in_ok-entering.ensures.enters)
    (subst (λ s. EntersTelling s old found.entry place item new) (c.in_ok-entering.ensures.state ∙ c.in_ok-found.ensures.state)
    (subst (λ t. EntersTelling (g.D.Disk.state c.entering.new.disk) (progress g.S.Sorter.order walk t) found.entry place item new)
    (c.in_ok-entering.ensures.streams ∙ c.in_ok-found.ensures.streams) c.enter.ensures.directory))

pub returns-in_err-found-clause-innermost : goal.returns-in_err-found-clause-innermost
returns-in_err-found-clause-innermost g c =
    let walk = c.args.self.now in
    let stack = reverse walk.lists.items in
    let error = c.in_err-found.field-0.0 in
    subst (λ r. IsAfter walk.options (handed r) stack) (sym (err_is c.from_residual.result error c.from_residual.ensures.1))
    (after_entry_error walk.options c.args.entry.path c.args.entry.depth error stack c.in_err-found.ensures.place (c.requires.depth
    ∙ sym (length-reverse walk.lists.items)) c.requires.parent
    c.requires.unskipped (link_looked walk.options c.args.entry c.in_err-found.ensures.looks))

pub returns-in_err-entering-clause-innermost : goal.returns-in_err-entering-clause-innermost
returns-in_err-entering-clause-innermost g c =
    let walk = c.args.self.now in
    let stack = reverse walk.lists.items in
    let found = c.in_ok-found.found in
    let same = c.in_ok-found.ensures.same in
    let error = c.in_err-entering.field-0.0 in
    subst (λ r. IsAfter walk.options (handed r) stack)
    (sym (err_is c.from_residual-in_err-entering.result error c.from_residual-in_err-entering.ensures.1))
    (after_entry_error walk.options found.entry.path found.entry.depth error stack
    (on_entry found.entry.path found.entry.depth error c.in_err-entering.ensures.call)
    (same.0 ∙ c.requires.depth ∙ sym (length-reverse walk.lists.items)) (subst (λ (p : Path). LiesIn p stack) (sym same.1) c.requires.parent)
    c.requires.unskipped (looked_at walk.options found.entry c.in_err-entering.ensures.looks))

pub returns-in-Stays-clause-innermost : goal.returns-in-Stays-clause-innermost
returns-in-Stays-clause-innermost g c =
    let walk = c.args.self.now in
    let stack = reverse walk.lists.items in
    let found = c.in_ok-found.found in
    let same = c.in_ok-found.ensures.same in
    after_shown (is_given walk.options found.entry.depth) walk.options found.entry c.shown.result stack c.shown.ensures.given (same.0
    ∙ c.requires.depth ∙ sym (length-reverse walk.lists.items))
    (subst (λ (p : Path). LiesIn p stack) (sym same.1) c.requires.parent) c.requires.unskipped

pub enter-requires-clause-parent : goal.enter-requires-clause-parent
enter-requires-clause-parent g c =
    subst (λ (p : Path). LiesIn p (reverse c.args.self.now.lists.items)) (sym c.in_ok-found.ensures.same.1) c.requires.parent

pub returns-in-Enters-clause-innermost : goal.returns-in-Enters-clause-innermost
returns-in-Enters-clause-innermost g c =
    c.enter.ensures.innermost (subst (λ e. OnlyEnters c.in_ok-found.found.entry (Ok e)) c.in-Enters.is c.in_ok-entering.ensures.kind)

pub returns-in_err-found-clause-above : goal.returns-in_err-found-clause-above
returns-in_err-found-clause-above g c =
    above_same (g.D.Disk.state c.args.disk.now) (progress g.S.Sorter.order c.args.self.now (g.D.Disk.streams c.args.disk.now))
    (progress g.S.Sorter.order c.args.self.now (g.D.Disk.streams c.followed.new.disk)) c.args.entry (handed c.from_residual.result) refl

pub returns-in_err-entering-clause-above : goal.returns-in_err-entering-clause-above
returns-in_err-entering-clause-above g c =
    above_same (g.D.Disk.state c.args.disk.now) (progress g.S.Sorter.order c.args.self.now (g.D.Disk.streams c.args.disk.now))
    (progress g.S.Sorter.order c.args.self.now (g.D.Disk.streams c.entering.new.disk)) c.args.entry (handed c.from_residual-in_err-entering.result)
    refl

pub returns-in-Stays-clause-above : goal.returns-in-Stays-clause-above
returns-in-Stays-clause-above g c =
    above_same (g.D.Disk.state c.args.disk.now) (progress g.S.Sorter.order c.args.self.now (g.D.Disk.streams c.args.disk.now))
    (progress g.S.Sorter.order c.args.self.now (g.D.Disk.streams c.entering.new.disk)) c.args.entry (handed (Ok c.shown.result)) refl

pub returns-in-Enters-clause-above : goal.returns-in-Enters-clause-above
returns-in-Enters-clause-above g c =
    let state = g.D.Disk.state c.args.disk.now in
    let walk = c.args.self.now in
    let found = c.in_ok-found.found in
    let same = c.in_ok-found.ensures.same in
    let place = c.in-Enters.place in
    let old = progress g.S.Sorter.order walk (g.D.Disk.streams c.args.disk.now) in
    let new = progress g.S.Sorter.order c.enter.new.self (g.D.Disk.streams c.enter.new.disk) in
    above_entering state old new c.args.entry found place (handed c.enter.result) c.in_ok-found.ensures.follows
    (enters_as _ _ c.in_ok-found.ensures.state walk.options walk.root_device found _ (Enters place) c.in-Enters.is c.in_ok-entering.ensures.enters)
    (same.0 ∙ c.requires.depth ∙ sym (length-reverse walk.lists.items)) same.1 c.requires.parent
    (unless_lost c.enter.result (ancestors new.stack ≡ enter found.entry place (ancestors old.stack)) c.enter.ensures.above c.enter.ensures.lost)

pub returns-in_err-found-clause-answered : goal.returns-in_err-found-clause-answered
returns-in_err-found-clause-answered g c =
    let stack = reverse c.args.self.now.lists.items in
    let error = c.in_err-found.field-0.0 in
    let follows = c.in_err-found.ensures.answered in
    tells_seen g.D.Disk.answered c.args.disk.now c.followed.new.disk stack c.args.entry.path c.args.entry.depth c.from_residual.result error
    (err_is c.from_residual.result error c.from_residual.ensures.1) follows.leads follows.told c.in_err-found.ensures.place
    (c.requires.depth ∙ sym (length-reverse c.args.self.now.lists.items)) c.requires.parent

pub returns-in_err-entering-clause-answered : goal.returns-in_err-entering-clause-answered
returns-in_err-entering-clause-answered g c =
    let stack = reverse c.args.self.now.lists.items in
    let found = c.in_ok-found.found in
    let same = c.in_ok-found.ensures.same in
    let error = c.in_err-entering.field-0.0 in
    let follows = c.in_ok-found.ensures.answered in
    let enters = c.in_err-entering.ensures.answered in
    tells_seen g.D.Disk.answered c.args.disk.now c.entering.new.disk stack found.entry.path found.entry.depth
    c.from_residual-in_err-entering.result error (err_is c.from_residual-in_err-entering.result error c.from_residual-in_err-entering.ensures.1)
    (leads_then g.D.Disk.answered c.args.disk.now c.followed.new.disk c.entering.new.disk follows.leads enters.leads)
    (λ first told. enters.told first (leads_then g.D.Disk.answered first c.args.disk.now c.followed.new.disk told.leads follows.leads)
    (follows.told first told))
    (on_entry found.entry.path found.entry.depth error c.in_err-entering.ensures.call)
    (same.0 ∙ c.requires.depth ∙ sym (length-reverse c.args.self.now.lists.items))
    (subst (λ (p : Path). LiesIn p stack) (sym same.1) c.requires.parent)

pub returns-in-Stays-clause-answered : goal.returns-in-Stays-clause-answered
returns-in-Stays-clause-answered g c =
    tells_shown g.D.Disk.answered c.args.disk.now c.entering.new.disk (reverse c.args.self.now.lists.items) c.shown.result
    (leads_then g.D.Disk.answered c.args.disk.now c.followed.new.disk c.entering.new.disk c.in_ok-found.ensures.answered.leads
    c.in_ok-entering.ensures.answered.leads)

pub returns-in-Enters-clause-answered : goal.returns-in-Enters-clause-answered
returns-in-Enters-clause-answered g c =
    let found = c.in_ok-found.found in
    let follows = c.in_ok-found.ensures.answered in
    let enters = c.in_ok-entering.ensures.answered in
    tells_entered g.D.Disk.answered c.args.disk.now c.entering.new.disk c.enter.new.disk (reverse c.args.self.now.lists.items)
    (reverse c.enter.new.self.lists.items) found.entry.path c.in-Enters.place c.enter.result
    (leads_then g.D.Disk.answered c.args.disk.now c.followed.new.disk c.entering.new.disk follows.leads enters.leads)
    (λ first told. subst (λ e. IsEnteringTold g.D.Disk.answered first c.entering.new.disk found.entry.path (Ok e)) c.in-Enters.is
    (enters.told first (leads_then g.D.Disk.answered first c.args.disk.now c.followed.new.disk told.leads follows.leads) (follows.told first told)))
    c.enter.ensures.answered c.enter.ensures.lost
