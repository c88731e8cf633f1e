-- A walk that has begun is over, gives the error or the entry that its innermost directory has next, or leaves that.
use Rattle.std.proofs.Common.{◌≡◌, ◌+◌, None, ap, refl, length, reverse, subst, sym, ◌∙◌, arith}
use lib.ListN.{length-reverse}
use Rattle.std.specs.Prelude.{Err, IfSome, Ok, Some, true}
use Rattle.walkdir.specs.Progress.{FailsByFault, GivesDirectory, GivesEntered, GivesNext, CausedWithin, is_innermost}
use Rattle.walkdir.specs.Innermost.{IsAfter, IsFromHead}
use Rattle.walkdir.specs.Stack.{ancestors}
use Rattle.walkdir.specs.EnteredTurns.{HandlesAbove, HandlesTelling}
use Rattle.walkdir.specs.StackProgress.{progress}
use Rattle.walkdir.specs.Turns.Stands.{DrawsChild, HandlesEntry}
use Rattle.walkdir.specs.Turns.{EndsWell, handed, item_of}
use Rattle.walkdir.specs.declared.builder.Options.{Options}
use Rattle.walkdir.proofs.AboveLemmas.{turn_above_handled, turn_above_left, turn_above_same}
use Rattle.walkdir.proofs.CausesLemmas.{caused_given, caused_by_call}
use Rattle.walkdir.proofs.EnteredLemmas.{gives_error, turn_tells_handled, turn_tells_left}
use Rattle.walkdir.proofs.InnermostLemmas.{after_head_error, after_left, from_call, from_depth, from_open, from_parent, from_some}
use Rattle.walkdir.proofs.ProgressLemmas.{begun_with, ends_less, handled_less, left_less, not_innermost, taken_less}
use Rattle.walkdir.proofs.FailuresLaws.{fails_next}
use Rattle.walkdir.specs.Failures.{failures_given, failures_of}
use Rattle.walkdir.proofs.TurnsLemmas.Turn.{Runs, failures_turned, no_failure_given, turns_of, runs_kept, runs_on, turn_fails, turn_handles, turn_leaves}
use Rattle.walkdir.specs.Answered.{TellsOn}
use Rattle.walkdir.proofs.AnsweredLemmas.Steps.{tells_given, tells_still, tells_then, tells_turn}
use Rattle.walkdir.proofs.stack.Stack.begun_turn.Goals as goal

pub handle-requires-clause-depth : goal.handle-requires-clause-depth
handle-requires-clause-depth g c =
    let stack = reverse c.next_child.new.self.lists.items in
    from_depth stack c.in-Some-Ok.entry (subst (λ i. IsFromHead stack i) c.in-Some-Ok.field-0-is c.in-Some-Ok.ensures.from)
    ∙ length-reverse c.next_child.new.self.lists.items

pub handle-requires-clause-parent : goal.handle-requires-clause-parent
handle-requires-clause-parent g c =
    let stack = reverse c.next_child.new.self.lists.items in
    from_parent stack c.in-Some-Ok.entry (subst (λ i. IsFromHead stack i) c.in-Some-Ok.field-0-is c.in-Some-Ok.ensures.from)

pub handle-requires-clause-unskipped : goal.handle-requires-clause-unskipped
handle-requires-clause-unskipped g c =
    let stack = reverse c.next_child.new.self.lists.items in
    from_open stack (Ok c.in-Some-Ok.entry) (subst (λ i. IsFromHead stack i) c.in-Some-Ok.field-0-is c.in-Some-Ok.ensures.from)

-- nothing is left
pub returns-in_default-clause-answered : goal.returns-in_default-clause-answered
returns-in_default-clause-answered g c =
    tells_still g.D.Disk.answered c.args.disk.now (reverse c.args.self.now.lists.items) (reverse c.args.self.now.lists.items) refl

-- an error in place of a child
pub returns-in-Some-Err : goal.returns-in-Some-Err
returns-in-Some-Err g c =
    let walk = c.args.self.now in
    let state = g.D.Disk.state c.args.disk.now in
    let old = progress g.S.Sorter.order walk (g.D.Disk.streams c.args.disk.now) in
    let new = progress g.S.Sorter.order c.next_child.new.self (g.D.Disk.streams c.next_child.new.disk) in
    let begun = begun_with old c.requires.own in
    let drawn = c.in-Some-Err.ensures in
    let kept = drawn.kept in
    let started : new.start ≡ None = kept.start ∙ c.requires.begun in
    let runs : Runs old new = runs_kept g.S.Sorter.order walk c.next_child.new.self _ _ c.requires.begun (omega arith) kept started in
    let from = subst (λ i. IsFromHead new.stack i) c.in-Some-Err.field-0-is drawn.from in
    record {
      gives = turn_fails state old new c.in-Some-Err.error runs (subst (λ i. DrawsChild old (Some i) new) c.in-Some-Err.field-0-is drawn.draws);
      turns = record {
        options = drawn.goes.options;
        keeps = drawn.goes.keeps;
        entered = λ no. kept.entered ∙ no;
        ends = taken_less old new c.in-Some.index c.requires.begun started (drawn.less.1 begun.0 begun.1);
        causes = caused_by_call new.options (ancestors new.stack) c.in-Some-Err.error (from_call new.stack c.in-Some-Err.error from);
        innermost = after_head_error new.options c.in-Some-Err.error new.stack from;
        skips = drawn.goes.skips;
      };
      faults = subst (λ i. FailsByFault old (g.D.Disk.faults c.args.disk.now) (failures_given (Some i)) new (g.D.Disk.faults c.next_child.new.disk))
          c.in-Some-Err.field-0-is drawn.goes.faults;
      answered = subst (λ i. TellsOn g.D.Disk.answered c.args.disk.now old.stack (Some i) c.next_child.new.disk new.stack) c.in-Some-Err.field-0-is
          drawn.answered;
      directory = λ unmarked. gives_error state old new c.in-Some-Err.error;
      above = turn_above_same state old new (Some (Err c.in-Some-Err.error)) kept.above;
      state = drawn.state;
    }

-- a child that is handled
pub returns-in-Some-Ok : goal.returns-in-Some-Ok
returns-in-Some-Ok g c =
    let walk = c.args.self.now in
    let state = g.D.Disk.state c.args.disk.now in
    let old = progress g.S.Sorter.order walk (g.D.Disk.streams c.args.disk.now) in
    let mid = progress g.S.Sorter.order c.next_child.new.self (g.D.Disk.streams c.next_child.new.disk) in
    let new = progress g.S.Sorter.order c.handle.new.self (g.D.Disk.streams c.handle.new.disk) in
    let was = g.D.Disk.faults c.args.disk.now in
    let between = g.D.Disk.faults c.next_child.new.disk in
    let now = g.D.Disk.faults c.handle.new.disk in
    let begun = begun_with old c.requires.own in
    let entry = c.in-Some-Ok.entry in
    let drawn = c.in-Some-Ok.ensures in
    let kept = drawn.kept in
    let handled = c.handle.ensures in
    let goes = handled.goes in
    let started : mid.start ≡ None = kept.start ∙ c.requires.begun in
    let deep : length c.next_child.new.self.lists.items ≡ c.in-Some.index + 1 = omega (arith, kept.count) in
    let there : Runs old mid = runs_kept g.S.Sorter.order walk c.next_child.new.self _ _ c.requires.begun (omega arith) kept started in
    let runs = runs_on old mid new there goes.options goes.order goes.start handled.device in
    let less = handled_less old mid new c.in-Some.index (length c.next_child.new.self.lists.items) 0 0 c.requires.begun (goes.start ∙ started)
    kept.options goes.options drawn.less.0 deep (drawn.less.1 begun.0 begun.1) (goes.work begun.0 (drawn.goes.keeps begun.0 begun.1)) in
    let turn = c.turn_of.ensures.turn in
    record {
      gives = subst (λ t. GivesNext state old (item_of t) new) (sym turn)
          (turn_handles state old mid new entry c.handle.result there runs drawn.goes.keeps
          (subst (λ i. DrawsChild old (Some i) mid) c.in-Some-Ok.field-0-is drawn.draws)
          (subst (λ s. HandlesEntry s mid entry (handed c.handle.result) new) drawn.state handled.walks));
      turns = turns_of old new c.turn_of.result c.handle.result turn (goes.options ∙ drawn.goes.options)
          (λ before keeps. goes.keeps before (drawn.goes.keeps before keeps)) (λ no. handled.entered (kept.entered ∙ no)) less
          handled.causes handled.innermost (λ path depth was. drawn.goes.skips path depth (goes.skips path depth was));
      faults = subst (λ t. FailsByFault old was (failures_given (item_of t)) new now) (sym turn)
          (subst (λ n. FailsByFault old was n new now) (sym (failures_turned c.handle.result))
          (fails_next old mid new was between now (failures_of c.handle.result)
          (subst (λ i. FailsByFault old was (failures_given (Some i)) mid between)
          c.in-Some-Ok.field-0-is drawn.goes.faults) goes.faults));
      answered = subst (λ t. TellsOn g.D.Disk.answered c.args.disk.now old.stack (item_of t) c.handle.new.disk new.stack) (sym turn)
          (tells_turn g.D.Disk.answered c.args.disk.now c.handle.new.disk old.stack new.stack c.handle.result
          (tells_then g.D.Disk.answered c.args.disk.now c.next_child.new.disk c.handle.new.disk old.stack mid.stack new.stack _
          (handed c.handle.result) drawn.answered handled.answered));
      directory = λ unmarked. subst (λ t. GivesDirectory state old (item_of t) new) (sym turn)
          (turn_tells_handled state old mid new c.handle.result there
          (subst (λ s. HandlesTelling s mid (handed c.handle.result) new) drawn.state (handled.directory (kept.entered ∙ unmarked))));
      above = subst (λ t. GivesEntered state old (item_of t) new) (sym turn)
          (turn_above_handled state old mid new entry c.handle.result there
          (from_some mid.stack (Ok entry) (subst (λ i. IsFromHead mid.stack i) c.in-Some-Ok.field-0-is drawn.from)) kept.above
          (subst (λ s. HandlesAbove s mid entry (handed c.handle.result) new) drawn.state handled.above));
      state = handled.state ∙ drawn.state;
    }

-- the innermost directory is over, and left
pub returns-in-None : goal.returns-in-None
returns-in-None g c =
    let walk = c.args.self.now in
    let state = g.D.Disk.state c.args.disk.now in
    let old = progress g.S.Sorter.order walk (g.D.Disk.streams c.args.disk.now) in
    let mid = progress g.S.Sorter.order c.next_child.new.self (g.D.Disk.streams c.next_child.new.disk) in
    let new = progress g.S.Sorter.order c.leave.new.self (g.D.Disk.streams c.leave.new.disk) in
    let was = g.D.Disk.faults c.args.disk.now in
    let between = g.D.Disk.faults c.next_child.new.disk in
    let now = g.D.Disk.faults c.leave.new.disk in
    let begun = begun_with old c.requires.own in
    let drawn = c.in-None.ensures in
    let kept = drawn.kept in
    let left = c.leave.ensures in
    let given = c.leave.result in
    let started : mid.start ≡ None = kept.start ∙ c.requires.begun in
    let there : Runs old mid = runs_kept g.S.Sorter.order walk c.next_child.new.self _ _ c.requires.begun (omega arith) kept started in
    let runs = runs_on old mid new there left.goes.options left.goes.order left.goes.start left.device in
    let less = left_less old mid new c.requires.begun (left.goes.start ∙ started) (left.less begun.0 (drawn.goes.keeps begun.0 begun.1))
    (drawn.goes.work begun.0 begun.1) in
    let depth = subst (λ n. IfSome given (λ entry. entry.depth ≡ n)) (sym (length-reverse c.leave.new.self.lists.items)) left.depth in
    let turn = c.given.ensures.turn in
    record {
      gives = subst (λ t. GivesNext state old (item_of t) new) (sym turn)
          (turn_leaves state old mid new given runs kept.options drawn.goes.keeps drawn.draws left.leaves);
      turns = record {
        options = left.goes.options ∙ drawn.goes.options;
        keeps = λ before keeps. left.goes.keeps before (drawn.goes.keeps before keeps);
        entered = λ no. left.entered ∙ kept.entered ∙ no
            ∙ sym (ap (λ t. is_innermost new.stack (item_of t)) turn ∙ not_innermost c.leave.new.self.lists.items given left.depth);
        ends = subst (λ t. EndsWell old t new) (sym turn) (ends_less old new (Ok given) less);
        causes = subst (λ t. CausedWithin new (item_of t)) (sym turn) (caused_given new given);
        innermost = subst (λ t. IsAfter new.options (item_of t) new.stack) (sym turn)
            (after_left new.options given new.stack depth left.own
            (subst (λ (o : Options). IfSome given (λ _. o.contents_first ≡ true)) (sym left.goes.options) left.first));
        skips = λ path depth was. drawn.goes.skips path depth (left.goes.skips path depth was);
      };
      faults = subst (λ t. FailsByFault old was (failures_given (item_of t)) new now) (sym turn)
          (subst (λ n. FailsByFault old was n new now) (sym (no_failure_given given))
          (fails_next old mid new was between now 0 drawn.goes.faults left.goes.faults));
      answered = subst (λ t. TellsOn g.D.Disk.answered c.args.disk.now old.stack (item_of t) c.leave.new.disk new.stack) (sym turn)
          (tells_given g.D.Disk.answered c.args.disk.now c.leave.new.disk old.stack new.stack given
          (tells_then g.D.Disk.answered c.args.disk.now c.next_child.new.disk c.leave.new.disk old.stack mid.stack new.stack None None
          drawn.answered left.answered));
      directory = λ unmarked. subst (λ t. GivesDirectory state old (item_of t) new) (sym turn)
          (turn_tells_left state old new given (left.entered ∙ kept.entered ∙ unmarked)
          (subst (λ (o : Options). IfSome given (λ _. o.contents_first ≡ true)) kept.options left.first));
      above = turn_above_left state old mid new left.above.0 (item_of c.given.result) kept.above left.above.1;
      state = left.state ∙ drawn.state;
    }
