-- Turns that gave nothing, and then one that gives an item or the end, are one step.
use Rattle.std.proofs.Common.{Option, reverse, false, Some, None, refl, subst, sym, ◌∙◌}
use Rattle.std.specs.Prelude.{Ok, Err}
use Rattle.walkdir.specs.Failures.{failures_given}
use Rattle.walkdir.specs.Progress.{FailsByFault, GivesDirectory, GivesEntered, GivesNext}
use Rattle.walkdir.specs.StackProgress.{progress}
use Rattle.walkdir.specs.Turns.{Turns}
use Rattle.walkdir.specs.declared.stack.Turn.TheVariants as turns
use Rattle.walkdir.proofs.EnteredLemmas.{directory_then, gives_error, gives_nothing_entered}
use Rattle.walkdir.proofs.ProgressLemmas.{still_has_streams}
use Rattle.walkdir.proofs.TurnsLemmas.Passes.{ended_keeps, entered_then, passes_none, passes_on, steps_ended, steps_given, steps_lost}
use Rattle.walkdir.proofs.FailuresLaws.{fails_over, fails_same, fails_next}
use Rattle.walkdir.specs.Answered.{TellsOn}
use Rattle.walkdir.specs.Walk.{Item}
use Rattle.walkdir.proofs.AnsweredLemmas.Steps.{tells_over, tells_still, tells_then}
use Rattle.walkdir.proofs.stack.StackSteps.step.Goals as goal
use Rattle.walkdir.proofs.stack.StackSteps.step.Goals.{then-is_out_of_memory, else-is_out_of_memory}

pub loop-entry-init : goal.loop-entry-init
loop-entry-init g c =
    let old = progress g.S.Sorter.order c.args.self.now (g.D.Disk.streams c.args.disk.now) in
    record {
      passes = passes_none (g.D.Disk.state c.args.disk.now) old;
      faults = fails_same old (record old { entered = false }) (g.D.Disk.faults c.args.disk.now) refl;
      state = refl;
      answered = tells_still g.D.Disk.answered c.args.disk.now (reverse c.args.self.now.lists.items) (reverse c.args.self.now.lists.items) refl;
    }

pub turn-requires : goal.turn-requires
turn-requires g c =
    record {
      own = still_has_streams (progress g.S.Sorter.order c.args.self.now (g.D.Disk.streams c.args.disk.now))
          (progress g.S.Sorter.order c.loop-entry.self (g.D.Disk.streams c.loop-entry.disk)) c.requires.own
          c.loop-entry.invariant.passes.keeps;
    }

pub loop-entry-preserved : goal.loop-entry-preserved
loop-entry-preserved g c =
    let state = g.D.Disk.state c.args.disk.now in
    let old = progress g.S.Sorter.order c.args.self.now (g.D.Disk.streams c.args.disk.now) in
    let mid = progress g.S.Sorter.order c.loop-entry.self (g.D.Disk.streams c.loop-entry.disk) in
    let new = progress g.S.Sorter.order c.turn.new.self (g.D.Disk.streams c.turn.new.disk) in
    let so_far = c.loop-entry.invariant in
    record {
      passes = passes_on state old mid new so_far.passes (subst (λ s. GivesNext s mid None new) so_far.state c.in-Passed.ensures.gives)
          c.in-Passed.ensures.turns
          (subst (λ s. GivesEntered s mid None new) so_far.state c.in-Passed.ensures.above);
      faults = fails_next old mid new (g.D.Disk.faults c.args.disk.now) (g.D.Disk.faults c.loop-entry.disk)
          (g.D.Disk.faults c.turn.new.disk) 0 so_far.faults c.in-Passed.ensures.faults;
      state = c.in-Passed.ensures.state ∙ so_far.state;
      answered = tells_then g.D.Disk.answered c.args.disk.now c.loop-entry.disk c.turn.new.disk (reverse c.args.self.now.lists.items)
          (reverse c.loop-entry.self.lists.items)
          (reverse c.turn.new.self.lists.items) None None so_far.answered c.in-Passed.ensures.answered;
    }

pub loop-entry-smaller : goal.loop-entry-smaller
loop-entry-smaller g c = c.in-Passed.ensures.turns.ends

pub returns-in-Ended-clause-own : goal.returns-in-Ended-clause-own
returns-in-Ended-clause-own g c =
    let old = progress g.S.Sorter.order c.args.self.now (g.D.Disk.streams c.args.disk.now) in
    let new = progress g.S.Sorter.order c.turn.new.self (g.D.Disk.streams c.turn.new.disk) in
    still_has_streams old new c.requires.own (λ before keeps. c.in-Ended.ensures.turns.keeps before
    (c.loop-entry.invariant.passes.keeps before keeps))

pub returns-in-Ended-clause-steps : goal.returns-in-Ended-clause-steps
returns-in-Ended-clause-steps g c =
    let state = g.D.Disk.state c.args.disk.now in
    let old = progress g.S.Sorter.order c.args.self.now (g.D.Disk.streams c.args.disk.now) in
    let mid = progress g.S.Sorter.order c.loop-entry.self (g.D.Disk.streams c.loop-entry.disk) in
    let new = progress g.S.Sorter.order c.turn.new.self (g.D.Disk.streams c.turn.new.disk) in
    let so_far = c.loop-entry.invariant in
    steps_ended state old mid new so_far.passes (subst (λ s. GivesNext s mid None new) so_far.state c.in-Ended.ensures.gives) c.in-Ended.ensures.turns
    (gives_nothing_entered state old new)
    (entered_then state old mid new None so_far.passes (subst (λ s. GivesEntered s mid None new) so_far.state c.in-Ended.ensures.above))

pub returns-in-Ended-clause-faults : goal.returns-in-Ended-clause-faults
returns-in-Ended-clause-faults g c =
    let old = progress g.S.Sorter.order c.args.self.now (g.D.Disk.streams c.args.disk.now) in
    let mid = progress g.S.Sorter.order c.loop-entry.self (g.D.Disk.streams c.loop-entry.disk) in
    let new = progress g.S.Sorter.order c.turn.new.self (g.D.Disk.streams c.turn.new.disk) in
    fails_next old mid new (g.D.Disk.faults c.args.disk.now) (g.D.Disk.faults c.loop-entry.disk)
    (g.D.Disk.faults c.turn.new.disk) 0 c.loop-entry.invariant.faults c.in-Ended.ensures.faults

pub returns-in-Item-Ok-clause-own : goal.returns-in-Item-Ok-clause-own
returns-in-Item-Ok-clause-own g c =
    let old = progress g.S.Sorter.order c.args.self.now (g.D.Disk.streams c.args.disk.now) in
    let new = progress g.S.Sorter.order c.turn.new.self (g.D.Disk.streams c.turn.new.disk) in
    still_has_streams old new c.requires.own (λ before keeps. c.in-Item-Ok.ensures.turns.keeps before
    (c.loop-entry.invariant.passes.keeps before keeps))

pub returns-in-Item-Ok-clause-steps : goal.returns-in-Item-Ok-clause-steps
returns-in-Item-Ok-clause-steps g c =
    let state = g.D.Disk.state c.args.disk.now in
    let old = progress g.S.Sorter.order c.args.self.now (g.D.Disk.streams c.args.disk.now) in
    let mid = progress g.S.Sorter.order c.loop-entry.self (g.D.Disk.streams c.loop-entry.disk) in
    let new = progress g.S.Sorter.order c.turn.new.self (g.D.Disk.streams c.turn.new.disk) in
    let so_far = c.loop-entry.invariant in
    let is = c.in-Item-Ok.field-0-is in
    steps_given state old mid new (Ok c.in-Item-Ok.entry) refl so_far.passes
    (subst (λ s. GivesNext s mid (Some (Ok c.in-Item-Ok.entry)) new) so_far.state
    (subst (λ i. GivesNext (g.D.Disk.state c.loop-entry.disk) mid (Some i) new) is c.in-Item-Ok.ensures.gives))
    (subst (λ i. Turns mid (turns.Item i) new) is c.in-Item-Ok.ensures.turns)
    (directory_then state old mid new (Some (Ok c.in-Item-Ok.entry)) so_far.passes
    (subst (λ s. GivesDirectory s mid (Some (Ok c.in-Item-Ok.entry)) new) so_far.state
    (subst (λ i. GivesDirectory (g.D.Disk.state c.loop-entry.disk) mid (Some i) new) is (c.in-Item-Ok.ensures.directory so_far.passes.entered))))
    (entered_then state old mid new (Some (Ok c.in-Item-Ok.entry)) so_far.passes
    (subst (λ s. GivesEntered s mid (Some (Ok c.in-Item-Ok.entry)) new) so_far.state
    (subst (λ i. GivesEntered (g.D.Disk.state c.loop-entry.disk) mid (Some i) new) is c.in-Item-Ok.ensures.above)))

pub returns-in-Item-Ok-clause-faults : goal.returns-in-Item-Ok-clause-faults
returns-in-Item-Ok-clause-faults g c =
    let old = progress g.S.Sorter.order c.args.self.now (g.D.Disk.streams c.args.disk.now) in
    let mid = progress g.S.Sorter.order c.loop-entry.self (g.D.Disk.streams c.loop-entry.disk) in
    let new = progress g.S.Sorter.order c.turn.new.self (g.D.Disk.streams c.turn.new.disk) in
    fails_next old mid new (g.D.Disk.faults c.args.disk.now) (g.D.Disk.faults c.loop-entry.disk)
    (g.D.Disk.faults c.turn.new.disk) 0 c.loop-entry.invariant.faults
    (subst (λ i. FailsByFault mid (g.D.Disk.faults c.loop-entry.disk) (failures_given (Some i)) new (g.D.Disk.faults c.turn.new.disk))
    c.in-Item-Ok.field-0-is c.in-Item-Ok.ensures.faults)

pub returns-in-Item-Err-clause-own : goal.returns-in-Item-Err-clause-own
returns-in-Item-Err-clause-own g c =
    let old = progress g.S.Sorter.order c.args.self.now (g.D.Disk.streams c.args.disk.now) in
    let there = progress g.S.Sorter.order c.turn.new.self (g.D.Disk.streams c.turn.new.disk) in
    elim c.if-is_out_of_memory.branch [
      | then-is_out_of_memory w ↦
          let streams = g.D.Disk.streams w.end.new.disk in
          let new = progress g.S.Sorter.order w.end.new.self streams in
          rw (w.self-is, w.disk-is)
          (still_has_streams old new c.requires.own (λ before keeps. ended_keeps before there new (w.end.ensures.options streams)
          (w.end.ensures.over streams).0 (w.end.ensures.back before)
          (c.in-Item-Err.ensures.turns.keeps before (c.loop-entry.invariant.passes.keeps before keeps))))
      | else-is_out_of_memory w ↦
          rw (w.self-is, w.disk-is)
          (still_has_streams old there c.requires.own (λ before keeps. c.in-Item-Err.ensures.turns.keeps before
          (c.loop-entry.invariant.passes.keeps before keeps)))
    ]

pub returns-in-Item-Err-clause-steps : goal.returns-in-Item-Err-clause-steps
returns-in-Item-Err-clause-steps g c =
    let state = g.D.Disk.state c.args.disk.now in
    let old = progress g.S.Sorter.order c.args.self.now (g.D.Disk.streams c.args.disk.now) in
    let mid = progress g.S.Sorter.order c.loop-entry.self (g.D.Disk.streams c.loop-entry.disk) in
    let there = progress g.S.Sorter.order c.turn.new.self (g.D.Disk.streams c.turn.new.disk) in
    let so_far = c.loop-entry.invariant in
    let error = c.in-Item-Err.error in
    let is = c.in-Item-Err.field-0-is in
    let turn = subst (λ i. Turns mid (turns.Item i) there) is c.in-Item-Err.ensures.turns in
    elim c.if-is_out_of_memory.branch [
      | then-is_out_of_memory w ↦
          let streams = g.D.Disk.streams w.end.new.disk in
          let new = progress g.S.Sorter.order w.end.new.self streams in
          let over = w.end.ensures.over streams in
          rw (w.self-is, w.disk-is)
          (steps_lost state old mid there new error (sym c.is_out_of_memory.ensures.told
          ∙ w.if-is_out_of_memory.true) so_far.passes turn over.0 over.1 (w.end.ensures.options streams)
          (w.end.ensures.entered streams) w.end.ensures.back (gives_error state old new error))
      | else-is_out_of_memory w ↦
          rw (w.self-is, w.disk-is)
          (steps_given state old mid there (Err error) (sym c.is_out_of_memory.ensures.told ∙ w.if-is_out_of_memory.false) so_far.passes
          (subst (λ s. GivesNext s mid (Some (Err error)) there) so_far.state
          (subst (λ i. GivesNext (g.D.Disk.state c.loop-entry.disk) mid (Some i) there) is c.in-Item-Err.ensures.gives)) turn
          (gives_error state old there error)
          (entered_then state old mid there (Some (Err error)) so_far.passes
          (subst (λ s. GivesEntered s mid (Some (Err error)) there) so_far.state
          (subst (λ i. GivesEntered (g.D.Disk.state c.loop-entry.disk) mid (Some i) there) is c.in-Item-Err.ensures.above))))
    ]

pub returns-in-Item-Err-clause-faults : goal.returns-in-Item-Err-clause-faults
returns-in-Item-Err-clause-faults g c =
    let old = progress g.S.Sorter.order c.args.self.now (g.D.Disk.streams c.args.disk.now) in
    let mid = progress g.S.Sorter.order c.loop-entry.self (g.D.Disk.streams c.loop-entry.disk) in
    let there = progress g.S.Sorter.order c.turn.new.self (g.D.Disk.streams c.turn.new.disk) in
    let given = failures_given (Some (Err c.in-Item-Err.error)) in
    let was = g.D.Disk.faults c.args.disk.now in
    let now = g.D.Disk.faults c.turn.new.disk in
    let fails : FailsByFault old was given there now =
    fails_next old mid there was (g.D.Disk.faults c.loop-entry.disk) now given c.loop-entry.invariant.faults
    (subst (λ i. FailsByFault mid (g.D.Disk.faults c.loop-entry.disk) (failures_given (Some i)) there now) c.in-Item-Err.field-0-is
    c.in-Item-Err.ensures.faults) in
    elim c.if-is_out_of_memory.branch [
      | then-is_out_of_memory w ↦
          let streams = g.D.Disk.streams w.end.new.disk in
          let new = progress g.S.Sorter.order w.end.new.self streams in
          rw (w.self-is, w.disk-is)
          (subst (FailsByFault old was given new) (sym w.end.ensures.faults)
          (fails_over old there new was now given fails (w.end.ensures.over streams).0))
      | else-is_out_of_memory w ↦ rw (w.self-is, w.disk-is) fails
    ]

pub returns-in-Ended-clause-answered : goal.returns-in-Ended-clause-answered
returns-in-Ended-clause-answered g c =
    tells_then g.D.Disk.answered c.args.disk.now c.loop-entry.disk c.turn.new.disk (reverse c.args.self.now.lists.items)
    (reverse c.loop-entry.self.lists.items) (reverse c.turn.new.self.lists.items)
    None None c.loop-entry.invariant.answered c.in-Ended.ensures.answered

pub returns-in-Item-Ok-clause-answered : goal.returns-in-Item-Ok-clause-answered
returns-in-Item-Ok-clause-answered g c =
    let mid = reverse c.loop-entry.self.lists.items in
    let new = reverse c.turn.new.self.lists.items in
    tells_then g.D.Disk.answered c.args.disk.now c.loop-entry.disk c.turn.new.disk (reverse c.args.self.now.lists.items) mid new
    None (Some (Ok c.in-Item-Ok.entry)) c.loop-entry.invariant.answered
    (subst (λ i. TellsOn g.D.Disk.answered c.loop-entry.disk mid (Some i) c.turn.new.disk new) c.in-Item-Ok.field-0-is c.in-Item-Ok.ensures.answered)

pub returns-in-Item-Err-clause-answered : goal.returns-in-Item-Err-clause-answered
returns-in-Item-Err-clause-answered g c =
    let old = reverse c.args.self.now.lists.items in
    let mid = reverse c.loop-entry.self.lists.items in
    let there = reverse c.turn.new.self.lists.items in
    let item : Option Item = Some (Err c.in-Item-Err.error) in
    let tells = tells_then g.D.Disk.answered c.args.disk.now c.loop-entry.disk c.turn.new.disk old mid there None item c.loop-entry.invariant.answered
    (subst (λ i. TellsOn g.D.Disk.answered c.loop-entry.disk mid (Some i) c.turn.new.disk there) c.in-Item-Err.field-0-is
    c.in-Item-Err.ensures.answered) in
    elim c.if-is_out_of_memory.branch [
      | then-is_out_of_memory w ↦
          rw (w.self-is, w.disk-is)
          (tells_over g.D.Disk.answered c.args.disk.now c.turn.new.disk w.end.new.disk old there
          (reverse w.end.new.self.lists.items) c.in-Item-Err.error
          (sym c.is_out_of_memory.ensures.told ∙ w.if-is_out_of_memory.true) tells w.end.ensures.answered
          (w.end.ensures.over (g.D.Disk.streams w.end.new.disk)).0)
      | else-is_out_of_memory w ↦ rw (w.self-is, w.disk-is) tells
    ]
