-- The root is handled, or a walk that has begun goes on: neither leaves a root to begin at.
use Rattle.std.proofs.Common.{◌≡◌, ◌+◌, ◌≤◌, [], ap, refl, length, reverse, subst, sym, ◌∙◌}
use Rattle.std.specs.Prelude.{Option, true}
use Rattle.walkdir.specs.Progress.{FailsByFault, GivesDirectory, GivesEntered, GivesNext, Progress, has_its_streams}
use Rattle.walkdir.specs.Stack.{work_in}
use Rattle.walkdir.specs.StackProgress.{progress}
use Rattle.walkdir.specs.Turns.{Turns, fresh, item_of}
use Rattle.walkdir.proofs.AboveLemmas.{turn_above_begun}
use Rattle.walkdir.proofs.EnteredLemmas.{turn_tells_begun}
use Rattle.walkdir.proofs.ProgressLemmas.{begun_less, begun_with}
use Rattle.walkdir.proofs.SoundLemmas.{is_sound_begun, nothing_before}
use Rattle.walkdir.proofs.TurnsLemmas.Turn.{turns_of, turn_begins}
use Rattle.walkdir.specs.Answered.{TellsOn}
use Rattle.walkdir.proofs.AnsweredLemmas.Steps.{tells_turn}
use Rattle.odb_base.specs.Path.{Path}
use Rattle.walkdir.specs.Failures.{failures_given}
use Rattle.walkdir.proofs.stack.Stack.turn.Goals as goal

pub invariant_of-self-clause-sound : goal.invariant_of-self-clause-sound
invariant_of-self-clause-sound g c =
    let walk = c.args.self.now in
    is_sound_begun walk.options walk.start c.take.new.self walk.lists.items walk.first_open c.take.ensures.after walk.some_open walk.in_range walk.few
    walk.sound

pub start_at-requires-clause-stack : goal.start_at-requires-clause-stack
start_at-requires-clause-stack g c =
    let walk = c.args.self.now in
    nothing_before walk.options walk.start c.in-Some.root walk.lists.items walk.first_open
    (sym c.in-Some.ensures.value) walk.some_open walk.in_range walk.few walk.sound

pub returns-in-Some-clause-turns : goal.returns-in-Some-clause-turns
returns-in-Some-clause-turns g c =
    let walk = c.args.self.now in
    let old = progress g.S.Sorter.order walk (g.D.Disk.streams c.args.disk.now) in
    let mid : Progress = record old { start = c.take.new.self } in
    let new = progress g.S.Sorter.order c.start_at.new.self (g.D.Disk.streams c.start_at.new.disk) in
    let begun = begun_with old c.requires.own in
    let none : walk.lists.items ≡ [] =
    nothing_before walk.options walk.start c.in-Some.root walk.lists.items walk.first_open
    (sym c.in-Some.ensures.value) walk.some_open walk.in_range walk.few walk.sound in
    turns_of old new c.turn_of.result c.start_at.result c.turn_of.ensures.turn c.start_at.ensures.goes.options c.start_at.ensures.goes.keeps
    c.start_at.ensures.entered
    (begun_less old mid new c.in-Some.root (sym c.in-Some.ensures.value) (c.start_at.ensures.goes.start ∙ c.take.ensures.after) refl (ap reverse none)
    (subst (λ n. work_in new.options.max_depth new.streams new.stack ≤ work_in mid.options.max_depth mid.streams mid.stack + fresh
    mid.options.max_depth n) (ap length none)
    (c.start_at.ensures.goes.work begun.0 begun.1)))
    c.start_at.ensures.causes c.start_at.ensures.innermost c.start_at.ensures.goes.skips

pub returns-in-Some-clause-gives : goal.returns-in-Some-clause-gives
returns-in-Some-clause-gives g c =
    let walk = c.args.self.now in
    let state = g.D.Disk.state c.args.disk.now in
    let old = progress g.S.Sorter.order walk (g.D.Disk.streams c.args.disk.now) in
    let mid : Progress = record old { start = c.take.new.self } in
    let new = progress g.S.Sorter.order c.start_at.new.self (g.D.Disk.streams c.start_at.new.disk) in
    let goes = c.start_at.ensures.goes in
    subst (λ t. GivesNext state old (item_of t) new) (sym c.turn_of.ensures.turn)
    (turn_begins state old mid new c.in-Some.root c.start_at.result (sym c.in-Some.ensures.value) refl refl
    (λ before keeps. keeps) goes.options goes.order
    (goes.start ∙ c.take.ensures.after) c.start_at.ensures.begins)

pub returns-in-Some-clause-directory : goal.returns-in-Some-clause-directory
returns-in-Some-clause-directory g c = λ unmarked.
    let walk = c.args.self.now in
    let state = g.D.Disk.state c.args.disk.now in
    let old = progress g.S.Sorter.order walk (g.D.Disk.streams c.args.disk.now) in
    let mid : Progress = record old { start = c.take.new.self } in
    let new = progress g.S.Sorter.order c.start_at.new.self (g.D.Disk.streams c.start_at.new.disk) in
    subst (λ t. GivesDirectory state old (item_of t) new) (sym c.turn_of.ensures.turn)
    (turn_tells_begun state old mid new c.in-Some.root c.start_at.result (sym c.in-Some.ensures.value) refl refl
    (c.start_at.ensures.directory unmarked))

pub returns-in-Some-clause-above : goal.returns-in-Some-clause-above
returns-in-Some-clause-above g c =
    let walk = c.args.self.now in
    let state = g.D.Disk.state c.args.disk.now in
    let old = progress g.S.Sorter.order walk (g.D.Disk.streams c.args.disk.now) in
    let mid : Progress = record old { start = c.take.new.self } in
    let new = progress g.S.Sorter.order c.start_at.new.self (g.D.Disk.streams c.start_at.new.disk) in
    subst (λ t. GivesEntered state old (item_of t) new) (sym c.turn_of.ensures.turn)
    (turn_above_begun state old mid new c.in-Some.root c.start_at.result (sym c.in-Some.ensures.value) refl refl c.start_at.ensures.above)

pub returns-in-Some-clause-answered : goal.returns-in-Some-clause-answered
returns-in-Some-clause-answered g c =
    let old = reverse c.args.self.now.lists.items in
    let new = reverse c.start_at.new.self.lists.items in
    subst (λ t. TellsOn g.D.Disk.answered c.args.disk.now old (item_of t) c.start_at.new.disk new) (sym c.turn_of.ensures.turn)
    (tells_turn g.D.Disk.answered c.args.disk.now c.start_at.new.disk old new c.start_at.result c.start_at.ensures.answered)

-- a walk that has begun is as it was before its root was asked for
begun_as : (at : Progress) (start : Option Path) → start ≡ at.start → record at { start = start } ≡ at
begun_as at start same = ap (λ (o : Option Path). record at { start = o }) same

pub begun_turn-requires-clause-own : goal.begun_turn-requires-clause-own
begun_turn-requires-clause-own g c =
    let at = progress g.S.Sorter.order c.args.self.now (g.D.Disk.streams c.args.disk.now) in
    subst (λ p. has_its_streams p ≡ true) (sym (begun_as at c.take.new.self (c.take.ensures.after ∙ c.in-None.ensures.value))) c.requires.own

pub returns-in-None : goal.returns-in-None
returns-in-None g c =
    let state = g.D.Disk.state c.args.disk.now in
    let at = progress g.S.Sorter.order c.args.self.now (g.D.Disk.streams c.args.disk.now) in
    let new = progress g.S.Sorter.order c.begun_turn.new.self (g.D.Disk.streams c.begun_turn.new.disk) in
    let same = begun_as at c.take.new.self (c.take.ensures.after ∙ c.in-None.ensures.value) in
    let turn = c.begun_turn.result in
    let went = c.begun_turn.ensures in
    record {
      gives = subst (λ p. GivesNext state p (item_of turn) new) same went.gives;
      turns = subst (λ p. Turns p turn new) same went.turns;
      faults = subst
          (λ p. FailsByFault p (g.D.Disk.faults c.args.disk.now) (failures_given (item_of turn)) new (g.D.Disk.faults c.begun_turn.new.disk)) same
          went.faults;
      answered = went.answered;
      directory = λ unmarked. subst (λ p. GivesDirectory state p (item_of turn) new) same (went.directory unmarked);
      above = subst (λ p. GivesEntered state p (item_of turn) new) same went.above;
      state = went.state;
    }
