-- A directory is put on the stack, and given before its contents or after them.
use Rattle.std.proofs.Common.{◌≡◌, ◌∷◌, ℕ, ◌&&◌, false, ap, is_some, reverse, subst, sym, ◌∙◌, arith}
use Rattle.odb_base.specs.Path.{Path}
use Rattle.walkdir.specs.Entry.{is_dir}
use Rattle.walkdir.specs.Innermost.{IsHead}
use Rattle.walkdir.specs.Options.{is_given}
use Rattle.walkdir.specs.Progress.{Progress}
use Rattle.walkdir.specs.Stack.{ancestors}
use Rattle.walkdir.specs.StackProgress.{progress}
use Rattle.walkdir.specs.Turns.{given_if}
use Rattle.walkdir.specs.declared.builder.Options.{Options}
use Rattle.walkdir.proofs.ContainsLemmas.Entered.{entered_first, entered_now}
use Rattle.walkdir.proofs.InnermostLemmas.{after_entered}
use Rattle.walkdir.proofs.EnteredLemmas.{enters_nothing, enters_telling}
use Rattle.walkdir.specs.AnsweredTurns.{TellsPushed}
use Rattle.walkdir.proofs.AnsweredLemmas.{leads_still}
use Rattle.walkdir.proofs.stack.Stack.enter.Goals as goal
use Rattle.walkdir.proofs.stack.Stack.enter.Goals.{else-is_dir-2, else-self-via-then-self+else-is_dir, else-self-via-else-self, then-is_dir-2}

pub returns-then-is_dir-clause-enters : goal.returns-then-is_dir-clause-enters
returns-then-is_dir-clause-enters g c =
    let old = progress g.S.Sorter.order c.args.self.now (g.D.Disk.streams c.args.disk.now) in
    let new = progress g.S.Sorter.order c.push.new.self (g.D.Disk.streams c.push.new.disk) in
    entered_first (g.D.Disk.state c.args.disk.now) old new c.args.entry c.args.place c.in_ok-path.path c.depth-depth.result (c.in_ok-path.ensures.copy
    ∙ c.path.ensures.told) c.depth-depth.ensures.told
    c.if-self.true (sym c.is_dir-is_dir.ensures.told ∙ c.if-is_dir.true) c.in_ok-push.ensures.pushes

pub returns-clause-enters : goal.returns-clause-enters
returns-clause-enters g c =
    let walk = c.args.self.now in
    let entry = c.args.entry in
    let old = progress g.S.Sorter.order walk (g.D.Disk.streams c.args.disk.now) in
    let new = progress g.S.Sorter.order c.push-2.new.self (g.D.Disk.streams c.push-2.new.disk) in
    let first : (walk.options.contents_first && is_dir entry) ≡ false = elim c.else-self.branch [
      | else-self-via-then-self+else-is_dir w ↦ grind arith
      | else-self-via-else-self w ↦ grind arith
    ] in
    entered_now (g.D.Disk.state c.args.disk.now) old new entry c.args.place c.in_ok-path.path c.depth-depth.result c.shown-shown.result
    (c.in_ok-path.ensures.copy ∙ c.path.ensures.told) c.depth-depth.ensures.told
    first (c.shown-shown.ensures.given ∙ ap (λ (o : Options). given_if (is_given o entry.depth) entry) c.in_ok-push-2.ensures.goes.options)
    c.in_ok-push-2.ensures.pushes

pub returns-then-is_dir-clause-directory : goal.returns-then-is_dir-clause-directory
returns-then-is_dir-clause-directory g c =
    enters_nothing (g.D.Disk.state c.args.disk.now) (progress g.S.Sorter.order c.args.self.now (g.D.Disk.streams c.args.disk.now))
    (progress g.S.Sorter.order c.push.new.self (g.D.Disk.streams c.push.new.disk)) c.args.entry c.args.place

pub returns-clause-directory : goal.returns-clause-directory
returns-clause-directory g c =
    let walk = c.args.self.now in
    let entry = c.args.entry in
    let old = progress g.S.Sorter.order walk (g.D.Disk.streams c.args.disk.now) in
    let there = progress g.S.Sorter.order c.push-2.new.self (g.D.Disk.streams c.push-2.new.disk) in
    let new : Progress = record there { entered = c.if-is_dir-2.self } in
    let first : (walk.options.contents_first && is_dir entry) ≡ false = elim c.else-self.branch [
      | else-self-via-then-self+else-is_dir w ↦ grind arith
      | else-self-via-else-self w ↦ grind arith
    ] in
    let marked : c.if-is_dir-2.self ≡ (is_dir entry && is_some c.shown-shown.result) = elim c.if-is_dir-2.branch [
      | then-is_dir-2 w ↦ w.self-is ∙ w.is_some-self.ensures
          ∙ sym (ap (λ b. b && is_some c.shown-shown.result) (sym c.is_dir-is_dir.ensures.told ∙ w.if-is_dir-2.true))
      | else-is_dir-2 w ↦ w.self-is ∙ w.if-is_dir-2.false
          ∙ sym (ap (λ b. b && is_some c.shown-shown.result) (sym c.is_dir-is_dir.ensures.told ∙ w.if-is_dir-2.false))
    ] in
    enters_telling (g.D.Disk.state c.args.disk.now) old new entry c.args.place c.in_ok-path.path c.depth-depth.result c.shown-shown.result
    (is_given c.push-2.new.self.options entry.depth)
    (c.in_ok-path.ensures.copy ∙ c.path.ensures.told) c.depth-depth.ensures.told (c.in_ok-push-2.ensures.goes.start
    ∙ c.requires.start) c.shown-shown.ensures.given marked first
    c.in_ok-push-2.ensures.holds

pub returns-clause-innermost : goal.returns-clause-innermost
returns-clause-innermost g c kind =
    let walk = c.args.self.now in
    let entry = c.args.entry in
    let new = c.push-2.new.self in
    let stack = reverse new.lists.items in
    let first : (walk.options.contents_first && is_dir entry) ≡ false = elim c.else-self.branch [
      | else-self-via-then-self+else-is_dir w ↦ grind arith
      | else-self-via-else-self w ↦ grind arith
    ] in
    let head = c.in_ok-push-2.ensures.head in
    after_entered (is_given new.options entry.depth) new.options entry c.shown-shown.result stack c.shown-shown.ensures.given
    (subst (λ (n : ℕ). IsHead entry.path n stack) c.depth-depth.ensures.told (subst (λ (p : Path). IsHead p c.depth-depth.result stack)
    (c.in_ok-path.ensures.copy ∙ c.path.ensures.told) head.0))
    head.1 kind (ap (λ (o : Options). o.contents_first && is_dir entry) c.in_ok-push-2.ensures.goes.options ∙ first)

pub returns-then-is_dir-clause-above : goal.returns-then-is_dir-clause-above
returns-then-is_dir-clause-above g c =
    c.in_ok-push.ensures.above
    ∙ ap (λ (p : Path). (record { path = p; place = c.args.place }) ∷ ancestors (reverse c.args.self.now.lists.items)) (c.in_ok-path.ensures.copy
    ∙ c.path.ensures.told)

pub returns-clause-above : goal.returns-clause-above
returns-clause-above g c =
    c.in_ok-push-2.ensures.above
    ∙ ap (λ (p : Path). (record { path = p; place = c.args.place }) ∷ ancestors (reverse c.args.self.now.lists.items)) (c.in_ok-path.ensures.copy
    ∙ c.path.ensures.told)

pub returns-in_err-path-clause-answered : goal.returns-in_err-path-clause-answered
returns-in_err-path-clause-answered g c = record { leads = leads_still g.D.Disk.answered c.args.disk.now; told = λ first told known. told }

pub returns-in_err-push-clause-answered : goal.returns-in_err-push-clause-answered
returns-in_err-push-clause-answered g c =
    subst (λ (p : Path). TellsPushed g.D.Disk.answered c.args.disk.now (reverse c.args.self.now.lists.items) p c.args.place c.push.new.disk
    (reverse c.push.new.self.lists.items))
    (c.in_ok-path.ensures.copy ∙ c.path.ensures.told) c.in_err-push.ensures.answered

pub returns-in_err-push-2-clause-answered : goal.returns-in_err-push-2-clause-answered
returns-in_err-push-2-clause-answered g c =
    subst (λ (p : Path). TellsPushed g.D.Disk.answered c.args.disk.now (reverse c.args.self.now.lists.items) p c.args.place c.push-2.new.disk
    (reverse c.push-2.new.self.lists.items))
    (c.in_ok-path.ensures.copy ∙ c.path.ensures.told) c.in_err-push-2.ensures.answered

pub returns-then-is_dir-clause-answered : goal.returns-then-is_dir-clause-answered
returns-then-is_dir-clause-answered g c =
    subst (λ (p : Path). TellsPushed g.D.Disk.answered c.args.disk.now (reverse c.args.self.now.lists.items) p c.args.place c.push.new.disk
    (reverse c.push.new.self.lists.items))
    (c.in_ok-path.ensures.copy ∙ c.path.ensures.told) c.in_ok-push.ensures.answered

pub returns-clause-answered : goal.returns-clause-answered
returns-clause-answered g c =
    subst (λ (p : Path). TellsPushed g.D.Disk.answered c.args.disk.now (reverse c.args.self.now.lists.items) p c.args.place c.push-2.new.disk
    (reverse c.push-2.new.self.lists.items))
    (c.in_ok-path.ensures.copy ∙ c.path.ensures.told) c.in_ok-push-2.ensures.answered
