-- The device and then the root are statted, and the root is handled.
use Rattle.std.proofs.Common.{◌≡◌, false, Ok, Err, [], ap, length, refl, reverse, subst, sym, ◌∙◌}
use Rattle.std.specs.Prelude.{IfSome}
use Rattle.odb_disk.specs.Tree.{tree_of}
use Rattle.odb_disk.specs.Tree.Follow.{looked}
use Rattle.odb_disk.specs.declared.meta.Meta.{Meta}
use Rattle.walkdir.specs.Answered.{IsItemTold, IsRefusedAt}
use Rattle.walkdir.specs.EnteredTurns.{BeginsTelling, HandlesAbove, HandlesTelling}
use Rattle.walkdir.specs.Innermost.{IsAfter}
use Rattle.walkdir.specs.StackProgress.{progress}
use Rattle.walkdir.specs.Turns.{handed}
use Rattle.walkdir.specs.Turns.Stands.{BeginsWalk, HandlesEntry}
use Rattle.walkdir.specs.Walk.{Tells, told_at}
use Rattle.walkdir.specs.Walk.Entries.{entry_by}
use Rattle.walkdir.proofs.AboveLemmas.{begins_above, begins_above_none}
use Rattle.walkdir.proofs.AnsweredLemmas.{error_seen, leads_then, stack_later}
use Rattle.walkdir.proofs.AnsweredLemmas.Calls.{look_leads, look_refused}
use Rattle.walkdir.proofs.EnteredLemmas.{begins_error, begins_handling}
use Rattle.walkdir.proofs.HandlesLemmas.{err_is, keeps_alike}
use Rattle.walkdir.proofs.InnermostLemmas.{after_root_error, lies_nowhere, on_entry, open_nowhere}
use Rattle.walkdir.proofs.RefusedLemmas.{looked_beside}
use Rattle.walkdir.proofs.RootLemmas.{begins_lost, begins_nowhere, begins_root}
use Rattle.walkdir.proofs.stack.Stack.start_at.Goals as goal

-- ---- the device couldn't be looked up

pub returns-in_err-device-clause-begins : goal.returns-in_err-device-clause-begins
returns-in_err-device-clause-begins g c =
    let state = g.D.Disk.state c.args.disk.now in
    let error = c.in_err-device.field-0.0 in
    let old = progress g.S.Sorter.order c.args.self.now (g.D.Disk.streams c.args.disk.now) in
    let new = progress g.S.Sorter.order c.args.self.now (g.D.Disk.streams c.device_of.new.disk) in
    subst (λ r. BeginsWalk state old c.args.root (handed r) new) (sym (err_is c.from_residual.result error c.from_residual.ensures.1))
    (begins_lost state old new c.args.root error (ap reverse c.requires.stack) c.in_err-device.ensures.finds.0 c.in_err-device.ensures.finds.1)

pub returns-in_err-device-clause-directory : goal.returns-in_err-device-clause-directory
returns-in_err-device-clause-directory g c = λ unmarked.
    let state = g.D.Disk.state c.args.disk.now in
    let error = c.in_err-device.field-0.0 in
    let old = progress g.S.Sorter.order c.args.self.now (g.D.Disk.streams c.args.disk.now) in
    let new = progress g.S.Sorter.order c.args.self.now (g.D.Disk.streams c.device_of.new.disk) in
    subst (λ r. BeginsTelling state old c.args.root (handed r) new) (sym (err_is c.from_residual.result error c.from_residual.ensures.1))
    (begins_error state old new c.args.root error)

pub returns-in_err-device-clause-innermost : goal.returns-in_err-device-clause-innermost
returns-in_err-device-clause-innermost g c =
    let walk = c.args.self.now in
    let stack = reverse walk.lists.items in
    let error = c.in_err-device.field-0.0 in
    subst (λ r. IsAfter walk.options (handed r) stack) (sym (err_is c.from_residual.result error c.from_residual.ensures.1))
    (after_root_error walk.options c.args.root error stack (ap reverse c.requires.stack) c.in_err-device.ensures.call)

pub returns-in_err-device-clause-above : goal.returns-in_err-device-clause-above
returns-in_err-device-clause-above g c =
    begins_above_none (g.D.Disk.state c.args.disk.now) (progress g.S.Sorter.order c.args.self.now (g.D.Disk.streams c.args.disk.now))
    (progress g.S.Sorter.order c.args.self.now (g.D.Disk.streams c.device_of.new.disk)) c.args.root (handed c.from_residual.result)
    (ap reverse c.requires.stack)

pub returns-in_err-device-clause-answered : goal.returns-in_err-device-clause-answered
returns-in_err-device-clause-answered g c =
    let error = c.in_err-device.field-0.0 in
    let tells = c.in_err-device.ensures.answered in
    let stack = reverse c.args.self.now.lists.items in
    let empty : stack ≡ [] = ap reverse c.requires.stack in
    record {
      leads = tells.leads;
      told = λ first told. (
        stack_later g.D.Disk.answered first c.args.disk.now c.device_of.new.disk stack told tells.leads,
        subst (λ r. IsItemTold g.D.Disk.answered first c.device_of.new.disk (handed r))
            (sym (err_is c.from_residual.result error c.from_residual.ensures.1))
            (error_seen g.D.Disk.answered first c.device_of.new.disk error (tells.told first told.leads)),
      );
      refused = λ first told.
          subst (λ r. IsRefusedAt g.D.Disk.answered first c.device_of.new.disk (handed r) stack)
          (sym (err_is c.from_residual.result error c.from_residual.ensures.1))
          (looked_beside g.D.Disk.answered first c.device_of.new.disk c.args.root 0 error stack
          (on_entry c.args.root 0 error c.in_err-device.ensures.call) (sym (ap length empty))
          (lies_nowhere c.args.root stack empty) (tells.told first told.leads));
    }

-- ---- the root couldn't be statted

pub returns-in_err-meta-clause-begins : goal.returns-in_err-meta-clause-begins
returns-in_err-meta-clause-begins g c =
    let state = g.D.Disk.state c.args.disk.now in
    let walk = c.args.self.now in
    let error = c.in_err-meta.field-0.0 in
    let old = progress g.S.Sorter.order walk (g.D.Disk.streams c.args.disk.now) in
    let new = progress g.S.Sorter.order (record walk { root_device = c.in_ok-device.device }) (g.D.Disk.streams c.look.new.disk) in
    subst (λ r. BeginsWalk state old c.args.root (handed r) new)
    (sym (err_is c.from_residual-in_err-meta.result error c.from_residual-in_err-meta.ensures.1))
    (begins_nowhere state old new c.args.root c.in_ok-device.device error (ap reverse c.requires.stack) c.in_ok-device.ensures.finds
    (subst (λ o. IfSome o (λ s. Tells {A = Meta} 0 c.args.root (Err error) (told_at 0 c.args.root (looked (tree_of s) c.args.root false))))
    c.in_ok-device.ensures.state
    c.in_err-meta.ensures.told))

pub returns-in_err-meta-clause-directory : goal.returns-in_err-meta-clause-directory
returns-in_err-meta-clause-directory g c = λ unmarked.
    let state = g.D.Disk.state c.args.disk.now in
    let error = c.in_err-meta.field-0.0 in
    let old = progress g.S.Sorter.order c.args.self.now (g.D.Disk.streams c.args.disk.now) in
    let new = progress g.S.Sorter.order (record c.args.self.now { root_device = c.in_ok-device.device }) (g.D.Disk.streams c.look.new.disk) in
    subst (λ r. BeginsTelling state old c.args.root (handed r) new)
    (sym (err_is c.from_residual-in_err-meta.result error c.from_residual-in_err-meta.ensures.1))
    (begins_error state old new c.args.root error)

pub returns-in_err-meta-clause-innermost : goal.returns-in_err-meta-clause-innermost
returns-in_err-meta-clause-innermost g c =
    let walk = c.args.self.now in
    let error = c.in_err-meta.field-0.0 in
    let stack = reverse walk.lists.items in
    subst (λ r. IsAfter walk.options (handed r) stack) (sym (err_is c.from_residual-in_err-meta.result error c.from_residual-in_err-meta.ensures.1))
    (after_root_error walk.options c.args.root error stack (ap reverse c.requires.stack) c.in_err-meta.ensures.call)

pub returns-in_err-meta-clause-above : goal.returns-in_err-meta-clause-above
returns-in_err-meta-clause-above g c =
    begins_above_none (g.D.Disk.state c.args.disk.now) (progress g.S.Sorter.order c.args.self.now (g.D.Disk.streams c.args.disk.now))
    (progress g.S.Sorter.order (record c.args.self.now { root_device = c.in_ok-device.device }) (g.D.Disk.streams c.look.new.disk)) c.args.root
    (handed c.from_residual-in_err-meta.result) (ap reverse c.requires.stack)

pub returns-in_err-meta-clause-answered : goal.returns-in_err-meta-clause-answered
returns-in_err-meta-clause-answered g c =
    let by = c.in_err-meta.ensures.answered in
    let error = c.in_err-meta.field-0.0 in
    let device = c.in_ok-device.ensures.answered.leads in
    let leads = leads_then g.D.Disk.answered c.args.disk.now c.device_of.new.disk c.look.new.disk device
    (look_leads g.D.Disk.answered 0 c.args.root false c.device_of.new.disk c.look.new.disk (Err error) by) in
    let stack = reverse c.args.self.now.lists.items in
    let empty : stack ≡ [] = ap reverse c.requires.stack in
    record {
      leads = leads;
      told = λ first told. (
        stack_later g.D.Disk.answered first c.args.disk.now c.look.new.disk stack told leads,
        subst (λ r. IsItemTold g.D.Disk.answered first c.look.new.disk (handed r))
            (sym (err_is c.from_residual-in_err-meta.result error c.from_residual-in_err-meta.ensures.1))
            (error_seen g.D.Disk.answered first c.look.new.disk error
            (look_refused g.D.Disk.answered first 0 c.args.root false c.device_of.new.disk c.look.new.disk error
            (leads_then g.D.Disk.answered first c.args.disk.now c.device_of.new.disk told.leads device) by)),
      );
      refused = λ first told.
          subst (λ r. IsRefusedAt g.D.Disk.answered first c.look.new.disk (handed r) stack)
          (sym (err_is c.from_residual-in_err-meta.result error c.from_residual-in_err-meta.ensures.1))
          (looked_beside g.D.Disk.answered first c.look.new.disk c.args.root 0 error stack (on_entry c.args.root 0 error c.in_err-meta.ensures.call)
          (sym (ap length empty))
          (lies_nowhere c.args.root stack empty)
          (look_refused g.D.Disk.answered first 0 c.args.root false c.device_of.new.disk c.look.new.disk error
          (leads_then g.D.Disk.answered first c.args.disk.now c.device_of.new.disk told.leads device) by));
    }

-- ---- the root is handled

pub handle-requires-clause-parent : goal.handle-requires-clause-parent
handle-requires-clause-parent g c = lies_nowhere c.entry_by.result.path (reverse c.args.self.now.lists.items) (ap reverse c.requires.stack)

pub handle-requires-clause-unskipped : goal.handle-requires-clause-unskipped
handle-requires-clause-unskipped g c = open_nowhere (reverse c.args.self.now.lists.items) (ap reverse c.requires.stack)

pub returns-clause-begins : goal.returns-clause-begins
returns-clause-begins g c =
    let state = g.D.Disk.state c.args.disk.now in
    let walk = c.args.self.now in
    let meta = c.in_ok-meta.meta in
    let item = handed c.handle.result in
    let old = progress g.S.Sorter.order walk (g.D.Disk.streams c.args.disk.now) in
    let mid = progress g.S.Sorter.order (record walk { root_device = c.in_ok-device.device }) (g.D.Disk.streams c.look.new.disk) in
    let new = progress g.S.Sorter.order c.handle.new.self (g.D.Disk.streams c.handle.new.disk) in
    begins_root state old mid new c.args.root meta item refl refl (ap reverse c.requires.stack)
    (keeps_alike old mid refl refl (c.in_ok-meta.ensures.streams ∙ c.in_ok-device.ensures.streams)) c.in_ok-device.ensures.finds
    c.handle.ensures.device
    (subst (λ o. IfSome o (λ s. Tells 0 c.args.root (Ok meta) (told_at 0 c.args.root (looked (tree_of s) c.args.root false))))
    c.in_ok-device.ensures.state c.in_ok-meta.ensures.told)
    (subst (λ o. HandlesEntry o mid (entry_by c.args.root false 0 meta) item new) (c.in_ok-meta.ensures.kept ∙ c.in_ok-device.ensures.state)
    (subst (λ e. HandlesEntry (g.D.Disk.state c.look.new.disk) mid e item new) c.entry_by.ensures.made c.handle.ensures.walks))

pub returns-clause-directory : goal.returns-clause-directory
returns-clause-directory g c = λ unmarked.
    let state = g.D.Disk.state c.args.disk.now in
    let walk = c.args.self.now in
    let item = handed c.handle.result in
    let old = progress g.S.Sorter.order walk (g.D.Disk.streams c.args.disk.now) in
    let mid = progress g.S.Sorter.order (record walk { root_device = c.in_ok-device.device }) (g.D.Disk.streams c.look.new.disk) in
    let new = progress g.S.Sorter.order c.handle.new.self (g.D.Disk.streams c.handle.new.disk) in
    begins_handling state old mid new c.args.root item refl refl c.in_ok-device.ensures.finds
    (subst (λ o. HandlesTelling o mid item new) (c.in_ok-meta.ensures.kept ∙ c.in_ok-device.ensures.state) (c.handle.ensures.directory unmarked))

pub returns-clause-above : goal.returns-clause-above
returns-clause-above g c =
    let state = g.D.Disk.state c.args.disk.now in
    let walk = c.args.self.now in
    let meta = c.in_ok-meta.meta in
    let item = handed c.handle.result in
    let old = progress g.S.Sorter.order walk (g.D.Disk.streams c.args.disk.now) in
    let mid = progress g.S.Sorter.order (record walk { root_device = c.in_ok-device.device }) (g.D.Disk.streams c.look.new.disk) in
    let new = progress g.S.Sorter.order c.handle.new.self (g.D.Disk.streams c.handle.new.disk) in
    begins_above state old mid new c.args.root meta item refl refl (ap reverse c.requires.stack) c.in_ok-device.ensures.finds
    (subst (λ o. IfSome o (λ s. Tells 0 c.args.root (Ok meta) (told_at 0 c.args.root (looked (tree_of s) c.args.root false))))
    c.in_ok-device.ensures.state c.in_ok-meta.ensures.told)
    (subst (λ o. HandlesAbove o mid (entry_by c.args.root false 0 meta) item new) (c.in_ok-meta.ensures.kept ∙ c.in_ok-device.ensures.state)
    (subst (λ e. HandlesAbove (g.D.Disk.state c.look.new.disk) mid e item new) c.entry_by.ensures.made c.handle.ensures.above))

pub returns-clause-answered : goal.returns-clause-answered
returns-clause-answered g c =
    let stack = reverse c.args.self.now.lists.items in
    let leads = leads_then g.D.Disk.answered c.args.disk.now c.device_of.new.disk c.look.new.disk c.in_ok-device.ensures.answered.leads
    (look_leads g.D.Disk.answered 0 c.args.root false c.device_of.new.disk c.look.new.disk (Ok c.in_ok-meta.meta) c.in_ok-meta.ensures.answered) in
    let handles = c.handle.ensures.answered in
    record {
      leads = leads_then g.D.Disk.answered c.args.disk.now c.look.new.disk c.handle.new.disk leads handles.leads;
      told = λ first told. handles.told first (stack_later g.D.Disk.answered first c.args.disk.now c.look.new.disk stack told leads);
      refused = λ first told. handles.refused first (stack_later g.D.Disk.answered first c.args.disk.now c.look.new.disk stack told leads);
    }
