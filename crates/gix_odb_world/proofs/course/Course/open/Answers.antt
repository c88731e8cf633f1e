use Rattle.std.proofs.Common.{◌≡◌, ◌∷◌, false, sym, subst}
use Rattle.std.proofs.lemmas.Result.{on_ok_weaker}
use Rattle.gix_odb_calls.specs.declared.step.Step.TheVariants as steps
use Rattle.gix_odb_calls.specs.declared.step.Why.TheVariants.{BadOpen}
use Rattle.gix_odb_watch.specs.Kept.{Fits}
use Rattle.gix_odb_world.specs.Handle.{Begins}
use Rattle.gix_odb_world.specs.Table.{phase_of_handle}
use Rattle.gix_odb_world.specs.Valid.{is_openable}
use Rattle.gix_odb_world.specs.Watch.{Watches}
use Rattle.gix_odb_world.specs.World.{handle_at}
use Rattle.gix_odb_world.proofs.DistinctLemmas.{none_of, some_of}
use Rattle.gix_odb_world.proofs.FitsLemmas.{fits_now}
use Rattle.gix_odb_world.proofs.SettingLemmas.{sets_seen}
use Rattle.gix_odb_world.proofs.StepLemmas.{misused}
use Rattle.gix_odb_world.proofs.HandleLemmas.{opened, bad_open, taken}
use Rattle.gix_odb_world.proofs.course.Course.open.Goals as goal

-- the number isn't free
pub returns-in-Some-clause-continues : goal.returns-in-Some-clause-continues
returns-in-Some-clause-continues c =
    on_ok_weaker c.misuse.result
    (misused c.args.self.now c.misuse.new.self (steps.Open c.args.number c.args.path.now c.args.folders.now c.args.hash c.args.replacements.now c.args.options) c.in-Some.why
    (taken (phase_of_handle (handle_at c.args.self.now c.args.number))
    (is_openable c.args.path.now c.args.folders.now c.args.hash c.args.replacements.now c.args.options.max_changes) c.in-Some.why c.in-Some.ensures.why)) c.misuse.ensures.notes

-- a condition of opening doesn't hold
pub returns-in_default-begun-clause-continues : goal.returns-in_default-begun-clause-continues
returns-in_default-begun-clause-continues c =
    let bad : is_openable c.args.path.now c.args.folders.now c.args.hash c.args.replacements.now c.args.options.max_changes ≡ false =
    none_of c.in_ok-begun.begun (is_openable c.args.path.now c.args.folders.now c.args.hash c.args.replacements.now c.args.options.max_changes ≡ false)
    (Begins c.args.path.now c.args.folders.now c.args.hash c.args.replacements.now c.args.options) c.in_ok-begun.ensures.begun c.in_default-begun.is in
    on_ok_weaker c.misuse-in_default-begun.result
    (misused c.args.self.now c.misuse-in_default-begun.new.self (steps.Open c.args.number c.args.path.now c.args.folders.now c.args.hash c.args.replacements.now c.args.options) BadOpen
    (bad_open (phase_of_handle (handle_at c.args.self.now c.args.number)) (is_openable c.args.path.now c.args.folders.now c.args.hash c.args.replacements.now c.args.options.max_changes)
    (sym c.in_default.ensures.why) bad)) c.misuse-in_default-begun.ensures.notes

-- the opening begins
pub returns-clause-continues : goal.returns-clause-continues
returns-clause-continues c =
    let begins =
    some_of c.in_ok-begun.begun (is_openable c.args.path.now c.args.folders.now c.args.hash c.args.replacements.now c.args.options.max_changes ≡ false)
    (Begins c.args.path.now c.args.folders.now c.args.hash c.args.replacements.now c.args.options) c.in-Some-begun.opening c.in_ok-begun.ensures.begun c.in-Some-begun.is in
    on_ok_weaker c.note.result
    (opened c.args.self.now c.put.new.self c.note.new.self c.watch_store.new.shown c.args.number c.args.path.now c.args.folders.now c.args.hash c.args.replacements.now c.args.options
    c.in-Some-begun.opening (sym c.in_default.ensures.why) begins (subst (λ t. Watches c.args.self.now.shown c.watch_store.new.shown t (c.args.path.now ∷ c.args.folders.now)) c.tree.ensures.shown c.in_ok-watch_store.ensures.watches)
    (sets_seen (record c.args.self.now { shown = c.watch_store.new.shown }) c.put.new.self c.args.number _ c.in_ok-put.ensures.puts)) c.note.ensures.notes

-- what is kept fits the disk
pub watch_store-requires : goal.watch_store-requires
watch_store-requires c = record { fits = subst (Fits c.args.self.now.shown) (sym c.tree.ensures.shown) (fits_now c.args.self.now c.requires.explained) }
