-- Folder after folder.
use Rattle.std.proofs.Common.{arith, length, refl, ◌∙◌}
use Rattle.list_walk.proofs.SessionLemmas.{back_again, still_back}
use Rattle.list_walk.proofs.WalksLemmas.{begins_walks, first_and, one_walk_more, walks_cut}
use Rattle.list_walk.proofs.run.listed.Goals as goal

-- no folder was walked yet
pub folders-init : goal.folders-init
folders-init g c = record { state = refl; faults = omega arith; error_faults = omega arith; back = still_back _ _; walked = begins_walks _ _ _ _ }

-- one more folder
pub folders-preserved : goal.folders-preserved
folders-preserved g c = record {
  state = c.visited.ensures.state ∙ c.folders.invariant.state;
  faults = omega (arith, c.visited.ensures.later, c.folders.invariant.faults);
  error_faults = omega (arith, c.visited.ensures.later_errors, c.folders.invariant.error_faults);
  back = back_again _ _ _ _ c.folders.invariant.back c.visited.ensures.back;
  walked =
      rw c.worse-status.ensures.worse
      (one_walk_more _ _ _ _ _ _ _ _ _ _ _ c.folders.invariant.walked (first_and _ _ _ _ (omega arith) (omega arith) c.folder-item.is) (rw c.folders.invariant.state at c.in-Ok.ensures.ends));
}

-- a walk that was cut off
pub returns-in-Err-clause-ends : goal.returns-in-Err-clause-ends
returns-in-Err-clause-ends g c =
    rw (← c.as_slice-rest.ensures.value)
    (walks_cut _ _ _ _ _ _ _ _ _ _ c.folders.invariant.walked (first_and _ (length c.folders.rest.now) _ _ (omega arith) (omega arith) c.folder-item.is)
    (rw c.folders.invariant.state at c.in-Err.ensures.ends))
