use Rattle.gix_odb_history.proofs.kept_core.KeptCore.held.Goals as goal

pub invariant_of-result : goal.invariant_of-result
invariant_of-result c = record { complete = c.requires.complete; left = tt }
