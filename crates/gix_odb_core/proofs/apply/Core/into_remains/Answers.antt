use Rattle.gix_odb_core.proofs.apply.Core.into_remains.Goals as goal

-- the invariant of a core's journal is known of what remains of the core
pub invariant_of-result : goal.invariant_of-result
invariant_of-result c = record { legal = c.self.invariant.legal; possible = c.self.invariant.possible }
