-- The pieces that were written are the line.
use Rattle.odb_program.proofs.ReportLemmas.{adds_line}
use Rattle.odb_program.proofs.standard_error.write_line.Goals as goal

pub returns-clause-told : goal.returns-clause-told
returns-clause-told g c =
    adds_line _ _ _ _ _ _ _ (rw c.as_bytes.ensures.value at c.in_ok-write_all.ensures.ok) c.in_ok-write_all-2.ensures.ok c.in_ok-write_all-3.ensures.ok c.in_ok-write_all-4.ensures.ok
