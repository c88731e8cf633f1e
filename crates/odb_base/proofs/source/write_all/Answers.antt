-- A write adds to the bytes that are written; one that fails leaves them.
use Rattle.std.proofs.Common.{arith}
use Rattle.odb_base.proofs.SourceLemmas.{Written-more, Adds-front, OnErr-always}
use Rattle.odb_base.proofs.source.write_all.Goals as goal

pub returns-in_err-count-clause-err : goal.returns-in_err-count-clause-err
returns-in_err-count-clause-err g c =
    let front = Adds-front _ _ _ _ _ _ c.writing.invariant.0 c.in_err-count.ensures.bytes in OnErr-always _ front

pub writing-preserved : goal.writing-preserved
writing-preserved g c =
    (rw c.split_at.ensures.back (Written-more _ _ _ _ _ _ c.writing.invariant.0 c.in_ok-count.ensures.bytes), omega (arith, c.in_ok-count.ensures.cause.later, c.writing.invariant.1))
