use Rattle.std.proofs.Common.{arith}
use Rattle.std.proofs.lemmas.Grind.{common_steps}
use Rattle.gix_odb_loose.proofs.WriteStreamsLemmas.{refused_any, loses_read}
use Rattle.gix_odb_loose.proofs.fetch.next_piece.Goals as goal

-- what was read without room for it is lost
pub returns-in_err-extend_from_slice-clause-lost : goal.returns-in_err-extend_from_slice-clause-lost
returns-in_err-extend_from_slice-clause-lost g c =
    refused_any _ _
    (loses_read _ c.in-Ok.count _ _ _ _ _ _ c.reads.bytes.items c.read.new.out c.reads.invariant.drawn
    (grind (arith, common_steps, c.reads.invariant.few, c.in-Ok.ensures.count)) c.in-Ok.ensures.bytes
    (let same = c.reads.invariant.same in omega (arith, same)) c.read.ensures.cause.later)
