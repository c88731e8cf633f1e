use Rattle.std.proofs.Common.{arith}
use Rattle.object_tests.proofs.SourceLemmas.{ReadSoFar-more, Takes-ReadSoFar}
use Rattle.object_tests.proofs.shelf.read_whole.Goals as goal

-- memory ran out for bytes that were read
pub returns-in_err-extend_from_slice-clause-drawn :
    goal.returns-in_err-extend_from_slice-clause-drawn
returns-in_err-extend_from_slice-clause-drawn g c =
    record {
      taken = Takes-ReadSoFar _ _ _ (ReadSoFar-more _ _ _ _ _ _ c.reading.invariant.0 c.in_ok-count.ensures.bytes);
      later = omega (arith, c.in_ok-count.ensures.cause.later, c.reading.invariant.1);
    }
