-- The bytes of the number are read one after another.
use Rattle.std.proofs.Common.{arith, [], ◌∙◌}
use Rattle.std.proofs.lemmas.Result.{err_from_is_err_and}
use Rattle.gix_features_parts.proofs.Leb64Lemmas.{refused, WantsMore-none, ReadSoFar-first, ReadSoFar-next, ReadSoFar-overflow, ReadSoFar-refused}
use Rattle.gix_features_parts.proofs.decode.leb64_from_read.Goals as goal

pub returns-in_err-first-clause-decoded : goal.returns-in_err-first-clause-decoded
returns-in_err-first-clause-decoded g c =
    let p = err_from_is_err_and c.from_residual.result c.from_residual.ensures.1 in
    rw (p.1, p.2) ([], c.in_err-first.ensures.untaken, refused [] _ WantsMore-none c.in_err-first.ensures.read)

pub reading-init : goal.reading-init
reading-init g c = record {
  read = ReadSoFar-first _ _ c.in_ok-first.first _ _ c.in_ok-first.ensures.taken c.low_bits-value.ensures.bits c.goes_on-more.ensures.more;
  same = c.in_ok-first.ensures.same (λ other. cc other);
  fits = c.low_bits-value.type_inv;
  short = omega arith;
}

pub returns-in_err-byte-clause-decoded : goal.returns-in_err-byte-clause-decoded
returns-in_err-byte-clause-decoded g c =
    let p = err_from_is_err_and c.from_residual-in_err-byte.result c.from_residual-in_err-byte.ensures.1 in
    let before = rw c.reading-test.true at c.reading.invariant.read in
    rw (p.1, p.2) (ReadSoFar-refused _ _ _ _ before c.reading.invariant.fits _ _ c.in_err-byte.ensures.untaken c.in_err-byte.ensures.read)

pub returns-in_default-clause-decoded : goal.returns-in_default-clause-decoded
returns-in_default-clause-decoded g c =
    let before = rw c.reading-test.true at c.reading.invariant.read in
    ReadSoFar-overflow _ _ _ _ before c.reading.invariant.fits _ c.in_ok-byte.byte c.in_ok-byte.ensures.taken c.in_default.ensures.number

pub reading-preserved : goal.reading-preserved
reading-preserved g c =
    let before = rw c.reading-test.true at c.reading.invariant.read in
    let longer = c.in-Some.ensures.number in
    record {
      read = ReadSoFar-next _ _ _ _ before c.reading.invariant.fits _ c.in_ok-byte.byte _ _ c.in_ok-byte.ensures.taken longer
          c.goes_on-more-in-reading.ensures.more;
      same = c.in_ok-byte.ensures.same (λ other. cc other) ∙ c.reading.invariant.same;
      fits = c.in-Some.ensures.fits;
      short = omega (arith, c.reading.invariant.short, longer);
    }
