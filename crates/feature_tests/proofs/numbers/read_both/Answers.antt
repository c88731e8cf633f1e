use Rattle.std.proofs.Common.{rules}
use Rattle.feature_tests.proofs.NumbersLemmas.{one_for_both}
use Rattle.feature_tests.proofs.numbers.read_both.Goals as goal

pub returns : goal.returns
returns g c =
    let one = c.leb64_from_read-first in
    let other = c.leb64_from_read-second in
    record {
      same = one_for_both _ _ _ _ one.result other.result c.requires.told c.requires.alike
          (record { decoded = one.ensures.decoded; truncated = one.ensures.truncated; fits = search rules })
          (record { decoded = other.ensures.decoded; truncated = other.ensures.truncated; fits = search rules });
    }
