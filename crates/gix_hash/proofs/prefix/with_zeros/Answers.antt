use Rattle.gix_hash.proofs.PrefixLemmas.Zeros.{over_zeros}
use Rattle.gix_hash.proofs.prefix.with_zeros.Goals as goal

pub returns : goal.returns
returns c = record { text = over_zeros c.args.digits.now c.copy_from_slice.new.self c.copy_from_slice.ensures.after }
