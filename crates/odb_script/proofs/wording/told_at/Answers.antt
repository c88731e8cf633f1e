use Rattle.std.proofs.Common.{arith}
use Rattle.std.proofs.lemmas.List.{length-take}
use Rattle.odb_script.proofs.wording.told_at.Goals as goal

pub slice_bounds-told_in-end : goal.slice_bounds-told_in-end
slice_bounds-told_in-end c = omega (arith, length-take 67108864 c.args.bytes.now)
