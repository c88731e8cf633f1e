use Rattle.std.proofs.Common.{arith}
use Rattle.std.proofs.lemmas.List.{length-take}
use Rattle.odb_script.proofs.unbuilt.unbuilt_at.Goals as goal

pub slice_bounds-unbuilt_in_script-end : goal.slice_bounds-unbuilt_in_script-end
slice_bounds-unbuilt_in_script-end c = omega (arith, length-take 67108864 c.args.bytes.now)
