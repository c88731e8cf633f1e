use Rattle.std.proofs.Common.{◌<◌, ◌^◌, arith}
use Rattle.gix_odb_world.proofs.BoundLemmas.{bound_fits}
use Rattle.gix_odb_world.proofs.bound.bound_of.Goals.{in-None, in-Some}
use Rattle.gix_odb_world.proofs.bound.bound_of.Goals as goal

pub overflow_add-result-2 : goal.overflow_add-result-2
overflow_add-result-2 c =
    let short : c.match-write.writing < 2 ^ 113 = elim c.match-write.branch [ in-None w ↦ omega arith | in-Some w ↦ omega (arith, w.div_ceil.ensures) ] in
    let fits = bound_fits c.from-2.result c.from-3.result c.from-4.result c.from.result c.match-write.writing (omega arith) (omega arith) (omega arith) (omega arith) short in
    omega arith
