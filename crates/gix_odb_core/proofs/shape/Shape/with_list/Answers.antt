use Rattle.std.proofs.Common.{arith}
use Rattle.gix_odb_core.proofs.RoomLemmas.{generation_rises, state_rises}
use Rattle.gix_odb_core.proofs.shape.Shape.with_list.Goals as goal

pub overflow_add-result : goal.overflow_add-result
overflow_add-result c = let other = state_rises c.args.self.now c.args.renewed c.requires.rises in omega arith

pub overflow_add-result-2 : goal.overflow_add-result-2
overflow_add-result-2 c = let fits = generation_rises c.args.self.now c.args.renewed c.requires.rises (omega arith) in omega (arith, fits, c.risen.ensures.risen)

pub overflow_add-result-3 : goal.overflow_add-result-3
overflow_add-result-3 c = let other = state_rises c.args.self.now c.args.renewed c.requires.rises in omega arith
