use Rattle.std.proofs.Common.{◌∙◌}
use Rattle.odb_base.proofs.BlocksLemmas.{AreFilled-push, joined-push}
use Rattle.odb_base.proofs.filling.Filling.finish.Goals as goal

-- the last block follows the full ones
pub returns : goal.returns
returns g c = record {
  filled = rw c.in_ok-add_block.ensures.ok (AreFilled-push 32 c.self.inside.full c.self.inside.last c.self.invariant.0 c.self.invariant.1);
  items = rw c.in_ok-add_block.ensures.ok (joined-push c.self.inside.full c.self.inside.last ∙ c.self.view_is);
}
