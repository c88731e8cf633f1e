use Rattle.std.proofs.Common.{Some, subst}
use Rattle.std.specs.Prelude.{OnOk}
use Rattle.gix_odb_world.specs.Table.{PutsHandle}
use Rattle.gix_odb_world.specs.declared.handle.Handle.{Handle}
use Rattle.gix_odb_world.proofs.course.Course.put.Goals as goal

-- the handle on the heap is the one that was put there
pub returns : goal.returns
returns c = record {
  puts = subst (λ (h : Handle). OnOk c.put_back.result (PutsHandle c.args.self.now c.put_back.new.self c.args.number (Some h))) c.in_ok-boxed.ensures.value c.put_back.ensures.puts;
}
