use Rattle.gix_odb_world.proofs.WorldLemmas.{explains_none}
use Rattle.gix_odb_world.proofs.course.Course.new.Goals as goal

pub returns : goal.returns
returns c = record {
  explained = explains_none record {
    disk = c.args.disk;
    handles = c.new.result;
    cores = c.new-2.result;
    shown = c.new-3.result;
    outcomes = c.new-4.result;
    records = c.new-5.result;
  } c.tree.ensures.is_tree c.new.ensures.empty c.new-2.ensures.items c.new-3.ensures.empty c.new-4.ensures.empty c.new-5.ensures.empty;
}
