use Rattle.std.proofs.Common.{◌∙◌, ap, arith, sym, subst}
use Rattle.std.proofs.lemmas.Result.{IfOk-weaker}
use Rattle.odb_disk.specs.Tree.Follow.{Onward}
use Rattle.gix_odb_watch.specs.Sight.{IsEnd}
use Rattle.gix_odb_watch.proofs.EntryLemmas.{begins_directory}
use Rattle.gix_odb_watch.proofs.SightLemmas.{nowhere_end, onward_end, reached_end, root_end, shorter_directory, there_end}
use Rattle.gix_odb_watch.proofs.sight.Sight.+pass.Goals as goal

pub returns-in-Some : goal.returns-in-Some
returns-in-Some t c =
    let there = there_end c.args.self.now c.content.ensures.is_tree c.args.path.now c.in-Some.content.now (rw c.in-Some.is at c.in_ok-content.ensures.content) in
    record { end = IfOk-weaker c.end_at.result _ _ (λ end so. subst (IsEnd c.args.path.now end) (sym there.2) (so c.args.path.now there.0 there.1)) c.end_at.ensures.end }

-- something is at the root
pub returns-in-None-2 : goal.returns-in-None-2
returns-in-None-2 t c = record {
  end = absurd (root_end c.args.self.now c.content.ensures.is_tree c.args.path.now (rw c.in-None.is at c.in_ok-content.ensures.content)
      (sym c.in_ok-parent-in-None.ensures.parent ∙ c.in-None-2.is));
}

pub moved-requires : goal.moved-requires
moved-requires t c = record { behind = begins_directory c.args.path.now c.in-Some-2.directory (sym c.in_ok-parent-in-None.ensures.parent ∙ c.in-Some-2.is) }

pub returns-in-Onward : goal.returns-in-Onward
returns-in-Onward t c = record {
  end = onward_end c.args.self.now c.content.ensures.is_tree c.args.path.now (rw c.in-None.is at c.in_ok-content.ensures.content) c.in-Some-2.directory
      (sym c.in_ok-parent-in-None.ensures.parent ∙ c.in-Some-2.is) c.in-Onward.onward (rw c.in-Onward.is at c.in_ok-onward-in-Some-2.ensures.end)
      ∙ ap Onward (sym c.in_ok-moved-in-Onward.ensures.moved);
}

-- the directory has fewer names
pub pass-requires : goal.pass-requires
pass-requires t c =
    let shorter = shorter_directory c.args.path.now c.in-Some-2.directory (sym c.in_ok-parent-in-None.ensures.parent ∙ c.in-Some-2.is) in
    (omega (arith, shorter, c.decreases), tt)

pub returns-in-At : goal.returns-in-At
returns-in-At t c =
    let end = rw c.in-At.is at c.in_ok-onward-in-Some-2.ensures.end in
    record {
      end = reached_end c.args.self.now c.content.ensures.is_tree c.args.path.now (rw c.in-None.is at c.in_ok-content.ensures.content) c.in-Some-2.directory
          (sym c.in_ok-parent-in-None.ensures.parent ∙ c.in-Some-2.is) end.0 end.1;
    }

pub returns : goal.returns
returns t c = record {
  end = nowhere_end c.args.self.now c.content.ensures.is_tree c.args.path.now (rw c.in-None.is at c.in_ok-content.ensures.content) c.in-Some-2.directory
      (sym c.in_ok-parent-in-None.ensures.parent ∙ c.in-Some-2.is) (rw c.in-Nowhere.is at c.in_ok-onward-in-Some-2.ensures.end);
}
