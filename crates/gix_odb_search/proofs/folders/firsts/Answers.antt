use Rattle.std.proofs.Common.{ap, refl, ◌∙◌}
use Rattle.gix_odb_search.specs.PackFolder.{firsts}
use Rattle.gix_odb_search.proofs.FirstsLemmas.{step_again, step_new}
use Rattle.gix_odb_search.proofs.folders.firsts.Goals.{then-branch+in_ok-push, else-branch}
use Rattle.gix_odb_search.proofs.folders.firsts.Goals as goal

pub loop-entry-preserved : goal.loop-entry-preserved
loop-entry-preserved c =
    elim c.if-branch.branch [
      | then-branch+in_ok-push w ↦
          step_new c.loop-entry.found.items _ c.loop-entry.names.keys c.insert.new.self.keys c.args.entries.now c.loop-entry.entry-index c.entry-item.result
          (firsts c.args.entries.now) c.loop-entry-test.true c.entry-item.is refl c.in_ok-insert.ensures.keys c.loop-entry.invariant
          c.if-branch.found.items _ c.in_ok-insert.field-0 (ap (λ found. found.items) w.found-is ∙ w.in_ok-push.ensures.items) refl
          c.in_ok-insert.ensures.added w.if-branch.true
      | else-branch w ↦
          step_again c.loop-entry.found.items _ c.loop-entry.names.keys c.insert.new.self.keys c.args.entries.now c.loop-entry.entry-index c.entry-item.result
          (firsts c.args.entries.now) c.loop-entry-test.true c.entry-item.is refl c.in_ok-insert.ensures.keys c.loop-entry.invariant
          c.if-branch.found.items c.in_ok-insert.field-0 (ap (λ found. found.items) w.found-is) c.in_ok-insert.ensures.added w.if-branch.false
    ]
