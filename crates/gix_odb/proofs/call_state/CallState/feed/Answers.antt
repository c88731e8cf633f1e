-- The stage that was fed is one of a call that writes, where the call writes.
use Rattle.std.proofs.Common.{ap, ◌∙◌}
use Rattle.gix_odb.specs.CallOrder.{is_for_writes}
use Rattle.gix_odb.specs.HandleState.{setting_at}
use Rattle.gix_odb.proofs.CallLemmas.{fed_writes_by}
use Rattle.gix_odb.proofs.call_state.CallState.feed.Goals as goal

pub invariant_of-self-in-Ok : goal.invariant_of-self-in-Ok
invariant_of-self-in-Ok c = record {
  writes = ap is_for_writes c.replace.ensures.after
      ∙ fed_writes_by (setting_at c.see.new.handle) c.in-Ok.answer c.args.self.now.stage c.replace-stage.result c.in_ok-next-in-Ok.next
      c.args.self.now.writes c.replace-stage.ensures.value c.in_ok-next-in-Ok.ensures.fed;
}
