-- The streams are the shares of one list of outputs, into which they are merged.
use Rattle.std.proofs.Common.{sym, subst}
use Rattle.gix_features_workers.specs.Workers.{BeginsAs, ConsumesTo, EndsAs, AreWorked}
use Rattle.gix_features_workers.specs.Dealt.{AreShares}
use Rattle.gix_features_workers.proofs.WorkersLemmas.{AreWorked-all}
use Rattle.gix_features_workers.proofs.outputs.work_all.Goals as goal

pub returns : goal.returns
returns g c =
    let begins = BeginsAs g.N.Fn c.args.new_thread_state.now in
    let consumes = ConsumesTo g.C.Fn c.args.consume.now in
    let ends = EndsAs g.F.Fn c.args.end.now in
    let dealt = c.in_ok-jobs.ensures.dealt in
    let parts = c.in_ok-streams.field-0 in
    let all = AreWorked-all begins consumes ends c.args.workers dealt.0 c.in_ok-jobs.jobs.items c.in_ok-results.results.items parts.streams.items parts.lasts.items
    c.requires.some dealt.2 c.in_ok-results.ensures.done c.in_ok-streams.ensures.gathered in
    let shares = subst (λ n. AreShares n 0 all.0 parts.streams.items) (sym all.1.workers) all.1 in
    let merged = c.in_ok-in_order.ensures.merged all.0 shares in
    record { worked = (dealt.0, dealt.1, subst (λ outputs. AreWorked begins consumes ends c.args.workers dealt.0 outputs parts.lasts.items) (sym merged) all.2) }
