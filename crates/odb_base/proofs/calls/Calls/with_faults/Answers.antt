use Rattle.std.proofs.Common.{ap, ◌∙◌, refl}
use Rattle.std.specs.FinSet as set
use Rattle.std.proofs.lemmas.List.{take_all}
use Rattle.odb_base.specs.Calls.{no_calls}
use Rattle.odb_base.proofs.CallsLemmas.{from_list-more}
use Rattle.odb_base.proofs.calls.Calls.with_faults.Goals as goal

pub loop-call-preserved : goal.loop-call-preserved
loop-call-preserved c =
    from_list-more c.loop-call.listed c.insert.new.self c.args.calls.now c.loop-call.call-index _ c.loop-call-test.true refl c.in_ok-insert.ensures.updates c.loop-call.invariant

pub returns : goal.returns
returns c = record {
  listed = let all = take_all c.loop-call.call-index c.args.calls.now c.loop-call-test.false in
      ap no_calls (c.loop-call.invariant ∙ ap set.from_list all);
}
