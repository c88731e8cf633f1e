use Rattle.gix_features_workers.specs.Dealt.{AreGathered}
use Rattle.gix_features_workers.proofs.outputs.gather.Given as goal

abbrev pub invariant-loop-result : goal.invariant-loop-result
invariant-loop-result g l = AreGathered l.yielded l.parts.streams.items l.parts.lasts.items
