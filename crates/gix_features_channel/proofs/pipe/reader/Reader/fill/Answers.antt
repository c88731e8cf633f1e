-- The note of an earlier call is cleared, and then only what the pieces that come have is given.
use Rattle.std.proofs.Common.{◌∷◌, [], sym, subst}
use Rattle.gix_features_channel.specs.declared.pipe.reader.Reader.{Reader}
use Rattle.gix_features_channel.specs.Pipe.{Failure, Reads}
use Rattle.gix_features_channel.proofs.PipeLemmas.{Reads-then, Reads-idle}
use Rattle.gix_features_channel.proofs.pipe.reader.Reader.fill.Goals as goal

pub returns-then-not-reach-clause-filled : goal.returns-then-not-reach-clause-filled
returns-then-not-reach-clause-filled g c = Reads-idle c.args.self.now c.begin.new.self c.reach.new.self [] c.begin.ensures.nothing c.reach.ensures.nothing

pub returns-in-Some-clause-error : goal.returns-in-Some-clause-error
returns-in-Some-clause-error g c =
    Reads-then c.args.self.now c.reach.new.self c.failure.new.self [] (Failure c.in-Some.error ∷ [])
    (Reads-idle c.args.self.now c.begin.new.self c.reach.new.self [] c.begin.ensures.nothing c.reach.ensures.nothing) c.in-Some.ensures.given

pub returns-in-None-clause-filled : goal.returns-in-None-clause-filled
returns-in-None-clause-filled g c =
    subst (λ (r : Reader). Reads c.args.self.now r []) (sym c.in-None.ensures.none.0)
    (Reads-idle c.args.self.now c.begin.new.self c.reach.new.self [] c.begin.ensures.nothing c.reach.ensures.nothing)
