use Rattle.std.proofs.Common.{[], rules, sym, ap, ◌∙◌, true≢false}
use Rattle.gix_features_channel.specs.Pipe.{gives_something}
use Rattle.gix_features_channel.proofs.PipeLemmas.{Reads-then, Reads-refill}
use Rattle.gix_features_channel.proofs.pipe.reader.Reader.reach.Goals as goal

pub reaching-preserved : goal.reaching-preserved
reaching-preserved g c = record {
  nothing = Reads-then c.args.self.now c.reaching.self c.refill.new.self [] [] c.reaching.invariant.nothing
      (Reads-refill c.reaching.self c.refill.new.self (search rules) (c.refill.ensures.took (search rules)) c.refill.ensures.channel);
  same = λ something.
      absurd (true≢false (sym something ∙ ap gives_something (sym (c.reaching.invariant.same something)) ∙ sym c.has_something.ensures.is ∙ search rules));
  note = c.refill.ensures.note (search rules) ∙ c.reaching.invariant.note;
}
