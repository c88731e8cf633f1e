use Rattle.std.proofs.Common.{sym, ap, ◌∙◌}
use Rattle.std.proofs.lemmas.Result.{err_from_is_err_and}
use Rattle.gix_features_channel.specs.Pipe.{bytes_of}
use Rattle.gix_features_channel.proofs.pipe.reader.Reader.fill_buf.Goals as goal

pub returns-in_err-fill : goal.returns-in_err-fill
returns-in_err-fill g c =
    let failed = err_from_is_err_and c.from_residual.result c.from_residual.ensures.1 in
    record {
      at_hand = rw (failed.1, failed.2) (c.fill.new.self, c.in_err-fill.ensures.error);
      there = λ something. rw (failed.1, failed.2) (c.in_err-fill.ensures.there something);
    }

pub returns : goal.returns
returns g c = record {
  at_hand = (c.fill.new.self, c.in_ok-fill.ensures.filled, sym c.front.ensures.bytes, λ none. c.in_ok-fill.ensures.end (sym c.front.ensures.bytes ∙ none));
  there = λ something. c.front.ensures.bytes ∙ ap bytes_of (c.in_ok-fill.ensures.there something);
}
