-- What was taken out of the pipe is a prefix of what was written, and what was read is a prefix of that.
use Rattle.std.proofs.Common.{sym, ap, ◌∙◌, ◌++◌, ◌≡◌}
use Rattle.gix_features_channel.specs.Pipe.{written, taken}
use Rattle.gix_features_channel.proofs.PipeLaws.{what_is_read_was_written}
use Rattle.feature_tests.proofs.pipes.read_first.Goals as goal

pub returns-in-Ok : goal.returns-in-Ok
returns-in-Ok g c =
    let rest = c.together-writer.ensures.prefix in
    let prefix : written c.args.writer ≡ taken c.read.new.self ++ rest.0 =
    sym c.together-writer.ensures.same.0 ∙ rest.1 ∙ ap (λ l. l ++ rest.0) c.together-writer.ensures.same.1 in
    record { first = what_is_read_was_written c.args.reader c.read.new.self c.args.writer _ rest.0 c.requires.begun c.in-Ok.ensures.given prefix }
