-- Each name that is joined is the next of the path, composed.
use Rattle.std.proofs.Common.{sym, ◌∙◌}
use Rattle.gix_features.proofs.ComposedLemmas.{is_name-at, composed_path-none, composed_path-more, composed_path-all}
use Rattle.gix_features.proofs.fs.composed.composed_names.Goals as goal

pub loop-name-init : goal.loop-name-init
loop-name-init c = c.root-composed.ensures.empty ∙ sym composed_path-none

pub joined-requires : goal.joined-requires
joined-requires c = record { name = is_name-at c.args.names.now c.loop-name.name-index _ c.requires.names c.loop-name-test.true }

pub loop-name-preserved : goal.loop-name-preserved
loop-name-preserved c = composed_path-more c.args.names.now c.loop-name.name-index _ _ _ c.loop-name-test.true c.loop-name.invariant
    c.in_ok-composed.ensures.joined

pub returns : goal.returns
returns c = record { composed = c.loop-name.invariant ∙ composed_path-all c.args.names.now c.loop-name.name-index c.loop-name-test.false }
