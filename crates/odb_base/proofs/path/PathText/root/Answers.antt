use Rattle.std.proofs.Common.{[], refl, ◌∙◌}
use Rattle.odb_base.proofs.JoinedPathLemmas.{names_in, is_joined, joined_nil}
use Rattle.odb_base.proofs.path.PathText.root.Goals as goal

pub of-requires : goal.of-requires
of-requires c = record { joined = is_joined _ [] (c.new.ensures.bytes ∙ joined_nil) refl }

pub returns : goal.returns
returns c = record { empty = c.of.ensures.names ∙ names_in _ [] (c.new.ensures.bytes ∙ joined_nil) refl }
