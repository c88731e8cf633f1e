use Rattle.std.proofs.Common.{◌≡◌, length, []}
use Rattle.odb_script.specs.Content.{items_of, named_pack_of}
use Rattle.odb_script.specs.Line.{texts_of}
use Rattle.odb_script.proofs.objects.packs_of.Given as goal

-- the texts that are left spell, after the items so far, what all spell
abbrev pub invariant-loop-rest : goal.invariant-loop-rest
invariant-loop-rest l = items_of named_pack_of (texts_of l.rest) l.packs ≡ items_of named_pack_of (texts_of l.initial.rest) []

abbrev pub decreases-loop-rest : goal.decreases-loop-rest
decreases-loop-rest l = length l.rest
