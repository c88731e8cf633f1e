use Rattle.std.proofs.Common.{◌≡◌, length, []}
use Rattle.odb_script.specs.Content.{items_of, object_of}
use Rattle.odb_script.specs.Line.{texts_of}
use Rattle.odb_script.proofs.objects.objects_of.Given as goal

-- the texts that are left spell, after the items so far, what all spell
abbrev pub invariant-loop-rest : goal.invariant-loop-rest
invariant-loop-rest l = items_of object_of (texts_of l.rest) l.objects ≡ items_of object_of (texts_of l.initial.rest) []

abbrev pub decreases-loop-rest : goal.decreases-loop-rest
decreases-loop-rest l = length l.rest
