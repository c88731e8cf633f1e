use Rattle.std.proofs.Common.{◌≡◌, ◌+◌, length}
use Rattle.odb_script.specs.Split.{texts_of}
use Rattle.odb_script.specs.Fault.{first_wrong}
use Rattle.odb_script.proofs.fault.first_wrong.Given as goal

-- the fields that are left have, by what is expected then, the fault that all have
abbrev pub invariant-loop-rest : goal.invariant-loop-rest
invariant-loop-rest l = record {
  same : first_wrong l.further l.left (texts_of l.rest) l.number ≡ first_wrong l.further l.initial.left (texts_of l.initial.rest) l.first;
  few : l.number + length l.rest ≡ l.first + length l.initial.rest;
}

abbrev pub decreases-loop-rest : goal.decreases-loop-rest
decreases-loop-rest l = length l.rest
