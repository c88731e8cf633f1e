use Rattle.std.proofs.Common.{◌≡◌, length, map}
use Rattle.std.specs.String.{string_bytes}
use Rattle.list_walk.specs.Command.{about}
use Rattle.list_walk.proofs.command.about.Given as goal

-- none of the words before those that are left asks about the program
abbrev pub invariant-loop-rest : goal.invariant-loop-rest
invariant-loop-rest l = about (map (λ word. string_bytes word) l.rest) ≡ about (map (λ word. string_bytes word) l.initial.rest)

abbrev pub decreases-loop-rest : goal.decreases-loop-rest
decreases-loop-rest l = length l.rest
