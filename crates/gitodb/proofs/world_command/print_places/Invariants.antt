use Rattle.std.proofs.Common.{◌≡◌, ◌++◌, take}
use Rattle.odb_script.specs.Print.{printed_at}
use Rattle.gitodb.proofs.world_command.print_places.Given as goal

-- the lines of the places so far are there
abbrev pub invariant-loop-place : goal.invariant-loop-place
invariant-loop-place l = l.out.items ≡ l.fn.out.items ++ printed_at l.outcomes (take l.place-index l.places)
