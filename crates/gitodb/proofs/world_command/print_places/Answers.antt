-- No places have no lines; one more place adds its line.
use Rattle.std.proofs.Common.{ap, ◌++◌, ◌∙◌}
use Rattle.odb_script.specs.Print.{line_of}
use Rattle.odb_script.proofs.PrintLemmas.{printed_at-nothing, printed_at-more}
use Rattle.gitodb.proofs.world_command.print_places.Goals as goal

pub loop-place-init : goal.loop-place-init
loop-place-init c = printed_at-nothing _ _

pub loop-place-preserved : goal.loop-place-preserved
loop-place-preserved c =
    printed_at-more _ _ _ _ _ _ c.loop-place-test.true c.loop-place.invariant (c.in_ok-print_line.ensures.ok ∙ ap (λ o. c.loop-place.out.items ++ line_of o) c.get.ensures.value)
