-- A walk on a disk begins with no streams of its own.
use Rattle.std.proofs.Common.{◌≡◌, true, sym, subst}
use Rattle.walkdir.specs.Progress.{has_its_streams}
use Rattle.walkdir.proofs.WholeWalks.{begun_has}
use Rattle.walkdir.proofs.builder.WalkDir.into_iter_on.Goals as goal

pub returns-clause-begun : goal.returns-clause-begun
returns-clause-begun g c = rw (c.new.ensures.walk, c.new.ensures.same) (c.into_stack.ensures.begun (g.D.Disk.streams c.args.disk.now))

pub returns-clause-own : goal.returns-clause-own
returns-clause-own g c =
    let streams = g.D.Disk.streams c.args.disk.now in
    rw (c.new.ensures.walk, c.new.ensures.same)
    (subst (λ at. has_its_streams at ≡ true) (sym (c.into_stack.ensures.begun streams)) (begun_has g.S.Sorter.order _ streams))
