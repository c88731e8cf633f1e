-- A filtered walk gives what its filter leaves of the walk, and only errors that calls answered.
use Rattle.walkdir.proofs.FilteredWalkLaws.{filters_walk, gives_filtered}
use Rattle.walkdir.proofs.FilteredWalks.{tells_along}
use Rattle.walkdir.proofs.iter.OnDisk.filter_entry.Goals as goal

pub returns-clause-filters : goal.returns-clause-filters
returns-clause-filters g c =
    filters_walk g.D.Disk.state g.D.Disk.streams g.D.Disk.faults g.D.Disk.answered g.W.Steps.progress g.P.FnMut c.new.result

pub returns-clause-gives : goal.returns-clause-gives
returns-clause-gives g c = λ accepts answers.
    gives_filtered g.D.Disk.state g.D.Disk.streams g.D.Disk.faults g.D.Disk.answered g.W.Steps.progress g.P.FnMut accepts answers c.new.result

pub returns-clause-answered : goal.returns-clause-answered
returns-clause-answered g c = λ items t first along told.
    (tells_along g.D.Disk.state g.D.Disk.streams g.D.Disk.faults g.D.Disk.answered g.W.Steps.progress g.P.FnMut c.new.result items t along).1 first
    told
