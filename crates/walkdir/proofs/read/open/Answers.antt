-- A directory is opened to its stream, to its sorted children, or to the error of its opening.
use Rattle.std.proofs.Common.{ap, subst, sym}
use Rattle.std.specs.Option.{option_map}
use Rattle.walkdir.specs.Turns.Drawn.{OpensAtMost, OpensContents}
use Rattle.walkdir.proofs.ContainsLemmas.{opens_refused, opens_sorted, opens_stream}
use Rattle.walkdir.proofs.ReadLemmas.{opens_bounded, opens_closed, opens_one}
use Rattle.walkdir.proofs.AnsweredLemmas.Calls.{contents_after, contents_unopened}
use Rattle.walkdir.proofs.AnsweredLemmas.{leads_by}
use Rattle.walkdir.proofs.read.open.Goals as goal

pub returns-in-None-clause-streams : goal.returns-in-None-clause-streams
returns-in-None-clause-streams g c = opens_one (g.D.Disk.state c.args.disk.now) c.args.path.now (g.D.Disk.streams c.args.disk.now)
    (g.D.Disk.streams c.open_dir.new.self) c.in-Ok.dir c.in-Ok.ensures.opened

pub returns-in-None-clause-bounded : goal.returns-in-None-clause-bounded
returns-in-None-clause-bounded g c = opens_bounded (g.D.Disk.state c.args.disk.now) c.args.path.now (g.D.Disk.streams c.args.disk.now)
    (g.D.Disk.streams c.open_dir.new.self) c.in-Ok.dir c.in-Ok.ensures.opened

pub returns-in-Some-clause-streams : goal.returns-in-Some-clause-streams
returns-in-Some-clause-streams g c =
    subst (λ dir. OpensAtMost (g.D.Disk.streams c.args.disk.now) dir (g.D.Disk.streams c.sorted.new.disk)) (sym c.sorted.ensures.closed)
    (opens_closed (g.D.Disk.state c.args.disk.now) c.args.path.now (g.D.Disk.streams c.args.disk.now) (g.D.Disk.streams c.open_dir.new.self)
    (g.D.Disk.streams c.sorted.new.disk) c.in-Ok.dir
    c.in-Ok.ensures.opened c.sorted.ensures.drawn c.sorted.ensures.peak)

pub returns-in-None-clause-contents : goal.returns-in-None-clause-contents
returns-in-None-clause-contents g c =
    opens_stream (g.D.Disk.state c.args.disk.now) (option_map g.S.Sorter.order c.args.sorter.now) c.args.path.now c.args.depth
    (g.D.Disk.streams c.args.disk.now)
    (g.D.Disk.streams c.open_dir.new.self) c.in-Ok.dir (ap (option_map g.S.Sorter.order) c.in-None.is) c.in-Ok.ensures.opened

pub returns-in-Some-clause-contents : goal.returns-in-Some-clause-contents
returns-in-Some-clause-contents g c =
    let order = g.S.Sorter.order c.in-Some.sorter in
    subst (λ o. OpensContents (g.D.Disk.state c.args.disk.now) o c.args.path.now c.args.depth c.sorted.result (g.D.Disk.streams c.sorted.new.disk))
    (sym (ap (option_map g.S.Sorter.order) c.in-Some.is))
    (opens_sorted (g.D.Disk.state c.args.disk.now) order c.args.path.now c.args.depth (g.D.Disk.streams c.args.disk.now)
    (g.D.Disk.streams c.open_dir.new.self)
    (g.D.Disk.streams c.sorted.new.disk) c.in-Ok.dir c.sorted.result c.in-Ok.ensures.opened c.sorted.ensures.closed c.sorted.ensures.order)

pub returns-in-Err-clause-contents : goal.returns-in-Err-clause-contents
returns-in-Err-clause-contents g c =
    opens_refused (g.D.Disk.state c.args.disk.now) (option_map g.S.Sorter.order c.args.sorter.now) c.args.path.now c.args.depth
    (g.D.Disk.streams c.open_dir.new.self)
    c.in-Err.error c.unopened.result c.in-Err.ensures.answer c.unopened.ensures.held c.unopened.ensures.refused

pub returns-in-None-clause-answered : goal.returns-in-None-clause-answered
returns-in-None-clause-answered g c =
    record { leads = leads_by g.D.Disk.answered c.args.disk.now c.open_dir.new.self c.in-Ok.ensures.answered; told = tt }

pub returns-in-Some-clause-answered : goal.returns-in-Some-clause-answered
returns-in-Some-clause-answered g c =
    contents_after g.D.Disk.answered c.args.disk.now c.open_dir.new.self c.sorted.new.disk c.sorted.result
    (leads_by g.D.Disk.answered c.args.disk.now c.open_dir.new.self c.in-Ok.ensures.answered) c.sorted.ensures.answered

pub returns-in-Err-clause-answered : goal.returns-in-Err-clause-answered
returns-in-Err-clause-answered g c =
    contents_unopened g.D.Disk.answered c.args.disk.now c.open_dir.new.self c.args.depth c.args.path.now c.in-Err.error c.unopened.result
    c.unopened.ensures.held c.in-Err.ensures.answered
