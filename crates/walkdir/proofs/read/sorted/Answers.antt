-- A stream is read to its end, closed, and its children are put in order.
use Rattle.std.proofs.Common.{ap, subst, sym, ◌∙◌}
use Rattle.odb_disk.specs.Streams.{Streams}
use Rattle.walkdir.specs.Failures.{Costs, failures_among}
use Rattle.walkdir.proofs.HandlesLemmas.{err_is}
use Rattle.walkdir.proofs.ReadLemmas.{drawn_removed}
use Rattle.walkdir.proofs.SortedLemmas.{ordered_at, ordered_failures}
use Rattle.walkdir.proofs.AnsweredLemmas.Calls.{are_later, contents_lost, ordered_told}
use Rattle.walkdir.proofs.AnsweredLemmas.{leads_by, leads_then}
use Rattle.walkdir.proofs.read.sorted.Goals as goal

pub returns-in_err-read-clause-drawn : goal.returns-in_err-read-clause-drawn
returns-in_err-read-clause-drawn g c =
    ap (λ (s : Streams). s.open_dirs) c.close_dir.ensures.closed
    ∙ drawn_removed (g.D.Disk.streams c.args.disk.now) c.args.dir (g.D.Disk.streams c.rest_of-read.new.disk) c.rest_of-read.ensures.drawn

pub returns-in_err-in_order-clause-drawn : goal.returns-in_err-in_order-clause-drawn
returns-in_err-in_order-clause-drawn g c =
    ap (λ (s : Streams). s.open_dirs) c.close_dir.ensures.closed
    ∙ drawn_removed (g.D.Disk.streams c.args.disk.now) c.args.dir (g.D.Disk.streams c.rest_of-read.new.disk) c.rest_of-read.ensures.drawn

pub returns-clause-drawn : goal.returns-clause-drawn
returns-clause-drawn g c =
    ap (λ (s : Streams). s.open_dirs) c.close_dir.ensures.closed
    ∙ drawn_removed (g.D.Disk.streams c.args.disk.now) c.args.dir (g.D.Disk.streams c.rest_of-read.new.disk) c.rest_of-read.ensures.drawn

pub returns-clause-children : goal.returns-clause-children
returns-clause-children g c =
    ordered_at c.args.parent.now c.args.depth (g.S.Sorter.order c.args.sorter.now) c.in_ok-read.field-0.items c.in_ok-in_order.field-0.items
    c.in_ok-in_order.ensures.order c.in_ok-read.ensures.children

pub returns-clause-cause : goal.returns-clause-cause
returns-clause-cause g c =
    subst (λ n. Costs n (g.D.Disk.faults c.args.disk.now) (g.D.Disk.faults c.close_dir.new.self))
    (sym (ordered_failures (g.S.Sorter.order c.args.sorter.now) c.in_ok-read.field-0.items c.in_ok-in_order.field-0.items
    c.in_ok-in_order.ensures.order))
    (subst (λ n. Costs (failures_among c.in_ok-read.field-0.items) (g.D.Disk.faults c.args.disk.now) n)
    (sym c.close_dir.ensures.faults) c.in_ok-read.ensures.cause)

pub returns-clause-order : goal.returns-clause-order
returns-clause-order g c =
    record { given = c.in_ok-read.field-0.items; streamed = c.in_ok-read.ensures.streamed; sorted = c.in_ok-in_order.ensures.order }

pub returns-in_err-read-clause-answered : goal.returns-in_err-read-clause-answered
returns-in_err-read-clause-answered g c =
    contents_lost g.D.Disk.answered c.args.disk.now c.close_dir.new.self c.from_residual.result c.in_err-read.field-0.0
    (err_is c.from_residual.result c.in_err-read.field-0.0 c.from_residual.ensures.1)
    (leads_then g.D.Disk.answered c.args.disk.now c.rest_of-read.new.disk c.close_dir.new.self c.rest_of-read.ensures.leads
    (leads_by g.D.Disk.answered c.rest_of-read.new.disk c.close_dir.new.self c.close_dir.ensures.answered))

pub returns-in_err-in_order-clause-answered : goal.returns-in_err-in_order-clause-answered
returns-in_err-in_order-clause-answered g c =
    contents_lost g.D.Disk.answered c.args.disk.now c.close_dir.new.self c.from_residual-in_err-in_order.result c.in_err-in_order.field-0.0
    (err_is c.from_residual-in_err-in_order.result c.in_err-in_order.field-0.0 c.from_residual-in_err-in_order.ensures.1)
    (leads_then g.D.Disk.answered c.args.disk.now c.rest_of-read.new.disk c.close_dir.new.self c.rest_of-read.ensures.leads
    (leads_by g.D.Disk.answered c.rest_of-read.new.disk c.close_dir.new.self c.close_dir.ensures.answered))

pub returns-clause-answered : goal.returns-clause-answered
returns-clause-answered g c =
    let closed = leads_by g.D.Disk.answered c.rest_of-read.new.disk c.close_dir.new.self c.close_dir.ensures.answered in
    record {
      leads = leads_then g.D.Disk.answered c.args.disk.now c.rest_of-read.new.disk c.close_dir.new.self c.rest_of-read.ensures.leads closed;
      told = ordered_told g.D.Disk.answered c.args.disk.now c.close_dir.new.self (g.S.Sorter.order c.args.sorter.now) c.in_ok-read.field-0.items
          c.in_ok-in_order.field-0.items
          c.in_ok-in_order.ensures.order
          (are_later g.D.Disk.answered c.args.disk.now c.rest_of-read.new.disk c.close_dir.new.self c.in_ok-read.field-0.items closed
          c.in_ok-read.ensures.answered);
    }
