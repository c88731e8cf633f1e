-- All that a stream still gives is read, up to its end or to the error that ends it.
use Rattle.std.proofs.Common.{◌≡◌, ◌+◌, [], ◌∷◌, ◌++◌, inl, length, refl, ap, sym, subst, ◌∙◌, arith, length-append}
use Rattle.std.specs.Prelude.{Ok, Err, Some}
use Rattle.walkdir.specs.Error.{failures}
use Rattle.walkdir.specs.Failures.{Costs, failures_among, failures_of}
use Rattle.walkdir.specs.Directory.{AreAt, IsAt}
use Rattle.walkdir.specs.Turns.Drawn.{Draws}
use Rattle.walkdir.specs.Answered.{AreHeld}
use Rattle.walkdir.specs.AnsweredTurns.{IsItemHeld}
use Rattle.walkdir.proofs.AnsweredLemmas.Calls.{are_later, told_push}
use Rattle.walkdir.proofs.AnsweredLemmas.{item_since, leads_still, leads_then, none_told}
use Rattle.walkdir.proofs.DrawsLemmas.{streams_all, streams_broken, streams_more, streams_none}
use Rattle.walkdir.proofs.FailuresLaws.{costs_none, costs_then, failures-push}
use Rattle.walkdir.proofs.ReadLemmas.{at-push, child_at, drawn_on, draws_drawn, entry_left}
use Rattle.walkdir.proofs.read.rest_of.Goals as goal

pub loop-items-init : goal.loop-items-init
loop-items-init g c =
    let none = c.new-items.ensures.items in
    let short : length c.new-items.result.items ≡ 0 = ap length none in
    record {
      drawn = inl refl;
      streams = streams_none c.args.depth c.args.parent.now (g.D.Disk.streams c.args.disk.now) c.args.dir c.new-items.result.items none;
      few = omega arith;
      children = subst (AreAt c.args.parent.now c.args.depth) (sym none) tt;
      no_failure = ap failures_among none;
      leads = leads_still g.D.Disk.answered c.args.disk.now;
      told = none_told g.D.Disk.answered c.args.disk.now c.args.disk.now c.new-items.result.items none;
      kept = refl;
      later = omega arith;
    }

pub loop-items-smaller : goal.loop-items-smaller
loop-items-smaller g c =
    let e = entry_left c.args.depth c.args.parent.now (g.D.Disk.streams c.loop-items.disk) c.args.dir c.in-Some-Ok.entry
    (g.D.Disk.streams c.next_of.new.disk)
    (subst (λ item. Draws c.args.depth c.args.parent.now (g.D.Disk.streams c.loop-items.disk) c.args.dir (Some item)
    (g.D.Disk.streams c.next_of.new.disk)) c.in-Some-Ok.field-0-is c.in-Some-Ok.ensures.draws) in
    omega arith

pub loop-items-preserved : goal.loop-items-preserved
loop-items-preserved g c =
    let old = g.D.Disk.streams c.args.disk.now in
    let mid = g.D.Disk.streams c.loop-items.disk in
    let new = g.D.Disk.streams c.next_of.new.disk in
    let draws = (subst (λ item. Draws c.args.depth c.args.parent.now (g.D.Disk.streams c.loop-items.disk) c.args.dir (Some item)
    (g.D.Disk.streams c.next_of.new.disk)) c.in-Some-Ok.field-0-is c.in-Some-Ok.ensures.draws) in
    let items = c.in_ok-push_back-in-Some-Ok.ensures.items in
    let before = c.loop-items.invariant in
    let left = entry_left c.args.depth c.args.parent.now mid c.args.dir c.in-Some-Ok.entry new draws in
    let long : length c.push_back.new.self.items ≡ length (c.loop-items.items.items ++ Ok c.in-Some-Ok.entry ∷ []) = ap length items in
    let more = length-append c.loop-items.items.items (Ok c.in-Some-Ok.entry ∷ []) in
    let fails : failures_among c.push_back.new.self.items ≡ failures_among (c.loop-items.items.items ++ Ok c.in-Some-Ok.entry ∷ []) =
    ap failures_among items in
    let push = failures-push c.loop-items.items.items (Ok c.in-Some-Ok.entry) in
    record {
      drawn = drawn_on old c.args.dir mid new before.drawn (draws_drawn c.args.depth c.args.parent.now mid c.args.dir c.in-Some-Ok.entry new draws);
      streams = streams_more c.args.depth c.args.parent.now old c.args.dir c.loop-items.items.items mid new c.in-Some-Ok.entry
          c.push_back.new.self.items before.streams draws items;
      few = (let was = before.few in omega arith);
      children = subst (AreAt c.args.parent.now c.args.depth) (sym items)
          (at-push c.args.parent.now c.args.depth c.loop-items.items.items (Ok c.in-Some-Ok.entry) before.children
          (child_at c.args.depth c.args.parent.now mid c.args.dir c.in-Some-Ok.entry new draws));
      no_failure = (let none = before.no_failure in omega arith);
      leads = leads_then g.D.Disk.answered c.args.disk.now c.loop-items.disk c.next_of.new.disk before.leads c.in-Some-Ok.ensures.answered.leads;
      told = subst (AreHeld g.D.Disk.answered c.args.disk.now c.next_of.new.disk) (sym items)
          (told_push g.D.Disk.answered c.args.disk.now c.next_of.new.disk c.loop-items.items.items (Ok c.in-Some-Ok.entry)
          (are_later g.D.Disk.answered c.args.disk.now c.loop-items.disk c.next_of.new.disk c.loop-items.items.items
          c.in-Some-Ok.ensures.answered.leads before.told) tt);
      kept = c.in-Some-Ok.ensures.kept ∙ before.kept;
      later = (let first = before.later in let then_later = c.in-Some-Ok.ensures.cause.later in omega arith);
    }

pub returns-in_err-push_back-in-Some-Ok-clause-drawn : goal.returns-in_err-push_back-in-Some-Ok-clause-drawn
returns-in_err-push_back-in-Some-Ok-clause-drawn g c =
    drawn_on (g.D.Disk.streams c.args.disk.now) c.args.dir (g.D.Disk.streams c.loop-items.disk)
    (g.D.Disk.streams c.next_of.new.disk) c.loop-items.invariant.drawn
    (draws_drawn c.args.depth c.args.parent.now (g.D.Disk.streams c.loop-items.disk) c.args.dir c.in-Some-Ok.entry
    (g.D.Disk.streams c.next_of.new.disk)
    (subst (λ item. Draws c.args.depth c.args.parent.now (g.D.Disk.streams c.loop-items.disk) c.args.dir (Some item)
    (g.D.Disk.streams c.next_of.new.disk)) c.in-Some-Ok.field-0-is c.in-Some-Ok.ensures.draws))

pub returns-then-is_out_of_memory-clause-drawn : goal.returns-then-is_out_of_memory-clause-drawn
returns-then-is_out_of_memory-clause-drawn g c =
    drawn_on (g.D.Disk.streams c.args.disk.now) c.args.dir (g.D.Disk.streams c.loop-items.disk)
    (g.D.Disk.streams c.next_of.new.disk) c.loop-items.invariant.drawn
    (subst (λ item. Draws c.args.depth c.args.parent.now (g.D.Disk.streams c.loop-items.disk) c.args.dir (Some item)
    (g.D.Disk.streams c.next_of.new.disk)) c.in-Some-Err.field-0-is c.in-Some-Err.ensures.draws).1

pub returns-in_err-push_back-in-Some-Err-clause-drawn : goal.returns-in_err-push_back-in-Some-Err-clause-drawn
returns-in_err-push_back-in-Some-Err-clause-drawn g c =
    drawn_on (g.D.Disk.streams c.args.disk.now) c.args.dir (g.D.Disk.streams c.loop-items.disk)
    (g.D.Disk.streams c.next_of.new.disk) c.loop-items.invariant.drawn
    (subst (λ item. Draws c.args.depth c.args.parent.now (g.D.Disk.streams c.loop-items.disk) c.args.dir (Some item)
    (g.D.Disk.streams c.next_of.new.disk)) c.in-Some-Err.field-0-is c.in-Some-Err.ensures.draws).1

pub returns-in-Some-Err-clause-drawn : goal.returns-in-Some-Err-clause-drawn
returns-in-Some-Err-clause-drawn g c =
    drawn_on (g.D.Disk.streams c.args.disk.now) c.args.dir (g.D.Disk.streams c.loop-items.disk)
    (g.D.Disk.streams c.next_of.new.disk) c.loop-items.invariant.drawn
    (subst (λ item. Draws c.args.depth c.args.parent.now (g.D.Disk.streams c.loop-items.disk) c.args.dir (Some item)
    (g.D.Disk.streams c.next_of.new.disk)) c.in-Some-Err.field-0-is c.in-Some-Err.ensures.draws).1

pub returns-in-Some-Err-clause-children : goal.returns-in-Some-Err-clause-children
returns-in-Some-Err-clause-children g c =
    subst (AreAt c.args.parent.now c.args.depth) (sym c.in_ok-push_back-in-Some-Err.ensures.items)
    (at-push c.args.parent.now c.args.depth c.loop-items.items.items (Err c.in-Some-Err.error) c.loop-items.invariant.children
    (subst (λ item. IsAt c.args.parent.now c.args.depth item) c.in-Some-Err.field-0-is c.in-Some-Err.ensures.at))

pub returns-in-Some-Err-clause-cause : goal.returns-in-Some-Err-clause-cause
returns-in-Some-Err-clause-cause g c =
    let items = c.in_ok-push_back-in-Some-Err.ensures.items in
    let all : failures_among c.push_back-in-Some-Err.new.self.items ≡ failures_among (c.loop-items.items.items ++ Err c.in-Some-Err.error ∷ []) =
    ap failures_among items in
    let push = failures-push c.loop-items.items.items (Err c.in-Some-Err.error) in
    let none = c.loop-items.invariant.no_failure in
    let is : 0 + failures c.in-Some-Err.error ≡ failures_among c.push_back-in-Some-Err.new.self.items = omega arith in
    subst (λ n. Costs n (g.D.Disk.faults c.args.disk.now) (g.D.Disk.faults c.next_of.new.disk)) is
    (costs_then 0 (failures c.in-Some-Err.error) (g.D.Disk.faults c.args.disk.now) (g.D.Disk.faults c.loop-items.disk)
    (g.D.Disk.faults c.next_of.new.disk)
    (costs_none (g.D.Disk.faults c.args.disk.now) (g.D.Disk.faults c.loop-items.disk) c.loop-items.invariant.later)
    (subst (λ item. Costs (failures_of item) (g.D.Disk.faults c.loop-items.disk) (g.D.Disk.faults c.next_of.new.disk)) c.in-Some-Err.field-0-is
    c.in-Some-Err.ensures.cause))

pub returns-in-None-clause-streamed : goal.returns-in-None-clause-streamed
returns-in-None-clause-streamed g c =
    streams_all c.args.depth c.args.parent.now (g.D.Disk.streams c.args.disk.now) c.args.dir c.loop-items.items.items
    (g.D.Disk.streams c.loop-items.disk) c.loop-items.invariant.streams c.in-None.ensures.draws.0

pub returns-in-Some-Err-clause-streamed : goal.returns-in-Some-Err-clause-streamed
returns-in-Some-Err-clause-streamed g c =
    let draws = (subst (λ item. Draws c.args.depth c.args.parent.now (g.D.Disk.streams c.loop-items.disk) c.args.dir (Some item)
    (g.D.Disk.streams c.next_of.new.disk)) c.in-Some-Err.field-0-is c.in-Some-Err.ensures.draws) in
    streams_broken c.args.depth c.args.parent.now (g.D.Disk.streams c.args.disk.now) c.args.dir c.loop-items.items.items
    (g.D.Disk.streams c.loop-items.disk) c.in-Some-Err.error
    c.push_back-in-Some-Err.new.self.items c.loop-items.invariant.streams draws.0 (sym c.is_out_of_memory.ensures.told
    ∙ c.if-is_out_of_memory.false) c.in_ok-push_back-in-Some-Err.ensures.items

pub returns-in-None-clause-leads : goal.returns-in-None-clause-leads
returns-in-None-clause-leads g c =
    leads_then g.D.Disk.answered c.args.disk.now c.loop-items.disk c.next_of.new.disk c.loop-items.invariant.leads c.in-None.ensures.answered.leads

pub returns-in-Some-Err-clause-leads : goal.returns-in-Some-Err-clause-leads
returns-in-Some-Err-clause-leads g c =
    leads_then g.D.Disk.answered c.args.disk.now c.loop-items.disk c.next_of.new.disk c.loop-items.invariant.leads
    c.in-Some-Err.ensures.answered.leads

pub returns-in_err-push_back-in-Some-Err-clause-leads : goal.returns-in_err-push_back-in-Some-Err-clause-leads
returns-in_err-push_back-in-Some-Err-clause-leads g c =
    leads_then g.D.Disk.answered c.args.disk.now c.loop-items.disk c.next_of.new.disk c.loop-items.invariant.leads
    c.in-Some-Err.ensures.answered.leads

pub returns-in_err-push_back-in-Some-Ok-clause-leads : goal.returns-in_err-push_back-in-Some-Ok-clause-leads
returns-in_err-push_back-in-Some-Ok-clause-leads g c =
    leads_then g.D.Disk.answered c.args.disk.now c.loop-items.disk c.next_of.new.disk c.loop-items.invariant.leads c.in-Some-Ok.ensures.answered.leads

pub returns-then-is_out_of_memory-clause-leads : goal.returns-then-is_out_of_memory-clause-leads
returns-then-is_out_of_memory-clause-leads g c =
    leads_then g.D.Disk.answered c.args.disk.now c.loop-items.disk c.next_of.new.disk c.loop-items.invariant.leads
    c.in-Some-Err.ensures.answered.leads

pub returns-in-None-clause-answered : goal.returns-in-None-clause-answered
returns-in-None-clause-answered g c =
    are_later g.D.Disk.answered c.args.disk.now c.loop-items.disk c.next_of.new.disk c.loop-items.items.items c.in-None.ensures.answered.leads
    c.loop-items.invariant.told

pub returns-in-Some-Err-clause-answered : goal.returns-in-Some-Err-clause-answered
returns-in-Some-Err-clause-answered g c =
    let before = c.loop-items.invariant in
    let told = c.in-Some-Err.ensures.answered in
    subst (AreHeld g.D.Disk.answered c.args.disk.now c.next_of.new.disk) (sym c.in_ok-push_back-in-Some-Err.ensures.items)
    (told_push g.D.Disk.answered c.args.disk.now c.next_of.new.disk c.loop-items.items.items (Err c.in-Some-Err.error)
    (are_later g.D.Disk.answered c.args.disk.now c.loop-items.disk c.next_of.new.disk c.loop-items.items.items told.leads before.told)
    (item_since g.D.Disk.answered c.args.disk.now c.loop-items.disk c.next_of.new.disk (Some (Err c.in-Some-Err.error)) before.leads
    (subst (λ item. IsItemHeld g.D.Disk.answered c.loop-items.disk c.next_of.new.disk (Some item)) c.in-Some-Err.field-0-is told.told)))
