-- Each child is an entry or an error.
use Rattle.std.proofs.Common.{ap, sym, arith}
use Rattle.std.specs.Result.{result_ok}
use Rattle.walkdir.specs.Walk.Children.{error_in}
use Rattle.walkdir.proofs.OrderLemmas.{all_found, none_left, one_found, one_passed}
use Rattle.walkdir.proofs.read.tell_apart.Goals as goal

pub loop-child-preserved-in-Continue-1 : goal.loop-child-preserved-in-Continue-1
loop-child-preserved-in-Continue-1 c =
    let rest = c.loop-child.child-iterator.rest.items in
    let more = c.next.new.self.rest.items in (
      one_found result_ok c.args.children.items c.loop-child.entries.items rest more c.in-Some.child c.loop-child.invariant.0
          c.in-Some.ensures.steps.0 c.in-Ok.entry c.push.new.self.items
          (ap result_ok c.in-Ok.is) c.in_ok-push-in-Ok.ensures.items,
      one_passed error_in c.args.children.items c.loop-child.errors.items rest more c.in-Some.child c.loop-child.invariant.1 c.in-Some.ensures.steps.0
          (ap error_in c.in-Ok.is),
    )

pub loop-child-preserved : goal.loop-child-preserved
loop-child-preserved c =
    let rest = c.loop-child.child-iterator.rest.items in
    let more = c.next.new.self.rest.items in (
      one_passed result_ok c.args.children.items c.loop-child.entries.items rest more c.in-Some.child c.loop-child.invariant.0
          c.in-Some.ensures.steps.0 (ap result_ok c.in-Err.is),
      one_found error_in c.args.children.items c.loop-child.errors.items rest more c.in-Some.child c.loop-child.invariant.1 c.in-Some.ensures.steps.0
          _ c.push_back.new.self.items
          (ap error_in c.in-Err.is) c.in_ok-push_back-in-Err.ensures.items,
    )

pub returns-clause-entries : goal.returns-clause-entries
returns-clause-entries c =
    let rest = c.loop-child.child-iterator.rest.items in
    sym (all_found result_ok c.args.children.items c.loop-child.entries.items rest c.loop-child.invariant.0
    (none_left rest (omega (arith, c.in-None.ensures.steps.0))))

pub returns-clause-errors : goal.returns-clause-errors
returns-clause-errors c =
    let rest = c.loop-child.child-iterator.rest.items in
    sym (all_found error_in c.args.children.items c.loop-child.errors.items rest c.loop-child.invariant.1
    (none_left rest (omega (arith, c.in-None.ensures.steps.0))))
