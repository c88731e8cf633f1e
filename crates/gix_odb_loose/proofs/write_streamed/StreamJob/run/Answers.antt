use Rattle.std.proofs.Common.{refl, ◌∙◌, arith}
use Rattle.gix_odb_loose.proofs.StreamJobsLemmas.Ends.{came_on, came_to, came_to_want}
use Rattle.gix_odb_loose.proofs.write_streamed.StreamJob.run.Goals as goal

pub turns-init : goal.turns-init
turns-init g c = record { some = c.requires.underway; underway = λ w first since. since; head = refl; later = omega arith; streams = refl }

pub turns-smaller : goal.turns-smaller
turns-smaller g c =
    let some = c.turns.invariant.some in
    c.in-Ok-None.ensures.fewer some.0 some.1 some.2 c.in-Ok-None.field-0-is

pub turns-preserved : goal.turns-preserved
turns-preserved g c =
    record {
      some =
          let some = c.turns.invariant.some in
          let next = c.turn.ensures.turned some.0 some.1 some.2 in
          (some.0, some.1, (next.0, next.1, came_on some.0 _ _ next.0 _ _ c.turn.new.self c.turn.result next.2 (cc)));
      underway =
          λ w first since.
          let next = c.turn.ensures.turned w first (c.turns.invariant.underway w first since) in
          (next.0, next.1, came_on w _ _ next.0 _ _ c.turn.new.self c.turn.result next.2 (cc));
      head = c.turn.ensures.head ∙ c.turns.invariant.head;
      later = omega (arith, c.turns.invariant.later, c.turn.ensures.later);
      streams = c.turn.ensures.streams ∙ c.turns.invariant.streams;
    }

pub returns-in-Ok-Some-clause-ran : goal.returns-in-Ok-Some-clause-ran
returns-in-Ok-Some-clause-ran g c =
    λ w first since.
    let next = c.turn.ensures.turned w first (c.turns.invariant.underway w first since) in
    (next.0, next.1, came_to w _ _ next.0 _ _ c.turn.new.self c.turn.result next.2 c.in-Ok-Some.end (cc))

pub returns-in-Err-clause-ran : goal.returns-in-Err-clause-ran
returns-in-Err-clause-ran g c =
    λ w first since.
    let next = c.turn.ensures.turned w first (c.turns.invariant.underway w first since) in
    c.clear.ensures.cleared w first (g.S.Source.left c.turn.new.from) (g.S.Source.faults c.turn.new.from)
    (next.0, next.1, came_to_want w _ _ next.0 _ _ c.turn.new.self c.turn.result next.2 c.in-Err.field-0 c.in-Err.is)

pub returns-in-Err-clause-streams : goal.returns-in-Err-clause-streams
returns-in-Err-clause-streams g c =
    let some = c.turns.invariant.some in
    let next = c.turn.ensures.turned some.0 some.1 some.2 in
    c.clear.ensures.streams some.0 next.0 (g.S.Source.left c.turn.new.from) (g.S.Source.faults c.turn.new.from)
    (came_to_want some.0 _ _ next.0 _ _ c.turn.new.self c.turn.result next.2 c.in-Err.field-0 c.in-Err.is)
    ∙ (c.turn.ensures.streams ∙ c.turns.invariant.streams)
