use Rattle.std.proofs.Common.{◌<◌, [], ◌∷◌, ◌++◌, refl, ◌∙◌, sym, subst, arith}
use Rattle.gix_odb_loose.specs.PrefixSearches.{StandsAfter, calls_after, calls_at}
use Rattle.gix_odb_loose.specs.declared.prefix_search.SearchStep.TheVariants.{More, Done}
use Rattle.gix_odb_loose.proofs.PrefixRunsLemmas.{comes_further}
use Rattle.gix_odb_loose.proofs.store_prefix.run.Goals as goal

pub turns-init : goal.turns-init
turns-init g c = record { some = c.requires.stands; each = λ b state stands. (state, stands); kept = refl; came = ([], (refl, refl)); later = omega arith }

pub turns-smaller : goal.turns-smaller
turns-smaller g c =
    let some = c.turns.invariant.some in
    subst (λ step. calls_after (g.D.Disk.streams c.turn.new.disk) step < calls_at (g.D.Disk.streams c.turns.disk) c.turns.current.stage) c.in-Ok-More.field-0-is
    (c.in-Ok-More.ensures.fewer some.0 some.1 some.2)

pub turns-preserved : goal.turns-preserved
turns-preserved g c =
    let some = c.turns.invariant.some in
    let came = c.turns.invariant.came in
    let asked = c.in-Ok-More.ensures.asked in
    record {
      some = (
        some.0,
        some.1 ∙ sym c.turn.ensures.kept,
        subst (StandsAfter some.0 (g.D.Disk.streams c.turn.new.disk) (g.D.Disk.faults c.turn.new.disk)) c.in-Ok-More.field-0-is (c.in-Ok-More.ensures.stands some.0 some.1 some.2),
      );
      each =
          λ b state stands.
          let was = c.turns.invariant.each b state stands in (
            was.0 ∙ sym c.turn.ensures.kept,
            subst (StandsAfter b (g.D.Disk.streams c.turn.new.disk) (g.D.Disk.faults c.turn.new.disk)) c.in-Ok-More.field-0-is (c.in-Ok-More.ensures.stands b was.0 was.1),
          );
      kept = c.turn.ensures.kept ∙ c.turns.invariant.kept;
      came = (
        came.0 ++ asked.0 ∷ [],
        comes_further g.D.Disk.answered came.0 (More c.args.search) _ _ _ c.turns.current asked.0 (More c.in-Ok-More.next) came.1 asked.1 (sym c.in-Ok-More.field-0-is ∙ asked.2),
      );
      later = omega (arith, c.turns.invariant.later, c.turn.ensures.later);
    }

pub returns-in-Ok-Done-clause-found : goal.returns-in-Ok-Done-clause-found
returns-in-Ok-Done-clause-found g c =
    λ b state stands.
    let was = c.turns.invariant.each b state stands in
    (subst (StandsAfter b (g.D.Disk.streams c.turn.new.disk) (g.D.Disk.faults c.turn.new.disk)) c.in-Ok-Done.field-0-is (c.in-Ok-Done.ensures.stands b was.0 was.1)).0

pub returns-in-Ok-Done-clause-streams : goal.returns-in-Ok-Done-clause-streams
returns-in-Ok-Done-clause-streams g c =
    λ b state stands.
    let was = c.turns.invariant.each b state stands in
    (subst (StandsAfter b (g.D.Disk.streams c.turn.new.disk) (g.D.Disk.faults c.turn.new.disk)) c.in-Ok-Done.field-0-is (c.in-Ok-Done.ensures.stands b was.0 was.1)).1

pub returns-in-Ok-Done-clause-asked : goal.returns-in-Ok-Done-clause-asked
returns-in-Ok-Done-clause-asked g c =
    let came = c.turns.invariant.came in
    let asked = c.in-Ok-Done.ensures.asked in
    (came.0 ++ asked.0 ∷ [], comes_further g.D.Disk.answered came.0 (More c.args.search) _ _ _ c.turns.current asked.0 (Done c.in-Ok-Done.found) came.1 asked.1 (sym c.in-Ok-Done.field-0-is ∙ asked.2))

pub returns-in-Err-clause-streams : goal.returns-in-Err-clause-streams
returns-in-Err-clause-streams g c =
    λ b state stands.
    let was = c.turns.invariant.each b state stands in
    c.in-Err.ensures.back b was.0 was.1
