use Rattle.gix_odb_world.proofs.PlayLemmas.{turns_none, turns_more, turns_end}
use Rattle.gix_odb_world.proofs.play.play_turns.Goals as goal

pub turning-init : goal.turning-init
turning-init c = turns_none c.args.world.now c.args.steps.now c.args.handle

pub turning-preserved : goal.turning-preserved
turning-preserved c =
    turns_more c.args.world.now c.turning.world c.make_turn.new.world c.args.steps.now c.turning.steps c.make_turn.new.steps c.args.handle c.turning.invariant c.in_ok-make_turn.ensures.makes
    ((c.is_pending.ensures.pending c.turning.world.outcomes c.in_ok-make_turn.ensures.makes.outcome c.in_ok-make_turn.ensures.makes.makes.outcomes).0 c.if-not-is_pending.false)

pub returns-then-not-is_pending : goal.returns-then-not-is_pending
returns-then-not-is_pending c =
    record {
      plays = turns_end c.args.world.now c.turning.world c.make_turn.new.world c.args.steps.now c.turning.steps c.make_turn.new.steps c.args.handle c.turning.invariant c.in_ok-make_turn.ensures.makes
          (λ is. absurd (cc ((c.is_pending.ensures.pending c.turning.world.outcomes c.in_ok-make_turn.ensures.makes.outcome c.in_ok-make_turn.ensures.makes.makes.outcomes).1 is, c.if-not-is_pending.true)));
    }
