-- All directories are left, one after the other.
use Rattle.std.proofs.Common.{◌≡◌, [], None, length, refl, reverse, subst, ◌∙◌, arith}
use Rattle.std.proofs.lemmas.Grind.{common_steps}
use Rattle.walkdir.specs.OwnStreams.{Owns}
use Rattle.walkdir.specs.Stack.{own_streams}
use Rattle.walkdir.proofs.OrderLemmas.{none_left}
use Rattle.walkdir.proofs.OwnStreamsLemmas.{owns_none}
use Rattle.walkdir.proofs.SoundLemmas.{is_sound_begun}
use Rattle.walkdir.proofs.AnsweredLemmas.{leads_still, leads_then}
use Rattle.walkdir.proofs.stack.StackSteps.end.Goals as goal

pub invariant_of-self-clause-sound : goal.invariant_of-self-clause-sound
invariant_of-self-clause-sound g c =
    let walk = c.args.self.now in
    is_sound_begun walk.options walk.start None walk.lists.items walk.first_open refl walk.some_open walk.in_range walk.few walk.sound

pub loop-self-init : goal.loop-self-init
loop-self-init g c = record {
  keeps = λ before keeps. keeps;
  options = refl;
  start = refl;
  entered = refl;
  state = refl;
  faults = refl;
  leads = leads_still g.D.Disk.answered c.args.disk.now;
}

-- with an entry that is dropped, and with none
pub loop-self-preserved : goal.loop-self-preserved
loop-self-preserved g c =
    let so_far = c.loop-self.invariant in
    let left = c.leave.ensures in
    record {
      keeps = λ before keeps. left.goes.keeps before (so_far.keeps before keeps);
      options = left.goes.options ∙ so_far.options;
      start = left.goes.start ∙ so_far.start;
      entered = left.entered ∙ so_far.entered;
      state = left.state ∙ so_far.state;
      faults = left.faults ∙ so_far.faults;
      leads = leads_then g.D.Disk.answered c.args.disk.now c.loop-self.disk c.leave.new.disk so_far.leads left.answered.leads;
    }

pub loop-self-preserved-in-loop-self : goal.loop-self-preserved-in-loop-self
loop-self-preserved-in-loop-self g c =
    let so_far = c.loop-self.invariant in
    let left = c.leave.ensures in
    record {
      keeps = λ before keeps. left.goes.keeps before (so_far.keeps before keeps);
      options = left.goes.options ∙ so_far.options;
      start = left.goes.start ∙ so_far.start;
      entered = left.entered ∙ so_far.entered;
      state = left.state ∙ so_far.state;
      faults = left.faults ∙ so_far.faults;
      leads = leads_then g.D.Disk.answered c.args.disk.now c.loop-self.disk c.leave.new.disk so_far.leads left.answered.leads;
    }

pub returns-clause-answered : goal.returns-clause-answered
returns-clause-answered g c = c.loop-self.invariant.leads

pub returns-clause-back : goal.returns-clause-back
returns-clause-back g c before keeps =
    let walk = c.loop-self.self in
    let streams = g.D.Disk.streams c.loop-self.disk in
    let short : length walk.lists.items ≡ 0 = grind (arith, common_steps) in
    let none : walk.lists.items ≡ [] = none_left walk.lists.items short in
    let owned = c.loop-self.invariant.keeps before keeps in
    owns_none before c.args.self.now.options.max_open streams
    (subst (λ o. Owns before o.max_open [] streams) c.loop-self.invariant.options
    (subst (λ l. Owns before walk.options.max_open (own_streams (reverse l)) streams) none owned))
