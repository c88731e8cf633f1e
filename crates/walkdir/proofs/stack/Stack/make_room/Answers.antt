-- The outermost open directory is read to its end if the most directories are open already.
use Rattle.std.proofs.Common.{◌≡◌, ◌+◌, ◌<◌, [], length, refl, subst, sym, take, arith, reverse}
use Rattle.walkdir.specs.Stack.{own_streams}
use Rattle.walkdir.proofs.SoundLemmas.{is_sound_of, sound_of}
use Rattle.walkdir.proofs.StackLemmas.Sound.{sound_closed}
use Rattle.walkdir.proofs.AnsweredLemmas.Steps.{tells_still}
use Rattle.walkdir.proofs.stack.Stack.make_room.Goals as goal

pub invariant_of-self-clause-sound : goal.invariant_of-self-clause-sound
invariant_of-self-clause-sound g c =
    let was = c.args.self.now in
    let walk = c.close.new.self in
    let count = c.in_ok-close.ensures.kept.count in
    let same = c.in_ok-close.ensures.first_open in
    let sound = sound_of was.options was.start was.lists.items was.first_open was.some_open was.in_range was.few was.sound in
    let some = was.some_open in
    let within : walk.first_open < length walk.lists.items = omega arith in
    is_sound_of walk.options walk.start walk.lists.items (walk.first_open + 1)
    (sound_closed walk.options walk.start walk.lists.items walk.first_open (walk.first_open + 1)
    (sound_of walk.options walk.start walk.lists.items walk.first_open walk.some_open walk.in_range walk.few walk.sound) refl within
    (subst (λ n. own_streams (take (n + 1) walk.lists.items) ≡ []) (sym same) (c.in_ok-close.ensures.closed sound.closed)))

pub returns-then-len-self-clause-answered : goal.returns-then-len-self-clause-answered
returns-then-len-self-clause-answered g c =
    tells_still g.D.Disk.answered c.args.disk.now (reverse c.args.self.now.lists.items) (reverse c.args.self.now.lists.items) refl

pub returns-in_err-close-clause-answered : goal.returns-in_err-close-clause-answered
returns-in_err-close-clause-answered g c = c.in_err-close.ensures.answered

pub returns-clause-answered : goal.returns-clause-answered
returns-clause-answered g c = c.in_ok-close.ensures.answered
