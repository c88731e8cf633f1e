-- One directory has other contents, and the stack stays sound.
use Rattle.std.proofs.Common.{◌+◌, ◌≤◌, length-set, refl, set, subst, sym}
use Rattle.walkdir.proofs.SoundLemmas.{is_sound_of, sound_of}
use Rattle.walkdir.proofs.StackLemmas.At.{puts_above, puts_set}
use Rattle.walkdir.proofs.StackLemmas.Sound.{sound_put}
use Rattle.walkdir.proofs.stack.Stack.put.Goals as goal

pub invariant_of-self-clause-sound : goal.invariant_of-self-clause-sound
unfolding puts_set
invariant_of-self-clause-sound g c =
    let walk = c.args.self.now in
    let list = c.index_mut.result.now in
    is_sound_of walk.options walk.start (set walk.lists.items c.args.index (record list { items = c.args.items })) walk.first_open
    (sound_put walk.options walk.start walk.lists.items (set walk.lists.items c.args.index (record list { items = c.args.items }))
    walk.first_open c.args.index c.args.items
    (sound_of walk.options walk.start walk.lists.items walk.first_open walk.some_open walk.in_range walk.few walk.sound)
    (puts_set walk.lists.items c.args.index list c.args.items c.requires.index c.index_mut.ensures.value) c.requires.none
    (c.requires.children list c.index_mut.ensures.value) c.requires.deepest)

pub returns-clause-lists : goal.returns-clause-lists
returns-clause-lists g c =
    puts_set c.args.self.now.lists.items c.args.index c.index_mut.result.now c.args.items c.requires.index c.index_mut.ensures.value

pub invariant_of-self-clause-in_range : goal.invariant_of-self-clause-in_range
invariant_of-self-clause-in_range g c =
    let walk = c.args.self.now in
    let same = length-set walk.lists.items c.args.index (record c.index_mut.result.now { items = c.args.items }) in
    subst (λ n. walk.first_open ≤ n) (sym same) walk.in_range

pub invariant_of-self-clause-few : goal.invariant_of-self-clause-few
invariant_of-self-clause-few g c =
    let walk = c.args.self.now in
    let same = length-set walk.lists.items c.args.index (record c.index_mut.result.now { items = c.args.items }) in
    subst (λ n. n ≤ walk.first_open + walk.options.max_open) (sym same) walk.few

pub returns-clause-kept : goal.returns-clause-kept
returns-clause-kept g c =
    let walk = c.args.self.now in
    let list = c.index_mut.result.now in
    let puts = puts_set walk.lists.items c.args.index list c.args.items c.requires.index c.index_mut.ensures.value in
    record {
      options = refl;
      sorter = refl;
      start = refl;
      device = refl;
      entered = refl;
      count = length-set walk.lists.items c.args.index (record list { items = c.args.items });
      above = puts_above walk.lists.items (set walk.lists.items c.args.index (record list { items = c.args.items })) c.args.index c.args.items puts;
    }
