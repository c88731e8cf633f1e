-- A directory is put on the stack with its contents, once there is room.
use Rattle.std.proofs.Common.{◌≡◌, ◌+◌, ◌<◌, ◌≤◌, IfSome, Ok, true, ap, length, max, refl, reverse, subst, sym, ◌∙◌, arith, List, ◌∷◌}
use lib.ListN.{length-reverse}
use Rattle.std.specs.Option.{option_map}
use Rattle.std.specs.Result.{is_ok}
use Rattle.odb_disk.specs.Streams.{Streams, open_count}
use Rattle.walkdir.specs.Entry.{is_dir}
use Rattle.walkdir.specs.Failures.{Costs, failures_left}
use Rattle.walkdir.specs.Progress.{Progress}
use Rattle.walkdir.specs.Walk.{Ancestor}
use Rattle.walkdir.specs.Sound.{FitsAt, IsSound}
use Rattle.walkdir.specs.Stack.{ancestors}
use Rattle.walkdir.specs.Directory.{held, stream_in, without_stream}
use Rattle.walkdir.specs.StackProgress.{progress}
use Rattle.walkdir.specs.declared.builder.Options.{Options}
use Rattle.walkdir.specs.declared.directory.DirList.{DirList}
use Rattle.walkdir.specs.Turns.Drawn.{HasContents}
use Rattle.walkdir.specs.Within.{LiesIn}
use Rattle.walkdir.proofs.ContainsLemmas.{pushed_stands}
use Rattle.walkdir.proofs.EnteredLemmas.{pushed_holds}
use Rattle.walkdir.proofs.FailuresLaws.{costs_zero}
use Rattle.walkdir.proofs.InnermostLemmas.{head_pushed}
use Rattle.walkdir.proofs.SoundLemmas.{is_sound_of, sound_of}
use Rattle.walkdir.proofs.StackLemmas.{own_within, reversed_last}
use Rattle.walkdir.proofs.StackLemmas.Sound.{sound_pushed}
use Rattle.walkdir.proofs.WithinLemmas.{lies_alike, own_lies}
use Rattle.walkdir.proofs.StepLemmas.Pushed.{goes_back, goes_failed, goes_in, goes_pushed, peak_without, reopened}
use Rattle.walkdir.proofs.AnsweredLemmas.{are_since, known_later, leads_then, stack_as, stack_later, stack_push}
use Rattle.walkdir.proofs.stack.Stack.push.Goals as goal

pub returns-in_err-items-clause-goes : goal.returns-in_err-items-clause-goes
returns-in_err-items-clause-goes g c =
    let mid = c.make_room.new.self in
    let room : length mid.lists.items < mid.first_open + mid.options.max_open = c.in_ok-make_room.ensures.room in
    let within = own_within mid.options mid.start mid.lists.items mid.first_open
    (sound_of mid.options mid.start mid.lists.items mid.first_open mid.some_open mid.in_range mid.few mid.sound) in
    let old = progress g.S.Sorter.order c.args.self.now (g.D.Disk.streams c.args.disk.now) in
    let there = progress g.S.Sorter.order mid (g.D.Disk.streams c.make_room.new.disk) in
    let new = progress g.S.Sorter.order mid (g.D.Disk.streams c.contents.new.disk) in
    goes_back old there new (g.D.Disk.faults c.args.disk.now) (g.D.Disk.faults c.make_room.new.disk)
    (g.D.Disk.faults c.contents.new.disk) _ c.in_ok-make_room.ensures.goes
    (goes_failed there new 0 (g.D.Disk.faults c.make_room.new.disk) (g.D.Disk.faults c.contents.new.disk) (record {
      options = refl;
      order = refl;
      start = refl;
    }) refl
    c.in_err-items.ensures.streams.dirs c.in_err-items.ensures.streams.peak (omega arith) (costs_zero _ _ _ c.in_err-items.ensures.cause))

pub invariant_of-self : goal.invariant_of-self
invariant_of-self g c =
    let mid = c.make_room.new.self in
    let list : DirList = record { path = c.args.path; place = c.args.place; items = c.in_ok-items.items; after = c.args.after } in
    let depth : c.args.depth ≡ length mid.lists.items = c.requires.depth ∙ sym c.in_ok-make_room.ensures.kept.count in
    let fit : FitsAt mid.options c.args.depth list =
    record {
      after = subst (λ (o : Options). IfSome c.args.after (λ entry. (entry.depth ≡ c.args.depth) × (is_dir entry ≡ true)
          × (o.contents_first ≡ true))) (sym c.in_ok-make_room.ensures.kept.options) c.requires.after;
      children =
          c.in_ok-items.ensures.children;
      deepest = c.in_ok-items.ensures.deepest;
    } in
    let parent : LiesIn c.args.path (reverse mid.lists.items) =
    lies_alike c.args.path (reverse c.args.self.now.lists.items) (reverse mid.lists.items)
    (sym c.in_ok-make_room.ensures.stands.0) c.requires.parent in
    let sound : IsSound mid.options mid.start c.push.new.self.items mid.first_open =
    sound_pushed mid.options mid.start mid.lists.items c.push.new.self.items list mid.first_open (is_ok c.push.result) c.push.ensures.items
    (sound_of mid.options mid.start mid.lists.items mid.first_open mid.some_open mid.in_range mid.few mid.sound) (c.in_ok-make_room.ensures.kept.start
    ∙ c.requires.start)
    c.in_ok-make_room.ensures.room (subst (λ n. FitsAt mid.options n list) depth fit)
    (parent, own_lies c.args.after c.args.path (reverse mid.lists.items) c.requires.own parent) in
    record {
      some_open = mid.some_open;
      in_range = sound.in_range;
      few = sound.few;
      sound = is_sound_of mid.options mid.start c.push.new.self.items mid.first_open sound;
    }

pub returns-in-Ok-clause-goes : goal.returns-in-Ok-clause-goes
returns-in-Ok-clause-goes g c =
    let mid = c.make_room.new.self in
    let list : DirList = record { path = c.args.path; place = c.args.place; items = c.in_ok-items.items; after = c.args.after } in
    let room : length mid.lists.items < mid.first_open + mid.options.max_open = c.in_ok-make_room.ensures.room in
    let within = own_within mid.options mid.start mid.lists.items mid.first_open
    (sound_of mid.options mid.start mid.lists.items mid.first_open mid.some_open mid.in_range mid.few mid.sound) in
    let old = progress g.S.Sorter.order c.args.self.now (g.D.Disk.streams c.args.disk.now) in
    let there = progress g.S.Sorter.order mid (g.D.Disk.streams c.make_room.new.disk) in
    let new : Progress = record there { stack = reverse c.push.new.self.items; streams = g.D.Disk.streams c.contents.new.disk } in
    goes_in old there new (g.D.Disk.faults c.args.disk.now) (g.D.Disk.faults c.make_room.new.disk) (g.D.Disk.faults c.contents.new.disk)
    (length c.args.self.now.lists.items)
    (length-reverse mid.lists.items ∙ c.in_ok-make_room.ensures.kept.count) c.in_ok-make_room.ensures.goes
    (goes_pushed there new list (g.D.Disk.faults c.make_room.new.disk) (g.D.Disk.faults c.contents.new.disk) (record {
      options = refl;
      order = refl;
      start = refl;
    })
    (ap reverse c.in-Ok.ensures.items ∙ reversed_last mid.lists.items list) c.in_ok-items.ensures.streams
    (omega arith) c.in_ok-items.ensures.bounded c.in_ok-items.ensures.cause c.in_ok-items.ensures.whole)

pub returns-in-Err-clause-goes : goal.returns-in-Err-clause-goes
returns-in-Err-clause-goes g c =
    let mid = c.make_room.new.self in
    let room : length mid.lists.items < mid.first_open + mid.options.max_open = c.in_ok-make_room.ensures.room in
    let within = own_within mid.options mid.start mid.lists.items mid.first_open
    (sound_of mid.options mid.start mid.lists.items mid.first_open mid.some_open mid.in_range mid.few mid.sound) in
    let old = progress g.S.Sorter.order c.args.self.now (g.D.Disk.streams c.args.disk.now) in
    let there = progress g.S.Sorter.order mid (g.D.Disk.streams c.make_room.new.disk) in
    let new : Progress = record there { stack = reverse c.push.new.self.items; streams = g.D.Disk.streams c.unplaced.new.disk } in
    let opens = c.in_ok-items.ensures.streams in
    let dir = stream_in c.in_ok-items.items in
    let closed : g.D.Disk.streams c.unplaced.new.disk ≡ without_stream dir (g.D.Disk.streams c.contents.new.disk) =
    c.unplaced.ensures.streams
    ∙ ap (λ (l : DirList). without_stream (stream_in l.items) (g.D.Disk.streams c.contents.new.disk)) c.in-Err.ensures.value_returned in
    let peak : (g.D.Disk.streams c.unplaced.new.disk).peak ≡ (g.D.Disk.streams c.contents.new.disk).peak =
    ap (λ (s : Streams). s.peak) closed ∙ peak_without dir (g.D.Disk.streams c.contents.new.disk) in
    goes_back old there new (g.D.Disk.faults c.args.disk.now) (g.D.Disk.faults c.make_room.new.disk)
    (g.D.Disk.faults c.unplaced.new.disk) _ c.in_ok-make_room.ensures.goes
    (goes_failed there new 0 (g.D.Disk.faults c.make_room.new.disk) (g.D.Disk.faults c.unplaced.new.disk) (record {
      options = refl;
      order = refl;
      start = refl;
    })
    (ap reverse c.in-Err.ensures.items) (ap (λ (s : Streams). s.open_dirs) closed
    ∙ reopened (g.D.Disk.streams c.make_room.new.disk) dir (g.D.Disk.streams c.contents.new.disk) opens)
    (subst (λ n. n ≤ max (g.D.Disk.streams c.make_room.new.disk).peak (open_count (g.D.Disk.streams c.make_room.new.disk) + 1)) (sym peak) opens.peak)
    (omega arith)
    (subst (λ n. Costs 0 (g.D.Disk.faults c.make_room.new.disk) n) (sym c.unplaced.ensures.faults)
    (costs_zero (failures_left c.in_ok-items.items) _ _ c.in_ok-items.ensures.cause)))

pub returns-in-Ok-clause-pushes : goal.returns-in-Ok-clause-pushes
returns-in-Ok-clause-pushes g c =
    let state = g.D.Disk.state c.args.disk.now in
    let mid = c.make_room.new.self in
    let kept = c.in_ok-make_room.ensures.kept in
    let list : DirList = record { path = c.args.path; place = c.args.place; items = c.in_ok-items.items; after = c.args.after } in
    let old = progress g.S.Sorter.order c.args.self.now (g.D.Disk.streams c.args.disk.now) in
    let there = progress g.S.Sorter.order mid (g.D.Disk.streams c.make_room.new.disk) in
    let new : Progress = record there { stack = reverse c.push.new.self.items; streams = g.D.Disk.streams c.contents.new.disk } in
    pushed_stands state old there new c.args.path c.args.depth c.args.place c.args.after c.in_ok-items.items kept.options
    (ap (option_map g.S.Sorter.order) kept.sorter)
    (length-reverse mid.lists.items ∙ kept.count ∙ sym c.requires.depth) c.in_ok-make_room.ensures.stands c.in_ok-make_room.ensures.goes.keeps
    (ap reverse c.in-Ok.ensures.items ∙ reversed_last mid.lists.items list) c.in_ok-items.ensures.streams
    (subst (λ s. HasContents s there.order there.options c.args.path c.args.depth (Ok c.in_ok-items.items) new.streams)
    c.in_ok-make_room.ensures.state c.in_ok-items.ensures.contents)

pub returns-in-Ok-clause-holds : goal.returns-in-Ok-clause-holds
returns-in-Ok-clause-holds g c =
    let state = g.D.Disk.state c.args.disk.now in
    let mid = c.make_room.new.self in
    let kept = c.in_ok-make_room.ensures.kept in
    let list : DirList = record { path = c.args.path; place = c.args.place; items = c.in_ok-items.items; after = c.args.after } in
    let old = progress g.S.Sorter.order c.args.self.now (g.D.Disk.streams c.args.disk.now) in
    let there = progress g.S.Sorter.order mid (g.D.Disk.streams c.make_room.new.disk) in
    let new : Progress = record there { stack = reverse c.push.new.self.items; streams = g.D.Disk.streams c.contents.new.disk } in
    pushed_holds state old there new c.args.path c.args.depth c.args.place c.args.after c.in_ok-items.items kept.options
    (ap (option_map g.S.Sorter.order) kept.sorter)
    (length-reverse mid.lists.items ∙ kept.count ∙ sym c.requires.depth) (ap reverse c.in-Ok.ensures.items
    ∙ reversed_last mid.lists.items list) c.in_ok-items.ensures.whole
    (subst (λ s. HasContents s there.order there.options c.args.path c.args.depth (Ok c.in_ok-items.items) new.streams)
    c.in_ok-make_room.ensures.state c.in_ok-items.ensures.contents)

pub returns-in-Ok-clause-head : goal.returns-in-Ok-clause-head
returns-in-Ok-clause-head g c =
    let mid = c.make_room.new.self in
    let list : DirList = record { path = c.args.path; place = c.args.place; items = c.in_ok-items.items; after = c.args.after } in
    head_pushed (reverse c.push.new.self.items) list (reverse mid.lists.items) c.args.depth (ap reverse c.in-Ok.ensures.items
    ∙ reversed_last mid.lists.items list)
    (c.requires.depth ∙ sym (length-reverse mid.lists.items ∙ c.in_ok-make_room.ensures.kept.count)) c.in_ok-items.ensures.whole

pub returns-in-Ok-clause-above : goal.returns-in-Ok-clause-above
returns-in-Ok-clause-above g c =
    let mid = c.make_room.new.self in
    let list : DirList = record { path = c.args.path; place = c.args.place; items = c.in_ok-items.items; after = c.args.after } in
    ap (λ (l : List DirList). ancestors (reverse l)) c.in-Ok.ensures.items ∙ ap ancestors (reversed_last mid.lists.items list)
    ∙ ap (λ (a : List Ancestor). (record { path = c.args.path; place = c.args.place }) ∷ a) c.in_ok-make_room.ensures.kept.above

pub returns-in_err-make_room-clause-answered : goal.returns-in_err-make_room-clause-answered
returns-in_err-make_room-clause-answered g c =
    let room = c.in_err-make_room.ensures.answered in
    record { leads = room.leads; told = λ first told known. (room.told first told).0 }

pub returns-in_err-items-clause-answered : goal.returns-in_err-items-clause-answered
returns-in_err-items-clause-answered g c =
    let room = c.in_ok-make_room.ensures.answered in
    let more = c.in_err-items.ensures.answered.leads in
    record {
      leads = leads_then g.D.Disk.answered c.args.disk.now c.make_room.new.disk c.contents.new.disk room.leads more;
      told = λ first told known. stack_later g.D.Disk.answered first c.make_room.new.disk c.contents.new.disk
          (reverse c.make_room.new.self.lists.items) (room.told first told).0 more;
    }

pub returns-in-Ok-clause-answered : goal.returns-in-Ok-clause-answered
returns-in-Ok-clause-answered g c =
    let mid = c.make_room.new.self in
    let list : DirList = record { path = c.args.path; place = c.args.place; items = c.in_ok-items.items; after = c.args.after } in
    let room = c.in_ok-make_room.ensures.answered in
    let more = c.in_ok-items.ensures.answered in
    let leads = leads_then g.D.Disk.answered c.args.disk.now c.make_room.new.disk c.contents.new.disk room.leads more.leads in
    record {
      leads = leads;
      told = λ first told known.
          let there = (room.told first told).0 in
          stack_push g.D.Disk.answered first c.contents.new.disk list (reverse mid.lists.items) (reverse c.push.new.self.items)
          (ap reverse c.in-Ok.ensures.items ∙ reversed_last mid.lists.items list)
          (stack_later g.D.Disk.answered first c.make_room.new.disk c.contents.new.disk (reverse mid.lists.items) there more.leads)
          (are_since g.D.Disk.answered first c.make_room.new.disk c.contents.new.disk (held c.in_ok-items.items) there.leads more.told)
          (known_later g.D.Disk.answered first c.args.disk.now c.contents.new.disk c.args.path c.args.place leads known);
    }

pub returns-in-Err-clause-answered : goal.returns-in-Err-clause-answered
returns-in-Err-clause-answered g c =
    let mid = c.make_room.new.self in
    let room = c.in_ok-make_room.ensures.answered in
    let more = leads_then g.D.Disk.answered c.make_room.new.disk c.contents.new.disk c.unplaced.new.disk c.in_ok-items.ensures.answered.leads
    c.unplaced.ensures.answered in
    record {
      leads = leads_then g.D.Disk.answered c.args.disk.now c.make_room.new.disk c.unplaced.new.disk room.leads more;
      told = λ first told known.
          stack_as g.D.Disk.answered first c.unplaced.new.disk (reverse mid.lists.items) (reverse c.push.new.self.items)
          (ap reverse c.in-Err.ensures.items)
          (stack_later g.D.Disk.answered first c.make_room.new.disk c.unplaced.new.disk (reverse mid.lists.items) (room.told first told).0 more);
    }
