-- What a write's own turn does to its temporary file.
use Rattle.std.proofs.Common.{◌≡◌, ℕ, ◌+◌, List, take, Option, Some, None, Ok, refl, sym, ap, ◌∙◌, subst, arith}
use Rattle.std.specs.Prelude.{slice_get}
use Rattle.std.proofs.lemmas.Option.{slice_get_within}
use Rattle.odb_base.specs.Path.{Path}
use Rattle.odb_disk.specs.Ask.{answer_now}
use Rattle.odb_disk.specs.Tree.{Tree}
use Rattle.odb_disk.specs.Tree.Change.{changed}
use Rattle.odb_disk.specs.Tree.Write.{change_of_append}
use Rattle.odb_disk.specs.declared.change.Change.{Change}
use Rattle.odb_disk.proofs.OwnWayLaws.{OwnSpot, own_appended, own_foldered, own_kept}
use Rattle.odb_disk.proofs.WayWriteLaws.{rename_change}
use Rattle.gix_odb_loose.specs.LooseFile.{loose_path}
use Rattle.gix_odb_loose.specs.LooseOrder as loose_order
use Rattle.gix_odb_loose.specs.WriteOrder.{number_made, temp_path}
use Rattle.gix_odb_loose.specs.declared.write_order.Refusal.{Refusal}
use Rattle.gix_odb_loose.specs.declared.write_order.WriteStage.{WriteStage}
use Rattle.gix_odb_loose.specs.declared.write_order.WriteStage.TheVariants as stages
use Rattle.gix_odb.specs.CallOrder.{result_of_write}
use Rattle.gix_odb_calls.specs.declared.step.Outcome.TheVariants as outcomes
use Rattle.gix_odb_history.specs.Event.{Event}
use Rattle.gix_odb_world.specs.Status.{status_of}
use Rattle.gix_odb_world.specs.Headline.{outcome_of}
use Rattle.gix_odb_history.specs.Run.{IsTurnOf, disk_after, tree_at}
use Rattle.gix_odb_world.specs.Running.Write.{IsWriting, write_at}
use Rattle.gix_odb_world.specs.Undisturbed.{HasMade}
use Rattle.gix_odb_history.specs.Writing.{IsRename}
use Rattle.gix_odb_world.proofs.LawfulRun.{LawfulRun}
use Rattle.gix_odb_world.proofs.DiskTurns.{CallsDisk}
use Rattle.gix_odb_world.proofs.WriteCalls.{write_calls}
use Rattle.gix_odb_world.proofs.FileSteps.{WriterMoves, does_nothing}
use Rattle.gix_odb_world.proofs.RunSteps.{there_in_front}
use Rattle.gix_odb_world.proofs.WorkLaws.{ends_as_write}
use Rattle.gix_odb_world.proofs.OwnFiles.Ends.{no_write_after, removing_ends}
use Rattle.gix_odb_world.proofs.OwnFiles.Writer.{is_tree, writing_at, stage_of_made, within_events, moves_of}
use Rattle.gix_odb_world.proofs.OwnFiles.Standing.{Own, Lost, cut_made, at_write_next, changed_to, alone_push, own_same, same_way}

module _ (run : LawfulRun) where
  open run use {first, events, lawful}

  abbrev tree : ℕ → Tree
  tree = tree_at first events

  module _ (now : ℕ) (e : Event) (there : slice_get events now ≡ Some e) where
    module _ (handle made : ℕ) (path : Path) (hm : HasMade first events handle made path now) (turn : IsTurnOf handle e) where
      writes : IsWriting first (take now events) handle hm.running hm.call
      writes = writing_at run now handle hm.running hm.call (within_events run now e there) hm.at

      works : CallsDisk first (take now events) handle hm.running e
      works =
          write_calls first (take now events) handle hm.running e ((lawful now e there).worked handle hm.running (record { turn = turn; status = hm.at.works }))
          hm.call hm.at.writes writes

      own_moves : (c : Change) → e.entry.change ≡ Some c → WriterMoves (tree now) hm.running.store.parts.objects writes.stage c
      own_moves c is = moves_of run now e handle hm.running hm.call hm.at.writes writes works c is

      -- a write that was cut off changes nothing
      pub lost_turn : Lost run path now → e.entry.change ≡ None
      lost_turn l = by_change e.entry.change refl
        where
          by_change : (change : Option Change) → e.entry.change ≡ change → e.entry.change ≡ None
          by_change None is = is
          by_change (Some c) is =
              let at = stage_of_made run handle made now path hm writes in
              absurd (does_nothing (tree now) (is_tree run now) hm.running.store.parts.objects c writes.stage at.0 at.1 (cut_made run handle made now path hm now l) (own_moves c is))

      -- a write that continues leaves its file at its spot
      pub own_turn : (o : Own run handle made path now) → HasMade first events handle made path (now + 1)
          → Own run handle made path (now + 1)
      own_turn o after = by_change e.entry.change refl
        where
          at : (number : ℕ) × (number_made writes.stage ≡ Some number) × (path ≡ temp_path hm.running.store.parts.objects number)
          at = stage_of_made run handle made now path hm writes

          unnamed : ¬ (IsRename e.entry.change)
          unnamed =
              let later = after.later in
              let before = hm.before in
              let within = slice_get_within events now e there in
              let writes_on = writing_at run (now + 1) handle after.running after.call (omega (arith, within)) after.at in
              writes_on.stands.unnamed now e (omega (arith, later, before)) (there_in_front events now (now + 1) e (omega arith) there) turn

          goes_on : (number : ℕ) (refusal : Refusal) → writes.stage ≡ stages.Removing number refusal → ⊥
          goes_on number refusal stage =
              let same : hm.call ≡ write_at writes.write (stages.Removing number refusal) = writes.is ∙ ap (write_at writes.write) stage in
              let answer = answer_now (disk_after first (take now events)) works.ask in
              let ends = removing_ends writes.write number refusal answer in
              let done : result_of_write (loose_order.fed hm.call answer) ≡ Ok ends.0 = ap (λ f. result_of_write (loose_order.fed f answer)) same ∙ ends.1 in
              let outcome : e.outcome ≡ outcomes.Reply ends.0 = works.goes ∙ ap outcome_of (ends_as_write hm.running.store hm.running.work hm.call answer ends.0 hm.at.writes done) in
              no_write_after after.running.store after.running.begun (now + 1) e.step e.outcome e.asked (status_of (take now events)) handle ends.0 turn.step outcome
              (at_write_next run now e there handle after.running after.call after.at)

          own_by : (c : Change) → e.entry.change ≡ Some c → OwnSpot (changed (tree now) c) path o.spot
              → Own run handle made path (now + 1)
          own_by c is own =
              record {
                spot = o.spot;
                event = o.event;
                there = o.there;
                put = o.put;
                own = subst (λ u. OwnSpot u path o.spot) (sym (changed_to run now e there c is)) own;
                alone = alone_push run now e there handle (made + 1) path o.alone (λ other. absurd (other turn));
              }

          appended : (c : Change) (n : ℕ) (more : List ℕ) → e.entry.change ≡ Some c → at.0 ≡ n
              → change_of_append (tree now) (temp_path hm.running.store.parts.objects n) more ≡ Ok c
              → Own run handle made path (now + 1)
          appended c n more is same moves =
              let named : path ≡ temp_path hm.running.store.parts.objects n = at.2 ∙ ap (temp_path hm.running.store.parts.objects) same in
              own_by c is (own_appended (tree now) (is_tree run now) path c o.spot o.own more (ap (λ p. change_of_append (tree now) p more) named ∙ moves))

          by_stage : (c : Change) → e.entry.change ≡ Some c → (stage : WriteStage) → writes.stage ≡ stage → number_made stage ≡ Some at.0
              → WriterMoves (tree now) hm.running.store.parts.objects stage c → Own run handle made path (now + 1)
          by_stage c is (stages.Making n) stage number moves = absurd (cc number)
          by_stage c is (stages.Heading n) stage number moves = appended c n moves.0 is (cc number) moves.1
          by_stage c is (stages.Filling n written) stage number moves = appended c n moves.0 is (cc number) moves.1
          by_stage c is (stages.Foldering n id) stage number moves =
              own_by c is (own_kept (tree now) (changed (tree now) c) path o.spot (own_foldered (tree now) (is_tree run now) path c o.spot o.own _ moves) o.own)
          by_stage c is (stages.Moving n id) stage number moves =
              let r = rename_change (tree now) (temp_path hm.running.store.parts.objects n) c (loose_path hm.running.store.parts.objects id) moves in
              absurd (unnamed (subst IsRename (sym (is ∙ ap Some r.4)) tt))
          by_stage c is (stages.Removing n refusal) stage number moves = absurd (goes_on n refusal stage)

          by_change : (change : Option Change) → e.entry.change ≡ change → Own run handle made path (now + 1)
          by_change None is = own_same run now e there handle made path (same_way run now e there path is) o
          by_change (Some c) is = by_stage c is writes.stage refl at.1 (own_moves c is)
