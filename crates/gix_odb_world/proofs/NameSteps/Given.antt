-- A write that gives an object its name: the name reads as a whole encoding, and again where it holds one already.
use Rattle.std.proofs.Common.{◌≡◌, inl, inr, ℕ, ◌+◌, ◌<◌, ◌≤◌, true, false, List, [], ◌∷◌, ◌++◌, length, take, Some, Ok, sym, ap, ◌∙◌, subst, arith}
use Rattle.std.specs.Prelude.{slice_get}
use Rattle.std.proofs.lemmas.Bool.{cases_lt}
use Rattle.std.proofs.lemmas.List.{length_push}
use Rattle.std.proofs.lemmas.Option.{slice_get_within}
use Rattle.odb_base.specs.Path.{Path}
use Rattle.odb_disk.specs.Tree.{IsTree, Tree, tree_of}
use Rattle.odb_disk.specs.Tree.Change.{changed}
use Rattle.odb_disk.specs.Tree.Follow.{read_of}
use Rattle.odb_disk.specs.Tree.Way.{SameOnWay, crosses}
use Rattle.odb_disk.specs.Tree.Write.{change_of_rename, file_spot, spot}
use Rattle.odb_disk.specs.declared.ask.DiskAnswer.TheVariants as answers
use Rattle.odb_disk.specs.declared.ask.DiskAsk.TheVariants as asks
use Rattle.odb_disk.specs.declared.change.Change.TheVariants.{PutFile, Rename}
use Rattle.odb_disk.proofs.OwnWayLaws.{OwnSpot, moved_onto, moved_onto_crosses, moved_onto_reads, own_rename}
use Rattle.odb_disk.proofs.TreeLemmas.Write.{replaceable_at}
use Rattle.odb_disk.proofs.WayWriteLaws.{rename_file_spot, rename_spot}
use Rattle.gix_hash.specs.declared.object_id.ObjectId.{ObjectId}
use Rattle.gix_odb_loose.specs.WriteOrder.{temp_path}
use Rattle.gix_odb_calls.specs.declared.call.Reply.TheVariants as replies
use Rattle.gix_odb_calls.specs.declared.step.Outcome.TheVariants as outcomes
use Rattle.gix_odb_history.specs.Event.{Event}
use Rattle.gix_odb_history.specs.Run.{disk_after, tree_at}
use Rattle.gix_odb_world.specs.Status.{MakeCall}
use Rattle.gix_odb_world.specs.Undisturbed.{HasMade, IsUndisturbed}
use Rattle.gix_odb_world.specs.WholeNames.{GivesName, ReadsWhole, name_path}
use Rattle.gix_odb_history.specs.Writing.{AskedAt, IsRename, LeftAlone, ToWrite, call_to_write, name_to_write, to_write}
use Rattle.gix_odb_world.specs.Written.{HasWritten}
use Rattle.gix_odb_world.proofs.LawfulRun.{LawfulRun}
use Rattle.gix_odb_world.proofs.FileSteps.{new_at}
use Rattle.gix_odb_world.proofs.OwnFiles.Standing as files
use Rattle.gix_odb_world.proofs.OwnFiles.Writer as writers
use Rattle.gix_odb_world.proofs.RunSteps.{front_of_front, is_tree_at, length_take, take_next, there_in_front, there_in_whole}
use Rattle.gix_odb_world.proofs.StandAlone.{Own, own_at_rename}
use Rattle.gix_odb_world.proofs.HistoryLemmas.{slice_get-last}

module _ (run : LawfulRun) where
  open run use {first, events, lawful}

  abbrev tree : ℕ → Tree
  tree = tree_at first events

  is_tree : (now : ℕ) → IsTree (tree now)
  is_tree = is_tree_at run

  -- trees of a prefix of the run
  tree_front : (count place : ℕ) → place ≤ count → tree_at first (take count events) place ≡ tree place
  tree_front count place within = ap (λ es. tree_of (disk_after first es).state) (front_of_front events place count within)

  alone_front : (handle from to count : ℕ) (path : Path) → to < count → LeftAlone first events handle path from to
      → LeftAlone first (take count events) handle path from to
  alone_front handle from to count path soon alone place x later within at other =
      let there = there_in_whole events place count x at in
      subst (λ t. SameOnWay t (tree_at first (take count events) (place + 1)) true path) (sym (tree_front count place (omega (arith, soon, within))))
      (subst (λ u. SameOnWay (tree place) u true path) (sym (tree_front count (place + 1) (omega (arith, soon, within)))) (alone place x later within there.1 other))

  -- ---- a write that gives an object its name

  -- it moved the file that it had made, and where that was left alone and no link was replaced, the name reads as a whole encoding
  record Given (place : ℕ) (w : ToWrite) (to : Path) (gives : GivesName events place w to) : Type 0 where
    number : ℕ
    made : ℕ
    has : HasMade first events gives.handle made (temp_path w.objects number) place
    renames : change_of_rename (tree place) (temp_path w.objects number) (name_path w) ≡ Ok (Rename gives.from to)
    reads : LeftAlone first events gives.handle (temp_path w.objects number) (made + 1) place → crosses (tree place) (name_path w) to ≡ false
        → ReadsWhole first events (name_path w) w (place + 1)

  module _ (place : ℕ) (w : ToWrite) (to : Path) (gives : GivesName events place w to) where
    abbrev past : List Event
    past = take place events

    abbrev upto : List Event
    upto = take (place + 1) events

    upto_is : upto ≡ past ++ gives.event ∷ []
    upto_is = take_next events place gives.event gives.there

    ends : (id : ObjectId) × (gives.event.outcome ≡ outcomes.Reply (replies.Wrote id))
    ends =
        writers.rename_ends run place gives.event gives.there gives.handle gives.running gives.call gives.at gives.turn gives.from to gives.moves

    keeps : HasWritten first upto gives.handle gives.running.begun (to_write gives.running.store.parts.objects gives.running.store.parts.object_hash w.kind w.size w.bytes w.known) ends.0
    keeps =
        subst (λ es. HasWritten first es gives.handle gives.running.begun (to_write gives.running.store.parts.objects gives.running.store.parts.object_hash w.kind w.size w.bytes w.known) ends.0) (sym upto_is)
        ((lawful place gives.event gives.there).promise gives.handle gives.running (MakeCall (call_to_write w)) (replies.Wrote ends.0)
        (record { turn = gives.turn; status = gives.at.works }) gives.begins ends.1)

    written : HasWritten first upto gives.handle gives.running.begun w (name_to_write w)
    written =
        let as_replied : HasWritten first upto gives.handle gives.running.begun w ends.0 =
        subst (λ objects. HasWritten first upto gives.handle gives.running.begun (to_write objects w.hash w.kind w.size w.bytes w.known) ends.0) (sym gives.into)
        (subst (λ hash. HasWritten first upto gives.handle gives.running.begun (to_write gives.running.store.parts.objects hash w.kind w.size w.bytes w.known) ends.0) (sym gives.hashed) keeps) in
        subst (HasWritten first upto gives.handle gives.running.begun w) as_replied.name as_replied

    pub full : length w.bytes ≡ w.size
    full = written.size

    within : place < length events
    within = slice_get_within events place gives.event gives.there

    past_long : length written.past ≡ place
    past_long =
        let one = ap length written.is ∙ length_push written.past written.last in
        let two = ap length upto_is ∙ length_push past gives.event in
        let three = length_take events place gives.event gives.there in
        omega (arith, one, two, three)

    last_is : written.last ≡ gives.event
    last_is =
        let here : slice_get upto place ≡ Some written.last = ap (λ n. slice_get upto n) (sym past_long)
        ∙ (ap (λ es. slice_get es (length written.past)) written.is ∙ slice_get-last written.past written.last) in
        writers.one_event upto place written.last gives.event here (there_in_front events place (place + 1) gives.event (omega arith) gives.there)

    moved : Rename written.source written.target ≡ Rename gives.from to
    moved = let both : Some (Rename written.source written.target) ≡ Some (Rename gives.from to) = sym written.change ∙ (ap (λ (x : Event). x.entry.change) last_is ∙ gives.moves) in cc both

    tree_past : tree_at first upto (length written.past) ≡ tree place
    tree_past = ap (tree_at first upto) past_long ∙ tree_front (place + 1) place (omega arith)

    tree_upto : tree_at first upto (length written.past + 1) ≡ tree (place + 1)
    tree_upto = ap (λ n. tree_at first upto (n + 1)) past_long ∙ tree_front (place + 1) (place + 1) (omega arith)

    made_whole : (written.made < place + 1) × AskedAt first events gives.handle written.made (asks.NewFile (temp_path w.objects written.number)) answers.Done
    made_whole = writers.asked_whole run gives.handle (place + 1) written.made (temp_path w.objects written.number) written.makes

    made_before : written.made < place
    made_before = elim (cases_lt written.made place) [
      | inl soon ↦ soon
      | inr late ↦
          let before = made_whole.0 in
          let at : written.made ≡ place = omega (arith, before, late) in
          let new = new_at run gives.handle written.made (temp_path w.objects written.number) made_whole.1 in
          let one : made_whole.1.event ≡ gives.event = writers.one_event events place made_whole.1.event gives.event (ap (slice_get events) (sym at) ∙ made_whole.1.there) gives.there in
          let both : Some (PutFile new.spot 0 []) ≡ Some (Rename gives.from to) = sym new.put ∙ (ap (λ (x : Event). x.entry.change) one ∙ gives.moves) in
          absurd (cc both)
    ]

    given : Given place w to gives
    given = record {
      number = written.number;
      made = written.made;
      has = record {
        running = gives.running;
        call = gives.call;
        at = gives.at;
        later = written.later;
        before = made_before;
        number = written.number;
        named = ap (λ o. temp_path o written.number) gives.into;
        makes = made_whole.1;
      };
      renames = subst (λ t. change_of_rename t (temp_path w.objects written.number) (name_path w) ≡ Ok (Rename gives.from to)) tree_past (written.renames ∙ ap Ok moved);
      reads = λ alone free.
          let target : written.target ≡ to = cc moved in
          let was : LeftAlone first upto gives.handle (temp_path w.objects written.number) (written.made + 1) (length written.past) =
          subst (LeftAlone first upto gives.handle (temp_path w.objects written.number) (written.made + 1)) (sym past_long)
          (alone_front gives.handle (written.made + 1) place (place + 1) (temp_path w.objects written.number) (omega arith) alone) in
          let clear : crosses (tree_at first upto (length written.past)) (name_path w) written.target ≡ false =
          ap (λ t. crosses t (name_path w) written.target) tree_past ∙ (ap (crosses (tree place) (name_path w)) target ∙ free) in
          ap (λ t. read_of t (name_path w)) (sym tree_upto) ∙ written.reads was clear;
    }

    renames_it : IsRename gives.event.entry.change
    renames_it = subst IsRename (sym gives.moves) tt

    module _ (calm : IsUndisturbed first events place) where
      own : Own run gives.handle given.made (temp_path w.objects given.number) place
      own = own_at_rename run place gives.event gives.handle given.made (temp_path w.objects given.number) calm gives.there gives.turn renames_it given.has

      from_is : file_spot (tree place) (temp_path w.objects given.number) ≡ Ok gives.from
      from_is =
          let r = own_rename (tree place) (is_tree place) (temp_path w.objects given.number) (Rename gives.from to) own.spot own.own (name_path w) given.renames in
          let both : Rename gives.from to ≡ Rename own.spot r.0 = r.1 in
          let same : own.spot ≡ gives.from = cc in
          own.own.leads ∙ ap Ok same

      next_is : tree (place + 1) ≡ changed (tree place) (Rename gives.from to)
      next_is = files.changed_to run place gives.event gives.there (Rename gives.from to) gives.moves

      pub whole_after : crosses (tree place) (name_path w) to ≡ false → ReadsWhole first events (name_path w) w (place + 1)
      whole_after free = given.reads own.alone free

      pub spot_after : crosses (tree place) (name_path w) to ≡ false → OwnSpot (tree (place + 1)) (name_path w) to
      spot_after free =
          subst (λ u. OwnSpot u (name_path w) to) (sym next_is)
          (record {
            is = rename_spot (tree place) (is_tree place) (temp_path w.objects given.number) (name_path w) gives.from to given.renames from_is free;
            leads = rename_file_spot (tree place) (is_tree place) (temp_path w.objects given.number) (name_path w) gives.from to given.renames from_is free;
          })

      -- a path that leads to a file at that spot reads as the whole encoding too
      pub spot_again : (path : Path) → OwnSpot (tree place) path to → OwnSpot (tree (place + 1)) path to
      spot_again path there =
          subst (λ u. OwnSpot u path to) (sym next_is)
          (moved_onto (tree place) (is_tree place) path to there (temp_path w.objects given.number) (name_path w) gives.from from_is given.renames)

      pub whole_again : (path : Path) → OwnSpot (tree place) path to → ReadsWhole first events path w (place + 1)
      whole_again path there =
          ap (λ u. read_of u path) next_is
          ∙ (moved_onto_reads (tree place) (is_tree place) path to there (temp_path w.objects given.number) (name_path w) gives.from from_is given.renames
          ∙ (ap (λ u. read_of u (name_path w)) (sym next_is)
          ∙ whole_after (moved_onto_crosses (tree place) (is_tree place) path to there (temp_path w.objects given.number) (name_path w) gives.from from_is given.renames (name_path w))))

      pub target_is : spot (tree place) (name_path w) ≡ Ok to
      target_is =
          let r = own_rename (tree place) (is_tree place) (temp_path w.objects given.number) (Rename gives.from to) own.spot own.own (name_path w) given.renames in
          let both : Rename gives.from to ≡ Rename own.spot r.0 = r.1 in
          let same : r.0 ≡ to = cc both in
          (replaceable_at (tree place) (name_path w) r.0 r.2).is ∙ ap Ok same
