-- The turns in which a write makes the directory of its object, gives the name, or removes its file.
use Rattle.std.proofs.Common.{◌≡◌, ◌≢◌, ℕ, ◌+◌, false, List, [], ◌∷◌, ◌++◌, length, Option, Some, None, Ok, Err, refl, sym, ap, ◌∙◌, subst, arith, inr}
use Rattle.std.proofs.lemmas.List.{length_push}
use Rattle.odb_base.specs.Path.{Path}
use Rattle.odb_disk.specs.Ask.{answer_now}
use Rattle.odb_disk.specs.MemDisk.{Volume}
use Rattle.odb_disk.specs.Tree.{Tree, tree_of}
use Rattle.odb_disk.specs.Tree.Change.{changed}
use Rattle.odb_disk.specs.Tree.Follow.{read_of}
use Rattle.odb_disk.specs.Tree.Way.{crosses}
use Rattle.odb_disk.specs.Tree.Write.{change_of_make_dir, change_of_remove, change_of_rename}
use Rattle.odb_disk.specs.declared.ask.DiskAnswer.{DiskAnswer}
use Rattle.odb_disk.specs.declared.ask.DiskAnswer.TheVariants as answers
use Rattle.odb_disk.specs.declared.ask.DiskAsk.{DiskAsk}
use Rattle.odb_disk.specs.declared.ask.DiskAsk.TheVariants as asks
use Rattle.odb_disk.specs.declared.change.Change.{Change}
use Rattle.odb_disk.specs.declared.change.Change.TheVariants.{MakeDir, Rename, Remove}
use Rattle.odb_disk.specs.declared.disk_error.DiskError.TheVariants as disk_errors
use Rattle.odb_disk.proofs.OwnFileLaws.{moved_reads, moves_file}
use Rattle.odb_disk.proofs.WayWriteLaws.{make_dir_change, remove_change, rename_change}
use Rattle.gix_hash.specs.declared.object_id.ObjectId.{ObjectId}
use Rattle.gix_object.specs.Loose.{header_of}
use Rattle.gix_odb_loose.proofs.WriteDoneLaws.{IsAlong-done}
use Rattle.gix_odb_loose.specs.LooseFile.{loose_path}
use Rattle.gix_odb_loose.specs.WriteDone.{GetsNameOf, CountsOf, HasDone}
use Rattle.gix_odb_loose.specs.WriteOrder.{next_write, prefix_path, refused_by, temp_path}
use Rattle.gix_odb_loose.specs.declared.write_at_hand.Onward.TheVariants.{Stage}
use Rattle.gix_odb_loose.specs.declared.write_order.Refusal.{Refusal}
use Rattle.gix_odb_loose.specs.declared.write_order.Refusal.TheVariants as refusals
use Rattle.gix_odb_loose.specs.declared.write_order.WriteAsk.{WriteAsk}
use Rattle.gix_odb_loose.specs.declared.write_order.WriteAsk.TheVariants as wants
use Rattle.gix_odb_loose.specs.declared.write_order.WriteStage.TheVariants as stages
use Rattle.gix_odb_history.specs.Event.{Event}
use Rattle.gix_odb_history.specs.Run.{change_by, disk_after, tree_at}
use Rattle.gix_odb_world.specs.Running.Write.{job_to_write}
use Rattle.gix_odb_history.specs.Writing.{ChangedNothing, IsNewFile, IsRename, head_to_write}
use Rattle.gix_odb_world.specs.Written.{HasWritten}
use Rattle.gix_odb_world.proofs.HistoryLemmas.{tree_at-before}
use Rattle.gix_odb_history.proofs.WriteAsk.{change_by-all, done_made, told_make_dir, told_remove, told_rename, undone_made}
use Rattle.gix_odb_world.proofs.WriteKept.{alone_before, asked_at_kept}
use Rattle.gix_odb_world.proofs.WriteTurn.Common.{CallOfTurn, Makes, Stands, TurnOfWrite, before_is, call_at, foldered_holds, is_tree}
use Rattle.gix_odb_world.proofs.WriteTurn.Common.{made_before_removal, made_same, no_file, no_rename, now_changed, own, same_holds}
use Rattle.gix_odb_world.proofs.WriteTurn.Comes.{PartsTo, cleared}

module _ (t : TurnOfWrite) where
  open t use {first, events, e, handle, begun, w}

  abbrev whole : List Event
  whole = events ++ e ∷ []

  abbrev disk : Volume
  disk = disk_after first events

  abbrev before : Tree
  before = tree_at first events (length events)

  module _ (number : ℕ) where
    abbrev path : Path
    path = temp_path w.objects number

    module _ (id : ObjectId) where
      abbrev folder : Path
      folder = prefix_path w.objects id

      -- the directory of the object
      module _ (s : Stands t (stages.Foldering number id)) (is : Makes t (asks.MakeDir folder)) where
        abbrev foldering_call : (answer : DiskAnswer) → answer ≡ answer_now disk (asks.MakeDir folder) → CallOfTurn t
        foldering_call answer given = call_at t (stages.Foldering number id) s (asks.MakeDir folder) is answer given

        abbrev FolderingParts : (answer : DiskAnswer) → answer ≡ answer_now disk (asks.MakeDir folder) → WriteAsk → Type 0
        FolderingParts answer given wanted = PartsTo t (foldering_call answer given) wanted

        unfolded : answers.Done ≢ answer_now disk (asks.MakeDir folder) → change_by disk (asks.MakeDir folder) ≡ None
        unfolded undone = undone_made disk (asks.MakeDir folder) (change_of_make_dir (tree_of disk.state) folder) (told_make_dir (tree_of disk.state) folder) undone

        unfoldered : (answer : DiskAnswer) (given : answer ≡ answer_now disk (asks.MakeDir folder)) (refusal : Refusal) → answers.Done ≢ answer
            → FolderingParts answer given (wants.Disk (stages.Removing number refusal))
        unfoldered answer given refusal undone =
            let none = unfolded (λ d. undone (d ∙ sym given)) in
            cleared t (foldering_call answer given) number refusal (no_rename t (foldering_call answer given) none)
            (no_file t (foldering_call answer given) none) s.made

        pub foldering : (answer : DiskAnswer) (given : answer ≡ answer_now disk (asks.MakeDir folder)) → FolderingParts answer given (next_write w.size 0 (stages.Foldering number id) answer)
        foldering answers.Done given =
            let m = done_made disk (asks.MakeDir folder) (change_of_make_dir (tree_of disk.state) folder) (told_make_dir (tree_of disk.state) folder) given in
            let c = make_dir_change (tree_of disk.state) folder m.change m.is in
            let change_is : e.entry.change ≡ Some (MakeDir c.0 _) = is.change ∙ (m.made ∙ ap Some c.2) in (
              λ renames. subst IsRename change_is renames,
              made_same t (foldering_call answers.Done given) (Some number) (λ makes. subst IsNewFile change_is makes) s.made,
              foldered_holds t (foldering_call answers.Done given) path folder (header_of w.kind w.size ++ w.bytes) m s.holds,
              tt,
            )
        foldering (answers.Refused disk_errors.Exists) given =
            let none = unfolded (λ d. cc (d, given)) in (
              no_rename t (foldering_call _ given) none,
              made_same t (foldering_call _ given) (Some number) (no_file t (foldering_call _ given) none) s.made,
              same_holds t (foldering_call _ given) path (header_of w.kind w.size ++ w.bytes) none s.holds,
              tt,
            )
        foldering (answers.Meta meta) given = unfoldered (answers.Meta meta) given refusals.IoRaw (λ d. cc d)
        foldering (answers.Dir dir) given = unfoldered (answers.Dir dir) given refusals.IoRaw (λ d. cc d)
        foldering (answers.Entry entry) given = unfoldered (answers.Entry entry) given refusals.IoRaw (λ d. cc d)
        foldering answers.End given = unfoldered answers.End given refusals.IoRaw (λ d. cc d)
        foldering (answers.File bytes time) given = unfoldered (answers.File bytes time) given refusals.IoRaw (λ d. cc d)
        foldering (answers.Refused disk_errors.Absent) given = unfoldered (answers.Refused disk_errors.Absent) given refusals.IoRaw (λ d. cc d)
        foldering (answers.Refused disk_errors.WrongKind) given = unfoldered (answers.Refused disk_errors.WrongKind) given refusals.IoRaw (λ d. cc d)
        foldering (answers.Refused disk_errors.LinkLoop) given = unfoldered (answers.Refused disk_errors.LinkLoop) given refusals.IoRaw (λ d. cc d)
        foldering (answers.Refused disk_errors.NotEmpty) given = unfoldered (answers.Refused disk_errors.NotEmpty) given refusals.IoRaw (λ d. cc d)
        foldering (answers.Refused disk_errors.Failed) given = unfoldered (answers.Refused disk_errors.Failed) given refusals.IoRaw (λ d. cc d)
        foldering (answers.Refused disk_errors.NoMemory) given = unfoldered (answers.Refused disk_errors.NoMemory) given refusals.NoMemory (λ d. cc d)

      -- the name of the object
      abbrev name_path : Path
      name_path = loose_path w.objects id

      module _ (s : Stands t (stages.Moving number id)) (is : Makes t (asks.Rename path name_path)) where
        abbrev moving_call : (answer : DiskAnswer) → answer ≡ answer_now disk (asks.Rename path name_path) → CallOfTurn t
        moving_call answer given = call_at t (stages.Moving number id) s (asks.Rename path name_path) is answer given

        abbrev MovingParts : (answer : DiskAnswer) → answer ≡ answer_now disk (asks.Rename path name_path) → WriteAsk → Type 0
        MovingParts answer given wanted = PartsTo t (moving_call answer given) wanted

        abbrev has_done : HasDone (job_to_write w) (stages.Moving number id) s.past
        has_done = IsAlong-done (head_to_write w) (w.hash) w.known w.bytes (Stage (stages.Moving number id)) s.past s.along

        unmoved : (answer : DiskAnswer) (given : answer ≡ answer_now disk (asks.Rename path name_path)) (refusal : Refusal) → answers.Done ≢ answer
            → MovingParts answer given (wants.Disk (stages.Removing number refusal))
        unmoved answer given refusal undone =
            let none = undone_made disk (asks.Rename path name_path) (change_of_rename (tree_of disk.state) path name_path) (told_rename (tree_of disk.state) path name_path)
            (λ d. undone (d ∙ sym given)) in
            cleared t (moving_call answer given) number refusal (no_rename t (moving_call answer given) none)
            (no_file t (moving_call answer given) none) s.made

        moved : (given : answers.Done ≡ answer_now disk (asks.Rename path name_path)) → HasWritten first whole handle begun w id
        moved given =
            let ask : DiskAsk = asks.Rename path name_path in
            let m = done_made disk ask (change_of_rename (tree_of disk.state) path name_path) (told_rename (tree_of disk.state) path name_path) given in
            let done : change_of_rename before path name_path ≡ Ok m.change = subst (λ t. change_of_rename t path name_path ≡ Ok m.change) (before_is t) m.is in
            let c = rename_change before path m.change name_path done in
            let h = s.holds in
            let there : before ≡ tree_at first whole (length events) = sym (tree_at-before first events e (length events) (omega arith)) in
            record {
              size = has_done.history.0;
              name = has_done.history.1;
              past = events;
              last = e;
              is = refl;
              number = number;
              made = h.made;
              later = h.later;
              makes = asked_at_kept first events e handle h.made _ _ h.makes;
              source = c.0;
              target = c.1;
              renames = subst (λ t. change_of_rename t path name_path ≡ Ok (Rename c.0 c.1)) there (done ∙ ap Ok c.4);
              change = is.change ∙ (m.made ∙ ap Some c.4);
              only = s.unnamed;
              reads = λ alone free.
                  let has = h.holds (alone_before first events e handle path (h.made + 1) (length events) (omega arith) alone) in
                  let f = moves_file before (is_tree t (moving_call answers.Done given)) path has.0 (header_of w.kind w.size ++ w.bytes) 0 has.1 name_path m.change done in
                  let both : Rename has.0 f.0 ≡ Rename c.0 c.1 = sym f.2 ∙ c.4 in
                  let target : f.0 ≡ c.1 = cc both in
                  let free_here : crosses before name_path f.0 ≡ false = subst (λ t. crosses t name_path f.0 ≡ false) (sym there)
                  (subst (λ p. crosses (tree_at first whole (length events)) name_path p ≡ false) (sym target) free) in
                  let reads = moved_reads before (is_tree t (moving_call answers.Done given)) path has.0 (header_of w.kind w.size ++ w.bytes) 0 has.1 name_path f.0 (done ∙ ap Ok f.2) free_here in
                  subst (λ t. read_of t name_path ≡ Ok (header_of w.kind w.size ++ w.bytes, 0)) (sym (now_changed t (moving_call answers.Done given) m.change m.made))
                  (subst (λ d. read_of (changed before d) name_path ≡ Ok (header_of w.kind w.size ++ w.bytes, 0)) (sym f.2) reads);
            }

        pub moving : (answer : DiskAnswer) (given : answer ≡ answer_now disk (asks.Rename path name_path)) → MovingParts answer given (next_write w.size 0 (stages.Moving number id) answer)
        moving answers.Done given = moved given
        moving (answers.Meta meta) given = unmoved (answers.Meta meta) given (refusals.Persist id) (λ d. cc d)
        moving (answers.Dir dir) given = unmoved (answers.Dir dir) given (refusals.Persist id) (λ d. cc d)
        moving (answers.Entry entry) given = unmoved (answers.Entry entry) given (refusals.Persist id) (λ d. cc d)
        moving answers.End given = unmoved answers.End given (refusals.Persist id) (λ d. cc d)
        moving (answers.File bytes time) given = unmoved (answers.File bytes time) given (refusals.Persist id) (λ d. cc d)
        moving (answers.Refused error) given = unmoved (answers.Refused error) given (refused_by (refusals.Persist id) (answers.Refused error)) (λ d. cc d)

    -- the removal
    pub removing : (refusal : Refusal) (s : Stands t (stages.Removing number refusal)) (is : Makes t (asks.Remove path)) (answer : DiskAnswer) (given : answer ≡ answer_now disk (asks.Remove path))
        → PartsTo t (call_at t (stages.Removing number refusal) s (asks.Remove path) is answer given) (wants.Done (Err refusal))
    removing refusal s is answer given =
        let call : CallOfTurn t = call_at t (stages.Removing number refusal) s (asks.Remove path) is answer given in
        let never : (P : Option Change → Type 0) → P None → ((s' : Path) → P (Some (Remove s'))) → P e.entry.change =
        λ P none some.
        subst P (sym is.change)
        (change_by-all disk (asks.Remove path) (change_of_remove (tree_of disk.state) path) (told_remove (tree_of disk.state) path) P none
        (λ change told. let c = remove_change (tree_of disk.state) path change told in subst (λ d. P (Some d)) (sym c.2) (some c.0))) in (
          never (λ c. ¬ (IsRename c)) (λ r. r) (λ s' r. r),
          λ at same. made_before_removal (head_to_write w) (GetsNameOf (job_to_write w)) (CountsOf (job_to_write w)) number refusal s.past at
              (IsAlong-done (head_to_write w) (w.hash) w.known w.bytes (Stage (stages.Removing number refusal)) s.past s.along).history same
              (ChangedNothing whole handle begun),
          (
            Some number,
            made_same t call (Some number) (never (λ c. ¬ (IsNewFile c)) (λ r. r) (λ s' r. r)) s.made,
            inr (number, length events, refl, length_push events e, (answer, own t call)),
          ),
        )
