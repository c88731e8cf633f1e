-- The change that a turn of a running write makes is one of its five.
use Rattle.std.proofs.Common.{◌≡◌, ◌⊎◌, ℕ, ◌<◌, ◌≤◌, ◌^◌, List, length, drop, Option, Some, None, refl, sym, subst, arith, inl, inr}
use Rattle.std.proofs.lemmas.List.{length-take}
use Rattle.odb_base.specs.Path.{Path}
use Rattle.odb_disk.specs.MemDisk.{Volume}
use Rattle.odb_disk.specs.Tree.{Tree, tree_of}
use Rattle.odb_disk.specs.Tree.Write.{change_of_append, change_of_make_dir, change_of_new_file, change_of_remove, change_of_rename}
use Rattle.odb_disk.specs.declared.ask.DiskAnswer.TheVariants as answers
use Rattle.odb_disk.specs.declared.ask.DiskAsk.TheVariants as asks
use Rattle.odb_disk.specs.declared.change.Change.{Change}
use Rattle.odb_disk.proofs.TreeLemmas.Write.{movable_at, removable_at, replaceable_at, vacant_at}
use Rattle.odb_disk.proofs.WayWriteLaws.{append_change, make_dir_change, new_file_change, remove_change, rename_change}
use Rattle.gix_hash.specs.declared.object_id.ObjectId.{ObjectId}
use Rattle.gix_object.specs.Loose.{header_of}
use Rattle.gix_object.proofs.LooseLaws.{length-header_of-fits}
use Rattle.gix_odb_loose.specs.Exchanges.{exchanged}
use Rattle.gix_odb_loose.specs.LooseFile.{loose_path}
use Rattle.gix_odb_loose.specs.WriteDone.{GetsNameOf, CountsOf, data_at}
use Rattle.gix_odb_loose.specs.WriteJobs.{piece_of}
use Rattle.gix_odb_loose.specs.WriteOrder.{number_in, number_made, prefix_path, temp_names, temp_path}
use Rattle.gix_odb_loose.specs.WritePieces.{piece_size, room_behind}
use Rattle.gix_odb_loose.specs.declared.call.LooseCall.{LooseCall}
use Rattle.gix_odb_loose.specs.declared.write_order.WriteStage.{WriteStage}
use Rattle.gix_odb_loose.specs.declared.write_order.WriteStage.TheVariants as stages
use Rattle.gix_odb_loose.proofs.RoomLemmas.{room_few}
use Rattle.gix_odb_loose.proofs.WriteMadeLaws.{history_below, history_makes}
use Rattle.gix_odb_history.specs.Event.{Event}
use Rattle.gix_odb_world.specs.Status.{MakeCall, Running}
use Rattle.gix_odb_world.specs.Changes.{ChangesInTask, ChangesInWrite, IsOneOfFive}
use Rattle.gix_odb_history.specs.Run.{change_by, disk_after}
use Rattle.gix_odb_world.specs.Running.Write.{IsWriting, StandsAt, job_to_write}
use Rattle.gix_odb_history.specs.Writing.{DoneSince, ToWrite, call_to_write, head_to_write, name_to_write, to_write}
use Rattle.gix_odb_history.proofs.WriteAsk.{change_by-all, told_append, told_make_dir, told_new_file, told_remove, told_rename}
use Rattle.gix_odb_world.proofs.WriteTurn.{ask_at_stage, done_at}

-- ---- its change

module _ (disk : Volume) (objects : Path) (number : ℕ) (id : ObjectId) where
  abbrev tree : Tree
  tree = tree_of disk.state

  abbrev temporary : Path
  temporary = temp_path objects number

  abbrev One : Change → Type 0
  One change = IsOneOfFive tree objects number id change

  abbrev Five : Option Change → Type 0
  Five None = Unit {0}
  Five (Some change) = One change

  five_made : Five (change_by disk (asks.NewFile temporary))
  five_made =
      change_by-all disk (asks.NewFile temporary) (change_of_new_file tree temporary) (told_new_file tree temporary) Five tt
      (λ change told. let c = new_file_change tree temporary change told in subst One (sym c.2) (refl, refl, (vacant_at tree temporary c.0 c.1).is))

  five_appended : (more : List ℕ) → length more ≤ piece_size → Five (change_by disk (asks.Append temporary more))
  five_appended more few =
      change_by-all disk (asks.Append temporary more) (change_of_append tree temporary more) (told_append tree temporary more) Five tt
      (λ change told. let c = append_change tree temporary change more told in subst One (sym c.2) (few, c.1))

  five_foldered : Five (change_by disk (asks.MakeDir (prefix_path objects id)))
  five_foldered =
      change_by-all disk (asks.MakeDir (prefix_path objects id)) (change_of_make_dir tree (prefix_path objects id)) (told_make_dir tree (prefix_path objects id)) Five tt
      (λ change told. let c = make_dir_change tree (prefix_path objects id) change told in subst One (sym c.2) (vacant_at tree (prefix_path objects id) c.0 c.1).is)

  five_moved : Five (change_by disk (asks.Rename temporary (loose_path objects id)))
  five_moved =
      change_by-all disk (asks.Rename temporary (loose_path objects id)) (change_of_rename tree temporary (loose_path objects id)) (told_rename tree temporary (loose_path objects id)) Five tt
      (λ change told.
      let c = rename_change tree temporary change (loose_path objects id) told in
      subst One (sym c.4) ((movable_at tree temporary c.0 c.2).is, (replaceable_at tree (loose_path objects id) c.1 c.3).is))

  five_removed : Five (change_by disk (asks.Remove temporary))
  five_removed =
      change_by-all disk (asks.Remove temporary) (change_of_remove tree temporary) (told_remove tree temporary) Five tt
      (λ change told. let c = remove_change tree temporary change told in subst One (sym c.2) (removable_at tree temporary c.0 c.1).is)

module _ (first : Volume) (events : List Event) (handle begun turns : ℕ) (disk : Volume) where
  abbrev FiveAt : ToWrite → WriteStage → Option Change → Type 0
  FiveAt w stage change = Five disk w.objects (number_in stage) (name_to_write w) change

  -- each stage of a write makes one of its five changes, or none
  five_at : (w : ToWrite) (stage : WriteStage) → w.size < 2 ^ 64 → StandsAt first events handle begun turns w stage → FiveAt w stage (change_by disk (ask_at_stage w stage))
  five_at w (stages.Making number) fits s = five_made disk w.objects number (name_to_write w)
  five_at w (stages.Heading number) fits s =
      let few = length-header_of-fits w.kind w.size fits in five_appended disk w.objects number (name_to_write w) (header_of w.kind w.size) (omega (arith, few))
  five_at w (stages.Filling number written) fits s =
      let few = length-take (room_behind w.size written) (drop written w.bytes) in
      let small = room_few w.size written in
      five_appended disk w.objects number (name_to_write w) (piece_of w.size w.bytes (Some written)) (omega (arith, few, small))
  five_at w (stages.Foldering number id) fits s =
      subst (λ (own : ObjectId). Five disk w.objects number own (change_by disk (asks.MakeDir (prefix_path w.objects id))))
      (done_at first events handle begun turns w (stages.Foldering number id) s).history.1 (five_foldered disk w.objects number id)
  five_at w (stages.Moving number id) fits s =
      subst (λ (own : ObjectId). Five disk w.objects number own (change_by disk (asks.Rename (temp_path w.objects number) (loose_path w.objects id))))
      (done_at first events handle begun turns w (stages.Moving number id) s).history.1 (five_moved disk w.objects number id)
  five_at w (stages.Removing number refusal) fits s = five_removed disk w.objects number (name_to_write w)

-- the file whose number a stage has is the one that it asks to make, or was made before
module _ (first : Volume) (events : List Event) (handle begun turns : ℕ) (w : ToWrite) where
  abbrev IsOwn : WriteStage → Type 0
  IsOwn stage = (ask_at_stage w stage ≡ asks.NewFile (temp_path w.objects (number_in stage))) ⊎ DoneSince first events handle begun (asks.NewFile (temp_path w.objects (number_in stage)))

  pub below : (stage : WriteStage) → StandsAt first events handle begun turns w stage → number_in stage < temp_names
  below stage s = history_below (head_to_write w) (GetsNameOf (job_to_write w)) ⊥ (CountsOf (job_to_write w)) stage (data_at w.bytes stage) s.past
      (done_at first events handle begun turns w stage s).history

  pub made_before : (stage : WriteStage) (number : ℕ) → number_made stage ≡ Some number → StandsAt first events handle begun turns w stage
      → DoneSince first events handle begun (asks.NewFile (temp_path w.objects number))
  made_before stage number made s =
      s.asked (exchanged (asks.NewFile (temp_path w.objects number)) answers.Done)
      (history_makes (head_to_write w) (GetsNameOf (job_to_write w)) number ⊥ (CountsOf (job_to_write w)) stage (data_at w.bytes stage) s.past made
      (done_at first events handle begun turns w stage s).history)

  is_own : (stage : WriteStage) → StandsAt first events handle begun turns w stage → IsOwn stage
  is_own (stages.Making number) s = inl refl
  is_own (stages.Heading number) s = inr (made_before (stages.Heading number) number refl s)
  is_own (stages.Filling number written) s = inr (made_before (stages.Filling number written) number refl s)
  is_own (stages.Foldering number id) s = inr (made_before (stages.Foldering number id) number refl s)
  is_own (stages.Moving number id) s = inr (made_before (stages.Moving number id) number refl s)
  is_own (stages.Removing number refusal) s = inr (made_before (stages.Removing number refusal) number refl s)

module _ (first : Volume) (events : List Event) (handle : ℕ) (running : Running) (call : LooseCall) (writes : IsWriting first events handle running call) where
  abbrev w : ToWrite
  w = writes.write

  abbrev stage : WriteStage
  stage = writes.stage

  abbrev now : Volume
  now = disk_after first events

  by_change : (change : Option Change) → FiveAt first events handle running.begun writes.own now w stage change
      → ChangesInTask first events handle running.store running.begun (MakeCall (call_to_write w)) (ask_at_stage w stage) change
  by_change None five = tt
  by_change (Some change) five =
      subst (λ hash. ChangesInWrite first events handle running.begun (to_write running.store.parts.objects hash w.kind w.size w.bytes w.known) (ask_at_stage w stage) change) writes.hashed
      (subst (λ objects. ChangesInWrite first events handle running.begun (to_write objects w.hash w.kind w.size w.bytes w.known) (ask_at_stage w stage) change) writes.into
      (record {
        number = number_in stage;
        below = below first events handle running.begun writes.own w stage writes.stands;
        own = is_own first events handle running.begun writes.own w stage writes.stands;
        one = five;
      }))

  -- as does a running write
  pub five_written : ChangesInTask first events handle running.store running.begun (MakeCall (call_to_write w)) (ask_at_stage w stage) (change_by now (ask_at_stage w stage))
  five_written = by_change (change_by now (ask_at_stage w stage)) (five_at first events handle running.begun writes.own now w stage writes.fits writes.stands)
