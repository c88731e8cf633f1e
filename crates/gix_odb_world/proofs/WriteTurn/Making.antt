-- The turn in which a write makes its temporary file, or tries the next name.
use Rattle.std.proofs.Common.{◌≡◌, ◌≢◌, ℕ, ◌+◌, Bool, true, false, nat_lt, [], Some, None, Err, refl, sym, ap, ◌∙◌, subst, inl}
use Rattle.std.specs.Prelude.{if◌then◌else◌}
use Rattle.odb_base.specs.Path.{Path}
use Rattle.odb_disk.specs.Ask.{answer_now}
use Rattle.odb_disk.specs.MemDisk.{Volume, next_fails}
use Rattle.odb_disk.specs.Tree.{tree_of}
use Rattle.odb_disk.specs.Tree.Write.{change_of_new_file}
use Rattle.odb_disk.specs.declared.ask.DiskAnswer.{DiskAnswer}
use Rattle.odb_disk.specs.declared.ask.DiskAnswer.TheVariants as answers
use Rattle.odb_disk.specs.declared.ask.DiskAsk.TheVariants as asks
use Rattle.odb_disk.specs.declared.change.Change.TheVariants.{PutFile}
use Rattle.odb_disk.specs.declared.disk_error.DiskError.TheVariants as disk_errors
use Rattle.odb_disk.proofs.WayWriteLaws.{new_file_change}
use Rattle.gix_odb_loose.specs.WriteOrder.{next_write, temp_names, temp_path}
use Rattle.gix_odb_loose.specs.declared.write.Message.TheVariants as messages
use Rattle.gix_odb_loose.specs.declared.write_order.Refusal.{Refusal}
use Rattle.gix_odb_loose.specs.declared.write_order.Refusal.TheVariants as refusals
use Rattle.gix_odb_loose.specs.declared.write_order.WriteAsk.{WriteAsk}
use Rattle.gix_odb_loose.specs.declared.write_order.WriteAsk.TheVariants as wants
use Rattle.gix_odb_loose.specs.declared.write_order.WriteStage.TheVariants as stages
use Rattle.gix_odb_history.specs.Run.{change_by, disk_after}
use Rattle.gix_odb_history.specs.Writing.{IsRename}
use Rattle.gix_odb_history.proofs.WriteAsk.{done_made, told_new_file, undone_made}
use Rattle.gix_odb_world.proofs.WriteKept.{each_turn_push}
use Rattle.gix_odb_world.proofs.WriteTurn.Common.{CallOfTurn, Makes, Stands, TurnOfWrite, call_at, made_same, new_holds, no_file, no_rename}
use Rattle.gix_odb_world.proofs.WriteTurn.Comes.{PartsTo}

module _ (t : TurnOfWrite) where
  open t use {first, events, e, handle, begun, w}

  abbrev disk : Volume
  disk = disk_after first events

  module _ (number : ℕ) where
    abbrev path : Path
    path = temp_path w.objects number

    -- the file is made, or the next name is tried
    module _ (s : Stands t (stages.Making number)) (is : Makes t (asks.NewFile path)) where
      abbrev call : (answer : DiskAnswer) → answer ≡ answer_now disk (asks.NewFile path) → CallOfTurn t
      call answer given = call_at t (stages.Making number) s (asks.NewFile path) is answer given

      abbrev MakingParts : (answer : DiskAnswer) → answer ≡ answer_now disk (asks.NewFile path) → WriteAsk → Type 0
      MakingParts answer given wanted = PartsTo t (call answer given) wanted

      untaken : answers.Done ≢ answer_now disk (asks.NewFile path) → change_by disk (asks.NewFile path) ≡ None
      untaken undone = undone_made disk (asks.NewFile path) (change_of_new_file (tree_of disk.state) path) (told_new_file (tree_of disk.state) path) undone

      unmade : (answer : DiskAnswer) (given : answer ≡ answer_now disk (asks.NewFile path)) (refusal : Refusal) → answers.Done ≢ answer → MakingParts answer given (wants.Done (Err refusal))
      unmade answer given refusal undone =
          let none = untaken (λ d. undone (d ∙ sym given)) in (
            no_rename t (call answer given) none,
            λ at same. each_turn_push events e handle begun _ s.untouched (λ turn. is.change ∙ none),
            (None, made_same t (call answer given) None (no_file t (call answer given) none) s.made, inl refl),
          )

      next_name : (given : answers.Refused disk_errors.Exists ≡ answer_now disk (asks.NewFile path)) (more : Bool)
          → MakingParts (answers.Refused disk_errors.Exists) given
          (if more then wants.Disk (stages.Making (number + 1)) else wants.Done (Err (refusals.Io messages.CreateTempFile)))
      next_name given true =
          let none = untaken (λ d. cc (d, given)) in (
            no_rename t (call _ given) none,
            made_same t (call _ given) None (no_file t (call _ given) none) s.made,
            tt,
            each_turn_push events e handle begun _ s.untouched (λ turn. is.change ∙ none),
          )
      next_name given false = unmade (answers.Refused disk_errors.Exists) given (refusals.Io messages.CreateTempFile) (λ d. cc d)

      pub making : (answer : DiskAnswer) (given : answer ≡ answer_now disk (asks.NewFile path)) → MakingParts answer given (next_write w.size 0 (stages.Making number) answer)
      making answers.Done given =
          let m = done_made disk (asks.NewFile path) (change_of_new_file (tree_of disk.state) path) (told_new_file (tree_of disk.state) path) given in
          let c = new_file_change (tree_of disk.state) path m.change m.is in
          let change_is : e.entry.change ≡ Some (PutFile c.0 0 []) = is.change ∙ (m.made ∙ ap Some c.2) in (
            λ renames. subst IsRename change_is renames,
            each_turn_push events e handle begun _ (λ place x later there turn makes. absurd (s.made place x later there turn makes)) (λ turn makes. (next_fails disk, is.did.1)),
            new_holds t (call answers.Done given) path refl refl m,
            tt,
          )
      making (answers.Refused disk_errors.Exists) given = next_name given (nat_lt (number + 1) temp_names)
      making (answers.Meta meta) given = unmade (answers.Meta meta) given (refusals.Io messages.CreateTempFile) (λ d. cc d)
      making (answers.Dir dir) given = unmade (answers.Dir dir) given (refusals.Io messages.CreateTempFile) (λ d. cc d)
      making (answers.Entry entry) given = unmade (answers.Entry entry) given (refusals.Io messages.CreateTempFile) (λ d. cc d)
      making answers.End given = unmade answers.End given (refusals.Io messages.CreateTempFile) (λ d. cc d)
      making (answers.File bytes time) given = unmade (answers.File bytes time) given (refusals.Io messages.CreateTempFile) (λ d. cc d)
      making (answers.Refused disk_errors.Absent) given = unmade (answers.Refused disk_errors.Absent) given (refusals.Io messages.CreateTempFile) (λ d. cc d)
      making (answers.Refused disk_errors.WrongKind) given = unmade (answers.Refused disk_errors.WrongKind) given (refusals.Io messages.CreateTempFile) (λ d. cc d)
      making (answers.Refused disk_errors.LinkLoop) given = unmade (answers.Refused disk_errors.LinkLoop) given (refusals.Io messages.CreateTempFile) (λ d. cc d)
      making (answers.Refused disk_errors.NotEmpty) given = unmade (answers.Refused disk_errors.NotEmpty) given (refusals.Io messages.CreateTempFile) (λ d. cc d)
      making (answers.Refused disk_errors.Failed) given = unmade (answers.Refused disk_errors.Failed) given (refusals.Io messages.CreateTempFile) (λ d. cc d)
      making (answers.Refused disk_errors.NoMemory) given = unmade (answers.Refused disk_errors.NoMemory) given refusals.NoMemory (λ d. cc d)
