-- The turns in which a write appends its header and its data.
use Rattle.std.proofs.Common.{◌≡◌, ◌≢◌, ℕ, ◌+◌, Bool, true, false, nat_le, List, [], ◌∷◌, ◌++◌, length, take, Some, sym, ap, ◌∙◌, subst, arith, append-nil, append_assoc}
use Rattle.std.specs.Prelude.{if◌then◌else◌}
use Rattle.odb_base.specs.Path.{Path}
use Rattle.odb_disk.specs.Ask.{answer_now}
use Rattle.odb_disk.specs.MemDisk.{Volume}
use Rattle.odb_disk.specs.Tree.{tree_of}
use Rattle.odb_disk.specs.Tree.Write.{change_of_append}
use Rattle.odb_disk.specs.declared.ask.DiskAnswer.{DiskAnswer}
use Rattle.odb_disk.specs.declared.ask.DiskAnswer.TheVariants as answers
use Rattle.odb_disk.specs.declared.ask.DiskAsk.TheVariants as asks
use Rattle.odb_disk.specs.declared.change.Change.TheVariants.{Append}
use Rattle.odb_disk.proofs.WayWriteLaws.{append_change}
use Rattle.gix_object.specs.Loose.{header_of}
use Rattle.gix_odb_loose.specs.WriteDone.{HasNext}
use Rattle.gix_odb_loose.specs.WriteJobs.{piece_at}
use Rattle.gix_odb_loose.specs.WriteOrder.{grown, next_write, refused_by, temp_path}
use Rattle.gix_odb_loose.specs.WritePieces.{room_behind}
use Rattle.gix_odb_loose.specs.declared.write.Message.TheVariants as messages
use Rattle.gix_odb_loose.specs.declared.write_at_hand.Onward.TheVariants.{Stage}
use Rattle.gix_odb_loose.specs.declared.write_order.Refusal.{Refusal}
use Rattle.gix_odb_loose.specs.declared.write_order.Refusal.TheVariants as refusals
use Rattle.gix_odb_loose.specs.declared.write_order.WriteAsk.{WriteAsk}
use Rattle.gix_odb_loose.specs.declared.write_order.WriteAsk.TheVariants as wants
use Rattle.gix_odb_loose.specs.declared.write_order.WriteStage.{WriteStage}
use Rattle.gix_odb_loose.specs.declared.write_order.WriteStage.TheVariants as stages
use Rattle.gix_odb_loose.proofs.WriteDoneLaws.Data.{data_grown}
use Rattle.gix_odb_history.specs.Event.{Event}
use Rattle.gix_odb_history.specs.Run.{disk_after}
use Rattle.gix_odb_world.specs.Running.Write.{HoldsFile}
use Rattle.gix_odb_history.specs.Writing.{IsNewFile, IsRename, TurnsMadeOnly}
use Rattle.gix_odb_history.proofs.WriteAsk.{Made, done_made, told_append, undone_made}
use Rattle.gix_odb_world.proofs.WriteTurn.Common.{CallOfTurn, Makes, Stands, TurnOfWrite, appended_holds, call_at, made_same, no_file, no_rename}
use Rattle.gix_odb_world.proofs.WriteTurn.Comes.{Parts, PartsTo, cleared}

module _ (t : TurnOfWrite) where
  open t use {first, events, e, handle, begun, w}

  abbrev whole : List Event
  whole = events ++ e ∷ []

  abbrev disk : Volume
  disk = disk_after first events

  module _ (number : ℕ) where
    abbrev path : Path
    path = temp_path w.objects number

    -- an append of header or data
    module _ (more : List ℕ) (is : Makes t (asks.Append path more)) where
      append_made : answers.Done ≡ answer_now disk (asks.Append path more) → Made disk (asks.Append path more) (change_of_append (tree_of disk.state) path more)
      append_made given = done_made disk (asks.Append path more) (change_of_append (tree_of disk.state) path more) (told_append (tree_of disk.state) path more) given

      append_is : (m : Made disk (asks.Append path more) (change_of_append (tree_of disk.state) path more)) → (s : Path) × (e.entry.change ≡ Some (Append s more))
      append_is m = let c = append_change (tree_of disk.state) path m.change more m.is in (c.0, is.change ∙ (m.made ∙ ap Some c.2))

      unappended : (stage : WriteStage) (s : Stands t stage) (answer : DiskAnswer) (given : answer ≡ answer_now disk (asks.Append path more)) (refusal : Refusal)
          → answers.Done ≢ answer → TurnsMadeOnly events handle begun w.objects (Some number)
          → Parts t (call_at t stage s (asks.Append path more) is answer given) (Stage (stages.Removing number refusal))
      unappended stage s answer given refusal undone made =
          let none = undone_made disk (asks.Append path more) (change_of_append (tree_of disk.state) path more) (told_append (tree_of disk.state) path more) (λ d. undone (d ∙ sym given)) in
          let call : CallOfTurn t = call_at t stage s (asks.Append path more) is answer given in
          cleared t call number refusal (no_rename t call none) (no_file t call none) made

    -- the header
    module _ (s : Stands t (stages.Heading number)) (is : Makes t (asks.Append path (header_of w.kind w.size))) where
      abbrev header : List ℕ
      header = header_of w.kind w.size

      abbrev heading_call : (answer : DiskAnswer) → answer ≡ answer_now disk (asks.Append path header) → CallOfTurn t
      heading_call answer given = call_at t (stages.Heading number) s (asks.Append path header) is answer given

      unheaded : (answer : DiskAnswer) (given : answer ≡ answer_now disk (asks.Append path header)) (refusal : Refusal) → answers.Done ≢ answer
          → Parts t (heading_call answer given) (Stage (stages.Removing number refusal))
      unheaded answer given refusal undone = unappended header is (stages.Heading number) s answer given refusal undone s.made

      pub heading : (answer : DiskAnswer) (given : answer ≡ answer_now disk (asks.Append path header))
          → PartsTo t (heading_call answer given) (next_write w.size 0 (stages.Heading number) answer)
      heading answers.Done given =
          let m = append_made header is given in
          let c = append_is header is m in (
            λ renames. subst IsRename c.1 renames,
            made_same t (heading_call answers.Done given) (Some number) (λ makes. subst IsNewFile c.1 makes) s.made,
            subst (HoldsFile first whole handle begun path) (sym (append-nil header)) (appended_holds t (heading_call answers.Done given) path [] header m s.holds),
            tt,
          )
      heading (answers.Meta meta) given = unheaded (answers.Meta meta) given (refusals.Io messages.WriteHeader) (λ d. cc d)
      heading (answers.Dir dir) given = unheaded (answers.Dir dir) given (refusals.Io messages.WriteHeader) (λ d. cc d)
      heading (answers.Entry entry) given = unheaded (answers.Entry entry) given (refusals.Io messages.WriteHeader) (λ d. cc d)
      heading answers.End given = unheaded answers.End given (refusals.Io messages.WriteHeader) (λ d. cc d)
      heading (answers.File bytes time) given = unheaded (answers.File bytes time) given (refusals.Io messages.WriteHeader) (λ d. cc d)
      heading (answers.Refused error) given = unheaded (answers.Refused error) given (refused_by (refusals.Io messages.WriteHeader) (answers.Refused error)) (λ d. cc d)

    -- a piece of the data
    module _ (written : ℕ) (s : Stands t (stages.Filling number written)) (next : HasNext w.size w.bytes (stages.Filling number written))
        (is : Makes t (asks.Append path (piece_at w.size w.bytes written))) where
      abbrev piece : List ℕ
      piece = piece_at w.size w.bytes written

      abbrev filling_call : (answer : DiskAnswer) → answer ≡ answer_now disk (asks.Append path piece) → CallOfTurn t
      filling_call answer given = call_at t (stages.Filling number written) s (asks.Append path piece) is answer given

      abbrev FillingParts : (answer : DiskAnswer) → answer ≡ answer_now disk (asks.Append path piece) → WriteAsk → Type 0
      FillingParts answer given wanted = PartsTo t (filling_call answer given) wanted

      unfilled : (answer : DiskAnswer) (given : answer ≡ answer_now disk (asks.Append path piece)) (refusal : Refusal) → answers.Done ≢ answer
          → FillingParts answer given (wants.Disk (stages.Removing number refusal))
      unfilled answer given refusal undone = unappended piece is (stages.Filling number written) s answer given refusal undone s.made

      filled : (given : answers.Done ≡ answer_now disk (asks.Append path piece)) (fits : Bool)
          → FillingParts answers.Done given (if fits then wants.Data number (written + length piece) else wants.Disk (stages.Removing number (refusals.SizeMismatch (grown written (length piece)))))
      filled given true =
          let m = append_made piece is given in
          let c = append_is piece is m in
          let grows = append_assoc (header_of w.kind w.size) (take written w.bytes) piece
          ∙ ap (λ (xs : List ℕ). header_of w.kind w.size ++ xs) (data_grown w.bytes written (room_behind w.size written) (omega (arith, next.1))) in (
            λ renames. subst IsRename c.1 renames,
            made_same t (filling_call answers.Done given) (Some number) (λ makes. subst IsNewFile c.1 makes) s.made,
            subst (HoldsFile first whole handle begun path) grows
                (appended_holds t (filling_call answers.Done given) path (header_of w.kind w.size ++ take written w.bytes) piece m s.holds),
            tt,
          )
      filled given false =
          let c = append_is piece is (append_made piece is given) in
          cleared t (filling_call answers.Done given) number (refusals.SizeMismatch (grown written (length piece)))
          (λ renames. subst IsRename c.1 renames) (λ makes. subst IsNewFile c.1 makes) s.made

      pub filling : (answer : DiskAnswer) (given : answer ≡ answer_now disk (asks.Append path piece))
          → FillingParts answer given (next_write w.size (length piece) (stages.Filling number written) answer)
      filling answers.Done given = filled given (nat_le (written + length piece) w.size)
      filling (answers.Meta meta) given = unfilled (answers.Meta meta) given (refusals.Io messages.StreamData) (λ d. cc d)
      filling (answers.Dir dir) given = unfilled (answers.Dir dir) given (refusals.Io messages.StreamData) (λ d. cc d)
      filling (answers.Entry entry) given = unfilled (answers.Entry entry) given (refusals.Io messages.StreamData) (λ d. cc d)
      filling answers.End given = unfilled answers.End given (refusals.Io messages.StreamData) (λ d. cc d)
      filling (answers.File bytes time) given = unfilled (answers.File bytes time) given (refusals.Io messages.StreamData) (λ d. cc d)
      filling (answers.Refused error) given = unfilled (answers.Refused error) given (refused_by (refusals.Io messages.StreamData) (answers.Refused error)) (λ d. cc d)
