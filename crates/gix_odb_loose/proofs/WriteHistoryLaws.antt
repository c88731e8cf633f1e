-- The laws of the exchanges of a write, for callers: how one more carries the write on.
pub mod Pieces
mod Answered
use Rattle.std.specs.Prelude.{◌≡◌, ℕ, ◌+◌, ◌-◌, ◌^◌, ◌<◌, ◌≤◌, ◌==◌, Bool, true, false, nat_lt, nat_le, min, List, [], ◌∷◌, ◌++◌, length, Err, if◌then◌else◌, refl}
use Rattle.std.proofs.Common.{inl, inr, sym, ap, ◌∙◌, subst, arith, append-nil}
use Rattle.std.proofs.lemmas.Grind.{common_steps}
use Rattle.std.proofs.lemmas.List.{length-append}
use Rattle.std.proofs.lemmas.List.Elements.{All-nil}
use Rattle.std.proofs.lemmas.List.Folds.{concat-append}
use Rattle.odb_base.specs.Path.{Path}
use Rattle.odb_disk.specs.declared.ask.DiskAsk.{DiskAsk}
use Rattle.odb_disk.specs.declared.ask.DiskAsk.TheVariants as asks
use Rattle.odb_disk.specs.declared.ask.DiskAnswer.{DiskAnswer}
use Rattle.odb_disk.specs.declared.ask.DiskAnswer.TheVariants as answers
use Rattle.odb_disk.specs.declared.disk_error.DiskError.TheVariants as disk_errors
use Rattle.gix_hash.specs.declared.object_id.ObjectId.{ObjectId}
use Rattle.gix_object.specs.Loose.{header_of}
use Rattle.gix_odb_loose.specs.LooseFile.{loose_path}
use Rattle.gix_odb_loose.specs.Exchanges.{Exchange, exchanged}
use Rattle.gix_odb_loose.specs.WriteOrder.{temp_names, temp_path, prefix_path, write_ask, next_write, made_by, headed_by, filled_by, foldered_by, moved_by, refused_by, grown, ended_with}
use Rattle.gix_odb_loose.specs.WriteHistory.WentWell.{tried, made, headed, filled, IsFilled, IsFoldered, IsThere}
use Rattle.gix_odb_loose.specs.WriteHistory.Refused.{IsRefused}
use Rattle.gix_odb_loose.specs.WriteHistory.{IsStopped, IsUnmade, IsHistory, IsHistoryOnward, data_after}
use Rattle.gix_odb_loose.specs.WritePieces.{piece_size, IsInPieces}
use Rattle.gix_odb_loose.specs.declared.write.Message.TheVariants as messages
use Rattle.gix_odb_loose.specs.declared.write_order.Refusal.{Refusal}
use Rattle.gix_odb_loose.specs.declared.write_order.Refusal.TheVariants as refusals
use Rattle.gix_odb_loose.specs.declared.write_order.WriteAsk.{WriteAsk}
use Rattle.gix_odb_loose.specs.declared.write_order.WriteAsk.TheVariants as wants
use Rattle.gix_odb_loose.specs.declared.write_order.WriteHead.{WriteHead}
use Rattle.gix_odb_loose.specs.declared.write_order.WriteStage.{WriteStage}
use Rattle.gix_odb_loose.specs.declared.write_order.WriteStage.TheVariants as stages
use Rattle.gix_odb_loose.proofs.WriteHistoryLaws.Pieces.{AreWhole, cut_whole, cut_more}
use Rattle.gix_odb_loose.proofs.WriteHistoryLaws.Answered.{tried-next, filled-next, refused_as, wanted, refused_any}

module _ (head : WriteHead) (Named : ObjectId → Type 0) (SourceFailed : Type 0) (Counted : ℕ → Type 0) where
  abbrev Onwards : List ℕ → WriteAsk → List Exchange → Type 0
  Onwards appended wanted past = IsHistoryOnward head Named SourceFailed Counted appended wanted past

  abbrev Stopped : ℕ → Refusal → List Exchange → Type 0
  Stopped number refusal past = IsStopped head Named SourceFailed Counted number refusal past

  module _ (past : List Exchange) (number : ℕ) where
    abbrev temporary : Path
    temporary = temp_path head.objects number

    -- the file is made, the next name is tried, or there is no name left
    module _ (below : number < temp_names) (is : past ≡ tried head number) where
      abbrev tries : DiskAnswer → List Exchange
      tries answer = past ++ exchanged (asks.NewFile temporary) answer ∷ []

      next_name : (more : Bool) → nat_lt (number + 1) temp_names ≡ more
          → Onwards [] (if more then wants.Disk (stages.Making (number + 1)) else wants.Done (Err (refusals.Io messages.CreateTempFile))) (tries (answers.Refused disk_errors.Exists))
      next_name true more =
          let few : number + 1 < temp_names = grind (arith, common_steps, more) in
          (few, refl, ap (λ (xs : List Exchange). xs ++ exchanged (asks.NewFile temporary) (answers.Refused disk_errors.Exists) ∷ []) is ∙ sym (tried-next head number))
      next_name false more =
          let last : number + 1 ≡ temp_names = grind (arith, common_steps, more, below) in
          inl (inl (ap (λ (xs : List Exchange). xs ++ exchanged (asks.NewFile temporary) (answers.Refused disk_errors.Exists) ∷ []) is ∙ sym (tried-next head number) ∙ ap (tried head) last))

      unmade : (answer : DiskAnswer) → IsRefused (asks.NewFile temporary) answer → refused_by (refusals.Io messages.CreateTempFile) answer ≡ refusals.Io messages.CreateTempFile
          → Onwards [] (wants.Done (Err (refused_by (refusals.Io messages.CreateTempFile) answer))) (tries answer)
      unmade answer refused same =
          inl (refused_as head Named (stages.Making number) [] [] past (below, refl, is) (IsUnmade head Named) (refusals.Io messages.CreateTempFile) (λ xs row. inr (number, row))
          (λ xs want. (number, want)) answer refused same)

      made_next : (answer : DiskAnswer) → Onwards [] (made_by number answer) (tries answer)
      made_next answers.Done = (refl, ap (λ (xs : List Exchange). xs ++ exchanged (asks.NewFile temporary) answers.Done ∷ []) is, below)
      made_next (answers.Meta meta) = unmade (answers.Meta meta) tt refl
      made_next (answers.Dir dir) = unmade (answers.Dir dir) tt refl
      made_next (answers.Entry entry) = unmade (answers.Entry entry) tt refl
      made_next answers.End = unmade answers.End tt refl
      made_next (answers.File bytes time) = unmade (answers.File bytes time) tt refl
      made_next (answers.Refused disk_errors.Exists) = next_name (nat_lt (number + 1) temp_names) refl
      made_next (answers.Refused disk_errors.Absent) = unmade (answers.Refused disk_errors.Absent) tt refl
      made_next (answers.Refused disk_errors.WrongKind) = unmade (answers.Refused disk_errors.WrongKind) tt refl
      made_next (answers.Refused disk_errors.LinkLoop) = unmade (answers.Refused disk_errors.LinkLoop) tt refl
      made_next (answers.Refused disk_errors.NotEmpty) = unmade (answers.Refused disk_errors.NotEmpty) tt refl
      made_next (answers.Refused disk_errors.Failed) = unmade (answers.Refused disk_errors.Failed) tt refl
      made_next (answers.Refused disk_errors.NoMemory) =
          inl (wanted head Named (stages.Making number) [] [] past (below, refl, is) (IsUnmade head Named) (refusals.Io messages.CreateTempFile) (λ xs row. inr (number, row))
          (λ xs want. (number, want)))

    -- the header is appended
    module _ (is : past ≡ made head number) (below : number < temp_names) where
      abbrev header : DiskAsk
      header = asks.Append temporary (header_of head.kind head.size)

      unheaded : (answer : DiskAnswer) → (answer ≡ answers.Done → ⊥) → Stopped number (refused_by (refusals.Io messages.WriteHeader) answer) (past ++ exchanged header answer ∷ [])
      unheaded answer undone =
          refused_any head Named (stages.Heading number) [] [] past (refl, is, below) (Stopped number) (refusals.Io messages.WriteHeader) (λ xs row. row)
          (λ xs want. (stages.Heading number, refl, want)) tt answer undone

      headed_next : (answer : DiskAnswer) → Onwards [] (headed_by number answer) (past ++ exchanged header answer ∷ [])
      headed_next answers.Done = (
        refl,
        record {
          below = below;
          pieces = [];
          whole = refl;
          cut = record { whole = []; last = []; is = refl; are_whole = All-nil (λ (piece : List ℕ). length piece ≡ piece_size); is_last = tt };
          is = ap (λ (xs : List Exchange). xs ++ exchanged header answers.Done ∷ []) is ∙ sym (append-nil (headed head number));
        },
      )
      headed_next (answers.Meta meta) = unheaded (answers.Meta meta) (λ e. cc e)
      headed_next (answers.Dir dir) = unheaded (answers.Dir dir) (λ e. cc e)
      headed_next (answers.Entry entry) = unheaded (answers.Entry entry) (λ e. cc e)
      headed_next answers.End = unheaded answers.End (λ e. cc e)
      headed_next (answers.File bytes time) = unheaded (answers.File bytes time) (λ e. cc e)
      headed_next (answers.Refused error) = unheaded (answers.Refused error) (λ e. cc e)

    -- a piece is appended
    module _ (written : ℕ) (appended piece : List ℕ) (so_far : written ≡ length appended) (is : IsFilled head number appended past)
        (too_many : head.size < written + length piece → (written + length piece ≡ head.size + 1) × Counted (grown written (length piece)))
        (in_pieces : IsInPieces written) (some : 1 ≤ length piece) (few : length piece ≤ piece_size) where
      abbrev append : DiskAsk
      append = asks.Append temporary piece

      unfilled : (answer : DiskAnswer) → (answer ≡ answers.Done → ⊥) → Stopped number (refused_by (refusals.Io messages.StreamData) answer) (past ++ exchanged append answer ∷ [])
      unfilled answer undone =
          refused_any head Named (stages.Filling number written) appended piece past (so_far, is) (Stopped number) (refusals.Io messages.StreamData) (λ xs row. inr (written, row))
          (λ xs want. (stages.Filling number written, refl, want)) tt answer undone

      all_whole : AreWhole is.pieces
      all_whole = cut_whole is.pieces is.cut (in_pieces.0, ap length is.whole ∙ sym so_far ∙ in_pieces.1)

      more_filled : IsFilled head number (appended ++ piece) (past ++ exchanged append answers.Done ∷ [])
      more_filled =
          record {
            below = is.below;
            pieces = is.pieces ++ piece ∷ [];
            whole = concat-append is.pieces (piece ∷ []) ∙ rw (is.whole, append-nil piece) refl;
            cut = cut_more is.pieces piece all_whole some few;
            is = ap (λ (xs : List Exchange). xs ++ exchanged append answers.Done ∷ []) is.is ∙ filled-next head number is.pieces piece;
          }

      fits_next : (fits : Bool) → nat_le (written + length piece) head.size ≡ fits
          → Onwards (appended ++ piece) (if fits then wants.Data number (written + length piece) else wants.Disk
          (stages.Removing number (refusals.SizeMismatch (grown written (length piece))))) (past ++ exchanged append answers.Done ∷ [])
      fits_next true e = (ap (λ (n : ℕ). n + length piece) so_far ∙ sym (length-append appended piece), more_filled)
      fits_next false e =
          let counts = too_many (grind (arith, common_steps, e)) in
          let long = length-append appended piece in
          (counts.1, (appended ++ piece, more_filled, inr (omega (arith, counts.0, so_far, long), ap (λ (n : ℕ). min n (2 ^ 64 - 1)) counts.0)))

      filled_next : (answer : DiskAnswer)
          → Onwards (data_after (stages.Filling number written) piece answer appended) (filled_by number written head.size (length piece) answer) (past ++ exchanged append answer ∷ [])
      filled_next answers.Done = fits_next (nat_le (written + length piece) head.size) refl
      filled_next (answers.Meta meta) = unfilled (answers.Meta meta) (λ e. cc e)
      filled_next (answers.Dir dir) = unfilled (answers.Dir dir) (λ e. cc e)
      filled_next (answers.Entry entry) = unfilled (answers.Entry entry) (λ e. cc e)
      filled_next answers.End = unfilled answers.End (λ e. cc e)
      filled_next (answers.File bytes time) = unfilled (answers.File bytes time) (λ e. cc e)
      filled_next (answers.Refused error) = unfilled (answers.Refused error) (λ e. cc e)

    module _ (id : ObjectId) (appended : List ℕ) (whole : length appended ≡ head.size) (named : Named id) where
      -- the directory is made
      module _ (is : IsFilled head number appended past) where
        abbrev folder : DiskAsk
        folder = asks.MakeDir (prefix_path head.objects id)

        unfoldered : (answer : DiskAnswer) → IsRefused folder answer → refused_by refusals.IoRaw answer ≡ refusals.IoRaw
            → Stopped number (refused_by refusals.IoRaw answer) (past ++ exchanged folder answer ∷ [])
        unfoldered answer refused same =
            refused_as head Named (stages.Foldering number id) appended [] past (whole, named, is) (Stopped number) refusals.IoRaw (λ xs row. (id, row))
            (λ xs want. (stages.Foldering number id, refl, want)) answer refused same

        there : (answer : DiskAnswer) → IsThere answer → IsFoldered head number id appended (past ++ exchanged folder answer ∷ [])
        there answer is_there = record { before = past; answer = answer; filled = is; there = is_there; is = refl }

        foldered_next : (answer : DiskAnswer) → Onwards appended (foldered_by number id answer) (past ++ exchanged folder answer ∷ [])
        foldered_next answers.Done = (whole, named, there answers.Done tt)
        foldered_next (answers.Meta meta) = unfoldered (answers.Meta meta) tt refl
        foldered_next (answers.Dir dir) = unfoldered (answers.Dir dir) tt refl
        foldered_next (answers.Entry entry) = unfoldered (answers.Entry entry) tt refl
        foldered_next answers.End = unfoldered answers.End tt refl
        foldered_next (answers.File bytes time) = unfoldered (answers.File bytes time) tt refl
        foldered_next (answers.Refused disk_errors.Exists) = (whole, named, there (answers.Refused disk_errors.Exists) tt)
        foldered_next (answers.Refused disk_errors.Absent) = unfoldered (answers.Refused disk_errors.Absent) tt refl
        foldered_next (answers.Refused disk_errors.WrongKind) = unfoldered (answers.Refused disk_errors.WrongKind) tt refl
        foldered_next (answers.Refused disk_errors.LinkLoop) = unfoldered (answers.Refused disk_errors.LinkLoop) tt refl
        foldered_next (answers.Refused disk_errors.NotEmpty) = unfoldered (answers.Refused disk_errors.NotEmpty) tt refl
        foldered_next (answers.Refused disk_errors.Failed) = unfoldered (answers.Refused disk_errors.Failed) tt refl
        foldered_next (answers.Refused disk_errors.NoMemory) =
            wanted head Named (stages.Foldering number id) appended [] past (whole, named, is) (Stopped number) refusals.IoRaw (λ xs row. (id, row))
            (λ xs want. (stages.Foldering number id, refl, want))

      -- the file gets its name
      module _ (is : IsFoldered head number id appended past) where
        abbrev rename : DiskAsk
        rename = asks.Rename temporary (loose_path head.objects id)

        unmoved : (answer : DiskAnswer) → (answer ≡ answers.Done → ⊥) → Stopped number (refused_by (refusals.Persist id) answer) (past ++ exchanged rename answer ∷ [])
        unmoved answer undone =
            refused_any head Named (stages.Moving number id) appended [] past (whole, named, is) (Stopped number) (refusals.Persist id) (λ xs row. row)
            (λ xs want. (stages.Moving number id, refl, want)) tt answer undone

        moved_next : (answer : DiskAnswer) → Onwards appended (moved_by number id answer) (past ++ exchanged rename answer ∷ [])
        moved_next answers.Done = (whole, named, (number, record { before = past; foldered = is; is = refl }))
        moved_next (answers.Meta meta) = unmoved (answers.Meta meta) (λ e. cc e)
        moved_next (answers.Dir dir) = unmoved (answers.Dir dir) (λ e. cc e)
        moved_next (answers.Entry entry) = unmoved (answers.Entry entry) (λ e. cc e)
        moved_next answers.End = unmoved answers.End (λ e. cc e)
        moved_next (answers.File bytes time) = unmoved (answers.File bytes time) (λ e. cc e)
        moved_next (answers.Refused error) = unmoved (answers.Refused error) (λ e. cc e)

  -- a piece that doesn't fit is one byte too long, and its count
  abbrev pub CountsTooMany : WriteStage → List ℕ → Type 0
  CountsTooMany (stages.Filling number written) piece = head.size < written + length piece → (written + length piece ≡ head.size + 1) × Counted (grown written (length piece))
  CountsTooMany stage piece = Unit {0}

  -- a piece is appended after whole ones, and isn't empty
  abbrev pub IsNextPiece : WriteStage → List ℕ → Type 0
  IsNextPiece (stages.Filling number written) piece = IsInPieces written × (1 ≤ length piece) × (length piece ≤ piece_size)
  IsNextPiece stage piece = Unit {0}

  -- A write at a stage is carried on by the answer to its ask.
  pub IsHistory-next : (stage : WriteStage) (appended piece : List ℕ) (past : List Exchange) (answer : DiskAnswer) → CountsTooMany stage piece → IsNextPiece stage piece
      → IsHistory head Named SourceFailed Counted appended stage past
      → IsHistoryOnward head Named SourceFailed Counted (data_after stage piece answer appended) (next_write head.size (length piece) stage answer)
      (past ++ exchanged (write_ask head piece stage) answer ∷ [])
  IsHistory-next (stages.Making number) appended piece past answer counts next is =
      subst (λ (xs : List ℕ). Onwards xs (made_by number answer) (past ++ exchanged (asks.NewFile (temp_path head.objects number)) answer ∷ [])) (sym is.1) (made_next past number is.0 is.2 answer)
  IsHistory-next (stages.Heading number) appended piece past answer counts next is =
      subst (λ (xs : List ℕ). Onwards xs (headed_by number answer) (past ++ exchanged (asks.Append (temp_path head.objects number) (header_of head.kind head.size)) answer ∷ [])) (sym is.0)
      (headed_next past number is.1 is.2 answer)
  IsHistory-next (stages.Filling number written) appended piece past answer counts next is = filled_next past number written appended piece is.0 is.1 counts next.0 next.1 next.2 answer
  IsHistory-next (stages.Foldering number id) appended piece past answer counts next is = foldered_next past number id appended is.0 is.1 is.2 answer
  IsHistory-next (stages.Moving number id) appended piece past answer counts next is = moved_next past number id appended is.0 is.1 is.2 answer
  IsHistory-next (stages.Removing number refusal) appended piece past answer counts next is = inr (number, past, is, (answer, refl))

  -- The end of the data carries on a write that asks for data: their length is the size, or the write is refused.
  pub IsHistory-ended : (number written : ℕ) (id : ObjectId) (appended : List ℕ) (past : List Exchange) → Named id → ((written ≡ head.size → ⊥) → (written < head.size) × Counted written)
      → IsHistory head Named SourceFailed Counted appended (stages.Filling number written) past
      → IsHistory head Named SourceFailed Counted appended (ended_with head.size id number written) past
  IsHistory-ended number written id appended past named counts is = by_length (written == head.size) refl
    where
      by_length : (same : Bool) → (written == head.size) ≡ same
          → IsHistory head Named SourceFailed Counted appended (if same then stages.Foldering number id else stages.Removing number (refusals.SizeMismatch written)) past
      by_length true e = (let same : written ≡ head.size = grind (arith, common_steps, e) in sym is.0 ∙ same, named, is.1)
      by_length false e =
          let other = counts (grind (arith, common_steps, e)) in
          (other.1, (appended, is.1, inl (omega (arith, other.0, is.0), is.0)))
