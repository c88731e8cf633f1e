-- The data that a write has appended after an answer, when they are all in memory: a prefix of them, in whole pieces.
use Rattle.std.specs.Prelude.{◌≡◌, ℕ, ◌+◌, ◌-◌, ◌^◌, ◌<◌, ◌≤◌, min, List, [], ◌++◌, length, take, drop, Ok, Err, refl}
use Rattle.std.proofs.Common.{inr, sym, ap, ◌∙◌, arith, append_assoc, take-append-drop}
use Rattle.std.proofs.lemmas.Grind.{common_steps}
use Rattle.std.proofs.lemmas.List.{length-append, length-take-le, take_at}
use Rattle.odb_disk.specs.declared.ask.DiskAnswer.{DiskAnswer}
use Rattle.gix_hash.specs.declared.object_id.ObjectId.{ObjectId}
use Rattle.gix_odb_loose.specs.WriteDone.{GetsNameOf, CountsOf, data_at, HasNext}
use Rattle.gix_odb_loose.specs.WriteHistory.{data_after}
use Rattle.gix_odb_loose.specs.WriteJobs.{piece_at, piece_of}
use Rattle.gix_odb_loose.specs.WriteOrder.{next_write, made_by, headed_by, filled_by, foldered_by, moved_by, written_in}
use Rattle.gix_odb_loose.specs.WritePieces.{IsInPieces, room_behind}
use Rattle.gix_odb_loose.specs.declared.write_at_hand.WriteJob.{WriteJob}
use Rattle.gix_odb_loose.specs.declared.write_order.WriteAsk.{WriteAsk}
use Rattle.gix_odb_loose.specs.declared.write_order.WriteAsk.TheVariants as wants
use Rattle.gix_odb_loose.specs.declared.write_order.WriteStage.{WriteStage}
use Rattle.gix_odb_loose.specs.declared.write_order.WriteStage.TheVariants as stages
use Rattle.gix_odb_loose.proofs.AsksLeftLemmas as left
use Rattle.gix_odb_loose.proofs.RoomLemmas.{has_room, room_within, room_few, whole_piece}
use Rattle.gix_odb_loose.proofs.WriteHistoryLaws.{CountsTooMany, IsNextPiece}
use Rattle.gix_odb_loose.proofs.WriteOrderLemmas.{by_made, by_headed, by_filled, by_foldered, by_moved}

-- the data before a piece, and the piece, are the data after it
pub data_grown : (bytes : List ℕ) (written room : ℕ) → written ≤ length bytes
    → take written bytes ++ take room (drop written bytes) ≡ take (written + length (take room (drop written bytes))) bytes
data_grown bytes written room within = sym (ap (take (written + length piece)) whole ∙ take_at (take written bytes ++ piece) (drop room (drop written bytes)) (written + length piece) long)
  where
    piece : List ℕ
    piece = take room (drop written bytes)

    whole : bytes ≡ (take written bytes ++ piece) ++ drop room (drop written bytes)
    whole =
        sym (take-append-drop written bytes) ∙ ap (λ (xs : List ℕ). take written bytes ++ xs) (sym (take-append-drop room (drop written bytes)))
        ∙ sym (append_assoc (take written bytes) piece (drop room (drop written bytes)))

    long : length (take written bytes ++ piece) ≡ written + length piece
    long = length-append (take written bytes) piece ∙ ap (λ (n : ℕ). n + length piece) (length-take-le written bytes within)

module _ (job : WriteJob) where
  -- ---- where data are asked for

  abbrev pub Fed : List ℕ → (number written : ℕ) → Type 0
  Fed appended number written = (appended ≡ take written job.bytes) × (written ≤ job.head.size) × (written ≤ length job.bytes) × (written < length job.bytes → IsInPieces written)

  -- ---- what an answer leads to

  abbrev FedAt : List ℕ → WriteStage → Type 0
  FedAt appended (stages.Filling number written) = ⊥
  FedAt appended (stages.Foldering number id) = appended ≡ job.bytes
  FedAt appended (stages.Moving number id) = appended ≡ job.bytes
  FedAt appended stage = Unit {0}

  abbrev pub FedTo : List ℕ → WriteAsk → Type 0
  FedTo appended (wants.Disk stage) = FedAt appended stage
  FedTo appended (wants.Data number written) = Fed appended number written
  FedTo appended (wants.Done (Ok id)) = appended ≡ job.bytes
  FedTo appended (wants.Done (Err refusal)) = Unit {0}

  module _ (number : ℕ) where
    fed_made : (answer : DiskAnswer) → FedTo [] (made_by number answer)
    fed_made = by_made FedTo [] number tt (λ more. tt) (λ refusal. tt)

    fed_headed : (answer : DiskAnswer) → FedTo [] (headed_by number answer)
    fed_headed = by_headed FedTo [] number (λ held refusal. tt) (refl, omega arith, omega arith, λ more. (0, refl))

    module _ (written : ℕ) (next : HasNext job.head.size job.bytes (stages.Filling number written)) where
      abbrev piece : List ℕ
      piece = piece_at job.head.size job.bytes written

      piece_is : length piece ≡ min (room_behind job.head.size written) (length job.bytes - written)
      piece_is = left.piece_is job written

      fed_filled : (answer : DiskAnswer) → FedTo (data_after (stages.Filling number written) piece answer (take written job.bytes)) (filled_by number written job.head.size (length piece) answer)
      fed_filled =
          by_filled FedTo (take written job.bytes) number (λ held refusal. tt) job.head.size written (length piece) piece (λ e.
          let within : written + length piece ≤ job.head.size = grind (arith, common_steps, e) in (
            data_grown job.bytes written (room_behind job.head.size written) (omega (arith, next.1)),
            within,
            omega (arith, piece_is, next.1),
            λ more.
                let full = whole_piece job.head.size written (length piece) (omega (arith, piece_is, more)) within in
                (next.2.0 + 1, omega (arith, full, next.2.1)),
          ))

    module _ (id : ObjectId) where
      fed_foldered : (answer : DiskAnswer) → FedTo job.bytes (foldered_by number id answer)
      fed_foldered = by_foldered FedTo job.bytes number (λ held refusal. tt) id refl

      fed_moved : (answer : DiskAnswer) → FedTo job.bytes (moved_by number id answer)
      fed_moved = by_moved FedTo job.bytes number (λ held refusal. tt) id refl

  abbrev piece_for : WriteStage → List ℕ
  piece_for stage = piece_of job.head.size job.bytes (written_in stage)

  pub fed_next : (stage : WriteStage) (answer : DiskAnswer) → HasNext job.head.size job.bytes stage
      → FedTo (data_after stage (piece_for stage) answer (data_at job.bytes stage)) (next_write job.head.size (length (piece_for stage)) stage answer)
  fed_next (stages.Making number) answer next = fed_made number answer
  fed_next (stages.Heading number) answer next = fed_headed number answer
  fed_next (stages.Filling number written) answer next = fed_filled number written next answer
  fed_next (stages.Foldering number id) answer next = fed_foldered number id answer
  fed_next (stages.Moving number id) answer next = fed_moved number id answer
  fed_next (stages.Removing number refusal) answer next = tt

  -- ---- the piece that is appended

  -- one byte more than the size is counted
  pub counts : (stage : WriteStage) → HasNext job.head.size job.bytes stage → CountsTooMany job.head (GetsNameOf job) ⊥ (CountsOf job) stage (piece_for stage)
  counts (stages.Making number) next = tt
  counts (stages.Heading number) next = tt
  counts (stages.Filling number written) next =
      λ more.
      let room = room_within job.head.size written next.0 in
      let exact : written + length (piece number written next) ≡ job.head.size + 1 = omega (arith, more, room, piece_is number written next) in
      (exact, inr (omega (arith, exact, piece_is number written next, next.1), ap (λ (n : ℕ). min n (2 ^ 64 - 1)) exact))
  counts (stages.Foldering number id) next = tt
  counts (stages.Moving number id) next = tt
  counts (stages.Removing number refusal) next = tt

  -- whole pieces come before it, and it isn't empty
  pub next_piece : (stage : WriteStage) → HasNext job.head.size job.bytes stage → IsNextPiece job.head (GetsNameOf job) ⊥ (CountsOf job) stage (piece_for stage)
  next_piece (stages.Making number) next = tt
  next_piece (stages.Heading number) next = tt
  next_piece (stages.Filling number written) next =
      let some = has_room job.head.size written in
      let few = room_few job.head.size written in
      (next.2, omega (arith, some, next.1, piece_is number written next), omega (arith, few, piece_is number written next))
  next_piece (stages.Foldering number id) next = tt
  next_piece (stages.Moving number id) next = tt
  next_piece (stages.Removing number refusal) next = tt
