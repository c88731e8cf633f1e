-- How many exchanges a write that went well has had.
use Rattle.std.specs.Prelude.{◌≡◌, ℕ, zero, suc, ◌+◌, List, [], ◌∷◌, length, map, refl}
use Rattle.std.proofs.Common.{ap, ◌∙◌, arith}
use Rattle.std.proofs.lemmas.List.{length-append, length-map}
use Rattle.odb_disk.specs.declared.ask.DiskAsk.TheVariants as asks
use Rattle.odb_disk.specs.declared.ask.DiskAnswer.TheVariants as answers
use Rattle.odb_disk.specs.declared.disk_error.DiskError.TheVariants as disk_errors
use Rattle.gix_object.specs.Loose.{header_of}
use Rattle.gix_odb_loose.specs.Exchanges.{Exchange, exchanged}
use Rattle.gix_odb_loose.specs.WriteHistory.WentWell.{tried, made, headed, filled, IsFilled}
use Rattle.gix_odb_loose.specs.WriteJobs.{pieces_of}
use Rattle.gix_odb_loose.specs.WriteOrder.{temp_path}
use Rattle.gix_odb_loose.specs.declared.write_order.WriteHead.{WriteHead}
use Rattle.gix_odb_loose.proofs.WriteHistoryLaws.Pieces.{cut_count}

module _ (head : WriteHead) where
  pub tried_length : (number : ℕ) → length (tried head number) ≡ number
  unfolding tried
  tried_length zero = refl
  tried_length (suc number) =
      let before = tried_length number in
      let long = length-append (tried head number) (exchanged (asks.NewFile (temp_path head.objects number)) (answers.Refused disk_errors.Exists) ∷ []) in
      omega (arith, before, long)

  pub made_length : (number : ℕ) → length (made head number) ≡ number + 1
  made_length number =
      let before = tried_length number in
      let long = length-append (tried head number) (exchanged (asks.NewFile (temp_path head.objects number)) answers.Done ∷ []) in
      omega (arith, before, long)

  headed_length : (number : ℕ) → length (headed head number) ≡ number + 2
  headed_length number =
      let before = made_length number in
      let long = length-append (made head number) (exchanged (asks.Append (temp_path head.objects number) (header_of head.kind head.size)) answers.Done ∷ []) in
      omega (arith, before, long)

  filled_length : (number : ℕ) (pieces : List (List ℕ)) → length (filled head number pieces) ≡ number + 2 + length pieces
  filled_length number pieces =
      let before = headed_length number in
      let appends : List Exchange = map (λ (piece : List ℕ). exchanged (asks.Append (temp_path head.objects number) piece) answers.Done) pieces in
      let long = length-append (headed head number) appends in
      let each = length-map pieces (λ (piece : List ℕ). exchanged (asks.Append (temp_path head.objects number) piece) answers.Done) in
      omega (arith, before, long, each)

  -- one for each piece
  pub filled_asked : (number : ℕ) (appended : List ℕ) (past : List Exchange) → IsFilled head number appended past → length past ≡ number + 2 + pieces_of (length appended)
  filled_asked number appended past f =
      ap length f.is ∙ filled_length number f.pieces ∙ ap (λ (n : ℕ). number + 2 + n) (cut_count f.pieces f.cut ∙ ap (λ (xs : List ℕ). pieces_of (length xs)) f.whole)
