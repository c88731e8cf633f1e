-- Whole pieces, and one more.
use Rattle.std.specs.Prelude.{◌≡◌, ℕ, ◌+◌, ◌*◌, ◌≤◌, List, [], ◌∷◌, ◌++◌, length, All, refl}
use Rattle.std.specs.List.{concat}
use Rattle.std.proofs.Common.{sym, ap, ◌∙◌, subst, arith, append-nil}
use Rattle.std.proofs.lemmas.List.{length-append}
use Rattle.std.proofs.lemmas.List.Elements.{All-head, All-tail, All-push}
use Rattle.std.proofs.lemmas.List.Folds.{concat-append}
use Rattle.gix_odb_loose.specs.WriteJobs.{pieces_of}
use Rattle.gix_odb_loose.specs.WritePieces.{piece_size, IsInPieces, IsLast, IsCut}

abbrev pub AreWhole : List (List ℕ) → Type 0
AreWhole pieces = All (λ (piece : List ℕ). length piece ≡ piece_size) pieces

whole_length : (pieces : List (List ℕ)) → AreWhole pieces → length (concat pieces) ≡ piece_size * length pieces
whole_length [] whole = refl
whole_length (piece ∷ pieces) whole =
    let first = All-head (λ (p : List ℕ). length p ≡ piece_size) piece pieces whole in
    let rest = whole_length pieces (All-tail (λ (p : List ℕ). length p ≡ piece_size) piece pieces whole) in
    let long = length-append piece (concat pieces) in
    omega (arith, first, rest, long)

-- if the total length is one of whole pieces, all pieces are whole
pub cut_whole : (pieces : List (List ℕ)) → IsCut pieces → IsInPieces (length (concat pieces)) → AreWhole pieces
cut_whole pieces cut in_pieces = subst AreWhole (sym cut.is) (by_last cut.last cut.is cut.is_last)
  where
    by_last : (last : List (List ℕ)) → pieces ≡ cut.whole ++ last → IsLast last → AreWhole (cut.whole ++ last)
    by_last [] is h = subst AreWhole (sym (append-nil cut.whole)) cut.are_whole
    by_last (piece ∷ []) is h =
        let count = in_pieces.0 in
        let long : length (concat pieces) ≡ length (concat cut.whole) + length (concat (piece ∷ [])) = ap (λ (ps : List (List ℕ)). length (concat ps)) is
        ∙ ap length (concat-append cut.whole (piece ∷ [])) ∙ length-append (concat cut.whole) (concat (piece ∷ [])) in
        let one : length (concat (piece ∷ [])) ≡ length piece = ap length (append-nil piece) in
        let wholes = whole_length cut.whole cut.are_whole in
        All-push (λ (p : List ℕ). length p ≡ piece_size) cut.whole piece cut.are_whole (omega (arith, in_pieces.1, long, one, wholes, h.0, h.1))
    by_last (piece ∷ other ∷ more) is h = absurd h

-- a piece after whole ones is the last
pub cut_more : (pieces : List (List ℕ)) (piece : List ℕ) → AreWhole pieces → 1 ≤ length piece → length piece ≤ piece_size → IsCut (pieces ++ piece ∷ [])
cut_more pieces piece whole some few = record { whole = pieces; last = piece ∷ []; is = refl; are_whole = whole; is_last = (some, few) }

-- how many pieces there are
pub cut_count : (pieces : List (List ℕ)) → IsCut pieces → length pieces ≡ pieces_of (length (concat pieces))
cut_count pieces cut = by_last cut.last cut.is cut.is_last
  where
    wholes : length (concat cut.whole) ≡ piece_size * length cut.whole
    wholes = whole_length cut.whole cut.are_whole

    by_last : (last : List (List ℕ)) → pieces ≡ cut.whole ++ last → IsLast last → length pieces ≡ pieces_of (length (concat pieces))
    by_last [] is h =
        let count : length pieces ≡ length cut.whole = ap length (is ∙ append-nil cut.whole) in
        let long : length (concat pieces) ≡ length (concat cut.whole) = ap (λ (ps : List (List ℕ)). length (concat ps)) (is ∙ append-nil cut.whole) in
        omega (arith, count, long, wholes)
    by_last (piece ∷ []) is h =
        let count : length pieces ≡ length cut.whole + 1 = ap length is ∙ length-append cut.whole (piece ∷ []) in
        let long : length (concat pieces) ≡ length (concat cut.whole) + length (concat (piece ∷ [])) = ap (λ (ps : List (List ℕ)). length (concat ps)) is
        ∙ ap length (concat-append cut.whole (piece ∷ [])) ∙ length-append (concat cut.whole) (concat (piece ∷ [])) in
        let one : length (concat (piece ∷ [])) ≡ length piece = ap length (append-nil piece) in
        omega (arith, count, long, one, wholes, h.0, h.1)
    by_last (piece ∷ other ∷ more) is h = absurd h
