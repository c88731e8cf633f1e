-- Lemmas on numbers that are read from the same bytes.
use Rattle.std.proofs.Common.{◌≡◌, ℕ, ◌^◌, ◌<◌, List, Option, Some, None, IsSome, Result, Err, IfOk, refl, sym, subst, true≢false}
use Rattle.gix_features_parts.specs.Leb64Reads.{TakesBytes, IsAtEnd, Decodes}
use Rattle.gix_features_parts.specs.declared.decode.Error.{Error}
use Rattle.gix_features_parts.specs.declared.decode.Error.TheVariants.{Source, Truncated}
use Rattle.gix_features_parts.proofs.Leb64Laws.{Reading, one_answer}

-- what a call that reads a number ensures, from a source with these bytes left
pub record Reads (before now : Option (List ℕ)) (result : Result (ℕ × ℕ) Error) : Type 0 where
  pub decoded : (bytes : List ℕ) × TakesBytes before now bytes × Decodes bytes result
  pub truncated : result ≡ Err Truncated → IsAtEnd now
  pub fits : IfOk result (λ number. number.0 < 2 ^ 64)

reading : (left : List ℕ) (before now : Option (List ℕ)) (result : Result (ℕ × ℕ) Error) → before ≡ Some left → Reads before now result → Reading left result
reading left before now result told reads =
    let bytes = reads.decoded.0 in
    let taken : TakesBytes (Some left) now bytes = subst (λ b. TakesBytes b now bytes) told reads.decoded.1 in
    record {
      bytes = bytes;
      rest = taken.0;
      are_left = taken.1;
      decoded = reads.decoded.2;
      whole = λ cut. subst IsAtEnd taken.2 (reads.truncated cut);
      fits = reads.fits;
    }

-- From two sources with the same bytes left one number is read, or one reason is given: the law, for what the calls ensure.
pub one_for_both : (one now other then : Option (List ℕ)) (first second : Result (ℕ × ℕ) Error) → IsSome one → other ≡ one → Reads one now first
    → Reads other then second → (first ≡ Err Source → ⊥) → (second ≡ Err Source → ⊥) → first ≡ second
one_for_both None now other then first second told alike read again = absurd (true≢false (sym told))
one_for_both (Some left) now other then first second told alike read again =
    one_answer left first second (reading left (Some left) now first refl read) (reading left other then second alike again)
