-- Lemmas on why a file is refused.
use Rattle.std.proofs.Common.{◌≡◌, ℕ, ◌≤◌, false, nat_lt, List, length, sym, ◌∙◌, ap, subst, Option, Some, Result, if◌then◌else◌, arith}
use Rattle.std.specs.Result.{IfOk}
use Rattle.std.proofs.lemmas.Bool.Decides.{nat_tests}
use Rattle.gix_hash.specs.declared.kind.Kind.{Kind}
use Rattle.probe_index.specs.declared.asked.Asked.{Asked}
use Rattle.probe_index.specs.declared.probe.Format.TheVariants.{Index}
use Rattle.probe_index.specs.declared.probe.Refusal.{Refusal}
use Rattle.probe_index.specs.declared.probe.Refusal.TheVariants.{TooLong}
use Rattle.probe_index.specs.declared.status.Status.{Status}
use Rattle.probe_index.specs.Probe.{WritesIn, WritesOf, file_limit, format_of, index_refusal, refusal_in, refusal_of}

refusal_of-index : (kind : Kind) (bytes : List ℕ) → length bytes ≤ file_limit → format_of bytes ≡ Some Index → refusal_of kind bytes ≡ index_refusal kind bytes
refusal_of-index kind bytes short format =
    let test : nat_lt file_limit (length bytes) ≡ false = grind (arith, nat_tests, short) in
    ap (λ b. if b then Some TooLong else refusal_in kind bytes (format_of bytes)) test ∙ ap (refusal_in kind bytes) format

-- what is written for a file that begins like an index
pub answered-index : {T E : Type 0} (r : Result T E) (written : T → List ℕ) (status : T → Status) (asked : Asked) (bytes parsed : List ℕ) → parsed ≡ bytes
    → length bytes ≤ file_limit → format_of bytes ≡ Some Index → IfOk r (λ a. WritesIn asked parsed (written a) (status a) (index_refusal asked.kind parsed))
    → IfOk r (λ a. WritesOf asked bytes (written a) (status a))
answered-index r written status asked bytes parsed same short format writes =
    let P : List ℕ → Type 0 = λ b. IfOk r (λ a. WritesIn asked b (written a) (status a) (index_refusal asked.kind b)) in
    let Q : Option Refusal → Type 0 = λ why. IfOk r (λ a. WritesIn asked bytes (written a) (status a) why) in
    subst Q (sym (refusal_of-index asked.kind bytes short format)) (subst P same writes)
