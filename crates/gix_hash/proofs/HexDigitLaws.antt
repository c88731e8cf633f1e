-- Laws of the digits of ids, for callers.
use Rattle.std.proofs.Common.{◌≡◌, ◌≢◌, ℕ, zero, suc, ◌==◌, true, not, List, [], ◌∷◌, get_or, refl, sym, ap, ◌∙◌, eq-eqb}
use Rattle.std.specs.List.{list_all}
use Rattle.std.proofs.lemmas.Bool.{false≢true, and_parts}
use Rattle.hex.specs.Hex.{encode_with, lower_digits}
use Rattle.gix_hash.specs.ObjectId.{bytes_of, hex_of}
use Rattle.gix_hash.specs.declared.object_id.ObjectId.{ObjectId}

-- a number that isn't in a list is at none of its places, nor after its end unless it is 0
never : (c : ℕ) → 0 ≢ c → (xs : List ℕ) → list_all (λ x. not (x == c)) xs ≡ true → (k : ℕ) → get_or xs k 0 ≢ c
never c some [] all k is = some is
never c some (x ∷ xs) all zero is = false≢true (sym (ap not (eq-eqb x c is)) ∙ (and_parts (not (x == c)) _ all).0)
never c some (x ∷ xs) all (suc k) is = never c some xs (and_parts (not (x == c)) _ all).1 k is

digits_never : (c : ℕ) → 0 ≢ c → list_all (λ x. not (x == c)) lower_digits ≡ true → (bytes : List ℕ) (k : ℕ) → get_or (encode_with lower_digits bytes) k 0 ≢ c
unfolding encode_with
digits_never c some other [] k is = some is
digits_never c some other (b ∷ bytes) zero is = never c some lower_digits other _ is
digits_never c some other (b ∷ bytes) (suc zero) is = never c some lower_digits other _ is
digits_never c some other (b ∷ bytes) (suc (suc k)) is = digits_never c some other bytes k is

-- what is no digit is nowhere in the hex text of an id
pub no_digit : (id : ObjectId) (c : ℕ) → 0 ≢ c → list_all (λ x. not (x == c)) lower_digits ≡ true → (k : ℕ) → get_or (hex_of id) k 0 ≢ c
no_digit id c some other k is = digits_never c some other (bytes_of id) k is

-- `t`, the first letter of a temporary file's name, is no digit
pub no_t : (id : ObjectId) (k : ℕ) → get_or (hex_of id) k 0 ≢ 116
no_t id k is = no_digit id 116 (λ e. cc) refl k is
