use Rattle.std.proofs.Common.{◌≡◌, List, ℕ, IfOk, take, length, ap, sym, subst, ◌∙◌}
use Rattle.gix_hash.specs.ObjectId.{is_lower_text, IsHexOf}
use Rattle.gix_hash.proofs.PrefixLemmas.Zeros.{digits_read, front_read, kind_read, length-text_of, lower_both, text_of}
use Rattle.gix_hash.proofs.prefix.padded.Goals as goal

text_is : (c : goal.After-from_hex) → take c.len_in_hex.result c.with_zeros.result ≡ text_of c.args.kind c.args.digits.now
text_is c = rw (c.len_in_hex.ensures.digits, c.with_zeros.ensures.text) (front_read c.args.kind c.args.digits.now c.requires.fits)

pub returns-clause-kind : goal.returns-clause-kind
returns-clause-kind c =
    let size = ap length (text_is c) ∙ length-text_of c.args.kind c.args.digits.now c.requires.fits in
    kind_read c.args.kind _ size c.from_hex.result c.from_hex.ensures.found c.from_hex.ensures.id

pub returns-clause-text : goal.returns-clause-text
returns-clause-text c = subst (λ (text : List ℕ). IfOk c.from_hex.result (λ id. IsHexOf text id)) (text_is c) c.from_hex.ensures.found

pub returns-clause-digits : goal.returns-clause-digits
returns-clause-digits c =
    let size = ap length (text_is c) ∙ length-text_of c.args.kind c.args.digits.now c.requires.fits in
    let same = ap is_lower_text (text_is c) ∙ lower_both c.args.kind c.args.digits.now in
    let read = digits_read c.args.kind _ size c.from_hex.result c.from_hex.ensures.found c.from_hex.ensures.id c.from_hex.ensures.length c.from_hex.ensures.invalid in
    (λ ok. sym same ∙ read.0 ok, λ low. read.1 (same ∙ low))
