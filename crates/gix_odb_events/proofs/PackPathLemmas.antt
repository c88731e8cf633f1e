-- The stem of an index's name.
use Rattle.std.proofs.Common.{◌≡◌, ℕ, ◌-◌, List, length, take, codes, None, eqb, true, false, refl, sym, ap, subst, ◌∙◌, arith}
use Rattle.std.specs.List.{ends_with}
use Rattle.std.specs.Str.{IsCharBoundary}
use Rattle.std.specs.Str.Pattern.{FindsTextSuffix, StripsSuffix}
use Rattle.std.proofs.lemmas.Str.Pattern.{ends_text}
use Rattle.gix_odb_events.specs.PackPath.{stem_of}

pub stem_of-stripped : (name stem : List ℕ) → StripsSuffix (FindsTextSuffix (codes ".idx")) name stem → stem ≡ stem_of name
stem_of-stripped name stem h =
    let four : h.0 ≡ 4 = h.1.0 in
    let ends : ends_with eqb name (codes ".idx") ≡ true = sym
    (ends_text true (codes ".idx") name (h.0, h.1, omega (arith, h.3), subst (λ n. IsCharBoundary name (length name - n)) (sym four) h.1.2)) in
    rw ends (h.2 ∙ ap (λ n. take (length name - n) name) four)

pub stem_of-whole : (name : List ℕ) → FindsTextSuffix (codes ".idx") name None → name ≡ stem_of name
stem_of-whole name h =
    let ends : ends_with eqb name (codes ".idx") ≡ false = sym (ends_text false (codes ".idx") name h) in
    rw ends refl
