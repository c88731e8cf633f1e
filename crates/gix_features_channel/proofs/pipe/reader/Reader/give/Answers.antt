-- The buffered bytes are those that are given and those that stay.
use Rattle.std.proofs.Common.{◌≡◌, ◌∷◌, ◌++◌, [], List, ℕ, length, map, take, drop, min, refl, sym, ap, ◌∙◌, arith}
use Rattle.std.proofs.lemmas.List.{take_at, length-take}
use Rattle.gix_features_channel.specs.declared.pipe.ends.Piece.{Piece}
use Rattle.gix_features_channel.specs.declared.pipe.ends.Piece.TheVariants.{Written}
use Rattle.gix_features_channel.specs.Pipe.{Byte, items_of}
use Rattle.gix_features_channel.proofs.PipeLemmas.{Reads-given, items_of-split}
use Rattle.gix_features_channel.proofs.pipe.reader.Reader.give.Goals as goal

pub returns-clause-given : goal.returns-clause-given
returns-clause-given c =
    let n = c.min-count.result in
    let bytes = c.in-Written.bytes in
    let copied = c.copy_from_slice.new.self in
    let left = drop n c.args.out.now in
    let fits : length copied ≡ n = c.copy_from_slice.ensures.len ∙ length-take n c.args.out.now ∙ (let h : min n (length c.args.out.now) ≡ n = omega (arith, c.min-count.ensures) in h) in
    let front : take n (copied ++ left) ≡ take n bytes = take_at copied left n fits ∙ c.copy_from_slice.ensures.after ∙ ap (take n) c.as_slice.ensures in
    Reads-given c.args.self.now _ _ refl refl
    (ap (λ (p : Piece). items_of (p ∷ [])) c.in-Written.is ∙ items_of-split n bytes
    ∙ ap (λ (l : List ℕ). map Byte l ++ items_of (Written (drop n bytes) ∷ [])) (sym front)
    ∙ ap (λ (l : List ℕ). map Byte (take n (copied ++ left)) ++ items_of (Written l ∷ [])) (sym c.advance.ensures))
