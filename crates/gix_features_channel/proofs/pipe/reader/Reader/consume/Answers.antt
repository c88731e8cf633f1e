-- The buffered bytes are those that were used and the rest.
use Rattle.std.proofs.Common.{◌≡◌, ◌∷◌, ◌++◌, [], List, ℕ, length, map, take, drop, min, refl, sym, ap, ◌∙◌}
use Rattle.std.proofs.lemmas.List.{drop_min}
use Rattle.gix_features_channel.specs.declared.pipe.ends.Piece.{Piece}
use Rattle.gix_features_channel.specs.declared.pipe.ends.Piece.TheVariants.{Written}
use Rattle.gix_features_channel.specs.Pipe.{Byte, items_of, bytes_of}
use Rattle.gix_features_channel.proofs.PipeLemmas.{Reads-given, items_of-split}
use Rattle.gix_features_channel.proofs.pipe.reader.Reader.consume.Goals as goal

pub returns-in-Written-clause-given : goal.returns-in-Written-clause-given
returns-in-Written-clause-given c =
    let bytes = c.in-Written.bytes in
    let used : c.min-used.result ≡ min c.args.count (length bytes) = c.min-used.ensures ∙ ap (min c.args.count) c.len.ensures.value in
    let rest : c.advance.new.self ≡ drop c.args.count bytes = c.advance.ensures ∙ ap (λ n. drop n bytes) used ∙ drop_min c.args.count bytes in
    Reads-given c.args.self.now _ _ refl refl
    (ap (λ (p : Piece). items_of (p ∷ [])) c.in-Written.is ∙ items_of-split c.args.count bytes
    ∙ ap (λ (l : List ℕ). map Byte (take c.args.count bytes) ++ items_of (Written l ∷ [])) (sym rest)
    ∙ ap (λ (p : Piece). map Byte (take c.args.count (bytes_of p)) ++ items_of (Written c.advance.new.self ∷ [])) (sym c.in-Written.is))
