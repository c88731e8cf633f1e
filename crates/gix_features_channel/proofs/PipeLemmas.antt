-- Lemmas on what is read from a pipe.
use Rattle.std.proofs.Common.{◌≡◌, ℕ, suc, true, false, List, [], ◌∷◌, ◌++◌, length, map, take, drop, ◌+◌, ◌-◌, ◌≤◌, min, arith, refl, sym, ap, ◌∙◌, subst, append_assoc, true≢false, Option, Some, None, IfNone}
use Rattle.std.proofs.lemmas.List.{map-append, append-nil, take-append-drop, take-append-le, length-take, length-drop, take_all, drop_all, drop-append-le, drop-drop}
use borrow.Rule.Slice.PartMut.{put_mid, post_of}
use Rattle.crossbeam_channel.specs.Ends.{receives_on}
use Rattle.gix_features_channel.specs.declared.pipe.ends.PipeError.{PipeError}
use Rattle.gix_features_channel.specs.declared.pipe.ends.Piece.{Piece}
use Rattle.gix_features_channel.specs.declared.pipe.ends.Piece.TheVariants.{Written, Failed}
use Rattle.gix_features_channel.specs.declared.pipe.reader.Reader.{Reader}
use Rattle.gix_features_channel.specs.Pipe.{Item, Byte, Failure, items_of, taken, Reads, HasEnded, IsNoted, gives_something, bytes_of}

pub items_of-append : (xs ys : List Piece) → items_of (xs ++ ys) ≡ items_of xs ++ items_of ys
items_of-append [] ys = refl
items_of-append (Written bytes ∷ xs) ys = ap (λ l. map Byte bytes ++ l) (items_of-append xs ys) ∙ sym (append_assoc (map Byte bytes) (items_of xs) (items_of ys))
items_of-append (Failed error ∷ xs) ys = ap (λ l. Failure error ∷ l) (items_of-append xs ys)

items_of-cons : (x : Piece) (ys : List Piece) → items_of (x ∷ ys) ≡ items_of (x ∷ []) ++ items_of ys
items_of-cons x ys = items_of-append (x ∷ []) ys

-- nothing is given and nothing happens
pub Reads-none : (reader : Reader) → Reads reader reader []
Reads-none reader = record { pieces = []; took = sym (append-nil (taken reader)); in_order = refl; channel = refl }

-- one read after another
pub Reads-then : (a b c : Reader) (xs ys : List Item) → Reads a b xs → Reads b c ys → Reads a c (xs ++ ys)
Reads-then a b c xs ys first second = record {
  pieces = first.pieces ++ second.pieces;
  took = second.took ∙ ap (λ l. l ++ second.pieces) first.took ∙ append_assoc (taken a) first.pieces second.pieces;
  in_order =
      items_of-append (a.next ∷ first.pieces) second.pieces ∙ ap (λ l. l ++ items_of second.pieces) first.in_order
      ∙ append_assoc xs (items_of (b.next ∷ [])) (items_of second.pieces) ∙ ap (λ l. xs ++ l) (sym (items_of-cons b.next second.pieces) ∙ second.in_order)
      ∙ sym (append_assoc xs ys (items_of (c.next ∷ [])));
  channel = second.channel ∙ first.channel;
}

-- what has nothing to give has no items
pub nothing_at_hand : (piece : Piece) → gives_something piece ≡ false → items_of (piece ∷ []) ≡ []
nothing_at_hand (Written []) none = refl
nothing_at_hand (Written (byte ∷ bytes)) none = absurd (true≢false none)
nothing_at_hand (Failed error) none = absurd (true≢false none)

pub nothing_written : (piece : Piece) → gives_something piece ≡ false → piece ≡ Written []
nothing_written (Written []) none = refl
nothing_written (Written (byte ∷ bytes)) none = absurd (true≢false none)
nothing_written (Failed error) none = absurd (true≢false none)

-- a piece that has something to give and is no error has bytes
pub has_bytes : (piece : Piece) → gives_something piece ≡ true → ((error : PipeError) → piece ≡ Failed error → ⊥) → bytes_of piece ≡ [] → ⊥
has_bytes (Written []) something written none = true≢false (sym something)
has_bytes (Written (byte ∷ bytes)) something written none = cc none
has_bytes (Failed error) something written none = written error refl

-- a piece is taken when nothing was buffered
pub Reads-refill : (before after : Reader) → gives_something before.next ≡ false → taken after ≡ taken before ++ after.next ∷ []
    → receives_on after.receiver ≡ receives_on before.receiver → Reads before after []
Reads-refill before after none took channel = record {
  pieces = after.next ∷ [];
  took = took;
  in_order = items_of-cons before.next (after.next ∷ []) ∙ ap (λ l. l ++ items_of (after.next ∷ [])) (nothing_at_hand before.next none);
  channel = channel;
}

-- nothing is taken, and what was buffered is given in part
pub Reads-given : (before after : Reader) (given : List Item) → taken after ≡ taken before → receives_on after.receiver ≡ receives_on before.receiver
    → items_of (before.next ∷ []) ≡ given ++ items_of (after.next ∷ []) → Reads before after given
Reads-given before after given same channel in_order = record {
  pieces = [];
  took = same ∙ sym (append-nil (taken before));
  in_order = in_order;
  channel = channel;
}

pub items_of-split : (count : ℕ) (bytes : List ℕ) → items_of (Written bytes ∷ []) ≡ map Byte (take count bytes) ++ items_of (Written (drop count bytes) ∷ [])
items_of-split count bytes = append-nil (map Byte bytes) ∙ ap (map Byte) (sym (take-append-drop count bytes)) ∙ map-append Byte (take count bytes) (drop count bytes)
    ∙ ap (λ l. map Byte (take count bytes) ++ l) (sym (append-nil (map Byte (drop count bytes))))

-- a read, and then nothing
pub Reads-idle : (a b c : Reader) (xs : List Item) → Reads a b xs → Reads b c [] → Reads a c xs
Reads-idle a b c xs first second = subst (Reads a c) (append-nil xs) (Reads-then a b c xs [] first second)

take-further : (xs ys : List ℕ) (a b : ℕ) → length xs ≡ a → take (a + b) (xs ++ ys) ≡ xs ++ take b ys
take-further [] ys a b e = ap (λ n. take n ys) (let h : a + b ≡ b = omega (arith, e) in h)
take-further (x ∷ xs) ys a b e =
    let h : a + b ≡ suc (length xs + b) = omega (arith, e) in
    ap (λ n. take n (x ∷ (xs ++ ys))) h ∙ ap (λ l. x ∷ l) (take-further xs ys (length xs) b refl)

take-within : (xs ys : List ℕ) (b : ℕ) → b ≤ length xs → take b (xs ++ ys) ≡ take b xs
take-within xs ys b e = take-append-le b xs ys e

take_into : (filled room given : ℕ) (out part : List ℕ) → filled ≤ length out → given ≤ length part
    → take (filled + given) (put_mid filled room out part) ≡ take filled out ++ take given part
take_into filled room given out part within few =
    let len : length (take filled out) ≡ filled = length-take filled out ∙ (let h : min filled (length out) ≡ filled = omega arith in h) in
    take-further (take filled out) (part ++ post_of filled room out) filled given len
    ∙ ap (λ l. take filled out ++ l) (take-within part (post_of filled room out) given few)

-- the front of a buffer, and what was given into the part after it
pub Reads-into : (a b c : Reader) (filled room given : ℕ) (out part : List ℕ) → filled ≤ length out → given ≤ length part
    → Reads a b (map Byte (take filled out)) → Reads b c (map Byte (take given part))
    → Reads a c (map Byte (take (filled + given) (put_mid filled room out part)))
Reads-into a b c filled room given out part within few first second = subst (λ (l : List ℕ). Reads a c (map Byte l))
    (sym (take_into filled room given out part within few))
    (subst (Reads a c) (sym (map-append Byte (take filled out) (take given part))) (Reads-then a b c (map Byte (take filled out)) (map Byte (take given part)) first second))

-- a reader without the note, and one that ended
pub noted_none : (reader : Reader) → reader.has_ended ≡ false → IsNoted reader
noted_none reader none told = absurd (true≢false (sym told ∙ none))

pub noted_ended : (reader : Reader) → HasEnded reader → IsNoted reader
noted_ended reader ended told = ended

-- what is known of an answer that is None
pub none_known : {X P : Type 0} (answer : Option X) → ((x : X) → answer ≡ Some x → ⊥) → IfNone answer P → P
none_known None never known = known
none_known (Some x) never known = absurd (never x refl)

drop-further : (xs ys : List ℕ) (a b : ℕ) → length xs ≡ a → drop (a + b) (xs ++ ys) ≡ drop b ys
drop-further [] ys a b e = ap (λ n. drop n ys) (let h : a + b ≡ b = omega (arith, e) in h)
drop-further (x ∷ xs) ys a b e =
    let h : a + b ≡ suc (length xs + b) = omega (arith, e) in
    ap (λ n. drop n (x ∷ (xs ++ ys))) h ∙ drop-further xs ys (length xs) b refl

-- the rest of a buffer, after what was given into the part after its front
pub rest_into : (filled room given : ℕ) (out part begun : List ℕ) → filled ≤ length out → room ≡ length out - filled → given ≤ length part
    → drop given part ≡ drop given (take room (drop filled out)) → drop filled out ≡ drop filled begun
    → drop (filled + given) (put_mid filled room out part) ≡ drop (filled + given) begun
rest_into filled room given out part begun within is few rest before =
    let len : length (take filled out) ≡ filled = length-take filled out ∙ (let h : min filled (length out) ≡ filled = omega arith in h) in
    let whole : take room (drop filled out) ≡ drop filled out = take_all room (drop filled out) (omega (arith, length-drop filled out, is)) in
    let none : post_of filled room out ≡ [] = drop_all room (drop filled out) (omega (arith, length-drop filled out, is)) in
    drop-further (take filled out) (part ++ post_of filled room out) filled given len ∙ drop-append-le given part (post_of filled room out) few
    ∙ ap (λ l. drop given part ++ l) none ∙ append-nil (drop given part) ∙ rest ∙ ap (drop given) whole ∙ ap (drop given) before ∙ drop-drop given filled begun

-- what is known of an end, by what was taken
pub taken_prefix : (before after : Reader) (given : List Item) → taken before ≡ [] → items_of (before.next ∷ []) ≡ [] → Reads before after given
    → items_of (taken after) ≡ given ++ items_of (after.next ∷ [])
taken_prefix before after given none empty reads =
    ap items_of (reads.took ∙ ap (λ l. l ++ reads.pieces) none) ∙ ap (λ l. l ++ items_of reads.pieces) (sym empty)
    ∙ sym (items_of-cons before.next reads.pieces) ∙ reads.in_order
