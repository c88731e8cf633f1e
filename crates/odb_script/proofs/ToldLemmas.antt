-- Lemmas on what is shown byte by byte.
use Rattle.std.proofs.Common.{◌≡◌, ℕ, ◌+◌, ◌<◌, List, [], ◌++◌, length, take, get_or, sym, ap, ◌∙◌}
use Rattle.std.specs.List.{flat_map}
use Rattle.std.proofs.lemmas.List.{append-nil, flat_map_more, take_more}
use Rattle.odb_script.specs.Told.{shown_byte, shown_bytes}

pub shown_bytes-nothing : (before : List ℕ) → before ≡ before ++ shown_bytes []
unfolding shown_bytes
shown_bytes-nothing before = sym (append-nil before)

pub shown_bytes-more : (bytes before now next : List ℕ) (i : ℕ) → i < length bytes → now ≡ before ++ shown_bytes (take i bytes) → next ≡ now ++ shown_byte (get_or bytes i 0)
    → next ≡ before ++ shown_bytes (take (i + 1) bytes)
unfolding shown_bytes
shown_bytes-more bytes before now next i within so_far added =
    added ∙ ap (λ n. n ++ shown_byte (get_or bytes i 0)) so_far
    ∙ flat_map_more shown_byte before (take i bytes) (get_or bytes i 0)
    ∙ ap (λ bs. before ++ flat_map shown_byte bs) (sym (take_more bytes i 0 within))
