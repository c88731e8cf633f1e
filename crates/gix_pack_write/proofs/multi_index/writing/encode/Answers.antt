-- The rows that are written are the table of the objects' offsets, and the bytes are the multi-index that is defined.
use Rattle.std.proofs.Common.{◌≡◌, ℕ, length, map, refl, sym, ap, subst, ◌∙◌}
use Rattle.std.proofs.lemmas.List.{length-map}
use Rattle.gix_pack_write.specs.MultiIndexChunks.{chunk_seen, front_with}
use Rattle.gix_pack_write.specs.PlacedPackRow.{multi_placed}
use Rattle.gix_pack_write.specs.WrittenMultiIndex.{named_seen, IsMultiIndexOf, ReadsMultiIndex}
use Rattle.gix_pack_write.proofs.WrittenMultiIndexLemmas.{is_multi_index_of, multi_written}
use Rattle.gix_pack_write.proofs.WrittenMultiIndexLemmas.Loops.{small_seen}
use Rattle.gix_pack_write.proofs.ReadMultiIndexLemmas.{multi_encoded}
use Rattle.gix_pack_write.proofs.multi_index.writing.encode.Goals as goal

pub returns-clause-written : goal.returns-clause-written
returns-clause-written c =
    let packs = map named_seen c.args.packs.now in
    let chunks = map chunk_seen c.in_ok-chunks.chunks.items in
    let many : length c.args.packs.now ≡ length packs = sym (length-map c.args.packs.now named_seen) in
    let front : c.put_file.new.file ≡ front_with c.args.kind (length packs) chunks =
    c.in_ok-put_file.ensures.front ∙ ap (λ (n : ℕ). front_with c.args.kind n (map chunk_seen c.as_slice.result.now)) many
    ∙ ap (λ cs. front_with c.args.kind (length packs) (map chunk_seen cs)) c.as_slice.ensures.value in
    c.in_ok-put_hash.ensures.put ∙ multi_written c.args.kind packs (multi_placed c.args.kind packs) chunks c.put_file.new.file refl c.in_ok-chunks.ensures.chunks front

pub returns-clause-table : goal.returns-clause-table
returns-clause-table c = subst (IsMultiIndexOf c.args.kind (map named_seen c.args.packs.now)) (sym (returns-clause-written c)) (is_multi_index_of c.args.kind (map named_seen c.args.packs.now))

pub returns-clause-read_back : goal.returns-clause-read_back
returns-clause-read_back c =
    let packs = map named_seen c.args.packs.now in
    let chunks = map chunk_seen c.in_ok-chunks.chunks.items in
    let many : length c.args.packs.now ≡ length packs = sym (length-map c.args.packs.now named_seen) in
    let front : c.put_file.new.file ≡ front_with c.args.kind (length packs) chunks =
    c.in_ok-put_file.ensures.front ∙ ap (λ (n : ℕ). front_with c.args.kind n (map chunk_seen c.as_slice.result.now)) many
    ∙ ap (λ cs. front_with c.args.kind (length packs) (map chunk_seen cs)) c.as_slice.ensures.value in
    subst (ReadsMultiIndex c.args.kind packs) (sym c.in_ok-put_hash.ensures.put)
    (multi_encoded c.args.kind packs (multi_placed c.args.kind packs) chunks c.put_file.new.file refl c.in_ok-chunks.ensures.chunks front c.in_ok-put_hash.ensures.id c.requires.can
    c.in_ok-chunks.ensures.placed (small_seen c.in_ok-chunks.chunks.items c.as_slice.result.now c.as_slice.ensures.value c.in_ok-put_file.ensures.small))
