-- The counts are put into an empty list.
use Rattle.std.proofs.Common.{List, ℕ, ◌++◌, map, ap, ◌∙◌, codes}
use Rattle.gix_pack_write.specs.MultiIndexChunks.{chunk_seen, one_chunk}
use Rattle.gix_pack_write.specs.PlacedRow.{id_of}
use Rattle.gix_pack_read.specs.Rows.{counts_of}
use Rattle.gix_pack_write.specs.WrittenTables.{number_bytes}
use Rattle.gix_pack_write.proofs.multi_index.writing.push_counts.Goals as goal

pub returns-clause-chunk : goal.returns-clause-chunk
returns-clause-chunk c =
    let behind = number_bytes (counts_of (map id_of c.args.rows.now)) in
    c.in_ok-push_chunk.ensures.chunk
    ∙ ap (λ (bytes : List ℕ). map chunk_seen c.args.chunks.now.items ++ one_chunk (codes "OIDF") bytes)
    (c.in_ok-put_counts.ensures.put ∙ ap (λ (bytes : List ℕ). bytes ++ behind) c.new-counts.ensures.empty)
