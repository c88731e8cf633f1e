-- The tables are put one after another.
use Rattle.std.proofs.Common.{◌≡◌, List, ℕ, ◌++◌, ap, ◌∙◌}
use Rattle.gix_hash.specs.ObjectId.{bytes_of}
use Rattle.gix_pack_read.specs.Index.{signature}
use Rattle.gix_pack_write.proofs.WrittenIndexLemmas.Written.{front_steps}
use Rattle.gix_pack_write.proofs.index.put_front.Goals as goal

pub returns-clause-front : goal.returns-clause-front
returns-clause-front c =
    let begun : c.extend_from_slice.new.self ≡ signature = c.in_ok-extend_from_slice.ensures.ok ∙ ap (λ (l : List ℕ). l ++ signature) c.requires.empty in
    front_steps c.args.rows.now (bytes_of c.args.pack.now) c.as_bytes-hash.result.now _ _ _ _ _ _ _ begun c.in_ok-put_counts.ensures.put c.in_ok-put_ids.ensures.put
    c.in_ok-put_zeros.ensures.put c.in_ok-put_narrow.ensures.put c.in_ok-put_wide.ensures.put c.in_ok-extend_from_slice-2.ensures.ok c.as_bytes-hash.ensures.bytes
