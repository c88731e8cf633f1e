-- The header is written in three parts.
use Rattle.std.proofs.Common.{◌++◌, ◌∷◌, ℕ, ap, ◌∙◌, codes}
use Rattle.std.specs.Int.{w32, to_be_bytes}
use Rattle.gix_pack_write.proofs.WrittenMultiIndexLemmas.Loops.{front_put}
use Rattle.gix_pack_write.proofs.multi_index.writing.put_front.Goals as goal

pub returns : goal.returns
returns c = record {
  put = front_put c.args.file.now c.extend_from_slice.new.self c.extend_from_slice-2.new.self c.put_number.new.list c.number_of.result c.args.chunks c.args.packs
      c.in_ok-extend_from_slice.ensures.ok c.in_ok-extend_from_slice-2.ensures.ok c.in_ok-put_number.ensures.put
      ∙ ap (λ (n : ℕ). c.args.file.now ++ (codes "MIDX" ++ 1 ∷ n ∷ c.args.chunks ∷ 0 ∷ to_be_bytes w32 c.args.packs)) c.number_of.ensures.number;
}
