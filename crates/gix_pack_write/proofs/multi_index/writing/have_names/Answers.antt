-- The present name is one, and is below the next.
use Rattle.std.proofs.Common.{List, map, sym, ap, ◌∙◌, arith}
use Rattle.gix_pack_read.specs.MultiIndex.Held.{is_index_name}
use Rattle.gix_pack_write.specs.MultiIndexChunks.{below_first}
use Rattle.gix_pack_write.specs.WrittenMultiIndex.{named_seen, names_of}
use Rattle.gix_pack_write.specs.declared.multi_index.named_pack.NamedPack.{NamedPack}
use Rattle.gix_pack_write.proofs.WrittenMultiIndexLemmas.Loops.{names_good}
use Rattle.gix_pack_write.proofs.multi_index.writing.have_names.Goals as goal

pub loop-i-preserved : goal.loop-i-preserved
loop-i-preserved c =
    let pack = c.index-packs-i.result in
    c.loop-i.invariant
    ∙ names_good c.args.packs.now c.loop-i.i pack (omega arith) c.index-packs-i.is
    (ap is_index_name (sym (c.as_bytes.ensures.value ∙ c.as_str.ensures.value)) ∙ sym c.if-not-is_name.ensures.name)
    (ap (λ (rest : List NamedPack). below_first c.index-packs-i.result.name (names_of (map named_seen rest))) (sym c.split_at.ensures.back) ∙ sym c.if-not-is_below.ensures.below)
