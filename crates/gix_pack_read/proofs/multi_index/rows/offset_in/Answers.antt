use Rattle.std.proofs.Common.{ℕ, ◌-◌, ◌*◌, ◌^◌, List, ap, ◌∙◌}
use Rattle.gix_pack_read.specs.Bytes.{long_number_at}
use Rattle.gix_pack_read.specs.MultiIndexLayout.{span_of}
use Rattle.gix_pack_read.proofs.PackRowLemmas.{wide_offset}
use Rattle.gix_pack_read.proofs.multi_index.rows.offset_in.Goals as goal

pub returns-in-Some : goal.returns-in-Some
returns-in-Some c = record {
  offset = let named = rw c.in-Some.is at c.requires.named in
      rw c.in-Some.is
      (c.long_at.ensures.number ∙ ap (λ (wides : List ℕ). long_number_at ((c.args.narrow - 2 ^ 31) * 8) wides) c.span_in.ensures.part
      ∙ wide_offset (span_of c.args.bytes.now c.in-Some.span) c.args.narrow c.if-narrow-ge-HIGH_BIT.true named);
}
