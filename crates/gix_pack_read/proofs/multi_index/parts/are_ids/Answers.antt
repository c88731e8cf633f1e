use Rattle.std.proofs.Common.{ap, sym, ◌∙◌}
use Rattle.gix_pack_read.specs.MultiIndexLayout.{parts_at}
use Rattle.gix_pack_read.specs.declared.multi_index.layout.Layout.{Layout}
use Rattle.gix_pack_read.proofs.PartLemmas.{ids_sound}
use Rattle.gix_pack_read.proofs.multi_index.parts.are_ids.Goals as goal

pub returns-then-is_rising : goal.returns-then-is_rising
returns-then-is_rising c = record {
  agree = ids_sound c.args.kind (parts_at c.args.bytes.now c.args.spans) c.layout_of-n.result.count c.span_in.result.now c.span_in-ids.result.now c.counts_agree.result
      (ap (λ (layout : Layout). layout.count) c.layout_of-n.ensures.layout)
      c.span_in-ids.ensures.part c.span_in.ensures.part (sym c.is_rising.ensures.rising ∙ c.if-is_rising.true) c.counts_agree.ensures.agree;
}
