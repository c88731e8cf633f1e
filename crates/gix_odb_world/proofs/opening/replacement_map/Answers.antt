use Rattle.std.proofs.Common.{sym, ◌∙◌, subst}
use Rattle.std.specs.BTreeMap.{IsFromIterResult}
use Rattle.gix_hash.specs.ObjectId.{id_cmp}
use Rattle.gix_odb_world.proofs.DistinctLemmas.{distinct_if, distinct_unless}
use Rattle.gix_odb_world.proofs.opening.replacement_map.Goals as goal

-- no id is replaced twice
pub returns-then-len : goal.returns-then-len
returns-then-len c =
    let made : IsFromIterResult id_cmp c.args.pairs.now c.in_ok-map.map = subst (λ pairs. IsFromIterResult id_cmp pairs c.in_ok-map.map) c.as_slice.ensures.value c.in_ok-map.ensures.collected in
    record { made = (distinct_if c.args.pairs.now c.in_ok-map.map made (sym c.len.ensures.len ∙ (c.if-len.true ∙ c.len-2.ensures.len)), made) }

-- one is
pub returns-else-len : goal.returns-else-len
returns-else-len c =
    let made : IsFromIterResult id_cmp c.args.pairs.now c.in_ok-map.map = subst (λ pairs. IsFromIterResult id_cmp pairs c.in_ok-map.map) c.as_slice.ensures.value c.in_ok-map.ensures.collected in
    record { made = distinct_unless c.args.pairs.now c.in_ok-map.map made (λ same. c.if-len.false (c.len.ensures.len ∙ (same ∙ sym c.len-2.ensures.len))) }
