use Rattle.std.proofs.Common.{◌≡◌, ℕ, Bool, true, false, drop, sym, ap, ◌∙◌}
use Rattle.gix_pack_read.proofs.IndexLemmas.{counts_in_file, rows_in_file, tables_fall, tables_miscount, tables_told}
use Rattle.gix_pack_read.proofs.index.has_tables.Goals as goal
use Rattle.gix_pack_read.proofs.index.has_tables.Goals.{then-is_rising, else-is_rising}

pub is_rising-requires : goal.is_rising-requires
is_rising-requires c = record {
  room = rows_in_file c.args.file.now.kind c.args.file.now.bytes c.count_of-count.result c.behind-ids.result.now c.requires.length c.count_of-count.ensures.count c.behind-ids.ensures.rest;
}

pub counts_agree-requires-clause-counts : goal.counts_agree-requires-clause-counts
counts_agree-requires-clause-counts c = counts_in_file c.args.file.now.kind c.args.file.now.bytes c.behind.result.now c.requires.length c.behind.ensures.rest

pub counts_agree-requires-clause-ids : goal.counts_agree-requires-clause-ids
counts_agree-requires-clause-ids c =
    rows_in_file c.args.file.now.kind c.args.file.now.bytes c.count_of-count.result c.behind-ids.result.now c.requires.length c.count_of-count.ensures.count c.behind-ids.ensures.rest

true_or_false : (b : Bool) → b ≡ true → b ≡ false → ⊥
true_or_false true h k = cc k
true_or_false false h k = cc h

-- the ids rise and the counts are theirs, so the offsets decide
pub returns-then-counts_agree : goal.returns-then-counts_agree
returns-then-counts_agree c = record {
  agree = elim c.if-is_rising.branch [
    | then-is_rising w ↦
        let file = c.args.file.now in
        let offsets_are = c.behind-offsets.ensures.rest ∙ ap (λ (p : ℕ). drop p file.bytes) c.offsets_place_of.ensures.place in
        tables_told file.kind file.bytes c.count_of-count.result c.behind-ids.result.now w.behind.result.now c.behind-offsets.result.now c.wides_of.result c.is_rising.result
        w.counts_agree.result c.are_named.result c.count_of-count.ensures.count c.behind-ids.ensures.rest w.behind.ensures.rest
        offsets_are c.wides_of.ensures.wides c.is_rising.ensures.rising w.counts_agree.ensures.agree c.are_named.ensures.named w.if-is_rising.true
        (sym w.value-is ∙ c.if-counts_agree.true)
    | else-is_rising w ↦ absurd (true_or_false _ (sym w.value-is ∙ c.if-counts_agree.true) w.if-is_rising.false)
  ];
}

-- the ids don't rise, or a count differs
pub returns-else-counts_agree : goal.returns-else-counts_agree
returns-else-counts_agree c = record {
  agree = elim c.if-is_rising.branch [
    | then-is_rising w ↦
        c.if-counts_agree.false
        ∙ tables_miscount c.args.file.now.kind c.args.file.now.bytes c.count_of-count.result c.behind-ids.result.now w.behind.result.now w.counts_agree.result c.count_of-count.ensures.count
        c.behind-ids.ensures.rest w.behind.ensures.rest w.counts_agree.ensures.agree (sym w.value-is ∙ c.if-counts_agree.false)
    | else-is_rising w ↦
        c.if-counts_agree.false
        ∙ tables_fall c.args.file.now.kind c.args.file.now.bytes c.count_of-count.result c.behind-ids.result.now c.is_rising.result
        c.count_of-count.ensures.count c.behind-ids.ensures.rest c.is_rising.ensures.rising w.if-is_rising.false
  ];
}
