use Rattle.std.proofs.Common.{ℕ, ◌+◌, ap, sym, ◌∙◌}
use Rattle.gix_pack_read.specs.IdTable.{ids_in}
use Rattle.gix_pack_read.specs.Rows.{begin_with}
use Rattle.gix_pack_read.proofs.FirstByteLemmas.{count_within, row_of_byte, to_parted}
use Rattle.gix_pack_read.proofs.id_table.IdTable.rows_of_byte.Goals as goal

pub returns-clause-count : goal.returns-clause-count
returns-clause-count c =
    let ids = ids_in c.args.self.now in
    c.count_to.ensures.count ∙ to_parted ids c.args.first ∙ ap (λ (n : ℕ). n + begin_with ids c.args.first) (sym c.count_below.ensures.count)

pub returns-clause-within : goal.returns-clause-within
returns-clause-within c =
    let table = c.args.self.now in
    rw c.count_to.ensures.count (count_within table.kind table.count table.ids.now c.args.first)

-- they are between the two counts
pub returns-clause-exact : goal.returns-clause-exact
returns-clause-exact c = λ row id get is.
    let table = c.args.self.now in
    rw (c.count_below.ensures.count, c.count_to.ensures.count)
    (row_of_byte table.kind table.count table.ids.now c.args.first row id table.rising get is)
