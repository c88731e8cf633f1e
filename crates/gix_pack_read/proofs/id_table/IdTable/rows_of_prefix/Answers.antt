use Rattle.std.proofs.Common.{◌≡◌, ◌-◌, ap, sym, ◌∙◌, arith}
use Rattle.gix_hash.specs.ObjectId.{first_byte_of}
use Rattle.gix_hash.proofs.StepsLaws.{fewer_rows, two_searches}
use Rattle.gix_pack_read.specs.IdTable.{ids_in}
use Rattle.gix_pack_read.specs.Rows.{begin_with}
use Rattle.gix_pack_read.proofs.PrefixRunLemmas.{front_above, front_have, prefix_run}
use Rattle.gix_pack_read.proofs.id_table.IdTable.rows_of_prefix.Goals as goal

pub other_row-start-requires-clause-front : goal.other_row-start-requires-clause-front
other_row-start-requires-clause-front g c =
    let table = c.args.self.now in
    front_above table.kind table.count table.ids.now c.args.prefix.now table.bytes table.rising c.rows_of_byte-first.result.0 c.rows_of_byte-first.result.1

pub other_row-end-requires-clause-front : goal.other_row-end-requires-clause-front
other_row-end-requires-clause-front g c =
    let table = c.args.self.now in
    front_have table.kind table.count table.ids.now c.args.prefix.now table.bytes table.rising c.other_row-start.result c.rows_of_byte-first.result.1 c.other_row-start.ensures.others

pub returns-clause-run : goal.returns-clause-run
returns-clause-run g c =
    let table = c.args.self.now in
    let byte_is = c.first_byte.ensures.first ∙ ap first_byte_of c.as_oid.ensures.id in
    prefix_run table.kind table.count table.ids.now c.args.prefix.now table.bytes table.rising c.rows_of_byte-first.result.0 c.other_row-start.result c.other_row-end.result
    c.rows_of_byte-first.result.1 c.as_oid.ensures.prefix c.other_row-end.ensures.from c.other_row-end.ensures.to c.rows_of_byte-first.ensures.within
    (λ row id get is. c.rows_of_byte-first.ensures.exact row id get (is ∙ sym byte_is)) c.other_row-start.ensures.passed c.other_row-end.ensures.passed c.other_row-end.ensures.others

-- the second search is among what the first leaves
pub returns-clause-steps : goal.returns-clause-steps
returns-clause-steps g c =
    let ids = ids_in c.args.self.now in
    let n = begin_with ids (first_byte_of c.args.prefix.now.id) in
    let first = c.rows_of_byte-first.result.0 in
    let behind = c.rows_of_byte-first.result.1 in
    let its : begin_with ids c.first_byte.result ≡ n = ap (begin_with ids) (c.first_byte.ensures.first ∙ ap first_byte_of c.as_oid.ensures.id) in
    let count = c.rows_of_byte-first.ensures.count in
    let from = c.other_row-start.ensures.from in
    two_searches n c.args.steps.now c.other_row-start.new.steps c.other_row-end.new.steps
    (fewer_rows (behind - first) n c.args.steps.now c.other_row-start.new.steps (omega (arith, count, its)) c.other_row-start.ensures.steps)
    (fewer_rows (behind - c.other_row-start.result) n c.other_row-start.new.steps c.other_row-end.new.steps (omega (arith, count, its, from)) c.other_row-end.ensures.steps)
