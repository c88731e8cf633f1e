use Rattle.std.proofs.Common.{◌+◌, drop, map, None}
use Rattle.gix_pack_read.specs.Index.{index_rows}
use Rattle.gix_pack_read.specs.IndexRows.{unchecked}
use Rattle.gix_pack_read.proofs.IndexRowsLemmas.{entries_end, entries_more, fewer_entries}
use Rattle.gix_pack_read.proofs.index.walk.IterIterator.next.Goals as goal

-- no row is left
pub returns-then-self-num_objects-clause-steps : goal.returns-then-self-num_objects-clause-steps
returns-then-self-num_objects-clause-steps c =
    let seen = c.args.self.now.index.now in
    let none = entries_end seen.kind seen.bytes c.args.self.now.row c.num_objects.result c.num_objects.ensures.count c.if-self-num_objects.true in
    (none, none)

-- the first row that is left
pub returns-clause-steps : goal.returns-clause-steps
returns-clause-steps c =
    let seen = c.args.self.now.index.now in
    entries_more seen.kind seen.bytes c.args.self.now.row c.oid_at_index.result c.pack_offset_at_index.result c.oid_at_index.ensures.id c.pack_offset_at_index.ensures.offset

-- one fewer row is left
pub returns-clause-goes : goal.returns-clause-goes
returns-clause-goes c =
    let seen = c.args.self.now.index.now in
    let step = entries_more seen.kind seen.bytes c.args.self.now.row c.oid_at_index.result c.pack_offset_at_index.result c.oid_at_index.ensures.id c.pack_offset_at_index.ensures.offset in
    let fewer = fewer_entries (map unchecked (drop c.args.self.now.row (index_rows seen.kind seen.bytes)))
    (map unchecked (drop (c.args.self.now.row + 1) (index_rows seen.kind seen.bytes)))
    (record { id = c.oid_at_index.result; offset = c.pack_offset_at_index.result }, None) step in
    record { on = λ _. (tt, tt, fewer); keeps = tt; rests = λ _. tt }
