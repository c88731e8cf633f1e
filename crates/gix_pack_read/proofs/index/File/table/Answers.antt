use Rattle.std.proofs.Common.{◌≡◌, subst, ◌∙◌}
use Rattle.gix_pack_read.specs.FileBytes.{FileBytes}
use Rattle.gix_pack_read.specs.Index.{objects_in}
use Rattle.gix_pack_read.proofs.IndexLemmas.{counts_read_agree, counts_read_room, ids_read_rise, ids_read_room}
use Rattle.gix_pack_read.proofs.index.File.table.Goals as goal

pub new-requires-clause-counts : goal.new-requires-clause-counts
new-requires-clause-counts c =
    counts_read_room c.self.inside.file.kind c.self.inside.file.bytes c.count_of.result c.behind.result.now c.behind-2.result.now c.self.invariant
    c.count_of.ensures.count c.behind.ensures.rest c.behind-2.ensures.rest

pub new-requires-clause-room : goal.new-requires-clause-room
new-requires-clause-room c =
    ids_read_room c.self.inside.file.kind c.self.inside.file.bytes c.count_of.result c.behind.result.now c.behind-2.result.now c.self.invariant
    c.count_of.ensures.count c.behind.ensures.rest c.behind-2.ensures.rest

pub new-requires-clause-rising : goal.new-requires-clause-rising
new-requires-clause-rising c =
    ids_read_rise c.self.inside.file.kind c.self.inside.file.bytes c.count_of.result c.behind.result.now c.behind-2.result.now c.self.invariant
    c.count_of.ensures.count c.behind.ensures.rest c.behind-2.ensures.rest

pub new-requires-clause-agree : goal.new-requires-clause-agree
new-requires-clause-agree c =
    counts_read_agree c.self.inside.file.kind c.self.inside.file.bytes c.count_of.result c.behind.result.now c.behind-2.result.now c.self.invariant
    c.count_of.ensures.count c.behind.ensures.rest c.behind-2.ensures.rest

pub returns-clause-count : goal.returns-clause-count
returns-clause-count c =
    subst (λ (seen : FileBytes). c.new.result.count ≡ objects_in seen.bytes) c.self.view_is (c.new.ensures.count ∙ c.count_of.ensures.count)
