use Rattle.std.proofs.Common.{sym, arith}
use Rattle.gix_pack_read.proofs.EntryLemmas.{head_long}
use Rattle.gix_pack_read.proofs.data.entry_head.read_head.Goals as goal

pub returns-then-last-ge-LONGEST_HEADER : goal.returns-then-last-ge-LONGEST_HEADER
returns-then-last-ge-LONGEST_HEADER c = record {
  head = sym (head_long c.args.rest.now c.in-Some.last (sym c.in-Some.ensures.first) (omega arith));
}
