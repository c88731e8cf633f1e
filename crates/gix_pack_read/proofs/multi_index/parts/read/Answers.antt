use Rattle.std.proofs.Common.{arith}
use Rattle.gix_pack_read.proofs.PartLemmas.{is_not_read, is_read}
use Rattle.gix_pack_read.proofs.multi_index.parts.read.Goals as goal

-- the chunk of names holds no such names
pub returns-in-None-clause-none : goal.returns-in-None-clause-none
returns-in-None-clause-none c =
    is_not_read c.in-Some.tables.0 c.in-Some.tables.1 c.args.bytes.now c.in-Some.ensures.found c.number_at-packs.result c.span_in.result.now c.number_at-packs.ensures.number c.span_in.ensures.part
    (rw c.in-None.is at c.in_ok-names_in.ensures.none)

pub returns-in-Some-2-clause-found : goal.returns-in-Some-2-clause-found
returns-in-Some-2-clause-found c =
    is_read c.in-Some.tables.0 c.in-Some.tables.1 c.args.bytes.now c.in-Some.ensures.found c.kind_of.result c.number_at-packs.result c.span_in.result.now c.in-Some-2.names
    c.kind_of.ensures.kind c.number_at-packs.ensures.number (omega arith) c.span_in.ensures.part
    (rw c.in-Some-2.is at c.in_ok-names_in.ensures.found) (rw c.in-Some-2.is at c.in_ok-names_in.ensures.few) (rw c.in-Some-2.is at c.in_ok-names_in.ensures.fits)
