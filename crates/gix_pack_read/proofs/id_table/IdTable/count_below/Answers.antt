use Rattle.std.proofs.Common.{sym, arith}
use Rattle.gix_pack_read.specs.IdTable.{ids_in}
use Rattle.gix_pack_read.proofs.FirstByteLemmas.{none_below_zero}
use Rattle.gix_pack_read.proofs.id_table.IdTable.count_below.Goals as goal

-- no byte is below 0
pub returns-in-None : goal.returns-in-None
returns-in-None c = record { count = sym (none_below_zero (ids_in c.args.self.now) c.args.first (omega (arith, c.in-None.ensures))) }
