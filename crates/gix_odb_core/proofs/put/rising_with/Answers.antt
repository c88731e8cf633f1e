use Rattle.std.proofs.Common.{sym}
use Rattle.gix_odb_core.proofs.PacksOfPathLemmas.{packs_with-none}
use Rattle.gix_odb_core.proofs.put.rising_with.Goals as goal

-- no pack has the path
pub returns-in-None : goal.returns-in-None
returns-in-None c = record { packs = sym (packs_with-none c.args.path.now c.args.packs.now c.in-None.ensures.place c.args.read.now) }
