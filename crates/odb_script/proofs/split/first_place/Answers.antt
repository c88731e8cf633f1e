use Rattle.odb_script.proofs.SplitLemmas.{first_byte-position}
use Rattle.odb_script.proofs.split.first_place.Goals as goal

pub returns : goal.returns
returns c = record { place = first_byte-position c.args.byte c.args.bytes.now c.memchr.result c.memchr.ensures }
