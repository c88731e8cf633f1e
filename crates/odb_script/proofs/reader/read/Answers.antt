use Rattle.std.proofs.Common.{arith}
use Rattle.std.proofs.lemmas.List.{length-take}
use Rattle.odb_script.proofs.reader.read.Goals as goal

pub slice_bounds-read_lines-end : goal.slice_bounds-read_lines-end
slice_bounds-read_lines-end c = omega (arith, length-take 67108864 c.args.bytes.now)

pub read_lines-requires-else-bytes-le-SCRIPT_LIMIT : goal.read_lines-requires-else-bytes-le-SCRIPT_LIMIT
read_lines-requires-else-bytes-le-SCRIPT_LIMIT c = omega (arith, length-take 67108864 c.args.bytes.now)
