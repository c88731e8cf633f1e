use Rattle.std.proofs.Common.{◌≡◌, length, take, arith}
use Rattle.std.proofs.lemmas.List.{length-take}
use Rattle.odb_script.proofs.wording.add_part.Goals as goal

pub slice_bounds-add_bytes-end : goal.slice_bounds-add_bytes-end
slice_bounds-add_bytes-end c =
    let count : 60 ≡ length (take 60 c.args.field.now) = omega (arith, length-take 60 c.args.field.now) in count
