use Rattle.std.proofs.Common.{◌≡◌, Some, None, Ok, Err, arith, refl}
use Rattle.gix_odb_loose.specs.Answers.{path_in}
use Rattle.gix_odb_loose.specs.Asked.{AreAllCalls}
use Rattle.gix_odb_uses.specs.Reads.{MayRead}
use Rattle.gix_odb_uses.specs.declared.error.Error.TheVariants.{NotRead, NotWritten}
use Rattle.gix_odb_uses.proofs.ObjectLemmas.{absent, at_told, if_err_made, if_told}
use Rattle.gix_odb_uses.proofs.WrittenLemmas.{can_be_read, copied, copy_made}
use Rattle.gix_odb_uses.proofs.ReadLemmas.{may_read}
use Rattle.gix_odb_uses.proofs.writing.copy.Goals as goal

-- what was found wasn't written
pub returns-in_err-write_buf_with_known_id-in-Some-clause-refused : goal.returns-in_err-write_buf_with_known_id-in-Some-clause-refused
returns-in_err-write_buf_with_known_id-in-Some-clause-refused g c =
    let state = g.D.Disk.state in
    let faults = g.D.Disk.faults in
    let error = c.in_err-write_buf_with_known_id-in-Some.field-0.0 in
    let is : c.find_into.result ≡ Ok (Some c.in-Some.kind) = grind (arith, c.in_ok-kind.was, c.in-Some.is) in
    if_err_made c.from_residual-in_err-write_buf_with_known_id-in-Some.result (NotWritten error) _ c.from_residual-in_err-write_buf_with_known_id-in-Some.ensures.1
    (copy_made c.args.from.now c.args.to.now c.args.id.now (state c.args.disk.now) (state c.find_into.new.disk) (state c.write_buf_with_known_id.new.disk)
    (faults c.args.disk.now) (faults c.find_into.new.disk) (faults c.write_buf_with_known_id.new.disk) c.find_into.ensures.kept c.find_into.ensures.later
    c.find_into.result c.in-Some.kind c.as_slice.result.now c.find_into.new.out.items c.find_into.ensures.answer is c.as_slice.ensures.value
    (λ exchanges. AreAllCalls g.D.Disk.answered exchanges c.find_into.new.disk c.write_buf_with_known_id.new.disk)
    (λ exchanges. (between : g.row.D.Denot) × MayRead g.D.Disk.answered (path_in c.args.from.now c.args.id.now) c.args.disk.now between
    × AreAllCalls g.D.Disk.answered exchanges between c.write_buf_with_known_id.new.disk)
    (λ exchanges made. (c.find_into.new.disk, may_read g.D.Disk.answered (path_in c.args.from.now c.args.id.now) c.args.disk.now c.find_into.new.disk _ _ c.find_into.ensures.asked, made))
    (Err error) c.in_err-write_buf_with_known_id-in-Some.ensures.run)

-- what was found was written under the id
pub returns-in-Some-clause-copied : goal.returns-in-Some-clause-copied
returns-in-Some-clause-copied g c =
    let state = g.D.Disk.state in
    let faults = g.D.Disk.faults in
    let made = c.in_ok-write_buf_with_known_id-in-Some in
    let is : c.find_into.result ≡ Ok (Some c.in-Some.kind) = grind (arith, c.in_ok-kind.was, c.in-Some.is) in
    copied c.args.from.now c.args.to.now c.args.id.now (state c.args.disk.now) (state c.find_into.new.disk) (state c.write_buf_with_known_id.new.disk)
    (faults c.args.disk.now) (faults c.find_into.new.disk) (faults c.write_buf_with_known_id.new.disk) c.find_into.ensures.kept c.find_into.ensures.later
    c.find_into.result c.in-Some.kind c.as_slice.result.now c.find_into.new.out.items c.find_into.ensures.answer is c.as_slice.ensures.value
    (λ exchanges. AreAllCalls g.D.Disk.answered exchanges c.find_into.new.disk c.write_buf_with_known_id.new.disk)
    (λ exchanges. (between : g.row.D.Denot) × MayRead g.D.Disk.answered (path_in c.args.from.now c.args.id.now) c.args.disk.now between
    × AreAllCalls g.D.Disk.answered exchanges between c.write_buf_with_known_id.new.disk)
    (λ exchanges made. (c.find_into.new.disk, may_read g.D.Disk.answered (path_in c.args.from.now c.args.id.now) c.args.disk.now c.find_into.new.disk _ _ c.find_into.ensures.asked, made))
    made.field-0 made.ensures.id made.ensures.run

-- and can be read there
pub returns-in-Some-clause-read_back : goal.returns-in-Some-clause-read_back
returns-in-Some-clause-read_back g c =
    let state = g.D.Disk.state in
    let faults = g.D.Disk.faults in
    let made = c.in_ok-write_buf_with_known_id-in-Some in
    let is : c.find_into.result ≡ Ok (Some c.in-Some.kind) = grind (arith, c.in_ok-kind.was, c.in-Some.is) in
    if_told (state c.args.disk.now) _
    (can_be_read c.args.from.now c.args.to.now c.args.id.now (state c.args.disk.now) (state c.find_into.new.disk) (state c.write_buf_with_known_id.new.disk)
    (faults c.args.disk.now) (faults c.find_into.new.disk) (faults c.write_buf_with_known_id.new.disk) c.find_into.ensures.kept c.find_into.ensures.later
    c.find_into.result c.in-Some.kind c.as_slice.result.now c.find_into.new.out.items c.find_into.ensures.answer is c.as_slice.ensures.value
    (λ exchanges. AreAllCalls g.D.Disk.answered exchanges c.find_into.new.disk c.write_buf_with_known_id.new.disk)
    (λ exchanges. (between : g.row.D.Denot) × MayRead g.D.Disk.answered (path_in c.args.from.now c.args.id.now) c.args.disk.now between
    × AreAllCalls g.D.Disk.answered exchanges between c.write_buf_with_known_id.new.disk)
    (λ exchanges made. (c.find_into.new.disk, may_read g.D.Disk.answered (path_in c.args.from.now c.args.id.now) c.args.disk.now c.find_into.new.disk _ _ c.find_into.ensures.asked, made))
    made.field-0 made.ensures.id made.ensures.run)

-- nothing was found there, so nothing was written
pub returns-clause-copied : goal.returns-clause-copied
returns-clause-copied g c =
    let is : c.find_into.result ≡ Ok None = grind (arith, c.in_ok-kind.was, c.in-None.is) in (
      if_told (g.D.Disk.state c.args.disk.now) _ (λ s told. absent c.args.from.now c.args.id.now s _ c.find_into.new.out.items c.find_into.result
          (at_told (g.D.Disk.state c.args.disk.now) _ s told c.find_into.ensures.answer) is),
      (c.find_into.new.disk, may_read g.D.Disk.answered (path_in c.args.from.now c.args.id.now) c.args.disk.now c.find_into.new.disk _ _ c.find_into.ensures.asked, refl),
      c.find_into.ensures.kept,
    )

-- it couldn't be read, so nothing was written
pub returns-in_err-kind-clause-refused : goal.returns-in_err-kind-clause-refused
returns-in_err-kind-clause-refused g c =
    let error = c.in_err-kind.field-0.0 in
    if_err_made c.from_residual.result (NotRead error) _ c.from_residual.ensures.1 (
      c.in_err-kind.ensures.cause,
      (c.find_into.new.disk, may_read g.D.Disk.answered (path_in c.args.from.now c.args.id.now) c.args.disk.now c.find_into.new.disk _ _ c.find_into.ensures.asked, refl),
      c.find_into.ensures.kept,
    )
