use Rattle.std.proofs.Common.{◌≡◌, Some, None, Ok, arith, ◌∙◌, refl, sym, ap, subst}
use Rattle.odb_base.specs.Faults.{Rose}
use Rattle.gix_object.specs.declared.kind.Kind.TheVariants.{Blob}
use Rattle.gix_odb_loose.specs.Answers.{FindRefused}
use Rattle.gix_odb_uses.specs.Objects.{IsHeld}
use Rattle.gix_odb_uses.specs.Written.{IsWrite, kept_on}
use Rattle.gix_odb_uses.specs.declared.error.Error.TheVariants.{NotRead, NotWritten}
use Rattle.gix_odb_uses.proofs.ObjectLemmas.{at_told, find_refused, held, if_err_made, if_told, not_held, rose_between}
use Rattle.gix_odb_uses.proofs.WrittenLemmas.{first_write, refused_write}
use Rattle.gix_odb_uses.proofs.writing.keep.Goals as goal

-- it wasn't written
pub returns-in_err-id-clause-refused : goal.returns-in_err-id-clause-refused
returns-in_err-id-clause-refused g c =
    let error = c.in_err-id.field-0.0 in
    if_err_made c.from_residual.result (NotWritten error) _ c.from_residual.ensures.1
    (refused_write (g.D.Disk.state) (g.D.Disk.faults) (g.D.Disk.answered) c.args.store.now c.args.bytes.now c.args.disk.now c.write_buf.new.disk error c.in_err-id.ensures.run)

-- it was written, and the find was refused
pub returns-in_err-kind-clause-refused : goal.returns-in_err-kind-clause-refused
returns-in_err-kind-clause-refused g c =
    let store = c.args.store.now in
    let bytes = c.args.bytes.now in
    let error = c.in_err-kind.field-0.0 in
    let faults = g.D.Disk.faults in
    let start = faults c.args.disk.now in
    let middle = faults c.write_buf.new.disk in
    let now = faults c.find_into.new.disk in
    let cause = find_refused store c.in_ok-id.id (g.D.Disk.state c.write_buf.new.disk) (g.D.Disk.state c.find_into.new.disk) c.find_into.ensures.kept (Rose middle now) (Rose start now)
    (rose_between start middle now now c.write_buf.ensures.later (omega arith)) error c.in_err-kind.ensures.cause in
    if_err_made c.from_residual-in_err-kind.result (NotRead error) _ c.from_residual-in_err-kind.ensures.1 (
      first_write (g.D.Disk.state) (g.D.Disk.faults) (g.D.Disk.answered) store bytes c.args.disk.now c.write_buf.new.disk c.find_into.new.disk c.in_ok-id.id _ c.in_ok-id.ensures.id
          c.find_into.ensures.kept c.find_into.ensures.later c.find_into.ensures.asked c.in_ok-id.ensures.run,
      subst (λ id. FindRefused store id (g.D.Disk.state c.find_into.new.disk) (Rose start now) error) c.in_ok-id.ensures.id cause,
    )

-- what was done is the write and the find
pub returns-then-is_blob-clause-written : goal.returns-then-is_blob-clause-written
returns-then-is_blob-clause-written g c =
    subst (λ id. IsWrite c.args.store.now Blob c.args.bytes.now None (kept_on g.D.Disk.state g.D.Disk.faults g.D.Disk.answered c.args.store.now c.args.bytes.now c.args.disk.now c.find_into.new.disk) (Ok id))
    (sym c.in_ok-id.ensures.id)
    (first_write (g.D.Disk.state) (g.D.Disk.faults) (g.D.Disk.answered) c.args.store.now c.args.bytes.now c.args.disk.now c.write_buf.new.disk c.find_into.new.disk c.in_ok-id.id _ c.in_ok-id.ensures.id
    c.find_into.ensures.kept c.find_into.ensures.later c.find_into.ensures.asked c.in_ok-id.ensures.run)

-- what was found is held by the file, and it is what was written
pub returns-then-is_blob-clause-held : goal.returns-then-is_blob-clause-held
returns-then-is_blob-clause-held g c =
    let store = c.args.store.now in
    let state = g.D.Disk.state in
    let Failed = Rose (g.D.Disk.faults c.write_buf.new.disk) (g.D.Disk.faults c.find_into.new.disk) in
    let told = c.if-is_blob.ensures.told.0 refl in
    let same : c.find_into.new.out.items ≡ c.args.bytes.now = sym c.as_slice.ensures.value ∙ told.1 in
    let found : c.find_into.result ≡ Ok (Some Blob) = c.in_ok-kind.was ∙ ap Ok told.0 in
    if_told (state c.find_into.new.disk) _ (λ s is.
    let finds = at_told (state c.write_buf.new.disk) _ s (sym c.find_into.ensures.kept ∙ is) c.find_into.ensures.answer in
    subst (λ all. IsHeld store c.in_ok-id.id s Blob all) same (held store c.in_ok-id.id s Failed Blob c.find_into.new.out.items c.find_into.result finds found))

-- something else was found, so this isn't held
pub returns-clause-refused : goal.returns-clause-refused
returns-clause-refused g c =
    let store = c.args.store.now in
    let bytes = c.args.bytes.now in
    let state = g.D.Disk.state in
    let start = g.D.Disk.faults c.args.disk.now in
    let middle = g.D.Disk.faults c.write_buf.new.disk in
    let now = g.D.Disk.faults c.find_into.new.disk in
    let differs : c.in_ok-kind.kind ≡ Some Blob → c.find_into.new.out.items ≡ bytes
    → ⊥ = λ blob same. (let yes = c.is_blob.ensures.told.1 (blob, c.as_slice.ensures.value ∙ same) in let no = c.if-is_blob.false in cc (yes, no)) in (
      first_write (g.D.Disk.state) (g.D.Disk.faults) (g.D.Disk.answered) store bytes c.args.disk.now c.write_buf.new.disk c.find_into.new.disk c.in_ok-id.id _ c.in_ok-id.ensures.id
          c.find_into.ensures.kept c.find_into.ensures.later c.find_into.ensures.asked c.in_ok-id.ensures.run,
      if_told (state c.find_into.new.disk) _ (λ s told is.
          let finds = at_told (state c.write_buf.new.disk) _ s (sym c.find_into.ensures.kept ∙ told) c.find_into.ensures.answer in
          not_held store c.in_ok-id.id s (Rose middle now) Blob bytes c.in_ok-kind.kind c.find_into.new.out.items differs c.find_into.result c.in_ok-kind.was finds
          (subst (λ id. IsHeld store id s Blob bytes) (sym c.in_ok-id.ensures.id) is)),
    )
