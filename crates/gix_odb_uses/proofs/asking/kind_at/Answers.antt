use Rattle.std.proofs.Common.{◌≡◌, Some, Ok, arith}
use Rattle.gix_odb_uses.proofs.ObjectLemmas.{at_told, if_told, kind_told}
use Rattle.gix_odb_uses.proofs.ReadLemmas.{may_read}
use Rattle.gix_odb_uses.proofs.asking.kind_at.Goals as goal

pub returns-in-Some-clause-kind : goal.returns-in-Some-clause-kind
returns-in-Some-clause-kind g c =
    let found : c.try_header.result ≡ Ok (Some (c.in-Some.field-0-0, c.in-Some.kind)) = grind (arith, c.in_ok-kind.was, c.in-Some.is, c.in-Some.kind-is) in
    if_told (g.D.Disk.state c.args.disk.now) _
    (λ s told. kind_told c.args.store.now c.args.id.now s _ c.in-Some.field-0-0 c.in-Some.kind c.try_header.result
    (at_told (g.D.Disk.state c.args.disk.now) _ s told c.try_header.ensures.answer) found)

-- the path was read once, or not
pub returns-in_err-kind-clause-asked : goal.returns-in_err-kind-clause-asked
returns-in_err-kind-clause-asked g c = may_read g.D.Disk.answered _ _ _ _ _ c.try_header.ensures.asked

pub returns-in-Some-clause-asked : goal.returns-in-Some-clause-asked
returns-in-Some-clause-asked g c = may_read g.D.Disk.answered _ _ _ _ _ c.try_header.ensures.asked

pub returns-in-None-clause-asked : goal.returns-in-None-clause-asked
returns-in-None-clause-asked g c = may_read g.D.Disk.answered _ _ _ _ _ c.try_header.ensures.asked
