use Rattle.std.proofs.Common.{◌≡◌, Some, Ok, arith, subst}
use Rattle.std.specs.Result.{IfOk}
use Rattle.std.proofs.lemmas.Result.{IfOk-weaker}
use Rattle.gix_odb_uses.specs.Conditions.{TellsFound}
use Rattle.gix_odb_uses.proofs.ConditionLemmas.{by_found}
use Rattle.gix_odb_uses.proofs.ObjectLemmas.{at_told, held, if_told}
use Rattle.gix_odb_uses.proofs.ReadLemmas.{may_read}
use Rattle.gix_odb_uses.proofs.asking.condition_of.Goals as goal

-- what was found is held by the file
pub returns-in-Ok-Some-clause-condition : goal.returns-in-Ok-Some-clause-condition
returns-in-Ok-Some-clause-condition g c =
    let store = c.args.store.now in
    let bytes = c.find_into.new.out.items in
    let found : c.find_into.result ≡ Ok (Some c.in-Ok-Some.kind) = grind (arith, c.in-Ok-Some.is, c.in-Ok-Some.kind-is) in
    let tells = subst (λ hash. IfOk c.condition_found.result (TellsFound hash c.args.id.now c.in-Ok-Some.kind bytes)) c.object_hash.ensures.hash
    (subst (λ all. IfOk c.condition_found.result (TellsFound c.object_hash.result c.args.id.now c.in-Ok-Some.kind all)) c.as_slice.ensures.value c.condition_found.ensures.found) in
    if_told (g.D.Disk.state c.args.disk.now) _ (λ s told.
    let is = held store c.args.id.now s _ c.in-Ok-Some.kind bytes c.find_into.result (at_told (g.D.Disk.state c.args.disk.now) _ s told c.find_into.ensures.answer) found in
    IfOk-weaker c.condition_found.result _ _ (λ condition says. by_found store c.args.id.now s _ c.in-Ok-Some.kind bytes is condition says) tells)

-- the path was read once, or not
pub returns-in-Ok-Some-clause-asked : goal.returns-in-Ok-Some-clause-asked
returns-in-Ok-Some-clause-asked g c = may_read g.D.Disk.answered _ _ _ _ _ c.find_into.ensures.asked

pub returns-in-Ok-None-clause-asked : goal.returns-in-Ok-None-clause-asked
returns-in-Ok-None-clause-asked g c = may_read g.D.Disk.answered _ _ _ _ _ c.find_into.ensures.asked

pub returns-clause-asked : goal.returns-clause-asked
returns-clause-asked g c = may_read g.D.Disk.answered _ _ _ _ _ c.find_into.ensures.asked
