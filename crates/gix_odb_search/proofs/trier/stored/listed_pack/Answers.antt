use Rattle.std.proofs.Common.{◌≡◌, IfOk, Option, subst}
use Rattle.gix_pack_read.specs.FileBytes.{FileBytes}
use Rattle.gix_odb_search.proofs.InSlotLemmas.{found_pack}
use Rattle.gix_odb_search.proofs.trier.stored.listed_pack.Goals as goal

pub returns : goal.returns
returns c = record {
  pack = subst (λ (wanted : Option FileBytes). IfOk c.pack_of.result (λ file. file ≡ wanted))
      (found_pack c.args.pack.now c.in_ok-shown.shown c.args.view.now.snapshot.indices c.in_ok-shown.ensures.first) c.pack_of.ensures.pack;
}
