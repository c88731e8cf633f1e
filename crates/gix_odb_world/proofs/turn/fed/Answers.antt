use Rattle.std.proofs.Common.{Some, sym, subst}
use Rattle.std.specs.Prelude.{IfOk}
use Rattle.gix_odb_world.specs.Handle.{seen}
use Rattle.gix_odb_world.specs.Table.{IsToldTo, IsUnderWay, TurnsHandle, ask_by_handle}
use Rattle.gix_odb_world.specs.declared.handle.Handle.{Handle}
use Rattle.gix_odb_world.proofs.turn.fed.Goals as goal

-- the handle that leaves the heap is the one that was there
pub fed_handle-requires : goal.fed_handle-requires
fed_handle-requires c = record {
  under_way = subst (λ (h : Handle). IsUnderWay (seen h).work) (sym c.into_inner.ensures.value) c.requires.under_way;
  answers = subst (λ (h : Handle). IsToldTo (ask_by_handle (Some (seen h))) c.args.told) (sym c.into_inner.ensures.value) c.requires.answers;
}

pub returns : goal.returns
returns c = record {
  turned = subst (λ (h : Handle). IfOk c.fed_handle.result (TurnsHandle (seen h) c.args.told)) c.into_inner.ensures.value c.fed_handle.ensures.turned;
}
