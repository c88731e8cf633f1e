use Rattle.std.proofs.Common.{sym, subst}
use Rattle.std.specs.Prelude.{IfOk}
use Rattle.gix_odb_history.specs.Run.{stand, told_now}
use Rattle.gix_odb_world.specs.Handle.{seen}
use Rattle.gix_odb_world.specs.Table.{CanHappenAt, CarriesOut, opened_by}
use Rattle.gix_odb_world.specs.declared.handle.Handle.{Handle}
use Rattle.gix_odb_world.proofs.turn.carried_out.Goals as goal

-- the handle that is lent is the one on the heap
pub carried_out_for-requires : goal.carried_out_for-requires
carried_out_for-requires c = record {
  can_happen = subst (λ (h : Handle). CanHappenAt c.args.cores.now.items c.args.seat (seen h).state c.args.ask) (sym c.get.ensures.value) c.requires.can_happen;
}

pub returns : goal.returns
returns c = record {
  carried = subst (λ (h : Handle). IfOk c.carried_out_for.result (CarriesOut c.args.disk.now c.carried_out_for.new.disk c.args.cores.now.items c.carried_out_for.new.cores.items
      (opened_by (seen h).work) c.args.ask (told_now (stand c.args.cores.now.items (seen h).state.core c.args.seat) c.args.disk.now c.args.ask)))
      c.get.ensures.value c.carried_out_for.ensures.carried;
}
