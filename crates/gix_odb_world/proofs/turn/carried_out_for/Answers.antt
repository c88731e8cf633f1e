use Rattle.std.proofs.Common.{◌≡◌, Some, None, Ok, refl}
use Rattle.gix_odb_history.specs.declared.record.Did.TheVariants as dids
use Rattle.gix_odb_world.specs.declared.turn.Told.TheVariants as tells
use Rattle.gix_odb_events.specs.declared.answer.Ask.TheVariants as asks
use Rattle.gix_odb_world.specs.Handle.{seen}
use Rattle.gix_odb_world.specs.Table.{opened_by}
use Rattle.gix_odb_world.proofs.CarriedLemmas.{can_at, carried_by, carries_call, carries_core, carries_event, carries_nothing, few_at}
use Rattle.gix_odb_world.proofs.turn.carried_out_for.Goals as goal

-- nothing
pub returns-in-None : goal.returns-in-None
returns-in-None c = record {
  carried = carried_by c.args.disk.now c.args.disk.now c.args.cores.now.items c.args.cores.now.items c.args.seat c.args.handle.now (opened_by (seen c.args.handle.now).work) c.args.ask None
      (Ok (record { did = dids.Nothing; told = tells.Nothing })) refl c.in-None.is (carries_nothing c.args.disk.now c.args.cores.now.items (opened_by (seen c.args.handle.now).work) c.args.handle.now.core c.args.seat);
}

-- its call of the disk
pub returns-in-Some-Disk : goal.returns-in-Some-Disk
returns-in-Some-Disk c =
    let named : c.args.ask ≡ Some (asks.Disk c.in-Some-Disk.ask) = cc (c.in-Some-Disk.is, c.in-Some-Disk.field-0-is) in
    record {
      carried = carried_by c.args.disk.now c.on_disk.new.disk c.args.cores.now.items c.args.cores.now.items c.args.seat c.args.handle.now _ c.args.ask (Some (asks.Disk c.in-Some-Disk.ask))
          c.on_disk.result c.opened.ensures.opened named
          (carries_call c.args.disk.now c.args.cores.now.items _ c.args.handle.now.core c.args.seat c.in-Some-Disk.ask c.on_disk.new.disk c.on_disk.result
          c.on_disk.ensures.did c.on_disk.ensures.told c.on_disk.ensures.left);
    }

-- its event of its core
pub returns-in-Some-Core : goal.returns-in-Some-Core
returns-in-Some-Core c =
    let named : c.args.ask ≡ Some (asks.Core c.in-Some-Core.event) = cc (c.in-Some-Core.is, c.in-Some-Core.field-0-is) in
    record {
      carried = carried_by c.args.disk.now c.args.disk.now c.args.cores.now.items c.at_own_core.new.cores.items c.args.seat c.args.handle.now (opened_by (seen c.args.handle.now).work)
          c.args.ask (Some (asks.Core c.in-Some-Core.event)) c.at_own_core.result refl named
          (carries_event c.args.disk.now c.args.cores.now.items (opened_by (seen c.args.handle.now).work) c.args.handle.now.core c.args.seat c.in-Some-Core.event
          c.at_own_core.new.cores.items c.at_own_core.result c.at_own_core.ensures.did c.at_own_core.ensures.told c.at_own_core.ensures.cores);
    }

pub at_own_core-requires-clause-there : goal.at_own_core-requires-clause-there
at_own_core-requires-clause-there c =
    (can_at c.args.cores.now.items c.args.seat c.args.handle.now c.args.ask c.in-Some-Core.event (cc (c.in-Some-Core.is, c.in-Some-Core.field-0-is)) c.requires.can_happen).0

pub at_own_core-requires-clause-registered : goal.at_own_core-requires-clause-registered
at_own_core-requires-clause-registered c =
    (can_at c.args.cores.now.items c.args.seat c.args.handle.now c.args.ask c.in-Some-Core.event (cc (c.in-Some-Core.is, c.in-Some-Core.field-0-is)) c.requires.can_happen).2

pub at_own_core-requires-clause-can_happen : goal.at_own_core-requires-clause-can_happen
at_own_core-requires-clause-can_happen c =
    (can_at c.args.cores.now.items c.args.seat c.args.handle.now c.args.ask c.in-Some-Core.event (cc (c.in-Some-Core.is, c.in-Some-Core.field-0-is)) c.requires.can_happen).1

-- its core
pub returns-in-Some-NewCore : goal.returns-in-Some-NewCore
returns-in-Some-NewCore c =
    let named : c.args.ask ≡ Some (asks.NewCore c.in-Some-NewCore.slots c.in-Some-NewCore.folders) = cc (c.in-Some-NewCore.is, c.in-Some-NewCore.field-0-is) in
    record {
      carried = carried_by c.args.disk.now c.args.disk.now c.args.cores.now.items c.at_new_core.new.cores.items c.args.seat c.args.handle.now (opened_by (seen c.args.handle.now).work)
          c.args.ask (Some (asks.NewCore c.in-Some-NewCore.slots c.in-Some-NewCore.folders)) c.at_new_core.result refl named
          (carries_core c.args.disk.now c.args.cores.now.items (opened_by (seen c.args.handle.now).work) c.args.handle.now.core c.args.seat c.in-Some-NewCore.slots c.in-Some-NewCore.folders
          c.at_new_core.new.cores.items c.at_new_core.result c.at_new_core.ensures.did c.at_new_core.ensures.told c.at_new_core.ensures.cores);
    }

pub at_new_core-requires : goal.at_new_core-requires
at_new_core-requires c = record {
  few = few_at c.args.cores.now.items c.args.seat c.args.handle.now c.args.ask c.in-Some-NewCore.slots c.in-Some-NewCore.folders
      (cc (c.in-Some-NewCore.is, c.in-Some-NewCore.field-0-is)) c.requires.can_happen;
}
