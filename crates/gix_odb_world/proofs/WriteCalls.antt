-- A turn of a write calls the disk.
use Rattle.std.proofs.Common.{◌≡◌, ℕ, List, Some, sym, ap, ◌∙◌}
use Rattle.odb_disk.specs.MemDisk.{Volume}
use Rattle.gix_odb_loose.specs.LooseOrder.{disk_ask_of}
use Rattle.gix_odb_loose.specs.declared.call.LooseCall.{LooseCall}
use Rattle.gix_odb_history.specs.Event.{Event}
use Rattle.gix_odb.specs.CallOrder.{loose_ask}
use Rattle.gix_odb_world.specs.Headline.{Works}
use Rattle.gix_odb_world.specs.Machines.{write_in}
use Rattle.gix_odb_world.specs.Running.Write.{IsWriting}
use Rattle.gix_odb_world.specs.Status.{Running}
use Rattle.gix_odb_world.proofs.DiskTurns.{CallsDisk, by_call}
use Rattle.gix_odb_world.proofs.WorkLaws.{asks_as_write}
use Rattle.gix_odb_world.proofs.WriteTurn.{ask_at_stage}

-- a write asks in each turn what its stage does
pub write_calls : (first : Volume) (past : List Event) (handle : ℕ) (running : Running) (e : Event) → Works first past handle running e
    → (call : LooseCall) → write_in running.work ≡ Some call → IsWriting first past handle running call
    → CallsDisk first past handle running e
write_calls first past handle running e works call write writes =
    by_call first past handle running e works (ask_at_stage writes.write writes.stage)
    (sym works.asks ∙ (asks_as_write running.store running.work call write ∙ ap (λ f. loose_ask (disk_ask_of f)) writes.is))
