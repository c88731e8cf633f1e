-- What holds of any work, since its machine keeps its laws.
use Rattle.std.proofs.Common.{◌≡◌, ◌⊎◌, ℕ, List, Option, Some, None, Ok, Err, Result, refl, sym, ◌∙◌, ap}
use Rattle.odb_disk.specs.MemDisk.{Volume}
use Rattle.odb_disk.specs.declared.ask.DiskAsk.{DiskAsk}
use Rattle.odb_disk.specs.declared.ask.DiskAnswer.{DiskAnswer}
use Rattle.gix_odb.specs.CallOrder.{result_of_write}
use Rattle.gix_odb_calls.specs.declared.call.Reply.{Reply}
use Rattle.gix_odb_world.specs.Handle.{HandleParts, IsHandleOf}
use Rattle.gix_odb_loose.specs.LooseOrder.{disk_ask_of}
use Rattle.gix_odb_loose.specs.LooseOrder as loose_order
use Rattle.gix_odb_loose.specs.declared.call.LooseCall.{LooseCall}
use Rattle.gix_odb_world.specs.Work.{Work}
use Rattle.gix_odb_history.specs.Event.{Event}
use Rattle.gix_odb_events.specs.declared.answer.Answer.{Answer}
use Rattle.gix_odb_events.specs.declared.answer.Ask.TheVariants as parts
use Rattle.gix_odb_events.specs.declared.answer.Answer.TheVariants as told
use Rattle.gix_odb.specs.CallOrder.{loose_ask}
use Rattle.gix_odb_world.specs.Machine.{At, Machine, placed}
use Rattle.gix_odb_world.specs.Machines.{at, ask_in, fed_in, write_in}
use Rattle.gix_odb_history.specs.Run.{change_by, disk_after}
use Rattle.gix_odb_world.specs.Running.{Knows}
use Rattle.gix_odb_world.specs.Running.Write.{IsWriting}
use Rattle.gix_odb_world.specs.Status.{Running, Store, Modes}
use Rattle.gix_odb_world.specs.WorkOrder.{ask_on, fed_after, result_in}
use Rattle.gix_odb_world.proofs.MachineLaws.{HasNoFile}
use Rattle.gix_odb_world.proofs.Machines.{laws_at}

-- ---- its code

-- the code of a handle asks what the work names
pub code_asks : (store : Store) (modes : Modes) (code : HandleParts) → IsHandleOf store modes code → (work : Work)
    → ask_on code work ≡ ask_in store work
code_asks store modes code own work = ap (ask_on code) (sym (at work).is) ∙ (laws_at work).asks store modes code own (at work).state

-- and continues as the work does
pub code_feeds : (store : Store) (modes : Modes) (code : HandleParts) → IsHandleOf store modes code → (work : Work) (answer : Option Answer)
    → result_in (fed_after code work answer) ≡ fed_in store work answer
code_feeds store modes code own work answer =
    ap (λ w. result_in (fed_after code w answer)) (sym (at work).is) ∙ (laws_at work).feeds store modes code own (at work).state answer

-- ---- its writes

module _ (first : Volume) (events : List Event) (handle : ℕ) (running : Running) (work : Work) (knows : Knows first events handle running work) where
  -- work that writes nothing changes nothing
  pub quiet_unless_writing : (ask : DiskAsk) → write_in work ≡ None → ask_in running.store work ≡ Some (parts.Disk ask)
      → change_by (disk_after first events) ask ≡ None
  quiet_unless_writing ask none is = (laws_at work).writes.quiet first events handle running (at work).state ask knows none is

  -- work that writes knows what its write does
  pub knows_write : (call : LooseCall) → write_in work ≡ Some call → IsWriting first events handle running call
  knows_write call is = (laws_at work).writes.known first events handle running (at work).state call knows is

-- it asks what its write asks
pub asks_as_write : (store : Store) (work : Work) (call : LooseCall) → write_in work ≡ Some call → ask_in store work ≡ loose_ask (disk_ask_of call)
asks_as_write store work call is = (laws_at work).writes.asks store (at work).state call is

-- it ends where its write ends
pub ends_as_write : (store : Store) (work : Work) (call : LooseCall) (answer : DiskAnswer) (reply : Reply) → write_in work ≡ Some call
    → result_of_write (loose_order.fed call answer) ≡ Ok reply → fed_in store work (Some (told.Disk answer)) ≡ Ok reply
ends_as_write store work call answer reply is done = ap (placed (at work).machine) ((laws_at work).writes.ends store (at work).state call answer reply is done)

-- what is left of work is that of its machine at another state
left_at : (m : Machine) (result : Result Reply m.State) (left : Work) → placed m result ≡ Err left
    → (next : m.State) × (result ≡ Err next) × (m.work next ≡ left)
left_at m (Ok reply) left is = absurd (cc is)
left_at m (Err next) left is = (next, refl, cc is)

-- work that is left and writes is left of work that wrote, unless its write has made no file yet
pub wrote_before : (first : Volume) (events : List Event) (handle : ℕ) (running : Running) (work left : Work) (answer : Option Answer) (call : LooseCall)
    → Knows first events handle running work → fed_in running.store work answer ≡ Err left
    → write_in left ≡ Some call
    → ((own : LooseCall) × (write_in work ≡ Some own)) ⊎ HasNoFile call
wrote_before first events handle running work left answer call knows is writes =
    let next = left_at (at work).machine ((at work).machine.feed running.store (at work).state answer) left is in
    let home_is = (laws_at work).at_home next.0 in
    (laws_at work).writes.before first events handle running (at work).state next.0 answer call knows next.1
    (sym (ap (λ (a : At ((at work).machine.work next.0)). a.machine.writes a.state) home_is) ∙ (ap write_in next.2 ∙ writes))
