-- Each answer leaves a write with fewer calls of the disk.
use Rattle.std.specs.Prelude.{ℕ, ◌+◌, ◌-◌, ◌<◌, ◌≤◌, ◌==◌, Bool, true, false, List, [], if◌then◌else◌}
use Rattle.std.proofs.Common.{arith}
use Rattle.std.proofs.lemmas.Grind.{common_steps}
use Rattle.odb_disk.specs.declared.ask.DiskAnswer.{DiskAnswer}
use Rattle.gix_hash.specs.declared.object_id.ObjectId.{ObjectId}
use Rattle.gix_odb_loose.specs.WriteOrder.{temp_names, next_write, made_by, headed_by, filled_by, foldered_by, moved_by, ended_with}
use Rattle.gix_odb_loose.specs.WriteJobs.{pieces_of, writes_left}
use Rattle.gix_odb_loose.proofs.WriteOrderLemmas.{by_made, by_headed, by_filled, by_foldered, by_moved}
use Rattle.gix_odb_loose.specs.declared.write_order.Refusal.TheVariants as refusals
use Rattle.gix_odb_loose.specs.declared.write_order.WriteAsk.{WriteAsk}
use Rattle.gix_odb_loose.specs.declared.write_order.WriteAsk.TheVariants as wants
use Rattle.gix_odb_loose.specs.declared.write_order.WriteStage.{WriteStage}
use Rattle.gix_odb_loose.specs.declared.write_order.WriteStage.TheVariants as stages

module _ (most : ℕ) where
  -- this number of calls is more than are left
  abbrev Above : ℕ → List ℕ → WriteAsk → Type 0
  Above bound held wanted = writes_left most wanted < bound

  made_left : (number : ℕ) (answer : DiskAnswer) → writes_left most (made_by number answer) < 6 + pieces_of most + (temp_names - number)
  made_left number =
      by_made (Above (6 + pieces_of most + (temp_names - number))) [] number (omega arith)
      (λ e. let below : number + 1 < temp_names = grind (arith, common_steps, e) in omega (arith, below)) (λ refusal. omega arith)

  headed_left : (number : ℕ) (answer : DiskAnswer) → writes_left most (headed_by number answer) < 5 + pieces_of most
  headed_left number = by_headed (Above (5 + pieces_of most)) [] number (λ held refusal. omega arith) (omega arith)

  -- the answer to an append that fits leaves fewer appends
  filled_left : (size number written len : ℕ) → (written + len ≤ size → pieces_of (most - (written + len)) < pieces_of (most - written)) → (answer : DiskAnswer)
      → writes_left most (filled_by number written size len answer) < 4 + pieces_of (most - written)
  filled_left size number written len fewer =
      by_filled (Above (4 + pieces_of (most - written))) [] number (λ held refusal. omega arith) size written len [] (λ e. let less = fewer (grind (arith, common_steps, e)) in omega (arith, less))

  foldered_left : (number : ℕ) (id : ObjectId) (answer : DiskAnswer) → writes_left most (foldered_by number id answer) < 3
  foldered_left number id = by_foldered (Above 3) [] number (λ held refusal. omega arith) id (omega arith)

  moved_left : (number : ℕ) (id : ObjectId) (answer : DiskAnswer) → writes_left most (moved_by number id answer) < 2
  moved_left number id = by_moved (Above 2) [] number (λ held refusal. omega arith) id (omega arith)

  -- a piece that fits leaves fewer appends after it
  abbrev pub LeavesFewer : (size : ℕ) → WriteStage → (len : ℕ) → Type 0
  LeavesFewer size (stages.Filling number written) len = written + len ≤ size → pieces_of (most - (written + len)) < pieces_of (most - written)
  LeavesFewer size stage len = Unit {0}

  pub fewer_left : (size : ℕ) (stage : WriteStage) (len : ℕ) (answer : DiskAnswer) → LeavesFewer size stage len
      → writes_left most (next_write size len stage answer) < writes_left most (wants.Disk stage)
  fewer_left size (stages.Making number) len answer fewer = made_left number answer
  fewer_left size (stages.Heading number) len answer fewer = headed_left number answer
  fewer_left size (stages.Filling number written) len answer fewer = filled_left size number written len fewer answer
  fewer_left size (stages.Foldering number id) len answer fewer = foldered_left number id answer
  fewer_left size (stages.Moving number id) len answer fewer = moved_left number id answer
  fewer_left size (stages.Removing number refusal) len answer fewer = omega arith

  by_end : (number written : ℕ) (id : ObjectId) (same : Bool) → writes_left most (wants.Disk (if same then stages.Foldering number id else stages.Removing number (refusals.SizeMismatch written))) < 4
  by_end number written id true = omega arith
  by_end number written id false = omega arith

  pub ended_fewer : (size : ℕ) (id : ObjectId) (number written : ℕ) → writes_left most (wants.Disk (ended_with size id number written)) < 4
  ended_fewer size id number written = by_end number written id (written == size)
