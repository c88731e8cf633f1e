-- Which write a turn is of, what it asks, and what it changes.
use Rattle.std.proofs.Common.{◌≡◌, ◌⊎◌, inl, inr, ℕ, ◌<◌, ◌≤◌, true, List, [], length, take, Option, Some, None, Ok, refl, sym, ap, ◌∙◌, subst, arith}
use Rattle.std.specs.Prelude.{slice_get}
use Rattle.std.proofs.lemmas.Option.{slice_get_within}
use Rattle.odb_base.specs.Path.{Path}
use Rattle.odb_disk.specs.Ask.{answer_now, op_of}
use Rattle.odb_disk.specs.MemDisk.{next_fails}
use Rattle.odb_disk.specs.Tree.{IsTree, Tree}
use Rattle.odb_disk.specs.Tree.Way.{SameOnWay}
use Rattle.odb_disk.specs.declared.ask.DiskAnswer.TheVariants as answers
use Rattle.odb_disk.specs.declared.ask.DiskAsk.TheVariants as asks
use Rattle.odb_disk.specs.declared.change.Change.{Change}
use Rattle.odb_disk.specs.declared.change.Change.TheVariants.{PutFile, MakeDir, Rename, Append, Remove}
use Rattle.odb_disk.proofs.WayWriteLaws.{append_change, make_dir_change, new_file_change, remove_change}
use Rattle.gix_hash.specs.declared.object_id.ObjectId.{ObjectId}
use Rattle.gix_odb_loose.specs.Exchanges.{exchanged}
use Rattle.gix_odb_loose.specs.LooseOrder.{disk_ask_of}
use Rattle.gix_odb_loose.specs.LooseOrder as loose_order
use Rattle.gix_odb_loose.specs.WriteDone.{GetsNameOf, CountsOf, data_at}
use Rattle.gix_odb_loose.specs.WriteOrder.{number_made, prefix_path, temp_path}
use Rattle.gix_odb_loose.specs.declared.call.LooseCall.{LooseCall}
use Rattle.gix_odb_loose.specs.declared.write_order.WriteStage.{WriteStage}
use Rattle.gix_odb_loose.specs.declared.write_order.WriteStage.TheVariants as stages
use Rattle.gix_odb_loose.proofs.WriteMadeLaws.{history_makes}
use Rattle.gix_odb.specs.CallOrder.{result_of_write}
use Rattle.gix_odb_calls.specs.declared.call.Reply.TheVariants as replies
use Rattle.gix_odb_history.specs.declared.record.Did.TheVariants.{Disk}
use Rattle.gix_odb_calls.specs.declared.step.Outcome.TheVariants as outcomes
use Rattle.gix_odb_history.specs.Event.{Event}
use Rattle.gix_odb_events.specs.declared.answer.Ask.TheVariants as work_asks
use Rattle.gix_odb.specs.CallOrder.{loose_ask}
use Rattle.gix_odb_world.specs.Machines.{write_in}
use Rattle.gix_odb_world.specs.Status.{IsAtWrite, Running, Working, status_of}
use Rattle.gix_odb_world.specs.Headline.{outcome_of}
use Rattle.gix_odb_history.specs.Run.{IsTurnOf, TellsCall, change_by, disk_after, tree_at}
use Rattle.gix_odb_world.specs.Running.{Knows, Runs}
use Rattle.gix_odb_world.specs.Running.Write.{IsWriting, write_at, job_to_write}
use Rattle.gix_odb_world.specs.Undisturbed.{HasMade}
use Rattle.gix_odb_history.specs.Writing.{AskedAt, IsMaking, IsNewFile, head_to_write}
use Rattle.gix_odb_world.proofs.LawfulRun.{LawfulRun}
use Rattle.gix_odb_world.proofs.DiskTurns.{CallsDisk}
use Rattle.gix_odb_world.proofs.WriteCalls.{write_calls}
use Rattle.gix_odb_world.proofs.FileSteps.{IsNewAt, WriterMoves, new_at, writer_moves}
use Rattle.gix_odb_world.proofs.OwnFiles.Ends.{moving_ends}
use Rattle.gix_odb_world.proofs.RunSteps.{IsTurned, front_of_front, is_tree_at, there_in_front, there_in_whole}
use Rattle.gix_odb_history.proofs.WriteAsk.{made_done}
use Rattle.gix_odb_world.proofs.WriteTurn.{ask_at_stage, done_at}
use Rattle.gix_odb_world.proofs.WorkLaws.{asks_as_write, ends_as_write, knows_write, quiet_unless_writing}

pub one_event : {A : Type 0} (xs : List A) (place : ℕ) (x y : A) → slice_get xs place ≡ Some x → slice_get xs place ≡ Some y → x ≡ y
one_event xs place x y is other = let both : Some x ≡ Some y = sym is ∙ other in cc both

pub same_tree_on_way : (t u : Tree) (path : Path) → u ≡ t → SameOnWay t u true path
same_tree_on_way t u path same = subst (λ (v : Tree). SameOnWay t v true path) (sym same) (λ q on. refl)

module _ (run : LawfulRun) where
  open run use {first, events, lawful, throughout}

  abbrev tree : ℕ → Tree
  tree = tree_at first events

  pub is_tree : (now : ℕ) → IsTree (tree now)
  is_tree = is_tree_at run

  -- ---- what a write knows

  pub knows_at : (now handle : ℕ) (running : Running) → now ≤ length events → status_of (take now events) handle ≡ Working running
      → Knows first (take now events) handle running running.work
  knows_at now handle running within status = (subst (Runs first (take now events) handle) status (throughout now handle within)).1

  pub writing_at : (now handle : ℕ) (running : Running) (call : LooseCall) → now ≤ length events
      → IsAtWrite (status_of (take now events) handle) running call → IsWriting first (take now events) handle running call
  writing_at now handle running call within at = knows_write first (take now events) handle running running.work (knows_at now handle running within at.works) call at.writes

  pub asked_whole : (handle now place : ℕ) (path : Path) → AskedAt first (take now events) handle place (asks.NewFile path) answers.Done
      → (place < now) × AskedAt first events handle place (asks.NewFile path) answers.Done
  asked_whole handle now place path a =
      let there = there_in_whole events place now a.event a.there in
      let fronts = front_of_front events place now (omega (arith, there.0)) in (
        there.0,
        record {
          event = a.event;
          there = there.1;
          turn = a.turn;
          did = subst (λ es. TellsCall (disk_after first es) (asks.NewFile path) a.event.entry.did) fronts a.did;
          asked = a.asked;
          given = a.given ∙ ap (λ es. answer_now (disk_after first es) (asks.NewFile path)) fronts;
        },
      )

  -- the file of a write past its making
  unfoldable pub made_at_stage : (now handle : ℕ) (running : Running) (call : LooseCall) (at : IsAtWrite (status_of (take now events) handle) running call)
      (writes : IsWriting first (take now events) handle running call) (number : ℕ) → number_made writes.stage ≡ Some number
      → (made : ℕ) × HasMade first events handle made (temp_path running.store.parts.objects number) now
  made_at_stage now handle running call at writes number stage =
      let w = writes.write in
      let among = history_makes (head_to_write w) (GetsNameOf (job_to_write w)) number ⊥ (CountsOf (job_to_write w)) writes.stage (data_at w.bytes writes.stage) writes.stands.past stage
      (done_at first (take now events) handle running.begun writes.own w writes.stage writes.stands).history in
      let asked = writes.stands.asked (exchanged (asks.NewFile (temp_path w.objects number)) answers.Done) among in
      let whole = asked_whole handle now asked.place (temp_path w.objects number) asked.at in (
        asked.place,
        record {
          running = running;
          call = call;
          at = at;
          later = asked.later;
          before = whole.0;
          number = number;
          named = refl;
          makes = subst (λ o. AskedAt first events handle asked.place (asks.NewFile (temp_path o number)) answers.Done) writes.into whole.1;
        },
      )

  -- a write that has made a file is past its making, and the file is that of its stage
  pub stage_of_made : (handle made now : ℕ) (path : Path) (hm : HasMade first events handle made path now) (writes : IsWriting first (take now events) handle hm.running hm.call)
      → (number : ℕ) × (number_made writes.stage ≡ Some number) × (path ≡ temp_path hm.running.store.parts.objects number)
  stage_of_made handle made now path hm writes = by_number (number_made writes.stage) refl making
    where
      new : IsNewAt first events made hm.makes.event path
      new = new_at run handle made path hm.makes

      making : IsMaking writes.write.objects (number_made writes.stage) hm.makes.event.entry.did
      making = writes.stands.made made hm.makes.event hm.later (there_in_front events made now hm.makes.event hm.before hm.makes.there) hm.makes.turn (subst IsNewFile (sym new.put) tt)

      by_number : (number : Option ℕ) → number_made writes.stage ≡ number → IsMaking writes.write.objects number hm.makes.event.entry.did
          → (n : ℕ) × (number_made writes.stage ≡ Some n) × (path ≡ temp_path hm.running.store.parts.objects n)
      by_number None is made_it = absurd made_it
      by_number (Some n) is made_it =
          let both : Disk (op_of (asks.NewFile path)) path (next_fails (disk_after first (take made events)))
          ≡ Disk (op_of (asks.NewFile (temp_path writes.write.objects n))) (temp_path writes.write.objects n) made_it.0 = sym hm.makes.did.1 ∙ made_it.1 in
          (n, is, cc both ∙ ap (λ o. temp_path o n) writes.into)

  -- ---- what a turn of a write changes

  -- a turn of a write changed the tree
  pub record ByWriter (place : ℕ) (e : Event) : Type 0 where
    pub handle : ℕ
    pub turn : IsTurnOf handle e
    pub running : Running
    pub call : LooseCall
    pub at : IsAtWrite (status_of (take place events) handle) running call
    pub writes : IsWriting first (take place events) handle running call
    pub change : Change
    pub is : e.entry.change ≡ Some change
    pub moves : WriterMoves (tree place) running.store.parts.objects writes.stage change

  pub within_events : (place : ℕ) (e : Event) → slice_get events place ≡ Some e → place ≤ length events
  within_events place e there = let inside = slice_get_within events place e there in omega (arith, inside)

  -- what a turn of a write asks, by its stage
  pub ask_of_write : (place : ℕ) (e : Event) (handle : ℕ) (running : Running) (call : LooseCall) → write_in running.work ≡ Some call
      → (writes : IsWriting first (take place events) handle running call)
      (works : CallsDisk first (take place events) handle running e) → works.ask ≡ ask_at_stage writes.write writes.stage
  ask_of_write place e handle running call write writes works =
      let asks_it : Some (work_asks.Disk works.ask) ≡ Some (work_asks.Disk (ask_at_stage writes.write writes.stage)) =
      sym works.asks ∙ (asks_as_write running.store running.work call write ∙ ap (λ f. loose_ask (disk_ask_of f)) writes.is) in
      cc asks_it

  pub moves_of : (place : ℕ) (e : Event) (handle : ℕ) (running : Running) (call : LooseCall) → write_in running.work ≡ Some call
      → (writes : IsWriting first (take place events) handle running call)
      (works : CallsDisk first (take place events) handle running e) (c : Change) → e.entry.change ≡ Some c
      → WriterMoves (tree place) running.store.parts.objects writes.stage c
  moves_of place e handle running call write writes works c is =
      let ask = ask_of_write place e handle running call write writes works in
      subst (λ o. WriterMoves (tree place) o writes.stage c) writes.into
      (writer_moves (disk_after first (take place events)) writes.write writes.stage c (ap (change_by (disk_after first (take place events))) (sym ask) ∙ (sym works.changed ∙ is)))

  pub quiet_or_writer : (place : ℕ) (e : Event) (there : slice_get events place ≡ Some e) (t : IsTurned first (take place events) e)
      → (e.entry.change ≡ None) ⊎ ByWriter place e
  quiet_or_writer place e there t = by_change e.entry.change refl
    where
      past : List Event
      past = take place events

      knows : Knows first past t.handle t.running t.running.work
      knows = knows_at place t.handle t.running (within_events place e there) t.turn.status

      by_write : (c : Change) → e.entry.change ≡ Some c → (write : Option LooseCall) → write_in t.running.work ≡ write
          → (e.entry.change ≡ None) ⊎ ByWriter place e
      by_write c is None none = inl (t.works.changed ∙ quiet_unless_writing first past t.handle t.running t.running.work knows t.works.ask none t.works.asks)
      by_write c is (Some call) write =
          let writes : IsWriting first past t.handle t.running call = knows_write first past t.handle t.running t.running.work knows call write in
          inr (record {
            handle = t.handle;
            turn = t.turn.turn;
            running = t.running;
            call = call;
            at = record { works = t.turn.status; writes = write };
            writes = writes;
            change = c;
            is = is;
            moves = moves_of place e t.handle t.running call write writes t.works c is;
          })

      by_change : (change : Option Change) → e.entry.change ≡ change → (e.entry.change ≡ None) ⊎ ByWriter place e
      by_change None is = inl is
      by_change (Some c) is = by_write c is (write_in t.running.work) refl

  -- a turn of a write that renames is its last, and says that the object is written
  pub rename_ends : (place : ℕ) (e : Event) → slice_get events place ≡ Some e → (handle : ℕ) (running : Running) (call : LooseCall)
      → IsAtWrite (status_of (take place events) handle) running call → IsTurnOf handle e → (from to : Path)
      → e.entry.change ≡ Some (Rename from to) → (id : ObjectId) × (e.outcome ≡ outcomes.Reply (replies.Wrote id))
  rename_ends place e there handle running call at turn from to moves = by_stage writes.stage refl (moves_of place e handle running call at.writes writes works (Rename from to) moves)
    where
      objects : Path
      objects = running.store.parts.objects

      writes : IsWriting first (take place events) handle running call
      writes = writing_at place handle running call (within_events place e there) at

      works : CallsDisk first (take place events) handle running e
      works =
          write_calls first (take place events) handle running e ((lawful place e there).worked handle running (record { turn = turn; status = at.works }))
          call at.writes writes

      by_stage : (stage : WriteStage) → writes.stage ≡ stage → WriterMoves (tree place) objects stage (Rename from to)
          → (id : ObjectId) × (e.outcome ≡ outcomes.Reply (replies.Wrote id))
      by_stage (stages.Making n) stage made = let c = new_file_change (tree place) (temp_path objects n) (Rename from to) made in absurd (let both : Rename from to ≡ PutFile c.0 0 [] = c.2 in cc both)
      by_stage (stages.Heading n) stage made = let c = append_change (tree place) (temp_path objects n) (Rename from to) made.0 made.1 in absurd
          (let both : Rename from to ≡ Append c.0 made.0 = c.2 in cc both)
      by_stage (stages.Filling n written) stage made = let c = append_change (tree place) (temp_path objects n) (Rename from to) made.0 made.1 in absurd
          (let both : Rename from to ≡ Append c.0 made.0 = c.2 in cc both)
      by_stage (stages.Foldering n id) stage made = let c = make_dir_change (tree place) (prefix_path objects id) (Rename from to) made in absurd
          (let both : Rename from to ≡ MakeDir c.0 _ = c.2 in cc both)
      by_stage (stages.Removing n refusal) stage made = let c = remove_change (tree place) (temp_path objects n) (Rename from to) made in absurd
          (let both : Rename from to ≡ Remove c.0 = c.2 in cc both)
      by_stage (stages.Moving n id) stage made =
          let now : call ≡ write_at writes.write (stages.Moving n id) = writes.is ∙ ap (write_at writes.write) stage in
          let disk = disk_after first (take place events) in
          let done : answer_now disk works.ask ≡ answers.Done = made_done disk works.ask (Rename from to) (sym works.changed ∙ moves) in
          let ends : result_of_write (loose_order.fed call (answer_now disk works.ask)) ≡ Ok (replies.Wrote id) =
          ap (λ f. result_of_write (loose_order.fed f (answer_now disk works.ask))) now
          ∙ (ap (λ a. result_of_write (loose_order.fed (write_at writes.write (stages.Moving n id)) a)) done ∙ moving_ends writes.write n id) in
          (id, works.goes ∙ ap outcome_of (ends_as_write running.store running.work call (answer_now disk works.ask) (replies.Wrote id) at.writes ends))
