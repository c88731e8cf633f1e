-- A turn of a running write leads it on, or to its reply, whatever comes before it.
use Rattle.std.proofs.Common.{◌≡◌, ℕ, ◌+◌, ◌*◌, ◌<◌, ◌≤◌, List, [], ◌∷◌, ◌++◌, length, Result, Ok, Err, refl, sym, ap, ◌∙◌, subst, arith}
use Rattle.odb_disk.specs.Ask.{answer_now}
use Rattle.odb_disk.specs.MemDisk.{Volume}
use Rattle.std.proofs.Math.Nat.{mul-le-mul}
use Rattle.std.proofs.lemmas.List.{length_push}
use Rattle.odb_disk.specs.declared.ask.DiskAnswer.{DiskAnswer}
use Rattle.odb_disk.specs.declared.ask.DiskAsk.{DiskAsk}
use Rattle.gix_odb_events.specs.declared.answer.Answer.TheVariants as answers
use Rattle.gix_odb_events.specs.declared.answer.Ask.TheVariants as parts
use Rattle.gix_odb.specs.LookExchanges.{Exchange}
use Rattle.gix_odb.specs.RefreshOrder.{IsReady}
use Rattle.gix_odb.specs.Store.{listed_for}
use Rattle.gix_odb.proofs.RefreshLaws.{a_ready_refresh_asks_nothing, a_ready_step_stays}
use Rattle.gix_odb_loose.specs.LooseOrder as loose_order
use Rattle.gix_odb_loose.specs.LooseOrder.{written_to}
use Rattle.gix_odb_loose.specs.WriteJobs.{advance_to, next_in, pieces_of, writes_left}
use Rattle.gix_odb_loose.specs.declared.call.LooseCall.{LooseCall}
use Rattle.gix_odb_loose.specs.declared.write_at_hand.Onward.{Onward}
use Rattle.gix_odb_loose.specs.declared.write_at_hand.Onward.TheVariants.{Stage, End}
use Rattle.gix_odb_loose.specs.declared.write_at_hand.WriteJob.{WriteJob}
use Rattle.gix_odb_loose.specs.declared.write_order.WriteAsk.TheVariants as wants
use Rattle.gix_odb_loose.specs.declared.write_order.WriteStage.{WriteStage}
use Rattle.gix_odb_loose.specs.declared.write_order.WriteStage.TheVariants.{Making}
use Rattle.gix_odb_loose.proofs.WriteDoneLaws.{IsAlong-left}
use Rattle.gix_odb_calls.specs.declared.call.Reply.{Reply}
use Rattle.gix_odb.specs.declared.call_state.CallStage.TheVariants.{Writing}
use Rattle.gix_odb_world.specs.Work.{Calling}
use Rattle.gix_odb.specs.Laps.{turns_of_lap}
use Rattle.gix_odb_world.specs.Bound.{HasAtMost, bound_of_task, laps_without_change, turns_beside_pieces}
use Rattle.gix_odb.specs.CallOrder.{result_of_write}
use Rattle.gix_odb.specs.Contents.{folder_list}
use Rattle.gix_odb_history.specs.Event.{Event, OfDisk}
use Rattle.gix_odb_world.specs.Status.{MakeCall, Running, gone_on}
use Rattle.gix_odb_world.specs.Promise.{Promise}
use Rattle.gix_odb_history.specs.Run.{disk_after, tree_at}
use Rattle.gix_odb_world.specs.Running.Write.{IsAtOwnWrite, IsWriting, KnowsOfWrite, own_result, writing}
use Rattle.gix_odb_world.specs.Told.{refresh_now, told_since, turns_in_front}
use Rattle.gix_odb_history.specs.Writing.{ToWrite, call_to_write, head_to_write, to_write}
use Rattle.gix_odb_world.specs.Written.{PromiseOfWrite}
use Rattle.gix_odb_world.proofs.FrontLemmas.{front_ended, now_more}
use Rattle.gix_odb_world.proofs.MachineLaws as laws
use Rattle.gix_odb_world.proofs.ToldLemmas.{told_turn}
use Rattle.gix_odb_world.proofs.ToldWell.{most_before}
use Rattle.gix_odb_world.proofs.WriteTurn.{ask_at_stage, stage_goes}
use Rattle.gix_odb_world.proofs.WriteTurn.Common.{IsTurnWith, TurnOfWrite, call_at}
use Rattle.gix_odb_world.proofs.WriteTurn.Comes.{Goes}

abbrev job_at : ToWrite → WriteStage → WriteJob
job_at w stage = record { head = head_to_write w; stage = stage; bytes = w.bytes; hash = w.hash; known = w.known }

-- The most calls of the disk of a write besides those of its pieces: one for each temporary name, and some more. It is the measure of
-- the calls that are left to a write of no bytes at its beginning.
abbrev calls_beside_pieces : ℕ
calls_beside_pieces = writes_left 0 (wants.Disk (Making 0))

-- they are fewer than the bound has for them, and it has one turn for each piece too, and laps for the refresh before it
few_writes : (front turns pieces laps : ℕ) → front ≤ laps → turns + 1 ≤ calls_beside_pieces + pieces → (front + turns) + 1 < laps + (turns_beside_pieces + pieces)
few_writes front turns pieces laps lead few = omega arith

-- a call has at least one lap
pub more_laps : (changes lap : ℕ) → lap ≤ (changes + laps_without_change) * lap
more_laps changes lap =
    let one : 1 ≤ changes + laps_without_change = omega arith in
    let same : lap ≤ lap = omega arith in
    let both : 1 * lap ≤ (changes + laps_without_change) * lap = mul-le-mul one same in
    omega (arith, both)

-- ---- the whole turn, whatever comes before the write

module _ (first : Volume) (events : List Event) (e : Event) (handle : ℕ) (running : Running) (since : running.begun ≤ length events) where
  abbrev whole : List Event
  whole = events ++ e ∷ []

  module _ (call : LooseCall) (writes : IsWriting first events handle running call) where
    abbrev w : ToWrite
    w = writes.write

    -- a write that goes on has had one more turn of its own, and not too many
    pub record StageComes (next : LooseCall) : Type 0 where
      pub now : IsWriting first whole handle (gone_on (OfDisk (ask_at_stage w writes.stage) (answer_now (disk_after first events) (ask_at_stage w writes.stage))) running (Calling (Writing next))) next
      pub same : now.write ≡ w
      pub had : now.own ≡ writes.own + 1
      pub few : writes.own + 1 ≤ calls_beside_pieces + pieces_of (length w.bytes)

    -- it keeps its promise, or goes on
    abbrev pub WriteComes : Result Reply LooseCall → Type 0
    WriteComes (Ok reply) = PromiseOfWrite first whole handle running.store running.modes running.begun w reply
    WriteComes (Err next) = StageComes next

    module _ (is : IsTurnWith first events e handle (ask_at_stage w writes.stage)) where
      abbrev given : DiskAnswer
      given = answer_now (disk_after first events) (ask_at_stage w writes.stage)

      abbrev turn : TurnOfWrite
      turn = record { first = first; events = events; e = e; handle = handle; begun = running.begun; turns = writes.own; w = w; since = since }

      abbrev WriteGoes : Onward → Type 0
      WriteGoes onward = Goes turn (call_at turn writes.stage writes.stands (ask_at_stage w writes.stage) is given refl) onward

      onward_comes : (onward : Onward) → WriteGoes onward → WriteComes (result_of_write (record { stage = written_to (job_at w writes.stage) (advance_to (job_at w writes.stage) onward) }))
      onward_comes (Stage stage) goes =
          let few = IsAlong-left (head_to_write w) (w.hash) w.known w.bytes (Stage stage) goes.past goes.along in
          record {
            now = record { write = w; into = writes.into; hashed = writes.hashed; fits = writes.fits; stage = stage; is = refl; own = writes.own + 1; stands = goes };
            same = refl;
            had = refl;
            few = omega (arith, few, goes.had);
          }
      onward_comes (End (Ok id)) goes = goes
      onward_comes (End (Err refusal)) goes = goes

      pub write_goes : WriteComes (result_of_write (loose_order.fed call given))
      write_goes =
          subst (λ (f : LooseCall). WriteComes (result_of_write (loose_order.fed f given))) (sym writes.is)
          (onward_comes (next_in (job_at w writes.stage) given) (stage_goes turn writes.stage writes.stands is given refl))

  -- ---- after the refresh before it

  module _ (call : LooseCall) (at : IsAtOwnWrite first events handle running call) (is : IsTurnWith first events e handle (ask_at_stage at.writing.write at.writing.stage)) where
    abbrev own : IsWriting first events handle running call
    own = at.writing

    abbrev ask : DiskAsk
    ask = ask_at_stage own.write own.stage

    abbrev told : Exchange
    told = record { ask = parts.Disk ask; answer = answers.Disk (answer_now (disk_after first events) ask) }

    abbrev Most : ℕ → Type 0
    Most entries = HasAtMost (tree_at first whole) running.store.parts running.begun (length whole) entries

    abbrev lap : (entries : ℕ) → ℕ
    lap entries = turns_of_lap running.modes.slots (length (folder_list running.store.parts)) entries

    more : told_since whole handle running.begun ≡ told_since events handle running.begun ++ told ∷ []
    more = told_turn events e handle running.begun at.since is.turn (OfDisk ask (answer_now (disk_after first events) ask)) is.asked told refl

    -- the refresh before it is still ready, and took no more turns
    ready : IsReady (refresh_now whole handle running.store running.modes running.begun)
    ready =
        subst IsReady
        (sym
        (now_more events e handle running.store running.modes running.begun at.since told more
        ∙ a_ready_step_stays running.store.parts.objects (listed_for running.store.parts) (refresh_now events handle running.store running.modes running.begun)
        at.ready told.answer))
        at.ready

    front : turns_in_front whole handle running.store running.modes running.begun ≡ turns_in_front events handle running.store running.modes running.begun
    front = front_ended events e handle running.store running.modes running.begun at.since told more (a_ready_refresh_asks_nothing (refresh_now events handle running.store running.modes running.begun) at.ready)

    short : (entries : ℕ) → Most entries → turns_in_front events handle running.store running.modes running.begun ≤ lap entries
    short entries most = at.short entries (most_before first events e running.store running.begun entries most)

    in_time : own.own + 1 ≤ calls_beside_pieces + pieces_of (length own.write.bytes) → laws.InTime first events e handle running bound_of_task
    in_time few entries most =
        let had = at.turns in
        let lead = short entries (subst (λ n. HasAtMost (tree_at first whole) running.store.parts running.begun n entries) (sym (length_push events e)) most) in
        let wide = more_laps running.store.max_changes (lap entries) in
        let goes =
        few_writes (turns_in_front events handle running.store running.modes running.begun) own.own (pieces_of (length own.write.bytes))
        ((running.store.max_changes + laps_without_change) * lap entries) (omega (arith, lead, wide)) few in
        subst (λ task. running.turns + 1 < bound_of_task running.store running.modes task entries) (sym at.task)
        (subst (λ n. n + 1 < (running.store.max_changes + laps_without_change) * lap entries + (turns_beside_pieces + pieces_of (length own.write.bytes))) (sym had) goes)

    -- what the write promises, into the objects directory of its store
    keeps : (reply : Reply) → PromiseOfWrite first whole handle running.store running.modes running.begun own.write reply → laws.Keeps first events e handle running reply
    keeps reply p =
        subst (λ task. Promise first whole handle running.store running.modes running.begun task reply) (sym at.task)
        (subst (λ hash. PromiseOfWrite first whole handle running.store running.modes running.begun (to_write running.store.parts.objects hash own.write.kind own.write.size own.write.bytes own.write.known) reply) own.hashed
        (subst (λ objects. PromiseOfWrite first whole handle running.store running.modes running.begun (to_write objects own.write.hash own.write.kind own.write.size own.write.bytes own.write.known) reply) own.into p))

    comes_to : (result : Result Reply LooseCall) → WriteComes call own result
        → laws.MachineComes first events e handle running writing KnowsOfWrite (OfDisk ask (answer_now (disk_after first events) ask)) (own_result result)
    comes_to (Ok reply) p = keeps reply p
    comes_to (Err next) on =
        let had = at.turns in
        let added = on.had in
        let same = front in
        let since = at.since in
        let longer = length_push events e in
        let count : running.turns + 1 ≡ turns_in_front whole handle running.store running.modes running.begun + on.now.own = omega (arith, had, added, same) in (
          record {
            writing = on.now;
            task = at.task ∙ ap (λ w. MakeCall (call_to_write w)) (sym on.same);
            since = omega (arith, since, longer);
            ready = ready;
            turns = count;
            short = λ entries most. subst (λ n. n ≤ lap entries) (sym front) (short entries most);
          },
          in_time on.few,
        )

    pub write_comes : laws.MachineComes first events e handle running writing KnowsOfWrite (OfDisk ask (answer_now (disk_after first events) ask))
        (own_result (result_of_write (loose_order.fed call (answer_now (disk_after first events) ask))))
    write_comes = comes_to (result_of_write (loose_order.fed call (answer_now (disk_after first events) ask))) (write_goes call own is)
