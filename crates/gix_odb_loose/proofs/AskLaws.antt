-- Two writes of the same data under the same name that got the same answers so far ask the same next. For callers.
use Rattle.std.specs.Prelude.{◌≡◌, List, [], ◌∷◌, ◌++◌, Some, Result, refl}
use Rattle.std.proofs.Common.{sym, ap, ◌∙◌, subst, append-nil, append_assoc}
use Rattle.std.proofs.lemmas.List.{map-append}
use Rattle.odb_disk.specs.declared.ask.DiskAsk.{DiskAsk}
use Rattle.odb_disk.specs.declared.ask.DiskAnswer.{DiskAnswer}
use Rattle.gix_hash.specs.declared.object_id.ObjectId.{ObjectId}
use Rattle.gix_odb_loose.specs.Exchanges.{Exchange, exchanged}
use Rattle.gix_odb_loose.specs.LooseOrder.{stage_ask, next_stage, written_to}
use Rattle.gix_odb_loose.specs.WriteAsks.{next_asks, onward_by, onward_along, asks_along, asks_in, answers_in, IsAlong, IsCallAlong}
use Rattle.gix_odb_loose.specs.WriteJobs.{ask_in, next_in, advance_to}
use Rattle.gix_odb_loose.specs.WriteOrder.{wrote_by}
use Rattle.gix_odb_loose.specs.declared.call.Stage.{Stage as CallStage}
use Rattle.gix_odb_loose.specs.declared.call.Stage.TheVariants as calls
use Rattle.gix_odb_loose.specs.declared.write_order.Refusal.{Refusal}
use Rattle.gix_odb_loose.specs.declared.write_at_hand.Onward.{Onward}
use Rattle.gix_odb_loose.specs.declared.write_at_hand.Onward.TheVariants.{Stage, End}
use Rattle.gix_odb_loose.specs.declared.write_order.WriteStage.{WriteStage}
use Rattle.gix_odb_loose.specs.declared.write_at_hand.WriteJob.{WriteJob}

module _ (job : WriteJob) where
  -- ---- one answer more

  onward_push : (onward : Onward) (given : List DiskAnswer) (answer : DiskAnswer) → onward_along job onward (given ++ answer ∷ []) ≡ onward_by job (onward_along job onward given) answer
  unfolding onward_along
  onward_push onward [] answer = refl
  onward_push onward (first ∷ given) answer = onward_push (onward_by job onward first) given answer

  asks_push : (onward : Onward) (given : List DiskAnswer) (answer : DiskAnswer)
      → asks_along job onward (given ++ answer ∷ []) ≡ asks_along job onward given ++ next_asks job (onward_along job onward given)
  unfolding onward_along asks_along
  asks_push onward [] answer = append-nil (next_asks job onward)
  asks_push onward (first ∷ given) answer =
      ap (λ (xs : List DiskAsk). next_asks job onward ++ xs) (asks_push (onward_by job onward first) given answer)
      ∙ sym (append_assoc (next_asks job onward) (asks_along job (onward_by job onward first) given) (next_asks job (onward_along job (onward_by job onward first) given)))

  -- a write that has asked nothing
  pub IsAlong-start : IsAlong job (Stage job.stage) []
  unfolding onward_along asks_along
  IsAlong-start = record { reached = refl; asked = refl }

  -- the answer to the next call leads on
  pub IsAlong-next : (stage : WriteStage) (past : List Exchange) (answer : DiskAnswer) → IsAlong job (Stage stage) past
      → IsAlong job (next_in (record job { stage = stage }) answer) (past ++ exchanged (ask_in (record job { stage = stage })) answer ∷ [])
  IsAlong-next stage past answer along =
      record {
        reached =
            ap (λ (o : Onward). onward_by job o answer) along.reached
            ∙ sym (onward_push (Stage job.stage) (answers_in past) answer)
            ∙ ap (onward_along job (Stage job.stage)) (sym (map-append (λ (x : Exchange). x.answer) past (last ∷ [])));
        asked =
            map-append (λ (x : Exchange). x.ask) past (last ∷ [])
            ∙ ap (λ (xs : List DiskAsk). xs ++ ask_in (record job { stage = stage }) ∷ []) along.asked
            ∙ ap (λ (o : Onward). asks_along job (Stage job.stage) (answers_in past) ++ next_asks job o) along.reached
            ∙ sym (asks_push (Stage job.stage) (answers_in past) answer)
            ∙ ap (asks_along job (Stage job.stage)) (sym (map-append (λ (x : Exchange). x.answer) past (last ∷ [])));
      }
    where
      last : Exchange
      last = exchanged (ask_in (record job { stage = stage })) answer

  -- ---- the same answers

  -- Two writes with the same answers made the same calls, and are at the same stage or end.
  pub asked_same : (onward other : Onward) (past others : List Exchange) → IsAlong job onward past → IsAlong job other others → answers_in past ≡ answers_in others → asks_in past ≡ asks_in others
  asked_same onward other past others along along' same = along.asked ∙ ap (asks_along job (Stage job.stage)) same ∙ sym along'.asked

  pub onward_same : (onward other : Onward) (past others : List Exchange) → IsAlong job onward past → IsAlong job other others → answers_in past ≡ answers_in others → onward ≡ other
  onward_same onward other past others along along' same = along.reached ∙ ap (onward_along job (Stage job.stage)) same ∙ sym along'.reached

  -- a write that has ended asks nothing
  pub nothing_behind : (end : Result ObjectId Refusal) (given : List DiskAnswer) → asks_along job (End end) given ≡ []
  unfolding asks_along
  nothing_behind end [] = refl
  nothing_behind end (answer ∷ given) = nothing_behind end given

  -- each call is the one that the answers led to
  abbrev Asked : Onward → List Exchange → Type 0
  Asked onward past = asks_in past ≡ asks_along job onward (answers_in past)

  next_same : (onward : Onward) (x y : Exchange) (past others : List Exchange) → Asked onward (x ∷ past) → Asked onward (y ∷ others) → x.ask ≡ y.ask
  unfolding asks_along
  next_same (Stage stage) x y past others asked asked' =
      let one : x.ask ≡ ask_in (record job { stage = stage }) = cc asked in
      let two : y.ask ≡ ask_in (record job { stage = stage }) = cc asked' in
      one ∙ sym two
  next_same (End end) x y past others asked asked' = absurd (let none : x.ask ∷ asks_in past ≡ [] = asked ∙ nothing_behind end (answers_in past) in cc none)

  asked_behind : (onward : Onward) (x : Exchange) (past : List Exchange) → Asked onward (x ∷ past) → Asked (onward_by job onward x.answer) past
  unfolding asks_along
  asked_behind (Stage stage) x past asked = cc asked
  asked_behind (End end) x past asked = absurd (let none : x.ask ∷ asks_in past ≡ [] = asked ∙ nothing_behind end (answers_in past) in cc none)

  both_next : (onward : Onward) (past others : List Exchange) (x y : Exchange) (more rest : List Exchange) → answers_in past ≡ answers_in others → Asked onward (past ++ x ∷ more)
      → Asked onward (others ++ y ∷ rest) → x.ask ≡ y.ask
  both_next onward [] [] x y more rest same asked asked' = next_same onward x y more rest asked asked'
  both_next onward [] (b ∷ others) x y more rest same asked asked' = absurd (cc same)
  both_next onward (a ∷ past) [] x y more rest same asked asked' = absurd (cc same)
  both_next onward (a ∷ past) (b ∷ others) x y more rest same asked asked' =
      let first : a.answer ≡ b.answer = cc same in
      let behind : answers_in past ≡ answers_in others = cc same in
      both_next (onward_by job onward a.answer) past others x y more rest behind (asked_behind onward a (past ++ x ∷ more) asked)
      (subst (λ (g : DiskAnswer). Asked (onward_by job onward g) (others ++ y ∷ rest)) (sym first) (asked_behind onward b (others ++ y ∷ rest) asked'))

  -- Two writes that got the same answers so far ask the same next, whatever follows.
  pub next_ask_same : (onward other : Onward) (past others : List Exchange) (x y : Exchange) (more rest : List Exchange) → IsAlong job onward (past ++ x ∷ more)
      → IsAlong job other (others ++ y ∷ rest) → answers_in past ≡ answers_in others → x.ask ≡ y.ask
  next_ask_same onward other past others x y more rest along along' same = both_next (Stage job.stage) past others x y more rest same along.asked along'.asked

  -- ---- a call with its data in memory

  call_along : (now : WriteJob) (onward : Onward) (past : List Exchange) → now ≡ record job { stage = now.stage } → IsAlong job onward past
      → IsCallAlong job (written_to now (advance_to now onward)) past
  call_along now (Stage stage) past same along = (ap (λ (j : WriteJob). record j { stage = stage }) same, along)
  call_along now (End end) past same along = (end, ap (λ (j : WriteJob). wrote_by j.head end) same, along)

  -- The answer to its call leads it on.
  pub IsCallAlong-next : (stage : CallStage) (past : List Exchange) (ask : DiskAsk) (answer : DiskAnswer) → stage_ask stage ≡ Some ask → IsCallAlong job stage past
      → IsCallAlong job (next_stage stage answer) (past ++ exchanged ask answer ∷ [])
  IsCallAlong-next (calls.Asking want path limit) past ask answer asked h = absurd h
  IsCallAlong-next (calls.Searching search) past ask answer asked h = absurd h
  IsCallAlong-next (calls.Done reply) past ask answer asked h = absurd (cc asked)
  IsCallAlong-next (calls.Writing now) past ask answer asked h =
      let same : ask_in now ≡ ask = cc asked in
      call_along now (next_in now answer) (past ++ exchanged ask answer ∷ []) h.0
      (subst (λ (j : WriteJob). IsAlong job (next_in j answer) (past ++ exchanged ask answer ∷ [])) (sym h.0)
      (subst (λ (a : DiskAsk). IsAlong job (next_in (record job { stage = now.stage }) answer) (past ++ exchanged a answer ∷ [])) (ap ask_in (sym h.0) ∙ same)
      (IsAlong-next now.stage past answer h.1)))

-- A call that is to write has asked nothing.
pub IsCallAlong-start : (job : WriteJob) → IsCallAlong job (calls.Writing job) []
IsCallAlong-start job = (refl, IsAlong-start job)
