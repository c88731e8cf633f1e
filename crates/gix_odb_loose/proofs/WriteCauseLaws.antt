-- The cause of a refused write is in its exchanges, or in the source of its data.
use Rattle.std.specs.Prelude.{◌≡◌, ◌⊎◌, ℕ, zero, suc, ◌<◌, List, [], ◌∷◌, ◌++◌, map, All, Contains, slice_index_or, refl}
use Rattle.std.proofs.Common.{inl, inr, sym, subst, arith}
use Rattle.std.proofs.lemmas.Bool.{cases_lt}
use Rattle.std.proofs.lemmas.List.{length-map, get_or-map}
use Rattle.std.proofs.lemmas.List.Elements.{Contains-append_left, Contains-append_right}
use Rattle.odb_disk.specs.declared.ask.DiskAsk.{DiskAsk}
use Rattle.odb_disk.specs.declared.ask.DiskAsk.TheVariants as asks
use Rattle.odb_disk.specs.declared.ask.DiskAnswer.{DiskAnswer}
use Rattle.odb_disk.specs.declared.ask.DiskAnswer.TheVariants as answers
use Rattle.odb_disk.specs.declared.disk_error.DiskError.TheVariants as disk_errors
use Rattle.gix_hash.specs.declared.object_id.ObjectId.{ObjectId}
use Rattle.gix_odb_loose.specs.Causes.{AppendsOther}
use Rattle.gix_odb_loose.proofs.CauseLaws.Write.{WriteCause-wider}
use Rattle.gix_odb_loose.specs.Exchanges.{Exchange, exchanged}
use Rattle.gix_odb_loose.specs.WriteOrder.{temp_names, temp_path, prefix_path, write_ask, error_from}
use Rattle.gix_odb_loose.specs.WriteHistory.WentWell.{tried, made, headed, IsFilled, IsFoldered, IsThere}
use Rattle.gix_odb_loose.specs.WriteHistory.Refused.{IsRefused, RefusedIn, TakenIn, DoneIn, WantedIn, HasCauseIn}
use Rattle.gix_odb_loose.specs.WriteHistory.{IsAnswered, Wants, IsStopped, IsUnmade, IsRefusedRun}
use Rattle.gix_odb_loose.specs.WriteStreams.{CountsOther}
use Rattle.gix_odb_loose.specs.declared.write.Error.{Error}
use Rattle.gix_odb_loose.specs.declared.write.Message.TheVariants as messages
use Rattle.gix_odb_loose.specs.declared.write_order.Refusal.{Refusal}
use Rattle.gix_odb_loose.specs.declared.write_order.Refusal.TheVariants as refusals
use Rattle.gix_odb_loose.specs.declared.write_order.WriteHead.{WriteHead}
use Rattle.gix_odb_loose.specs.declared.write_order.WriteStage.{WriteStage}
use Rattle.gix_odb_loose.specs.declared.write_order.WriteStage.TheVariants as stages

-- the last exchange is one of them
last_in : (past : List Exchange) (x : Exchange) → Contains (past ++ x ∷ []) x
last_in past x = Contains-append_right past (x ∷ []) x (0, omega arith, refl)

-- each name below a number was taken
tried_in : (head : WriteHead) (number below : ℕ) → below < number → TakenIn (tried head number) (asks.NewFile (temp_path head.objects below))
unfolding tried
tried_in head zero below less = absurd (omega arith)
tried_in head (suc number) below less =
    elim (cases_lt below number) [
      | inl lower ↦ Contains-append_left (tried head number) _ _ (tried_in head number below lower)
      | inr same ↦
          let is : number ≡ below = omega arith in
          subst (λ (n : ℕ). TakenIn (tried head number ++ exchanged (asks.NewFile (temp_path head.objects number)) (answers.Refused disk_errors.Exists) ∷ [])
          (asks.NewFile (temp_path head.objects n))) is
          (last_in (tried head number) (exchanged (asks.NewFile (temp_path head.objects number)) (answers.Refused disk_errors.Exists)))
    ]

module _ (head : WriteHead) (number : ℕ) where
  abbrev new_file : DiskAsk
  new_file = asks.NewFile (temp_path head.objects number)

  made_in : DoneIn (made head number) new_file
  made_in = last_in (tried head number) (exchanged new_file answers.Done)

  filled_in : (appended : List ℕ) (past : List Exchange) → IsFilled head number appended past → DoneIn past new_file
  filled_in appended past h =
      subst (λ (xs : List Exchange). DoneIn xs new_file) (sym h.is) (Contains-append_left (headed head number) _ _ (Contains-append_left (made head number) _ _ made_in))

  abbrev appended_as : List ℕ → Exchange
  appended_as piece = exchanged (asks.Append (temp_path head.objects number) piece) answers.Done

  -- each piece was appended
  pieces_in : (appended : List ℕ) (past : List Exchange) (h : IsFilled head number appended past) → All (λ (piece : List ℕ). DoneIn past (asks.Append (temp_path head.objects number) piece)) h.pieces
  pieces_in appended past h = λ k d less.
      let piece : List ℕ = slice_index_or h.pieces k d in
      subst (λ (xs : List Exchange). Contains xs (appended_as piece)) (sym h.is)
      (Contains-append_right (headed head number) (map appended_as h.pieces) (appended_as piece)
      (k, omega (arith, less, length-map h.pieces appended_as), get_or-map appended_as h.pieces k d (appended_as piece) less))

  foldered_in : (id : ObjectId) (appended : List ℕ) (past : List Exchange) → IsFoldered head number id appended past → DoneIn past new_file
  foldered_in id appended past h = subst (λ (xs : List Exchange). DoneIn xs new_file) (sym h.is) (Contains-append_left h.before _ _ (filled_in appended h.before h.filled))

  abbrev folder : ObjectId → DiskAsk
  folder id = asks.MakeDir (prefix_path head.objects id)

  -- the directory was made or was there
  there_in : (id : ObjectId) (appended : List ℕ) (past : List Exchange) → IsFoldered head number id appended past
      → DoneIn past (asks.MakeDir (prefix_path head.objects id)) ⊎ TakenIn past (asks.MakeDir (prefix_path head.objects id))
  there_in id appended past h = by_answer h.answer h.there h.is
    where
      by_answer : (answer : DiskAnswer) → IsThere answer → past ≡ h.before ++ exchanged (folder id) answer ∷ [] → DoneIn past (folder id) ⊎ TakenIn past (folder id)
      by_answer answers.Done there is = inl (subst (λ (xs : List Exchange). DoneIn xs (folder id)) (sym is) (last_in h.before (exchanged (folder id) answers.Done)))
      by_answer (answers.Refused disk_errors.Exists) there is =
          inr (subst (λ (xs : List Exchange). TakenIn xs (folder id)) (sym is) (last_in h.before (exchanged (folder id) (answers.Refused disk_errors.Exists))))
      by_answer (answers.Refused disk_errors.Absent) there is = absurd there
      by_answer (answers.Refused disk_errors.WrongKind) there is = absurd there
      by_answer (answers.Refused disk_errors.LinkLoop) there is = absurd there
      by_answer (answers.Refused disk_errors.NotEmpty) there is = absurd there
      by_answer (answers.Refused disk_errors.Failed) there is = absurd there
      by_answer (answers.Refused disk_errors.NoMemory) there is = absurd there
      by_answer (answers.Meta meta) there is = absurd there
      by_answer (answers.Dir dir) there is = absurd there
      by_answer (answers.Entry entry) there is = absurd there
      by_answer answers.End there is = absurd there
      by_answer (answers.File bytes time) there is = absurd there

module _ (head : WriteHead) (Named : ObjectId → Type 0) (SourceFailed : Type 0) (Counted : ℕ → Type 0) where
  abbrev Caused : List Exchange → Error → Type 0
  Caused past error = HasCauseIn head Named SourceFailed Counted past error

  -- a cause stays one
  cause_stays : (past more : List Exchange) (error : Error) → Caused past error → Caused (past ++ more) error
  cause_stays past more error h =
      WriteCause-wider head (RefusedIn past) (RefusedIn (past ++ more)) (TakenIn past) (TakenIn (past ++ more)) (DoneIn past) (DoneIn (past ++ more))
      (λ ask making r. (r.0, Contains-append_left past more _ r.1, r.2)) (λ ask t. Contains-append_left past more _ t)
      (λ ask d. Contains-append_left past more _ d) SourceFailed SourceFailed (λ f. f) Named Named (λ id n. n) (WantedIn past) (WantedIn (past ++ more))
      (λ w. (w.0, Contains-append_left past more _ w.1)) Counted Counted (λ n k. k) error h

  -- what the last answer shows
  module _ (stage : WriteStage) (past : List Exchange) where
    abbrev Shown : (DiskAsk → DiskAnswer → Type 0) → Type 0
    Shown So = IsAnswered head Named So stage past

    -- the ask of this stage, answered so
    abbrev asked : List ℕ → DiskAnswer → Exchange
    asked piece answer = exchanged (write_ask head piece stage) answer

    refused_in : (h : Shown IsRefused) → RefusedIn past (write_ask head h.piece stage)
    refused_in h =
        (h.answer, subst (λ (xs : List Exchange). Contains xs (asked h.piece h.answer)) (sym h.is) (last_in h.before (asked h.piece h.answer)), h.so)

    wanted_in : Shown Wants → WantedIn past
    wanted_in h = (
      write_ask head h.piece stage,
      subst (λ (xs : List Exchange). Contains xs (asked h.piece (answers.Refused disk_errors.NoMemory))) (sym h.is)
          (subst (λ (a : DiskAnswer). Contains (h.before ++ asked h.piece h.answer ∷ []) (asked h.piece a)) h.so (last_in h.before (asked h.piece h.answer))),
    )

    -- what was seen before it
    before_in : (So : DiskAsk → DiskAnswer → Type 0) (h : Shown So) (x : Exchange) → Contains h.before x → Contains past x
    before_in So h x c = subst (λ (xs : List Exchange). Contains xs x) (sym h.is) (Contains-append_left h.before _ x c)

  -- the pieces that were appended
  appends_other : (number : ℕ) (appended : List ℕ) (past : List Exchange) (actual : ℕ) → IsFilled head number appended past → CountsOther head.size appended actual
      → AppendsOther head (DoneIn past) actual
  appends_other number appended past actual filled counted =
      record {
        number = number;
        made = filled_in head number appended past filled;
        pieces = filled.pieces;
        each = pieces_in head number appended past filled;
        counted = subst (λ (xs : List ℕ). CountsOther head.size xs actual) (sym filled.whole) counted;
      }

  stopped_cause : (number : ℕ) (refusal : Refusal) (past : List Exchange) → IsStopped head Named SourceFailed Counted number refusal past → Caused past (error_from head refusal)
  stopped_cause number (refusals.Io messages.CreateTempFile) past h = absurd h
  stopped_cause number (refusals.Io messages.WriteHeader) past h = (
    refl,
    (
      number,
      before_in (stages.Heading number) past IsRefused h _
          (subst (λ (xs : List Exchange). DoneIn xs (asks.NewFile (temp_path head.objects number))) (sym h.well.1) (made_in head number)),
      refused_in (stages.Heading number) past h,
    ),
  )
  stopped_cause number (refusals.Io messages.StreamData) past h =
      elim h [
        | inl failed ↦ (refl, inl failed.0)
        | inr one ↦ (
          refl,
          inr (
            number,
            one.1.piece,
            before_in (stages.Filling number one.0) past IsRefused one.1 _ (filled_in head number one.1.appended one.1.before one.1.well.1),
            refused_in (stages.Filling number one.0) past one.1,
          ),
        )
      ]
  stopped_cause number refusals.IoRaw past h = (h.0, h.1.well.1, refused_in (stages.Foldering number h.0) past h.1)
  stopped_cause number (refusals.Persist id) past h = (
    id,
    h.well.1,
    refl,
    (
      number,
      before_in (stages.Moving number id) past IsRefused h _ (foldered_in head number id h.appended h.before h.well.2),
      elim (there_in head number id h.appended h.before h.well.2) [
        | inl d ↦ inl (before_in (stages.Moving number id) past IsRefused h _ d)
        | inr t ↦ inr
            (before_in (stages.Moving number id) past IsRefused h _ t)
      ],
      refused_in (stages.Moving number id) past h,
    ),
  )
  stopped_cause number (refusals.SizeMismatch actual) past h = (refl, h.0, appends_other number h.1.0 past actual h.1.1 h.1.2)
  stopped_cause number refusals.NoMemory past h = wanted_in h.0 past h.2

  unmade_cause : (refusal : Refusal) (past : List Exchange) → IsUnmade head Named refusal past → Caused past (error_from head refusal)
  unmade_cause (refusals.Io messages.CreateTempFile) past h =
      elim h [
        | inl all ↦ (refl, inr (λ n less. subst (λ (xs : List Exchange). TakenIn xs (asks.NewFile (temp_path head.objects n))) (sym all) (tried_in head temp_names n less)))
        | inr one ↦ (refl, inl (one.0, one.1.well.0, refused_in (stages.Making one.0) past one.1))
      ]
  unmade_cause (refusals.Io messages.WriteHeader) past h = absurd h
  unmade_cause (refusals.Io messages.StreamData) past h = absurd h
  unmade_cause refusals.IoRaw past h = absurd h
  unmade_cause (refusals.Persist id) past h = absurd h
  unmade_cause (refusals.SizeMismatch actual) past h = absurd h
  unmade_cause refusals.NoMemory past h = wanted_in (stages.Making h.0) past h.1

  pub refused_cause : (refusal : Refusal) (past : List Exchange) → IsRefusedRun head Named SourceFailed Counted refusal past → Caused past (error_from head refusal)
  refused_cause refusal past run =
      elim run [
        | inl none ↦ unmade_cause refusal past none
        | inr one ↦ subst (λ (xs : List Exchange). Caused xs (error_from head refusal)) (sym one.3.1) (cause_stays one.1 _ (error_from head refusal) (stopped_cause one.0 refusal one.1 one.2))
      ]
