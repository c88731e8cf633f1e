-- A turn of a look-up takes one of the turns that are left.
use Rattle.std.proofs.Common.{ℕ, suc, ◌+◌, ◌-◌, Option, Some, None, Ok, Err, refl, sym, subst, arith}
use Rattle.gix_odb_calls.specs.Verdict.{folder_ask, folder_verdict}
use Rattle.gix_odb_events.specs.declared.event.Effect.TheVariants as effects
use Rattle.gix_odb_search.proofs.TryTurnLaws.{trier_turns, trier_turns-pos}
use Rattle.gix_odb_search.specs.ListOrder as lists
use Rattle.gix_odb_search.specs.TryOrder as tries
use Rattle.gix_odb_events.specs.declared.answer.Answer.{Answer}
use Rattle.gix_odb_events.specs.declared.answer.Answer.TheVariants as told
use Rattle.gix_odb_events.specs.declared.answer.Ask.{Ask}
use Rattle.gix_odb_events.specs.declared.answer.Ask.TheVariants as asks
use Rattle.gix_odb_search.specs.declared.lister.ListStep.{ListStep}
use Rattle.gix_odb_search.specs.declared.lister.ListStep.TheVariants as listed
use Rattle.gix_odb_search.specs.declared.search.Notes.{Notes}
use Rattle.gix_odb.specs.Laps.{HasAtMost, IsNumbered, number_by}
use Rattle.gix_odb.specs.LookExchanges.{IsAnswerTo}
use Rattle.gix_odb.specs.Stream.{Stream, stream_by}
use Rattle.gix_odb.specs.LookUpOrder.{ask_at, by_refresh, fed_at, seen, trier_fed}
use Rattle.gix_odb.specs.RefreshOrder.{by_listed}
use Rattle.gix_odb.proofs.ListerLaws.Base.{IsFor, listing_keeps_its_base}
use Rattle.gix_odb.specs.declared.refresh.Refresh.TheVariants as fronts
use Rattle.gix_odb.specs.declared.look_up.Purpose.{Purpose}
use Rattle.gix_odb.specs.declared.look_up.LookHead.{LookHead}
use Rattle.gix_odb.specs.declared.look_up.LookStage.{LookStage}
use Rattle.gix_odb.specs.declared.look_up.LookStage.TheVariants as stages
use Rattle.gix_odb.proofs.TurnLaws.CoreTurns.{checked_left, read_left, outdated_left, published_left, unchanged_left}
use Rattle.gix_odb.proofs.TurnLaws.TurnsLeft.{Bounds, HasFurther, HasLeft, LookHasLeft, OfPart-on, folders, settling}
use Rattle.gix_odb.proofs.TurnLaws.LapsLeft.{IsFurther-less, IsFurther-on, rises}
use Rattle.gix_odb.proofs.ListerLaws.Turns.{ListsFor, fed_lists, lister_turns, lister_turns-pos}
use Rattle.gix_odb.proofs.TurnLaws.PartTurns.{tried_left, verdict_left}
use Rattle.gix_odb.proofs.TurnLaws.TrierTurns.{fed_tries}
use Rattle.gix_odb.specs.Store.{listed_for}

-- what is known of lists, and of streams after an open one
abbrev pub IsTold : (slots entries before : ℕ) (stream : Option Stream) → Option Ask → Answer → Type 0
IsTold slots entries before stream None answer = ⊥
IsTold slots entries before stream (Some ask) answer = IsNumbered slots before ask answer × IsAnswerTo ask answer × HasAtMost entries (stream_by stream ask answer)

abbrev pub stream_behind : Option Stream → Option Ask → Answer → Option Stream
stream_behind stream None answer = stream
stream_behind stream (Some ask) answer = stream_by stream ask answer

module _ (bounds : Bounds) where
  listed_left : (head : LookHead) (base before : ℕ) (stream : Option Stream) (turns room : ℕ) (purpose : Purpose) (notes : Notes) (step : ListStep)
      → IsFor base step
      → ListsFor (listed_for bounds.setting.parts) bounds.entries room stream step
      → HasFurther bounds head base before (room + settling bounds) turns
      → LookHasLeft bounds (by_refresh bounds.setting head purpose notes (by_listed step)) before stream turns
  listed_left head base before stream turns room purpose notes (listed.More lister) is few has =
      let enough : HasFurther bounds head base before (lister_turns (listed_for bounds.setting.parts) bounds.entries lister + settling bounds) turns =
      IsFurther-less has (omega (arith, few.1)) in (
        few.0,
        subst (λ (number : ℕ). HasFurther bounds head number before (lister_turns (listed_for bounds.setting.parts) bounds.entries lister + settling bounds) turns) (sym is) enough,
      )
  listed_left head base before stream turns room purpose notes (listed.Listed listing) is few has =
      let enough : HasFurther bounds head base before (settling bounds) turns = IsFurther-less has (omega arith) in
      subst (λ (number : ℕ). HasFurther bounds head number before (settling bounds) turns) (sym is) enough
  listed_left head base before stream turns room purpose notes listed.Broken is few has = tt
  listed_left head base before stream turns room purpose notes (listed.TooManyPacks actual path) is few has = tt

  pub fed_left : (head : LookHead) (stage : LookStage) (before : ℕ) (stream : Option Stream) (turns : ℕ) (answer : Answer)
      → IsTold bounds.slots bounds.entries before stream (ask_at stage) answer
      → HasLeft bounds head stage before stream (suc turns)
      → LookHasLeft bounds (fed_at bounds.setting (seen head answer) stage answer) (number_by before answer) (stream_behind stream (ask_at stage) answer) turns
  fed_left head (stages.Trying trier part) before stream turns answer is has =
      let some = trier_turns-pos trier in
      let room = trier_turns trier - 1 in
      let now = stream_by stream (tries.ask_of trier) answer in
      tried_left bounds (seen head answer) part (number_by before answer) now turns room (trier_fed trier answer)
      (fed_tries room trier answer is.1 (omega arith))
      (OfPart-on bounds head part before (trier_turns trier + folders bounds + 1) (suc turns) (room + folders bounds + 1) turns answer has
      (rises bounds.slots before (tries.ask_of trier) answer is.1 is.0)
      (omega arith))
  fed_left head (stages.Loose round call) before stream turns (told.Disk answer) is has =
      let now = stream_by stream (asks.Disk (folder_ask call)) (told.Disk answer) in
      verdict_left bounds (seen head (told.Disk answer)) round before now turns (folder_verdict call answer)
      (OfPart-on bounds head round.part before ((folders bounds - round.next) + 1) (suc turns) (folders bounds - round.next) turns (told.Disk answer) has
      (omega arith)
      (omega arith))
  fed_left head (stages.Loose round call) before stream turns (told.Core answer) is has = absurd is.1
  fed_left head (stages.Refreshing fronts.Reading purpose notes) before stream turns (told.Disk answer) is has = absurd is.1
  fed_left head (stages.Refreshing fronts.Reading purpose notes) before stream turns (told.Core (Err refusal)) is has = tt
  fed_left head (stages.Refreshing fronts.Reading purpose notes) before stream turns (told.Core (Ok (effects.Seen view))) is has =
      read_left bounds head purpose before stream turns view notes is.0.0 (is.0.2 view refl) has
  fed_left head (stages.Refreshing fronts.Reading purpose notes) before stream turns (told.Core (Ok (effects.Reported view report))) is has =
      read_left bounds head purpose before stream turns view notes is.0.0 (is.0.2 view refl) has
  fed_left head (stages.Refreshing fronts.Reading purpose notes) before stream turns (told.Core (Ok (effects.Put view stored))) is has =
      read_left bounds head purpose before stream turns view notes is.0.0 (is.0.2 view refl) has
  fed_left head (stages.Refreshing fronts.Reading purpose notes) before stream turns (told.Core (Ok (effects.Published view))) is has =
      read_left bounds head purpose before stream turns view notes is.0.0 (is.0.2 view refl) has
  fed_left head (stages.Refreshing fronts.Reading purpose notes) before stream turns (told.Core (Ok (effects.Unchanged view))) is has =
      read_left bounds head purpose before stream turns view notes is.0.0 (is.0.2 view refl) has
  fed_left head (stages.Refreshing fronts.Reading purpose notes) before stream turns (told.Core (Ok effect)) is has = absurd (cc is.1.1)
  fed_left head (stages.Refreshing (fronts.Listing lister) purpose notes) before stream turns (told.Disk answer) is has =
      let some = lister_turns-pos (listed_for bounds.setting.parts) bounds.entries lister in
      let room = lister_turns (listed_for bounds.setting.parts) bounds.entries lister - 1 in
      let now = stream_by stream (asks.Disk (lists.ask_of lister)) (told.Disk answer) in
      listed_left (seen head (told.Disk answer)) lister.head.base before now turns room purpose notes (lists.fed (listed_for bounds.setting.parts) lister answer)
      (listing_keeps_its_base (listed_for bounds.setting.parts) lister answer)
      (fed_lists (listed_for bounds.setting.parts) bounds.entries room stream lister answer has.0 is.2 (omega arith))
      (IsFurther-on (told.Disk answer) before has.1 (omega arith) (omega arith))
  fed_left head (stages.Refreshing (fronts.Listing lister) purpose notes) before stream turns (told.Core answer) is has = absurd is.1
  fed_left head (stages.Refreshing (fronts.Publishing rows) purpose notes) before stream turns (told.Disk answer) is has = absurd is.1
  fed_left head (stages.Refreshing (fronts.Publishing rows) purpose notes) before stream turns (told.Core (Err refusal)) is has = tt
  fed_left head (stages.Refreshing (fronts.Publishing rows) purpose notes) before stream turns (told.Core (Ok (effects.Published view))) is has =
      published_left bounds head rows before stream turns purpose notes has view is.0.0 is.0.1 (is.0.2 view refl)
  fed_left head (stages.Refreshing (fronts.Publishing rows) purpose notes) before stream turns (told.Core (Ok (effects.Unchanged view))) is has =
      unchanged_left bounds head rows before stream turns purpose notes has view is.0.0 is.0.1 (is.0.2 view refl)
  fed_left head (stages.Refreshing (fronts.Publishing rows) purpose notes) before stream turns (told.Core (Ok (effects.Outdated number))) is has =
      outdated_left bounds head rows before stream turns purpose notes has number is.0.0 is.0.1.0
  fed_left head (stages.Refreshing (fronts.Publishing rows) purpose notes) before stream turns (told.Core (Ok effect)) is has = absurd is.1
  fed_left head (stages.Checking number notes) before stream turns (told.Disk answer) is has = absurd is.1
  fed_left head (stages.Checking number notes) before stream turns (told.Core (Err refusal)) is has = tt
  fed_left head (stages.Checking number notes) before stream turns (told.Core (Ok (effects.Seen view))) is has =
      checked_left bounds head number before stream turns view notes is.0.0 has
  fed_left head (stages.Checking number notes) before stream turns (told.Core (Ok (effects.Reported view report))) is has =
      checked_left bounds head number before stream turns view notes is.0.0 has
  fed_left head (stages.Checking number notes) before stream turns (told.Core (Ok (effects.Put view stored))) is has =
      checked_left bounds head number before stream turns view notes is.0.0 has
  fed_left head (stages.Checking number notes) before stream turns (told.Core (Ok (effects.Published view))) is has =
      checked_left bounds head number before stream turns view notes is.0.0 has
  fed_left head (stages.Checking number notes) before stream turns (told.Core (Ok (effects.Unchanged view))) is has =
      checked_left bounds head number before stream turns view notes is.0.0 has
  fed_left head (stages.Checking number notes) before stream turns (told.Core (Ok effect)) is has = absurd (cc is.1.1)
  fed_left head (stages.Done reply) before stream turns answer is has = absurd is
