-- How loading an index ends: how many turns it takes, and why it is passed over or ends.
use Rattle.std.proofs.Common.{◌≡◌, ℕ, ◌<◌, Bool, true, false, cond, Ok, Err, refl, ap, arith}
use Rattle.odb_disk.specs.declared.ask.DiskAnswer.{DiskAnswer}
use Rattle.odb_disk.specs.declared.ask.DiskAnswer.TheVariants as answers
use Rattle.odb_disk.specs.declared.disk_error.DiskError.TheVariants as disk_errors
use Rattle.gix_hash.specs.declared.kind.Kind.{Kind}
use Rattle.gix_pack_read.specs.Index.{is_index}
use Rattle.gix_odb_events.specs.declared.answer.Answer.{Answer}
use Rattle.gix_odb_events.specs.declared.answer.Answer.TheVariants as told
use Rattle.gix_odb_events.specs.declared.answer.Ask.TheVariants as asks
use Rattle.gix_odb_events.specs.declared.event.Event.{Event}
use Rattle.gix_odb_events.specs.declared.event.PassWhy.TheVariants as whys
use Rattle.gix_odb_events.specs.declared.event.Refusal.{Refusal}
use Rattle.gix_odb_search.specs.LoadOrder.{ask_of, fed, index_read, why_of}
use Rattle.gix_odb_search.specs.TryOrder.{is_failed}
use Rattle.gix_odb_search.specs.declared.index_loader.IndexLoader.{IndexLoader}
use Rattle.gix_odb_search.specs.declared.index_loader.IndexLoader.TheVariants.{Reading, Storing, Passing}
use Rattle.gix_odb_search.specs.declared.index_loader.IndexPlace.{IndexPlace}
use Rattle.gix_odb_search.specs.declared.index_loader.LoadStep.{LoadStep}
use Rattle.gix_odb_search.specs.declared.index_loader.LoadStep.TheVariants.{More, Loaded, Missed, Broken}

-- ---- turns

-- an index is read, and then stored or passed over
abbrev pub loader_turns : IndexLoader → ℕ
loader_turns (Reading place) = 2
loader_turns (Storing place file) = 1
loader_turns (Passing place why) = 1

pub loader_turns-pos : (loader : IndexLoader) → 0 < loader_turns loader
loader_turns-pos (Reading place) = omega arith
loader_turns-pos (Storing place file) = omega arith
loader_turns-pos (Passing place why) = omega arith

-- ---- failures and refusals

-- why a file is passed over is a failure only where a call of the disk failed
why_failed : (answer : DiskAnswer) → is_failed (why_of answer) ≡ true → answer ≡ answers.Refused disk_errors.Failed
why_failed (answers.Refused disk_errors.Failed) is = refl
why_failed (answers.Refused disk_errors.Absent) is = absurd (cc is)
why_failed (answers.Refused disk_errors.LinkLoop) is = absurd (cc is)
why_failed (answers.Refused error) is = absurd (cc is)
why_failed answer is = absurd (cc is)

-- Here `Failed` says that a read failed.
module _ (Failed : Type 0) where
  -- an index is passed over for a failure only where there was one
  abbrev pub Passes : IndexLoader → Type 0
  Passes (Passing place why) = is_failed why ≡ true → Failed
  Passes loader = Unit {0}

  pub failed-passes : Failed → (loader : IndexLoader) → Passes loader
  failed-passes failed (Reading place) = tt
  failed-passes failed (Storing place file) = tt
  failed-passes failed (Passing place why) = λ is. failed

pub passes-further : (Failed Further : Type 0) → (Failed → Further) → (loader : IndexLoader) → Passes Failed loader → Passes Further loader
passes-further Failed Further on (Reading place) passes = tt
passes-further Failed Further on (Storing place file) passes = tt
passes-further Failed Further on (Passing place why) passes = λ is. on (passes is)

-- Here `Refuses` says which refusals there are, too.
module _ (Failed : Type 0) (Refuses : Refusal → Type 0) where
  abbrev pub Comes : LoadStep → Type 0
  Comes (More loader) = Passes Failed loader
  Comes (Loaded index) = Unit {0}
  Comes (Missed why) = is_failed why ≡ true → Failed
  Comes (Broken refusal) = Refuses refusal

  missed-passes : (place : IndexPlace) (answer : DiskAnswer) → (answer ≡ answers.Refused disk_errors.Failed → Failed) → Passes Failed (Passing place (why_of answer))
  missed-passes place answer fails is = fails (why_failed answer is)

  read-passes : (hash : Kind) (place : IndexPlace) (answer : DiskAnswer) → (answer ≡ answers.Refused disk_errors.Failed → Failed)
      → Passes Failed (index_read hash place answer)
  read-passes hash place (answers.File bytes time) fails = by (is_index hash bytes)
    where
      by : (b : Bool) → Passes Failed (cond b (Storing place (record { kind = hash; bytes = bytes })) (Passing place whys.Bad))
      by true = tt
      by false = λ is. absurd (cc is)
  read-passes hash place (answers.Refused error) fails = missed-passes place (answers.Refused error) fails
  read-passes hash place (answers.Meta meta) fails = missed-passes place (answers.Meta meta) fails
  read-passes hash place (answers.Dir dir) fails = missed-passes place (answers.Dir dir) fails
  read-passes hash place (answers.Entry entry) fails = missed-passes place (answers.Entry entry) fails
  read-passes hash place answers.End fails = missed-passes place answers.End fails
  read-passes hash place answers.Done fails = missed-passes place answers.Done fails

  -- a failure that is noted in the core was one before, or is the answer, as is a refusal that ends the work
  pub fed-comes : (hash : Kind) (loader : IndexLoader) (answer : Answer) → Passes Failed loader → (answer ≡ told.Disk (answers.Refused disk_errors.Failed) → Failed)
      → ((event : Event) (refusal : Refusal) → ask_of loader ≡ asks.Core event → answer ≡ told.Core (Err refusal) → Refuses refusal)
      → Comes (fed hash loader answer)
  fed-comes hash (Reading place) (told.Disk answer) passes fails refuses =
      read-passes hash place answer (λ is. fails (ap (λ (a : DiskAnswer). told.Disk a) is))
  fed-comes hash (Reading place) (told.Core answer) passes fails refuses = tt
  fed-comes hash (Storing place file) (told.Core (Ok effect)) passes fails refuses = tt
  fed-comes hash (Passing place why) (told.Core (Ok effect)) passes fails refuses = passes
  fed-comes hash (Storing place file) (told.Core (Err refusal)) passes fails refuses = refuses _ refusal refl refl
  fed-comes hash (Passing place why) (told.Core (Err refusal)) passes fails refuses = refuses _ refusal refl refl
  fed-comes hash (Storing place file) (told.Disk answer) passes fails refuses = tt
  fed-comes hash (Passing place why) (told.Disk answer) passes fails refuses = passes
