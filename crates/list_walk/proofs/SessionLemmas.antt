-- What the ends of the program say, by the results of its walks, or by the text that it writes about itself.
use Rattle.std.proofs.Common.{◌≡◌, inl, inr, ℕ, Bool, true, false, List, [], Ok, Err, refl, sym, ap, subst, ◌∙◌, arith}
use Rattle.std.specs.Prelude.{Result}
use Rattle.std.specs.FinMap as finite
use Rattle.std.specs.Result.{IsErrOf}
use Rattle.odb_base.specs.Faults.{Rose}
use Rattle.odb_disk.specs.Streams.{Streams, open_count}
use Rattle.odb_program.specs.Session.{Delivers, Wrote}
use Rattle.walkdir.specs.OwnStreams.{AreBack}
use Rattle.list_walk.specs.Session.{AllListed, Ends, Session, StreamsBack, TextOf, first_of, hinted, last_of, status_by}
use Rattle.list_walk.proofs.WalksLemmas.{kind}
use Rattle.list_walk.specs.Visits.{EndsAll, Visits}
use Rattle.list_walk.specs.declared.line.LineError.{LineError}
use Rattle.list_walk.specs.declared.line.LineError.TheVariants as errors
use Rattle.list_walk.specs.declared.status.Status.{Status}
use Rattle.list_walk.specs.declared.status.Status.TheVariants as statuses
use Rattle.list_walk.specs.declared.command.Command.{Command}
use Rattle.list_walk.specs.declared.command.Command.TheVariants.{Walk, Help, Version, NotUnderstood}
use Rattle.list_walk.specs.declared.words.Asked.{Asked}

-- ---- the ends

ends_errors : (s : Session) (is_help : Bool) → s.is_help ≡ is_help → AllListed s statuses.SomeErrors → Ends s (hinted statuses.SomeErrors is_help)
ends_errors s true is all = (is, all)
ends_errors s false is all = (is, all)

ends_ok : (s : Session) (asked : Asked) (status : Status) → s.command ≡ Walk asked
    → Visits asked.choices s.state (first_of s) asked.folders (last_of s) status → Ends s (hinted status s.is_help)
ends_ok s asked status asks visits =
    elim (kind asked.choices s.state (first_of s) asked.folders (last_of s) status visits) [
      | inl is ↦
          subst (λ x. Ends s (hinted x s.is_help)) (sym is)
          (ends_errors s s.is_help refl (record { asked = asked; asks = asks; visits = subst (Visits asked.choices s.state (first_of s) asked.folders (last_of s)) is visits }))
      | inr is ↦
          subst (λ x. Ends s (hinted x s.is_help)) (sym is)
          (inl (record { asked = asked; asks = asks; visits = subst (Visits asked.choices s.state (first_of s) asked.folders (last_of s)) is visits }))
    ]

pub ends_walks : (s : Session) (asked : Asked) (result : Result Status LineError) → s.command ≡ Walk asked
    → EndsAll (record { choices = asked.choices; state = s.state; folders = asked.folders; first = first_of s; last = last_of s }) result
    → (IsErrOf result errors.OutputFailed → Rose s.output.faults s.output.faults') → (IsErrOf result errors.ErrorsFailed → Rose s.errors.faults s.errors.faults')
    → Ends s (hinted (status_by result) s.is_help)
ends_walks s asked (Ok status) asks visits output told = ends_ok s asked status asks visits
ends_walks s asked (Err errors.OutputFailed) asks visits output told = (output refl, inl (record { asked = asked; asks = asks; visits = visits }))
ends_walks s asked (Err errors.ErrorsFailed) asks visits output told = (told refl, record { asked = asked; asks = asks; visits = visits })
ends_walks s asked (Err errors.NoMemory) asks visits output told = inr (record { asked = asked; asks = asks; visits = visits })

-- the ends, if the words ask it in other terms
pub ends_asked : (s : Session) (asked : Asked) (result : Result Status LineError) (by status : Status) → s.command ≡ Walk asked
    → by ≡ status_by result → status ≡ hinted by s.is_help
    → EndsAll (record { choices = asked.choices; state = s.state; folders = asked.folders; first = first_of s; last = last_of s }) result
    → (IsErrOf result errors.OutputFailed → Rose s.output.faults s.output.faults') → (IsErrOf result errors.ErrorsFailed → Rose s.errors.faults s.errors.faults') → Ends s status
ends_asked s asked result by status asks is hint visits output told =
    subst (Ends s) (sym (hint ∙ ap (λ x. hinted x s.is_help) is)) (ends_walks s asked result asks visits output told)

-- a text about the program ends as it is delivered
module _ (s : Session) (text : List ℕ) (result : Status) (quiet : Wrote s.errors []) where
  ends_text : TextOf s s.command text statuses.Done → Delivers statuses.WriteFault s.output text statuses.Done result → Ends s result
  ends_text of (inl all) = subst (Ends s) (sym all.0) (inr (record { text = text; is = of; wrote = all.1; quiet = quiet }))
  ends_text of (inr failed) =
      subst (Ends s) (sym failed.0) (failed.1, inr (record { text = text; status = statuses.Done; is = of; wrote = failed.2; quiet = quiet }))

  ends_refused : (told : List ℕ) → TextOf s s.command text (statuses.NotUnderstood told) → Delivers statuses.WriteFault s.output text (statuses.NotUnderstood told) result → Ends s result
  ends_refused told of (inl all) = subst (Ends s) (sym all.0) (record { text = text; is = of; wrote = all.1; quiet = quiet })
  ends_refused told of (inr failed) =
      subst (Ends s) (sym failed.0) (failed.1, inr (record { text = text; status = statuses.NotUnderstood told; is = of; wrote = failed.2; quiet = quiet }))

pub ends_help : (s : Session) (result : Status) → s.command ≡ Help → Wrote s.errors [] → Delivers statuses.WriteFault s.output s.help statuses.Done result → Ends s result
ends_help s result is quiet = ends_text s s.help result quiet (subst (λ c. TextOf s c s.help statuses.Done) (sym is) (refl, refl))

pub ends_version : (s : Session) (result : Status) → s.command ≡ Version → Wrote s.errors [] → Delivers statuses.WriteFault s.output s.version statuses.Done result → Ends s result
ends_version s result is quiet = ends_text s s.version result quiet (subst (λ c. TextOf s c s.version statuses.Done) (sym is) (refl, refl))

pub ends_not_understood : (s : Session) (told : List ℕ) (result : Status) → s.command ≡ NotUnderstood told → Wrote s.errors []
    → Delivers statuses.WriteFault s.output s.refusal (statuses.NotUnderstood told) result → Ends s result
ends_not_understood s told result is quiet = ends_refused s s.refusal result quiet told (subst (λ c. TextOf s c s.refusal (statuses.NotUnderstood told)) (sym is) (refl, refl))

-- ---- streams

pub still_back : (before : Streams) (most : ℕ) → AreBack before most before
still_back before most = record { same = refl; peak = omega arith }

pub back_again : (before between now : Streams) (most : ℕ) → AreBack before most between → AreBack between most now → AreBack before most now
back_again before between now most first second =
    let count : open_count between ≡ open_count before = ap finite.len first.same in
    record { same = second.same ∙ first.same; peak = omega (arith, count, first.peak, second.peak) }

pub back_same : (command other : Command) (before now : Streams) → command ≡ other → StreamsBack command before now → StreamsBack other before now
back_same command other before now same back = subst (λ x. StreamsBack x before now) same back
