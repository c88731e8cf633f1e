-- What each event of a lawful run preserves for every handle holds after all of them.
use Rattle.std.proofs.Common.{◌≡◌, ℕ, zero, suc, ◌+◌, ◌≤◌, List, [], ◌∷◌, ◌++◌, length, take, Some, sym, subst, arith, inl, inr}
use Rattle.std.specs.Prelude.{slice_get}
use Rattle.std.proofs.Math.Seq.{take-length}
use Rattle.odb_disk.specs.MemDisk.{Volume}
use Rattle.gix_odb_history.specs.Event.{Event}
use Rattle.gix_odb_world.specs.Status.{Status, Free, status_after, status_of, statuses_from}
use Rattle.gix_odb_world.specs.Headline.{IsLawful, Law}
use Rattle.gix_odb_world.proofs.HistoryLemmas.{status_of-push}
use Rattle.gix_odb_world.proofs.RunSteps.{event_or_end, none_beyond, take_next}

module _ (Holds : List Event → (handle : ℕ) → Status → Type 0) where
  -- it holds of what each handle does after some events
  abbrev pub HoldsAfter : List Event → Type 0
  HoldsAfter events = (handle : ℕ) → Holds events handle (status_of events handle)

  -- it holds of each handle after one more event
  abbrev pub GoesOver : Volume → List Event → Event → Type 0
  GoesOver first past e =
      Law first past e → HoldsAfter past
      → (handle : ℕ) → Holds (past ++ e ∷ []) handle (status_after (length past + 1) e.step e.outcome e.asked (status_of past) handle)

  at_first : ((handle : ℕ) → Holds [] handle Free) → HoldsAfter []
  unfolding statuses_from
  at_first free handle = free handle

  module _ (first : Volume) (events : List Event) (lawful : IsLawful first events) (free : (handle : ℕ) → Holds [] handle Free)
      (over : (past : List Event) (e : Event) → GoesOver first past e) where
    next : (place : ℕ) (e : Event) → slice_get events place ≡ Some e → HoldsAfter (take place events) → HoldsAfter (take (place + 1) events)
    next place e there before handle =
        let past : List Event = take place events in
        subst (λ es. Holds es handle (status_of es handle)) (sym (take_next events place e there))
        (subst (λ (table : ℕ → Status). Holds (past ++ e ∷ []) handle (table handle)) (sym (status_of-push past e))
        (over past e (lawful place e there) before handle))

    at_place : (place : ℕ) → place ≤ length events → HoldsAfter (take place events)
    at_place zero within = at_first free
    at_place (suc place) within = elim (event_or_end events place) [
      | inl at ↦
          let one : place + 1 ≡ suc place = omega arith in
          subst (λ n. HoldsAfter (take n events)) one (next place at.0 at.1 (at_place place (omega (arith, within))))
      | inr none ↦ let beyond = none_beyond events place none in absurd (omega (arith, within, beyond))
    ]

    pub along_run : HoldsAfter events
    along_run = subst HoldsAfter (take-length events) (at_place (length events) (omega arith))
