-- The number of the list of a core never falls.
use Rattle.std.proofs.Common.{ℕ, ◌<◌, ◌≤◌, false, List, [], ◌∷◌, length, inl, inr, sym, subst, arith}
use Rattle.std.proofs.lemmas.List.{length_push}
use Rattle.gix_odb_core.specs.History.{History, opened, present}
use Rattle.gix_odb_events.specs.declared.event.Event.TheVariants as core_events
use Rattle.gix_odb_core.specs.declared.shape.Shape.{Shape}
use Rattle.gix_odb_core.proofs.NumberLaws.{entries_lower_no_number}
use Rattle.gix_odb_core.proofs.OrderLaws.{replay_of_joined_journals}
use Rattle.gix_odb_history.specs.Cores.{cores_after_asked, entered, entry_of, history_at}
use Rattle.gix_odb_history.specs.Event.{Asked, CoreAnswer, CoreEvent, OfCore, OfDisk, OfNewCore, OfNothing}
use Rattle.gix_odb_world.proofs.SeatLemmas.Elsewhere.{history_at-push, history_at-set}
use Rattle.gix_odb_world.proofs.ToldLists.{length-slice_set}

entry_raises : (h : History) (seat : ℕ) (event : CoreEvent) (answer : CoreAnswer) → (present h).list_no ≤ (present (entered h seat event answer)).list_no
entry_raises h seat event answer =
    let rises = entries_lower_no_number (entry_of h seat event answer ∷ []) (present h) in
    subst (λ (s : Shape). (present h).list_no ≤ s.list_no) (sym (replay_of_joined_journals h.entries (entry_of h seat event answer ∷ []) h.opening)) rises.list_no

-- an event leaves a core where it is, and its list has no lower number then
pub numbers_rise : (cores : List History) (asked : Asked) (core : ℕ) → core < length cores
    → (core < length (cores_after_asked cores asked)) × ((present (history_at cores core)).list_no ≤ (present (history_at (cores_after_asked cores asked) core)).list_no)
numbers_rise cores OfNothing core within = (within, omega arith)
numbers_rise cores (OfDisk ask answer) core within = (within, omega arith)
numbers_rise cores (OfCore store seat event answer) core within =
    let new : History = entered (history_at cores store) seat event answer in
    let long = length-slice_set cores store new in (
      omega (arith, within, long),
      elim (history_at-set cores store new core) [
        | inl old ↦ subst (λ (h : History). (present (history_at cores core)).list_no ≤ (present h).list_no) (sym old) (omega arith)
        | inr at ↦
            subst (λ (h : History). (present (history_at cores core)).list_no ≤ (present h).list_no) (sym at.1)
            (subst (λ n. (present (history_at cores n)).list_no ≤ (present new).list_no) (sym at.0) (entry_raises (history_at cores store) seat event answer))
      ],
    )
numbers_rise cores (OfNewCore slots folders store seat answer) core within =
    let new : History = entered (opened slots folders 0 0) seat (core_events.Register false) answer in
    let long = length_push cores new in (
      omega (arith, within, long),
      elim (history_at-push cores new core) [
        | inl old ↦ subst (λ (h : History). (present (history_at cores core)).list_no ≤ (present h).list_no) (sym old) (omega arith)
        | inr at ↦ let beyond = at.0 in absurd (omega (arith, within, beyond))
      ],
    )
