-- A history with one more event: its disks, its statuses, its failed calls, and its law.
use Rattle.std.proofs.Common.{◌≡◌, ℕ, zero, suc, ◌+◌, ◌<◌, ◌≤◌, List, [], ◌∷◌, ◌++◌, length, take, Some, refl, sym, ◌∙◌, ap, subst, arith, inl, inr, ◌⊎◌}
use Rattle.std.specs.Prelude.{slice_get}
use Rattle.std.proofs.lemmas.List.{take-append-le, length_push}
use Rattle.std.proofs.lemmas.List.Sums.{fold_push}
use Rattle.std.proofs.Math.Seq.{take-append_seam, take-length}
use Rattle.odb_disk.specs.Tree.{tree_of}
use Rattle.odb_disk.specs.MemDisk.{Volume}
use Rattle.std.proofs.lemmas.Option.{slice_get_within}
use Rattle.gix_odb_history.specs.Cores.{cores_after, cores_after_asked, cores_after_event}
use Rattle.gix_odb_history.specs.Event.{Event}
use Rattle.gix_odb_world.specs.Status.{Status, Free, status_of, status_after, statuses_from}
use Rattle.gix_odb_history.specs.Run.{disk_after, disk_after_event, tree_at, IsTurnOf, Fails, FailedSince}
use Rattle.gix_odb_world.specs.Headline.{Law, IsLawful}

-- ---- lists with one more element at their end

-- an element is one of the old ones, or the new one at its place
pub slice_get-push : {A : Type 0} (xs : List A) (x : A) (place : ℕ) (y : A) → slice_get (xs ++ x ∷ []) place ≡ Some y
    → ((place < length xs) × (slice_get xs place ≡ Some y)) ⊎ ((place ≡ length xs) × (x ≡ y))
slice_get-push [] x zero y e = inr (refl, cc)
slice_get-push [] x (suc place) y e = absurd (cc)
slice_get-push (z ∷ xs) x zero y e = inl (omega arith, e)
slice_get-push (z ∷ xs) x (suc place) y e =
    elim (slice_get-push xs x place y e) [ inl old ↦ inl (omega (arith, old.0), old.1) | inr last ↦ inr (omega (arith, last.0), last.1) ]

-- the new one is at the length of the old ones
pub slice_get-last : {A : Type 0} (xs : List A) (x : A) → slice_get (xs ++ x ∷ []) (length xs) ≡ Some x
slice_get-last [] x = refl
slice_get-last (z ∷ xs) x = slice_get-last xs x

-- all of it
pub take-push : {A : Type 0} (xs : List A) (x : A) → take (length xs + 1) (xs ++ x ∷ []) ≡ xs ++ x ∷ []
take-push xs x =
    let whole : length xs + 1 ≡ length (xs ++ x ∷ []) = omega (arith, length_push xs x) in
    rw whole (take-length (xs ++ x ∷ []))

-- ---- what the handles do, and the disk, after one more event

statuses_from-push : (n : ℕ) (table : ℕ → Status) (events : List Event) (e : Event)
    → statuses_from n table (events ++ e ∷ []) ≡ status_after (n + length events) e.step e.outcome e.asked (statuses_from n table events)
unfolding statuses_from
statuses_from-push n table [] e = let same : n ≡ n + 0 = omega arith in ap (λ m. status_after m e.step e.outcome e.asked table) same
statuses_from-push n table (x ∷ events) e =
    let later : n + 1 + length events ≡ n + length (x ∷ events) = omega arith in
    statuses_from-push (n + 1) (status_after n x.step x.outcome x.asked table) events e
    ∙ ap (λ m. status_after m e.step e.outcome e.asked (statuses_from (n + 1) (status_after n x.step x.outcome x.asked table) events)) later

pub status_of-push : (events : List Event) (e : Event)
    → status_of (events ++ e ∷ []) ≡ status_after (length events + 1) e.step e.outcome e.asked (status_of events)
status_of-push events e =
    let later : 1 + length events ≡ length events + 1 = omega arith in
    statuses_from-push 1 (λ handle. Free) events e ∙ ap (λ m. status_after m e.step e.outcome e.asked (status_of events)) later

pub disk_after-push : (first : Volume) (events : List Event) (e : Event)
    → disk_after first (events ++ e ∷ []) ≡ disk_after_event (disk_after first events) e
unfolding disk_after
disk_after-push first events e = fold_push disk_after_event first events e

pub cores_after-push : (events : List Event) (e : Event) → cores_after (events ++ e ∷ []) ≡ cores_after_asked (cores_after events) e.asked
unfolding cores_after
cores_after-push events e = fold_push cores_after_event [] events e

-- the tree after the last event
pub tree_at-now : (first : Volume) (events : List Event) (e : Event)
    → tree_at first (events ++ e ∷ []) (length events + 1) ≡ tree_of (disk_after_event (disk_after first events) e).state
tree_at-now first events e =
    ap (λ es. tree_of (disk_after first es).state) (take-push events e) ∙ ap (λ d. tree_of d.state) (disk_after-push first events e)

-- the trees before it stay as they were
pub tree_at-before : (first : Volume) (events : List Event) (e : Event) (moment : ℕ) → moment ≤ length events
    → tree_at first (events ++ e ∷ []) moment ≡ tree_at first events moment
tree_at-before first events e moment within = ap (λ es. tree_of (disk_after first es).state) (take-append-le moment events (e ∷ []) within)

-- the tree after all of them
pub tree_at-all : (first : Volume) (events : List Event) → tree_at first events (length events) ≡ tree_of (disk_after first events).state
tree_at-all first events = ap (λ es. tree_of (disk_after first es).state) (take-length events)

-- ---- failed calls

pub slice_get-kept : {A : Type 0} (xs : List A) (x : A) (place : ℕ) (y : A) → slice_get xs place ≡ Some y → slice_get (xs ++ x ∷ []) place ≡ Some y
slice_get-kept [] x place y e = absurd (cc e)
slice_get-kept (z ∷ xs) x zero y e = e
slice_get-kept (z ∷ xs) x (suc place) y e = slice_get-kept xs x place y e

-- a call that failed before the last event has failed after it
pub failed-kept : (events : List Event) (e : Event) (handle begun : ℕ) → FailedSince events handle begun → FailedSince (events ++ e ∷ []) handle begun
failed-kept events e handle begun failed =
    record {
      place = failed.place;
      later = failed.later;
      at = record { event = failed.at.event; there = slice_get-kept events e failed.place failed.at.event failed.at.there; turn = failed.at.turn; failed = failed.at.failed };
    }

-- a call fails in the last event
pub failed_last : (events : List Event) (e : Event) (handle begun : ℕ) → begun ≤ length events → IsTurnOf handle e → Fails e.entry.did
    → FailedSince (events ++ e ∷ []) handle begun
failed_last events e handle begun later turn failed =
    record { place = length events; later = later; at = record { event = e; there = slice_get-last events e; turn = turn; failed = failed } }

-- where a call has failed, it did so before the last event, or in it
pub failed_before : (events : List Event) (e : Event) (handle begun : ℕ) → (IsTurnOf handle e → ¬ (Fails e.entry.did))
    → FailedSince (events ++ e ∷ []) handle begun → FailedSince events handle begun
failed_before events e handle begun sound failed =
    elim (slice_get-push events e failed.place failed.at.event failed.at.there) [
      | inl old ↦ record { place = failed.place; later = failed.later; at = record { event = failed.at.event; there = old.1; turn = failed.at.turn; failed = failed.at.failed } }
      | inr last ↦ absurd (sound (subst (λ (x : Event). IsTurnOf handle x) (sym last.1) failed.at.turn) (subst (λ (x : Event). Fails x.entry.did) (sym last.1) failed.at.failed))
    ]

-- no call has failed yet in work that begins with the last event
pub none_failed_yet : (events : List Event) (handle begun : ℕ) → length events ≤ begun → ¬ (FailedSince events handle begun)
none_failed_yet events handle begun short failed = omega (arith, short, failed.later, slice_get_within events failed.place failed.at.event failed.at.there)

-- ---- lawful histories

pub IsLawful-none : (first : Volume) → IsLawful first []
IsLawful-none first place e there = absurd (cc)

pushed : (first : Volume) (events : List Event) (e : Event) (place : ℕ) (x : Event) → Law first events e → place ≡ length events → e ≡ x
    → Law first (take place (events ++ e ∷ [])) x
pushed first events e place x law at same =
    let whole : take place (events ++ e ∷ []) ≡ events = ap (λ n. take n (events ++ e ∷ [])) at ∙ take-append_seam events (e ∷ []) in
    subst (λ y. Law first (take place (events ++ e ∷ [])) y) same (subst (λ past. Law first past e) (sym whole) law)

pub IsLawful-push : (first : Volume) (events : List Event) (e : Event) → IsLawful first events → Law first events e
    → IsLawful first (events ++ e ∷ [])
IsLawful-push first events e lawful law place x there =
    elim (slice_get-push events e place x there) [
      | inl old ↦ let within : place ≤ length events = omega (arith, old.0) in
          subst (λ past. Law first past x) (sym (take-append-le place events (e ∷ []) within)) (lawful place x old.1)
      | inr last ↦ pushed first events e place x law last.0 last.1
    ]
