-- Which handles are registered after an event.
use Rattle.std.proofs.Common.{◌≡◌, ℕ, Bool, true, false, cond, ◌&&◌, ◌||◌, nat_eq, [], ◌∷◌, Option, Some}
use Rattle.std.proofs.Common.{None, refl, sym, ap, subst, ◌∙◌, eqb-true, eq-eqb, Ordering, Less, Equal, Greater, nat_cmp, is_eq}
use Rattle.std.specs.Cmp.{nat_cmp_total, tied_itself}
use Rattle.std.specs.Ordering.{match_ordering}
use Rattle.std.proofs.lemmas.Bool.{or_left, or_right}
use Rattle.std.proofs.lemmas.Map.Lookups.{exact_unsigned}
use Rattle.gix_odb_core.specs.Handles.{Handles, is_any_stable, registered, with_seat, without_seat}
use Rattle.gix_odb_core.specs.Possible.{is_remove}
use Rattle.gix_odb_events.specs.Slots.{slot_at}
use Rattle.gix_odb_core.specs.Replay.{CanHappen}
use Rattle.gix_odb_core.specs.Steps.{after, shape_published}
use Rattle.gix_odb_core.specs.Files.{slot_with_index, slot_with_pack}
use Rattle.gix_odb_core.specs.Turn.{handles_after}
use Rattle.gix_odb_events.specs.declared.event.Event.{Event}
use Rattle.gix_odb_events.specs.declared.event.Event.TheVariants as event
use Rattle.gix_odb_core.specs.declared.shape.Shape.{Shape}
use Rattle.gix_odb_core.proofs.SlotTurnLemmas.{publish_gives, stored_gives}

-- ---- one seat

pub seat-self : (seat : ℕ) → is_eq (nat_cmp seat seat) ≡ true
seat-self seat = ap is_eq (tied_itself nat_cmp_total seat)

pub seat-other : (seat other : ℕ) → (seat ≡ other → ⊥) → is_eq (nat_cmp seat other) ≡ false
seat-other seat other differ = by (nat_cmp seat other) refl
  where
    by : (r : Ordering) → nat_cmp seat other ≡ r → is_eq r ≡ false
    by Less is = refl
    by Equal is = absurd (differ (exact_unsigned seat other is))
    by Greater is = refl

pub with_seat-same : (handles : Handles) (seat : ℕ) (stable : Bool) → registered (with_seat handles seat stable) seat ≡ Some stable
with_seat-same [] seat stable = rw (seat-self seat) refl
with_seat-same (first ∷ handles) seat stable = by (nat_cmp seat first.0) refl (with_seat-same handles seat stable)
  where
    by : (r : Ordering) → nat_cmp seat first.0 ≡ r → registered (with_seat handles seat stable) seat ≡ Some stable
        → registered (match_ordering r ((seat, stable) ∷ first ∷ handles) ((first.0, stable) ∷ handles) (first ∷ with_seat handles seat stable)) seat ≡ Some stable
    by Less is rest = rw (seat-self seat) refl
    by Equal is rest = let this : is_eq (nat_cmp seat first.0) ≡ true = ap is_eq is in rw this refl
    by Greater is rest = let this : is_eq (nat_cmp seat first.0) ≡ false = ap is_eq is in rw this rest

pub with_seat-other : (handles : Handles) (seat : ℕ) (stable : Bool) (other : ℕ) → (other ≡ seat → ⊥) → registered (with_seat handles seat stable) other ≡ registered handles other
with_seat-other [] seat stable other differ = rw (seat-other other seat differ) refl
with_seat-other (first ∷ handles) seat stable other differ = by (nat_cmp seat first.0) refl (with_seat-other handles seat stable other differ)
  where
    by : (r : Ordering) → nat_cmp seat first.0 ≡ r → registered (with_seat handles seat stable) other ≡ registered handles other
        → registered (match_ordering r ((seat, stable) ∷ first ∷ handles) ((first.0, stable) ∷ handles) (first ∷ with_seat handles seat stable)) other ≡ registered (first ∷ handles) other
    by Less is rest = rw (seat-other other seat differ) refl
    by Equal is rest =
        let not_it : is_eq (nat_cmp other first.0) ≡ false = seat-other other first.0 (λ same. differ (same ∙ sym (exact_unsigned seat first.0 is))) in
        rw not_it refl
    by Greater is rest = ap (cond (is_eq (nat_cmp other first.0)) (Some first.1)) rest

pub without_seat-other : (handles : Handles) (seat other : ℕ) → (other ≡ seat → ⊥) → registered (without_seat handles seat) other ≡ registered handles other
without_seat-other [] seat other differ = refl
without_seat-other (first ∷ handles) seat other differ = by (nat_cmp seat first.0) refl (without_seat-other handles seat other differ)
  where
    by : (r : Ordering) → nat_cmp seat first.0 ≡ r → registered (without_seat handles seat) other ≡ registered handles other
        → registered (cond (is_eq r) handles (first ∷ without_seat handles seat)) other ≡ registered (first ∷ handles) other
    by Less is rest = ap (cond (is_eq (nat_cmp other first.0)) (Some first.1)) rest
    by Equal is rest =
        let not_it : is_eq (nat_cmp other first.0) ≡ false = seat-other other first.0 (λ same. differ (same ∙ sym (exact_unsigned seat first.0 is))) in
        rw not_it refl
    by Greater is rest = ap (cond (is_eq (nat_cmp other first.0)) (Some first.1)) rest

-- where a registered handle is stable, some handle is
pub stable_handle : (handles : Handles) (seat : ℕ) → registered handles seat ≡ Some true → is_any_stable handles ≡ true
stable_handle [] seat is = absurd cc
stable_handle (first ∷ handles) seat is = by (is_eq (nat_cmp seat first.0)) is (stable_handle handles seat)
  where
    by : (b : Bool) → cond b (Some first.1) (registered handles seat) ≡ Some true → (registered handles seat ≡ Some true → is_any_stable handles ≡ true) → (first.1 || is_any_stable handles) ≡ true
    by true is rest = or_left first.1 (is_any_stable handles) cc
    by false is rest = or_right first.1 (is_any_stable handles) (rest is)

-- ---- after an event

pub handles-after : (shape : Shape) (seat : ℕ) (happens : Event) → (after shape seat happens).handles ≡ handles_after shape.handles seat happens
handles-after shape seat (event.Register stable) = refl
handles-after shape seat event.Upgrade = refl
handles-after shape seat event.Remove = refl
handles-after shape seat event.Look = refl
handles-after shape seat event.Report = refl
handles-after shape seat (event.PutIndex slot path file) = stored_gives (λ s. s.handles ≡ shape.handles) shape slot (slot_with_index path file (slot_at shape.slots slot)) refl (λ now is. refl)
handles-after shape seat (event.PutPack pack path file) =
    stored_gives (λ s. s.handles ≡ shape.handles) shape pack.index (slot_with_pack path file (slot_at shape.slots pack.index)) refl (λ now is. refl)
handles-after shape seat (event.PassOver slot path why) = refl
handles-after shape seat (event.Publish listing) = publish_gives (λ p. (shape_published shape p).handles ≡ shape.handles) shape listing refl (λ _. refl) refl (λ _ _. refl) (λ _ _. refl)

-- a stable handle stays stable until it is removed
pub stable-after : (shape : Shape) (seat other : ℕ) (happens : Event) → CanHappen shape other happens → (nat_eq other seat && is_remove happens) ≡ false
    → registered shape.handles seat ≡ Some true → registered (after shape other happens).handles seat ≡ Some true
stable-after shape seat other happens can stays stable = ap (λ (h : Handles). registered h seat) (handles-after shape other happens) ∙ by happens (nat_eq other seat) refl can stays
  where
    apart : nat_eq other seat ≡ false → seat ≡ other → ⊥
    apart unequal same = let equal : nat_eq other seat ≡ true = eq-eqb other seat (sym same) in let wrong : true ≡ false = sym equal ∙ unequal in cc

    by : (e : Event) (b : Bool) → nat_eq other seat ≡ b → CanHappen shape other e → (b && is_remove e) ≡ false → registered (handles_after shape.handles other e) seat ≡ Some true
    by (event.Register new) true is can stays =
        let here : other ≡ seat = eqb-true other seat is in
        let none : registered shape.handles seat ≡ None = subst (λ k. registered shape.handles k ≡ None) here can in
        let wrong : ◌≡◌ {A = Option Bool} (Some true) None = sym stable ∙ none in
        absurd cc
    by (event.Register new) false is can stays = with_seat-other shape.handles other new seat (apart is) ∙ stable
    by event.Upgrade true is can stays =
        let here : other ≡ seat = eqb-true other seat is in
        subst (λ k. registered (with_seat shape.handles other true) k ≡ Some true) here (with_seat-same shape.handles other true)
    by event.Upgrade false is can stays = with_seat-other shape.handles other true seat (apart is) ∙ stable
    by event.Remove true is can stays = absurd cc
    by event.Remove false is can stays = without_seat-other shape.handles other seat (apart is) ∙ stable
    by event.Look b is can stays = stable
    by event.Report b is can stays = stable
    by (event.PutIndex slot path file) b is can stays = stable
    by (event.PutPack pack path file) b is can stays = stable
    by (event.PassOver slot path why) b is can stays = stable
    by (event.Publish listing) b is can stays = stable
