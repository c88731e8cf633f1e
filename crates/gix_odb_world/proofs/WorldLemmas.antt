-- The table of a world's handles represents what the handles do.
use Rattle.std.proofs.Common.{◌≡◌, ℕ, zero, suc, ◌+◌, Bool, true, false, List, [], ◌∷◌, ◌++◌, length, take, Option, refl, sym, ap, ◌∙◌, subst, arith, inl, inr}
use Rattle.std.specs.Prelude.{if◌then◌else◌, ◌==◌}
use Rattle.std.proofs.lemmas.Bool.{cases_lt}
use Rattle.std.proofs.lemmas.List.{take-append-le, length_push}
use Rattle.odb_disk.specs.MemDisk.{Volume}
use Rattle.odb_disk.specs.Tree.{IsTree, tree_of}
use Rattle.gix_odb_watch.specs.HasShown.{Keeps}
use Rattle.gix_odb_watch.specs.Kept.{nothing_kept}
use Rattle.gix_odb_world.specs.Handle.{Seen}
use Rattle.gix_odb_world.specs.declared.course.Course.{Course}
use Rattle.gix_odb_history.specs.Cores.{cores_after}
use Rattle.gix_odb_history.specs.Event.{Event}
use Rattle.gix_odb_world.specs.Status.{Status, status_of, statuses_from, with_status}
use Rattle.gix_odb_history.specs.Run.{disk_after, tree_at}
use Rattle.gix_odb_world.specs.TwoContents.{watched_after}
use Rattle.gix_odb_world.specs.Running.{Runs, RunsThroughout}
use Rattle.gix_odb_world.specs.World.{Explains, Matches, handle_at}
use Rattle.gix_odb_world.proofs.HistoryLemmas.{IsLawful-none, take-push}
use Rattle.gix_odb_world.proofs.WatchLemmas.{keeps_none}

throughout_none : (first : Volume) (now handle : ℕ) → Runs first (take now []) handle (status_of (take now []) handle)
unfolding statuses_from
throughout_none first zero handle = tt
throughout_none first (suc now) handle = tt

-- a world with no handles and no outcomes has an empty history
pub explains_none : (world : Course) → IsTree (tree_of world.disk.state) → world.handles.entries ≡ [] → world.cores.items ≡ [] → world.shown ≡ nothing_kept → world.outcomes ≡ [] → world.records ≡ []
    → Explains world.disk [] world
unfolding disk_after statuses_from cores_after
explains_none world is_tree handles cores shown outcomes records =
    record {
      outcomes = sym outcomes;
      records = sym records;
      disk = refl;
      cores = cores;
      handles = λ handle. rw handles tt;
      running = λ handle. tt;
      lawful = IsLawful-none world.disk;
      watched = subst (Keeps (tree_at world.disk []) (watched_after []) 0) (sym shown) (keeps_none world.disk is_tree);
      start = is_tree;
      throughout = λ now handle within. throughout_none world.disk now handle;
    }

matches_either : (b : Bool) (s t : Status) (h k : Option Seen) → Matches s h → Matches t k → Matches (if b then s else t) (if b then h else k)
matches_either true s t h k here there = here
matches_either false s t h k here there = there

pub matches_set : (old new : Course) (table : ℕ → Status) (number : ℕ) (status : Status) (handle : Option Seen)
    → ((other : ℕ) → Matches (table other) (handle_at old other))
    → ((other : ℕ) → handle_at new other ≡ (if other == number then handle else handle_at old other)) → Matches status handle
    → (other : ℕ) → Matches (with_status table number status other) (handle_at new other)
matches_set old new table number status handle before sets here other =
    rw (sets other) (matches_either (other == number) status (table other) handle (handle_at old other) here (before other))

-- what held of each handle so far, and holds after one more event, holds throughout
pub throughout-push : (first : Volume) (events : List Event) (e : Event) → RunsThroughout first events
    → ((handle : ℕ) → Runs first (events ++ e ∷ []) handle (status_of (events ++ e ∷ []) handle)) → RunsThroughout first (events ++ e ∷ [])
throughout-push first events e before here now handle within = elim (cases_lt (length events) now) [
  | inl late ↦
      let long = length_push events e in
      let last : length events + 1 ≡ now = omega (arith, late, within, long) in
      subst (λ es. Runs first es handle (status_of es handle)) (sym (ap (λ n. take n (events ++ e ∷ [])) (sym last) ∙ take-push events e)) (here handle)
  | inr soon ↦ subst (λ es. Runs first es handle (status_of es handle)) (sym (take-append-le now events (e ∷ []) soon)) (before now handle soon)
]
