-- A filtered walk that ended stays ended.
use Rattle.std.proofs.Common.{◌≡◌, Bool, Option, Some, None, Result, Ok, Err, refl}
use Rattle.std.specs.Fn.{Mut}
use denote.Ref.{Bor}
use Rattle.odb_disk.specs.Tree.{State}
use Rattle.walkdir.specs.Filter.{Filters, StaysEnded, Ends, Errs, Accepts, Rejects}
use Rattle.walkdir.specs.Progress.{Progress, Steps}
use Rattle.walkdir.specs.declared.dent.DirEntry.{DirEntry}
use Rattle.walkdir.specs.declared.error.Error.{Error}

-- a walk that ended stays ended, also if the disk was changed meanwhile
pub stays_ended : (state later : Option State) (old mid new : Progress) (item : Option (Result DirEntry Error)) → Steps state old None mid
    → Steps later mid item new → item ≡ None
stays_ended state later old mid new item first second = let ended = first.ended refl in second.over ended.0 ended.1

module _ {S F : Type 0} (steps : S → Option (Result DirEntry Error) → S → Type 0) (skips : S → S → Type 0) (entered : S → Bool)
    (accepts : Mut F (Bor DirEntry × Unit {0}) Bool) where
  -- a filter ends only if its walk does
  ended_walk : (s : S) (f : F) (item : Option (Result DirEntry Error)) (t : S) (g : F) → Filters steps skips entered accepts s f item t g
      → item ≡ None → (m : S) × steps m None t
  ended_walk s f item t g (Ends step) none = (s, step)
  ended_walk s f item t g (Errs step) none = absurd cc
  ended_walk s f item t g (Accepts step called) none = absurd cc
  ended_walk s f item t g (Rejects m n called entry step rejected after given) none = ended_walk n called item t g given none

  -- if a walk that ended stays ended, so does the filter
  pub filter_stays_ended : StaysEnded steps → (s : S) (f : F) (t : S) (g : F) (item : Option (Result DirEntry Error)) (u : S) (h : F)
      → Filters steps skips entered accepts s f None t g → Filters steps skips entered accepts t g item u h → item ≡ None
  filter_stays_ended stays s f t g item u h first (Ends step) = refl
  filter_stays_ended stays s f t g item u h first (Errs {error = error} step) =
      let walk = ended_walk s f None t g first refl in
      stays walk.0 t u (Some (Err error)) walk.1 step
  filter_stays_ended stays s f t g item u h first (Accepts {entry = entry} step called) =
      let walk = ended_walk s f None t g first refl in
      stays walk.0 t u (Some (Ok entry)) walk.1 step
  filter_stays_ended stays s f t g item u h first (Rejects m n called entry step rejected after given) =
      let walk = ended_walk s f None t g first refl in
      let none : Some (Ok entry) ≡ None = stays walk.0 t m (Some (Ok entry)) walk.1 step in
      absurd cc
