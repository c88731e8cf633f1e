-- What a filtered walk gives.
use Rattle.std.specs.Prelude.{◌≡◌, ◌≤◌, Bool, true, false, Option, Some, None, Result, Ok, Err, MatchBool}
use Rattle.std.specs.Iterator.{Count, IsFinite, size}
use Rattle.std.specs.Fn.{Mut, CalledAt}
use denote.Ref.{Bor}
use Rattle.walkdir.specs.declared.dent.DirEntry.{DirEntry}
use Rattle.walkdir.specs.declared.error.Error.{Error}

-- no more items are left than before
abbrev pub LeavesNoMore : Count → Count → Type 0
LeavesNoMore before now = IsFinite before → IsFinite now × (size now ≤ size before)

-- a walk that ended gives nothing more
abbrev pub StaysEnded : {S : Type 0} → (S → Option (Result DirEntry Error) → S → Type 0) → Type 0
StaysEnded {S} steps = (s t u : S) (item : Option (Result DirEntry Error)) → steps s None t → steps t item u → item ≡ None

-- a walk that takes steps and can be skipped, and a predicate
module _ {S F : Type 0} (steps : S → Option (Result DirEntry Error) → S → Type 0) (skips : S → S → Type 0) (entered : S → Bool)
    (accepts : Mut F (Bor DirEntry × Unit {0}) Bool) where
  -- after an entry was rejected: a directory that was entered is skipped
  abbrev pub AfterRejected : S → S → Type 0
  AfterRejected s t = MatchBool (entered s) (skips s t) (t ≡ s)

  -- The next item: the walk's end, an error, or the first entry that isn't rejected. Rejected ones before it are left
  -- out, with what is below those that were entered.
  pub data Filters : S → F → Option (Result DirEntry Error) → S → F → Type 0 where
    Ends : {s t : S} {f : F} → steps s None t → Filters s f None t f
    Errs : {s t : S} {f : F} {error : Error} → steps s (Some (Err error)) t → Filters s f (Some (Err error)) t f
    Accepts : {s t : S} {f h : F} {entry : DirEntry} → steps s (Some (Ok entry)) t → CalledAt accepts f entry true h
        → Filters s f (Some (Ok entry)) t h
    Rejects : {s t : S} {f h : F} {item : Option (Result DirEntry Error)} (m n : S) (g : F) (entry : DirEntry) → steps s (Some (Ok entry)) m
        → CalledAt accepts f entry false g
        → AfterRejected m n → Filters n g item t h → Filters s f item t h
