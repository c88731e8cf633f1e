-- Why errors come.
use Rattle.std.proofs.Common.{◌≡◌, ℕ, suc, inl, inr, Bool, true, false, List, [], ◌∷◌, Option, Some, None, Result, Ok, Err, refl, sym, subst, arith}
use Rattle.std.specs.Prelude.{Contains, IfErr, if◌then◌else◌, find}
use Rattle.odb_base.specs.Path.{Path}
use Rattle.odb_disk.specs.Streams.{Streams, Gives}
use Rattle.odb_disk.specs.declared.disk_error.DiskError.{DiskError}
use Rattle.odb_disk.specs.declared.disk_error.DiskError.TheVariants as refusals
use Rattle.walkdir.specs.Error.{is_no_memory, is_no_memory_inner, is_of_call, is_of_call_in, stream_failed}
use Rattle.walkdir.specs.Progress.{Progress, CausedWithin}
use Rattle.walkdir.specs.Causes.{IsCausedAmong, IsCausedIn}
use Rattle.walkdir.specs.Stack.{ancestors}
use Rattle.walkdir.specs.Turns.Taken.{ChecksLoop, standing_at}
use Rattle.walkdir.specs.Turns.{item_of, turn_given, turn_of}
use Rattle.walkdir.specs.Walk.{Ancestor}
use Rattle.walkdir.specs.Walk.Entries.{same_place}
use Rattle.walkdir.specs.declared.builder.Options.{Options}
use Rattle.walkdir.specs.declared.dent.DirEntry.{DirEntry}
use Rattle.walkdir.specs.declared.error.Error.{Error}
use Rattle.walkdir.specs.declared.error.ErrorInner.{ErrorInner}
use Rattle.walkdir.specs.declared.error.ErrorInner.TheVariants.{Io, Loop, NoMemory}
use Rattle.walkdir.specs.declared.directory.Place.{Place}

-- ---- errors that come from one call

lost_inner : (inner : ErrorInner) → is_no_memory_inner inner ≡ true → is_of_call_in inner ≡ true
lost_inner (Io (Some path) error) is = refl
lost_inner (Io None error) is = cc
lost_inner (Loop ancestor child) is = cc
lost_inner NoMemory is = refl

pub lost_call : (error : Error) → is_no_memory error ≡ true → is_of_call error ≡ true
lost_call error is = lost_inner error.inner is

-- what a stream is refused by
pub stream_call : (depth : ℕ) (old new : Streams) (dir : ℕ) (error : DiskError) → Gives old new dir (Err error)
    → is_of_call (stream_failed depth error) ≡ true
stream_call depth old new dir refusals.Absent gives = refl
stream_call depth old new dir refusals.WrongKind gives = absurd gives
stream_call depth old new dir refusals.LinkLoop gives = absurd gives
stream_call depth old new dir refusals.Exists gives = absurd gives
stream_call depth old new dir refusals.NotEmpty gives = absurd gives
stream_call depth old new dir refusals.Failed gives = refl
stream_call depth old new dir refusals.NoMemory gives = refl

call_inner : (options : Options) (above : List Ancestor) (inner : ErrorInner) → is_of_call_in inner ≡ true → IsCausedIn options above inner
call_inner options above (Io (Some path) error) is = tt
call_inner options above (Io None error) is = is
call_inner options above (Loop ancestor child) is = absurd cc
call_inner options above NoMemory is = tt

pub caused_by_call : (options : Options) (above : List Ancestor) (error : Error) → is_of_call error ≡ true → IsCausedAmong options above error
caused_by_call options above error is = call_inner options above error.inner is

-- ---- an error that reports a loop

found_if : (b : Bool) (test : Ancestor → Bool) (first : Ancestor) (above : List Ancestor) (ancestor : Ancestor)
    → (find test above ≡ Some ancestor → Contains above ancestor)
    → (if b then Some first else find test above) ≡ Some ancestor → Contains (first ∷ above) ancestor
found_if true test first above ancestor more is = let same : first ≡ ancestor = cc in (0, omega arith, same)
found_if false test first above ancestor more is = let at = more is in (suc at.0, omega arith, at.2)

found_among : (test : Ancestor → Bool) (above : List Ancestor) (ancestor : Ancestor) → find test above ≡ Some ancestor → Contains above ancestor
found_among test [] ancestor is = absurd cc
found_among test (first ∷ above) ancestor is = found_if (test first) test first above ancestor (found_among test above ancestor) is

pub caused_by_loop : (options : Options) (above : List Ancestor) (place : Place) (depth : ℕ) (child : Path) (error : Error)
    → options.follow_links ≡ true
    → ChecksLoop depth child (standing_at above place) (Err error) → IsCausedAmong options above error
caused_by_loop options above place depth child error follows (ancestor, found, inl is) =
    subst (λ (e : Error). IsCausedAmong options above e) (sym is)
    (follows, (ancestor, found_among (λ (a : Ancestor). same_place place a.place) above ancestor found, refl))
caused_by_loop options above place depth child error follows (ancestor, found, inr is) =
    subst (λ (e : Error). IsCausedAmong options above e) (sym is) tt

-- ---- the result of a turn

pub caused_given : (at : Progress) (entry : Option DirEntry) → CausedWithin at (item_of (turn_given entry))
caused_given at None = tt
caused_given at (Some entry) = tt

pub caused_turn : (at : Progress) (result : Result (Option DirEntry) Error) → IfErr result (λ e. IsCausedAmong at.options (ancestors at.stack) e)
    → CausedWithin at (item_of (turn_of result))
caused_turn at (Ok entry) caused = caused_given at entry
caused_turn at (Err error) caused = caused
