-- What a filter passes on, from one rejected entry to the next.
use Rattle.std.proofs.Common.{◌≡◌, Bool, true, false, Option, Some, Result, Ok, refl, sym, subst}
use Rattle.std.specs.Prelude.{MatchBool}
use Rattle.std.specs.Fn.{Mut, CalledAt}
use denote.Ref.{Bor}
use Rattle.walkdir.specs.Filter.{AfterRejected, Filters}
use Rattle.walkdir.specs.declared.dent.DirEntry.{DirEntry}
use Rattle.walkdir.specs.declared.error.Error.{Error}

module _ {S F : Type 0} (steps : S → Option (Result DirEntry Error) → S → Type 0) (skips : S → S → Type 0) (entered : S → Bool)
    (accepts : Mut F (Bor DirEntry × Unit {0}) Bool) where
  -- what is given from the second state on is given from the first on
  pub record PassesOn (first : S) (called : F) (s : S) (f : F) : Type 0 where
    pub then : (item : Option (Result DirEntry Error)) (t : S) (h : F) → Filters steps skips entered accepts s f item t h
        → Filters steps skips entered accepts first called item t h

  pub passes_first : (s : S) (f : F) → PassesOn s f s f
  passes_first s f = record { then = λ item t h given. given }

  -- an entry that was rejected is left out: a directory that was entered is skipped
  pub passes_rejected : (first : S) (called : F) (s m n : S) (f g : F) (entry : DirEntry) → PassesOn first called s f → steps s (Some (Ok entry)) m
      → CalledAt accepts f entry false g
      → AfterRejected steps skips entered accepts m n → PassesOn first called n g
  passes_rejected first called s m n f g entry before step rejected after = record {
    then = λ item t h given. before.then item t h (Filters.Rejects m n g entry step rejected after given);
  }

  pub after_skipped : (m n : S) → entered m ≡ true → skips m n → AfterRejected steps skips entered accepts m n
  after_skipped m n is skipped = subst (λ (b : Bool). MatchBool b (skips m n) (n ≡ m)) (sym is) skipped

  pub after_passed : (m : S) → entered m ≡ false → AfterRejected steps skips entered accepts m m
  after_passed m is = subst (λ (b : Bool). MatchBool b (skips m m) (m ≡ m)) (sym is) refl
