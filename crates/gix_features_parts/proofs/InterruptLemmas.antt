-- Lemmas on iterators under a flag.
use Rattle.std.proofs.Common.{◌≡◌, ℕ, Bool, true, false, Option, Some, None, Result, Ok, Err}
use Rattle.gix_features_parts.specs.Interrupt.{Asked, ErrsWhenSet}

module _ {G S A M E : Type 0} {tells : G → Bool → G → Type 0} {count : G → ℕ} {steps : S → Option A → S → Type 0} {makes : M → E → Type 0} where
  pub over : {s : S} {f : G} {before after : Option M} {item : Option (Result A E)} → before ≡ None → item ≡ None → after ≡ None
      → ErrsWhenSet tells count steps makes s before f item s after f
  over b i a = rw (b, i, a) ErrsWhenSet.Over

  pub errs : {s : S} {f h : G} {before after : Option M} {make : M} {error : E} → before ≡ Some make → after ≡ None → Asked tells count f true h
      → makes make error → ErrsWhenSet tells count steps makes s before f (Some (Err error)) s after h
  errs b a asked made = rw (b, a) (ErrsWhenSet.Errs asked made)

  pub gives : {s t : S} {f h : G} {before : Option M} {make : M} {item : A} → before ≡ Some make → Asked tells count f false h
      → steps s (Some item) t → ErrsWhenSet tells count steps makes s before f (Some (Ok item)) t (Some make) h
  gives b asked step = rw b (ErrsWhenSet.Gives asked step)

  pub ends : {s t : S} {f h : G} {before after : Option M} {make : M} {item : Option (Result A E)} → before ≡ Some make → item ≡ None → after ≡ None
      → Asked tells count f false h → steps s None t → ErrsWhenSet tells count steps makes s before f item t after h
  ends b i a asked step = rw (b, i, a) (ErrsWhenSet.Ends asked step)
