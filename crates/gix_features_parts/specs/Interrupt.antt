-- Work that a flag may end: which items an iterator gives under one.
use Rattle.std.specs.Prelude.{ℕ, Bool, true, false, Option, Some, None, Result, Ok, Err}
use Rattle.gix_features_parts.specs.Flag.{Counts}

-- a flag, by what it may answer and by the count of the times that it was found set
module _ {G : Type 0} (tells : G → Bool → G → Type 0) (count : G → ℕ) where
  -- the flag was asked once, and answered this
  pub record Asked (before : G) (answer : Bool) (after : G) : Type 0 where
    pub told : tells before answer after
    pub counted : Counts (count before) (count after) answer

  module _ {S A : Type 0} (steps : S → Option A → S → Type 0) where
    -- If the flag is set there is no item, and the inner iterator stays as it was. Else the item is that of the inner
    -- iterator.
    pub data UntilSet : S → G → Option A → S → G → Type 0 where
      Set : {s : S} {f h : G} → Asked f true h → UntilSet s f None s h
      NotSet : {s t : S} {f h : G} {item : Option A} → Asked f false h → steps s item t → UntilSet s f item t h

    -- what makes an error, by the errors that it may make
    module _ {M E : Type 0} (makes : M → E → Type 0) where
      -- If the flag is set an error is made, and nothing is left to make a second one. Else the item is that of the inner
      -- iterator; at its end, too, nothing is left to make an error. Then there is no item, and the flag isn't asked.
      pub data ErrsWhenSet : S → Option M → G → Option (Result A E) → S → Option M → G → Type 0 where
        Over : {s : S} {f : G} → ErrsWhenSet s None f None s None f
        Errs : {s : S} {f h : G} {make : M} {error : E} → Asked f true h → makes make error
            → ErrsWhenSet s (Some make) f (Some (Err error)) s None h
        Gives : {s t : S} {f h : G} {make : M} {item : A} → Asked f false h → steps s (Some item) t
            → ErrsWhenSet s (Some make) f (Some (Ok item)) t (Some make) h
        Ends : {s t : S} {f h : G} {make : M} → Asked f false h → steps s None t → ErrsWhenSet s (Some make) f None t None h
