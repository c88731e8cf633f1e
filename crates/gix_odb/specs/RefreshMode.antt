-- What differs between handles that refresh the list of their store's core and those that never do.
use Rattle.gix_odb.specs.declared.refresh_mode.RefreshMode.{RefreshMode}
use Rattle.gix_odb.specs.declared.refresh_mode.RefreshMode.TheVariants.{AfterAllIndicesLoaded, Never}

-- one thing for a handle that never refreshes its list, and another for one that does
abbrev pub by_mode : {A : Type 0} → (never other : A) → RefreshMode → A
by_mode never other Never = never
by_mode never other AfterAllIndicesLoaded = other
