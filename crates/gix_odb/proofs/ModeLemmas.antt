-- What holds in both modes of a handle.
use Rattle.gix_odb.specs.RefreshMode.{by_mode}
use Rattle.gix_odb.specs.declared.refresh_mode.RefreshMode.{RefreshMode}
use Rattle.gix_odb.specs.declared.refresh_mode.RefreshMode.TheVariants.{AfterAllIndicesLoaded, Never}

-- what holds of one thing and of another holds of the one that is for the mode
pub by_mode-all : {A : Type 0} (P : A → Type 0) (never other : A) (mode : RefreshMode) → P never → P other → P (by_mode never other mode)
by_mode-all P never other Never first further = first
by_mode-all P never other AfterAllIndicesLoaded first further = further
