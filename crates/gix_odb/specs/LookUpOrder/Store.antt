-- The store that a look-up is made in.
use Rattle.gix_odb.specs.declared.look_up.Setting as declared
pub use Rattle.gix_odb.specs.Store.{Setting}

abbrev pub setting_of : declared.Setting → Setting
setting_of setting = record { parts = setting.parts.now; most = setting.max_changes }
