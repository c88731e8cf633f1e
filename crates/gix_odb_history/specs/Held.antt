-- Cores with a registered handle: another handle can join a core only while one is registered there.
use Rattle.std.specs.Prelude.{◌≢◌, length}
use Rattle.gix_odb_core.specs.History.{History, present}

-- a handle is registered at a core
abbrev pub IsHeld : History → Type 0
IsHeld history = length (present history).handles ≢ 0
