-- The packs of a slot after one was read. No public clause cites this.
use Rattle.std.specs.Prelude.{ℕ, List, map, Option, Some, None, if◌then◌else◌, slice_set}
use Rattle.std.specs.List.{list_any}
use Rattle.odb_base.specs.Path.{Path}
use Rattle.gix_pack_read.specs.FileBytes.{FileBytes}
use Rattle.gix_odb_events.specs.PackFiles.{PackFile}
use Rattle.gix_odb_core.specs.Files.{stored_at, takes}

-- each pack with what was read, if one takes it
abbrev pub packs_with : Path → FileBytes → List PackFile → Option (List PackFile)
packs_with path bytes packs = if list_any (takes path) packs then Some (map (stored_at path bytes) packs) else None

-- the pack at a place with what was read, if it takes it
abbrev pub place_with : Path → FileBytes → List PackFile → ℕ → PackFile → Option (List PackFile)
place_with path bytes packs place pack = if takes path pack then Some (slice_set packs place (stored_at path bytes pack)) else None
