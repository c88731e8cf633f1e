-- Which slots are listed, by marks. No public clause cites this.
use Rattle.std.specs.Prelude.{◌≡◌, ℕ, Bool, false, List, get_or}
use Rattle.gix_odb_events.specs.Shown.{is_listed}

-- a place is marked iff it is listed
abbrev pub IsMarked : List Bool → List ℕ → Type 0
IsMarked marks places = (k : ℕ) → get_or marks k false ≡ is_listed places k
