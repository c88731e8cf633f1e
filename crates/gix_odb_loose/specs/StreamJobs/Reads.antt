-- What one read of a source takes. No public clause cites this.
use Rattle.std.specs.Prelude.{◌≡◌, ℕ, ◌<◌, ◌≤◌, List, length, Option}
use Rattle.odb_base.specs.Faults.{Rose}
use Rattle.gix_odb_loose.specs.WriteStreams.{Draws, IsAtEnd}
use Rattle.gix_odb_loose.specs.declared.fetch.Fetched.{Fetched}
use Rattle.gix_odb_loose.specs.declared.fetch.Fetched.TheVariants.{Piece, Failed}

-- some bytes were taken, at most `most`, and are lost
pub record Loses (most : ℕ) (left rest : Option (List ℕ)) (faults now : ℕ) : Type 0 where
  pub lost : List ℕ
  pub drawn : Draws left rest lost
  pub few : length lost ≤ most
  pub later : faults ≤ now

-- a piece was taken, and no read failed: fewer bytes than asked for only at the end
pub record Takes (most : ℕ) (left rest : Option (List ℕ)) (faults now : ℕ) (piece : List ℕ) : Type 0 where
  pub drawn : Draws left rest piece
  pub few : length piece ≤ most
  pub at_end : length piece < most → IsAtEnd rest
  pub same : now ≡ faults

abbrev pub Fetches : (most : ℕ) (left rest : Option (List ℕ)) (faults now : ℕ) → Fetched → Type 0
Fetches most left rest faults now (Piece piece) = Takes most left rest faults now piece
Fetches most left rest faults now Failed = Rose faults now × Loses most left rest faults now
