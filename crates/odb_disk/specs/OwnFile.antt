-- A file at the spot of a path.
use Rattle.std.specs.Prelude.{◌≡◌, ℕ, List, Ok}
use Rattle.odb_base.specs.Path.{Path}
use Rattle.odb_disk.specs.Tree.{Tree}
use Rattle.odb_disk.specs.Tree.Follow.{read_of}
use Rattle.odb_disk.specs.Tree.Write.{spot, file_spot}

-- a file with these bytes and this time is at the spot of a path
pub record HasFile (t : Tree) (path s : Path) (bytes : List ℕ) (time : ℕ) : Type 0 where
  pub is : spot t path ≡ Ok s
  pub leads : file_spot t path ≡ Ok s
  pub reads : read_of t path ≡ Ok (bytes, time)
