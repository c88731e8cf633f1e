-- Laws of why a tree refuses a call that makes something, for callers: no way gives Exists or NotEmpty.
use Rattle.std.specs.Prelude.{◌≡◌, ℕ, ◌++◌, Bool, true, false, List, [], length, drop, Option, Some, None, Result, Ok, Err, if◌then◌else◌}
use Rattle.std.proofs.Common.{ap}
use Rattle.odb_base.specs.Path.{Path, parent_of}
use Rattle.odb_disk.specs.Tree.{Tree, node_at, is_directory, is_directory_content}
use Rattle.odb_disk.specs.Tree.Change.{is_file_content, device_of, parent_node}
use Rattle.odb_disk.specs.Tree.Follow as following
use Rattle.odb_disk.specs.Tree.Write as writing
use Rattle.odb_disk.specs.Tree.Write.{and_then, from_followed, in_directory, spot, spot_below, vacant, vacant_spot, movable, movable_spot, replaceable}
use Rattle.odb_disk.specs.Tree.Write.{file_spot, file_path, change_of_make_dir, change_of_new_file, change_of_append, change_of_rename}
use Rattle.odb_disk.specs.declared.node.Node.{Node}
use Rattle.odb_disk.specs.declared.change.Change.TheVariants.{PutFile, MakeDir, Rename, Append}

-- a step is never refused so
abbrev pub Never : {A : Type 0} → writing.Refusal → Result A writing.Refusal → Type 0
Never refusal result = result ≡ Err refusal → ⊥

and_then-never : {A B : Type 0} (refusal : writing.Refusal) (next : A → Result B writing.Refusal) (result : Result A writing.Refusal) → Never refusal result → ((x : A) → Never refusal (next x))
    → Never refusal (and_then next result)
and_then-never refusal next (Ok x) before after = after x
and_then-never refusal next (Err other) before after = λ e. before (let same : other ≡ refusal = cc e in ap (λ (r : writing.Refusal). Err r) same)

-- neither of the two refusals that no way gives
pub data OffWay : writing.Refusal → Type 0 where
  there : OffWay writing.Exists
  full : OffWay writing.NotEmpty

from_followed-never : {A : Type 0} (refusal : writing.Refusal) → OffWay refusal → (result : Result A following.Refusal) → Never refusal (from_followed result)
from_followed-never refusal off (Ok x) e = cc e
from_followed-never writing.Exists off (Err following.Absent) e = cc e
from_followed-never writing.Exists off (Err following.WrongKind) e = cc e
from_followed-never writing.Exists off (Err following.LinkLoop) e = cc e
from_followed-never writing.NotEmpty off (Err following.Absent) e = cc e
from_followed-never writing.NotEmpty off (Err following.WrongKind) e = cc e
from_followed-never writing.NotEmpty off (Err following.LinkLoop) e = cc e
from_followed-never writing.Absent off (Err refusal) e = elim off [ ]
from_followed-never writing.WrongKind off (Err refusal) e = elim off [ ]
from_followed-never writing.LinkLoop off (Err refusal) e = elim off [ ]

either-never : {A : Type 0} (refusal : writing.Refusal) → OffWay refusal → (b : Bool) (x : A) → Never refusal (if b then Ok x else Err writing.WrongKind)
either-never refusal off true x e = cc e
either-never writing.Exists off false x e = cc e
either-never writing.NotEmpty off false x e = cc e
either-never writing.Absent off false x e = elim off [ ]
either-never writing.WrongKind off false x e = elim off [ ]
either-never writing.LinkLoop off false x e = elim off [ ]

otherwise-never : {A : Type 0} (refusal : writing.Refusal) → OffWay refusal → (b : Bool) (x : A) → Never refusal (if b then Err writing.WrongKind else Ok x)
otherwise-never refusal off false x e = cc e
otherwise-never writing.Exists off true x e = cc e
otherwise-never writing.NotEmpty off true x e = cc e
otherwise-never writing.Absent off true x e = elim off [ ]
otherwise-never writing.WrongKind off true x e = elim off [ ]
otherwise-never writing.LinkLoop off true x e = elim off [ ]

module _ (refusal : writing.Refusal) (off : OffWay refusal) (tree : Tree) where
  below-never : (path : Path) (front : Option Path) → Never refusal (spot_below tree path front)
  below-never path None = λ e. cc e
  below-never path (Some front) =
      and_then-never refusal (in_directory (drop (length front) path)) (from_followed (following.followed tree true front)) (from_followed-never refusal off (following.followed tree true front))
      (λ place. either-never refusal off (is_directory_content place.node.content) (place.path ++ drop (length front) path))

  spot-never : (path : Path) → Never refusal (spot tree path)
  unfolding spot
  spot-never path = below-never path (parent_of path)

  -- an append is refused only because of its way
  pub append-never : (path : Path) (bytes : List ℕ) → Never refusal (change_of_append tree path bytes)
  unfolding change_of_append file_spot
  append-never path bytes =
      let told = following.followed tree true path in
      and_then-never refusal (λ place. Ok (Append place bytes)) (and_then file_path (from_followed told))
      (and_then-never refusal file_path (from_followed told) (from_followed-never refusal off told) (λ place. either-never refusal off (is_file_content place.node.content) place.path))
      (λ place e. cc e)

  movable-never : (place : Path) (node : Option Node) → Never refusal (movable_spot place node)
  movable-never place None = absent_never refusal off
    where
      absent_never : (refusal : writing.Refusal) → OffWay refusal → Never {A = Path} refusal (Err writing.Absent)
      absent_never writing.Exists off e = cc e
      absent_never writing.NotEmpty off e = cc e
      absent_never writing.Absent off e = elim off [ ]
      absent_never writing.WrongKind off e = elim off [ ]
      absent_never writing.LinkLoop off e = elim off [ ]
  movable-never place (Some node) = otherwise-never refusal off (is_directory_content node.content) place

  -- a rename replaces what is there, if it is no directory
  abbrev no_directory_at : Path → Result Path writing.Refusal
  no_directory_at place = if is_directory (node_at tree place) then Err writing.WrongKind else Ok place

  -- so is a rename
  pub rename-never : (from to : Path) → Never refusal (change_of_rename tree from to)
  unfolding change_of_rename movable replaceable
  rename-never from to =
      and_then-never refusal (λ source. and_then (λ target. Ok (Rename source target)) (and_then no_directory_at (spot tree to)))
      (and_then (λ place. movable_spot place (node_at tree place)) (spot tree from))
      (and_then-never refusal (λ place. movable_spot place (node_at tree place)) (spot tree from) (spot-never from) (λ place. movable-never place (node_at tree place)))
      (λ source.
      and_then-never refusal (λ target. Ok (Rename source target)) (and_then no_directory_at (spot tree to))
      (and_then-never refusal no_directory_at (spot tree to) (spot-never to) (λ place. otherwise-never refusal off (is_directory (node_at tree place)) place))
      (λ target e. cc e))

vacant_spot-never : (place : Path) (node : Option Node) → Never writing.NotEmpty (vacant_spot place node)
vacant_spot-never place None e = cc e
vacant_spot-never place (Some node) e = cc e

vacant-never : (tree : Tree) (path : Path) → Never writing.NotEmpty (vacant tree path)
unfolding vacant
vacant-never tree path =
    and_then-never writing.NotEmpty (λ place. vacant_spot place (node_at tree place)) (spot tree path) (spot-never writing.NotEmpty full tree path)
    (λ place. vacant_spot-never place (node_at tree place))

-- a new file and a new directory are refused by their way, or because something is there
pub new_file-never : (tree : Tree) (path : Path) → Never writing.NotEmpty (change_of_new_file tree path)
unfolding change_of_new_file
new_file-never tree path = and_then-never writing.NotEmpty (λ place. Ok (PutFile place 0 [])) (vacant tree path) (vacant-never tree path) (λ place e. cc e)

pub make_dir-never : (tree : Tree) (path : Path) → Never writing.NotEmpty (change_of_make_dir tree path)
unfolding change_of_make_dir
make_dir-never tree path = and_then-never writing.NotEmpty (λ place. Ok (MakeDir place (device_of (parent_node tree place)))) (vacant tree path) (vacant-never tree path) (λ place e. cc e)
