-- Laws of what watched paths show, for callers: what a read of an index or of a pack gives.
use Rattle.std.proofs.Common.{◌≡◌, ℕ, true, List, [], ◌∷◌, ◌++◌, codes, Some, None, Ok, if◌then◌else◌, ◌||◌, refl, ap}
use Rattle.std.specs.Prelude.{nat_eq}
use Rattle.std.specs.List.{ends_with}
use Rattle.odb_base.specs.Path.{Name, Path, same_name}
use Rattle.odb_disk.specs.Tree.{Tree}
use Rattle.odb_disk.specs.Tree.Follow.{read_of}
use Rattle.gix_odb_watch.specs.Watched.{Shows, pack_directory}
use Rattle.gix_odb_watch.specs.declared.watched.WatchedKind.TheVariants.{PackOrIndex, MultiIndex}

-- a path of an index or of a pack shows what a read of it gives
pub shows_read : (folder : Path) (tree : Tree) (name : Name) (bytes : List ℕ) (at : ℕ) → (ends_with nat_eq name (codes ".idx") || ends_with nat_eq name (codes ".pack")) ≡ true
    → read_of tree (pack_directory folder ++ name ∷ []) ≡ Ok (bytes, at) → Shows folder tree (pack_directory folder ++ name ∷ []) 0 bytes
shows_read folder tree name bytes at named reads = record {
  name = name;
  path_is = refl;
  kind = PackOrIndex;
  is_watched = ap (λ b. if b then Some PackOrIndex else (if same_name name (codes "multi-pack-index") then Some MultiIndex else None)) named;
  at = at;
  reads = reads;
  counts = refl;
}
