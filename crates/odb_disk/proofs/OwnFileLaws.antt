-- Laws of a file of one's own, for callers: a path whose spot is a file, from its making to its move, and what others may do
-- meanwhile.
use Rattle.std.proofs.Common.{◌≡◌, ℕ, true, false, List, [], ◌++◌, Ok, sym, ap, ◌∙◌, subst}
use Rattle.odb_base.specs.Path.{Path}
use Rattle.odb_disk.specs.OwnFile.{HasFile}
use Rattle.odb_disk.specs.Tree.{Tree, IsTree}
use Rattle.odb_disk.specs.Tree.Follow.{read_of}
use Rattle.odb_disk.specs.Tree.Change.{changed}
use Rattle.odb_disk.specs.Tree.Write.{vacant, replaceable, change_of_new_file, change_of_append, change_of_rename}
use Rattle.odb_disk.specs.Tree.Way.{crosses, SameOnWay}
use Rattle.odb_disk.specs.declared.change.Change.{Change}
use Rattle.odb_disk.specs.declared.change.Change.TheVariants.{PutFile, MakeDir, Rename, Append}
use Rattle.odb_disk.proofs.WriteLaws.{read_at_spot}
use Rattle.odb_disk.proofs.WayLaws.{read_kept, file_spot_kept, spot_kept, same_unfollowed, same_make_dir, vacant_off_file}
use Rattle.odb_disk.proofs.WayWriteLaws.{new_file_spot, new_file_file_spot, new_file_read_through, append_spot, append_file_spot}
use Rattle.odb_disk.proofs.WayWriteLaws.{append_read_through, rename_read_through, new_file_change, append_change, file_renamed}

-- ---- what its owner does

-- a new file is there, empty and with time 0
pub has_new_file : (t : Tree) → IsTree t → (path : Path) (change : Change) → change_of_new_file t path ≡ Ok change → (s : Path) × HasFile (changed t change) path s [] 0
has_new_file t is_tree path change is =
    let c = new_file_change t path change is in
    let there : HasFile (changed t (PutFile c.0 0 [])) path c.0 [] 0 = record {
      is = new_file_spot t is_tree path c.0 c.1;
      leads = new_file_file_spot t is_tree path c.0 c.1;
      reads = new_file_read_through t is_tree path c.0 c.1;
    } in
    (c.0, subst (λ d. HasFile (changed t d) path c.0 [] 0) (sym c.2) there)

-- it is still there if nothing on the way was changed
pub has_file_kept : (t u : Tree) (path s : Path) (bytes : List ℕ) (time : ℕ) → SameOnWay t u true path → HasFile t path s bytes time → HasFile u path s bytes time
has_file_kept t u path s bytes time same has =
    record { is = spot_kept t u path (same_unfollowed t u path same) ∙ has.is; leads = file_spot_kept t u path same ∙ has.leads; reads = read_kept t u path same ∙ has.reads }

module _ (t : Tree) (is_tree : IsTree t) (path s : Path) (bytes : List ℕ) (time : ℕ) (has : HasFile t path s bytes time) where
  -- an append adds its bytes
  pub has_more : (more : List ℕ) (change : Change) → change_of_append t path more ≡ Ok change → HasFile (changed t change) path s (bytes ++ more) time
  has_more more change is =
      let c = append_change t path change more is in
      let both : Ok c.0 ≡ Ok s = sym c.1 ∙ has.leads in
      let same : c.0 ≡ s = cc in
      let there : HasFile (changed t (Append s more)) path s (bytes ++ more) time = record {
        is = append_spot t s more path ∙ has.is;
        leads = append_file_spot t s more path ∙ has.leads;
        reads = append_read_through t is_tree path s has.leads bytes more time has.reads;
      } in
      subst (λ d. HasFile (changed t d) path s (bytes ++ more) time) (sym (c.2 ∙ ap (λ p. Append p more) same)) there

  -- a rename moves it to the other path, which then reads as it did, if no link that this path crosses is replaced
  pub moves_file : (to : Path) (change : Change) → change_of_rename t path to ≡ Ok change → (p : Path) × (replaceable t to ≡ Ok p) × (change ≡ Rename s p)
  moves_file to change is = file_renamed t is_tree path s has.is has.leads to change is

  pub moved_reads : (to p : Path) → change_of_rename t path to ≡ Ok (Rename s p) → crosses t to p ≡ false → read_of (changed t (Rename s p)) to ≡ Ok (bytes, time)
  moved_reads to p is free = rename_read_through t is_tree path to s p is has.leads free ∙ sym (read_at_spot t is_tree path s has.leads) ∙ has.reads

  -- ---- what others may do

  -- they make directories
  pub kept_by_make_dir : (other q : Path) (dev : ℕ) → vacant t other ≡ Ok q → SameOnWay t (changed t (MakeDir q dev)) true path
  kept_by_make_dir other q dev free = same_make_dir t true path q dev (vacant_off_file t is_tree path s has.leads other q free)
