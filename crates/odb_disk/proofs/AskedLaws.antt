-- Laws of the calls that write, given as values, for callers: the change that a call makes is possible, and leaves a tree.
use Rattle.std.proofs.Common.{◌≡◌, true, Some, Result, Ok, Err}
use Rattle.std.specs.Result.{result_ok}
use Rattle.odb_disk.specs.Tree.{Tree, IsTree}
use Rattle.odb_disk.specs.Tree.Change.{changed, is_possible_in}
use Rattle.odb_disk.specs.Tree.Write.{change_of_append, change_of_make_dir, change_of_new_file, change_of_remove, change_of_rename}
use Rattle.odb_disk.specs.declared.change.Change.{Change}
use Rattle.odb_disk.proofs.TreeLemmas.Changed.{IsTree-changed}
use Rattle.odb_disk.proofs.TreeLemmas.Write.{make_dir_possible, new_file_possible, append_possible, rename_possible, remove_possible}
use Rattle.odb_disk.specs.Ask.{change_of_ask}
use Rattle.odb_disk.specs.declared.ask.DiskAsk.{DiskAsk}
use Rattle.odb_disk.specs.declared.ask.DiskAsk.TheVariants as asks

from_ok : {A B : Type 0} (told : Result A B) (x : A) → result_ok told ≡ Some x → told ≡ Ok x
from_ok (Ok y) x is = cc
from_ok (Err e) x is = absurd (cc)

pub asked_possible : (t : Tree) → IsTree t → (ask : DiskAsk) (change : Change) → change_of_ask t ask ≡ Some change → is_possible_in t change ≡ true
unfolding change_of_ask
asked_possible t is_tree (asks.Look path follow) change is = absurd (cc)
asked_possible t is_tree (asks.Read path) change is = absurd (cc)
asked_possible t is_tree (asks.OpenDir path) change is = absurd (cc)
asked_possible t is_tree (asks.NextEntry dir) change is = absurd (cc)
asked_possible t is_tree (asks.CloseDir dir) change is = absurd (cc)
asked_possible t is_tree (asks.MakeDir path) change is = make_dir_possible t is_tree path change (from_ok (change_of_make_dir t path) change is)
asked_possible t is_tree (asks.NewFile path) change is = new_file_possible t is_tree path change (from_ok (change_of_new_file t path) change is)
asked_possible t is_tree (asks.Append path bytes) change is = append_possible t is_tree path change bytes (from_ok (change_of_append t path bytes) change is)
asked_possible t is_tree (asks.Rename from to) change is = rename_possible t is_tree from change to (from_ok (change_of_rename t from to) change is)
asked_possible t is_tree (asks.Remove path) change is = remove_possible t is_tree path change (from_ok (change_of_remove t path) change is)

pub IsTree-asked : (t : Tree) → IsTree t → (ask : DiskAsk) (change : Change) → change_of_ask t ask ≡ Some change → IsTree (changed t change)
IsTree-asked t is_tree ask change is = IsTree-changed t change is_tree (asked_possible t is_tree ask change is)
