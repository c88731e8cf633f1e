-- What a world keeps of watched paths fits its tree, since some events lead to the world.
use Rattle.std.proofs.Common.{◌≡◌, true, [], ◌∷◌, ◌++◌, codes, Option, Some, None, refl, sym, ap, ◌∙◌, subst}
use Rattle.std.specs.FinSet as set
use Rattle.std.proofs.Math.Logic.{∥∥₁_elim}
use Rattle.std.specs.Coded.{Coded-set, coded_bool, coded_list, coded_option, coded_ℕ}
use Rattle.std.proofs.lemmas.Grind.{not_there}
use Rattle.odb_base.specs.Path.{Name, Path, parent_of}
use Rattle.odb_base.specs.PathLaws.{parent_of-push, parent_of-some}
use Rattle.odb_disk.specs.MemDisk.{Volume}
use Rattle.odb_disk.specs.Tree.{Tree, tree_of}
use Rattle.gix_odb_watch.specs.Kept.{Fits, Folders, LiesInOne}
use Rattle.gix_odb_watch.specs.Watched.{pack_directory}
use Rattle.gix_odb_world.specs.declared.course.Course.{Course}
use Rattle.gix_odb_world.specs.World.{HasHistory, IsExplained}
use Rattle.gix_odb_world.proofs.HistoryLemmas.{tree_at-all}

-- ---- where a path lies that lies in the pack directory of a folder

parent_of_watched : (folders : Folders) (path : Path) (l : LiesInOne folders path) → parent_of path ≡ Some (pack_directory l.folder)
parent_of_watched folders path l = ap parent_of l.path_is ∙ parent_of-push (pack_directory l.folder) l.name

directory_is : (folders : Folders) (path directory : Path) (l : LiesInOne folders path) → parent_of path ≡ Some directory → directory ≡ pack_directory l.folder
directory_is folders path directory l is = let both : Some directory ≡ Some (pack_directory l.folder) = sym is ∙ parent_of_watched folders path l in cc both

folder_of_directory : (folders : Folders) (path directory : Path) (l : LiesInOne folders path) → parent_of path ≡ Some directory → parent_of directory ≡ Some l.folder
folder_of_directory folders path directory l is = ap parent_of (directory_is folders path directory l is) ∙ parent_of-push l.folder (codes "pack")

own_folder : (folders : Folders) (path directory folder : Path) (l : LiesInOne folders path) → parent_of path ≡ Some directory → parent_of directory ≡ Some folder → l.folder ≡ folder
own_folder folders path directory folder l is at = let both : Some l.folder ≡ Some folder = sym (folder_of_directory folders path directory l is) ∙ at in cc both

-- ---- of a world of which it is known that some events lead there

module _ (world : Course) (explained : IsExplained world) where
  never : (HasHistory world → ⊥) → ⊥
  never wrong = not_there explained wrong

  -- a path that is known to lie in the pack directory of a folder does, by its own names
  module _ (folders : Folders) (path : Path) (known : HasHistory world → LiesInOne folders path) where
    in_folder : (directory folder : Path) → parent_of path ≡ Some directory → parent_of directory ≡ Some folder → LiesInOne folders path
    in_folder directory folder is at =
        let name : (n : Name) × (path ≡ directory ++ n ∷ []) = parent_of-some path directory is in
        record {
          folder = folder;
          among = ∥∥₁_elim explained (Coded-set coded_bool _ _) (λ h. subst (λ f. set.contains folders f ≡ true) (own_folder folders path directory folder (known h) is at) (known h).among);
          name = name.0;
          path_is =
              name.1
              ∙ ap (λ d. d ++ name.0 ∷ [])
              (∥∥₁_elim explained (Coded-set (coded_list (coded_list coded_ℕ)) _ _) (λ h. directory_is folders path directory (known h) is ∙ ap pack_directory (own_folder folders path directory folder (known h) is at)));
        }

    by_folder : (directory : Path) (o : Option Path) → parent_of path ≡ Some directory → parent_of directory ≡ o → LiesInOne folders path
    by_folder directory None is at = absurd (never (λ h. cc (sym at ∙ folder_of_directory folders path directory (known h) is)))
    by_folder directory (Some folder) is at = in_folder directory folder is at

    by_directory : (o : Option Path) → parent_of path ≡ o → LiesInOne folders path
    by_directory None is = absurd (never (λ h. cc (sym is ∙ parent_of_watched folders path (known h))))
    by_directory (Some directory) is = by_folder directory (parent_of directory) is refl

    lies : LiesInOne folders path
    lies = by_directory (parent_of path) refl

  fits_by : HasHistory world → Fits world.shown (tree_of world.disk.state)
  fits_by h =
      subst (λ (d : Volume). Fits world.shown (tree_of d.state)) (sym h.explains.disk)
      (subst (Fits world.shown) (tree_at-all h.first h.events) h.explains.watched.fits)

  pub fits_now : Fits world.shown (tree_of world.disk.state)
  fits_now = record {
    is_tree = record {
      root = ∥∥₁_elim explained (Coded-set coded_bool _ _) (λ h. (fits_by h).is_tree.root);
      ways = λ directory name node at. ∥∥₁_elim explained (Coded-set coded_bool _ _) (λ h. (fits_by h).is_tree.ways directory name node at);
      apart = λ path other node twin at there same.
          ∥∥₁_elim explained (Coded-set (coded_list (coded_list coded_ℕ)) _ _) (λ h. (fits_by h).is_tree.apart path other node twin at there same);
    };
    whole = λ path time bytes shows. ∥∥₁_elim explained (Coded-set (coded_option (coded_list coded_ℕ)) _ _) (λ h. (fits_by h).whole path time bytes shows);
    only = λ path time bytes kept. lies world.shown.folders path (λ h. (fits_by h).only path time bytes kept);
    linked = λ folder is. ∥∥₁_elim explained (Coded-set coded_bool _ _) (λ h. (fits_by h).linked folder is);
    knows = λ folder among name kind is place on. ∥∥₁_elim explained (Coded-set coded_bool _ _) (λ h. (fits_by h).knows folder among name kind is place on);
  }
