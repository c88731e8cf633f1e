-- Where a name of a folder leads somewhere, the folder leads to a directory; and a path that can be read is a file by its stat.
use Rattle.std.proofs.Common.{◌≡◌, ◌⊎◌, inl, inr, ℕ, zero, suc, true, false, List, [], ◌∷◌, ◌++◌, Option, Some, None, Result, Ok, Err}
use Rattle.std.proofs.Common.{refl, sym, ap, ◌∙◌, append_assoc}
use Rattle.odb_base.specs.Path.{Name, Path}
use Rattle.odb_disk.specs.Entries.{entries_at, entries_at_place, entries_in, opened}
use Rattle.odb_disk.specs.Tree.{Tree, node_at}
use Rattle.odb_disk.specs.Tree.Follow.{Absent, Blocked, LinkLoop, Missing, Onward, Pass, Place, Reached, Refusal, WrongKind}
use Rattle.odb_disk.specs.Tree.Follow.{arrives, at_last, beyond, ending, file_of, file_of_place, followed, followed_within, looked}
use Rattle.odb_disk.specs.Tree.Follow.{meta_of, meta_of_place, meta_with, most_links, pass, past, read_of}
use Rattle.odb_disk.specs.declared.entry.Entry.{Entry}
use Rattle.odb_disk.specs.declared.meta.Kind.TheVariants as kinds
use Rattle.odb_disk.specs.declared.meta.Meta.{Meta}
use Rattle.odb_disk.specs.declared.node.Content.{Content}
use Rattle.odb_disk.specs.declared.node.Content.TheVariants.{File, Dir, Link}
use Rattle.odb_disk.specs.declared.node.Node.{Node}

-- ---- the folder of a name that leads somewhere

module _ (tree : Tree) (name : Name) where
  -- What a pass along a path says of one that has another name after it: past a directory anything, past another node it is blocked.
  abbrev GoesBelow : Pass → Pass → Type 0
  GoesBelow (Reached path node) below = (node.content ≡ Dir) ⊎ (below ≡ Blocked)
  GoesBelow (Onward path) below = below ≡ Onward (path ++ name ∷ [])
  GoesBelow Missing below = below ≡ Missing
  GoesBelow Blocked below = below ≡ Blocked

  end_below : (way : Path) (node : Node) (content : Content) → node.content ≡ content → (further : Pass)
      → GoesBelow (at_last true way node content) (past content (name ∷ []) further)
  end_below way node (File bytes time) is further = inr refl
  end_below way node Dir is further = inl is
  end_below way node (Link target) is further = refl

  last_below : (way : Path) (o : Option Node) (further : Pass) → GoesBelow (ending true way o) (beyond o (name ∷ []) further)
  last_below way None further = refl
  last_below way (Some node) further = end_below way node node.content refl further

  past_below : (names : Path) (content : Content) (f g : Pass) → GoesBelow g f → GoesBelow (past content names g) (past content (names ++ name ∷ []) f)
  past_below names (File bytes time) f g is = refl
  past_below names Dir f g is = is
  past_below names (Link target) f g is = ap Onward (sym (append_assoc target names (name ∷ [])))

  beyond_below : (names : Path) (o : Option Node) (f g : Pass) → GoesBelow g f → GoesBelow (beyond o names g) (beyond o (names ++ name ∷ []) f)
  beyond_below names None f g is = refl
  beyond_below names (Some node) f g is = past_below names node.content f g is

  pass_below : (way names : Path) → GoesBelow (pass tree true way names) (pass tree false way (names ++ name ∷ []))
  unfolding pass
  pass_below way [] = last_below way (node_at tree way) (pass tree false (way ++ name ∷ []) [])
  pass_below way (x ∷ names) =
      let further = way ++ x ∷ [] in
      beyond_below (x ∷ names) (node_at tree way) (pass tree false further (names ++ name ∷ [])) (pass tree true further names) (pass_below further names)

  -- a path leads to a directory
  abbrev IsDirectory : Result Place Refusal → Type 0
  IsDirectory led = (place : Place) × (led ≡ Ok place) × (place.node.content ≡ Dir)

  module _ (f g : Path → Result Place Refusal) (onward : (path : Path) (there : Place) → f (path ++ name ∷ []) ≡ Ok there → IsDirectory (g path)) where
    arrives_below : (p below : Pass) → GoesBelow p below → (there : Place) → arrives f below ≡ Ok there → IsDirectory (arrives g p)
    arrives_below (Reached path node) below (inl directory) there is = (record { path = path; node = node }, refl, directory)
    arrives_below (Reached path node) below (inr blocked) there is =
        let wrong : ◌≡◌ {A = Result Place Refusal} (Err WrongKind) (Ok there) = sym (ap (arrives f) blocked) ∙ is in absurd (cc wrong)
    arrives_below (Onward path) below goes there is = onward path there (sym (ap (arrives f) goes) ∙ is)
    arrives_below Missing below missing there is =
        let wrong : ◌≡◌ {A = Result Place Refusal} (Err Absent) (Ok there) = sym (ap (arrives f) missing) ∙ is in absurd (cc wrong)
    arrives_below Blocked below blocked there is =
        let wrong : ◌≡◌ {A = Result Place Refusal} (Err WrongKind) (Ok there) = sym (ap (arrives f) blocked) ∙ is in absurd (cc wrong)

  leads_to_directory : (links : ℕ) (folder : Path) (there : Place) → followed_within links tree false (folder ++ name ∷ []) ≡ Ok there
      → IsDirectory (followed_within links tree true folder)
  unfolding followed_within
  leads_to_directory zero folder there is =
      arrives_below (λ _. Err LinkLoop) (λ _. Err LinkLoop) (λ path other refused. absurd (cc refused))
      (pass tree true [] folder) (pass tree false [] (folder ++ name ∷ [])) (pass_below [] folder) there is
  leads_to_directory (suc links) folder there is =
      arrives_below (followed_within links tree false) (followed_within links tree true) (leads_to_directory links)
      (pass tree true [] folder) (pass tree false [] (folder ++ name ∷ [])) (pass_below [] folder) there is

led_somewhere : (led : Result Place Refusal) (meta : Meta) → meta_of_place led ≡ Ok meta → (there : Place) × (led ≡ Ok there)
led_somewhere (Ok place) meta is = (place, refl)
led_somewhere (Err refusal) meta is = let wrong : ◌≡◌ {A = Result Meta Refusal} (Err refusal) (Ok meta) = is in absurd (cc wrong)

-- a folder with a name at which a stat finds something can be opened
pub folder_of_a_name_opens : (tree : Tree) (folder : Path) (name : Name) (meta : Meta) → looked tree (folder ++ name ∷ []) false ≡ Ok meta
    → (entries : List Entry) × (opened tree folder ≡ Ok entries)
unfolding looked opened
folder_of_a_name_opens tree folder name meta is =
    let there = led_somewhere (followed tree false (folder ++ name ∷ [])) meta is in
    let directory = leads_to_directory tree name most_links folder there.0 there.1 in
    (entries_in tree directory.0.path, ap (entries_at_place tree) directory.1 ∙ ap (entries_at tree directory.0.path) directory.2)

-- ---- a file that can be read

file_has_kind : (dev ino : ℕ) (content : Content) (file : List ℕ × ℕ) → file_of content ≡ Ok file → (meta_with dev ino content).kind ≡ kinds.File
file_has_kind dev ino (File bytes time) file is = refl
file_has_kind dev ino Dir file is = absurd (cc is)
file_has_kind dev ino (Link target) file is = absurd (cc is)

led_to_file : (led : Result Place Refusal) (file : List ℕ × ℕ) → file_of_place led ≡ Ok file
    → (meta : Meta) × (meta_of_place led ≡ Ok meta) × (meta.kind ≡ kinds.File)
led_to_file (Ok place) file is = (meta_of place.node, refl, file_has_kind place.node.dev place.node.ino place.node.content file is)
led_to_file (Err refusal) file is = absurd (cc is)

-- its stat finds a file, a link in the last place followed
pub read_file_is_looked_at : (tree : Tree) (path : Path) (file : List ℕ × ℕ) → read_of tree path ≡ Ok file
    → (meta : Meta) × (looked tree path true ≡ Ok meta) × (meta.kind ≡ kinds.File)
unfolding looked read_of
read_file_is_looked_at tree path file is = led_to_file (followed tree true path) file is
