-- The stat of a name in a folder, no link in the last place followed: it describes the node that the folder's directory has under it.
use Rattle.std.proofs.Common.{◌≡◌, ℕ, zero, suc, true, false, [], ◌∷◌, ◌++◌, Option, Some, None, Result, Ok, Err}
use Rattle.std.proofs.Common.{refl, sym, ap, ◌∙◌, subst, append_assoc}
use Rattle.odb_base.specs.Path.{Name, Path}
use Rattle.odb_disk.specs.Entries.{entry_of, kind_of}
use Rattle.odb_disk.specs.Tree.{Tree, node_at}
use Rattle.gix_odb.specs.OpenStream.{entry_from}
use Rattle.odb_disk.specs.Tree.Follow.{Absent, Blocked, LinkLoop, Missing, Onward, Pass, Place, Reached, Refusal}
use Rattle.odb_disk.specs.Tree.Follow.{arrives, at_last, beyond, ending, followed, followed_within, looked}
use Rattle.odb_disk.specs.Tree.Follow.{meta_of, meta_of_place, meta_with, most_links, pass, past}
use Rattle.odb_disk.specs.declared.meta.Meta.{Meta}
use Rattle.odb_disk.specs.declared.node.Content.{Content}
use Rattle.odb_disk.specs.declared.node.Content.TheVariants.{File, Dir, Link}
use Rattle.odb_disk.specs.declared.node.Node.{Node}

module _ (tree : Tree) (name : Name) where
  -- what a directory at a path says of one more name
  abbrev next : Path → Pass
  next path = ending false (path ++ name ∷ []) (node_at tree (path ++ name ∷ []))

  -- a pass with links followed never reaches one
  abbrev inside : Content → Pass → Pass
  inside (File bytes time) further = Blocked
  inside Dir further = further
  inside (Link target) further = Blocked

  -- what a pass along a path says of one more name
  abbrev by_name : Pass → Pass
  by_name (Reached path node) = inside node.content (next path)
  by_name (Onward path) = Onward (path ++ name ∷ [])
  by_name Missing = Missing
  by_name Blocked = Blocked

  end_by : (way : Path) (node : Node) (content : Content) → node.content ≡ content
      → past content (name ∷ []) (next way) ≡ by_name (at_last true way node content)
  end_by way node (File bytes time) is = sym (ap (λ c. inside c (next way)) is)
  end_by way node Dir is = sym (ap (λ c. inside c (next way)) is)
  end_by way node (Link target) is = refl

  last_by : (way : Path) (o : Option Node) → beyond o (name ∷ []) (next way) ≡ by_name (ending true way o)
  last_by way None = refl
  last_by way (Some node) = end_by way node node.content refl

  past_by : (names : Path) (content : Content) (f g : Pass) → f ≡ by_name g → past content (names ++ name ∷ []) f ≡ by_name (past content names g)
  past_by names (File bytes time) f g is = refl
  past_by names Dir f g is = is
  past_by names (Link target) f g is = ap Onward (sym (append_assoc target names (name ∷ [])))

  beyond_by : (names : Path) (o : Option Node) (f g : Pass) → f ≡ by_name g → beyond o (names ++ name ∷ []) f ≡ by_name (beyond o names g)
  beyond_by names None f g is = refl
  beyond_by names (Some node) f g is = past_by names node.content f g is

  pass_by : (way names : Path) → pass tree false way (names ++ name ∷ []) ≡ by_name (pass tree true way names)
  unfolding pass
  pass_by way [] = last_by way (node_at tree way)
  pass_by way (x ∷ names) =
      let further = way ++ x ∷ [] in
      beyond_by (x ∷ names) (node_at tree way) (pass tree false further (names ++ name ∷ [])) (pass tree true further names) (pass_by further names)

  -- where the name leads in a directory
  abbrev stands : Path → Option Node → Result Place Refusal
  stands path None = Err Absent
  stands path (Some node) = Ok (record { path = path; node = node })

  arrives_there : (further : Path → Result Place Refusal) (path : Path) (o : Option Node) → arrives further (ending false path o) ≡ stands path o
  arrives_there further path None = refl
  arrives_there further path (Some node) = refl

  module _ (place : Place) (directory : place.node.content ≡ Dir) where
    abbrev below : Path
    below = place.path ++ name ∷ []

    by_arrives : (f g : Path → Result Place Refusal) → ((path : Path) → g path ≡ Ok place → f (path ++ name ∷ []) ≡ stands below (node_at tree below))
        → (p : Pass) → arrives g p ≡ Ok place → arrives f (by_name p) ≡ stands below (node_at tree below)
    by_arrives f g onward (Reached path node) is =
        let same : ◌≡◌ {A = Place} (record { path = path; node = node }) place = cc in
        subst (λ (k : Place). arrives f (inside k.node.content (next k.path)) ≡ stands below (node_at tree below)) (sym same)
        (ap (λ c. arrives f (inside c (next place.path))) directory ∙ arrives_there f below (node_at tree below))
    by_arrives f g onward (Onward path) is = onward path is
    by_arrives f g onward Missing is = absurd (cc)
    by_arrives f g onward Blocked is = absurd (cc)

    name_leads : (links : ℕ) (folder : Path) → followed_within links tree true folder ≡ Ok place
        → followed_within links tree false (folder ++ name ∷ []) ≡ stands below (node_at tree below)
    unfolding followed_within
    name_leads zero folder is =
        ap (arrives (λ _. Err LinkLoop)) (pass_by [] folder)
        ∙ by_arrives (λ _. Err LinkLoop) (λ _. Err LinkLoop) (λ path refused. absurd (cc)) (pass tree true [] folder) is
    name_leads (suc links) folder is =
        ap (arrives (followed_within links tree false)) (pass_by [] folder)
        ∙ by_arrives (followed_within links tree false) (followed_within links tree true) (name_leads links) (pass tree true [] folder) is

-- ---- what the stat shows

-- a node is statted
pub record IsLookedAt (tree : Tree) (path : Path) (meta : Meta) : Type 0 where
  pub node : Node
  pub at : node_at tree path ≡ Some node
  pub is : meta_of node ≡ meta

looked_at : (tree : Tree) (path : Path) (meta : Meta) (o : Option Node) → node_at tree path ≡ o
    → meta_of_place (stands tree [] path o) ≡ Ok meta → IsLookedAt tree path meta
looked_at tree path meta None at is = absurd (cc)
looked_at tree path meta (Some node) at is = record { node = node; at = at; is = cc }

pub name_is_looked_at : (tree : Tree) (folder : Path) (name : Name) (place : Place) (meta : Meta) → followed tree true folder ≡ Ok place
    → place.node.content ≡ Dir → looked tree (folder ++ name ∷ []) false ≡ Ok meta → IsLookedAt tree (place.path ++ name ∷ []) meta
unfolding looked
name_is_looked_at tree folder name place meta leads directory is =
    let below = place.path ++ name ∷ [] in
    looked_at tree below meta (node_at tree below) refl (sym (ap meta_of_place (name_leads tree name place directory most_links folder leads)) ∙ is)

-- a node that the folder's directory has under the name is the one that is statted
pub node_is_looked_at : (tree : Tree) (folder : Path) (name : Name) (place : Place) (node : Node) → followed tree true folder ≡ Ok place
    → place.node.content ≡ Dir → node_at tree (place.path ++ name ∷ []) ≡ Some node → looked tree (folder ++ name ∷ []) false ≡ Ok (meta_of node)
unfolding looked
node_is_looked_at tree folder name place node leads directory at =
    ap meta_of_place (name_leads tree name place directory most_links folder leads ∙ ap (stands tree name (place.path ++ name ∷ [])) at)

-- the entry of a node has the kind and the inode number of its stat
entry_of-content : (dev ino : ℕ) (name : Name) (content : Content)
    → record { name = name; kind = kind_of content; ino = ino } ≡ entry_from name (meta_with dev ino content)
entry_of-content dev ino name (File bytes time) = refl
entry_of-content dev ino name Dir = refl
entry_of-content dev ino name (Link target) = refl

pub entry_of-meta : (node : Node) (name : Name) (meta : Meta) → meta_of node ≡ meta → entry_of node name ≡ entry_from name meta
entry_of-meta node name meta is = entry_of-content node.dev node.ino name node.content ∙ ap (entry_from name) is
