-- Small trees with links, shown by computation.
use Rattle.std.proofs.Common.{◌≡◌, ℕ, zero, suc, ◌+◌, Bool, true, false, List, [], ◌∷◌, ◌++◌, Option, Result, Ok, Err, codes, refl, ap, ◌∙◌}
use Rattle.std.specs.FinMap.{find}
use Rattle.odb_base.specs.Path.{Name, Path, path_cmp}
use Rattle.odb_disk.specs.Tree.{Tree, node_at, tree_of_entries}
use Rattle.odb_disk.specs.Tree.Nodes.{node_at-tree_of_entries}
use Rattle.odb_disk.specs.Tree.Follow.{Pass, Place, Refusal, Absent, WrongKind, LinkLoop, pass, beyond, ending, arrives, followed_within, looked, read_of, meta_of_place, file_of_place, most_links}
use Rattle.odb_disk.specs.declared.node.Node.{Node}
use Rattle.odb_disk.specs.declared.node.Content.{Content}
use Rattle.odb_disk.specs.declared.node.Content.TheVariants.{File, Dir, Link}
use Rattle.odb_disk.specs.declared.meta.Kind.TheVariants as kinds

-- ---- following over a function from paths, which computes

abbrev pub pass_over : (Path → Option Node) → Bool → Path → Path → Pass
pass_over at follow way [] = ending follow way (at way)
pass_over at follow way (name ∷ names) = beyond (at way) (name ∷ names) (pass_over at follow (way ++ name ∷ []) names)

abbrev pub followed_over : ℕ → (Path → Option Node) → Bool → Path → Result Place Refusal
followed_over zero at follow path = arrives (λ _. Err LinkLoop) (pass_over at follow [] path)
followed_over (suc links) at follow path = arrives (followed_over links at follow) (pass_over at follow [] path)

pub pass-over : (t : Tree) (follow : Bool) (way names : Path) → pass t follow way names ≡ pass_over (node_at t) follow way names
unfolding pass
pass-over t follow way [] = refl
pass-over t follow way (name ∷ names) = ap (beyond (node_at t way) (name ∷ names)) (pass-over t follow (way ++ name ∷ []) names)

pub followed-over : (links : ℕ) (t : Tree) (follow : Bool) (path : Path) → followed_within links t follow path ≡ followed_over links (node_at t) follow path
unfolding followed_within
followed-over zero t follow path = ap (arrives (λ _. Err LinkLoop)) (pass-over t follow [] path)
followed-over (suc links) t follow path = λ i. arrives (λ onward. followed-over links t follow onward i) (pass-over t follow [] path i)

module _ (es : List (Path × Node)) where
  pub at_entries : node_at (tree_of_entries es) ≡ (λ q. find path_cmp q es)
  at_entries = λ i q. node_at-tree_of_entries es q i

  looked_over : (path : Path) (follow : Bool) → looked (tree_of_entries es) path follow ≡ meta_of_place (followed_over most_links (λ q. find path_cmp q es) follow path)
  unfolding looked
  looked_over path follow = ap meta_of_place (followed-over most_links (tree_of_entries es) follow path ∙ ap (λ at. followed_over most_links at follow path) at_entries)

  read_over : (path : Path) → read_of (tree_of_entries es) path ≡ file_of_place (followed_over most_links (λ q. find path_cmp q es) true path)
  unfolding read_of
  read_over path = ap file_of_place (followed-over most_links (tree_of_entries es) true path ∙ ap (λ at. followed_over most_links at true path) at_entries)

-- ---- a tree with a folder, a file and links

abbrev pub entry : Path → ℕ → Content → Path × Node
entry path ino content = (path, record { dev = 0; ino = ino; content = content })

abbrev pub a : Name
a = codes "a"

abbrev pub f : Name
f = codes "f"

abbrev pub l : Name
l = codes "l"

abbrev pub entries : List (Path × Node)
entries =
    entry [] 1 Dir
    ∷ entry (a ∷ []) 2 Dir
    ∷ entry (a ∷ f ∷ []) 3 (File (codes "hi") 7)
    ∷ entry (a ∷ codes "m" ∷ []) 4 (Link (codes "d" ∷ []))
    ∷ entry (codes "d" ∷ []) 5 (Link (a ∷ []))
    ∷ entry (l ∷ []) 6 (Link (a ∷ f ∷ []))
    ∷ entry (codes "n" ∷ []) 7 (Link (codes "x" ∷ []))
    ∷ entry (codes "s" ∷ []) 8 (Link (codes "s" ∷ []))
    ∷ entry (codes "t" ∷ []) 9 (Link (l ∷ []))
    ∷ []

abbrev pub tree : Tree
tree = tree_of_entries entries

link_to_a_file : looked tree (l ∷ []) true ≡ Ok (record { kind = kinds.File; dev = 0; ino = 3; len = 2; time = 7 })
link_to_a_file = looked_over entries (l ∷ []) true

link_to_a_folder : read_of tree (codes "d" ∷ f ∷ []) ≡ Ok (codes "hi", 7)
link_to_a_folder = read_over entries (codes "d" ∷ f ∷ [])

link_to_nowhere : looked tree (codes "n" ∷ []) true ≡ Err Absent
link_to_nowhere = looked_over entries (codes "n" ∷ []) true

link_to_itself : looked tree (codes "s" ∷ []) true ≡ Err LinkLoop
link_to_itself = looked_over entries (codes "s" ∷ []) true

through_another_link : read_of tree (codes "t" ∷ []) ≡ Ok (codes "hi", 7)
through_another_link = read_over entries (codes "t" ∷ [])

-- a stat that doesn't follow sees the link itself
link_not_followed : looked tree (l ∷ []) false ≡ Ok (record { kind = kinds.Link; dev = 0; ino = 6; len = 0; time = 0 })
link_not_followed = looked_over entries (l ∷ []) false

-- even if it leads nowhere, or to itself
loop_not_followed : looked tree (codes "s" ∷ []) false ≡ Ok (record { kind = kinds.Link; dev = 0; ino = 8; len = 0; time = 0 })
loop_not_followed = looked_over entries (codes "s" ∷ []) false

way_through_a_file : looked tree (a ∷ f ∷ codes "x" ∷ []) true ≡ Err WrongKind
way_through_a_file = looked_over entries (a ∷ f ∷ codes "x" ∷ []) true

-- a link to a file is no directory either
way_through_a_link_to_a_file : read_of tree (l ∷ codes "x" ∷ []) ≡ Err WrongKind
way_through_a_link_to_a_file = read_over entries (l ∷ codes "x" ∷ [])

absent_on_the_way : looked tree (codes "x" ∷ codes "y" ∷ []) true ≡ Err Absent
absent_on_the_way = looked_over entries (codes "x" ∷ codes "y" ∷ []) true

-- a link inside a folder that a link leads to
link_inside_a_followed_folder : read_of tree (codes "d" ∷ codes "m" ∷ f ∷ []) ≡ Ok (codes "hi", 7)
link_inside_a_followed_folder = read_over entries (codes "d" ∷ codes "m" ∷ f ∷ [])

-- the last link isn't followed, the one on the way is
last_link_not_followed : looked tree (codes "d" ∷ codes "m" ∷ []) false ≡ Ok (record { kind = kinds.Link; dev = 0; ino = 4; len = 0; time = 0 })
last_link_not_followed = looked_over entries (codes "d" ∷ codes "m" ∷ []) false

read_of_a_folder : read_of tree (codes "d" ∷ []) ≡ Err WrongKind
read_of_a_folder = read_over entries (codes "d" ∷ [])

-- ---- rows of links

-- so many links, each to the next, and a file after the last
abbrev row : ℕ → List (Path × Node)
row zero = entry ((zero ∷ []) ∷ []) 1 (File [] 7) ∷ entry [] 2 Dir ∷ []
row (suc n) = entry ((suc n ∷ []) ∷ []) (n + 3) (Link ((n ∷ []) ∷ [])) ∷ row n

links_40 : looked (tree_of_entries (row 40)) ((40 ∷ []) ∷ []) true ≡ Ok (record { kind = kinds.File; dev = 0; ino = 1; len = 0; time = 7 })
links_40 = looked_over (row 40) ((40 ∷ []) ∷ []) true

links_41 : looked (tree_of_entries (row 41)) ((41 ∷ []) ∷ []) true ≡ Err LinkLoop
links_41 = looked_over (row 41) ((41 ∷ []) ∷ []) true
