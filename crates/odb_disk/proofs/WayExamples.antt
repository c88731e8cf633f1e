-- Ways on small trees with links, shown by computation, and a rename onto a link.
use Rattle.std.proofs.Common.{◌≡◌, ℕ, zero, suc, ◌&&◌, Bool, true, false, List, [], ◌∷◌, ◌++◌, length, drop, Option, Ok, Err, codes, cond, refl, ap, ◌∙◌}
use Rattle.std.specs.FinMap.{find}
use Rattle.odb_base.specs.Path.{Name, Path, path_cmp}
use Rattle.odb_base.specs.PathLaws.{parent_of-push}
use Rattle.odb_disk.specs.Tree.{Tree, node_at, tree_of_entries, is_directory}
use Rattle.odb_disk.specs.Tree.Follow.{WrongKind, read_of, file_of_place, most_links}
use Rattle.odb_disk.specs.Tree.Change.{changed}
use Rattle.odb_disk.specs.Tree.Write as writing
use Rattle.odb_disk.specs.Tree.Write.{from_followed, and_then, in_directory, spot_below, spot, movable_spot, movable, replaceable, change_of_rename}
use Rattle.odb_disk.specs.Tree.Way.{ways_onward, ways_within, is_front_of_one, on_way, on_way_to, is_link, crosses}
use Rattle.odb_disk.specs.declared.node.Node.{Node}
use Rattle.odb_disk.specs.declared.node.Content.TheVariants.{File, Dir, Link}
use Rattle.odb_disk.specs.declared.change.Change.TheVariants.{Rename}
use Rattle.odb_disk.proofs.TreeLemmas.Changed.{made-rename}
use Rattle.odb_disk.proofs.TreeLemmas.Moved.{begins, moved_at, node_at-with_moved}
use Rattle.odb_disk.proofs.FollowExamples.{pass_over, followed_over, pass-over, followed-over, at_entries, entry, a, f, l, entries, tree}

-- ---- ways over a function from paths, which computes

abbrev ways_over : ℕ → (Path → Option Node) → Bool → Path → List Path
ways_over zero at follow path = path ∷ []
ways_over (suc links) at follow path = path ∷ ways_onward (ways_over links at follow) (pass_over at follow [] path)

ways-over : (links : ℕ) (t : Tree) (follow : Bool) (path : Path) → ways_within links t follow path ≡ ways_over links (node_at t) follow path
unfolding ways_within
ways-over zero t follow path = refl
ways-over (suc links) t follow path = λ i. path ∷ ways_onward (λ onward. ways-over links t follow onward i) (pass-over t follow [] path i)

module _ (es : List (Path × Node)) where
  abbrev seen : Path → Option Node
  seen q = find path_cmp q es

  ways_seen : (follow : Bool) (path : Path) → ways_within most_links (tree_of_entries es) follow path ≡ ways_over most_links seen follow path
  ways_seen follow path = ways-over most_links (tree_of_entries es) follow path ∙ ap (λ at. ways_over most_links at follow path) (at_entries es)

  on_way_seen : (follow : Bool) (path q : Path) → on_way (tree_of_entries es) follow path q ≡ is_front_of_one (ways_over most_links seen follow path) q
  unfolding on_way
  on_way_seen follow path q = ap (λ ways. is_front_of_one ways q) (ways_seen follow path)

  crosses_seen : (front : Path) (name : Name) (q : Path) → crosses (tree_of_entries es) (front ++ name ∷ []) q ≡ (is_link (seen q) && is_front_of_one (ways_over most_links seen true front) q)
  unfolding crosses
  crosses_seen front name q =
      ap (λ o. is_link (node_at (tree_of_entries es) q) && on_way_to (tree_of_entries es) o q) (parent_of-push front name)
      ∙ ap (λ at. is_link (at q) && on_way (tree_of_entries es) true front q) (at_entries es)
      ∙ ap (λ b. is_link (seen q) && b) (on_way_seen true front q)

  spot_seen : (front : Path) (name : Name)
      → spot (tree_of_entries es) (front ++ name ∷ []) ≡ and_then (in_directory (drop (length front) (front ++ name ∷ []))) (from_followed (followed_over most_links seen true front))
  unfolding spot
  spot_seen front name =
      ap (spot_below (tree_of_entries es) (front ++ name ∷ [])) (parent_of-push front name)
      ∙ ap (λ told. and_then (in_directory (drop (length front) (front ++ name ∷ []))) (from_followed told))
      (followed-over most_links (tree_of_entries es) true front ∙ ap (λ at. followed_over most_links at true front) (at_entries es))

  -- what is at each path after a rename
  abbrev moved : Path → Path → Path → Option Node
  moved from to q = moved_at (begins q to) (begins q from) (seen (from ++ drop (length to) q)) (seen q)

  at_moved : (from to : Path) → node_at (changed (tree_of_entries es) (Rename from to)) ≡ moved from to
  at_moved from to = λ i q.
      (ap (λ u. node_at u q) (made-rename (tree_of_entries es) from to) ∙ node_at-with_moved (tree_of_entries es) from to q
      ∙ ap (λ at. moved_at (begins q to) (begins q from) (at (from ++ drop (length to) q)) (at q)) (at_entries es)) i

  read_moved : (from to path : Path) → read_of (changed (tree_of_entries es) (Rename from to)) path ≡ file_of_place (followed_over most_links (moved from to) true path)
  unfolding read_of
  read_moved from to path =
      ap file_of_place (followed-over most_links (changed (tree_of_entries es) (Rename from to)) true path ∙ ap (λ at. followed_over most_links at true path) (at_moved from to))

-- ---- a folder, a file and links

-- a link in the middle: the way goes on where it leads
way_through_a_link : ways_within most_links tree true (codes "d" ∷ f ∷ []) ≡ (codes "d" ∷ f ∷ []) ∷ (a ∷ f ∷ []) ∷ []
way_through_a_link = ways_seen entries true (codes "d" ∷ f ∷ [])

link_in_the_middle_is_crossed : crosses tree (codes "d" ∷ f ∷ []) (codes "d" ∷ []) ≡ true
link_in_the_middle_is_crossed = crosses_seen entries (codes "d" ∷ []) f (codes "d" ∷ [])

linked_folder_is_on_the_way : on_way tree true (codes "d" ∷ f ∷ []) (a ∷ []) ≡ true
linked_folder_is_on_the_way = on_way_seen entries true (codes "d" ∷ f ∷ []) (a ∷ [])

other_link_is_off_the_way : on_way tree true (codes "d" ∷ f ∷ []) (codes "n" ∷ []) ≡ false
other_link_is_off_the_way = on_way_seen entries true (codes "d" ∷ f ∷ []) (codes "n" ∷ [])

-- a link in the last place
way_of_a_last_link : ways_within most_links tree true (l ∷ []) ≡ (l ∷ []) ∷ (a ∷ f ∷ []) ∷ []
way_of_a_last_link = ways_seen entries true (l ∷ [])

way_of_a_last_link_not_followed : ways_within most_links tree false (l ∷ []) ≡ (l ∷ []) ∷ []
way_of_a_last_link_not_followed = ways_seen entries false (l ∷ [])

last_link_is_not_crossed : crosses tree (l ∷ []) (l ∷ []) ≡ false
last_link_is_not_crossed = crosses_seen entries [] l (l ∷ [])

-- ---- a rename onto a link

-- a file, and a link that leads back to the root
abbrev knot : List (Path × Node)
knot = entry [] 1 Dir ∷ entry (f ∷ []) 2 (File (codes "hi") 7) ∷ entry (l ∷ []) 3 (Link []) ∷ []

abbrev knotted : Tree
knotted = tree_of_entries knot

spot_of_the_file : spot knotted (f ∷ []) ≡ Ok (f ∷ [])
spot_of_the_file = spot_seen knot [] f

spot_of_the_link : spot knotted (l ∷ []) ≡ Ok (l ∷ [])
spot_of_the_link = spot_seen knot [] l

-- the spot of this path is the link that it crosses
spot_behind_the_link : spot knotted (l ∷ l ∷ []) ≡ Ok (l ∷ [])
spot_behind_the_link = spot_seen knot (l ∷ []) l

renamed_onto : (path : Path) → spot knotted path ≡ Ok (l ∷ []) → change_of_rename knotted (f ∷ []) path ≡ Ok (Rename (f ∷ []) (l ∷ []))
unfolding change_of_rename movable replaceable
renamed_onto path is =
    let target = and_then (λ place. cond (is_directory (node_at knotted place)) (Err writing.WrongKind) (Ok place)) (spot knotted path) in
    ap (λ told. and_then (λ source. and_then (λ place. Ok (Rename source place)) target) (and_then (λ place. movable_spot place (node_at knotted place)) told)) spot_of_the_file
    ∙ ap (λ at. and_then (λ source. and_then (λ place. Ok (Rename source place)) target) (movable_spot (f ∷ []) (at (f ∷ [])))) (at_entries knot)
    ∙ ap (λ told. and_then (λ place. Ok (Rename (f ∷ []) place)) (and_then (λ place. cond (is_directory (node_at knotted place)) (Err writing.WrongKind) (Ok place)) told)) is
    ∙ ap (λ at. and_then (λ place. Ok (Rename (f ∷ []) place)) (cond (is_directory (at (l ∷ []))) (Err writing.WrongKind) (Ok (l ∷ [])))) (at_entries knot)

renamed_onto_the_link : change_of_rename knotted (f ∷ []) (l ∷ []) ≡ Ok (Rename (f ∷ []) (l ∷ []))
renamed_onto_the_link = renamed_onto (l ∷ []) spot_of_the_link

renamed_onto_a_link_on_its_way : change_of_rename knotted (f ∷ []) (l ∷ l ∷ []) ≡ Ok (Rename (f ∷ []) (l ∷ []))
renamed_onto_a_link_on_its_way = renamed_onto (l ∷ l ∷ []) spot_behind_the_link

-- the link isn't on the way of the first of these paths, which then reads as the file did
link_not_crossed : crosses knotted (l ∷ []) (l ∷ []) ≡ false
link_not_crossed = crosses_seen knot [] l (l ∷ [])

read_where_the_link_was : read_of (changed knotted (Rename (f ∷ []) (l ∷ []))) (l ∷ []) ≡ Ok (codes "hi", 7)
read_where_the_link_was = read_moved knot (f ∷ []) (l ∷ []) (l ∷ [])

-- the second crosses it, and then leads through the file
link_crossed : crosses knotted (l ∷ l ∷ []) (l ∷ []) ≡ true
link_crossed = crosses_seen knot (l ∷ []) l (l ∷ [])

read_through_where_the_link_was : read_of (changed knotted (Rename (f ∷ []) (l ∷ []))) (l ∷ l ∷ []) ≡ Err WrongKind
read_through_where_the_link_was = read_moved knot (f ∷ []) (l ∷ []) (l ∷ l ∷ [])
