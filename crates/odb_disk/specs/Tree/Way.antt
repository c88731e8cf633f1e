-- The way of a path: what is passed when it is followed.
use Rattle.std.specs.Prelude.{◌≡◌, ℕ, zero, suc, Bool, true, false, ◌&&◌, List, [], ◌∷◌, Option, Some, None}
use Rattle.std.specs.List.{list_any, starts_with}
use Rattle.odb_base.specs.Path.{Path, parent_of, same_name}
use Rattle.odb_disk.specs.Tree.{Tree, node_at}
use Rattle.odb_disk.specs.Tree.Follow.{Pass, Reached, Onward, Missing, Blocked, most_links, pass}
use Rattle.odb_disk.specs.declared.node.Node.{Node}
use Rattle.odb_disk.specs.declared.node.Content.{Content}
use Rattle.odb_disk.specs.declared.node.Content.TheVariants.{File, Dir, Link}

-- the ways after a link that a pass leads on from; else none
abbrev pub ways_onward : (Path → List Path) → Pass → List Path
ways_onward further (Reached path node) = []
ways_onward further (Onward path) = further path
ways_onward further Missing = []
ways_onward further Blocked = []

-- The paths along which a path is followed with this many links left: the path itself, and after each link the path that it
-- leads on to.
unfoldable pub ways_within : ℕ → Tree → Bool → Path → List Path
ways_within zero tree follow path = path ∷ []
ways_within (suc links) tree follow path = path ∷ ways_onward (ways_within links tree follow) (pass tree follow [] path)

-- whether a path is a prefix of one of these
abbrev pub is_front_of_one : List Path → Path → Bool
is_front_of_one ways q = list_any (λ way. starts_with same_name way q) ways

-- whether q is on the way of a path with this many links left
abbrev pub on_way_within : ℕ → Tree → Bool → Path → Path → Bool
on_way_within links tree follow path q = is_front_of_one (ways_within links tree follow path) q

-- Whether q is on the way of a path: what is put, removed or moved there can change where the path leads. `follow` says
-- whether a link in the last place is followed.
unfoldable pub on_way : Tree → Bool → Path → Path → Bool
on_way = on_way_within most_links

-- whether q is on the way of the directory that a path is in; the root is in none
abbrev pub on_way_to : Tree → Option Path → Path → Bool
on_way_to tree None q = false
on_way_to tree (Some directory) q = on_way tree true directory q

abbrev pub is_link_content : Content → Bool
is_link_content (File bytes time) = false
is_link_content Dir = false
is_link_content (Link target) = true

abbrev pub is_link : Option Node → Bool
is_link None = false
is_link (Some node) = is_link_content node.content

-- whether q is a link that is followed on the way of a path, before its last place is reached
unfoldable pub crosses : Tree → Path → Path → Bool
crosses tree path q = is_link (node_at tree q) && on_way_to tree (parent_of path) q

-- two trees have the same nodes on the way that a path has in the first
abbrev pub SameOnWay : Tree → Tree → Bool → Path → Type 0
SameOnWay tree other follow path = (q : Path) → on_way tree follow path q ≡ true → node_at other q ≡ node_at tree q
