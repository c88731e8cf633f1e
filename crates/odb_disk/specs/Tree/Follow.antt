-- Where a path leads, following the links on its way.
use Rattle.std.specs.Prelude.{ℕ, zero, suc, Bool, true, List, [], ◌∷◌, ◌++◌, length, Option, Some, None, Result, Ok, Err}
use Rattle.odb_base.specs.Path.{Path, Name}
use Rattle.odb_disk.specs.Tree.{Tree, node_at, names_in}
use Rattle.odb_disk.specs.declared.node.Node.{Node}
use Rattle.odb_disk.specs.declared.node.Content.{Content}
use Rattle.odb_disk.specs.declared.node.Content.TheVariants.{File, Dir, Link}
use Rattle.odb_disk.specs.declared.meta.Meta.{Meta}
use Rattle.odb_disk.specs.declared.meta.Kind.TheVariants as kinds

-- Why a path is refused: nothing is there; a part of the way is no directory, or what is there is of another kind; more links
-- than are followed. A tree says nothing else, so never that a call failed.
pub data Refusal : Type 0 where
  Absent : Refusal
  WrongKind : Refusal
  LinkLoop : Refusal

-- where one pass along the names ends: at the latest at the first link that has to be followed
pub data Pass : Type 0 where
  Reached : (path : Path) (node : Node) → Pass
  Onward : (path : Path) → Pass
  Missing : Pass
  Blocked : Pass

-- what a node does to a pass that has names left: a directory passes it on to `further`
abbrev pub past : Content → Path → Pass → Pass
past (File bytes time) names further = Blocked
past Dir names further = further
past (Link target) names further = Onward (target ++ names)

abbrev pub beyond : Option Node → Path → Pass → Pass
beyond None names further = Missing
beyond (Some node) names further = past node.content names further

-- what a node does to a pass that ends there: a link is followed where `follow` says so
abbrev pub at_last : Bool → Path → Node → Content → Pass
at_last true path node (Link target) = Onward target
at_last follow path node content = Reached path node

abbrev pub ending : Bool → Path → Option Node → Pass
ending follow path None = Missing
ending follow path (Some node) = at_last follow path node node.content

-- one pass: the names of `way` are done, and `names` are still to come
unfoldable pub pass : Tree → Bool → Path → Path → Pass
pass tree follow way [] = ending follow way (node_at tree way)
pass tree follow way (name ∷ names) = beyond (node_at tree way) (name ∷ names) (pass tree follow (way ++ name ∷ []) names)

-- a place: a path with no link on its way, and the node there
pub record Place : Type 0 where
  pub path : Path
  pub node : Node

-- where a pass leads: from a link, to where `further` says
abbrev pub arrives : (Path → Result Place Refusal) → Pass → Result Place Refusal
arrives further (Reached path node) = Ok (record { path = path; node = node })
arrives further (Onward path) = further path
arrives further Missing = Err Absent
arrives further Blocked = Err WrongKind

-- where a path leads with this many links left to follow
unfoldable pub followed_within : ℕ → Tree → Bool → Path → Result Place Refusal
followed_within zero tree follow path = arrives (λ _. Err LinkLoop) (pass tree follow [] path)
followed_within (suc links) tree follow path = arrives (followed_within links tree follow) (pass tree follow [] path)

-- the most links that are followed on the way of a path: as many as in Linux (`MAXSYMLINKS`)
abbrev pub most_links : ℕ
most_links = 40

-- where a path leads. `follow` says whether a link in the last place is followed
abbrev pub followed : Tree → Bool → Path → Result Place Refusal
followed = followed_within most_links

-- the result of a stat of a node: a directory and a link have length 0 and time 0
abbrev pub meta_with : ℕ → ℕ → Content → Meta
meta_with dev ino (File bytes time) = record { kind = kinds.File; dev = dev; ino = ino; len = length bytes; time = time }
meta_with dev ino Dir = record { kind = kinds.Dir; dev = dev; ino = ino; len = 0; time = 0 }
meta_with dev ino (Link target) = record { kind = kinds.Link; dev = dev; ino = ino; len = 0; time = 0 }

abbrev pub meta_of : Node → Meta
meta_of node = meta_with node.dev node.ino node.content

abbrev pub meta_of_place : Result Place Refusal → Result Meta Refusal
meta_of_place (Ok place) = Ok (meta_of place.node)
meta_of_place (Err refusal) = Err refusal

-- the bytes and the time of a file; anything else is of the wrong kind
abbrev pub file_of : Content → Result (List ℕ × ℕ) Refusal
file_of (File bytes time) = Ok (bytes, time)
file_of Dir = Err WrongKind
file_of (Link target) = Err WrongKind

abbrev pub file_of_place : Result Place Refusal → Result (List ℕ × ℕ) Refusal
file_of_place (Ok place) = file_of place.node.content
file_of_place (Err refusal) = Err refusal

-- the result of a stat of a path
unfoldable pub looked : Tree → Path → Bool → Result Meta Refusal
looked tree path follow = meta_of_place (followed tree follow path)

-- the result of a read of a path
unfoldable pub read_of : Tree → Path → Result (List ℕ × ℕ) Refusal
read_of tree path = file_of_place (followed tree true path)

abbrev pub names_of : Tree → Path → Content → Result (List Name) Refusal
names_of tree path Dir = Ok (names_in tree path)
names_of tree path (File bytes time) = Err WrongKind
names_of tree path (Link target) = Err WrongKind

-- the names in a directory; anything else is of the wrong kind
abbrev pub names_of_place : Tree → Result Place Refusal → Result (List Name) Refusal
names_of_place tree (Ok place) = names_of tree place.path place.node.content
names_of_place tree (Err refusal) = Err refusal

-- the names in the directory that a path leads to, following links
unfoldable pub listed : Tree → Path → Result (List Name) Refusal
listed tree path = names_of_place tree (followed tree true path)
