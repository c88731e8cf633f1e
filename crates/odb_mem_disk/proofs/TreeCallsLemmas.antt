-- From the steps of following a path to the answers of a stat and a read.
use Rattle.std.proofs.Common.{◌≡◌, ℕ, Bool, true, [], Result, Ok, Err, ap}
use Rattle.odb_base.specs.Path.{Path}
use Rattle.odb_disk.specs.Tree.{Tree}
use Rattle.odb_disk.specs.Tree.Follow.{Place, Refusal, pass, followed_within, meta_of, meta_of_place, file_of, file_of_place, looked, read_of, most_links}
use Rattle.odb_disk.specs.Answers.{Answers}
use Rattle.odb_disk.specs.TreeCalls.{Ends, Leads, node_of_place}
use Rattle.odb_disk.specs.declared.node.Node.{Node}
use Rattle.odb_disk.specs.declared.disk_error.DiskError.{DiskError}
use Rattle.odb_disk.specs.declared.disk_error.DiskError.TheVariants as errors
use Rattle.odb_disk.proofs.TreeLemmas.Follow.{followed_missing, followed_blocked}

-- an error of a pass is the answer
pub Leads-from_end : (links : ℕ) (t : Tree) (follow : Bool) (path : Path) (e : DiskError) → Ends e (pass t follow [] path) → Leads (Err e) (followed_within links t follow path)
Leads-from_end links t follow path errors.Absent is = followed_missing t follow path links is
Leads-from_end links t follow path errors.WrongKind is = followed_blocked t follow path links is
Leads-from_end links t follow path errors.LinkLoop is = absurd is
Leads-from_end links t follow path errors.Exists is = absurd is
Leads-from_end links t follow path errors.NotEmpty is = absurd is
Leads-from_end links t follow path errors.Failed is = absurd is
Leads-from_end links t follow path errors.NoMemory is = tt

meta_of_node : (told : Result Place Refusal) (n : Node) → node_of_place told ≡ Ok n → meta_of_place told ≡ Ok (meta_of n)
meta_of_node (Ok place) n is = let same : place.node ≡ n = cc in ap (λ m. Ok (meta_of m)) same
meta_of_node (Err refusal) n is = cc

file_of_node : (told : Result Place Refusal) (n : Node) → node_of_place told ≡ Ok n → file_of_place told ≡ file_of n.content
file_of_node (Ok place) n is = let same : place.node ≡ n = cc in ap (λ m. file_of m.content) same
file_of_node (Err refusal) n is = cc

module _ (t : Tree) (path : Path) where
  pub looked_node : (follow : Bool) (n : Node) → node_of_place (followed_within most_links t follow path) ≡ Ok n → looked t path follow ≡ Ok (meta_of n)
  unfolding looked
  looked_node follow n is = meta_of_node _ n is

  pub looked_refused : (follow : Bool) (e : DiskError) → Leads (Err e) (followed_within most_links t follow path) → Answers (Err e) (looked t path follow)
  unfolding looked
  looked_refused follow errors.Absent is = ap meta_of_place is
  looked_refused follow errors.WrongKind is = ap meta_of_place is
  looked_refused follow errors.LinkLoop is = ap meta_of_place is
  looked_refused follow errors.Exists is = is
  looked_refused follow errors.NotEmpty is = is
  looked_refused follow errors.Failed is = tt
  looked_refused follow errors.NoMemory is = tt

  pub read_node : (n : Node) → node_of_place (followed_within most_links t true path) ≡ Ok n → read_of t path ≡ file_of n.content
  unfolding read_of
  read_node n is = file_of_node _ n is

  pub read_refused : (e : DiskError) → Leads (Err e) (followed_within most_links t true path) → Answers (Err e) (read_of t path)
  unfolding read_of
  read_refused errors.Absent is = ap file_of_place is
  read_refused errors.WrongKind is = ap file_of_place is
  read_refused errors.LinkLoop is = ap file_of_place is
  read_refused errors.Exists is = is
  read_refused errors.NotEmpty is = is
  read_refused errors.Failed is = tt
  read_refused errors.NoMemory is = tt
