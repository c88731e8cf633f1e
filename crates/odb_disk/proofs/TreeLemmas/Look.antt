-- Laws of stats and reads, for callers: what a stat of a path says of a read of it, and what a read gives after a change.
use Rattle.std.proofs.Common.{◌≡◌, ◌≢◌, ℕ, true, List, length, Option, Some, None, Result, Ok, Err, refl, sym, ap, ◌∙◌}
use Rattle.odb_base.specs.Path.{Path}
use Rattle.odb_disk.specs.Tree.{Tree, IsTree, node_at}
use Rattle.odb_disk.specs.Tree.Follow.{Place, Refusal, WrongKind, followed, meta_of, meta_with, meta_of_place, file_of, file_of_place, looked, read_of, most_links}
use Rattle.odb_disk.specs.Tree.Change.{is_possible_in, changed, put_node, put_over}
use Rattle.odb_disk.specs.declared.node.Node.{Node}
use Rattle.odb_disk.specs.declared.node.Content.{Content}
use Rattle.odb_disk.specs.declared.node.Content.TheVariants.{File, Dir, Link}
use Rattle.odb_disk.specs.declared.meta.Meta.{Meta}
use Rattle.odb_disk.specs.declared.meta.Kind.TheVariants as kinds
use Rattle.odb_disk.specs.declared.change.Change.TheVariants.{PutFile}
use Rattle.odb_disk.proofs.TreeLemmas.{node_at-put}
use Rattle.odb_disk.proofs.TreeLemmas.Follow.{pass_to_other, followed_reached}
use Rattle.odb_disk.proofs.TreeLemmas.Change.{made-put_file}
use Rattle.odb_disk.proofs.TreeLemmas.Changed.{IsTree-changed}

-- ---- a stat and a read of one path

-- a read gives a file of a length and a time
pub record ReadsAs (t : Tree) (path : Path) (len time : ℕ) : Type 0 where
  pub bytes : List ℕ
  pub is : read_of t path ≡ Ok (bytes, time)
  pub long : length bytes ≡ len

-- a stat finds a file of a length and a time
pub record LooksAs (t : Tree) (path : Path) (len time : ℕ) : Type 0 where
  pub meta : Meta
  pub is : looked t path true ≡ Ok meta
  pub kind : meta.kind ≡ kinds.File
  pub long : meta.len ≡ len
  pub timed : meta.time ≡ time

-- the file of a node
record FileAs (content : Content) (len time : ℕ) : Type 0 where
  bytes : List ℕ
  is : file_of content ≡ Ok (bytes, time)
  long : length bytes ≡ len

file_as : (dev ino : ℕ) (content : Content) (m : Meta) → meta_with dev ino content ≡ m → m.kind ≡ kinds.File → FileAs content m.len m.time
file_as dev ino (File bytes time) m is kind = record { bytes = bytes; is = ap (λ n. Ok (bytes, n.time)) is; long = ap (λ n. n.len) is }
file_as dev ino Dir m is kind = let both : kinds.Dir ≡ kinds.File = ap (λ n. n.kind) is ∙ kind in cc
file_as dev ino (Link target) m is kind = let both : kinds.Link ≡ kinds.File = ap (λ n. n.kind) is ∙ kind in cc

no_file : (dev ino : ℕ) (content : Content) (m : Meta) → meta_with dev ino content ≡ m → m.kind ≢ kinds.File → file_of content ≡ Err WrongKind
no_file dev ino (File bytes time) m is other = absurd (other (ap (λ n. n.kind) (sym is)))
no_file dev ino Dir m is other = refl
no_file dev ino (Link target) m is other = refl

found_file : (told : Result Place Refusal) (m : Meta) → meta_of_place told ≡ Ok m → m.kind ≡ kinds.File → (bytes : List ℕ) × (file_of_place told ≡ Ok (bytes, m.time)) × (length bytes ≡ m.len)
found_file (Ok place) m is kind =
    let same : meta_of place.node ≡ m = cc in
    let f = file_as place.node.dev place.node.ino place.node.content m same kind in (f.bytes, f.is, f.long)
found_file (Err refusal) m is kind = cc

found_other : (told : Result Place Refusal) (m : Meta) → meta_of_place told ≡ Ok m → m.kind ≢ kinds.File → file_of_place told ≡ Err WrongKind
found_other (Ok place) m is other = let same : meta_of place.node ≡ m = cc in no_file place.node.dev place.node.ino place.node.content m same other
found_other (Err refusal) m is other = cc

refused_alike : (told : Result Place Refusal) (e : Refusal) → meta_of_place told ≡ Err e → file_of_place told ≡ Err e
refused_alike (Ok place) e is = cc
refused_alike (Err refusal) e is = let same : refusal ≡ e = cc in ap Err same

file_found : (content : Content) (dev ino : ℕ) (bytes : List ℕ) (time : ℕ) → file_of content ≡ Ok (bytes, time)
    → meta_with dev ino content ≡ record { kind = kinds.File; dev = dev; ino = ino; len = length bytes; time = time }
file_found (File old at) dev ino bytes time is =
    let pair : ◌≡◌ {A = List ℕ × ℕ} (old, at) (bytes, time) = cc in ap (λ (p : List ℕ × ℕ). record { kind = kinds.File; dev = dev; ino = ino; len = length p.0; time = p.1 }) pair
file_found Dir dev ino bytes time is = cc
file_found (Link target) dev ino bytes time is = cc

place_found : (told : Result Place Refusal) (bytes : List ℕ) (time : ℕ) → file_of_place told ≡ Ok (bytes, time)
    → (m : Meta) × (meta_of_place told ≡ Ok m) × (m.kind ≡ kinds.File) × (m.len ≡ length bytes) × (m.time ≡ time)
place_found (Ok place) bytes time is =
    let m : Meta = record { kind = kinds.File; dev = place.node.dev; ino = place.node.ino; len = length bytes; time = time } in
    (m, ap Ok (file_found place.node.content place.node.dev place.node.ino bytes time is), refl, refl, refl)
place_found (Err refusal) bytes time is = cc

module _ (t : Tree) (path : Path) where
  -- if a stat finds a file, the read succeeds, with a file of that length and time
  pub read_of-file : (m : Meta) → looked t path true ≡ Ok m → m.kind ≡ kinds.File → ReadsAs t path m.len m.time
  unfolding looked read_of
  read_of-file m is kind = let f = found_file (followed t true path) m is kind in record { bytes = f.0; is = f.1; long = f.2 }

  -- if a stat finds another kind, the read finds the wrong kind
  pub read_of-other : (m : Meta) → looked t path true ≡ Ok m → m.kind ≢ kinds.File → read_of t path ≡ Err WrongKind
  unfolding looked read_of
  read_of-other m is other = found_other (followed t true path) m is other

  -- if a stat is refused, the read is refused alike
  pub read_of-refused : (e : Refusal) → looked t path true ≡ Err e → read_of t path ≡ Err e
  unfolding looked read_of
  read_of-refused e is = refused_alike (followed t true path) e is

  -- if a read succeeds, a stat finds such a file
  pub looked-read : (bytes : List ℕ) (time : ℕ) → read_of t path ≡ Ok (bytes, time) → LooksAs t path (length bytes) time
  unfolding looked read_of
  looked-read bytes time is = let p = place_found (followed t true path) bytes time is in record { meta = p.0; is = p.1; kind = p.2; long = p.3; timed = p.4 }

-- ---- a read after a change

put_over-content : (t : Tree) (p : Path) (content : Content) (node : Node) (old : Content) → (put_over t p content node old).content ≡ content
put_over-content t p content node (File bytes time) = refl
put_over-content t p content node Dir = refl
put_over-content t p content node (Link target) = refl

put_node-content : (t : Tree) (p : Path) (content : Content) (o : Option Node) → (put_node t p content o).content ≡ content
put_node-content t p content None = refl
put_node-content t p content (Some node) = put_over-content t p content node node.content

-- the bytes that were put are read
pub read_of-put_file : (t : Tree) → IsTree t → (p : Path) (time : ℕ) (bytes : List ℕ) → is_possible_in t (PutFile p time bytes) ≡ true → read_of (changed t (PutFile p time bytes)) p ≡ Ok (bytes, time)
unfolding read_of
read_of-put_file t is_tree p time bytes possible =
    let u = changed t (PutFile p time bytes) in
    let m = put_node t p (File bytes time) (node_at t p) in
    let content : m.content ≡ File bytes time = put_node-content t p (File bytes time) (node_at t p) in
    let at : node_at u p ≡ Some m = ap (λ v. node_at v p) (made-put_file t p time bytes) ∙ node_at-put t p m in
    let reached = pass_to_other u (IsTree-changed t (PutFile p time bytes) is_tree possible) p m at true (λ target e. let both : File bytes time ≡ Link target = sym content ∙ e in cc) in
    ap file_of_place (followed_reached u true p most_links p m reached) ∙ ap file_of content
