-- Laws of the calls that write, for callers: what is read back, what is left alone, and where a plain path's spot is.
use Rattle.std.proofs.Common.{◌≡◌, ◌≢◌, ℕ, Bool, true, false, ◌||◌, List, ◌++◌, Option, Some, None, Result, Ok, Err, refl, sym, ap, ◌∙◌}
use Rattle.std.specs.Ordering.{eq_by_cmp}
use Rattle.std.specs.List.{starts_with}
use Rattle.std.proofs.lemmas.Bool.{false≢true, or_parts, false_from_ne_true}
use Rattle.odb_base.specs.Path.{Path, path_cmp, same_name}
use Rattle.odb_disk.specs.Tree.{Tree, State, IsTree, tree_of, node_at}
use Rattle.odb_disk.specs.Tree.Follow.{Place, Refusal, followed, file_of, file_of_place, read_of, most_links}
use Rattle.odb_disk.specs.Tree.Change.{changed, is_possible_in, is_file_content, with_longer, longer, with_time}
use Rattle.odb_disk.specs.Tree.Write.{file_spot, written}
use Rattle.odb_disk.specs.declared.node.Node.{Node}
use Rattle.odb_disk.specs.declared.node.Content.{Content}
use Rattle.odb_disk.specs.declared.node.Content.TheVariants.{File, Dir, Link}
use Rattle.odb_disk.specs.declared.change.Change.{Change}
use Rattle.odb_disk.specs.declared.change.Change.TheVariants.{PutFile, MakeDir, PutLink, Rename, Append, Remove, SetTime}
use Rattle.odb_disk.proofs.TreeLemmas.{own_path, node_at-put, node_at-put_other, node_at-taken, node_at-taken_other}
use Rattle.odb_disk.proofs.TreeLemmas.Follow.{pass_to_other, followed_reached}
use Rattle.odb_disk.proofs.TreeLemmas.Change.{made-put_file, made-make_dir, made-put_link, made-set_time, made-remove}
use Rattle.odb_disk.proofs.TreeLemmas.Changed.{IsTree-changed, made-rename, made-append, after_write-tree}
use Rattle.odb_disk.proofs.TreeLemmas.Moved.{begins-own, moved_away, moved_other}
use Rattle.odb_disk.proofs.TreeLemmas.MovedTree.{goes_on, none_below}
use Rattle.odb_disk.proofs.TreeLemmas.Write.{append_possible, file_at, leads_to_itself}
use Rattle.odb_disk.proofs.MovedNumbersLemmas.{can_rename}
use Rattle.odb_disk.proofs.WriteCallsLemmas.Changes.{change_of_append-is}

-- ---- a change of a state, as one of its tree

pub tree_of-written : (s : State) (change : Change) → tree_of (written s (Some change)) ≡ changed (tree_of s) change
tree_of-written s change = after_write-tree s change

-- ---- nodes that are alike are seen alike

-- what is at a path, and is no link, is what a read finds
module _ (t : Tree) (is_tree : IsTree t) (path : Path) (n : Node) (at : node_at t path ≡ Some n) (plain : (target : Path) → n.content ≢ Link target) where
  pub read_at : read_of t path ≡ file_of n.content
  unfolding read_of
  read_at = ap file_of_place (followed_reached t true path most_links path n (pass_to_other t is_tree path n at true plain))

-- ---- the frame: a change leaves what it doesn't touch

-- whether a change may put, remove or write what is at a path
abbrev pub at_place : Result Place Refusal → Path → Bool
at_place (Ok place) q = eq_by_cmp path_cmp q place.path
at_place (Err refusal) q = false

abbrev pub touches : Tree → Change → Path → Bool
touches t (PutFile path time bytes) q = eq_by_cmp path_cmp q path
touches t (MakeDir path dev) q = eq_by_cmp path_cmp q path
touches t (PutLink path target) q = eq_by_cmp path_cmp q path
touches t (Rename from to) q = starts_with same_name q from || starts_with same_name q to
touches t (Append path bytes) q = at_place (followed t true path) q
touches t (Remove path) q = eq_by_cmp path_cmp q path
touches t (SetTime path time) q = eq_by_cmp path_cmp q path

apart_from : (q p : Path) → eq_by_cmp path_cmp q p ≡ false → q ≢ p
apart_from q p other same = false≢true (sym other ∙ ap (eq_by_cmp path_cmp q) (sym same) ∙ own_path q)

longer_other : (t : Tree) (more : List ℕ) (told : Result Place Refusal) (q : Path) → at_place told q ≡ false → node_at (with_longer t more told) q ≡ node_at t q
longer_other t more (Ok place) q other = node_at-put_other t place.path _ q (apart_from q place.path other)
longer_other t more (Err refusal) q other = refl

timed_other : (t : Tree) (path : Path) (time : ℕ) (o : Option Node) (q : Path) → eq_by_cmp path_cmp q path ≡ false → node_at (with_time t path time o) q ≡ node_at t q
timed_other t path time None q other = refl
timed_other t path time (Some node) q other = node_at-put_other t path _ q (apart_from q path other)

pub untouched : (t : Tree) (change : Change) (q : Path) → touches t change q ≡ false → node_at (changed t change) q ≡ node_at t q
untouched t (PutFile path time bytes) q other = ap (λ u. node_at u q) (made-put_file t path time bytes) ∙ node_at-put_other t path _ q (apart_from q path other)
untouched t (MakeDir path dev) q other = ap (λ u. node_at u q) (made-make_dir t path dev) ∙ node_at-put_other t path _ q (apart_from q path other)
untouched t (PutLink path target) q other = ap (λ u. node_at u q) (made-put_link t path target) ∙ node_at-put_other t path _ q (apart_from q path other)
untouched t (Rename from to) q other = let parts = or_parts _ _ other in ap (λ u. node_at u q) (made-rename t from to) ∙ moved_other t from to q parts.1 parts.0
untouched t (Append path bytes) q other = ap (λ u. node_at u q) (made-append t path bytes) ∙ longer_other t bytes (followed t true path) q other
untouched t (Remove path) q other = ap (λ u. node_at u q) (made-remove t path) ∙ node_at-taken_other t path q (apart_from q path other)
untouched t (SetTime path time) q other = ap (λ u. node_at u q) (made-set_time t path time) ∙ timed_other t path time (node_at t path) q other

-- ---- read back

longer_file : (content : Content) (more : List ℕ) → is_file_content content ≡ true → is_file_content (longer content more) ≡ true
longer_file (File bytes time) more file = refl
longer_file Dir more file = absurd (false≢true file)
longer_file (Link target) more file = absurd (false≢true file)

longer_read : (content : Content) (bytes more : List ℕ) (time : ℕ) → file_of content ≡ Ok (bytes, time) → file_of (longer content more) ≡ Ok (bytes ++ more, time)
longer_read (File old at) bytes more time is = let pair : ◌≡◌ {A = List ℕ × ℕ} (old, at) (bytes, time) = cc in ap (λ (p : List ℕ × ℕ). Ok (p.0 ++ more, p.1)) pair
longer_read Dir bytes more time is = absurd (cc)
longer_read (Link target) bytes more time is = absurd (cc)

module _ (t : Tree) (is_tree : IsTree t) where
  module _ (path s : Path) (is : file_spot t path ≡ Ok s) where
    plain_file : (n : Node) → is_file_content n.content ≡ true → (target : Path) → n.content ≢ Link target
    plain_file n file target link = false≢true (sym (ap is_file_content link) ∙ file)

    -- a path reads as the file that it leads to
    pub read_at_spot : read_of t path ≡ read_of t s
    unfolding read_of
    read_at_spot = let f = file_at t path s is in ap file_of_place f.leads ∙ sym (ap file_of_place (leads_to_itself t is_tree s f.node f.at f.file))

    -- an append leaves the bytes, adds its own after them, and keeps the time
    pub append_read : (bytes more : List ℕ) (time : ℕ) → read_of t s ≡ Ok (bytes, time) → read_of (changed t (Append s more)) s ≡ Ok (bytes ++ more, time)
    append_read bytes more time old =
        let f = file_at t path s is in
        let n : Node = record f.node { content = longer f.node.content more } in
        let put = made-append t s more ∙ ap (with_longer t more) (leads_to_itself t is_tree s f.node f.at f.file) in
        let possible = append_possible t is_tree path (Append s more) more (change_of_append-is t path s more is) in
        read_at (changed t (Append s more)) (IsTree-changed t (Append s more) is_tree possible) s n (ap (λ u. node_at u s) put ∙ node_at-put t s n)
        (plain_file n (longer_file f.node.content more f.file))
        ∙ longer_read f.node.content bytes more time (sym (read_at t is_tree s f.node f.at (plain_file f.node f.file)) ∙ old)

  -- nothing is at the source afterwards, unless it is the target
  pub rename_source : (from to : Path) → is_possible_in t (Rename from to) ≡ true → from ≢ to → node_at (changed t (Rename from to)) from ≡ None
  rename_source from to possible apart =
      let m = can_rename t is_tree from to possible in
      ap (λ u. node_at u from) (made-rename t from to)
      ∙ moved_away t from to from (false_from_ne_true _ (λ below. let g = goes_on from to below apart in
      let gone = ap (node_at t) g.2 ∙ none_below t is_tree to m.free g.0 g.1 in let both : None ≡ Some m.node = sym gone ∙ m.at in cc)) (begins-own from)

  -- nothing is where a node was removed
  pub removed_away : (s : Path) → node_at (changed t (Remove s)) s ≡ None
  removed_away s = ap (λ u. node_at u s) (made-remove t s) ∙ node_at-taken t s
