-- The tree after a change is the one before with what the change lays over it.
use Rattle.std.proofs.Common.{◌≡◌, ◌≢◌, inl, inr, ℕ, Bool, true, false, List, Option, Some, None, Result, Ok, Err, if◌then◌else◌, refl, sym, ap, ◌∙◌, subst}
use lib.Pointwise.{pointwise, pointwise_decides}
use Rattle.std.specs.Option.{option_map}
use Rattle.std.specs.Cmp.Lexicographic.{bytes_decides}
use Rattle.std.specs.Result.{result_ok}
use Rattle.std.proofs.lemmas.Bool.{false≢true, false_from_ne_true}
use Rattle.odb_base.specs.Path.{Path, same_name}
use Rattle.odb_disk.specs.Tree.{IsTree, Tree, node_at, with_node}
use Rattle.odb_disk.specs.Tree.Change.{changed, is_file_place, is_possible_in, least_free, link_node, link_over, longer, put_node, put_over, timed, with_longer, with_time}
use Rattle.odb_disk.specs.Tree.Follow as following
use Rattle.odb_disk.specs.Tree.Follow.{Place, followed}
use Rattle.odb_disk.specs.Tree.Write as writing
use Rattle.odb_disk.specs.Tree.Write.{and_then, file_path, file_spot, from_followed}
use Rattle.odb_disk.specs.declared.change.Change.{Change}
use Rattle.odb_disk.specs.declared.change.Change.TheVariants.{PutFile, MakeDir, PutLink, Rename, Append, Remove, SetTime}
use Rattle.odb_disk.specs.declared.node.Content.{Content}
use Rattle.odb_disk.specs.declared.node.Content.TheVariants.{File, Dir, Link}
use Rattle.odb_disk.specs.declared.node.Node.{Node}
use Rattle.odb_disk.proofs.TreeLemmas.{cases_path, node_at-put, node_at-put_other, node_at-taken, node_at-taken_other}
use Rattle.odb_disk.proofs.TreeLemmas.Change.{made-make_dir, made-put_file, made-put_link, made-remove, made-set_time}
use Rattle.odb_disk.proofs.TreeLemmas.Changed.{IsTree-changed, made-append, made-rename}
use Rattle.odb_disk.proofs.TreeLemmas.Moved.{begins, moved_at, node_at-with_moved}
use Rattle.odb_disk.proofs.TreeLemmas.Possible.{possible-append}
use Rattle.odb_disk.proofs.TreeLemmas.Write.{file_at}
use Rattle.gix_odb_watch.specs.Over.{IsLaid, content_at, laid_over, longer_over, moved, over_of}
use Rattle.gix_odb_watch.specs.declared.over.Over.{Over}
use Rattle.gix_odb_watch.specs.declared.over.Over.TheVariants.{At, Moved}

abbrev content_of : Option Node → Option Content
content_of node = option_map (λ (n : Node). n.content) node

-- ---- what differs at one place

module _ (t u : Tree) (place : Path) (o : Option Node) (at : node_at u place ≡ o) (others : (q : Path) → q ≢ place → node_at u q ≡ node_at t q) where
  abbrev if_there : Path → Bool → Option Content
  if_there path b = if b then content_of o else content_at t path

  laid_at : (path : Path) → content_at u path ≡ laid_over (content_at t) (At place (content_of o)) path
  laid_at path = elim (cases_path path place) [
    | inl same ↦ ap (content_at u) same ∙ ap content_of at ∙ sym (ap (if_there path) ((pointwise_decides bytes_decides path place).1 same))
    | inr apart ↦
        ap content_of (others path apart)
        ∙ sym (ap (if_there path) (false_from_ne_true (pointwise same_name path place) (λ is. apart ((pointwise_decides bytes_decides path place).0 is))))
  ]

-- ---- each change

-- a file or a link that is put has the new contents, whether the node is a new one or not
file_content : (t : Tree) (place : Path) (content : Content) (o : Option Node) → (put_node t place content o).content ≡ content
file_content t place content None = refl
file_content t place content (Some node) = over node.content
  where
    over : (old : Content) → (put_over t place content node old).content ≡ content
    over (File bytes time) = refl
    over Dir = refl
    over (Link target) = refl

link_content : (t : Tree) (place target : Path) (o : Option Node) → (link_node t place target o).content ≡ Link target
link_content t place target None = refl
link_content t place target (Some node) = over node.content
  where
    over : (old : Content) → (link_over t place target node old).content ≡ Link target
    over (File bytes time) = refl
    over Dir = refl
    over (Link old) = refl

-- where an append is made
spot_by : (told : Result Place following.Refusal) → is_file_place told ≡ true → (place : Path) × (and_then file_path (from_followed told) ≡ Ok place)
spot_by (Ok found) file = (found.path, ap (λ (b : Bool). path_if b) file)
  where
    path_if : Bool → Result Path writing.Refusal
    path_if b = if b then Ok found.path else Err writing.WrongKind
spot_by (Err refusal) file = absurd (false≢true file)

pub some_spot : (t : Tree) (path : Path) (more : List ℕ) → is_possible_in t (Append path more) ≡ true → (place : Path) × (file_spot t path ≡ Ok place)
unfolding file_spot
some_spot t path more possible = spot_by (followed t true path) (sym (possible-append t path more) ∙ possible)

module _ (t : Tree) (is_tree : IsTree t) (change : Change) (possible : is_possible_in t change ≡ true) where
  abbrev u : Tree
  u = changed t change

  laid : (over : Over) → ((path : Path) → content_at u path ≡ laid_over (content_at t) over path) → IsLaid t over u
  laid over content = record { was_tree = is_tree; is_tree = IsTree-changed t change is_tree possible; content = content }

  -- a node is put
  put_laid : (place : Path) (node : Node) → u ≡ with_node t place node → (content : Content) → node.content ≡ content → IsLaid t (At place (Some content)) u
  put_laid place node is content has =
      subst (λ (c : Content). IsLaid t (At place (Some c)) u) has
      (laid (At place (Some node.content))
      (laid_at t u place (Some node) (ap (λ (v : Tree). node_at v place) is ∙ node_at-put t place node) (λ q apart. ap (λ (v : Tree). node_at v q) is ∙ node_at-put_other t place node q apart)))

  -- nothing is there any more
  none_laid : (place : Path) → node_at u place ≡ None → ((q : Path) → q ≢ place → node_at u q ≡ node_at t q) → IsLaid t (At place None) u
  none_laid place none others = laid (At place None) (laid_at t u place None none others)

module _ (t : Tree) (is_tree : IsTree t) where
  time_laid : (place : Path) (time : ℕ) → is_possible_in t (SetTime place time) ≡ true → IsLaid t (over_of t (SetTime place time)) (changed t (SetTime place time))
  time_laid place time possible = by (node_at t place) refl
    where
      made : (o : Option Node) → node_at t place ≡ o → changed t (SetTime place time) ≡ with_time t place time o
      made o at = made-set_time t place time ∙ ap (with_time t place time) at

      by : (o : Option Node) → node_at t place ≡ o → IsLaid t (At place (option_map (timed time) (content_of (node_at t place)))) (changed t (SetTime place time))
      by None none =
          subst (λ (o : Option Node). IsLaid t (At place (option_map (timed time) (content_of o))) (changed t (SetTime place time))) (sym none)
          (none_laid t is_tree (SetTime place time) possible place (ap (λ (v : Tree). node_at v place) (made None none) ∙ none) (λ q apart. ap (λ (v : Tree). node_at v q) (made None none)))
      by (Some node) at =
          subst (λ (o : Option Node). IsLaid t (At place (option_map (timed time) (content_of o))) (changed t (SetTime place time))) (sym at)
          (put_laid t is_tree (SetTime place time) possible place (record node { content = timed time node.content }) (made (Some node) at) (timed time node.content) refl)

  longer_laid : (path : Path) (more : List ℕ) → is_possible_in t (Append path more) ≡ true → IsLaid t (over_of t (Append path more)) (changed t (Append path more))
  longer_laid path more possible =
      let s = some_spot t path more possible in
      let f = file_at t path s.0 s.1 in
      subst (λ (v : Over). IsLaid t v (changed t (Append path more)))
      (ap (λ (o : Option Node). At s.0 (option_map (λ content. longer content more) (content_of o))) (sym f.at) ∙ ap (λ (r : Result Path writing.Refusal). longer_over t more (result_ok r)) (sym s.1))
      (put_laid t is_tree (Append path more) possible s.0 (record f.node { content = longer f.node.content more }) (made-append t path more ∙ ap (with_longer t more) f.leads)
      (longer f.node.content more) refl)

  move_laid : (from to : Path) → is_possible_in t (Rename from to) ≡ true → IsLaid t (Moved from to) (changed t (Rename from to))
  move_laid from to possible = laid t is_tree (Rename from to) possible (Moved from to) (λ path.
      ap (λ (v : Tree). content_at v path) (made-rename t from to) ∙ ap content_of (node_at-with_moved t from to path) ∙ by path (begins path to) (begins path from))
    where
      by : (path : Path) (b c : Bool) → content_of (moved_at b c (node_at t (moved to from path)) (node_at t path))
          ≡ (if b then content_at t (moved to from path) else (if c then None else content_at t path))
      by path true c = refl
      by path false true = refl
      by path false false = refl

  pub over_laid : (change : Change) → is_possible_in t change ≡ true → IsLaid t (over_of t change) (changed t change)
  over_laid (PutFile place time bytes) possible =
      put_laid t is_tree (PutFile place time bytes) possible place (put_node t place (File bytes time) (node_at t place)) (made-put_file t place time bytes) (File bytes time)
      (file_content t place (File bytes time) (node_at t place))
  over_laid (MakeDir place dev) possible =
      put_laid t is_tree (MakeDir place dev) possible place (record { dev = dev; ino = least_free t; content = Dir }) (made-make_dir t place dev) Dir refl
  over_laid (PutLink place target) possible =
      put_laid t is_tree (PutLink place target) possible place (link_node t place target (node_at t place)) (made-put_link t place target) (Link target)
      (link_content t place target (node_at t place))
  over_laid (Rename from to) possible = move_laid from to possible
  over_laid (Append path more) possible = longer_laid path more possible
  over_laid (Remove place) possible =
      none_laid t is_tree (Remove place) possible place (ap (λ (v : Tree). node_at v place) (made-remove t place) ∙ node_at-taken t place)
      (λ q apart. ap (λ (v : Tree). node_at v q) (made-remove t place) ∙ node_at-taken_other t place q apart)
  over_laid (SetTime place time) possible = time_laid place time possible
