-- Where spots are: in trees that are alike on the way to them, and where something is there.
use Rattle.std.proofs.Common.{◌≡◌, ◌≢◌, ℕ, zero, suc, Bool, true, false, [], ◌∷◌, ◌++◌, length, drop, Some, None, Result, Ok, Err, refl, sym, ap, ◌∙◌, cond}
use Rattle.std.proofs.lemmas.Bool.{false≢true, or_left}
use Rattle.odb_base.specs.Path.{Name, Path, parent_of}
use Rattle.odb_base.specs.PathLaws.{parent_of-some}
use Rattle.odb_disk.specs.Tree.{Tree, node_at, is_directory_content}
use Rattle.odb_disk.specs.Tree.Follow as following
use Rattle.odb_disk.specs.Tree.Follow.{Reached, Place, pass, ending, at_last, arrives, followed, most_links}
use Rattle.odb_disk.specs.Tree.Change.{is_file_content}
use Rattle.odb_disk.specs.Tree.Write.{WrongKind, from_followed, and_then, in_directory, spot_below, spot, file_path, file_spot}
use Rattle.odb_disk.specs.Tree.Way.{ways_onward, ways_within, is_front_of_one, on_way, is_link_content, on_way_within}
use Rattle.odb_disk.specs.declared.node.Node.{Node}
use Rattle.odb_disk.specs.declared.node.Content.{Content}
use Rattle.odb_disk.specs.declared.node.Content.TheVariants.{File, Dir, Link}
use Rattle.odb_disk.proofs.TreeLemmas.Moved.{begins, behind-append}
use Rattle.odb_disk.proofs.TreeLemmas.Write.{SpotIn, spot_is_in}
use Rattle.odb_disk.proofs.WayLemmas.Alike.{outline_content, outline, outline_place, Alike, followed_alike, ways_alike}
use Rattle.odb_disk.proofs.WayLemmas.Further.{front_of_front, front_of_more, front_of_own, ends_way, unfollowed_front, ways_by, followed_by}

-- ---- which paths are on a way

module _ (t : Tree) where
  pub front_on_way : (follow : Bool) (path q s : Path) → begins q s ≡ true → on_way t follow path q ≡ true → on_way t follow path s ≡ true
  unfolding on_way
  front_on_way follow path q s front on = front_of_front (ways_within most_links t follow path) q s front on

  pub unfollowed_on_way : (path q : Path) → on_way t false path q ≡ true → on_way t true path q ≡ true
  unfolding on_way
  unfollowed_on_way path q on = unfollowed_front t most_links path q on

  pub directory_on_way : (front : Path) (name : Name) (q : Path) → on_way t true front q ≡ true → on_way t false (front ++ name ∷ []) q ≡ true
  unfolding on_way
  directory_on_way front name q on = ap (λ ways. is_front_of_one ways q) (ways_by t name most_links front) ∙ front_of_more (ways_within most_links t true front) name q on

  pub place_on_way : (follow : Bool) (path : Path) (place : Place) → followed t follow path ≡ Ok place → on_way t follow path place.path ≡ true
  unfolding on_way
  place_on_way follow path place is = front_of_own (ways_within most_links t follow path) place.path (ends_way t follow most_links path place is)

  own_front : (follow : Bool) (links : ℕ) (path q : Path) → begins path q ≡ true → on_way_within links t follow path q ≡ true
  unfolding ways_within
  own_front follow zero path q front = or_left (begins path q) false front
  own_front follow (suc links) path q front = or_left (begins path q) (is_front_of_one (ways_onward (ways_within links t follow) (pass t follow [] path)) q) front

  pub own_on_way : (follow : Bool) (path q : Path) → begins path q ≡ true → on_way t follow path q ≡ true
  unfolding on_way
  own_on_way follow path q front = own_front follow most_links path q front

-- a spot, as a name in the directory where the path's leads
pub record NamedIn (t : Tree) (path s : Path) : Type 0 where
  pub spot_in : SpotIn t path s
  pub name : Name
  pub path_is : path ≡ spot_in.front ++ name ∷ []
  pub is : spot_in.place.path ++ name ∷ [] ≡ s

module _ (t : Tree) (path s : Path) (is : spot t path ≡ Ok s) where
  pub named_in : s ≢ [] → NamedIn t path s
  named_in below =
      let i = spot_is_in t path s is below in
      let last = parent_of-some path i.front i.parent in
      let behind : drop (length i.front) path ≡ last.0 ∷ [] = ap (drop (length i.front)) last.1 ∙ behind-append i.front (last.0 ∷ []) in
      record { spot_in = i; name = last.0; path_is = last.1; is = ap (λ r. i.place.path ++ r) (sym behind) ∙ i.is }

-- ---- what is at a spot is where the path leads

is_Dir : (content : Content) → is_directory_content content ≡ true → content ≡ Dir
is_Dir (File bytes time) is = absurd (false≢true is)
is_Dir Dir is = refl
is_Dir (Link target) is = absurd (false≢true is)

stays : (follow : Bool) (path : Path) (node : Node) (content : Content) → ((target : Path) → content ≢ Link target) → at_last follow path node content ≡ Reached path node
stays true path node (File bytes time) plain = refl
stays true path node Dir plain = refl
stays true path node (Link target) plain = absurd (plain target refl)
stays false path node content plain = refl

pub leads_to_spot : (t : Tree) (path s : Path) → spot t path ≡ Ok s → s ≢ [] → (node : Node) → node_at t s ≡ Some node → ((target : Path) → node.content ≢ Link target) → (follow : Bool)
    → followed t follow path ≡ Ok (record { path = s; node = node })
leads_to_spot t path s is below node at plain follow =
    let n = named_in t path s is below in
    let i = n.spot_in in
    let says : (further : Path → Result Place following.Refusal)
    → arrives further (ending follow (i.place.path ++ n.name ∷ []) (node_at t (i.place.path ++ n.name ∷ []))) ≡ Ok (record { path = s; node = node }) =
    λ further.
    ap (λ p. arrives further (ending follow p (node_at t p))) n.is
    ∙ ap (λ o. arrives further (ending follow s o)) at
    ∙ ap (arrives further) (stays follow s node node.content plain) in
    ap (followed t follow) n.path_is ∙ followed_by t n.name follow i.place (Ok (record { path = s; node = node })) (is_Dir i.place.node.content i.directory) says most_links i.front i.leads

-- ---- the kind of a node by its outline

is_directory_content-outline : (content : Content) → is_directory_content (outline_content content) ≡ is_directory_content content
is_directory_content-outline (File bytes time) = refl
is_directory_content-outline Dir = refl
is_directory_content-outline (Link target) = refl

is_file_content-outline : (content : Content) → is_file_content (outline_content content) ≡ is_file_content content
is_file_content-outline (File bytes time) = refl
is_file_content-outline Dir = refl
is_file_content-outline (Link target) = refl

pub file_no_link : (content : Content) → is_file_content content ≡ true → is_link_content content ≡ false
file_no_link (File bytes time) file = refl
file_no_link Dir file = absurd (false≢true file)
file_no_link (Link target) file = absurd (false≢true file)

in_directory-outline : (last : Path) (told : Result Place following.Refusal) → and_then (in_directory last) (from_followed (outline_place told)) ≡ and_then (in_directory last) (from_followed told)
in_directory-outline last (Ok place) = ap (λ b. cond b (Ok (place.path ++ last)) (Err WrongKind)) (is_directory_content-outline place.node.content)
in_directory-outline last (Err refusal) = refl

file_path-outline : (told : Result Place following.Refusal) → and_then file_path (from_followed (outline_place told)) ≡ and_then file_path (from_followed told)
file_path-outline (Ok place) = ap (λ b. cond b (Ok place.path) (Err WrongKind)) (is_file_content-outline place.node.content)
file_path-outline (Err refusal) = refl

-- ---- spots in trees that are alike on the way

-- two trees have nodes of one outline on the way that a path has in the first
abbrev pub AlikeOnWay : Tree → Tree → Bool → Path → Type 0
AlikeOnWay t u follow path = (q : Path) → on_way t follow path q ≡ true → outline (node_at u q) ≡ outline (node_at t q)

module _ (t u : Tree) where
  alike_fronts : (follow : Bool) (path : Path) → AlikeOnWay t u follow path → Alike t u (ways_within most_links t follow path)
  unfolding on_way
  alike_fronts follow path alike q front = alike q front

  pub places_alike : (follow : Bool) (path : Path) → AlikeOnWay t u follow path → outline_place (followed u follow path) ≡ outline_place (followed t follow path)
  places_alike follow path alike = followed_alike t u follow most_links path (alike_fronts follow path alike)

  pub on_way_alike : (follow : Bool) (path : Path) → AlikeOnWay t u follow path → (q : Path) → on_way u follow path q ≡ on_way t follow path q
  unfolding on_way
  on_way_alike follow path alike q = ap (λ ways. is_front_of_one ways q) (ways_alike t u follow most_links path (alike_fronts follow path alike))

  pub file_spot_alike : (path : Path) → AlikeOnWay t u true path → file_spot u path ≡ file_spot t path
  unfolding file_spot
  file_spot_alike path alike =
      sym (file_path-outline (followed u true path)) ∙ ap (λ told. and_then file_path (from_followed told)) (places_alike true path alike) ∙ file_path-outline (followed t true path)

  module _ (path : Path) where
    below_alike : (front : Path) → AlikeOnWay t u true front → spot_below u path (Some front) ≡ spot_below t path (Some front)
    below_alike front alike =
        let last = drop (length front) path in
        sym (in_directory-outline last (followed u true front)) ∙ ap (λ told. and_then (in_directory last) (from_followed told)) (places_alike true front alike)
        ∙ in_directory-outline last (followed t true front)

    -- the way of the path's directory is enough
    pub spot_alike_below : (front : Path) → parent_of path ≡ Some front → AlikeOnWay t u true front → spot u path ≡ spot t path
    unfolding spot
    spot_alike_below front parent alike = ap (spot_below u path) parent ∙ below_alike front alike ∙ sym (ap (spot_below t path) parent)

    spot_root : parent_of path ≡ None → spot u path ≡ spot t path
    unfolding spot
    spot_root none = ap (spot_below u path) none ∙ sym (ap (spot_below t path) none)

    module _ (alike : AlikeOnWay t u false path) where
      alike_below : (front : Path) → parent_of path ≡ Some front → AlikeOnWay t u true front
      alike_below front parent q on =
          let last = parent_of-some path front parent in
          alike q (ap (λ p. on_way t false p q) last.1 ∙ directory_on_way t front last.0 q on)

      pub spot_alike : spot u path ≡ spot t path
      spot_alike = elim (parent_of path) as (λ o. parent_of path ≡ o → spot u path ≡ spot t path) [
        | None ↦ λ none. spot_root none
        | Some front ↦ λ parent. spot_alike_below front parent (alike_below front parent)
      ] refl
