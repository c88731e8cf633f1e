-- A file at its spot: it is there, and which changes leave it and the way to it alone.
use Rattle.std.proofs.Common.{◌≡◌, ◌≢◌, inl, inr, true, [], ◌∷◌, ◌++◌, length, drop, Some, None, Ok, Err, sym, ap, ◌∙◌, subst}
use Rattle.std.specs.Prelude.{if◌then◌else◌}
use Rattle.odb_base.specs.Path.{Name, Path}
use Rattle.odb_base.specs.PathLaws.{parent_of-push}
use Rattle.odb_disk.specs.Tree.{IsTree, Tree, is_directory_content, node_at}
use Rattle.odb_disk.specs.Tree.Change.{changed}
use Rattle.odb_disk.specs.Tree.Follow.{followed, most_links}
use Rattle.odb_disk.specs.Tree.Way.{SameOnWay}
use Rattle.odb_disk.specs.Tree.Write.{WrongKind, and_then, from_followed, in_directory, spot, spot_below, vacant}
use Rattle.odb_disk.specs.declared.node.Content.TheVariants.{Dir, Link}
use Rattle.odb_disk.specs.declared.node.Node.{Node}
use Rattle.odb_disk.specs.declared.change.Change.{Change}
use Rattle.odb_disk.specs.declared.change.Change.TheVariants.{Rename}
use Rattle.odb_disk.proofs.OwnWayLaws.{IsOwnChange, OwnSpot, Stops, own_after, own_stops, stop_below_root}
use Rattle.odb_disk.proofs.TreeLemmas.Follow.{IsDir-from, followed_reached, pass_to_other}
use Rattle.odb_disk.proofs.TreeLemmas.Moved.{begins-own, behind-append}
use Rattle.odb_disk.proofs.TreeLemmas.Write.{vacant_at}
use Rattle.odb_disk.proofs.WayLaws.{file_here, own_on_way}

-- what lies in a directory is at its own path
stands_at_itself : (t : Tree) → IsTree t → (front : Path) (name : Name) (n : Node) → node_at t (front ++ name ∷ []) ≡ Some n
    → spot t (front ++ name ∷ []) ≡ Ok (front ++ name ∷ [])
unfolding spot
stands_at_itself t is_tree front name n at =
    let path = front ++ name ∷ [] in
    let last = drop (length front) path in
    let d = IsDir-from t front (is_tree.ways front name n at) in
    let no_link : (target : Path) → d.node.content ≢ Link target = λ target link. (let both : Dir ≡ Link target = sym d.content ∙ link in absurd (cc both)) in
    let leads : followed t true front ≡ Ok (record { path = front; node = d.node }) = followed_reached t true front most_links front d.node (pass_to_other t is_tree front d.node d.at true no_link) in
    ap (spot_below t path) (parent_of-push front name)
    ∙ ap (λ told. and_then (in_directory last) (from_followed told)) leads
    ∙ ap (λ c. if is_directory_content c then Ok (front ++ last) else Err WrongKind) d.content
    ∙ ap (λ r. Ok (front ++ r)) (behind-append front (name ∷ []))

-- the change of another writer leaves a file and the way to its spot alone, where it moves its file elsewhere
pub spot_left : (t : Tree) → IsTree t → (front : Path) (name : Name) (s : Path) → s ≡ front ++ name ∷ [] → Stops t true s s
    → (other : Path) (change : Change) → IsOwnChange t other change → other ≢ s → ((p : Path) → change ≡ Rename other p → p ≢ s)
    → SameOnWay t (changed t change) true s
spot_left t is_tree front name s named stops other change his apart elsewhere =
    let below : s ≢ [] = λ root. stop_below_root t is_tree true s s stops (sym root) in
    let itself : spot t s ≡ Ok s = ap (spot t) named ∙ (stands_at_itself t is_tree front name stops.node (ap (node_at t) (sym named) ∙ stops.at) ∙ ap Ok (sym named)) in
    let own : OwnSpot t s s = record { is = itself; leads = file_here t s s itself below stops.node stops.at stops.file } in
    elim (own_after t is_tree front name s (subst (λ p. OwnSpot t p s) named own) other apart change his elsewhere) [
      | inl same ↦ subst (SameOnWay t (changed t change) true) (sym named) same
      | inr c ↦ c.file
    ]

pub spot_stops : (t : Tree) (path s : Path) → OwnSpot t path s → Stops t true s s
spot_stops t path s own = let stops = own_stops t path s own in record { on = own_on_way t true s s (begins-own s); node = stops.node; at = stops.at; file = stops.file }

pub not_vacant : (t : Tree) (s other q : Path) → Stops t true s s → vacant t other ≡ Ok q → q ≢ s
not_vacant t s other q stops free same = let both : None ≡ Some stops.node = sym (vacant_at t other q free).absent ∙ (ap (node_at t) same ∙ stops.at) in cc
