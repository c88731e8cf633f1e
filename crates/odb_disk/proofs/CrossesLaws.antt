-- Laws of links that the way of a path crosses, for callers: a directory at its own names has none on the way of its contents.
use Rattle.std.specs.Prelude.{◌≡◌, ℕ, zero, suc, Bool, true, false, ◌&&◌, List, [], ◌∷◌, ◌++◌, drop, length, Option, Result, Ok, Err, if◌then◌else◌, refl}
use Rattle.std.specs.List.{starts_with}
use Rattle.std.proofs.Common.{sym, ap, ◌∙◌}
use Rattle.std.proofs.Math.Seq.{drop-append_seam}
use Rattle.std.proofs.lemmas.Bool.{and_right}
use Rattle.odb_base.specs.Path.{Name, Path, same_name}
use Rattle.odb_base.specs.PathLaws.{parent_of-push}
use Rattle.odb_disk.specs.Tree.{Tree, node_at, is_directory, is_directory_content}
use Rattle.odb_disk.specs.Tree.Follow.{Refusal, LinkLoop, Pass, Reached, Place, arrives, pass, followed_within, most_links}
use Rattle.odb_disk.specs.Tree.Way.{ways_onward, ways_within, is_front_of_one, on_way, on_way_to, is_link, crosses}
use Rattle.odb_disk.specs.Tree.Write as writing
use Rattle.odb_disk.specs.Tree.Write.{and_then, from_followed, in_directory, spot_below, spot, replaceable}
use Rattle.odb_disk.specs.declared.node.Node.{Node}

-- A path passes no link, and something is there: it is at its own names.
abbrev pub StandsPlain : Tree → Path → Type 0
StandsPlain tree path = (node : Node) × (pass tree true [] path ≡ Reached path node)

longer_no_front : (xs : Path) (x : Name) → starts_with same_name xs (xs ++ x ∷ []) ≡ false
longer_no_front [] x = refl
longer_no_front (y ∷ ys) x = and_right (same_name y y) (starts_with same_name ys (ys ++ x ∷ [])) (longer_no_front ys x)

module _ (t : Tree) (front : Path) (plain : StandsPlain t front) where
  leads_there : (links : ℕ) → followed_within links t true front ≡ Ok (record { path = front; node = plain.0 })
  unfolding followed_within
  leads_there links = by_links links
    where
      by_links : (n : ℕ) → followed_within n t true front ≡ Ok (record { path = front; node = plain.0 })
      by_links zero = ap (arrives (λ _. Err LinkLoop)) plain.1
      by_links (suc less) = ap (arrives (followed_within less t true)) plain.1

  one_way : ways_within most_links t true front ≡ front ∷ []
  unfolding ways_within
  one_way = ap (λ (p : Pass). front ∷ ways_onward (ways_within 39 t true) p) plain.1

  module _ (name : Name) where
    in_place : (b : Bool) (p : Path) → (if b then Ok (front ++ drop (length front) (front ++ name ∷ [])) else Err writing.WrongKind) ≡ Ok p → p ≡ front ++ name ∷ []
    in_place true p e = let same : front ++ drop (length front) (front ++ name ∷ []) ≡ p = cc e in sym same ∙ ap (λ (rest : Path). front ++ rest) (drop-append_seam front (name ∷ []))
    in_place false p e = absurd (cc e)

    own_spot : (p : Path) → spot t (front ++ name ∷ []) ≡ Ok p → p ≡ front ++ name ∷ []
    unfolding spot
    own_spot p e =
        in_place (is_directory_content plain.0.content) p
        (sym (ap (spot_below t (front ++ name ∷ [])) (parent_of-push front name)
        ∙ ap (λ (r : Result Place Refusal). and_then (in_directory (drop (length front) (front ++ name ∷ []))) (from_followed r)) (leads_there most_links)) ∙ e)

    -- nothing that is in it is crossed on the way of its path
    pub crosses_plain : (p : Path) → spot t (front ++ name ∷ []) ≡ Ok p → crosses t (front ++ name ∷ []) p ≡ false
    unfolding crosses on_way
    crosses_plain p e =
        ap (λ (o : Option Path). is_link (node_at t p) && on_way_to t o p) (parent_of-push front name)
        ∙ and_right (is_link (node_at t p)) (on_way t true front p) (ap (λ (ways : List Path). is_front_of_one ways p) one_way ∙ ap (λ (q : Path). is_front_of_one (front ∷ []) q) (own_spot p e) ∙ off)
      where
        off : is_front_of_one (front ∷ []) (front ++ name ∷ []) ≡ false
        off = rw (longer_no_front front name) refl

replaced_at : (t : Tree) (result : Result Path writing.Refusal) (p : Path) → and_then (λ (place : Path). if is_directory (node_at t place) then Err writing.WrongKind else Ok place) result ≡ Ok p
    → result ≡ Ok p
replaced_at t (Err refusal) p e = absurd (cc e)
replaced_at t (Ok place) p e = ap (λ (q : Path). Ok q) (by_kind (is_directory (node_at t place)) e)
  where
    by_kind : (b : Bool) → (if b then Err writing.WrongKind else Ok place) ≡ Ok p → place ≡ p
    by_kind true e = absurd (cc e)
    by_kind false e = cc e

-- the spot of a path that a file may be moved onto
pub replaceable_spot : (t : Tree) (path p : Path) → replaceable t path ≡ Ok p → spot t path ≡ Ok p
unfolding replaceable
replaceable_spot t path p e = replaced_at t (spot t path) p e
