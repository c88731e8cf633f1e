-- What is on the way of a path that leads somewhere.
use Rattle.std.proofs.Common.{◌≡◌, inl, inr, ℕ, zero, suc, Bool, true, false, [], ◌∷◌, ◌++◌, length, drop, Option, Some, None, Result, Ok, Err, refl, sym, ap, ◌∙◌, subst, append_assoc, append-nil}
use Rattle.std.proofs.lemmas.Bool.{false≢true, or_cases}
use Rattle.odb_base.specs.Path.{Name, Path}
use Rattle.odb_base.specs.PathLaws.{goes_beyond}
use Rattle.odb_disk.specs.Tree.{Tree, IsTree, node_at, is_directory, is_directory_content}
use Rattle.odb_disk.specs.Tree.Follow.{Pass, Reached, Onward, Missing, Blocked, pass, past, beyond, at_last, ending, Place, Refusal, LinkLoop, arrives, followed_within}
use Rattle.odb_disk.specs.Tree.Change.{lies_in_directory}
use Rattle.odb_disk.specs.Tree.Way.{ways_onward, ways_within, is_front_of_one, is_link, is_link_content, on_way_within}
use Rattle.odb_disk.specs.declared.node.Node.{Node}
use Rattle.odb_disk.specs.declared.node.Content.{Content}
use Rattle.odb_disk.specs.declared.node.Content.TheVariants.{File, Dir, Link}
use Rattle.odb_disk.proofs.TreeLemmas.Change.{lies_in-push, split_last}
use Rattle.odb_disk.proofs.TreeLemmas.Moved.{begins}
use Rattle.odb_disk.proofs.TreeLemmas.MovedTree.{none_below}
use Rattle.odb_disk.proofs.WayLemmas.Further.{in_led}

-- What a path on a way is: a directory that is passed, a link that leads on, the place that is reached, or it is after a
-- link, where nothing is.
pub data Trod (t : Tree) (last q : Path) : Type 0 where
  Passed : is_directory (node_at t q) ≡ true → Trod t last q
  Crossed : is_link (node_at t q) ≡ true → Trod t last q
  Last : q ≡ last → Trod t last q
  Behind : lies_in_directory t q ≡ false → Trod t last q

-- a pass that reaches a node, or a link that leads on
abbrev pub comes : Pass → Bool
comes (Reached path node) = true
comes (Onward path) = true
comes Missing = false
comes Blocked = false

-- a place that a pass reaches is the last one
abbrev pub EndsAt : Path → Pass → Type 0
EndsAt last p = (path : Path) (node : Node) → p ≡ Reached path node → path ≡ last

module _ (t : Tree) (is_tree : IsTree t) (follow : Bool) (last : Path) where
  last_trod : (f : Bool) (way : Path) (node : Node) (content : Content) → node_at t way ≡ Some node → node.content ≡ content → EndsAt last (at_last f way node content) → Trod t last way
  last_trod true way node (File bytes time) at is ends = Last (ends way node refl)
  last_trod true way node Dir at is ends = Last (ends way node refl)
  last_trod true way node (Link target) at is ends = Crossed (ap is_link at ∙ ap is_link_content is)
  last_trod false way node content at is ends = Last (ends way node refl)

  ending_trod : (way : Path) (o : Option Node) → node_at t way ≡ o → comes (ending follow way o) ≡ true → EndsAt last (ending follow way o) → Trod t last way
  ending_trod way None at come ends = absurd (false≢true come)
  ending_trod way (Some node) at come ends = last_trod follow way node node.content at refl ends

  passed_trod : (way names : Path) (further : Pass) (node : Node) (content : Content) → node_at t way ≡ Some node → node.content ≡ content → comes (past content names further) ≡ true → Trod t last way
  passed_trod way names further node (File bytes time) at is come = absurd (false≢true come)
  passed_trod way names further node Dir at is come = Passed (ap is_directory at ∙ ap is_directory_content is)
  passed_trod way names further node (Link target) at is come = Crossed (ap is_link at ∙ ap is_link_content is)

  beyond_trod : (way names : Path) (further : Pass) (o : Option Node) → node_at t way ≡ o → comes (beyond o names further) ≡ true → Trod t last way
  beyond_trod way names further None at come = absurd (false≢true come)
  beyond_trod way names further (Some node) at come = passed_trod way names further node node.content at refl come

  -- what is below something that is no directory is in none
  pub behind : (way : Path) (name : Name) (names : Path) → is_directory (node_at t way) ≡ false → lies_in_directory t (way ++ name ∷ names) ≡ false
  behind way name names other =
      let s = split_last (name ∷ names) (λ e. cc) in
      let whole : way ++ name ∷ names ≡ (way ++ s.front) ++ s.name ∷ [] = ap (λ r. way ++ r) s.is ∙ sym (append_assoc way s.front (s.name ∷ [])) in
      ap (lies_in_directory t) whole ∙ lies_in-push t (way ++ s.front) s.name ∙ deeper s.front
    where
      deeper : (front : Path) → is_directory (node_at t (way ++ front)) ≡ false
      deeper [] = ap (λ p. is_directory (node_at t p)) (append-nil way) ∙ other
      deeper (next ∷ front) = ap is_directory (none_below t is_tree way other next front)

  next_trod : (way : Path) (name : Name) (names rest : Path) (further : Pass) (node : Node) (content : Content) → node_at t way ≡ Some node → node.content ≡ content
      → comes (past content rest further) ≡ true → EndsAt last (past content rest further) → (comes further ≡ true → EndsAt last further → Trod t last (way ++ name ∷ names))
      → Trod t last (way ++ name ∷ names)
  next_trod way name names rest further node (File bytes time) at is come ends next = absurd (false≢true come)
  next_trod way name names rest further node Dir at is come ends next = next come ends
  next_trod way name names rest further node (Link target) at is come ends next = Behind (behind way name names (ap is_directory at ∙ ap is_directory_content is))

  further_trod : (way : Path) (name : Name) (names rest : Path) (further : Pass) (o : Option Node) → node_at t way ≡ o → comes (beyond o rest further) ≡ true → EndsAt last (beyond o rest further)
      → (comes further ≡ true → EndsAt last further → Trod t last (way ++ name ∷ names)) → Trod t last (way ++ name ∷ names)
  further_trod way name names rest further None at come ends next = absurd (false≢true come)
  further_trod way name names rest further (Some node) at come ends next = next_trod way name names rest further node node.content at refl come ends next

  pub pass_trod : (way names front rest : Path) → names ≡ front ++ rest → comes (pass t follow way names) ≡ true → EndsAt last (pass t follow way names) → Trod t last (way ++ front)
  unfolding pass
  pass_trod way [] [] rest is come ends = subst (Trod t last) (sym (append-nil way)) (ending_trod way (node_at t way) refl come ends)
  pass_trod way [] (x ∷ front) rest is come ends = absurd (cc)
  pass_trod way (name ∷ names) [] rest is come ends =
      subst (Trod t last) (sym (append-nil way)) (beyond_trod way (name ∷ names) (pass t follow (way ++ name ∷ []) names) (node_at t way) refl come)
  pass_trod way (name ∷ names) (x ∷ front) rest is come ends =
      let head : name ≡ x = cc in
      let tail : names ≡ front ++ rest = cc in
      let regroup : (way ++ name ∷ []) ++ front ≡ way ++ x ∷ front = append_assoc way (name ∷ []) front ∙ ap (λ n. way ++ n ∷ front) head in
      further_trod way x front (name ∷ names) (pass t follow (way ++ name ∷ []) names) (node_at t way) refl come ends
      (λ c e. subst (Trod t last) regroup (pass_trod (way ++ name ∷ []) names front rest tail c e))

-- what a pass says if a path leads to a place
arrived_comes : (further : Path → Result Place Refusal) (p : Pass) (place : Place) → arrives further p ≡ Ok place → comes p ≡ true
arrived_comes further (Reached path node) place is = refl
arrived_comes further (Onward path) place is = refl
arrived_comes further Missing place is = absurd (cc)
arrived_comes further Blocked place is = absurd (cc)

arrived_ends : (further : Path → Result Place Refusal) (p : Pass) (place : Place) → arrives further p ≡ Ok place → EndsAt place.path p
arrived_ends further (Reached x m) place is path node reached =
    let same : ◌≡◌ {A = Place} (record { path = x; node = m }) place = cc in
    let here : x ≡ path = cc in
    sym here ∙ ap (λ (k : Place). k.path) same
arrived_ends further (Onward onward) place is path node reached = absurd (cc)
arrived_ends further Missing place is path node reached = absurd (cc)
arrived_ends further Blocked place is path node reached = absurd (cc)

module _ (t : Tree) (is_tree : IsTree t) (follow : Bool) (place : Place) where
  first_trod : (further : Path → Result Place Refusal) (path q : Path) → arrives further (pass t follow [] path) ≡ Ok place → begins path q ≡ true → Trod t place.path q
  first_trod further path q is front =
      let p = pass t follow [] path in
      pass_trod t is_tree follow place.path [] path q (drop (length q) path) (goes_beyond path q front) (arrived_comes further p place is) (arrived_ends further p place is)

  pub followed_trod : (links : ℕ) (path : Path) → followed_within links t follow path ≡ Ok place → (q : Path) → on_way_within links t follow path q ≡ true → Trod t place.path q
  unfolding followed_within ways_within
  followed_trod zero path is q front = elim (or_cases (begins path q) false front) [
    | inl own ↦ first_trod (λ _. Err LinkLoop) path q is own
    | inr none ↦ absurd (false≢true none)
  ]
  followed_trod (suc links) path is q front =
      let p = pass t follow [] path in
      elim (or_cases (begins path q) (is_front_of_one (ways_onward (ways_within links t follow) p) q) front) [
        | inl own ↦ first_trod (followed_within links t follow) path q is own
        | inr led ↦
            let l = in_led (ways_within links t follow) p q led in
            followed_trod links l.0 (sym (ap (arrives (followed_within links t follow)) l.1) ∙ is) q l.2
      ]
