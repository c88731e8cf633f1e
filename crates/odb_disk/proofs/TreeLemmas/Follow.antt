-- Laws of following a path: one pass along its names, and where the links lead.
use Rattle.std.proofs.Common.{◌≡◌, ℕ, suc, ◌<◌, Bool, true, false, List, [], ◌∷◌, ◌++◌, length, get_or, drop, Option, Some}
use Rattle.std.proofs.Common.{None, Result, Ok, Err, zero, ◌≢◌, refl, sym, ap, ◌∙◌, append_assoc, append-nil, arith, subst}
use Rattle.odb_base.specs.Path.{Name, Path}
use Rattle.odb_disk.specs.Tree.{Tree, IsTree, node_at, is_directory, is_directory_content}
use Rattle.odb_disk.specs.Tree.Follow.{Pass, Reached, Onward, Missing, Blocked, pass, past, beyond, at_last, ending, Place, Refusal, Absent, WrongKind, LinkLoop, arrives, followed_within}
use Rattle.odb_disk.specs.declared.node.Node.{Node}
use Rattle.odb_disk.specs.declared.node.Content.{Content}
use Rattle.odb_disk.specs.declared.node.Content.TheVariants.{File, Dir, Link}

-- ---- a step of a pass, with names still to come

module _ (t : Tree) (follow : Bool) (way : Path) where
  pub pass_missing : (names : Path) → 0 < length names → node_at t way ≡ None → pass t follow way names ≡ Missing
  unfolding pass
  pass_missing [] some none = absurd (omega arith)
  pass_missing (name ∷ names) some none = ap (λ o. beyond o (name ∷ names) (pass t follow (way ++ name ∷ []) names)) none

  pub pass_blocked : (names : Path) (n : Node) (bytes : List ℕ) (time : ℕ) → 0 < length names → node_at t way ≡ Some n → n.content ≡ File bytes time → pass t follow way names ≡ Blocked
  unfolding pass
  pass_blocked [] n bytes time some at is = absurd (omega arith)
  pass_blocked (name ∷ names) n bytes time some at is =
      ap (λ o. beyond o (name ∷ names) (pass t follow (way ++ name ∷ []) names)) at ∙ ap (λ c. past c (name ∷ names) (pass t follow (way ++ name ∷ []) names)) is

  pub pass_led : (names : Path) (n : Node) (target : Path) → 0 < length names → node_at t way ≡ Some n → n.content ≡ Link target → pass t follow way names ≡ Onward (target ++ names)
  unfolding pass
  pass_led [] n target some at is = absurd (omega arith)
  pass_led (name ∷ names) n target some at is =
      ap (λ o. beyond o (name ∷ names) (pass t follow (way ++ name ∷ []) names)) at ∙ ap (λ c. past c (name ∷ names) (pass t follow (way ++ name ∷ []) names)) is

  pub pass_further : (names : Path) (n : Node) (d : Name) → 0 < length names → node_at t way ≡ Some n → n.content ≡ Dir
      → pass t follow way names ≡ pass t follow (way ++ get_or names 0 d ∷ []) (drop 1 names)
  unfolding pass
  pass_further [] n d some at is = absurd (omega arith)
  pass_further (name ∷ names) n d some at is =
      ap (λ o. beyond o (name ∷ names) (pass t follow (way ++ name ∷ []) names)) at ∙ ap (λ c. past c (name ∷ names) (pass t follow (way ++ name ∷ []) names)) is

  pub pass_ends : pass t follow way [] ≡ ending follow way (node_at t way)
  unfolding pass
  pass_ends = refl

-- ---- the way of a node is directories

is_Dir : (c : Content) → is_directory_content c ≡ true → c ≡ Dir
is_Dir (File bytes time) e = cc
is_Dir Dir e = refl
is_Dir (Link target) e = cc

-- a directory
pub record IsDir (t : Tree) (path : Path) : Type 0 where
  pub node : Node
  pub at : node_at t path ≡ Some node
  pub content : node.content ≡ Dir

pub IsDir-from : (t : Tree) (path : Path) → is_directory (node_at t path) ≡ true → IsDir t path
IsDir-from t path e =
    elim (node_at t path) as (λ o. node_at t path ≡ o → is_directory o ≡ true → IsDir t path) [
      | None ↦ λ _ no. cc
      | Some n ↦ λ at yes. record { node = n; at = at; content = is_Dir n.content yes }
    ] refl e

module _ (t : Tree) (is_tree : IsTree t) where
  -- each directory on the way of a node
  pub way_is_directory : (way : Path) (name : Name) (names : Path) (n : Node) → node_at t (way ++ name ∷ names) ≡ Some n → is_directory (node_at t way) ≡ true
  way_is_directory way name [] n at = is_tree.ways way name n at
  way_is_directory way name (next ∷ names) n at =
      let regroup : (way ++ name ∷ []) ++ next ∷ names ≡ way ++ name ∷ next ∷ names = append_assoc way (name ∷ []) (next ∷ names) in
      let below = way_is_directory (way ++ name ∷ []) next names n (ap (node_at t) regroup ∙ at) in
      let d = IsDir-from t (way ++ name ∷ []) below in
      is_tree.ways way name d.node d.at

  -- a pass along the names of a node reaches the node
  pub pass_to : (follow : Bool) (way names : Path) (n : Node) → node_at t (way ++ names) ≡ Some n → pass t follow way names ≡ ending follow (way ++ names) (Some n)
  pass_to follow way [] n at =
      let whole : way ++ [] ≡ way = append-nil way in
      pass_ends t follow way ∙ ap (ending follow way) (ap (node_at t) (sym whole) ∙ at) ∙ ap (λ w. ending follow w (Some n)) (sym whole)
  pass_to follow way (name ∷ names) n at =
      let d = IsDir-from t way (way_is_directory way name names n at) in
      let regroup : (way ++ name ∷ []) ++ names ≡ way ++ name ∷ names = append_assoc way (name ∷ []) names in
      pass_further t follow way (name ∷ names) d.node [] (omega arith) d.at d.content
      ∙ pass_to follow (way ++ name ∷ []) names n (ap (node_at t) regroup ∙ at)
      ∙ ap (λ w. ending follow w (Some n)) regroup

-- ---- a pass that reaches the last node on a way

module _ (t : Tree) (is_tree : IsTree t) where
  -- each directory on the way of a node is passed
  pub pass_from : (follow : Bool) (way names rest : Path) (n : Node) → node_at t (way ++ names) ≡ Some n → pass t follow way (names ++ rest) ≡ pass t follow (way ++ names) rest
  pass_from follow way [] rest n at = ap (λ w. pass t follow w rest) (sym (append-nil way))
  pass_from follow way (name ∷ names) rest n at =
      let d = IsDir-from t way (way_is_directory t is_tree way name names n at) in
      let regroup : (way ++ name ∷ []) ++ names ≡ way ++ name ∷ names = append_assoc way (name ∷ []) names in
      pass_further t follow way (name ∷ names ++ rest) d.node [] (omega arith) d.at d.content
      ∙ pass_from follow (way ++ name ∷ []) names rest n (ap (node_at t) regroup ∙ at)
      ∙ ap (λ w. pass t follow w rest) regroup

-- A path goes beyond this way, and nothing is at the next name.
pub record IsShort (t : Tree) (path way : Path) : Type 0 where
  pub name : Name
  pub names : Path
  pub whole : path ≡ way ++ name ∷ names
  pub lacks : node_at t (way ++ name ∷ []) ≡ None

-- where a pass goes from the last node on its way
pub pass_past : (t : Tree) → IsTree t → (follow : Bool) (path way : Path) (n : Node) (short : IsShort t path way) → node_at t way ≡ Some n
    → pass t follow [] path ≡ past n.content (short.name ∷ short.names) Missing
unfolding pass
pass_past t is_tree follow path way n short at =
    ap (pass t follow []) short.whole ∙ pass_from t is_tree follow [] way (short.name ∷ short.names) n at ∙ stops short.names
  where
    missing : (names : Path) → pass t follow (way ++ short.name ∷ []) names ≡ Missing
    missing [] = ap (ending follow (way ++ short.name ∷ [])) short.lacks
    missing (next ∷ names) = ap (λ o. beyond o (next ∷ names) (pass t follow ((way ++ short.name ∷ []) ++ next ∷ []) names)) short.lacks

    stops : (names : Path) → pass t follow way (short.name ∷ names) ≡ past n.content (short.name ∷ names) Missing
    stops names = ap (λ o. beyond o (short.name ∷ names) (pass t follow (way ++ short.name ∷ []) names)) at ∙ ap (past n.content (short.name ∷ names)) (missing names)

-- ---- a pass to a node of a tree, from the root on

module _ (t : Tree) (is_tree : IsTree t) (path : Path) (n : Node) (at : node_at t path ≡ Some n) where
  pub pass_to_link : (follow : Bool) (target : Path) → follow ≡ true → n.content ≡ Link target → pass t follow [] path ≡ Onward target
  pass_to_link follow target followed is = pass_to t is_tree follow [] path n at ∙ ap (λ f. at_last f path n n.content) followed ∙ ap (at_last true path n) is

  pub pass_to_unfollowed : (follow : Bool) → follow ≡ false → pass t follow [] path ≡ Reached path n
  pass_to_unfollowed follow kept = pass_to t is_tree follow [] path n at ∙ ap (λ f. at_last f path n n.content) kept

  stays : (follow : Bool) (content : Content) → ((target : Path) → content ≢ Link target) → at_last follow path n content ≡ Reached path n
  stays true (File bytes time) other = refl
  stays true Dir other = refl
  stays true (Link target) other = absurd (other target refl)
  stays false content other = refl

  pub pass_to_other : (follow : Bool) → ((target : Path) → n.content ≢ Link target) → pass t follow [] path ≡ Reached path n
  pass_to_other follow other = pass_to t is_tree follow [] path n at ∙ stays follow n.content other

-- ---- where a path leads, by its first pass

module _ (t : Tree) (follow : Bool) (path : Path) where
  -- what a pass says by itself, with any number of links left
  arrives_alike : (links : ℕ) (p : Pass) (told : Result Place Refusal) → ((further : Path → Result Place Refusal) → arrives further p ≡ told) → pass t follow [] path ≡ p
      → followed_within links t follow path ≡ told
  unfolding followed_within
  arrives_alike zero p told alike is = ap (arrives (λ _. Err LinkLoop)) is ∙ alike (λ _. Err LinkLoop)
  arrives_alike (suc links) p told alike is = ap (arrives (followed_within links t follow)) is ∙ alike (followed_within links t follow)

  pub followed_reached : (links : ℕ) (at : Path) (n : Node) → pass t follow [] path ≡ Reached at n → followed_within links t follow path ≡ Ok (record { path = at; node = n })
  followed_reached links at n is = arrives_alike links (Reached at n) _ (λ _. refl) is

  pub followed_missing : (links : ℕ) → pass t follow [] path ≡ Missing → followed_within links t follow path ≡ Err Absent
  followed_missing links is = arrives_alike links Missing _ (λ _. refl) is

  pub followed_blocked : (links : ℕ) → pass t follow [] path ≡ Blocked → followed_within links t follow path ≡ Err WrongKind
  followed_blocked links is = arrives_alike links Blocked _ (λ _. refl) is

  pub followed_loop : (onward : Path) → pass t follow [] path ≡ Onward onward → followed_within 0 t follow path ≡ Err LinkLoop
  unfolding followed_within
  followed_loop onward is = ap (arrives (λ _. Err LinkLoop)) is

  pub followed_onward : (links less : ℕ) (onward : Path) → links ≡ suc less → pass t follow [] path ≡ Onward onward → followed_within links t follow path ≡ followed_within less t follow onward
  unfolding followed_within
  followed_onward links less onward one is = ap (λ l. followed_within l t follow path) one ∙ ap (arrives (followed_within less t follow)) is

-- ---- a place is where its node is

-- the place that a path leads to has the node that is there
abbrev pub StandsAt : Tree → Result Place Refusal → Type 0
StandsAt t told = (place : Place) → told ≡ Ok place → node_at t place.path ≡ Some place.node

module _ (t : Tree) where
  at_last_is : (follow : Bool) (way : Path) (node : Node) (content : Content) (p : Path) (n : Node) → at_last follow way node content ≡ Reached p n → (way ≡ p) × (node ≡ n)
  at_last_is true way node (File bytes time) p n is = (cc, cc)
  at_last_is true way node Dir p n is = (cc, cc)
  at_last_is true way node (Link target) p n is = absurd (cc)
  at_last_is false way node content p n is = (cc, cc)

  ending_is : (follow : Bool) (way : Path) (o : Option Node) (p : Path) (n : Node) → ending follow way o ≡ Reached p n → (way ≡ p) × (o ≡ Some n)
  ending_is follow way None p n is = absurd (cc)
  ending_is follow way (Some node) p n is = let both = at_last_is follow way node node.content p n is in (both.0, ap Some both.1)

  beyond_is : (o : Option Node) (names : Path) (further : Pass) (p : Path) (n : Node) → beyond o names further ≡ Reached p n → further ≡ Reached p n
  beyond_is None names further p n is = absurd (cc)
  beyond_is (Some node) names further p n is =
      elim node.content as (λ c. past c names further ≡ Reached p n → further ≡ Reached p n) [ File bytes time ↦ λ e. absurd (cc) | Dir ↦ λ e. e | Link target ↦ λ e. absurd (cc) ] is

  reached_stands : (follow : Bool) (way names : Path) (p : Path) (n : Node) → pass t follow way names ≡ Reached p n → node_at t p ≡ Some n
  unfolding pass
  reached_stands follow way [] p n is = let both = ending_is follow way (node_at t way) p n is in ap (node_at t) (sym both.0) ∙ both.1
  reached_stands follow way (name ∷ names) p n is = reached_stands follow (way ++ name ∷ []) names p n (beyond_is (node_at t way) (name ∷ names) _ p n is)

  arrived : (further : Path → Result Place Refusal) (p : Pass) (place : Place) → arrives further p ≡ Ok place → ((q : Path) → further q ≡ Ok place → node_at t place.path ≡ Some place.node)
      → ((q : Path) (n : Node) → p ≡ Reached q n → node_at t q ≡ Some n) → node_at t place.path ≡ Some place.node
  arrived further (Reached q n) place is onward reached =
      let same : ◌≡◌ {A = Place} (record { path = q; node = n }) place = cc in subst (λ (k : Place). node_at t k.path ≡ Some k.node) same (reached q n refl)
  arrived further (Onward q) place is onward reached = onward q is
  arrived further Missing place is onward reached = absurd (cc)
  arrived further Blocked place is onward reached = absurd (cc)

  pub place_stands : (links : ℕ) (follow : Bool) (path : Path) (place : Place) → followed_within links t follow path ≡ Ok place → node_at t place.path ≡ Some place.node
  unfolding followed_within
  place_stands zero follow path place is = arrived (λ _. Err LinkLoop) (pass t follow [] path) place is (λ q e. absurd (cc)) (reached_stands follow [] path)
  place_stands (suc links) follow path place is = arrived (followed_within links t follow) (pass t follow [] path) place is (λ q. place_stands links follow q place) (reached_stands follow [] path)
