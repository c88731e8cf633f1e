-- Where paths lead in trees that are alike on their way. A node's numbers, and a file's bytes and time, don't matter to
-- where a path leads.
use Rattle.std.proofs.Common.{◌≡◌, ℕ, zero, suc, Bool, true, false, List, [], ◌∷◌, ◌++◌, Option, Some, None, Result, Ok, Err, refl, sym, ap, ◌∙◌, append_assoc}
use Rattle.std.proofs.lemmas.Bool.{or_left, or_right}
use Rattle.std.proofs.lemmas.Option.{same_Some}
use Rattle.odb_base.specs.Path.{Path}
use Rattle.odb_disk.specs.Tree.{Tree, node_at}
use Rattle.odb_disk.specs.Tree.Follow.{Pass, Reached, Onward, Missing, Blocked, pass, past, beyond, at_last, ending, Place, Refusal, LinkLoop, arrives, followed_within}
use Rattle.odb_disk.specs.Tree.Way.{ways_onward, ways_within, is_front_of_one}
use Rattle.odb_disk.specs.declared.node.Node.{Node}
use Rattle.odb_disk.specs.declared.node.Content.{Content}
use Rattle.odb_disk.specs.declared.node.Content.TheVariants.{File, Dir, Link}
use Rattle.odb_disk.proofs.TreeLemmas.Follow.{StandsAt}
use Rattle.odb_disk.proofs.TreeLemmas.Moved.{begins, begins-append}

-- ---- the outline of a node

abbrev pub outline_content : Content → Content
outline_content (File bytes time) = File [] 0
outline_content Dir = Dir
outline_content (Link target) = Link target

abbrev pub outline_node : Node → Node
outline_node node = record { dev = 0; ino = 0; content = outline_content node.content }

abbrev pub outline : Option Node → Option Node
outline None = None
outline (Some node) = Some (outline_node node)

abbrev pub outline_pass : Pass → Pass
outline_pass (Reached path node) = Reached path (outline_node node)
outline_pass (Onward path) = Onward path
outline_pass Missing = Missing
outline_pass Blocked = Blocked

abbrev pub outline_place : Result Place Refusal → Result Place Refusal
outline_place (Ok place) = Ok (record { path = place.path; node = outline_node place.node })
outline_place (Err refusal) = Err refusal

at_last-outline : (follow : Bool) (way : Path) (node : Node) (content : Content) → outline_pass (at_last follow way node content) ≡ at_last follow way (outline_node node) (outline_content content)
at_last-outline true way node (File bytes time) = refl
at_last-outline true way node Dir = refl
at_last-outline true way node (Link target) = refl
at_last-outline false way node content = refl

ending-outline : (follow : Bool) (way : Path) (o : Option Node) → outline_pass (ending follow way o) ≡ ending follow way (outline o)
ending-outline follow way None = refl
ending-outline follow way (Some node) = at_last-outline follow way node node.content

past-outline : (content : Content) (names : Path) (further : Pass) → outline_pass (past content names further) ≡ past (outline_content content) names (outline_pass further)
past-outline (File bytes time) names further = refl
past-outline Dir names further = refl
past-outline (Link target) names further = refl

beyond-outline : (o : Option Node) (names : Path) (further : Pass) → outline_pass (beyond o names further) ≡ beyond (outline o) names (outline_pass further)
beyond-outline None names further = refl
beyond-outline (Some node) names further = past-outline node.content names further

arrives-outline : (further : Path → Result Place Refusal) (p : Pass) → outline_place (arrives further p) ≡ arrives (λ q. outline_place (further q)) (outline_pass p)
arrives-outline further (Reached path node) = refl
arrives-outline further (Onward path) = refl
arrives-outline further Missing = refl
arrives-outline further Blocked = refl

ways_onward-outline : (further : Path → List Path) (p : Pass) → ways_onward further (outline_pass p) ≡ ways_onward further p
ways_onward-outline further (Reached path node) = refl
ways_onward-outline further (Onward path) = refl
ways_onward-outline further Missing = refl
ways_onward-outline further Blocked = refl

pub onward-outline : (p : Pass) (path : Path) → outline_pass p ≡ Onward path → p ≡ Onward path
onward-outline (Reached at node) path is = absurd (cc)
onward-outline (Onward onward) path is = is
onward-outline Missing path is = absurd (cc)
onward-outline Blocked path is = absurd (cc)

arrives_alike : (f g : Path → Result Place Refusal) (p : Pass) → ((path : Path) → p ≡ Onward path → f path ≡ g path) → arrives f p ≡ arrives g p
arrives_alike f g (Reached path node) same = refl
arrives_alike f g (Onward path) same = same path refl
arrives_alike f g Missing same = refl
arrives_alike f g Blocked same = refl

ways_onward_alike : (f g : Path → List Path) (p : Pass) → ((path : Path) → p ≡ Onward path → f path ≡ g path) → ways_onward f p ≡ ways_onward g p
ways_onward_alike f g (Reached path node) same = refl
ways_onward_alike f g (Onward path) same = same path refl
ways_onward_alike f g Missing same = refl
ways_onward_alike f g Blocked same = refl

-- ---- trees that have alike nodes on the way

-- two trees have nodes of one outline at the prefixes of some paths
abbrev pub Alike : Tree → Tree → List Path → Type 0
Alike t u ways = (q : Path) → is_front_of_one ways q ≡ true → outline (node_at u q) ≡ outline (node_at t q)

module _ (t u : Tree) (follow : Bool) where
  pub pass_alike : (whole : Path) → ((q : Path) → begins whole q ≡ true → outline (node_at u q) ≡ outline (node_at t q)) → (way names : Path) → way ++ names ≡ whole
      → outline_pass (pass u follow way names) ≡ outline_pass (pass t follow way names)
  unfolding pass
  pass_alike whole alike way [] is =
      let here = alike way (ap (λ w. begins w way) (sym is) ∙ begins-append way []) in
      ending-outline follow way (node_at u way) ∙ ap (ending follow way) here ∙ sym (ending-outline follow way (node_at t way))
  pass_alike whole alike way (name ∷ names) is =
      let here = alike way (ap (λ w. begins w way) (sym is) ∙ begins-append way (name ∷ names)) in
      let next = pass_alike whole alike (way ++ name ∷ []) names (append_assoc way (name ∷ []) names ∙ is) in
      beyond-outline (node_at u way) (name ∷ names) (pass u follow (way ++ name ∷ []) names)
      ∙ ap (λ o. beyond o (name ∷ names) (outline_pass (pass u follow (way ++ name ∷ []) names))) here
      ∙ ap (beyond (outline (node_at t way)) (name ∷ names)) next
      ∙ sym (beyond-outline (node_at t way) (name ∷ names) (pass t follow (way ++ name ∷ []) names))

  first_alike : (path : Path) (more : List Path) → Alike t u (path ∷ more) → outline_pass (pass u follow [] path) ≡ outline_pass (pass t follow [] path)
  first_alike path more alike = pass_alike path (λ q front. alike q (or_left _ _ front)) [] path refl

  -- the way onward is alike too
  rest_alike : (links : ℕ) (path onward : Path) → Alike t u (path ∷ ways_onward (ways_within links t follow) (pass t follow [] path)) → outline_pass (pass t follow [] path) ≡ Onward onward
      → Alike t u (ways_within links t follow onward)
  rest_alike links path onward alike is q front =
      let led = onward-outline (pass t follow [] path) onward is in
      alike q (or_right (begins path q) _ (ap (λ p. is_front_of_one (ways_onward (ways_within links t follow) p) q) led ∙ front))

  pub followed_alike : (links : ℕ) (path : Path) → Alike t u (ways_within links t follow path)
      → outline_place (followed_within links u follow path) ≡ outline_place (followed_within links t follow path)
  unfolding followed_within ways_within
  followed_alike zero path alike =
      arrives-outline (λ _. Err LinkLoop) (pass u follow [] path)
      ∙ ap (arrives (λ _. Err LinkLoop)) (first_alike path [] alike)
      ∙ sym (arrives-outline (λ _. Err LinkLoop) (pass t follow [] path))
  followed_alike (suc links) path alike =
      let then = λ (w : Tree) (q : Path). outline_place (followed_within links w follow q) in
      let p = outline_pass (pass t follow [] path) in
      arrives-outline (followed_within links u follow) (pass u follow [] path)
      ∙ ap (arrives (then u)) (first_alike path (ways_onward (ways_within links t follow) (pass t follow [] path)) alike)
      ∙ arrives_alike (then u) (then t) p (λ onward is. followed_alike links onward (rest_alike links path onward alike is))
      ∙ sym (arrives-outline (followed_within links t follow) (pass t follow [] path))

  pub ways_alike : (links : ℕ) (path : Path) → Alike t u (ways_within links t follow path) → ways_within links u follow path ≡ ways_within links t follow path
  unfolding ways_within
  ways_alike zero path alike = refl
  ways_alike (suc links) path alike =
      let p = outline_pass (pass t follow [] path) in
      let f = ways_within links u follow in
      let g = ways_within links t follow in
      ap (λ more. path ∷ more) (sym (ways_onward-outline f (pass u follow [] path))
      ∙ ap (ways_onward f) (first_alike path (ways_onward g (pass t follow [] path)) alike)
      ∙ ways_onward_alike f g p (λ onward is. ways_alike links onward (rest_alike links path onward alike is))
      ∙ ways_onward-outline g (pass t follow [] path))

-- ---- places of one outline, where the last nodes are the same

abbrev path_in : Result Place Refusal → Path
path_in (Ok place) = place.path
path_in (Err refusal) = []

pub same_place : (t u : Tree) (after before : Result Place Refusal) → outline_place after ≡ outline_place before
    → ((place : Place) → before ≡ Ok place → node_at u place.path ≡ node_at t place.path) → StandsAt u after → StandsAt t before → after ≡ before
same_place t u (Ok a) (Ok b) is same after_at before_at =
    let path : a.path ≡ b.path = ap path_in is in
    let node : a.node ≡ b.node = same_Some a.node b.node (sym (after_at a refl) ∙ ap (node_at u) path ∙ same b refl ∙ before_at b refl) in
    λ i. Ok (record { path = path i; node = node i })
same_place t u (Ok a) (Err refusal) is same after_at before_at = absurd (cc)
same_place t u (Err refusal) (Ok b) is same after_at before_at = absurd (cc)
same_place t u (Err refusal) (Err other) is same after_at before_at = is
