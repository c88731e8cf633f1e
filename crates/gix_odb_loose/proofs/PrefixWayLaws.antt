-- Where a path leads, by where the directory that it is in does, and by where it leads with its last link not followed.
use Rattle.std.proofs.Common.{◌≡◌, ◌⊎◌, inl, inr, ℕ, zero, suc, true, false, [], ◌∷◌, ◌++◌, Option, Some, None, Result, Ok, Err, refl, sym, ap, ◌∙◌, subst, append_assoc}
use Rattle.odb_base.specs.Path.{Name, Path}
use Rattle.odb_disk.specs.Tree.{Tree, node_at}
use Rattle.odb_disk.specs.Tree.Follow.{Pass, Place, Reached, Onward, Missing, Blocked, Refusal, LinkLoop, arrives, at_last, beyond, ending, followed_within, pass, past}
use Rattle.odb_disk.specs.Tree.Way.{is_link_content}
use Rattle.odb_disk.specs.declared.node.Content.{Content}
use Rattle.odb_disk.specs.declared.node.Content.TheVariants.{File, Dir, Link}
use Rattle.odb_disk.specs.declared.node.Node.{Node}

-- ---- a path with one more name

module _ (t : Tree) (name : Name) where
  -- what a directory at a path says of one more name
  abbrev pub next : Path → Pass
  next path = ending true (path ++ name ∷ []) (node_at t (path ++ name ∷ []))

  -- a pass with links followed never reaches one
  abbrev pub inside : Content → Pass → Pass
  inside (File bytes time) further = Blocked
  inside Dir further = further
  inside (Link target) further = Blocked

  -- what a pass along a path says of one more name
  abbrev pub by_name : Pass → Pass
  by_name (Reached path node) = inside node.content (next path)
  by_name (Onward path) = Onward (path ++ name ∷ [])
  by_name Missing = Missing
  by_name Blocked = Blocked

  end_by : (way : Path) (node : Node) (content : Content) → node.content ≡ content → past content (name ∷ []) (next way) ≡ by_name (at_last true way node content)
  end_by way node (File bytes time) is = sym (ap (λ c. inside c (next way)) is)
  end_by way node Dir is = sym (ap (λ c. inside c (next way)) is)
  end_by way node (Link target) is = refl

  last_by : (way : Path) (o : Option Node) → beyond o (name ∷ []) (next way) ≡ by_name (ending true way o)
  last_by way None = refl
  last_by way (Some node) = end_by way node node.content refl

  past_by : (names : Path) (content : Content) (f g : Pass) → f ≡ by_name g → past content (names ++ name ∷ []) f ≡ by_name (past content names g)
  past_by names (File bytes time) f g is = refl
  past_by names Dir f g is = is
  past_by names (Link target) f g is = ap Onward (sym (append_assoc target names (name ∷ [])))

  beyond_by : (names : Path) (o : Option Node) (f g : Pass) → f ≡ by_name g → beyond o (names ++ name ∷ []) f ≡ by_name (beyond o names g)
  beyond_by names None f g is = refl
  beyond_by names (Some node) f g is = past_by names node.content f g is

  pass_by : (way names : Path) → pass t true way (names ++ name ∷ []) ≡ by_name (pass t true way names)
  unfolding pass
  pass_by way [] = last_by way (node_at t way)
  pass_by way (x ∷ names) = beyond_by (x ∷ names) (node_at t way) (pass t true (way ++ x ∷ []) (names ++ name ∷ [])) (pass t true (way ++ x ∷ []) names) (pass_by (way ++ x ∷ []) names)

  -- ---- into a directory

  -- where the longer path leads, by what the directory says
  module _ (place : Place) (told : Result Place Refusal) (directory : place.node.content ≡ Dir)
      (says : (further : Path → Result Place Refusal) → arrives further (next place.path) ≡ told) where
    by_arrives : (f g : Path → Result Place Refusal) → ((path : Path) → g path ≡ Ok place → f (path ++ name ∷ []) ≡ told) → (p : Pass) → arrives g p ≡ Ok place
        → arrives f (by_name p) ≡ told
    by_arrives f g onward (Reached path node) is =
        let same : ◌≡◌ {A = Place} (record { path = path; node = node }) place = cc in
        subst (λ (k : Place). arrives f (inside k.node.content (next k.path)) ≡ told) (sym same) (ap (λ c. arrives f (inside c (next place.path))) directory ∙ says f)
    by_arrives f g onward (Onward path) is = onward path is
    by_arrives f g onward Missing is = absurd (cc)
    by_arrives f g onward Blocked is = absurd (cc)

    pub led_into : (links : ℕ) (front : Path) → followed_within links t true front ≡ Ok place → followed_within links t true (front ++ name ∷ []) ≡ told
    unfolding followed_within
    led_into zero front is =
        ap (arrives (λ _. Err LinkLoop)) (pass_by [] front) ∙ by_arrives (λ _. Err LinkLoop) (λ _. Err LinkLoop) (λ path refused. absurd (cc)) (pass t true [] front) is
    led_into (suc links) front is =
        ap (arrives (followed_within links t true)) (pass_by [] front)
        ∙ by_arrives (followed_within links t true) (followed_within links t true) (led_into links) (pass t true [] front) is

  -- ---- out of a directory

  -- a path leads to a directory in which the name stands for a node: that is what was found, or it is a link
  pub record IsIn (led : Result Place Refusal) (found : Place) : Type 0 where
    pub place : Place
    pub leads : led ≡ Ok place
    pub directory : place.node.content ≡ Dir
    pub node : Node
    pub at : node_at t (place.path ++ name ∷ []) ≡ Some node
    pub kind : (node ≡ found.node) ⊎ (is_link_content node.content ≡ true)

  module _ (f : Path → Result Place Refusal) (found : Place) where
    last_kind : (q : Path) (n : Node) (content : Content) → n.content ≡ content → arrives f (at_last true q n content) ≡ Ok found → (n ≡ found.node) ⊎ (is_link_content n.content ≡ true)
    last_kind q n (File bytes time) is led = let same : ◌≡◌ {A = Place} (record { path = q; node = n }) found = cc led in inl (ap (λ (k : Place). k.node) same)
    last_kind q n Dir is led = let same : ◌≡◌ {A = Place} (record { path = q; node = n }) found = cc led in inl (ap (λ (k : Place). k.node) same)
    last_kind q n (Link target) is led = inr (ap is_link_content is)

    in_node : (path : Path) (node : Node) → node.content ≡ Dir → (o : Option Node) → node_at t (path ++ name ∷ []) ≡ o → arrives f (ending true (path ++ name ∷ []) o) ≡ Ok found
        → IsIn (Ok (record { path = path; node = node })) found
    in_node path node directory None at led = absurd (cc led)
    in_node path node directory (Some n) at led =
        record { place = record { path = path; node = node }; leads = refl; directory = directory; node = n; at = at; kind = last_kind (path ++ name ∷ []) n n.content refl led }

    in_content : (path : Path) (node : Node) (content : Content) → node.content ≡ content → arrives f (inside content (next path)) ≡ Ok found → IsIn (Ok (record { path = path; node = node })) found
    in_content path node (File bytes time) is led = absurd (cc led)
    in_content path node Dir is led = in_node path node is (node_at t (path ++ name ∷ [])) refl led
    in_content path node (Link target) is led = absurd (cc led)

    out_by : (g : Path → Result Place Refusal) → ((path : Path) → f (path ++ name ∷ []) ≡ Ok found → IsIn (g path) found) → (p : Pass) → arrives f (by_name p) ≡ Ok found → IsIn (arrives g p) found
    out_by g more (Reached path node) led = in_content path node node.content refl led
    out_by g more (Onward path) led = more path led
    out_by g more Missing led = absurd (cc led)
    out_by g more Blocked led = absurd (cc led)

  pub led_out : (found : Place) (links : ℕ) (front : Path) → followed_within links t true (front ++ name ∷ []) ≡ Ok found → IsIn (followed_within links t true front) found
  unfolding followed_within
  led_out found zero front led =
      out_by (λ _. Err LinkLoop) found (λ _. Err LinkLoop) (λ path refused. absurd (cc refused)) (pass t true [] front) (ap (arrives (λ _. Err LinkLoop)) (sym (pass_by [] front)) ∙ led)
  led_out found (suc links) front led =
      out_by (followed_within links t true) found (followed_within links t true) (led_out found links) (pass t true [] front)
      (ap (arrives (followed_within links t true)) (sym (pass_by [] front)) ∙ led)

-- ---- a path, its last link followed or not

module _ (t : Tree) where
  -- the pass ends at a link that is followed, or is the same
  pub record EndsAtLink (followed unfollowed : Pass) : Type 0 where
    pub onward : Path
    pub path : Path
    pub node : Node
    pub goes : followed ≡ Onward onward
    pub ends : unfollowed ≡ Reached path node
    pub link : is_link_content node.content ≡ true

  abbrev pub Alike : Pass → Pass → Type 0
  Alike p q = (p ≡ q) ⊎ EndsAtLink p q

  last_alike : (way : Path) (n : Node) (content : Content) → n.content ≡ content → Alike (at_last true way n content) (at_last false way n content)
  last_alike way n (File bytes time) is = inl refl
  last_alike way n Dir is = inl refl
  last_alike way n (Link target) is = inr (record { onward = target; path = way; node = n; goes = refl; ends = refl; link = ap is_link_content is })

  ending_alike : (way : Path) (o : Option Node) → Alike (ending true way o) (ending false way o)
  ending_alike way None = inl refl
  ending_alike way (Some n) = last_alike way n n.content refl

  past_alike : (names : Path) (content : Content) (p q : Pass) → Alike p q → Alike (past content names p) (past content names q)
  past_alike names (File bytes time) p q alike = inl refl
  past_alike names Dir p q alike = alike
  past_alike names (Link target) p q alike = inl refl

  beyond_alike : (names : Path) (o : Option Node) (p q : Pass) → Alike p q → Alike (beyond o names p) (beyond o names q)
  beyond_alike names None p q alike = inl refl
  beyond_alike names (Some n) p q alike = past_alike names n.content p q alike

  pass_alike : (way names : Path) → Alike (pass t true way names) (pass t false way names)
  unfolding pass
  pass_alike way [] = ending_alike way (node_at t way)
  pass_alike way (name ∷ names) =
      beyond_alike (name ∷ names) (node_at t way) (pass t true (way ++ name ∷ []) names) (pass t false (way ++ name ∷ []) names) (pass_alike (way ++ name ∷ []) names)

  -- what a path leads to is shown without its last link followed too, or a link is
  abbrev pub IsShown : Result Place Refusal → Place → Type 0
  IsShown led place = (led ≡ Ok place) ⊎ ((q : Place) × (led ≡ Ok q) × (is_link_content q.node.content ≡ true))

  by_alike : (f g : Path → Result Place Refusal) (place : Place) → ((path : Path) → f path ≡ Ok place → IsShown (g path) place) → (p : Pass) → arrives f p ≡ Ok place → IsShown (arrives g p) place
  by_alike f g place more (Reached path node) led = inl led
  by_alike f g place more (Onward path) led = more path led
  by_alike f g place more Missing led = absurd (cc led)
  by_alike f g place more Blocked led = absurd (cc led)

  shown_by : (f g : Path → Result Place Refusal) (place : Place) → ((path : Path) → f path ≡ Ok place → IsShown (g path) place) → (p q : Pass) → Alike p q → arrives f p ≡ Ok place
      → IsShown (arrives g q) place
  shown_by f g place more p q (inl same) led = subst (λ (x : Pass). IsShown (arrives g x) place) same (by_alike f g place more p led)
  shown_by f g place more p q (inr at) led = inr (record { path = at.path; node = at.node }, ap (arrives g) at.ends, at.link)

  pub shown_unfollowed : (place : Place) (links : ℕ) (path : Path) → followed_within links t true path ≡ Ok place → IsShown (followed_within links t false path) place
  unfolding followed_within
  shown_unfollowed place zero path led =
      shown_by (λ _. Err LinkLoop) (λ _. Err LinkLoop) place (λ path refused. absurd (cc refused)) (pass t true [] path) (pass t false [] path) (pass_alike [] path) led
  shown_unfollowed place (suc links) path led =
      shown_by (followed_within links t true) (followed_within links t false) place (shown_unfollowed place links) (pass t true [] path) (pass t false [] path) (pass_alike [] path) led

  -- ---- what is no link is shown with its last link followed too

  plain_by : (f g : Path → Result Place Refusal) (place : Place) → ((path : Path) → g path ≡ Ok place → f path ≡ Ok place) → (p : Pass) → arrives g p ≡ Ok place → arrives f p ≡ Ok place
  plain_by f g place more (Reached path node) led = led
  plain_by f g place more (Onward path) led = more path led
  plain_by f g place more Missing led = absurd (cc led)
  plain_by f g place more Blocked led = absurd (cc led)

  followed_by : (f g : Path → Result Place Refusal) (place : Place) → is_link_content place.node.content ≡ false → ((path : Path) → g path ≡ Ok place → f path ≡ Ok place) → (p q : Pass) → Alike p q
      → arrives g q ≡ Ok place → arrives f p ≡ Ok place
  followed_by f g place plain more p q (inl same) led = subst (λ (x : Pass). arrives f x ≡ Ok place) (sym same) (plain_by f g place more q led)
  followed_by f g place plain more p q (inr at) led =
      let here : ◌≡◌ {A = Result Place Refusal} (Ok (record { path = at.path; node = at.node })) (Ok place) = ap (arrives g) (sym at.ends) ∙ led in
      let same : ◌≡◌ {A = Place} (record { path = at.path; node = at.node }) place = cc here in
      let both : true ≡ false = sym at.link ∙ ap (λ (k : Place). is_link_content k.node.content) same ∙ plain in
      absurd (cc both)

  pub followed_too : (place : Place) → is_link_content place.node.content ≡ false → (links : ℕ) (path : Path) → followed_within links t false path ≡ Ok place → followed_within links t true path ≡ Ok place
  unfolding followed_within
  followed_too place plain zero path led =
      followed_by (λ _. Err LinkLoop) (λ _. Err LinkLoop) place plain (λ path refused. absurd (cc refused)) (pass t true [] path) (pass t false [] path) (pass_alike [] path) led
  followed_too place plain (suc links) path led =
      followed_by (followed_within links t true) (followed_within links t false) place plain (followed_too place plain links) (pass t true [] path) (pass t false [] path) (pass_alike [] path) led
