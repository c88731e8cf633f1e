-- Which paths are on a way, and where a path with one more name leads.
use Rattle.std.proofs.Common.{◌≡◌, ◌⊎◌, inl, inr, ℕ, zero, suc, Bool, true, false, List, [], ◌∷◌, ◌++◌, length, drop, map}
use Rattle.std.proofs.Common.{Option, Some, None, Result, Ok, Err, refl, sym, ap, ◌∙◌, subst, append_assoc, append-nil}
use Rattle.std.proofs.lemmas.Bool.{false≢true, or_left, or_right, or_cases}
use Rattle.odb_base.specs.Path.{Name, Path}
use Rattle.odb_base.specs.PathLaws.{goes_beyond}
use Rattle.odb_disk.specs.Tree.{Tree, node_at}
use Rattle.odb_disk.specs.Tree.Follow.{Pass, Reached, Onward, Missing, Blocked, pass, past, beyond, at_last, ending, Place, Refusal, LinkLoop, arrives, followed_within}
use Rattle.odb_disk.specs.Tree.Way.{ways_onward, ways_within, is_front_of_one, on_way_within}
use Rattle.odb_disk.specs.declared.node.Node.{Node}
use Rattle.odb_disk.specs.declared.node.Content.{Content}
use Rattle.odb_disk.specs.declared.node.Content.TheVariants.{File, Dir, Link}
use Rattle.odb_disk.proofs.TreeLemmas.Moved.{begins, begins-own, begins-more}

-- ---- prefixes

begins_by : (way q s : Path) → begins way q ≡ true → begins q s ≡ true → begins way s ≡ true
begins_by way q s own front = ap (λ p. begins p s) (goes_beyond way q own) ∙ begins-more q s (drop (length q) way) front

-- a prefix of a prefix is one
pub front_of_front : (ways : List Path) (q s : Path) → begins q s ≡ true → is_front_of_one ways q ≡ true → is_front_of_one ways s ≡ true
front_of_front [] q s front on = absurd (false≢true on)
front_of_front (way ∷ ways) q s front on = elim (or_cases (begins way q) (is_front_of_one ways q) on) [
  | inl own ↦ or_left (begins way s) _ (begins_by way q s own front)
  | inr more ↦ or_right (begins way s) _ (front_of_front ways q s front more)
]

-- a prefix of a path is one of the path with one more name
pub front_of_more : (ways : List Path) (name : Name) (q : Path) → is_front_of_one ways q ≡ true → is_front_of_one (map (λ way. way ++ name ∷ []) ways) q ≡ true
front_of_more [] name q on = absurd (false≢true on)
front_of_more (way ∷ ways) name q on = elim (or_cases (begins way q) (is_front_of_one ways q) on) [
  | inl own ↦ or_left (begins (way ++ name ∷ []) q) _ (begins-more way q (name ∷ []) own)
  | inr more ↦ or_right (begins (way ++ name ∷ []) q) _ (front_of_more ways name q more)
]

-- a path is one of these
abbrev IsOne : List Path → Path → Type 0
IsOne [] p = ⊥
IsOne (way ∷ ways) p = (way ≡ p) ⊎ IsOne ways p

pub front_of_own : (ways : List Path) (p : Path) → IsOne ways p → is_front_of_one ways p ≡ true
front_of_own [] p one = absurd one
front_of_own (way ∷ ways) p (inl same) = or_left (begins way p) _ (ap (begins way) (sym same) ∙ begins-own way)
front_of_own (way ∷ ways) p (inr more) = or_right (begins way p) _ (front_of_own ways p more)

-- what is on the way after a pass is on the way that a link leads on to
pub in_led : (further : Path → List Path) (p : Pass) (q : Path) → is_front_of_one (ways_onward further p) q ≡ true → (path : Path) × (p ≡ Onward path) × (is_front_of_one (further path) q ≡ true)
in_led further (Reached path node) q on = absurd (false≢true on)
in_led further (Onward path) q on = (path, refl, on)
in_led further Missing q on = absurd (false≢true on)
in_led further Blocked q on = absurd (false≢true on)

-- ---- the place where a path leads is the last path of its way

module _ (t : Tree) (follow : Bool) (p : Path) (n : Node) where
  at_last_whole : (f : Bool) (way : Path) (node : Node) (content : Content) → at_last f way node content ≡ Reached p n → way ≡ p
  at_last_whole true way node (File bytes time) is = cc
  at_last_whole true way node Dir is = cc
  at_last_whole true way node (Link target) is = absurd (cc)
  at_last_whole false way node content is = cc

  ending_whole : (way : Path) (o : Option Node) → ending follow way o ≡ Reached p n → way ≡ p
  ending_whole way None is = absurd (cc)
  ending_whole way (Some node) is = at_last_whole follow way node node.content is

  past_whole : (content : Content) (names : Path) (further : Pass) → past content names further ≡ Reached p n → further ≡ Reached p n
  past_whole (File bytes time) names further is = absurd (cc)
  past_whole Dir names further is = is
  past_whole (Link target) names further is = absurd (cc)

  beyond_whole : (o : Option Node) (names : Path) (further : Pass) → beyond o names further ≡ Reached p n → further ≡ Reached p n
  beyond_whole None names further is = absurd (cc)
  beyond_whole (Some node) names further is = past_whole node.content names further is

  reached_whole : (way names : Path) → pass t follow way names ≡ Reached p n → way ++ names ≡ p
  unfolding pass
  reached_whole way [] is = append-nil way ∙ ending_whole way (node_at t way) is
  reached_whole way (name ∷ names) is =
      sym (append_assoc way (name ∷ []) names)
      ∙ reached_whole (way ++ name ∷ []) names (beyond_whole (node_at t way) (name ∷ names) (pass t follow (way ++ name ∷ []) names) is)

arrived_one : (further : Path → Result Place Refusal) (path : Path) (more : List Path) (place : Place) (p : Pass) → arrives further p ≡ Ok place
    → ((x : Path) (n : Node) → p ≡ Reached x n → path ≡ x) → ((x : Path) → p ≡ Onward x → further x ≡ Ok place → IsOne more place.path) → IsOne (path ∷ more) place.path
arrived_one further path more place (Reached x n) is whole next =
    let same : ◌≡◌ {A = Place} (record { path = x; node = n }) place = cc in inl (whole x n refl ∙ ap (λ (k : Place). k.path) same)
arrived_one further path more place (Onward x) is whole next = inr (next x refl is)
arrived_one further path more place Missing is whole next = absurd (cc)
arrived_one further path more place Blocked is whole next = absurd (cc)

pub ends_way : (t : Tree) (follow : Bool) (links : ℕ) (path : Path) (place : Place) → followed_within links t follow path ≡ Ok place → IsOne (ways_within links t follow path) place.path
unfolding followed_within ways_within
ends_way t follow zero path place is =
    arrived_one (λ _. Err LinkLoop) path [] place (pass t follow [] path) is (λ x n reached. reached_whole t follow x n [] path reached) (λ x onward refused. absurd (cc))
ends_way t follow (suc links) path place is =
    arrived_one (followed_within links t follow) path (ways_onward (ways_within links t follow) (pass t follow [] path)) place (pass t follow [] path) is
    (λ x n reached. reached_whole t follow x n [] path reached)
    (λ x onward led. subst (λ p. IsOne (ways_onward (ways_within links t follow) p) place.path) (sym onward) (ends_way t follow links x place led))

-- ---- the way of a path, its last link not followed, is on the way on which that is followed

no_link : (way : Path) (o : Option Node) (x : Path) → ending false way o ≡ Onward x → ⊥
no_link way None x is = cc
no_link way (Some node) x is = cc

past_onward : (content : Content) (names : Path) (f g : Pass) (x : Path) → (f ≡ Onward x → g ≡ Onward x) → past content names f ≡ Onward x → past content names g ≡ Onward x
past_onward (File bytes time) names f g x next is = is
past_onward Dir names f g x next is = next is
past_onward (Link target) names f g x next is = is

beyond_onward : (o : Option Node) (names : Path) (f g : Pass) (x : Path) → (f ≡ Onward x → g ≡ Onward x) → beyond o names f ≡ Onward x → beyond o names g ≡ Onward x
beyond_onward None names f g x next is = is
beyond_onward (Some node) names f g x next is = past_onward node.content names f g x next is

unfollowed_onward : (t : Tree) (way names x : Path) → pass t false way names ≡ Onward x → pass t true way names ≡ Onward x
unfolding pass
unfollowed_onward t way [] x is = absurd (no_link way (node_at t way) x is)
unfollowed_onward t way (name ∷ names) x is =
    beyond_onward (node_at t way) (name ∷ names) (pass t false (way ++ name ∷ []) names) (pass t true (way ++ name ∷ []) names) x (unfollowed_onward t (way ++ name ∷ []) names x) is

pub unfollowed_front : (t : Tree) (links : ℕ) (path q : Path) → on_way_within links t false path q ≡ true → on_way_within links t true path q ≡ true
unfolding ways_within
unfollowed_front t zero path q on = on
unfollowed_front t (suc links) path q on =
    let followed = ways_onward (ways_within links t true) (pass t true [] path) in
    elim (or_cases (begins path q) (is_front_of_one (ways_onward (ways_within links t false) (pass t false [] path)) q) on) [
      | inl own ↦ or_left (begins path q) (is_front_of_one followed q) own
      | inr led ↦
          let l = in_led (ways_within links t false) (pass t false [] path) q led in
          or_right (begins path q) (is_front_of_one followed q)
          (ap (λ p. is_front_of_one (ways_onward (ways_within links t true) p) q) (unfollowed_onward t [] path l.0 l.1) ∙ unfollowed_front t links l.0 q l.2)
    ]

-- ---- a path with one more name

module _ (t : Tree) (name : Name) where
  -- what a directory at a path says of one more name
  abbrev pub next : Bool → Path → Pass
  next follow path = ending follow (path ++ name ∷ []) (node_at t (path ++ name ∷ []))

  -- a pass with links followed never reaches one
  abbrev pub inside : Content → Pass → Pass
  inside (File bytes time) further = Blocked
  inside Dir further = further
  inside (Link target) further = Blocked

  -- what a pass along a path says of one more name
  abbrev pub by_name : Bool → Pass → Pass
  by_name follow (Reached path node) = inside node.content (next follow path)
  by_name follow (Onward path) = Onward (path ++ name ∷ [])
  by_name follow Missing = Missing
  by_name follow Blocked = Blocked

  end_by : (follow : Bool) (way : Path) (node : Node) (content : Content) → node.content ≡ content → past content (name ∷ []) (next follow way) ≡ by_name follow (at_last true way node content)
  end_by follow way node (File bytes time) is = sym (ap (λ c. inside c (next follow way)) is)
  end_by follow way node Dir is = sym (ap (λ c. inside c (next follow way)) is)
  end_by follow way node (Link target) is = refl

  last_by : (follow : Bool) (way : Path) (o : Option Node) → beyond o (name ∷ []) (next follow way) ≡ by_name follow (ending true way o)
  last_by follow way None = refl
  last_by follow way (Some node) = end_by follow way node node.content refl

  past_by : (follow : Bool) (names : Path) (content : Content) (f g : Pass) → f ≡ by_name follow g → past content (names ++ name ∷ []) f ≡ by_name follow (past content names g)
  past_by follow names (File bytes time) f g is = refl
  past_by follow names Dir f g is = is
  past_by follow names (Link target) f g is = ap Onward (sym (append_assoc target names (name ∷ [])))

  beyond_by : (follow : Bool) (names : Path) (o : Option Node) (f g : Pass) → f ≡ by_name follow g → beyond o (names ++ name ∷ []) f ≡ by_name follow (beyond o names g)
  beyond_by follow names None f g is = refl
  beyond_by follow names (Some node) f g is = past_by follow names node.content f g is

  pub pass_by : (follow : Bool) (way names : Path) → pass t follow way (names ++ name ∷ []) ≡ by_name follow (pass t true way names)
  unfolding pass
  pass_by follow way [] = last_by follow way (node_at t way)
  pass_by follow way (x ∷ names) =
      beyond_by follow (x ∷ names) (node_at t way) (pass t follow (way ++ x ∷ []) (names ++ name ∷ [])) (pass t true (way ++ x ∷ []) names) (pass_by follow (way ++ x ∷ []) names)

  -- the way of the longer path
  none_led : (further : Path → List Path) (content : Content) (way : Path) (o : Option Node) → ways_onward further (inside content (ending false way o)) ≡ []
  none_led further (File bytes time) way o = refl
  none_led further Dir way None = refl
  none_led further Dir way (Some node) = refl
  none_led further (Link target) way o = refl

  led_by : (f g : Path → List Path) → ((path : Path) → f (path ++ name ∷ []) ≡ map (λ way. way ++ name ∷ []) (g path)) → (p : Pass)
      → ways_onward f (by_name false p) ≡ map (λ way. way ++ name ∷ []) (ways_onward g p)
  led_by f g same (Reached path node) = none_led f node.content (path ++ name ∷ []) (node_at t (path ++ name ∷ []))
  led_by f g same (Onward path) = same path
  led_by f g same Missing = refl
  led_by f g same Blocked = refl

  pub ways_by : (links : ℕ) (front : Path) → ways_within links t false (front ++ name ∷ []) ≡ map (λ way. way ++ name ∷ []) (ways_within links t true front)
  unfolding ways_within
  ways_by zero front = refl
  ways_by (suc links) front =
      let f = ways_within links t false in
      ap (λ more. (front ++ name ∷ []) ∷ more) (ap (ways_onward f) (pass_by false [] front) ∙ led_by f (ways_within links t true) (ways_by links) (pass t true [] front))

  -- where the longer path leads, by what the directory says
  module _ (follow : Bool) (place : Place) (told : Result Place Refusal) (directory : place.node.content ≡ Dir)
      (says : (further : Path → Result Place Refusal) → arrives further (next follow place.path) ≡ told) where
    by_arrives : (f g : Path → Result Place Refusal) → ((path : Path) → g path ≡ Ok place → f (path ++ name ∷ []) ≡ told) → (p : Pass) → arrives g p ≡ Ok place → arrives f (by_name follow p) ≡ told
    by_arrives f g onward (Reached path node) is =
        let same : ◌≡◌ {A = Place} (record { path = path; node = node }) place = cc in
        subst (λ (k : Place). arrives f (inside k.node.content (next follow k.path)) ≡ told) (sym same) (ap (λ c. arrives f (inside c (next follow place.path))) directory ∙ says f)
    by_arrives f g onward (Onward path) is = onward path is
    by_arrives f g onward Missing is = absurd (cc)
    by_arrives f g onward Blocked is = absurd (cc)

    pub followed_by : (links : ℕ) (front : Path) → followed_within links t true front ≡ Ok place → followed_within links t follow (front ++ name ∷ []) ≡ told
    unfolding followed_within
    followed_by zero front is =
        ap (arrives (λ _. Err LinkLoop)) (pass_by follow [] front) ∙ by_arrives (λ _. Err LinkLoop) (λ _. Err LinkLoop) (λ path refused. absurd (cc)) (pass t true [] front) is
    followed_by (suc links) front is =
        ap (arrives (followed_within links t follow)) (pass_by follow [] front)
        ∙ by_arrives (followed_within links t follow) (followed_within links t true) (followed_by links) (pass t true [] front) is
