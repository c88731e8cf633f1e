-- Ways with a file on them: what else is on them, and that they lead to that file or nowhere.
use Rattle.std.proofs.Common.{◌≡◌, ◌≢◌, inl, inr, ℕ, zero, suc, Bool, true, false, ◌||◌, [], ◌∷◌, ◌++◌, length, drop, Some}
use Rattle.std.proofs.Common.{None, Result, Ok, Err, refl, sym, ap, ◌∙◌, subst, append_assoc, append-nil, arith}
use Rattle.std.proofs.lemmas.Bool.{false≢true, or_cases, or_left, or_right}
use Rattle.odb_base.specs.Path.{Name, Path}
use Rattle.odb_base.specs.PathLaws.{goes_beyond}
use Rattle.odb_disk.specs.Tree.{Tree, IsTree, node_at}
use Rattle.odb_disk.specs.Tree.Follow.{Pass, Reached, Onward, Missing, Blocked, arrives, at_last, ending, pass, Place, Refusal, WrongKind, followed_within}
use Rattle.odb_disk.specs.Tree.Change.{is_file_content}
use Rattle.odb_disk.specs.Tree.Way.{ways_onward, ways_within, is_front_of_one, is_link, is_link_content, on_way_within}
use Rattle.odb_disk.specs.declared.node.Node.{Node}
use Rattle.odb_disk.specs.declared.node.Content.{Content}
use Rattle.odb_disk.specs.declared.node.Content.TheVariants.{File, Dir, Link}
use Rattle.odb_disk.proofs.TreeLemmas.Follow.{IsDir-from, followed_blocked, followed_onward, followed_reached, pass_blocked, pass_from, pass_to_other, way_is_directory}
use Rattle.odb_disk.proofs.TreeLemmas.Moved.{begins, begins-own}
use Rattle.odb_disk.proofs.TreeLemmas.MovedTree.{file_no_directory, none_below}
use Rattle.odb_disk.proofs.WayLemmas.Alike.{outline, outline_pass, onward-outline, pass_alike}
use Rattle.odb_disk.proofs.WayLemmas.Further.{by_name, in_led, inside, next, pass_by}
use Rattle.odb_disk.proofs.WayLemmas.Spots.{file_no_link}
use Rattle.odb_disk.proofs.WayLemmas.Trod.{Trod, Passed, Last, Behind, behind, comes, pass_trod}
use Rattle.odb_disk.proofs.WayLemmas.Fronts.{fronts_of, front_or_whole}

-- ---- a file on a way

module _ (t : Tree) (is_tree : IsTree t) (stop : Path) (n : Node) (at : node_at t stop ≡ Some n) (file : is_file_content n.content ≡ true) where
  no_link : (content : Content) → is_file_content content ≡ true → (target : Path) → content ≢ Link target
  no_link content is target link = false≢true (sym (ap is_file_content link) ∙ is)

  -- a pass that reaches a file goes no further
  blocked_at : (content : Content) → n.content ≡ content → is_file_content content ≡ true → (follow : Bool) (name : Name) (names : Path) → pass t follow [] (stop ++ name ∷ names) ≡ Blocked
  blocked_at (File bytes time) is _ follow name names = pass_from t is_tree follow [] stop (name ∷ names) n at ∙ pass_blocked t follow stop (name ∷ names) n bytes time (omega arith) at is
  blocked_at Dir is other follow name names = absurd (false≢true other)
  blocked_at (Link target) is other follow name names = absurd (false≢true other)

  pub blocked : (follow : Bool) (name : Name) (names : Path) → pass t follow [] (stop ++ name ∷ names) ≡ Blocked
  blocked follow name names = blocked_at n.content refl file follow name names

  never_onward : (follow : Bool) (rest x : Path) → pass t follow [] (stop ++ rest) ≢ Onward x
  never_onward follow [] x is =
      let reached : pass t follow [] (stop ++ []) ≡ Reached stop n = ap (pass t follow []) (append-nil stop) ∙ pass_to_other t is_tree stop n at follow (no_link n.content file) in
      let both : Reached stop n ≡ Onward x = sym reached ∙ is in cc
  never_onward follow (name ∷ names) x is = let both : Blocked ≡ Onward x = sym (blocked follow name names) ∙ is in cc

  ends_here : (follow : Bool) (path x : Path) → begins path stop ≡ true → pass t follow [] path ≢ Onward x
  ends_here follow path x own is = never_onward follow (drop (length stop) path) x (ap (pass t follow []) (sym (goes_beyond path stop own)) ∙ is)

  -- the prefixes of a path along which the file is
  own_trod : (path q : Path) → begins path stop ≡ true → begins path q ≡ true → Trod t stop q
  own_trod path q own front = elim (fronts_of path stop q own front) [
    | inl shorter ↦ elim shorter.0 as (λ r. stop ≡ q ++ r → Trod t stop q) [
      | [] ↦ λ is. Last (sym (is ∙ append-nil q))
      | name ∷ names ↦ λ is. Passed (way_is_directory t is_tree q name names n (ap (node_at t) (sym is) ∙ at))
    ] shorter.1
    | inr longer ↦ subst (Trod t stop) (sym longer.2) (Behind (behind t is_tree true stop stop longer.0 longer.1 (file_no_directory t stop n at file)))
  ]

  -- the prefixes of a path that a link leads on from
  led_trod : (follow : Bool) (path x q : Path) → pass t follow [] path ≡ Onward x → begins path q ≡ true → Trod t stop q
  led_trod follow path x q led front =
      pass_trod t is_tree follow stop [] path q (drop (length q) path) (goes_beyond path q front) (ap comes led) (λ p m reached. let both : Onward x ≡ Reached p m = sym led ∙ reached in cc)

  -- what is on the way is a directory, a link, the file, or is in no directory
  pub stop_trod : (follow : Bool) (links : ℕ) (path : Path) → on_way_within links t follow path stop ≡ true → (q : Path) → on_way_within links t follow path q ≡ true → Trod t stop q
  unfolding ways_within
  stop_trod follow zero path on q front = elim (or_cases (begins path stop) false on) [
    | inl own ↦ elim (or_cases (begins path q) false front) [ inl here ↦ own_trod path q own here | inr none ↦ absurd (false≢true none) ]
    | inr none ↦ absurd (false≢true none)
  ]
  stop_trod follow (suc links) path on q front =
      let p = pass t follow [] path in
      elim (or_cases (begins path stop) (is_front_of_one (ways_onward (ways_within links t follow) p) stop) on) [
        | inl own ↦ elim (or_cases (begins path q) (is_front_of_one (ways_onward (ways_within links t follow) p) q) front) [
          | inl here ↦ own_trod path q own here
          | inr led ↦ let l = in_led (ways_within links t follow) p q led in absurd (ends_here follow path l.0 own l.1)
        ]
        | inr far ↦
            let f = in_led (ways_within links t follow) p stop far in
            elim (or_cases (begins path q) (is_front_of_one (ways_onward (ways_within links t follow) p) q) front) [
              | inl here ↦ led_trod follow path f.0 q f.1 here
              | inr led ↦ stop_trod follow links f.0 f.2 q (ap (λ r. is_front_of_one (ways_onward (ways_within links t follow) r) q) (sym f.1) ∙ led)
            ]
      ]

  -- no link is followed on the way of the file's own path
  plain_front : (q : Path) → begins stop q ≡ true → is_link (node_at t q) ≡ false
  plain_front q front = elim (fronts_of stop stop q (begins-own stop) front) [
    | inl shorter ↦ elim shorter.0 as (λ r. stop ≡ q ++ r → is_link (node_at t q) ≡ false) [
      | [] ↦ λ is. ap (λ p. is_link (node_at t p)) (sym (is ∙ append-nil q)) ∙ ap is_link at ∙ file_no_link n.content file
      | name ∷ names ↦ λ is. let d = IsDir-from t q (way_is_directory t is_tree q name names n (ap (node_at t) (sym is) ∙ at)) in ap is_link d.at ∙ ap is_link_content d.content
    ] shorter.1
    | inr longer ↦ ap (λ p. is_link (node_at t p)) longer.2 ∙ ap is_link (none_below t is_tree stop (file_no_directory t stop n at file) longer.0 longer.1)
  ]

  pub own_way_plain : (links : ℕ) (q : Path) → on_way_within links t true stop q ≡ true → is_link (node_at t q) ≡ false
  unfolding ways_within
  own_way_plain zero q on = elim (or_cases (begins stop q) false on) [ inl own ↦ plain_front q own | inr none ↦ absurd (false≢true none) ]
  own_way_plain (suc links) q on = elim (or_cases (begins stop q) (is_front_of_one (ways_onward (ways_within links t true) (pass t true [] stop)) q) on) [
    | inl own ↦ plain_front q own
    | inr led ↦ let l = in_led (ways_within links t true) (pass t true [] stop) q led in absurd (ends_here true stop l.0 (begins-own stop) l.1)
  ]

  -- a path goes no further than a file on the way of its directory
  some_left : (follow : Bool) (rest : Path) (name : Name) → pass t follow [] (stop ++ (rest ++ name ∷ [])) ≡ Blocked
  some_left follow [] name = blocked follow name []
  some_left follow (next ∷ rest) name = blocked follow next (rest ++ name ∷ [])

  stopped_own : (follow : Bool) (name : Name) (links : ℕ) (front : Path) → begins front stop ≡ true → followed_within links t follow (front ++ name ∷ []) ≡ Err WrongKind
  stopped_own follow name links front own =
      let rest = drop (length stop) front in
      let whole : front ++ name ∷ [] ≡ stop ++ (rest ++ name ∷ []) = ap (λ w. w ++ name ∷ []) (goes_beyond front stop own) ∙ append_assoc stop rest (name ∷ []) in
      followed_blocked t follow (front ++ name ∷ []) links (ap (pass t follow []) whole ∙ some_left follow rest name)

  pub stopped : (follow : Bool) (name : Name) (links : ℕ) (front : Path) → on_way_within links t true front stop ≡ true → followed_within links t follow (front ++ name ∷ []) ≡ Err WrongKind
  unfolding ways_within
  stopped follow name zero front on = elim (or_cases (begins front stop) false on) [ inl own ↦ stopped_own follow name 0 front own | inr none ↦ absurd (false≢true none) ]
  stopped follow name (suc links) front on =
      let p = pass t true [] front in
      elim (or_cases (begins front stop) (is_front_of_one (ways_onward (ways_within links t true) p) stop) on) [
        | inl own ↦ stopped_own follow name (suc links) front own
        | inr far ↦
            let f = in_led (ways_within links t true) p stop far in
            followed_onward t follow (front ++ name ∷ []) (suc links) links (f.0 ++ name ∷ []) refl (pass_by t name follow [] front ∙ ap (by_name t name follow) f.1)
            ∙ stopped follow name links f.0 f.2
      ]

-- ---- a link on the way of what is in a directory is on the way of the directory

module _ (t : Tree) (is_tree : IsTree t) (name : Name) (dir : Place) (n : Node) (at : node_at t (dir.path ++ name ∷ []) ≡ Some n) (file : is_file_content n.content ≡ true) where
  file_or_link : (q : Path) → q ≡ dir.path ++ name ∷ [] → is_link (node_at t q) ≢ true
  file_or_link q same link = false≢true (sym (ap (λ p. is_link (node_at t p)) same ∙ ap is_link at ∙ file_no_link n.content file) ∙ link)

  -- the directory of a node is where its own path leads
  own_directory : (links : ℕ) (front : Path) (m : Node) → followed_within links t true front ≡ Ok dir → node_at t (front ++ name ∷ []) ≡ Some m → dir.path ≡ front
  own_directory links front m leads there =
      let d = IsDir-from t front (is_tree.ways front name m there) in
      let reached = followed_reached t true front links front d.node (pass_to_other t is_tree front d.node d.at true (λ target link. let both : Dir ≡ Link target = sym d.content ∙ link in cc)) in
      path_of (record { path = front; node = d.node }) (sym leads ∙ reached)
    where
      path_of : (other : Place) → ◌≡◌ {A = Result Place Refusal} (Ok dir) (Ok other) → dir.path ≡ other.path
      path_of other same = let one : dir ≡ other = cc in ap (λ (k : Place). k.path) one

  link_stands : (q : Path) → is_link (node_at t q) ≡ true → (m : Node) × (node_at t q ≡ Some m)
  link_stands q link = elim (node_at t q) as (λ o. is_link o ≡ true → (m : Node) × (o ≡ Some m)) [ None ↦ λ no. absurd (false≢true no) | Some m ↦ λ _. (m, refl) ] link

  own_link : (links : ℕ) (front q : Path) → followed_within links t true front ≡ Ok dir → is_link (node_at t q) ≡ true → begins (front ++ name ∷ []) q ≡ true → begins front q ≡ true
  own_link links front q leads link own = elim (front_or_whole front name q own) [
    | inl here ↦ here
    | inr whole ↦
        let m = link_stands q link in
        let same = own_directory links front m.0 leads (ap (node_at t) (sym whole) ∙ m.1) in
        absurd (file_or_link q (whole ∙ ap (λ p. p ++ name ∷ []) (sym same)) link)
  ]

  file_stays : (way x : Path) (content : Content) → n.content ≡ content → is_file_content content ≡ true → at_last true way n n.content ≢ Onward x
  file_stays way x (File bytes time) is _ onward =
      let reached : at_last true way n n.content ≡ Reached way n = ap (at_last true way n) is in
      let both : Reached way n ≡ Onward x = sym reached ∙ onward in cc
  file_stays way x Dir is other onward = false≢true other
  file_stays way x (Link target) is other onward = false≢true other

  reached_no_link : (path : Path) (node : Node) (x : Path) (content : Content) → ◌≡◌ {A = Result Place Refusal} (Ok (record { path = path; node = node })) (Ok dir) → node.content ≡ content
      → by_name t name true (Reached path node) ≢ Onward x
  reached_no_link path node x (File bytes time) same is onward = let both : Blocked ≡ Onward x = sym (ap (λ c. inside t name c (next t name true path)) is) ∙ onward in cc
  reached_no_link path node x (Link target) same is onward = let both : Blocked ≡ Onward x = sym (ap (λ c. inside t name c (next t name true path)) is) ∙ onward in cc
  reached_no_link path node x Dir same is onward =
      let one : ◌≡◌ {A = Place} (record { path = path; node = node }) dir = cc in
      let here : path ≡ dir.path = ap (λ (k : Place). k.path) one in
      let stays : next t name true path ≡ ending true (path ++ name ∷ []) (Some n) = ap (ending true (path ++ name ∷ [])) (ap (λ p. node_at t (p ++ name ∷ [])) here ∙ at) in
      file_stays (path ++ name ∷ []) x n.content refl file (sym (ap (λ c. inside t name c (next t name true path)) is ∙ stays) ∙ onward)

  -- where the directory's pass leads on to, that of the longer path leads on with one more name
  onward_by : (links : ℕ) (x : Path) (p : Pass) → arrives (followed_within links t true) p ≡ Ok dir → by_name t name true p ≡ Onward x → (y : Path) × (p ≡ Onward y) × (x ≡ y ++ name ∷ [])
  onward_by links x (Reached path node) leads onward = absurd (reached_no_link path node x node.content leads refl onward)
  onward_by links x (Onward y) leads onward = (y, refl, cc)
  onward_by links x Missing leads onward = absurd (cc)
  onward_by links x Blocked leads onward = absurd (cc)

  pub link_on_front : (links : ℕ) (front q : Path) → followed_within links t true front ≡ Ok dir → is_link (node_at t q) ≡ true → on_way_within links t true (front ++ name ∷ []) q ≡ true
      → on_way_within links t true front q ≡ true
  unfolding ways_within followed_within
  link_on_front zero front q leads link on =
      elim (or_cases (begins (front ++ name ∷ []) q) false on) [ inl own ↦ or_left (begins front q) false (own_link 0 front q leads link own) | inr none ↦ absurd (false≢true none) ]
  link_on_front (suc links) front q leads link on =
      let p = pass t true [] front in
      let longer = pass t true [] (front ++ name ∷ []) in
      elim (or_cases (begins (front ++ name ∷ []) q) (is_front_of_one (ways_onward (ways_within links t true) longer) q) on) [
        | inl own ↦ or_left (begins front q) _ (own_link (suc links) front q leads link own)
        | inr led ↦
            let l = in_led (ways_within links t true) longer q led in
            let o = onward_by links l.0 p leads (sym (pass_by t name true [] front) ∙ l.1) in
            let further : followed_within links t true o.0 ≡ Ok dir = sym (ap (arrives (followed_within links t true)) o.1) ∙ leads in
            or_right (begins front q) (is_front_of_one (ways_onward (ways_within links t true) p) q)
            (ap (λ r. is_front_of_one (ways_onward (ways_within links t true) r) q) o.1
            ∙ link_on_front links o.0 q further link (ap (λ w. on_way_within links t true w q) (sym o.2) ∙ l.2))
      ]

-- ---- a way up to a place, in a tree that is alike before it

module _ (t u : Tree) (follow : Bool) (p : Path) where
  abbrev AlikeBefore : ℕ → Path → Type 0
  AlikeBefore links path = (q : Path) → on_way_within links t follow path q ≡ true → q ≢ p → outline (node_at u q) ≡ outline (node_at t q)

  pub still_reached : (links : ℕ) (path : Path) → AlikeBefore links path → on_way_within links t follow path p ≡ true → on_way_within links u follow path p ≡ true
  unfolding ways_within
  still_reached zero path alike on = on
  still_reached (suc links) path alike on = by_front (λ x. still_reached links x) (begins path p) refl
    where
      more : Tree → Bool
      more w = is_front_of_one (ways_onward (ways_within links w follow) (pass w follow [] path)) p

      by_front : ((x : Path) → AlikeBefore links x → on_way_within links t follow x p ≡ true → on_way_within links u follow x p ≡ true) → (own : Bool) → begins path p ≡ own
          → (begins path p || more u) ≡ true
      by_front further true own = or_left (begins path p) (more u) own
      by_front further false own = elim (or_cases (begins path p) (more t) on) [
        | inl here ↦ absurd (false≢true (sym own ∙ here))
        | inr led ↦
            let f = in_led (ways_within links t follow) (pass t follow [] path) p led in
            let here = λ (q : Path) (front : begins path q ≡ true). alike q (or_left (begins path q) _ front) (λ same. false≢true (sym own ∙ ap (begins path) (sym same) ∙ front)) in
            let onward : pass u follow [] path ≡ Onward f.0 = onward-outline (pass u follow [] path) f.0 (pass_alike t u follow path here [] path refl ∙ ap outline_pass f.1) in
            let rest : AlikeBefore links f.0 = λ q front apart. alike q (or_right (begins path q) _ (ap (λ r. is_front_of_one (ways_onward (ways_within links t follow) r) q) f.1 ∙ front)) apart in
            or_right (begins path p) (more u) (ap (λ r. is_front_of_one (ways_onward (ways_within links u follow) r) p) onward ∙ further f.0 rest f.2)
      ]
