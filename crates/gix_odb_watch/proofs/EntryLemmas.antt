-- Names at the end of paths, and what a directory has.
use Rattle.std.proofs.Common.{◌≡◌, true, [], ◌∷◌, ◌++◌, Some, sym, ap, refl, inl, inr, ℕ, zero, suc, false, cond, List, Option, None, Result, Ok, Err, unwrap_or, ◌∙◌, subst, append_assoc, ◌⊎◌}
use Rattle.std.specs.List.{starts_with}
use Rattle.std.proofs.lemmas.List.{append_cancel_left}
use Rattle.odb_base.specs.Path.{Name, Path, last_name, parent_of, same_name, path_cmp}
use Rattle.odb_base.specs.PathLaws.{goes_beyond, lies_below, parent_of-some}
use Rattle.gix_odb_watch.specs.Over.{moved}
use Rattle.std.specs.Result.{result_ok}
use Rattle.std.specs.Option.{option_map}
use Rattle.std.specs.Ordering.{eq_by_cmp}
use Rattle.std.specs.FinMap.{find}
use Rattle.odb_disk.specs.Tree.{Tree, node_at}
use Rattle.odb_disk.specs.Tree.Nodes.{entries_of, node_at-entries_of}
use Rattle.odb_disk.specs.Tree.Follow.{Pass, Reached, Onward, Missing, Blocked, pass, past, beyond, at_last, ending, Place, Refusal, LinkLoop, arrives, followed_within, followed, most_links, file_of_place, read_of}
use Rattle.odb_disk.specs.Entries.{entry_of, entry_in, entries_in, entries_at, entries_at_place, opened}
use Rattle.odb_disk.specs.declared.entry.Entry.{Entry}
use Rattle.odb_disk.specs.declared.node.Node.{Node}
use Rattle.odb_disk.specs.declared.node.Content.{Content}
use Rattle.odb_disk.specs.declared.node.Content.TheVariants.{File, Dir, Link}
use Rattle.odb_disk.proofs.TreeLemmas.{same_path}
use Rattle.odb_disk.proofs.TreeLemmas.Change.{name_in-push}
use Rattle.gix_odb_watch.specs.Files.{listed}
use Rattle.gix_odb_watch.specs.Sight.{HasName}
use Rattle.gix_odb_watch.specs.Kept.{IsIn}
use Rattle.gix_odb_watch.proofs.ListLemmas.{in_filter_map}
use Rattle.std.proofs.lemmas.Bool.{false≢true, or_cases}
use Rattle.odb_disk.specs.Tree.Way.{is_front_of_one, on_way, ways_onward, ways_within}
use Rattle.odb_disk.proofs.TreeLemmas.Follow.{followed_reached}
use Rattle.odb_mem_disk.specs.PassCalls.{onward_of}
use Rattle.gix_odb_watch.specs.Revealed.{IsLone, IsPlainPath}

-- ---- names

pub last_name-push : (path : Path) (name : Name) → last_name (path ++ name ∷ []) ≡ Some name
unfolding last_name
last_name-push [] name = refl
last_name-push (first ∷ []) name = refl
last_name-push (first ∷ other ∷ path) name = last_name-push (other ∷ path) name

pub begins_directory : (path directory : Path) → parent_of path ≡ Some directory → starts_with same_name path directory ≡ true
begins_directory path directory parent = let s = parent_of-some path directory parent in lies_below path directory (s.0 ∷ []) s.1

pub moved-rest : (from to rest : Path) → moved from to (from ++ rest) ≡ to ++ rest
moved-rest from to rest = ap (λ (r : Path). to ++ r) (append_cancel_left from _ rest (sym (goes_beyond (from ++ rest) from (lies_below (from ++ rest) from rest refl))))

-- ---- what a directory says of a name in it

module _ (t : Tree) (name : Name) where
  abbrev pub next : Path → Pass
  next way = ending true (way ++ name ∷ []) (node_at t (way ++ name ∷ []))

  -- a pass with links followed never reaches one
  abbrev pub inside : Content → Pass → Pass
  inside (File bytes time) further = Blocked
  inside Dir further = further
  inside (Link target) further = Blocked

  -- what a pass along a path says of one more name
  abbrev pub by_name : Pass → Pass
  by_name (Reached path node) = inside node.content (next path)
  by_name (Onward path) = Onward (path ++ name ∷ [])
  by_name Missing = Missing
  by_name Blocked = Blocked

  end_by : (way : Path) (node : Node) (content : Content) → node.content ≡ content → past content (name ∷ []) (next way) ≡ by_name (at_last true way node content)
  end_by way node (File bytes time) is = sym (ap (λ c. inside c (next way)) is)
  end_by way node Dir is = sym (ap (λ c. inside c (next way)) is)
  end_by way node (Link target) is = refl

  last_by : (way : Path) (o : Option Node) → beyond o (name ∷ []) (next way) ≡ by_name (ending true way o)
  last_by way None = refl
  last_by way (Some node) = end_by way node node.content refl

  past_by : (names : Path) (content : Content) (f g : Pass) → f ≡ by_name g → past content (names ++ name ∷ []) f ≡ by_name (past content names g)
  past_by names (File bytes time) f g is = refl
  past_by names Dir f g is = is
  past_by names (Link target) f g is = ap Onward (sym (append_assoc target names (name ∷ [])))

  beyond_by : (names : Path) (o : Option Node) (f g : Pass) → f ≡ by_name g → beyond o (names ++ name ∷ []) f ≡ by_name (beyond o names g)
  beyond_by names None f g is = refl
  beyond_by names (Some node) f g is = past_by names node.content f g is

  pub pass_by : (way names : Path) → pass t true way (names ++ name ∷ []) ≡ by_name (pass t true way names)
  unfolding pass
  pass_by way [] = last_by way (node_at t way)
  pass_by way (x ∷ names) = beyond_by (x ∷ names) (node_at t way) (pass t true (way ++ x ∷ []) (names ++ name ∷ [])) (pass t true (way ++ x ∷ []) names) (pass_by (way ++ x ∷ []) names)

  module _ (at_end : Place) where
    named_there : (f : Path → Result Place Refusal) (way : Path) (n : Node) → n.content ≡ Dir → (o : Option Node) → node_at t (way ++ name ∷ []) ≡ o
        → arrives f (ending true (way ++ name ∷ []) o) ≡ Ok at_end → HasName t name (Ok (record { path = way; node = n }))
    named_there f way n directory None at e = absurd (cc)
    named_there f way n directory (Some node) at e = record { place = record { path = way; node = n }; leads = refl; directory = directory; node = node; stands = at }

    reached_by : (f : Path → Result Place Refusal) (way : Path) (n : Node) (content : Content) → n.content ≡ content → arrives f (inside content (next way)) ≡ Ok at_end
        → HasName t name (Ok (record { path = way; node = n }))
    reached_by f way n (File bytes time) is e = absurd (cc)
    reached_by f way n Dir is e = named_there f way n is (node_at t (way ++ name ∷ [])) refl e
    reached_by f way n (Link target) is e = absurd (cc)

    arrived_by : (f g : Path → Result Place Refusal) (p : Pass) → ((x : Path) → f (x ++ name ∷ []) ≡ Ok at_end → HasName t name (g x)) → arrives f (by_name p) ≡ Ok at_end → HasName t name (arrives g p)
    arrived_by f g (Reached path node) onward e = reached_by f path node node.content refl e
    arrived_by f g (Onward path) onward e = onward path e
    arrived_by f g Missing onward e = absurd (cc)
    arrived_by f g Blocked onward e = absurd (cc)

    led_by : (links : ℕ) (front : Path) → followed_within links t true (front ++ name ∷ []) ≡ Ok at_end → HasName t name (followed_within links t true front)
    unfolding followed_within
    led_by zero front e = arrived_by (λ _. Err LinkLoop) (λ _. Err LinkLoop) (pass t true [] front) (λ x refused. absurd (cc)) (sym (ap (arrives (λ _. Err LinkLoop)) (pass_by [] front)) ∙ e)
    led_by (suc links) front e =
        arrived_by (followed_within links t true) (followed_within links t true) (pass t true [] front) (led_by links) (sym (ap (arrives (followed_within links t true)) (pass_by [] front)) ∙ e)

  led_to : (told : Result Place Refusal) (file : List ℕ × ℕ) → file_of_place told ≡ Ok file → (place : Place) × (told ≡ Ok place)
  led_to (Ok place) file e = (place, refl)
  led_to (Err refusal) file e = absurd (cc)

  -- what a read finds has a name in the directory where the path of its directory leads
  pub read_has_name : (front : Path) (file : List ℕ × ℕ) → read_of t (front ++ name ∷ []) ≡ Ok file → HasName t name (followed t true front)
  unfolding read_of
  read_has_name front file e = let l = led_to (followed t true (front ++ name ∷ [])) file e in led_by l.0 most_links front l.1

-- ---- the entries

found_in : (es : List (Path × Node)) (q : Path) (n : Node) → find path_cmp q es ≡ Some n → IsIn es (q, n)
found_in [] q n found = absurd (cc)
found_in (e ∷ es) q n found =
    elim (eq_by_cmp path_cmp q e.0) as (λ b. eq_by_cmp path_cmp q e.0 ≡ b → cond b (Some e.1) (find path_cmp q es) ≡ Some n → IsIn (e ∷ es) (q, n)) [
      | true ↦ λ tied is. let same : e.1 ≡ n = cc in inl (λ i. (sym (same_path q e.0 tied) i, same i))
      | false ↦ λ apart more. inr (found_in es q n more)
    ] refl found

module _ (t : Tree) (directory : Path) (name : Name) (n : Node) (stands : node_at t (directory ++ name ∷ []) ≡ Some n) where
  pub entry_listed : IsIn (entries_in t directory) (entry_of n name)
  unfolding entries_in
  entry_listed =
      in_filter_map (entry_in directory) (entries_of t) (directory ++ name ∷ [], n) (entry_of n name)
      (found_in (entries_of t) (directory ++ name ∷ []) n (sym (node_at-entries_of t (directory ++ name ∷ [])) ∙ stands))
      (ap (option_map (entry_of n)) (name_in-push directory name))

opens_there : (t : Tree) (front : Path) (name : Name) → (h : HasName t name (followed t true front)) → opened t front ≡ Ok (entries_in t h.place.path)
unfolding opened
opens_there t front name h = ap (entries_at_place t) h.leads ∙ ap (entries_at t h.place.path) h.directory

-- what a directory has is listed, links on the way to it followed
pub has_entry : (t : Tree) (front : Path) (name : Name) → (h : HasName t name (followed t true front)) → IsIn (listed t front) (entry_of h.node name)
has_entry t front name h =
    subst (λ (told : Result (List Entry) Refusal). IsIn (unwrap_or (result_ok told) []) (entry_of h.node name)) (sym (opens_there t front name h))
    (entry_listed t h.place.path name h.node h.stands)

none_onward : (further : Path → List Path) (p : Pass) → onward_of p ≡ None → ways_onward further p ≡ []
none_onward further (Reached path node) is = refl
none_onward further (Onward path) is = absurd (cc)
none_onward further Missing is = refl
none_onward further Blocked is = refl

-- ---- a path from which no link leads on

module _ (t : Tree) (path : Path) (lone : IsLone t path) where
  ways_alone : ways_within most_links t true path ≡ path ∷ []
  unfolding ways_within
  ways_alone = ap (λ (ways : List Path). path ∷ ways) (none_onward (ways_within 39 t true) (pass t true [] path) lone)

  -- only places that it begins with lie on its way
  pub plain_path : IsPlainPath t path
  unfolding on_way
  plain_path place on = elim (or_cases (starts_with same_name path place) false (sym (ap (λ (ways : List Path). is_front_of_one ways place) ways_alone) ∙ on)) [
    | inl is ↦ is
    | inr none ↦ absurd (false≢true none)
  ]

-- ---- a name in a directory of which this holds: nothing is there, or no link leads on from it

module _ (t : Tree) (directory : Path) (lone : IsLone t directory) (name : Name) where
  abbrev HasOrLone : Type 0
  HasOrLone = HasName t name (followed t true directory) ⊎ IsLone t (directory ++ name ∷ [])

  told_by : (p : Pass) → pass t true [] directory ≡ p → onward_of (by_name t name p) ≡ None → HasOrLone
  told_by p at none = inr (ap onward_of (pass_by t name [] directory ∙ ap (by_name t name) at) ∙ none)

  by_node : (way : Path) (n : Node) → pass t true [] directory ≡ Reached way n → n.content ≡ Dir → (o : Option Node) → node_at t (way ++ name ∷ []) ≡ o → HasOrLone
  by_node way n reached is None at = told_by (Reached way n) reached (ap (λ c. onward_of (inside t name c (next t name way))) is ∙ ap (λ o. onward_of (ending true (way ++ name ∷ []) o)) at)
  by_node way n reached is (Some node) at =
      inl (record { place = record { path = way; node = n }; leads = followed_reached t true directory most_links way n reached; directory = is; node = node; stands = at })

  by_content : (way : Path) (n : Node) → pass t true [] directory ≡ Reached way n → (content : Content) → n.content ≡ content → HasOrLone
  by_content way n reached (File bytes time) is = told_by (Reached way n) reached (ap (λ c. onward_of (inside t name c (next t name way))) is)
  by_content way n reached Dir is = by_node way n reached is (node_at t (way ++ name ∷ [])) refl
  by_content way n reached (Link target) is = told_by (Reached way n) reached (ap (λ c. onward_of (inside t name c (next t name way))) is)

  by_pass : (p : Pass) → pass t true [] directory ≡ p → onward_of p ≡ None → HasOrLone
  by_pass (Reached way n) at none = by_content way n at n.content refl
  by_pass (Onward onward) at none = absurd (cc)
  by_pass Missing at none = told_by Missing at refl
  by_pass Blocked at none = told_by Blocked at refl

  pub has_or_lone : HasOrLone
  has_or_lone = by_pass (pass t true [] directory) refl lone
