-- Where a path leads in the tree after a change, and what a directory has there.
use Rattle.std.proofs.Common.{◌≡◌, ◌⊎◌, inl, inr, ℕ, ◌<◌, Bool, true, false, List, [], ◌∷◌, ◌++◌, map, append-nil, append_assoc, Option, Some, None, Result, Ok, Err, if◌then◌else◌, drop, length, refl, sym, ap, ◌∙◌, subst, arith}
use lib.Pointwise.{pointwise, pointwise_decides}
use Rattle.std.specs.Option.{option_map, option_to_list}
use Rattle.std.specs.Result.{result_ok}
use Rattle.std.specs.Cmp.Lexicographic.{bytes_decides}
use Rattle.std.proofs.lemmas.Bool.{false≢true}
use Rattle.std.proofs.lemmas.List.{length-append}
use Rattle.odb_base.specs.Path.{Name, Path, parent_of, same_name}
use Rattle.odb_base.specs.PathLaws.{goes_beyond, parent_of-nothing, parent_of-push, parent_of-some}
use Rattle.odb_disk.specs.Tree.{IsTree, Tree, is_directory, node_at}
use Rattle.odb_disk.specs.Tree.Follow.{Pass, Reached, Missing, Blocked, Place, Refusal, Absent, WrongKind, LinkLoop, at_last, file_of, file_of_place, followed, followed_within, most_links, pass, read_of}
use Rattle.odb_disk.specs.Tree.Follow as following
use Rattle.odb_disk.specs.Entries.{entry_of}
use Rattle.odb_disk.specs.declared.entry.Entry.{Entry}
use Rattle.odb_disk.specs.declared.node.Content.{Content}
use Rattle.odb_disk.specs.declared.node.Content.TheVariants.{File, Dir, Link}
use Rattle.odb_disk.specs.declared.node.Node.{Node}
use Rattle.odb_disk.proofs.TreeLemmas.Follow.{IsDir-from, followed_blocked, followed_loop, followed_missing, followed_reached, pass_to, pass_to_other}
use Rattle.odb_disk.proofs.TreeLemmas.Moved.{begins, begins-append, begins-more}
use Rattle.gix_odb_watch.specs.Files.{listed, listed_paths}
use Rattle.gix_odb_watch.specs.Kept.{IsIn}
use Rattle.gix_odb_watch.specs.Over.{IsLaid, content_at, laid_over, moved, origin_of, place_put}
use Rattle.gix_odb_watch.specs.Sight.{ArePathsIn, HasName, IsFound, put_path}
use Rattle.gix_odb_watch.specs.declared.over.Over.{Over}
use Rattle.gix_odb_watch.specs.declared.over.Over.TheVariants.{Nothing, At, Moved}
use Rattle.gix_odb_watch.proofs.EntryLemmas.{by_name, has_entry, inside, moved-rest, next, pass_by}
use Rattle.gix_odb_watch.proofs.ListLemmas.{in_either, in_left, in_map, in_right, of_map}

-- ---- what is at a path

-- the node of contents
pub node_there : (o : Option Node) (content : Content) → Some content ≡ option_map (λ (n : Node). n.content) o → (node : Node) × (o ≡ Some node) × (node.content ≡ content)
node_there None content is = absurd (cc)
node_there (Some node) content is = let same : node.content ≡ content = cc in (node, refl, same)

none_there : (o : Option Node) → None ≡ option_map (λ (n : Node). n.content) o → o ≡ None
none_there None is = refl
none_there (Some node) is = absurd (cc)

-- the directory of a path has fewer names
pub shorter_directory : (path directory : Path) → parent_of path ≡ Some directory → length directory < length path
shorter_directory path directory parent =
    let s = parent_of-some path directory parent in omega (arith, ap length s.1, length-append directory (s.0 ∷ []))

-- ---- the end of a pass

module _ (u : Tree) (is_tree : IsTree u) (path : Path) where
  pub there_end : (content : Content) → Some content ≡ content_at u path → (node : Node) × (node.content ≡ content) × (pass u true [] path ≡ at_last true path node content)
  there_end content is =
      let n = node_there (node_at u path) content is in (n.0, n.2, pass_to u is_tree true [] path n.0 n.1 ∙ ap (at_last true path n.0) n.2)

  -- nothing is there: its directory says where the pass ends
  module _ (none : None ≡ content_at u path) (directory : Path) (parent : parent_of path ≡ Some directory) where
    abbrev name : Name
    name = (parent_of-some path directory parent).0

    whole : path ≡ directory ++ name ∷ []
    whole = (parent_of-some path directory parent).1

    by_directory : (p : Pass) → pass u true [] directory ≡ p → pass u true [] path ≡ by_name u name p
    by_directory p is = ap (pass u true []) whole ∙ pass_by u name [] directory ∙ ap (by_name u name) is

    pub onward_end : (onward : Path) → pass u true [] directory ≡ following.Onward onward → pass u true [] path ≡ following.Onward (moved directory onward path)
    onward_end onward is =
        by_directory (following.Onward onward) is
        ∙ ap following.Onward (sym (ap (moved directory onward) whole ∙ moved-rest directory onward (name ∷ [])))

    ends_nowhere : (content : Content) → (inside u name content (next u name directory) ≡ Missing) ⊎ (inside u name content (next u name directory) ≡ Blocked)
    ends_nowhere (File bytes time) = inr refl
    ends_nowhere Dir = inl (ap (following.ending true (directory ++ name ∷ [])) (ap (node_at u) (sym whole) ∙ none_there (node_at u path) none))
    ends_nowhere (Link target) = inr refl

    pub reached_end : (node : Node) → pass u true [] directory ≡ Reached directory node → (pass u true [] path ≡ Missing) ⊎ (pass u true [] path ≡ Blocked)
    reached_end node is = elim (ends_nowhere node.content) [
      | inl missing ↦ inl (by_directory (Reached directory node) is ∙ missing)
      | inr blocked ↦ inr (by_directory (Reached directory node) is ∙ blocked)
    ]

    pub nowhere_end : (pass u true [] directory ≡ Missing) ⊎ (pass u true [] directory ≡ Blocked) → (pass u true [] path ≡ Missing) ⊎ (pass u true [] path ≡ Blocked)
    nowhere_end (inl missing) = inl (by_directory Missing missing)
    nowhere_end (inr blocked) = inr (by_directory Blocked blocked)

  -- something is at the root
  pub root_end : None ≡ content_at u path → parent_of path ≡ None → ⊥
  root_end none parent =
      let root : node_at u [] ≡ None = ap (node_at u) (sym (parent_of-nothing path parent)) ∙ none_there (node_at u path) none in
      false≢true (sym (ap is_directory root) ∙ is_tree.root)

-- ---- what a path leads to

module _ (u : Tree) (path : Path) (links : ℕ) where
  pub end_nowhere : (pass u true [] path ≡ Missing) ⊎ (pass u true [] path ≡ Blocked) → IsFound (followed_within links u true path) None
  end_nowhere (inl missing) = (Absent, followed_missing u true path links missing)
  end_nowhere (inr blocked) = (WrongKind, followed_blocked u true path links blocked)

  pub end_loop : links ≡ 0 → (onward : Path) → pass u true [] path ≡ following.Onward onward → IsFound (followed_within links u true path) None
  end_loop none onward is = (LinkLoop, ap (λ (n : ℕ). followed_within n u true path) none ∙ followed_loop u true path onward is)

-- what is read where a path leads
pub found_read : (u : Tree) (path place : Path) (node : Node) → followed u true path ≡ Ok (record { path = place; node = node }) → (content : Content) → node.content ≡ content
    → result_ok (file_of content) ≡ result_ok (read_of u path)
unfolding read_of
found_read u path place node is content has = sym (ap (λ (r : Result Place Refusal). result_ok (file_of_place r)) is ∙ ap (λ (c : Content). result_ok (file_of c)) has)

pub refused_read : (u : Tree) (path : Path) (refusal : Refusal) → followed u true path ≡ Err refusal → None ≡ result_ok (read_of u path)
unfolding read_of
refused_read u path refusal is = sym (ap (λ (r : Result Place Refusal). result_ok (file_of_place r)) is)

-- ---- what a directory has

module _ (t : Tree) (is_tree : IsTree t) (directory : Path) (name : Name) where
  -- what is in a directory before the change is listed there
  was_listed : (place : Path) (content : Content) → Some content ≡ content_at t (place ++ name ∷ []) → IsIn (listed_paths t place directory) (directory ++ name ∷ [])
  was_listed place content is =
      let n = node_there (node_at t (place ++ name ∷ [])) content is in
      let d = IsDir-from t place (is_tree.ways place name n.0 n.1) in
      let reached = pass_to_other t is_tree place d.node d.at true (λ target link. let both : Dir ≡ Link target = sym d.content ∙ link in cc) in
      let h : HasName t name (followed t true place) =
      record { place = record { path = place; node = d.node }; leads = followed_reached t true place most_links place d.node reached; directory = d.content; node = n.0; stands = n.1 } in
      in_map (λ (entry : Entry). directory ++ entry.name ∷ []) (listed t place) (entry_of n.0 name) (has_entry t place name h)

  -- and what the change puts there has the name of its place
  put_listed : (place last : Path) → last ++ name ∷ [] ≡ place → IsIn (put_path directory (Some place)) (directory ++ name ∷ [])
  put_listed place last is =
      subst (λ (p : Path). IsIn (put_path directory (Some p)) (directory ++ name ∷ [])) is
      (subst (λ (o : Option Path). IsIn (map (λ (front : Path). moved front directory (last ++ name ∷ [])) (option_to_list o)) (directory ++ name ∷ [])) (sym (parent_of-push last name))
      (inl (moved-rest last directory (name ∷ []))))

  abbrev IsThere : Over → Path → Type 0
  IsThere over place = IsIn (listed_paths t (origin_of over place) directory) (directory ++ name ∷ []) ⊎ IsIn (put_path directory (place_put over)) (directory ++ name ∷ [])

  at_there : (place last : Path) (put : Option Content) (content : Content) → Some content ≡ laid_over (content_at t) (At place put) (last ++ name ∷ []) → IsThere (At place put) last
  at_there place last put content is = by (pointwise same_name (last ++ name ∷ []) place) refl is
    where
      by : (b : Bool) → pointwise same_name (last ++ name ∷ []) place ≡ b → Some content ≡ (if b then put else content_at t (last ++ name ∷ [])) → IsThere (At place put) last
      by true own has = inr (put_listed place last ((pointwise_decides bytes_decides (last ++ name ∷ []) place).0 own))
      by false apart has = inl (was_listed last content has)

  -- what begins with the target of a move, in a directory that doesn't, is the target
  target_is : (last to : Path) → begins last to ≡ false → (rest : Path) → last ++ name ∷ [] ≡ to ++ rest → (front : Option Path) → parent_of rest ≡ front → last ++ name ∷ [] ≡ to
  target_is last to outside rest is None parent = is ∙ ap (λ (r : Path). to ++ r) (parent_of-nothing rest parent) ∙ append-nil to
  target_is last to outside rest is (Some front) parent =
      let s = parent_of-some rest front parent in
      let split : last ++ name ∷ [] ≡ (to ++ front) ++ s.0 ∷ [] = is ∙ ap (λ (r : Path). to ++ r) s.1 ∙ sym (append_assoc to front (s.0 ∷ [])) in
      let both : Some last ≡ Some (to ++ front) = sym (parent_of-push last name) ∙ ap parent_of split ∙ parent_of-push (to ++ front) s.0 in
      let own : last ≡ to ++ front = cc in
      absurd (false≢true (sym outside ∙ ap (λ (p : Path). begins p to) own ∙ begins-append to front))

  module _ (from to last : Path) (content : Content) where
    abbrev own : Path
    own = last ++ name ∷ []

    -- below the target it was below the source
    deeper : begins last to ≡ true → moved to from own ≡ moved to from last ++ name ∷ []
    deeper inside =
        let rest = drop (length to) last in
        ap (moved to from) (ap (λ (p : Path). p ++ name ∷ []) (goes_beyond last to inside) ∙ append_assoc to rest (name ∷ [])) ∙ moved-rest to from (rest ++ name ∷ [])
        ∙ sym (append_assoc from rest (name ∷ []))

    moved_there : Some content ≡ laid_over (content_at t) (Moved from to) own → IsThere (Moved from to) last
    moved_there is = by (begins last to) (begins own to) (begins own from) refl refl is
      where
        by : (a b c : Bool) → begins last to ≡ a → begins own to ≡ b → Some content ≡ (if b then content_at t (moved to from own) else (if c then None else content_at t own))
            → IsIn (listed_paths t (if a then moved to from last else last) directory) (directory ++ name ∷ []) ⊎ IsIn (put_path directory (Some to)) (directory ++ name ∷ [])
        by true true c inside below has = inl (was_listed (moved to from last) content (subst (λ (p : Path). Some content ≡ content_at t p) (deeper inside) has))
        by true false c inside outside has = absurd (false≢true (sym outside ∙ begins-more last to (name ∷ []) inside))
        by false true c outside below has = inr (put_listed to last (target_is last to outside (drop (length to) own) (goes_beyond own to below) (parent_of (drop (length to) own)) refl))
        by false false true outside apart has = absurd (cc)
        by false false false outside apart has = inl (was_listed last content has)

  there : (over : Over) (last : Path) (content : Content) → Some content ≡ laid_over (content_at t) over (last ++ name ∷ []) → IsThere over last
  there Nothing last content is = inl (was_listed last content is)
  there (At place put) last content is = at_there place last put content is
  there (Moved from to) last content is = moved_there from to last content is

-- ---- the paths that are found

put_one : (directory : Path) (o : Option Path) (path : Path) → IsIn (put_path directory o) path → (name : Name) × (path ≡ directory ++ name ∷ [])
put_one directory None path one = absurd one
put_one directory (Some place) path one = by (parent_of place) refl one
  where
    by : (o : Option Path) → parent_of place ≡ o → IsIn (map (λ (front : Path). moved front directory place) (option_to_list o)) path → (name : Name) × (path ≡ directory ++ name ∷ [])
    by None root none = absurd none
    by (Some front) parent (inl same) = let s = parent_of-some place front parent in (s.0, sym same ∙ ap (moved front directory) s.1 ∙ moved-rest front directory (s.0 ∷ []))
    by (Some front) parent (inr none) = absurd none

module _ (t u : Tree) (over : Over) (laid : IsLaid t over u) (directory place : Path) (node : Node) (leads : followed u true directory ≡ Ok (record { path = place; node = node })) where
  abbrev listed_there : List Path
  listed_there = listed_paths t (origin_of over place) directory

  abbrev put_there : List Path
  put_there = put_path directory (place_put over)

  only_found : (path : Path) → IsIn (listed_there ++ put_there) path → (name : Name) × (path ≡ directory ++ name ∷ [])
  only_found path one = elim (in_either listed_there put_there path one) [
    | inl listed_one ↦ let o = of_map (λ (entry : Entry). directory ++ entry.name ∷ []) (listed t (origin_of over place)) path listed_one in (o.0.name, sym o.2)
    | inr put ↦ put_one directory (place_put over) path put
  ]

  all_found : (name : Name) → HasName u name (followed u true directory) → IsIn (listed_there ++ put_there) (directory ++ name ∷ [])
  all_found name h =
      let both : ◌≡◌ {A = Result Place Refusal} (Ok h.place) (Ok (record { path = place; node = node })) = sym h.leads ∙ leads in
      let same : ◌≡◌ {A = Place} h.place (record { path = place; node = node }) = cc in
      let stands : node_at u (place ++ name ∷ []) ≡ Some h.node = ap (λ (p : Place). node_at u (p.path ++ name ∷ [])) (sym same) ∙ h.stands in
      elim (there t laid.was_tree directory name over place h.node.content (sym (ap (option_map (λ (n : Node). n.content)) stands) ∙ laid.content (place ++ name ∷ []))) [
        | inl listed_one ↦ in_left listed_there put_there (directory ++ name ∷ []) listed_one
        | inr put ↦ in_right listed_there put_there (directory ++ name ∷ []) put
      ]

  pub found_paths : (paths : List Path) → paths ≡ listed_there ++ put_there → ArePathsIn u directory paths
  found_paths paths are = subst (ArePathsIn u directory) (sym are) (record { whole = all_found; only = only_found })

pub refused_paths : (u : Tree) (directory : Path) (refusal : Refusal) → followed u true directory ≡ Err refusal → (paths : List Path) → paths ≡ [] → ArePathsIn u directory paths
refused_paths u directory refusal is paths none = record {
  whole = λ name h. let both : ◌≡◌ {A = Result Place Refusal} (Ok h.place) (Err refusal) = sym h.leads ∙ is in absurd (cc);
  only = λ path one. absurd (subst (λ (l : List Path). IsIn l path) none one);
}
