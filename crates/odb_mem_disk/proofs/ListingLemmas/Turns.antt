-- The turns of a listing.
use Rattle.std.proofs.Common.{◌≡◌, true, false, List, [], ◌∷◌, ◌++◌, length, drop, map, Option, Some, None, IsSome, IfSome, T, refl, sym, ap, subst, ◌∙◌, append-nil, append_assoc}
use Rattle.std.specs.Option.{option_map}
use Rattle.std.specs.Ordering.{is_gt, ordering_then}
use Rattle.std.specs.declared.cmp.Ordering.TheVariants.{Less}
use Rattle.std.specs.Cmp.{tied_itself, nat_cmp_total}
use Rattle.std.specs.Cmp.Lexicographic.{nat_list_cmp_total}
use Rattle.std.specs.FinMap.Entries.{below_all}
use Rattle.std.specs.List.{cons_option, filter_map, starts_with}
use Rattle.std.specs.List.Sorted.{IsStrictlySortedBy}
use Rattle.std.proofs.lemmas.Option.{same_Some}
use Rattle.odb_base.specs.Path.{Name, Path, name_cmp, path_cmp, same_name, parent_of, last_name}
use Rattle.odb_base.specs.PathLaws.{path_order, goes_beyond, parent_of-some}
use Rattle.odb_disk.specs.Tree.{Tree, tree_of_entries, name_in}
use Rattle.odb_disk.specs.Tree.Nodes.{entries_of, entries_of-sorted, node_at-entries_of}
use Rattle.odb_disk.specs.Entries.{entry_of, entry_in, entries_in}
use Rattle.odb_mem_disk.specs.Listing.{GoesTo, entries_after}
use Rattle.odb_disk.specs.declared.entry.Entry.{Entry}
use Rattle.odb_disk.specs.declared.node.Node.{Node}
use Rattle.odb_disk.proofs.TreeLemmas.Moved.{begins-own, begins-append, begins-more}
use Rattle.odb_mem_disk.proofs.TreeMovesLemmas.{under_before}
use Rattle.odb_mem_disk.proofs.EntriesLemmas.{Nodes, behind, entries_among, entries_behind, name_in-below}
use Rattle.odb_mem_disk.proofs.ListingLemmas.Behind.{first, is_sorted-from, entries_of-tree, below_all-behind, first_later, first_found, behind_first, skipped, no_entry_after, none_after}

-- ---- the turns of a listing

-- the entries up to a path are listed
pub record IsListedTo (t : Tree) (directory last : Path) (so_far : List Entry) : Type 0 where
  pub whole : so_far ++ entries_among directory (behind last (entries_of t)) ≡ entries_in t directory
  pub below : starts_with same_name last directory ≡ true

pub none_listed : (t : Tree) (directory : Path) (none : List Entry) → none ≡ [] → IsListedTo t directory directory none
unfolding entries_in
none_listed t directory none empty = record {
  whole = ap (λ xs. xs ++ entries_among directory (behind directory (entries_of t))) empty ∙ entries_behind directory (entries_of t);
  below = begins-own directory;
}

module _ (t : Tree) (directory last : Path) (so_far : List Entry) (listed : IsListedTo t directory last so_far) (now : List Entry) where
  -- what is below the last entry is passed
  pub passed_on : (path to : Path) → GoesTo t directory last path so_far now → starts_with same_name to path ≡ true → IsListedTo t directory to now
  passed_on path to went begins =
      let past = skipped directory path to went.below (under_before directory last path listed.below went.behind) begins (entries_of t) in
      record {
        whole = ap (λ xs. now ++ xs) (sym past) ∙ went.listed ∙ listed.whole;
        below = subst (λ q. starts_with same_name q directory ≡ true) (sym (goes_beyond to path begins)) (begins-more path directory (drop (length path) to) went.below);
      }

-- ---- a part of a listing, without a step aside

-- A listing that began after a path: the entries so far, the path at which it may stop, and the nodes that are left.
pub record IsUnderWay (t : Tree) (directory from : Path) (old now : List Entry) (stop : Option Path) (left : Nodes) : Type 0 where
  pub at : Path
  pub left_is : left ≡ behind at (entries_of t)
  pub order : (q : Path) → path_cmp at q ≡ Less → path_cmp from q ≡ Less
  pub listed : now ++ entries_among directory left ≡ old ++ entries_after t directory from
  pub stops : IfSome stop (λ to. GoesTo t directory from to old now)

pub begun : (directory from : Path) (old : List Entry) (es left : Nodes) → IsStrictlySortedBy path_cmp (map (λ e. e.0) es) → left ≡ behind from es
    → IsUnderWay (tree_of_entries es) directory from old old None left
begun directory from old es left strictly is =
    let left_is : left ≡ behind from (entries_of (tree_of_entries es)) = is ∙ ap (behind from) (sym (entries_of-tree es (is_sorted-from es strictly))) in
    record { at = from; left_is = left_is; order = λ q later. later; listed = ap (λ l. old ++ entries_among directory l) left_is; stops = tt }

module _ (t : Tree) (directory from : Path) (old now : List Entry) (stop : Option Path) (left : Nodes) (so_far : IsUnderWay t directory from old now stop left) where
  pub ended : left ≡ [] → now ≡ old ++ entries_after t directory from
  ended none = sym (append-nil now) ∙ ap (λ l. now ++ entries_among directory l) (sym none) ∙ so_far.listed

  module _ (path : Path) (node : Node) (more : Nodes) (next : left ≡ (path, node) ∷ more) where
    all_left : behind so_far.at (entries_of t) ≡ (path, node) ∷ more
    all_left = sym so_far.left_is ∙ next

    later : path_cmp from path ≡ Less
    later = so_far.order path (first_later so_far.at path node more (entries_of t) all_left)

    more_is : more ≡ behind path (entries_of t)
    more_is = sym (behind_first so_far.at path node more (entries_of t) (entries_of-sorted t) all_left)

    regrouped : (o : Option Entry) (xs : List Entry) → (now ++ cons_option o []) ++ xs ≡ now ++ cons_option o xs
    regrouped o xs = append_assoc now (cons_option o []) xs ∙ ap (λ ys. now ++ ys) (alone o)
      where
        alone : (p : Option Entry) → cons_option p [] ++ xs ≡ cons_option p xs
        alone None = refl
        alone (Some entry) = refl

    -- the entry of the next node is added, if it has one
    pub one_more : (rest : Path) (new : List Entry) (last : Option Path) → directory ++ rest ≡ path → new ≡ now ++ filter_map (entry_in []) ((rest, node) ∷ []) → IfSome last (λ p. p ≡ path)
        → IsUnderWay t directory from old new last more
    one_more rest new last is added last_is =
        let same : entry_in [] (rest, node) ≡ entry_in directory (path, node) = ap (option_map (entry_of node)) (sym (name_in-below directory rest) ∙ ap (name_in directory) is) in
        let listed : new ++ entries_among directory more ≡ old ++ entries_after t directory from =
        ap (λ xs. xs ++ entries_among directory more) added ∙ regrouped (entry_in [] (rest, node)) (entries_among directory more)
        ∙ ap (λ o. now ++ cons_option o (entries_among directory more)) same ∙ ap (λ l. now ++ entries_among directory l) (sym next) ∙ so_far.listed in
        let went : GoesTo t directory from path old new = record {
          listed = ap (λ l. new ++ entries_among directory l) (sym more_is) ∙ listed;
          below = subst (λ q. starts_with same_name q directory ≡ true) is (begins-append directory rest);
          behind = later;
          stands = subst IsSome (sym (node_at-entries_of t path)) (first_found so_far.at path node more (entries_of t) all_left);
        } in
        record {
          at = path;
          left_is = more_is;
          order = λ q behind_it. path_order.trans from path q later behind_it;
          listed = listed;
          stops = stops_at new went last last_is;
        }
      where
        stops_at : (new : List Entry) → GoesTo t directory from path old new → (o : Option Path) → IfSome o (λ p. p ≡ path) → IfSome o (λ to. GoesTo t directory from to old new)
        stops_at new went None is = tt
        stops_at new went (Some p) is = subst (λ q. GoesTo t directory from q old new) (sym is) went

    -- what doesn't begin with the directory ends the listing
    pub ended_before : starts_with same_name from directory ≡ true → starts_with same_name path directory ≡ false → now ≡ old ++ entries_after t directory from
    ended_before below other =
        let deeper = under_before directory from path below later in
        let here : entry_in directory (path, node) ≡ None = no_entry_after directory path deeper other (path, node) (ap is_gt (tied_itself path_order path)) in
        let rest : entries_among directory more ≡ [] = none_after directory path deeper other more (subst (λ l. T (below_all path_cmp path l)) (sym more_is) (below_all-behind path (entries_of t))) in
        let none : entries_among directory left ≡ [] = ap (entries_among directory) next ∙ ap (λ o. cons_option o (entries_among directory more)) here ∙ rest in
        sym (append-nil now) ∙ ap (λ xs. now ++ xs) (sym none) ∙ so_far.listed

-- ---- a path after all that is below another one

name_before : (name : Name) → name_cmp name (name ++ 1 ∷ []) ≡ Less
name_before [] = refl
name_before (b ∷ bs) = ap (λ o. ordering_then o (name_cmp bs (bs ++ 1 ∷ []))) (tied_itself nat_cmp_total b) ∙ name_before bs

end_behind : (front : Path) (name : Name) (rest : Path) → path_cmp (front ++ name ∷ rest) (front ++ (name ++ 1 ∷ []) ∷ []) ≡ Less
end_behind [] name rest = ap (λ o. ordering_then o (path_cmp rest [])) (name_before name)
end_behind (step ∷ front) name rest =
    ap (λ o. ordering_then o (path_cmp (front ++ name ∷ rest) (front ++ (name ++ 1 ∷ []) ∷ []))) (tied_itself nat_list_cmp_total step) ∙ end_behind front name rest

last_name-push : (path : Path) (name : Name) → last_name (path ++ name ∷ []) ≡ Some name
unfolding last_name
last_name-push [] name = refl
last_name-push (first ∷ []) name = refl
last_name-push (first ∷ other ∷ path) name = last_name-push (other ∷ path) name

-- the path with the byte 1 added to its name is after all that is below the path
pub all_before : (path front : Path) (name : Name) (end : Path) → parent_of path ≡ Some front → last_name path ≡ Some name → end ≡ front ++ (name ++ 1 ∷ []) ∷ [] → (rest : Path)
    → path_cmp (path ++ rest) end ≡ Less
all_before path front name end front_is name_is end_is rest =
    let own = parent_of-some path front front_is in
    let same : own.0 ≡ name = same_Some _ _ (sym (last_name-push front own.0) ∙ ap last_name (sym own.1) ∙ name_is) in
    let whole : path ++ rest ≡ front ++ name ∷ rest = ap (λ p. p ++ rest) (own.1 ∙ ap (λ n. front ++ n ∷ []) same) ∙ append_assoc front (name ∷ []) rest in
    ap (λ p. path_cmp p end) whole ∙ ap (path_cmp (front ++ name ∷ rest)) end_is ∙ end_behind front name rest
