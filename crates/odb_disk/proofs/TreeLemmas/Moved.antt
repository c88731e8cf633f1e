-- Laws of a move: what is at each path after one.
use Rattle.std.proofs.Common.{◌≡◌, ◌≢◌, ◌⊎◌, Bool, true, false, List, [], ◌∷◌, ◌++◌, length, drop, Option, Some, None, refl, sym, ap, ◌∙◌, inl, inr, cond, append-nil, append_assoc}
use Rattle.std.specs.FinMap.{find}
use Rattle.std.specs.Ordering.{eq_by_cmp}
use Rattle.std.specs.List.{starts_with, filter_map, cons_option}
use Rattle.std.proofs.lemmas.Bool.{false≢true, false_from_ne_true}
use Rattle.std.proofs.lemmas.List.{append_cancel_left}
use Rattle.odb_base.specs.Path.{Path, path_cmp, same_name}
use Rattle.odb_base.specs.PathLaws.{lies_below, goes_beyond}
use Rattle.odb_disk.specs.Tree.{Tree, node_at}
use Rattle.odb_disk.specs.Tree.Nodes.{same_tree, entries_of, node_at-tree_of_entries, node_at-entries_of}
use Rattle.odb_disk.specs.Tree.Change.{moved_entry, with_moved}
use Rattle.odb_disk.specs.declared.node.Node.{Node}
use Rattle.odb_disk.proofs.TreeLemmas.{same_path, own_path, other_path}

-- ---- paths below others

abbrev pub begins : Path → Path → Bool
begins q base = starts_with same_name q base

pub begins-append : (base rest : Path) → begins (base ++ rest) base ≡ true
begins-append base rest = lies_below (base ++ rest) base rest refl

pub begins-own : (p : Path) → begins p p ≡ true
begins-own p = lies_below p p [] (sym (append-nil p))

pub begins-more : (q base rest : Path) → begins q base ≡ true → begins (q ++ rest) base ≡ true
begins-more q base rest is =
    lies_below (q ++ rest) base (drop (length base) q ++ rest) (ap (λ p. p ++ rest) (goes_beyond q base is) ∙ append_assoc base (drop (length base) q) rest)

-- the rest of a path after its base
pub behind-append : (base rest : Path) → drop (length base) (base ++ rest) ≡ rest
behind-append base rest = append_cancel_left base _ _ (sym (goes_beyond (base ++ rest) base (begins-append base rest)))

no_names_left : (base rest : Path) → [] ≡ base ++ rest → base ≡ []
no_names_left [] rest is = refl
no_names_left (name ∷ names) rest is = cc

pub root_begins : (base : Path) → [] ≢ base → begins [] base ≡ false
root_begins base other = false_from_ne_true _ (λ is. other (sym (no_names_left base (drop (length base) []) (goes_beyond [] base is))))

-- ---- what is found after a move

-- what is at a path after a move, by whether it is below the target or the source
abbrev pub moved_at : {X : Type 0} → Bool → Bool → Option X → Option X → Option X
moved_at true left there here = there
moved_at false true there here = None
moved_at false false there here = here

moved_at_none : {X : Type 0} (below left : Bool) → moved_at {X = X} below left None None ≡ None
moved_at_none true left = refl
moved_at_none false true = refl
moved_at_none false false = refl

-- one more entry
moved_at_more : {X : Type 0} (below left k c d : Bool) (n : X) (there here : Option X) → (below ≡ true → k ≡ c) → (below ≡ false → left ≡ true → k ≡ false) → (below ≡ false → left ≡ false → k ≡ d)
    → cond k (Some n) (moved_at below left there here) ≡ moved_at below left (cond c (Some n) there) (cond d (Some n) here)
moved_at_more true left k c d n there here one two three = ap (λ b. cond b (Some n) there) (one refl)
moved_at_more false true k c d n there here one two three = ap (λ b. cond b (Some n) None) (two refl refl)
moved_at_more false false k c d n there here one two three = ap (λ b. cond b (Some n) here) (three refl refl)

same_place : (a b c d : Path) → (a ≡ b → c ≡ d) → (c ≡ d → a ≡ b) → eq_by_cmp path_cmp a b ≡ eq_by_cmp path_cmp c d
same_place a b c d there back =
    elim (eq_by_cmp path_cmp a b) as (λ k. eq_by_cmp path_cmp a b ≡ k → k ≡ eq_by_cmp path_cmp c d) [
      | true ↦ λ tied. sym (ap (eq_by_cmp path_cmp c) (sym (there (same_path a b tied))) ∙ own_path c)
      | false ↦ λ apart. sym (other_path c d (λ same. false≢true (sym apart ∙ ap (eq_by_cmp path_cmp a) (sym (back same)) ∙ own_path a)))
    ] refl

module _ (from to q : Path) where
  not_below : (p base : Path) → begins p base ≡ true → begins q base ≡ false → eq_by_cmp path_cmp q p ≡ false
  not_below p base is other = other_path q p (λ same. false≢true (sym other ∙ ap (λ r. begins r base) same ∙ is))

  not_among : (p base : Path) → begins p base ≡ false → begins q base ≡ true → eq_by_cmp path_cmp q p ≡ false
  not_among p base other is = other_path q p (λ same. false≢true (sym other ∙ ap (λ r. begins r base) (sym same) ∙ is))

  origin : Path
  origin = from ++ drop (length to) q

  module _ (p : Path) where
    -- where an entry goes that is below the source
    goes : begins p from ≡ true → begins q to ≡ true → eq_by_cmp path_cmp q (to ++ drop (length from) p) ≡ eq_by_cmp path_cmp (from ++ drop (length to) q) p
    goes source target =
        same_place q (to ++ drop (length from) p) (from ++ drop (length to) q) p
        (λ same. ap (λ r. from ++ r) (append_cancel_left to _ _ (sym (goes_beyond q to target) ∙ same)) ∙ sym (goes_beyond p from source))
        (λ same. goes_beyond q to target ∙ ap (λ r. to ++ r) (append_cancel_left from _ _ (same ∙ goes_beyond p from source)))

    goes_below : begins q to ≡ false → eq_by_cmp path_cmp q (to ++ drop (length from) p) ≡ false
    goes_below other = not_below (to ++ drop (length from) p) to (begins-append to (drop (length from) p)) other

    no_origin : begins p from ≡ false → eq_by_cmp path_cmp (from ++ drop (length to) q) p ≡ false
    no_origin other = other_path _ p (λ same. false≢true (sym other ∙ ap (λ r. begins r from) (sym same) ∙ begins-append from (drop (length to) q)))

  find-moved : (es : List (Path × Node))
      → find path_cmp q (filter_map (moved_entry from to) es) ≡ moved_at (begins q to) (begins q from) (find path_cmp (from ++ drop (length to) q) es) (find path_cmp q es)
  find-moved [] = sym (moved_at_none (begins q to) (begins q from))
  find-moved (e ∷ es) =
      let rest = find-moved es in
      let p = e.0 in
      let more = moved_at_more (begins q to) (begins q from) in
      let c = eq_by_cmp path_cmp (from ++ drop (length to) q) p in
      let d = eq_by_cmp path_cmp q p in
      let x = find path_cmp (from ++ drop (length to) q) es in
      let y = find path_cmp q es in
      let whole = moved_at (begins q to) (begins q from) (cond c (Some e.1) x) (cond d (Some e.1) y) in
      elim (begins p from) as (λ b. begins p from ≡ b
      → find path_cmp q (cons_option (cond b (Some (to ++ drop (length from) p, e.1)) (cond (begins p to) None (Some e))) (filter_map (moved_entry from to) es)) ≡ whole) [
        | true ↦ λ source.
            ap (cond (eq_by_cmp path_cmp q (to ++ drop (length from) p)) (Some e.1)) rest
            ∙ more (eq_by_cmp path_cmp q (to ++ drop (length from) p)) c d e.1 x y (goes p source) (λ other _. goes_below p other)
            (λ other apart. goes_below p other ∙ sym (not_below p from source apart))
        | false ↦ λ apart.
            elim (begins p to) as (λ b. begins p to ≡ b → find path_cmp q (cons_option (cond b None (Some e)) (filter_map (moved_entry from to) es)) ≡ whole) [
              | true ↦ λ target.
                  rest ∙ more false c d e.1 x y (λ _. sym (no_origin p apart)) (λ _ _. refl) (λ other _. sym (not_below p to target other))
              | false ↦ λ other.
                  ap (cond d (Some e.1)) rest
                  ∙ more d c d e.1 x y (λ target. not_among p to other target ∙ sym (no_origin p apart)) (λ _ source. not_among p from apart source) (λ _ _. refl)
            ] refl
      ] refl

-- ---- what is at a path after a move

module _ (t : Tree) (from to : Path) where
  pub node_at-with_moved : (q : Path) → node_at (with_moved t from to) q ≡ moved_at (begins q to) (begins q from) (node_at t (from ++ drop (length to) q)) (node_at t q)
  unfolding with_moved
  node_at-with_moved q =
      node_at-tree_of_entries _ q ∙ find-moved from to q (entries_of t)
      ∙ sym (ap (λ o. moved_at (begins q to) (begins q from) o (node_at t q)) (node_at-entries_of t (from ++ drop (length to) q))
      ∙ ap (moved_at (begins q to) (begins q from) _) (node_at-entries_of t q))

  pub moved_below : (rest : Path) → node_at (with_moved t from to) (to ++ rest) ≡ node_at t (from ++ rest)
  moved_below rest =
      node_at-with_moved (to ++ rest)
      ∙ ap (λ b. moved_at b (begins (to ++ rest) from) (node_at t (from ++ drop (length to) (to ++ rest))) (node_at t (to ++ rest))) (begins-append to rest)
      ∙ ap (λ r. node_at t (from ++ r)) (behind-append to rest)

  pub moved_target : node_at (with_moved t from to) to ≡ node_at t from
  moved_target = ap (node_at (with_moved t from to)) (sym (append-nil to)) ∙ moved_below [] ∙ ap (node_at t) (append-nil from)

  module _ (q : Path) (other : begins q to ≡ false) where
    pub moved_away : begins q from ≡ true → node_at (with_moved t from to) q ≡ None
    moved_away source =
        node_at-with_moved q ∙ ap (λ b. moved_at b (begins q from) (node_at t (from ++ drop (length to) q)) (node_at t q)) other
        ∙ ap (λ b. moved_at false b (node_at t (from ++ drop (length to) q)) (node_at t q)) source

    pub moved_other : begins q from ≡ false → node_at (with_moved t from to) q ≡ node_at t q
    moved_other apart =
        node_at-with_moved q ∙ ap (λ b. moved_at b (begins q from) (node_at t (from ++ drop (length to) q)) (node_at t q)) other
        ∙ ap (λ b. moved_at false b (node_at t (from ++ drop (length to) q)) (node_at t q)) apart

-- where a node was before a move
pub record WasBelow (t : Tree) (from to q : Path) (k : Node) : Type 0 where
  pub rest : Path
  pub is : q ≡ to ++ rest
  pub at : node_at t (from ++ rest) ≡ Some k

pub record WasThere (t : Tree) (from to q : Path) (k : Node) : Type 0 where
  pub outside : begins q to ≡ false
  pub apart : begins q from ≡ false
  pub at : node_at t q ≡ Some k

pub at_after_move : (t : Tree) (from to q : Path) (k : Node) → node_at (with_moved t from to) q ≡ Some k → WasBelow t from to q k ⊎ WasThere t from to q k
at_after_move t from to q k at =
    elim (begins q to) as (λ b. begins q to ≡ b → WasBelow t from to q k ⊎ WasThere t from to q k) [
      | true ↦ λ target.
          let is = goes_beyond q to target in
          inl (record { rest = drop (length to) q; is = is; at = sym (moved_below t from to (drop (length to) q)) ∙ ap (node_at (with_moved t from to)) (sym is) ∙ at })
      | false ↦ λ other.
          elim (begins q from) as (λ b. begins q from ≡ b → WasBelow t from to q k ⊎ WasThere t from to q k) [
            | true ↦ λ source. absurd (let none : None ≡ Some k = sym (moved_away t from to q other source) ∙ at in cc)
            | false ↦ λ apart. inr (record { outside = other; apart = apart; at = sym (moved_other t from to q other apart) ∙ at })
          ] refl
    ] refl

-- a move onto itself changes nothing
pub moved_onto_itself : (t : Tree) (p : Path) → with_moved t p p ≡ t
moved_onto_itself t p = same_tree _ _ (λ q.
    elim (begins q p) as (λ b. begins q p ≡ b → node_at (with_moved t p p) q ≡ node_at t q) [
      | true ↦ λ is. let whole = goes_beyond q p is in ap (node_at (with_moved t p p)) whole ∙ moved_below t p p (drop (length p) q) ∙ ap (node_at t) (sym whole)
      | false ↦ λ other. moved_other t p p q other other
    ] refl)
