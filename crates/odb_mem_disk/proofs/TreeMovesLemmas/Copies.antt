-- The copies and what is removed make the whole move.
use Rattle.std.proofs.Common.{◌≡◌, ◌≢◌, ◌⊎◌, ℕ, suc, ◌+◌, ◌<◌, true, false, List, [], ◌∷◌, ◌++◌, length, get_or, drop, map}
use Rattle.std.proofs.Common.{Option, Some, None, IsSome, is_some, refl, sym, ap, ◌∙◌, subst, inl, inr, add-one, drop-cons}
use Rattle.std.specs.Ordering.{eq_by_cmp}
use Rattle.std.proofs.lemmas.Bool.{false≢true, or_cases, or_left, or_right, false_from_ne_true}
use Rattle.odb_base.specs.Path.{Path, path_cmp}
use Rattle.odb_base.specs.PathLaws.{goes_beyond, lies_below}
use Rattle.odb_disk.specs.Tree.{Tree, IsTree, node_at, with_node, without, is_directory}
use Rattle.odb_disk.specs.Tree.Nodes.{same_tree}
use Rattle.odb_disk.specs.Tree.Change.{with_moved}
use Rattle.odb_mem_disk.specs.TreeMoves.{ArePathsBelow, is_among, moved_path, put_copied, with_copy, with_copies, without_all}
use Rattle.odb_disk.specs.declared.node.Node.{Node}
use Rattle.odb_disk.proofs.TreeLemmas.{same_path, own_path, cases_path, node_at-put, node_at-put_other, node_at-taken, node_at-taken_other}
use Rattle.odb_disk.proofs.TreeLemmas.Moved.{begins, begins-append, behind-append, moved_below, moved_away, moved_other}
use Rattle.odb_disk.proofs.TreeLemmas.MovedTree.{goes_on, none_below}
use Rattle.odb_mem_disk.proofs.TreeMovesLemmas.Below.{none_from, among_first, among_at}

-- ---- copies

pub copy_none : (t : Tree) (s d : Path) → node_at t s ≡ None → with_copy t s d ≡ t
unfolding with_copy
copy_none t s d none = ap (put_copied t d) none

pub copy_some : (t : Tree) (s d : Path) (n : Node) → node_at t s ≡ Some n → with_copy t s d ≡ with_node t d n
unfolding with_copy
copy_some t s d n at = ap (put_copied t d) at

pub copy_other : (t : Tree) (s d q : Path) → q ≢ d → node_at (with_copy t s d) q ≡ node_at t q
copy_other t s d q apart =
    elim (node_at t s) as (λ o. node_at t s ≡ o → node_at (with_copy t s d) q ≡ node_at t q) [
      | None ↦ λ none. ap (λ u. node_at u q) (copy_none t s d none)
      | Some n ↦ λ at. ap (λ u. node_at u q) (copy_some t s d n at) ∙ node_at-put_other t d n q apart
    ] refl

pub copy_there : (t : Tree) (s d : Path) → IsSome (node_at t s) → node_at (with_copy t s d) d ≡ node_at t s
copy_there t s d some =
    elim (node_at t s) as (λ o. node_at t s ≡ o → IsSome o → node_at (with_copy t s d) d ≡ node_at t s) [
      | None ↦ λ _ no. absurd (false≢true no)
      | Some n ↦ λ at _. ap (λ u. node_at u d) (copy_some t s d n at) ∙ node_at-put t d n ∙ sym at
    ] refl some

-- one more of the copies
pub copies_more : (u : Tree) (ss ds : List Path) (i : ℕ) (s d : Path) → i < length ss → i < length ds → s ≡ get_or ss i s → d ≡ get_or ds i d
    → with_copies u (drop i ss) (drop i ds) ≡ with_copies (with_copy u s d) (drop (i + 1) ss) (drop (i + 1) ds)
copies_more u ss ds i s d hs hd s_is d_is =
    let one : i + 1 ≡ suc i = add-one i in
    ap (λ xs. with_copies u xs (drop i ds)) (drop-cons ss i s hs ∙ ap (λ x. x ∷ drop (suc i) ss) (sym s_is))
    ∙ ap (λ ys. with_copies u (s ∷ drop (suc i) ss) ys) (drop-cons ds i d hd ∙ ap (λ x. x ∷ drop (suc i) ds) (sym d_is))
    ∙ ap (λ k. with_copies (with_copy u s d) (drop k ss) (drop k ds)) (sym one)

pub copies_others : (u v : Tree) (ds : List Path) (i : ℕ) (s d q : Path) → i < length ds → d ≡ get_or ds i d → v ≡ with_copy u s d → is_among q ds ≡ false → node_at v q ≡ node_at u q
copies_others u v ds i s d q h is made other =
    ap (λ w. node_at w q) made ∙ copy_other u s d q (λ same. false≢true (sym other ∙ ap (λ r. is_among r ds) same ∙ among_at ds i d h is))

pub map_push : {X Y : Type 0} (f : X → Y) (xs : List X) (x : X) → map f (xs ++ x ∷ []) ≡ map f xs ++ f x ∷ []
map_push f [] x = refl
map_push f (y ∷ ys) x = ap (λ k. f y ∷ k) (map_push f ys x)

pub drop_all : {X : Type 0} (xs : List X) → drop (length xs) xs ≡ []
drop_all [] = refl
drop_all (x ∷ xs) = drop_all xs

pub all_copied : (u : Tree) (ss ds : List Path) (i : ℕ) → i ≡ length ss → with_copies u (drop i ss) (drop i ds) ≡ u
all_copied u ss ds i end = ap (λ xs. with_copies u xs (drop i ds)) (ap (λ k. drop k ss) end ∙ drop_all ss)

-- ---- what is removed

pub without_all_other : (t : Tree) (ps : List Path) (q : Path) → is_among q ps ≡ false → node_at (without_all t ps) q ≡ node_at t q
without_all_other t [] q other = refl
without_all_other t (p ∷ ps) q other = let parts = among_first q p ps other in without_all_other (without t p) ps q parts.1 ∙ node_at-taken_other t p q parts.0

pub without_all_among : (t : Tree) (ps : List Path) (q : Path) → is_among q ps ≡ true → node_at (without_all t ps) q ≡ None
without_all_among t [] q is = absurd (false≢true is)
without_all_among t (p ∷ ps) q is =
    elim (is_among q ps) as (λ b. is_among q ps ≡ b → node_at (without_all (without t p) ps) q ≡ None) [
      | true ↦ λ later. without_all_among (without t p) ps q later
      | false ↦ λ none.
          let first : (q ≡ p) = elim (or_cases _ _ is) [ inl own ↦ same_path q p own | inr rest ↦ absurd (false≢true (sym none ∙ rest)) ] in
          without_all_other (without t p) ps q none ∙ ap (node_at (without t p)) first ∙ node_at-taken t p
    ] refl

-- ---- the whole move

module _ (from to : Path) (apart_to : (q : Path) → begins q from ≡ true → begins q to ≡ false) where
  origin : Path → Path
  origin q = from ++ drop (length to) q

  origin-moved : (s : Path) → begins s from ≡ true → origin (moved_path from to s) ≡ s
  unfolding origin
  origin-moved s below = ap (λ r. from ++ r) (behind-append to (drop (length from) s)) ∙ sym (goes_beyond s from below)

  origin_below : (q : Path) → begins (origin q) from ≡ true
  unfolding origin
  origin_below q = begins-append from (drop (length to) q)

  target_below : (s : Path) → begins (moved_path from to s) to ≡ true
  target_below s = begins-append to (drop (length from) s)

  -- what is below the source isn't a target
  no_target : (q s : Path) → begins q from ≡ true → q ≢ moved_path from to s
  no_target q s below same = false≢true (sym (apart_to q below) ∙ ap (λ r. begins r to) same ∙ target_below s)

  record Copied (u : Tree) (ss : List Path) (q : Path) : Type 0 where
    among : is_among q (map (moved_path from to) ss) ≡ true → node_at (with_copies u ss (map (moved_path from to) ss)) q ≡ node_at u (origin q)
    other : is_among q (map (moved_path from to) ss) ≡ false → node_at (with_copies u ss (map (moved_path from to) ss)) q ≡ node_at u q

  copied : (ss : List Path) (u : Tree) → ((s : Path) → is_among s ss ≡ true → begins s from ≡ true) → ((s : Path) → is_among s ss ≡ true → IsSome (node_at u s)) → (q : Path) → Copied u ss q
  copied [] u below stand q = record { among = λ is. absurd (false≢true is); other = λ _. refl }
  copied (s ∷ ss) u below stand q =
      let d = moved_path from to s in
      let v = with_copy u s d in
      let s_below : begins s from ≡ true = below s (or_left _ _ (own_path s)) in
      let kept : (r : Path) → begins r from ≡ true → node_at v r ≡ node_at u r = λ r is. copy_other u s d r (no_target r s is) in
      let rest = copied ss v (λ r is. below r (or_right _ _ is)) (λ r is. subst IsSome (sym (kept r (below r (or_right _ _ is)))) (stand r (or_right _ _ is))) q in
      record {
        among = λ is.
            elim (is_among q (map (moved_path from to) ss)) as (λ b. is_among q (map (moved_path from to) ss) ≡ b → node_at (with_copies v ss (map (moved_path from to) ss)) q ≡ node_at u (origin q)) [
              | true ↦ λ later. rest.among later ∙ kept (origin q) (origin_below q)
              | false ↦ λ none.
                  let first : q ≡ d = elim (or_cases _ _ is) [ inl own ↦ same_path q d own | inr among ↦ absurd (false≢true (sym none ∙ among)) ] in
                  rest.other none ∙ ap (node_at v) first ∙ copy_there u s d (stand s (or_left _ _ (own_path s))) ∙ ap (node_at u) (sym (ap origin first ∙ origin-moved s s_below))
            ] refl;
        other = λ is. let parts = among_first q d (map (moved_path from to) ss) is in rest.other parts.1 ∙ copy_other u s d q parts.0;
      }

  moved-origin : (q : Path) → begins q to ≡ true → moved_path from to (origin q) ≡ q
  unfolding origin
  moved-origin q is = ap (λ k. to ++ k) (behind-append from (drop (length to) q)) ∙ sym (goes_beyond q to is)

  -- a path is a target if its origin is a source
  target_among : (ss : List Path) (q : Path) → begins q to ≡ true → is_among (origin q) ss ≡ true → is_among q (map (moved_path from to) ss) ≡ true
  target_among [] q below is = absurd (false≢true is)
  target_among (s ∷ ss) q below is =
      elim (or_cases _ _ is) [
        | inl own ↦
            or_left _ _ (ap (eq_by_cmp path_cmp q) (ap (moved_path from to) (sym (same_path (origin q) s own)) ∙ moved-origin q below) ∙ own_path q)
        | inr rest ↦ or_right _ _ (target_among ss q below rest)
      ]

  targets_below : (ss : List Path) (q : Path) → is_among q (map (moved_path from to) ss) ≡ true → begins q to ≡ true
  targets_below [] q is = absurd (false≢true is)
  targets_below (s ∷ ss) q is =
      elim (or_cases _ _ is) [
        | inl own ↦ ap (λ r. begins r to) (same_path q (moved_path from to s) own) ∙ target_below s
        | inr rest ↦ targets_below ss q rest
      ]

  module _ (t : Tree) (sources : List Path) (are : ArePathsBelow t from sources) (free : (q : Path) → begins q to ≡ true → node_at t q ≡ None) where
    abbrev targets : List Path
    targets = map (moved_path from to) sources

    abbrev both : Tree
    both = with_copies t sources targets

    at_target : (q : Path) → begins q to ≡ true → node_at both q ≡ node_at t (origin q)
    at_target q below =
        let c = copied sources t are.below are.stand q in
        elim (is_among (origin q) sources) as (λ b. is_among (origin q) sources ≡ b → node_at both q ≡ node_at t (origin q)) [
          | true ↦ λ is. c.among (target_among sources q below is)
          | false ↦ λ none.
              let gone : node_at t (origin q) ≡ None = none_from (node_at t (origin q)) (λ some. false≢true (sym none ∙ are.all (origin q) (origin_below q) some)) in
              elim (is_among q targets) as (λ b. is_among q targets ≡ b → node_at both q ≡ node_at t (origin q)) [
                | true ↦ λ is. c.among is
                | false ↦ λ other. c.other other ∙ free q below ∙ sym gone
              ] refl
        ] refl

    elsewhere : (q : Path) → begins q to ≡ false → node_at both q ≡ node_at t q
    elsewhere q other = (copied sources t are.below are.stand q).other (false_from_ne_true _ (λ is. false≢true (sym other ∙ targets_below sources q is)))

    pub whole_move : without_all both sources ≡ with_moved t from to
    unfolding origin
    whole_move = same_tree _ _ (λ q.
        elim (begins q to) as (λ b. begins q to ≡ b → node_at (without_all both sources) q ≡ node_at (with_moved t from to) q) [
          | true ↦ λ below.
              let whole = goes_beyond q to below in
              without_all_other both sources q (false_from_ne_true _ (λ is. false≢true (sym (apart_to q (are.below q is)) ∙ below)))
              ∙ at_target q below ∙ sym (ap (node_at (with_moved t from to)) whole ∙ moved_below t from to (drop (length to) q))
          | false ↦ λ other.
              elim (begins q from) as (λ b. begins q from ≡ b → node_at (without_all both sources) q ≡ node_at (with_moved t from to) q) [
                | true ↦ λ source. left_empty q other source ∙ sym (moved_away t from to q other source)
                | false ↦ λ away.
                    without_all_other both sources q (false_from_ne_true _ (λ is. false≢true (sym away ∙ are.below q is)))
                    ∙ elsewhere q other ∙ sym (moved_other t from to q other away)
              ] refl
        ] refl)
      where
        left_empty : (q : Path) → begins q to ≡ false → begins q from ≡ true → node_at (without_all both sources) q ≡ None
        left_empty q other source =
            elim (is_among q sources) as (λ b. is_among q sources ≡ b → node_at (without_all both sources) q ≡ None) [
              | true ↦ λ is. without_all_among both sources q is
              | false ↦ λ none. without_all_other both sources q none ∙ elsewhere q other ∙ none_from (node_at t q) (λ some. false≢true (sym none ∙ are.all q source some))
            ] refl

    -- what was copied is removed again
    pub taken_back : (u : Tree) → ((q : Path) → is_among q targets ≡ false → node_at u q ≡ node_at t q) → without_all u targets ≡ t
    taken_back u others = same_tree _ _ (λ q.
        elim (is_among q targets) as (λ b. is_among q targets ≡ b → node_at (without_all u targets) q ≡ node_at t q) [
          | true ↦ λ is. without_all_among u targets q is ∙ sym (free q (targets_below sources q is))
          | false ↦ λ other. without_all_other u targets q other ∙ others q other
        ] refl)

-- the two ends of a directory's move
module _ (t : Tree) (is_tree : IsTree t) (from to : Path) (directory : is_directory (node_at t from) ≡ true) (absent : node_at t to ≡ None) (outside : begins to from ≡ false) where
  pub target_free : (q : Path) → begins q to ≡ true → node_at t q ≡ None
  target_free q below = elim (cases_path q to) [
    | inl same ↦ ap (node_at t) same ∙ absent
    | inr apart ↦ let g = goes_on q to below apart in ap (node_at t) g.2 ∙ none_below t is_tree to (ap is_directory absent) g.0 g.1
  ]

  pub source_stands : IsSome (node_at t from)
  source_stands = some_directory (node_at t from) directory
    where
      some_directory : (o : Option Node) → is_directory o ≡ true → is_some o ≡ true
      some_directory None is = absurd (cc)
      some_directory (Some n) is = refl

  -- a path below both would have one end below the other
  pub ends_apart : (q : Path) → begins q from ≡ true → begins q to ≡ false
  ends_apart q below = false_from_ne_true _ (λ also.
      elim (comparable from to (drop (length from) q) (drop (length to) q) (sym (goes_beyond q from below) ∙ goes_beyond q to also)) [
        | inl source ↦ false≢true (sym outside ∙ source)
        | inr target ↦ false≢true (sym (ap is_some (target_free from target)) ∙ source_stands)
      ])
    where
      comparable : (a b x y : Path) → a ++ x ≡ b ++ y → (begins b a ≡ true) ⊎ (begins a b ≡ true)
      comparable [] b x y is = inl (lies_below b [] b refl)
      comparable (n ∷ ns) [] x y is = inr (lies_below (n ∷ ns) [] (n ∷ ns) refl)
      comparable (n ∷ ns) (m ∷ ms) x y is =
          let head : n ≡ m = cc in
          let tail : ns ++ x ≡ ms ++ y = cc in
          elim (comparable ns ms x y tail) [
            | inl under ↦ inl (lies_below (m ∷ ms) (n ∷ ns) (drop (length ns) ms) (ap (λ k. k ∷ ms) (sym head) ∙ ap (λ k. n ∷ k) (goes_beyond ms ns under)))
            | inr under ↦ inr (lies_below (n ∷ ns) (m ∷ ms) (drop (length ms) ns) (ap (λ k. k ∷ ns) head ∙ ap (λ k. m ∷ k) (goes_beyond ns ms under)))
          ]
