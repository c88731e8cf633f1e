-- The numbers stay well kept by a change.
use Rattle.std.proofs.Common.{◌≡◌, ◌≢◌, ℕ, ◌+◌, ne_eqb, ◌<◌, ◌≤◌, ◌==◌, ◌&&◌, ◌||◌, Bool, true, false, not, cond, List, []}
use Rattle.std.proofs.Common.{Option, Some, None, IsSome, refl, sym, ap, ◌∙◌, subst, inl, inr, eq-eqb, eqb-true, arith}
use Rattle.std.proofs.lemmas.Bool.{false≢true, false_from_ne_true, or_left, or_cases, and_parts, eqb-false, cases_eq}
use Rattle.odb_base.specs.Path.{Path}
use Rattle.odb_disk.specs.Tree.{Tree, IsTree, node_at, with_node, without, names_in, is_directory}
use Rattle.odb_disk.specs.Tree.Change.{is_taken, least_free, lies_in_directory, is_nil, is_file, with_time, timed}
use Rattle.odb_disk.specs.TreeNumbers.{is_listed, has_number, AreNumbers, IsLeastFree}
use Rattle.odb_disk.specs.declared.node.Node.{Node}
use Rattle.odb_disk.specs.declared.node.Content.{Content}
use Rattle.odb_disk.proofs.TreeLemmas.{is_taken-node_at, node_at-put}
use Rattle.odb_disk.proofs.TreeLemmas.Numbers.{least_free_is}
use Rattle.odb_disk.proofs.TreeLemmas.Follow.{IsDir-from}
use Rattle.odb_disk.proofs.TreeLemmas.Change.{IsTree-put, IsTree-without, no_names_below, node_of}
use Rattle.odb_disk.proofs.TreeLemmas.Changed.{IsTree-timed}
use Rattle.odb_disk.proofs.TreeNumbersLemmas.Taken.{has_number-taken, is_taken-put, is_taken-without}

-- ---- the numbers stay well kept

-- the free numbers once the node at a path is gone
abbrev IsFreed : Tree → Path → (free freed : List ℕ) → Type 0
IsFreed t p free freed = (n : ℕ) → is_listed freed n ≡ (has_number (node_at t p) n || is_listed free n)

-- the free numbers once a number is used, by whether it is the next one
abbrev LeavesFree : Bool → ℕ → (free left : List ℕ) → Type 0
LeavesFree is_next number free left = (n : ℕ) → is_listed left n ≡ cond is_next (is_listed free n) (not (number == n) && is_listed free n)

-- a number is used: `next` and the free numbers before and after
pub record IsUsed (number next later : ℕ) (free left : List ℕ) : Type 0 where
  pub grows : next ≤ later
  pub below : number < later
  pub others_below : (n : ℕ) → n < later → n ≢ number → n < next
  pub own : is_listed left number ≡ false
  pub others : (n : ℕ) → n ≢ number → is_listed left n ≡ is_listed free n

pub IsUsed-from : (number next later : ℕ) (free left : List ℕ) → number ≤ next → (number ≡ next → is_listed free number ≡ false) → later ≡ cond (number == next) (next + 1) next
    → LeavesFree (number == next) number free left → IsUsed number next later free left
IsUsed-from number next later free left le unlisted is lists =
    elim (number == next) as (λ b. (number == next) ≡ b → later ≡ cond b (next + 1) next → LeavesFree b number free left → IsUsed number next later free left) [
      | true ↦ λ same up alike. let e : number ≡ next = eqb-true number next same in record {
        grows = omega arith;
        below = omega arith;
        others_below = λ n low other. let ne : n ≢ next = λ is_next. other (is_next ∙ sym e) in omega arith;
        own = alike number ∙ unlisted e;
        others = λ n other. alike n;
      }
      | false ↦ λ apart up alike. let ne : number ≢ next = eqb-false number next apart in record {
        grows = omega arith;
        below = omega arith;
        others_below = λ n low other. omega arith;
        own = alike number ∙ ap (λ b. not b && is_listed free number) (eq-eqb number number refl);
        others = λ n other. alike n ∙ ap (λ b. not b && is_listed free n) (ne_eqb number n (λ is. other (sym is)));
      }
    ] refl is lists

de_morgan : (a b : Bool) → (not b && not a) ≡ not (a || b)
de_morgan true true = refl
de_morgan true false = refl
de_morgan false true = refl
de_morgan false false = refl

module _ (t : Tree) (is_tree : IsTree t) (next : ℕ) (free : List ℕ) (numbers : AreNumbers t next free) where
  pub next_above : 0 < next
  next_above =
      let d = IsDir-from t [] is_tree.root in
      let a = numbers.above d.node.ino (is_taken-node_at t [] d.node d.at) in omega arith

  -- the least free number is above 0, and no node's
  module _ (number : ℕ) (least : IsLeastFree free next number) where
    pub least_above : (0 < number) × (number ≤ next)
    least_above = elim least.is_free [
      | inl listed ↦ let a = numbers.free_above number listed in (a.0, omega arith)
      | inr w ↦ let e = w.0 in let p = next_above in (omega arith, omega arith)
    ]

    pub least_not_taken : is_taken t number ≡ false
    least_not_taken = elim least.is_free [
      | inl listed ↦ let a = numbers.free_above number listed in numbers.split number a.0 a.1 ∙ ap not listed
      | inr w ↦ false_from_ne_true _ (λ taken. let e = w.0 in let a = numbers.above number taken in absurd (omega arith))
    ]

    pub taken_below : (m : ℕ) → 0 < m → m < number → is_taken t m ≡ true
    taken_below m low high = let le = least_above.1 in let below : m < next = omega arith in numbers.split m low below ∙ ap not (least.least m high)

  module _ (p : Path) (freed : List ℕ) (frees : IsFreed t p free freed) where
    freed_above : (n : ℕ) → is_listed freed n ≡ true → (0 < n) × (n < next)
    freed_above n listed = elim (or_cases _ _ (sym (frees n) ∙ listed)) [
      | inl here ↦ numbers.above n (has_number-taken t p n here)
      | inr old ↦ numbers.free_above n old
    ]

    -- a tree that lacks the node here, and whose other nodes have the numbers of this one
    pub AreNumbers-dropped : (u : Tree) → ((n : ℕ) → is_taken u n ≡ (is_taken t n && not (has_number (node_at t p) n))) → AreNumbers u next freed
    AreNumbers-dropped u taken = record {
      split = λ n low high. taken n ∙ ap (λ b. b && not (has_number (node_at t p) n)) (numbers.split n low high) ∙ de_morgan (has_number (node_at t p) n) (is_listed free n) ∙ ap not (sym (frees n));
      above = λ n is. numbers.above n (and_parts _ _ (sym (taken n) ∙ is)).0;
      free_above = freed_above;
    }

    pub AreNumbers-without : AreNumbers (without t p) next freed
    AreNumbers-without = AreNumbers-dropped (without t p) (is_taken-without t is_tree p)

    pub unlisted_next : (number : ℕ) → number ≡ next → is_listed freed number ≡ false
    unlisted_next number is = false_from_ne_true _ (λ listed. let a = freed_above number listed in omega arith)

    module _ (m : Node) (later : ℕ) (left : List ℕ) (low : 0 < m.ino) (used : IsUsed m.ino next later freed left) where
      taken_other : (n : ℕ) → n ≢ m.ino → is_taken (with_node t p m) n ≡ (is_taken t n && not (has_number (node_at t p) n))
      taken_other n other = is_taken-put t is_tree p m n ∙ ap (λ b. b || (is_taken t n && not (has_number (node_at t p) n))) (ne_eqb m.ino n (λ is. other (sym is)))

      pub AreNumbers-put : AreNumbers (with_node t p m) later left
      AreNumbers-put = record {
        split = λ n above below. elim (cases_eq n m.ino) [
          | inl same ↦ ap (is_taken (with_node t p m)) same ∙ is_taken-node_at (with_node t p m) p m (node_at-put t p m) ∙ ap not (sym (ap (is_listed left) same ∙ used.own))
          | inr other ↦
              taken_other n other ∙ ap (λ b. b && not (has_number (node_at t p) n)) (numbers.split n above (used.others_below n below other))
              ∙ de_morgan (has_number (node_at t p) n) (is_listed free n) ∙ ap not (sym (used.others n other ∙ frees n))
        ];
        above = λ n taken. elim (cases_eq n m.ino) [
          | inl same ↦ let b = used.below in (omega arith, omega arith)
          | inr other ↦ let a = numbers.above n (and_parts _ _ (sym (taken_other n other) ∙ taken)).0 in let g = used.grows in (a.0, omega arith)
        ];
        free_above = λ n listed. elim (cases_eq n m.ino) [
          | inl same ↦ absurd (false≢true (sym used.own ∙ ap (is_listed left) (sym same) ∙ listed))
          | inr other ↦ let a = freed_above n (sym (used.others n other) ∙ listed) in let g = used.grows in (a.0, omega arith)
        ];
      }

  -- a node that keeps its number
  module _ (p : Path) (old m : Node) (at : node_at t p ≡ Some old) (same : m.ino ≡ old.ino) where
    taken_alike : (n : ℕ) → is_taken (with_node t p m) n ≡ is_taken t n
    taken_alike n =
        is_taken-put t is_tree p m n ∙ ap (λ o. (m.ino == n) || (is_taken t n && not (has_number o n))) at
        ∙ elim (cases_eq old.ino n) [
          | inl is ↦ or_left _ _ (eq-eqb m.ino n (same ∙ is)) ∙ sym (ap (is_taken t) (sym is) ∙ is_taken-node_at t p old at)
          | inr other ↦
              ap (λ b. b || (is_taken t n && not (old.ino == n))) (ne_eqb m.ino n (λ is. other (sym same ∙ is)))
              ∙ ap (λ b. is_taken t n && not b) (ne_eqb old.ino n other) ∙ and-true (is_taken t n)
        ]
      where
        and-true : (b : Bool) → (b && true) ≡ b
        and-true true = refl
        and-true false = refl

    pub AreNumbers-over : AreNumbers (with_node t p m) next free
    AreNumbers-over = record {
      split = λ n low high. taken_alike n ∙ numbers.split n low high;
      above = λ n taken. numbers.above n (sym (taken_alike n) ∙ taken);
      free_above = numbers.free_above;
    }

pub least_free-least : (t : Tree) (is_tree : IsTree t) (next : ℕ) (free : List ℕ) (numbers : AreNumbers t next free) (number : ℕ) (least : IsLeastFree free next number) → least_free t ≡ number
least_free-least t is_tree next free numbers number least =
    least_free_is t number (least_above t is_tree next free numbers number least).0 (least_not_taken t is_tree next free numbers number least) (taken_below t is_tree next free numbers number least)

-- ---- the fields after a change

module _ (t u : Tree) (is_tree : IsTree t) (next : ℕ) (free : List ℕ) (numbers : AreNumbers t next free)
    (p : Path) (lies : lies_in_directory t p ≡ true) (no_directory : is_directory (node_at t p) ≡ false) where
  -- a node of its own number is put
  module _ (m : Node) (later : ℕ) (freed left : List ℕ) (least : IsLeastFree free next m.ino) (frees : IsFreed t p free freed)
      (up : later ≡ cond (m.ino == next) (next + 1) next) (lists : LeavesFree (m.ino == next) m.ino freed left) (put : u ≡ with_node t p m) where
    own_number : (q : Path) (k : Node) → q ≢ p → node_at t q ≡ Some k → k.ino ≢ m.ino
    own_number q k apart at same = false≢true (sym (least_not_taken t is_tree next free numbers m.ino least) ∙ ap (is_taken t) (sym same) ∙ is_taken-node_at t q k at)

    pub IsTree-new : IsTree u
    IsTree-new = subst IsTree (sym put) (IsTree-put t is_tree p m lies no_directory own_number)

    pub AreNumbers-new : AreNumbers u later left
    AreNumbers-new =
        let above = least_above t is_tree next free numbers m.ino least in
        let used = IsUsed-from m.ino next later freed left above.1 (unlisted_next t is_tree next free numbers p freed frees m.ino) up lists in
        subst (λ v. AreNumbers v later left) (sym put) (AreNumbers-put t is_tree next free numbers p freed frees m later left above.0 used)

  -- the node keeps its number
  module _ (content : Content) (stands : IsSome (node_at t p)) (put : (node : Node) → node_at t p ≡ Some node → u ≡ with_node t p (record node { content = content })) where
    IsTree-over_node : (old : Node) → node_at t p ≡ Some old → IsTree u
    IsTree-over_node old at =
        subst IsTree (sym (put old at)) (IsTree-put t is_tree p (record old { content = content }) lies no_directory (λ q k apart there same. apart (is_tree.apart q p k old there at same)))

    AreNumbers-over_node : (old : Node) → node_at t p ≡ Some old → AreNumbers u next free
    AreNumbers-over_node old at = subst (λ v. AreNumbers v next free) (sym (put old at)) (AreNumbers-over t is_tree next free numbers p old (record old { content = content }) at refl)

    pub IsTree-over : IsTree u
    IsTree-over = let n = node_of (node_at t p) stands in IsTree-over_node n.node n.at

    pub AreNumbers-changed : AreNumbers u next free
    AreNumbers-changed = let n = node_of (node_at t p) stands in AreNumbers-over_node n.node n.at

-- a node is removed
pub IsTree-taken : (t u : Tree) (is_tree : IsTree t) (p : Path) → [] ≢ p → is_nil (names_in t p) ≡ true → u ≡ without t p → IsTree u
IsTree-taken t u is_tree p below_root nil taken = subst IsTree (sym taken) (IsTree-without t is_tree p below_root (no_names_below t p nil))

pub AreNumbers-taken : (t u : Tree) (is_tree : IsTree t) (next : ℕ) (free : List ℕ) (numbers : AreNumbers t next free) (p : Path) (freed : List ℕ)
    → IsFreed t p free freed → u ≡ without t p → AreNumbers u next freed
AreNumbers-taken t u is_tree next free numbers p freed frees taken = subst (λ v. AreNumbers v next freed) (sym taken) (AreNumbers-without t is_tree next free numbers p freed frees)

-- the time of a file is set
module _ (t u : Tree) (is_tree : IsTree t) (next : ℕ) (free : List ℕ) (numbers : AreNumbers t next free)
    (p : Path) (time : ℕ) (file : is_file (node_at t p) ≡ true) (set : u ≡ with_time t p time (node_at t p)) where
  pub IsTree-set_time : IsTree u
  IsTree-set_time = subst IsTree (sym set) (IsTree-timed t is_tree p time file)

  AreNumbers-timed : (o : Option Node) → node_at t p ≡ o → is_file o ≡ true → AreNumbers (with_time t p time o) next free
  AreNumbers-timed None at is = absurd (false≢true is)
  AreNumbers-timed (Some node) at is = AreNumbers-over t is_tree next free numbers p node (record node { content = timed time node.content }) at refl

  pub AreNumbers-set_time : AreNumbers u next free
  AreNumbers-set_time = subst (λ v. AreNumbers v next free) (sym set) (AreNumbers-timed (node_at t p) refl file)
