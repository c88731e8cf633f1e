-- Laws of the calls that will fail, as the set of their numbers.
use Rattle.std.proofs.Common.{◌≡◌, ℕ, Bool, true, false, ◌||◌, cond, List, [], ◌∷◌, ◌++◌, length, get_or, take, ◌+◌, ◌<◌, refl, sym, ap, ◌∙◌}
use Rattle.std.specs.Ordering.{nat_cmp, eq_by_cmp}
use Rattle.std.specs.Cmp.{nat_cmp_total}
use Rattle.std.specs.BTreeSet as tree
use Rattle.std.specs.BTreeSet.{BTreeSet}
use Rattle.std.specs.FinSet as set
use Rattle.std.proofs.lemmas.Cmp.{eq_by_cmp_equiv}
use Rattle.std.proofs.lemmas.List.{take_more}

abbrev Numbers : Type 0
Numbers = set.FinSet nat_cmp

cond-or : (b c : Bool) → cond b true c ≡ (b || c)
cond-or true c = refl
cond-or false c = refl

-- a number is in a set of the code if it is in the set of the specs
pub contains-keys : (s : BTreeSet ℕ) (q : ℕ) → set.contains (set.from_list {R = nat_cmp} s.keys) q ≡ tree.contains nat_cmp s q
contains-keys s q = set.contains-from_list nat_cmp_total s.keys q

-- what an insert does to the set of the numbers
from_list-inserted : (old new : BTreeSet ℕ) (k : ℕ) → tree.Updates nat_cmp old new k true
    → set.from_list {R = nat_cmp} new.keys ≡ set.insert (set.from_list old.keys) k
from_list-inserted old new k updates =
    set.same_set nat_cmp_total set.nat_cmp-IsAntisymmetric _ _ (λ q.
    contains-keys new q ∙ updates.0 q ∙ cond-or (eq_by_cmp nat_cmp k q) (tree.contains nat_cmp old q)
    ∙ ap (λ b. b || tree.contains nat_cmp old q) ((eq_by_cmp_equiv nat_cmp_total).symm k q)
    ∙ sym (set.contains-insert nat_cmp_total (set.from_list old.keys) k q ∙ ap (λ b. eq_by_cmp nat_cmp q k || b) (contains-keys old q)))

-- a step of the loop that collects the numbers of a list
pub from_list-more : (old new : BTreeSet ℕ) (xs : List ℕ) (i k : ℕ) → i < length xs → k ≡ get_or xs i 0 → tree.Updates nat_cmp old new k true
    → set.from_list {R = nat_cmp} old.keys ≡ set.from_list (take i xs) → set.from_list {R = nat_cmp} new.keys ≡ set.from_list (take (i + 1) xs)
from_list-more old new xs i k h k_is updates same =
    from_list-inserted old new k updates ∙ ap (λ s. set.insert s k) same
    ∙ sym (ap set.from_list (take_more xs i 0 h ∙ ap (λ x. take i xs ++ x ∷ []) (sym k_is)) ∙ set.from_list_push nat_cmp_total set.nat_cmp-IsAntisymmetric (take i xs) k)
