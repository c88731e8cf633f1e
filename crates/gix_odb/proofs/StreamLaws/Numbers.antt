-- The number of a new stream: no open stream has it. And maps of streams at two different numbers.
use Rattle.std.specs.Prelude.{find}
use Rattle.std.proofs.Common.{◌≡◌, ◌≢◌, ℕ, ◌+◌, ◌≤◌, ◌==◌, ◌||◌, Bool, true, false, cond, not, unwrap_or, List, [], ◌∷◌, Option, Some, None}
use Rattle.std.proofs.Common.{is_some, refl, sym, ap, ◌∙◌, eqb-true, arith}
use Rattle.std.proofs.lemmas.Bool.{false_from_ne_true, not-true}
use Rattle.std.specs.Cmp.{eq_by_cmp_equiv, nat_cmp_total, unsigned_tied}
use Rattle.std.specs.FinMap as finite
use Rattle.std.specs.FinMap.{contains_key-keys, get-insert, get-remove}
use Rattle.std.specs.List.{list_any, range_with_len}
use Rattle.std.specs.Ordering.{eq_by_cmp, nat_cmp}
use Rattle.odb_disk.proofs.TreeLemmas.Numbers.{fold_max-le}
use Rattle.odb_disk.specs.declared.entry.Entry.{Entry}
use Rattle.odb_disk.specs.StreamAsks.{greatest_open, least_closed}
use Rattle.odb_disk.specs.Streams.{Streams, is_open, still_gives}

-- ---- the least number that no open stream has

tied_numbers : (ns : List ℕ) (n : ℕ) → list_any (eq_by_cmp nat_cmp n) ns ≡ list_any (λ m. m == n) ns
tied_numbers [] n = refl
tied_numbers (m ∷ ns) n =
    ap (λ b. b || list_any (eq_by_cmp nat_cmp n) ns) ((eq_by_cmp_equiv nat_cmp_total).symm n m ∙ unsigned_tied m n)
    ∙ ap (λ b. (m == n) || b) (tied_numbers ns n)

at_most_greatest : (streams : Streams) (n : ℕ) → is_open streams n ≡ true → n ≤ greatest_open streams
at_most_greatest streams n is =
    fold_max-le 0 (finite.keys streams.open_dirs) n (sym (tied_numbers (finite.keys streams.open_dirs) n) ∙ sym (contains_key-keys streams.open_dirs n) ∙ is)

-- what is found passes the test, as does the default
found_passes : (test : ℕ → Bool) (default : ℕ) → test default ≡ true → (ns : List ℕ) → test (unwrap_or (find test ns) default) ≡ true
found_passes test default passes [] = passes
found_passes test default passes (n ∷ ns) =
    elim (test n) as (λ b. test n ≡ b → test (unwrap_or (cond b (Some n) (find test ns)) default) ≡ true) [
      | true ↦ λ is. is
      | false ↦ λ _. found_passes test default passes ns
    ] refl

pub least_closed_is_free : (streams : Streams) → still_gives streams (least_closed streams) ≡ None
unfolding least_closed
least_closed_is_free streams =
    let closed = found_passes (λ dir. not (is_open streams dir)) above (ap not past) (range_with_len 0 above) in
    none_from (still_gives streams least) (not-true (is_open streams least) closed)
  where
    above : ℕ
    above = greatest_open streams + 1

    least : ℕ
    least = unwrap_or (find (λ dir. not (is_open streams dir)) (range_with_len 0 above)) above

    past : is_open streams above ≡ false
    past = false_from_ne_true _ (λ is. let over = at_most_greatest streams above is in absurd (omega arith))

    none_from : (o : Option (List Entry)) → is_some o ≡ false → o ≡ None
    none_from None e = refl
    none_from (Some entries) e = absurd (cc)

-- ---- maps at two numbers

apart_numbers : (m n : ℕ) → m ≢ n → eq_by_cmp nat_cmp m n ≡ false
apart_numbers m n apart = false_from_ne_true _ (λ tied. apart (eqb-true m n (sym (unsigned_tied m n) ∙ tied)))

module _ (open_dirs : finite.FinMap nat_cmp (List Entry)) (dir : ℕ) where
  pub get-insert_same : (entries : List Entry) → finite.get (finite.insert open_dirs dir entries) dir ≡ Some entries
  get-insert_same entries =
      get-insert nat_cmp_total open_dirs dir entries dir ∙ ap (λ b. cond b (Some entries) (finite.get open_dirs dir)) ((eq_by_cmp_equiv nat_cmp_total).refl dir)

  pub get-remove_same : finite.get (finite.remove open_dirs dir) dir ≡ None
  get-remove_same = get-remove nat_cmp_total open_dirs dir dir ∙ ap (λ b. cond b None (finite.get open_dirs dir)) ((eq_by_cmp_equiv nat_cmp_total).refl dir)

  module _ (other : ℕ) (apart : dir ≢ other) where
    pub get-insert_other : (entries : List Entry) → finite.get (finite.insert open_dirs other entries) dir ≡ finite.get open_dirs dir
    get-insert_other entries =
        get-insert nat_cmp_total open_dirs other entries dir ∙ ap (λ b. cond b (Some entries) (finite.get open_dirs dir)) (apart_numbers dir other apart)

    pub get-remove_other : finite.get (finite.remove open_dirs other) dir ≡ finite.get open_dirs dir
    get-remove_other = get-remove nat_cmp_total open_dirs other dir ∙ ap (λ b. cond b None (finite.get open_dirs dir)) (apart_numbers dir other apart)
