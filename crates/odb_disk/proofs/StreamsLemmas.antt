-- Laws of open streams: a map of the code as a finite map.
use Rattle.std.proofs.Common.{◌≡◌, ℕ, ◌+◌, ◌<◌, ◌≤◌, Bool, true, false, List, [], ◌∷◌, map, length, Option, Some, None, Ok, Err, IfSome, is_some, cond, refl, sym, ap, ◌∙◌, subst, add-one, arith}
use borrow.Author.Count.{below_more}
use Rattle.std.specs.Option.{IfNone, option_or}
use Rattle.std.specs.List.{AllByRecursion}
use Rattle.std.specs.List.Sorted.{IsStrictlySortedBy}
use Rattle.std.specs.FinMap as finite
use Rattle.std.specs.FinMap.{find, get-from_entries, get-insert, get-remove, len-empty, len-insert, same_map, nat_cmp-IsAntisymmetric}
use Rattle.std.specs.Ordering.{eq_by_cmp, is_eq, nat_cmp}
use Rattle.std.specs.declared.cmp.Ordering.{Ordering}
use Rattle.std.specs.declared.cmp.Ordering.TheVariants.{Less, Equal, Greater}
use Rattle.std.specs.Cmp.{eq_by_cmp_equiv, nat_cmp_total}
use Rattle.std.specs.Map.{lookup}
use Rattle.std.specs.BTreeMap.{is_at}
use Rattle.odb_base.specs.Path.{is_name}
use Rattle.odb_disk.specs.StreamNumbers.{AreOpenBelow}
use Rattle.odb_disk.specs.Streams.{Gives, IsAtEnd, IsClosed, IsLeastClosed, GivesFirst, TakesNext, lists_only, still_gives, with_opened, Streams}
use Rattle.odb_disk.specs.declared.entry.Entry.{Entry}
use Rattle.odb_disk.specs.declared.disk_error.DiskError.TheVariants as errors

abbrev Lists : Type 0
Lists = List (ℕ × List Entry)

find-lookup : (es : Lists) (q : ℕ) → find nat_cmp q es ≡ lookup (is_at (nat_cmp q)) es
find-lookup [] q = refl
find-lookup (e ∷ es) q = ap (cond (eq_by_cmp nat_cmp q e.0) (Some e.1)) (find-lookup es q)

-- what a stream gives, by the map of the code
pub get-lists : (es : Lists) (q : ℕ) → finite.get (finite.from_entries {R = nat_cmp} es) q ≡ lookup (is_at (nat_cmp q)) es
get-lists es q = get-from_entries nat_cmp_total es q ∙ find-lookup es q

-- maps that differ at one number
pub lists_put : (es fs : Lists) (k : ℕ) (v : List Entry) → ((q : ℕ) → lookup (is_at (nat_cmp q)) fs ≡ cond (is_at (nat_cmp k) q) (Some v) (lookup (is_at (nat_cmp q)) es))
    → finite.from_entries {R = nat_cmp} fs ≡ finite.insert (finite.from_entries es) k v
lists_put es fs k v h = same_map nat_cmp_total nat_cmp-IsAntisymmetric _ _ (λ q.
    get-lists fs q ∙ h q ∙ ap (λ b. cond b (Some v) (lookup (is_at (nat_cmp q)) es)) ((eq_by_cmp_equiv nat_cmp_total).symm k q)
    ∙ sym (get-insert nat_cmp_total (finite.from_entries es) k v q ∙ ap (cond (eq_by_cmp nat_cmp q k) (Some v)) (get-lists es q)))

pub lists_take : (es fs : Lists) (k : ℕ) → ((q : ℕ) → lookup (is_at (nat_cmp q)) fs ≡ cond (is_at (nat_cmp k) q) None (lookup (is_at (nat_cmp q)) es))
    → finite.from_entries {R = nat_cmp} fs ≡ finite.remove (finite.from_entries es) k
lists_take es fs k h = same_map nat_cmp_total nat_cmp-IsAntisymmetric _ _ (λ q.
    get-lists fs q ∙ h q ∙ ap (λ b. cond b None (lookup (is_at (nat_cmp q)) es)) ((eq_by_cmp_equiv nat_cmp_total).symm k q)
    ∙ sym (get-remove nat_cmp_total (finite.from_entries es) k q ∙ ap (cond (eq_by_cmp nat_cmp q k) None) (get-lists es q)))

-- what is taken from a stream doesn't depend on how many were open
pub TakesNext-peak : (es fs : Lists) (peak dir : ℕ) (result : Option (Option Entry)) → TakesNext (lists_only es) (lists_only fs) dir result
    → TakesNext (record { open_dirs = finite.from_entries es; peak = peak }) (record { open_dirs = finite.from_entries fs; peak = peak }) dir result
TakesNext-peak es fs peak dir None is = record { closed = is.closed; same = ap (λ (s : Streams). record s { peak = peak }) is.same }
TakesNext-peak es fs peak dir (Some None) is = record { ended = is.ended; same = ap (λ (s : Streams). record s { peak = peak }) is.same }
TakesNext-peak es fs peak dir (Some (Some entry)) is =
    record { rest = is.rest; first = is.first; left = ap (λ (s : Streams). record s { peak = peak }) is.left; named = is.named }

-- ---- an entry that is taken

same_number : (q n : ℕ) → eq_by_cmp nat_cmp q n ≡ true → q ≡ n
same_number q n tied = nat_cmp-IsAntisymmetric q n (equal_of _ tied)
  where
    equal_of : (o : Ordering) → is_eq o ≡ true → o ≡ Equal
    equal_of Less e = cc
    equal_of Equal e = refl
    equal_of Greater e = cc

-- a stream that gives what it gave is as it was
insert_same : (m : finite.FinMap nat_cmp (List Entry)) (n : ℕ) (v : List Entry) → finite.get m n ≡ Some v → finite.insert m n v ≡ m
insert_same m n v at = same_map nat_cmp_total nat_cmp-IsAntisymmetric _ _ (λ q.
    get-insert nat_cmp_total m n v q ∙ elim (eq_by_cmp nat_cmp q n) as (λ b. eq_by_cmp nat_cmp q n ≡ b → cond b (Some v) (finite.get m q) ≡ finite.get m q) [
      | true ↦ λ tied. sym at ∙ ap (finite.get m) (sym (same_number q n tied))
      | false ↦ λ _. refl
    ] refl)

pub taken : (es fs : Lists) (n : ℕ) (old new : List Entry) (r : Option Entry) → lookup (is_at (nat_cmp n)) es ≡ Some old
    → ((q : ℕ) → lookup (is_at (nat_cmp q)) fs ≡ cond (is_at (nat_cmp n) q) (Some new) (lookup (is_at (nat_cmp q)) es))
    → IfSome r (λ entry. old ≡ entry ∷ new) → IfNone r (old ≡ []) → IfNone r (new ≡ old)
    → IfSome r (λ entry. is_name entry.name ≡ true) → TakesNext (lists_only es) (lists_only fs) n (Some r)
taken es fs n old new None found put first none kept named =
    let at = get-lists es n ∙ found in
    record {
      ended = at ∙ ap Some none;
      same = ap (λ m. record { open_dirs = m; peak = 0 }) (lists_put es fs n new put ∙ ap (finite.insert (finite.from_entries es) n) kept ∙ insert_same (finite.from_entries es) n old at);
    }
taken es fs n old new (Some entry) found put first none kept named = record {
  rest = new;
  first = get-lists es n ∙ found ∙ ap Some first;
  left = ap (λ m. record { open_dirs = m; peak = 0 }) (lists_put es fs n new put);
  named = named;
}

-- what is taken from a stream is what a call gives
module _ (seen old new : Streams) (dir : ℕ) (same : seen ≡ old) where
  pub gives : (r : Option Entry) → TakesNext seen new dir (Some r) → Gives old new dir (Ok r)
  gives None is = subst (λ s. IsAtEnd s new dir) same is
  gives (Some entry) is = subst (λ s. GivesFirst s new dir entry) same is

  pub gives_absent : TakesNext seen new dir None → Gives old new dir (Err errors.Absent)
  gives_absent is = subst (λ s. IsClosed s new dir) same is

-- a stream that was just opened gives what it was opened with
pub gives_opened : (streams : Streams) (dir : ℕ) (entries : List Entry) → still_gives (with_opened streams dir entries) dir ≡ Some entries
gives_opened streams dir entries =
    get-insert nat_cmp_total streams.open_dirs dir entries dir ∙ ap (λ b. cond b (Some entries) (finite.get streams.open_dirs dir)) ((eq_by_cmp_equiv nat_cmp_total).refl dir)

-- no stream has a number that is free
pub free_number : (m : finite.FinMap nat_cmp (List Entry)) (dir : ℕ) → IsLeastClosed m dir → finite.get m dir ≡ None
free_number m dir is = none_from (finite.get m dir) is.free
  where
    none_from : (o : Option (List Entry)) → is_some o ≡ false → o ≡ None
    none_from None e = refl
    none_from (Some entries) e = absurd (cc)

-- ---- how many streams are open

none_above : (n : ℕ) (es : Lists) → AllByRecursion (λ k. nat_cmp n k ≡ Less) (map (λ e. e.0) es) → find nat_cmp n es ≡ None
none_above n [] all = refl
none_above n (e ∷ es) all = ap (λ o. cond (is_eq o) (Some e.1) (find nat_cmp n es)) all.0 ∙ none_above n es all.1

pub len-lists : (es : Lists) → IsStrictlySortedBy nat_cmp (map (λ e. e.0) es) → finite.len (finite.from_entries {R = nat_cmp} es) ≡ length es
unfolding IsStrictlySortedBy
len-lists [] sorted = len-empty nat_cmp (List Entry)
len-lists (e ∷ es) sorted =
    let m = finite.from_entries {R = nat_cmp} es in
    let free : finite.contains_key m e.0 ≡ false = ap is_some (get-from_entries nat_cmp_total es e.0 ∙ none_above e.0 es sorted.0) in
    let more : finite.len (finite.insert m e.0 e.1) ≡ finite.len m + 1 = len-insert nat_cmp_total m e.0 e.1 ∙ ap (λ b. cond b (finite.len m) (finite.len m + 1)) free in
    more ∙ ap (λ n. n + 1) (len-lists es sorted.1) ∙ add-one (length es)

-- ---- copies of streams: each is copied already, or is still to come

pub none_copied : (all none rest : Lists) (q : ℕ) → none ≡ [] → rest ≡ all
    → finite.get (finite.from_entries {R = nat_cmp} all) q ≡ option_or (finite.get (finite.from_entries {R = nat_cmp} none) q) (lookup (is_at (nat_cmp q)) rest)
none_copied all none rest q empty whole =
    get-lists all q ∙ ap (lookup (is_at (nat_cmp q))) (sym whole)
    ∙ ap (λ o. option_or o (lookup (is_at (nat_cmp q)) rest)) (sym (ap (λ es. finite.get (finite.from_entries {R = nat_cmp} es) q) empty ∙ get-lists [] q))

pub one_copied : (a t u : finite.FinMap nat_cmp (List Entry)) (n : ℕ) (v : List Entry) (rest more : Lists) → finite.get a n ≡ Some v → rest ≡ (n, v) ∷ more → u ≡ finite.insert t n v
    → ((q : ℕ) → finite.get a q ≡ option_or (finite.get t q) (lookup (is_at (nat_cmp q)) rest)) → (q : ℕ) → finite.get a q ≡ option_or (finite.get u q) (lookup (is_at (nat_cmp q)) more)
one_copied a t u n v rest more at next put so_far q =
    elim (eq_by_cmp nat_cmp q n) as (λ b. eq_by_cmp nat_cmp q n ≡ b → finite.get a q ≡ option_or (finite.get u q) (lookup (is_at (nat_cmp q)) more)) [
      | true ↦ λ tied.
          ap (finite.get a) (same_number q n tied) ∙ at
          ∙ ap (λ o. option_or o (lookup (is_at (nat_cmp q)) more)) (sym (ap (λ m. finite.get m q) put ∙ get-insert nat_cmp_total t n v q ∙ ap (λ b. cond b (Some v) (finite.get t q)) tied))
      | false ↦ λ apart.
          so_far q ∙ ap (option_or (finite.get t q)) (ap (lookup (is_at (nat_cmp q))) next ∙ ap (λ b. cond b (Some v) (lookup (is_at (nat_cmp q)) more)) apart)
          ∙ ap (λ o. option_or o (lookup (is_at (nat_cmp q)) more)) (sym (ap (λ m. finite.get m q) put ∙ get-insert nat_cmp_total t n v q ∙ ap (λ b. cond b (Some v) (finite.get t q)) apart))
    ] refl

pub all_copied : (a t : finite.FinMap nat_cmp (List Entry)) (rest : Lists) → rest ≡ [] → ((q : ℕ) → finite.get a q ≡ option_or (finite.get t q) (lookup (is_at (nat_cmp q)) rest)) → t ≡ a
all_copied a t rest none so_far =
    same_map nat_cmp_total nat_cmp-IsAntisymmetric t a (λ q. sym (so_far q ∙ ap (option_or (finite.get t q)) (ap (lookup (is_at (nat_cmp q))) none) ∙ or_none (finite.get t q)))
  where
    or_none : (o : Option (List Entry)) → option_or o None ≡ o
    or_none None = refl
    or_none (Some entries) = refl

-- ---- numbers below which each is that of an open stream

pub none_below : (m : finite.FinMap nat_cmp (List Entry)) → AreOpenBelow m 0
none_below m = record { each = λ n h. absurd (omega arith) }

still_some : (b : Bool) (v : List Entry) (o : Option (List Entry)) → is_some o ≡ true → is_some (cond b (Some v) o) ≡ true
still_some true v o some = refl
still_some false v o some = some

open_put : (m : finite.FinMap nat_cmp (List Entry)) (k : ℕ) (v : List Entry) (bound : ℕ) → AreOpenBelow m bound → AreOpenBelow (finite.insert m k v) bound
open_put m k v bound open_below = record { each = λ n h. ap is_some (get-insert nat_cmp_total m k v n) ∙ still_some (eq_by_cmp nat_cmp n k) v (finite.get m n) (open_below.each n h) }

-- the least number that no stream has, once it has one
pub open_more : (m : finite.FinMap nat_cmp (List Entry)) (k : ℕ) (v : List Entry) → IsLeastClosed m k → AreOpenBelow (finite.insert m k v) (k + 1)
open_more m k v closed =
    let below : AreOpenBelow (finite.insert m k v) k = open_put m k v k (record { each = closed.least }) in
    let own : finite.contains_key (finite.insert m k v) k ≡ true =
    ap is_some (get-insert nat_cmp_total m k v k) ∙ ap (λ b. is_some (cond b (Some v) (finite.get m k))) ((eq_by_cmp_equiv nat_cmp_total).refl k) in
    record { each = below_more (λ n. finite.contains_key (finite.insert m k v) n ≡ true) k below.each own }

apart_below : (n k : ℕ) → n < k → eq_by_cmp nat_cmp n k ≡ false
apart_below n k lt = elim (eq_by_cmp nat_cmp n k) as (λ b. eq_by_cmp nat_cmp n k ≡ b → b ≡ false) [
  | true ↦ λ tied. let same = same_number n k tied in absurd (omega arith)
  | false ↦ λ _. refl
] refl

-- a stream that is closed, up to its number
pub open_less : (m : finite.FinMap nat_cmp (List Entry)) (k bound low : ℕ) → low ≤ bound → low ≤ k → AreOpenBelow m bound → AreOpenBelow (finite.remove m k) low
open_less m k bound low under under_k open_below = record {
  each = λ n h.
      ap is_some (get-remove nat_cmp_total m k n) ∙ ap (λ b. is_some (cond b None (finite.get m n))) (apart_below n k (omega arith)) ∙ open_below.each n (omega arith);
}

-- what is taken from a stream closes none
pub open_taken : (es fs : Lists) (n bound : ℕ) (r : Option (Option Entry)) → TakesNext (lists_only es) (lists_only fs) n r
    → AreOpenBelow (finite.from_entries es) bound → AreOpenBelow (finite.from_entries fs) bound
open_taken es fs n bound None is open_below = subst (λ (s : Streams). AreOpenBelow s.open_dirs bound) (sym is.same) open_below
open_taken es fs n bound (Some None) is open_below = subst (λ (s : Streams). AreOpenBelow s.open_dirs bound) (sym is.same) open_below
open_taken es fs n bound (Some (Some entry)) is open_below =
    subst (λ (s : Streams). AreOpenBelow s.open_dirs bound) (sym is.left) (open_put (finite.from_entries es) n is.rest bound open_below)
