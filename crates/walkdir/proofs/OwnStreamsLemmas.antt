-- Laws of a walk's streams next to all others: one is opened, drawn from, or closed.
use Rattle.std.proofs.Common.{◌≡◌, ℕ, zero, suc, ◌+◌, ◌-◌, ◌≤◌, Bool, true, false, max, cond, List, [], ◌∷◌, ◌++◌, length, Option, Some, None, is_some, refl, sym, ap, subst, ◌∙◌, arith, add-one}
use Rattle.std.specs.FinMap as finite
use Rattle.std.specs.FinMap.{empty_of_len, get-empty, get-insert, get-remove, len-remove, same_map, nat_cmp-IsAntisymmetric}
use Rattle.std.specs.Ordering.{eq_by_cmp, is_eq, nat_cmp}
use Rattle.std.specs.Cmp.{eq_by_cmp_equiv, nat_cmp_total}
use Rattle.std.specs.declared.cmp.Ordering.{Ordering}
use Rattle.std.specs.declared.cmp.Ordering.TheVariants.{Less, Equal, Greater}
use Rattle.odb_disk.specs.declared.entry.Entry.{Entry}
use Rattle.odb_disk.specs.Streams.{Streams, open_count}
use Rattle.walkdir.specs.OwnStreams.{OpenDirs, AreBeside, Owns, AreBack}

abbrev pub tied : ℕ → ℕ → Bool
tied = eq_by_cmp nat_cmp

pub same_number : (q n : ℕ) → tied q n ≡ true → q ≡ n
same_number q n t = nat_cmp-IsAntisymmetric q n (equal_of _ t)
  where
    equal_of : (o : Ordering) → is_eq o ≡ true → o ≡ Equal
    equal_of Less e = cc
    equal_of Equal e = refl
    equal_of Greater e = cc

turned : (q n : ℕ) → tied q n ≡ false → tied n q ≡ false
turned q n t = (eq_by_cmp_equiv nat_cmp_total).symm n q ∙ t

alike : (a b : OpenDirs) → ((q : ℕ) → finite.get a q ≡ finite.get b q) → a ≡ b
alike a b is = same_map nat_cmp_total nat_cmp-IsAntisymmetric a b is

-- ---- maps with one number put in or taken out

pub at_remove : (m : OpenDirs) (d q : ℕ) → finite.get (finite.remove m d) q ≡ cond (tied q d) None (finite.get m q)
at_remove m d q = get-remove nat_cmp_total m d q

pub at_insert : (m : OpenDirs) (d : ℕ) (es : List Entry) (q : ℕ) → finite.get (finite.insert m d es) q ≡ cond (tied q d) (Some es) (finite.get m q)
at_insert m d es q = get-insert nat_cmp_total m d es q

remove_remove : (m : OpenDirs) (a b : ℕ) → finite.remove (finite.remove m a) b ≡ finite.remove (finite.remove m b) a
remove_remove m a b = alike _ _ (λ q.
    at_remove (finite.remove m a) b q ∙ ap (cond (tied q b) None) (at_remove m a q) ∙ crossed (tied q a) (tied q b) (finite.get m q)
    ∙ sym (at_remove (finite.remove m b) a q ∙ ap (cond (tied q a) None) (at_remove m b q)))
  where
    crossed : (x y : Bool) (o : Option (List Entry)) → cond y None (cond x None o) ≡ cond x None (cond y None o)
    crossed true true o = refl
    crossed true false o = refl
    crossed false true o = refl
    crossed false false o = refl

pub remove_new : (m : OpenDirs) (d : ℕ) (es : List Entry) → finite.get m d ≡ None → finite.remove (finite.insert m d es) d ≡ m
remove_new m d es free = alike _ _ (λ q.
    at_remove (finite.insert m d es) d q ∙ ap (cond (tied q d) None) (at_insert m d es q)
    ∙ elim (tied q d) as (λ b. tied q d ≡ b → cond b None (cond b (Some es) (finite.get m q)) ≡ finite.get m q) [
      | true ↦ λ t. sym (ap (finite.get m) (same_number q d t) ∙ free)
      | false ↦ λ _. refl
    ] refl)

pub remove_again : (m : OpenDirs) (d : ℕ) (es : List Entry) → finite.remove (finite.insert m d es) d ≡ finite.remove m d
remove_again m d es = alike _ _ (λ q.
    at_remove (finite.insert m d es) d q ∙ ap (cond (tied q d) None) (at_insert m d es q) ∙ hidden (tied q d) (finite.get m q)
    ∙ sym (at_remove m d q))
  where
    hidden : (b : Bool) (o : Option (List Entry)) → cond b None (cond b (Some es) o) ≡ cond b None o
    hidden true o = refl
    hidden false o = refl

remove_other : (m : OpenDirs) (h d : ℕ) (es : List Entry) → tied d h ≡ false → finite.remove (finite.insert m d es) h
    ≡ finite.insert (finite.remove m h) d es
remove_other m h d es apart = alike _ _ (λ q.
    at_remove (finite.insert m d es) h q ∙ ap (cond (tied q h) None) (at_insert m d es q)
    ∙ elim (tied q d) as (λ b. tied q d ≡ b → cond (tied q h) None (cond b (Some es) (finite.get m q))
    ≡ cond b (Some es) (cond (tied q h) None (finite.get m q))) [
      | true ↦ λ t. ap (λ b. cond b None (Some es)) (ap (λ n. tied n h) (same_number q d t) ∙ apart)
      | false ↦ λ _. refl
    ] refl
    ∙ sym (at_insert (finite.remove m h) d es q ∙ ap (cond (tied q d) (Some es)) (at_remove m h q)))

pub insert_again : (m : OpenDirs) (d : ℕ) (es fs : List Entry) → finite.insert (finite.insert m d es) d fs ≡ finite.insert m d fs
insert_again m d es fs = alike _ _ (λ q.
    at_insert (finite.insert m d es) d fs q ∙ ap (cond (tied q d) (Some fs)) (at_insert m d es q) ∙ hidden (tied q d) (finite.get m q)
    ∙ sym (at_insert m d fs q))
  where
    hidden : (b : Bool) (o : Option (List Entry)) → cond b (Some fs) (cond b (Some es) o) ≡ cond b (Some fs) o
    hidden true o = refl
    hidden false o = refl

pub has_inserted : (m : OpenDirs) (d : ℕ) (es : List Entry) → finite.get (finite.insert m d es) d ≡ Some es
has_inserted m d es = at_insert m d es d ∙ ap (λ b. cond b (Some es) (finite.get m d)) ((eq_by_cmp_equiv nat_cmp_total).refl d)

pub open_apart : (m : OpenDirs) (h d : ℕ) → finite.contains_key (finite.remove m h) d ≡ true → tied d h ≡ false
open_apart m h d opened = elim (tied d h) as (λ b. tied d h ≡ b → b ≡ false) [
  | true ↦ λ t.
      let gone : finite.get (finite.remove m h) d ≡ None = at_remove m h d ∙ ap (λ b. cond b None (finite.get m d)) t in
      let no : false ≡ true = sym (ap is_some gone) ∙ opened in
      cc
  | false ↦ λ _. refl
] refl

open_before : (m : OpenDirs) (h d : ℕ) → finite.contains_key (finite.remove m h) d ≡ true → finite.contains_key m d ≡ true
open_before m h d opened =
    ap is_some (sym (at_remove m h d ∙ ap (λ b. cond b None (finite.get m d)) (open_apart m h d opened))) ∙ opened

still_open : (m : OpenDirs) (h d : ℕ) → tied h d ≡ false → finite.contains_key m h ≡ true → finite.contains_key (finite.remove m d) h ≡ true
still_open m h d apart opened = ap is_some (at_remove m d h ∙ ap (λ b. cond b None (finite.get m h)) apart) ∙ opened

kept_open : (m : OpenDirs) (h d : ℕ) (es : List Entry) → tied h d ≡ false → finite.contains_key m h ≡ true
    → finite.contains_key (finite.insert m d es) h ≡ true
kept_open m h d es apart opened = ap is_some (at_insert m d es h ∙ ap (λ b. cond b (Some es) (finite.get m h)) apart) ∙ opened

-- ---- streams next to others

pub own_is_open : (others : OpenDirs) (inner : List ℕ) (d : ℕ) (outer : List ℕ) (now : OpenDirs) → AreBeside others (inner ++ d ∷ outer) now
    → finite.contains_key now d ≡ true
unfolding AreBeside
own_is_open others [] d outer now beside = beside.0
own_is_open others (h ∷ inner) d outer now beside = open_before now h d (own_is_open others inner d outer (finite.remove now h) beside.1)

apart_from : (others : OpenDirs) (h : ℕ) (inner : List ℕ) (d : ℕ) (outer : List ℕ) (now : OpenDirs) → AreBeside others (inner ++ d ∷ outer)
    (finite.remove now h) → tied d h ≡ false
apart_from others h inner d outer now beside = open_apart now h d (own_is_open others inner d outer (finite.remove now h) beside)

-- one of its own is closed
pub one_closed : (others : OpenDirs) (inner : List ℕ) (d : ℕ) (outer : List ℕ) (now : OpenDirs) → AreBeside others (inner ++ d ∷ outer) now
    → AreBeside others (inner ++ outer) (finite.remove now d)
unfolding AreBeside
one_closed others [] d outer now beside = beside.1
one_closed others (h ∷ inner) d outer now beside =
    let apart : tied h d ≡ false = turned d h (apart_from others h inner d outer now beside.1) in (
      still_open now h d apart beside.0,
      subst (AreBeside others (inner ++ outer)) (remove_remove now h d)
          (one_closed others inner d outer (finite.remove now h) beside.1),
    )

-- one of its own gives less
pub one_drawn : (others : OpenDirs) (inner : List ℕ) (d : ℕ) (outer : List ℕ) (now : OpenDirs) (es : List Entry)
    → AreBeside others (inner ++ d ∷ outer) now
    → AreBeside others (inner ++ d ∷ outer) (finite.insert now d es)
unfolding AreBeside
one_drawn others [] d outer now es beside =
    (ap is_some (has_inserted now d es), subst (AreBeside others outer) (sym (remove_again now d es)) beside.1)
one_drawn others (h ∷ inner) d outer now es beside =
    let apart : tied d h ≡ false = apart_from others h inner d outer now beside.1 in (
      kept_open now h d es (turned d h apart) beside.0,
      subst (AreBeside others (inner ++ d ∷ outer)) (sym (remove_other now h d es apart))
          (one_drawn others inner d outer (finite.remove now h) es beside.1),
    )

-- one more is opened
pub one_opened : (others : OpenDirs) (own : List ℕ) (d : ℕ) (now : OpenDirs) (es : List Entry) → finite.get now d ≡ None → AreBeside others own now
    → AreBeside others (d ∷ own) (finite.insert now d es)
unfolding AreBeside
one_opened others own d now es free beside =
    (ap is_some (has_inserted now d es), subst (AreBeside others own) (sym (remove_new now d es free)) beside)

-- how many are open
some_open : (m : OpenDirs) (d n : ℕ) → finite.len m ≡ n → finite.contains_key m d ≡ true → 1 ≤ finite.len m
some_open m d zero is opened =
    let none : finite.get m d ≡ None = ap (λ (x : OpenDirs). finite.get x d) (empty_of_len m is) ∙ get-empty nat_cmp d in
    let no : false ≡ true = sym (ap is_some none) ∙ opened in
    cc
some_open m d (suc n) is opened = omega arith

pub count_open : (others : OpenDirs) (own : List ℕ) (now : OpenDirs) → AreBeside others own now → finite.len now ≡ finite.len others + length own
unfolding AreBeside
count_open others [] now beside = let e : finite.len now ≡ finite.len others = ap finite.len beside in omega arith
count_open others (d ∷ own) now beside =
    let less : finite.len (finite.remove now d) ≡ finite.len others + length own = count_open others own (finite.remove now d) beside.1 in
    let one : finite.len (finite.remove now d) ≡ finite.len now - 1 = len-remove nat_cmp_total now d
    ∙ ap (λ b. cond b (finite.len now - 1) (finite.len now)) beside.0 in
    let some : 1 ≤ finite.len now = some_open now d (finite.len now) refl beside.0 in
    omega arith

-- ---- what a walk owns

pub owns_closed : (before : Streams) (most : ℕ) (inner : List ℕ) (d : ℕ) (outer : List ℕ) (now : Streams) → Owns before most (inner ++ d ∷ outer) now
    → length (inner ++ outer) ≤ most → Owns before most (inner ++ outer) (record now { open_dirs = finite.remove now.open_dirs d })
owns_closed before most inner d outer now owns few = record {
  beside = one_closed before.open_dirs inner d outer now.open_dirs owns.beside;
  few = few;
  peak = owns.peak;
}

pub owns_drawn : (before : Streams) (most : ℕ) (inner : List ℕ) (d : ℕ) (outer : List ℕ) (now : Streams) (es : List Entry)
    → Owns before most (inner ++ d ∷ outer) now
    → Owns before most (inner ++ d ∷ outer) (record now { open_dirs = finite.insert now.open_dirs d es })
owns_drawn before most inner d outer now es owns = record {
  beside = one_drawn before.open_dirs inner d outer now.open_dirs es owns.beside;
  few = owns.few;
  peak = owns.peak;
}

-- the most that were open, if one more was, and there was room for it
pub peak_within : (before : Streams) (most : ℕ) (own : List ℕ) (now : Streams) (peak : ℕ) → Owns before most own now → length own + 1 ≤ most
    → peak ≤ max now.peak (open_count now + 1) → peak ≤ max before.peak (open_count before + most)
peak_within before most own now peak owns room more =
    let count : open_count now ≡ open_count before + length own = count_open before.open_dirs own now.open_dirs owns.beside in
    let was : now.peak ≤ max before.peak (open_count before + most) = owns.peak in
    omega arith

pub owns_opened : (before : Streams) (most : ℕ) (own : List ℕ) (d : ℕ) (now new : Streams) (es : List Entry) → Owns before most own now
    → length own + 1 ≤ most
    → finite.get now.open_dirs d ≡ None → new.open_dirs ≡ finite.insert now.open_dirs d es → new.peak ≤ max now.peak (open_count now + 1)
    → Owns before most (d ∷ own) new
owns_opened before most own d now new es owns room free is more = record {
  beside = subst (AreBeside before.open_dirs (d ∷ own)) (sym is) (one_opened before.open_dirs own d now.open_dirs es free owns.beside);
  few = omega (arith, add-one (length own));
  peak = peak_within before most own now new.peak owns room more;
}

pub owns_same : (before : Streams) (most : ℕ) (own : List ℕ) (now new : Streams) → Owns before most own now → length own + 1 ≤ most
    → new.open_dirs ≡ now.open_dirs → new.peak ≤ max now.peak (open_count now + 1) → Owns before most own new
owns_same before most own now new owns room is more = record {
  beside = subst (AreBeside before.open_dirs own) (sym is) owns.beside;
  few = owns.few;
  peak = peak_within before most own now new.peak owns room more;
}

pub owns_none : (before : Streams) (most : ℕ) (now : Streams) → Owns before most [] now → AreBack before most now
unfolding AreBeside
owns_none before most now owns = record { same = owns.beside; peak = owns.peak }
