-- Lemmas on items that are given by their numbers.
use Rattle.std.proofs.Common.{◌≡◌, ◌≢◌, ℕ, ◌+◌, ◌<◌, ◌≤◌, ap, Option, Some, None, Result, Ok, Err, IsSome, true, List, [], ◌∷◌, map, inl, inr, refl, sym, subst, ◌∙◌, rules, arith}
use Rattle.std.specs.Ordering.{nat_cmp}
use Rattle.std.specs.Option.{option_or}
use Rattle.std.specs.BTreeMap.{BTreeMap, get, is_at, IsUnchanged, UpdatesBy}
use Rattle.std.specs.Map.{lookup}
use Rattle.gix_features_parts.proofs.NumberedLemmas.{item_here, item_there, changed_here, changed_there, none_or_some, not_some, none_if_not}
use Rattle.gix_features_parts.specs.InOrder.{Waiting, Changes, CameBefore, AreEarly, WaitToo, At, IsGivenFor, Comes, item_numbered}
use Rattle.gix_features_parts.specs.declared.parallel.in_order.InOrderError.{InOrderError}
use Rattle.gix_features_parts.specs.declared.parallel.in_order.InOrderError.TheVariants.{Inner, OutOfSequence, NoMemory}
use Rattle.gix_features_parts.specs.InOrderState.{IsRefusal}
use Rattle.std.specs.Iterator.{Count, size, Yields}
use Rattle.std.proofs.lemmas.Bool.{cases_lt}
use Rattle.std.proofs.lemmas.Bool.Decides.{eqb_tells}

-- a map that was changed at one number
pub Changes-map : {T : Type 0} (number : ℕ) (item : Option T) (before after : BTreeMap ℕ T) → UpdatesBy nat_cmp (nat_cmp number) before after item
    → Changes (get nat_cmp before) number item (get nat_cmp after)
Changes-map number item before after updates = search (rules, updates.0)

-- what a map has depends on its entries
pub get-entries : {T : Type 0} (before after : BTreeMap ℕ T) → IsUnchanged before after → get nat_cmp after ≡ get nat_cmp before
get-entries before after same = ap (λ entries k. lookup (is_at (nat_cmp k)) entries) same

-- ---- items that come

-- what comes from the second state on may come from the first one on
pub record ComesOn {S T E : Type 0} (steps : S → Option (Result (ℕ × T) E) → S → Type 0) (first second : At S T) : Type 0 where
  pub then : (result : Option (Result T (InOrderError E))) (after : At S T) → Comes steps second result after → Comes steps first result after

-- an item that comes before its turn is early, and so are those that follow it
module _ {T : Type 0} (next number : ℕ) (item : T) (before kept : Waiting T) (pairs : List (ℕ × T)) (apart : number ≢ next)
    (new : CameBefore next before number → ⊥) (changes : Changes before number (Some item) kept) (later : AreEarly next kept pairs) where
  no_second : item_numbered number pairs ≡ None
  no_second =
      elim (none_or_some (item_numbered number pairs)) [
        | inl none ↦ none
        | inr some ↦
            let here = changed_here before kept number number (Some item) changes refl in
            let none = (later.early number some).1 in cc (here, none)
      ]

  pub early_more : AreEarly next before ((number, item) ∷ pairs)
  early_more = record {
    once = (no_second, later.once);
    early = λ k some.
        elim (eqb_tells number k) [
          | inl e ↦
              let ahead : next < number = elim (cases_lt number next) [ inl past ↦ absurd (new (inl past)) | inr least ↦ omega (arith, least, apart) ] in
              let none = none_if_not (before number) (λ waits. new (inr waits)) in
              subst (λ n. (next < n) × (before n ≡ None)) e.1 (ahead, none)
          | inr e ↦
              let was = later.early k (subst (λ o. IsSome o) (item_there k number item pairs e.1) some) in
              (was.0, sym (changed_there before kept number k (Some item) changes e.1) ∙ was.1)
        ];
  }

  pub wait_more : {after : Waiting T} → WaitToo pairs kept after → WaitToo ((number, item) ∷ pairs) before after
  wait_more {after} wait k =
      elim (eqb_tells number k) [
        | inl e ↦
            let none : item_numbered k pairs ≡ None = subst (λ n. item_numbered n pairs ≡ None) e.1 no_second in
            let here = changed_here before kept number k (Some item) changes e.1 in
            wait k ∙ ap (λ o. option_or o (kept k)) none ∙ here ∙ ap (λ o. option_or o (before k)) (sym (item_here k number item pairs e.1))
        | inr e ↦
            let there = changed_there before kept number k (Some item) changes e.1 in
            wait k ∙ ap (λ o. option_or (item_numbered k pairs) o) there
            ∙ ap (λ o. option_or o (before k)) (sym (item_there k number item pairs e.1))
      ]

module _ {S T E : Type 0} {steps : S → Option (Result (ℕ × T) E) → S → Type 0} {before : At S T} where
  -- the inner iterator is asked once
  pub comes_now : {after : At S T} {now : S} {answer : Option (Result (ℕ × T) E)} {result : Option (Result T (InOrderError E))}
      → before.waiting before.next ≡ None → steps before.inner answer now → after.inner ≡ now → after.waiting ≡ before.waiting
      → IsGivenFor before.next after answer result → Comes steps before result after
  comes_now {after} {now} {answer} gap step inner same given = (
    [],
    answer,
    record {
      gap = gap;
      early = record { once = tt; early = λ number some. absurd (not_some {A = T} {o = None} refl some) };
      answers = (before.inner, refl, subst (λ s. steps before.inner answer s) (sym inner) step);
      wait = λ k. ap (λ waiting. waiting k) same;
    },
    given,
  )

  -- it gives an item before its turn, and is asked again
  pub comes_later : {second : At S T} {now : S} (number : ℕ) (item : T) → before.waiting before.next ≡ None → steps before.inner (Some (Ok (number, item))) now
      → second.inner ≡ now → second.next ≡ before.next → number ≢ before.next → (CameBefore before.next before.waiting number → ⊥)
      → Changes before.waiting number (Some item) second.waiting → ComesOn steps before second
  comes_later {second} {now} number item gap step inner next apart new changes = record {
    then = λ result after comes.
        let asks = comes.2 in
        let later = subst (λ n. AreEarly n second.waiting comes.0) next asks.early in (
          (number, item) ∷ comes.0,
          comes.1,
          record {
            gap = gap;
            early = early_more before.next number item before.waiting second.waiting comes.0 apart new changes later;
            answers = (asks.answers.0, (now, step, subst (λ s. Yields steps s (map Ok comes.0) asks.answers.0) inner asks.answers.1), asks.answers.2);
            wait = wait_more before.next number item before.waiting second.waiting comes.0 apart new changes later asks.wait;
          },
          subst (λ n. IsGivenFor n after comes.1 result) next comes.3,
        );
  }

-- an item isn't kept
pub refused_item : {S T E : Type 0} {next number : ℕ} {item : T} {waiting : Waiting T} {after : At S T} (error : InOrderError E)
    → IsRefusal next waiting number error → number ≢ next → after.waiting ≡ waiting → after.next ≡ next → after.is_over ≡ true
    → IsGivenFor next after (Some (Ok (number, item))) (Some (Err error))
refused_item (Inner error) why apart same turn over = absurd why
refused_item {next = next} {number = number} (OutOfSequence got turn) why apart same is over =
    rw (why.1, why.2) (IsGivenFor.Again (subst (λ w. CameBefore next w number) (sym same) why.0) (is, over))
refused_item {next = next} {number = number} NoMemory why apart same is over =
    IsGivenFor.NoRoom apart (subst (λ w. CameBefore next w number → ⊥) (sym same) why) (is, over)

-- an answer that is this one
pub at_answer : {S A : Type 0} (steps : S → Option A → S → Type 0) (s t : S) {arrived item : A} → arrived ≡ item → steps s (Some arrived) t
    → steps s (Some item) t
at_answer steps s t e step = subst (λ a. steps s (Some a) t) e step

-- one item less is to come, and one more waits
pub waits_fewer : {I : Type 0} (left : I → Count) (inner now : I) (before after drawn total : ℕ) → now ≡ inner → size (left inner) < drawn
    → after ≡ before + 1 → drawn + before ≤ total → size (left now) + after ≤ total
waits_fewer left inner now before after drawn total is nearer more few = rw is (omega (arith, nearer, more, few))
