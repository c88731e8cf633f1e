-- Lemmas on the rounds in which workers consume a slice.
use Rattle.std.proofs.Common.{◌≡◌, ℕ, zero, suc, ◌+◌, ◌*◌, List, [], ◌∷◌, ◌++◌, length, take, drop, min, set, get_or, refl, sym, ap, ◌∙◌, subst, arith, append_assoc, Option, Result, Ok, Err}
use Rattle.std.proofs.lemmas.List.{drop-take, drop-drop, take_min, drop_min, take_all, drop_all, append-nil}
use native.Mathlib.Nat.{zero-mul, suc-mul}
use Rattle.std.specs.List.{AllZip}
use Rattle.gix_features_workers.specs.Rounds.{run_of, first_of, Turn, Round, Rounds, Begin, IsOfRounds}

take-less : {X : Type 0} (n k : ℕ) (xs : List X) → take n (take (n + k) xs) ≡ take n xs
take-less zero k xs = refl
take-less (suc n) k [] = let e : suc n + k ≡ suc (n + k) = omega arith in rw e refl
take-less (suc n) k (x ∷ xs) = let e : suc n + k ≡ suc (n + k) = omega arith in rw e (ap (λ l. x ∷ l) (take-less n k xs))

first_of-assoc : {E : Type 0} (a b c : Result (Unit {0}) E) → first_of a (first_of b c) ≡ first_of (first_of a b) c
first_of-assoc (Ok done) b c = refl
first_of-assoc (Err error) b c = refl

first_of-none : {E : Type 0} (a : Result (Unit {0}) E) → first_of a (Ok tt) ≡ a
first_of-none (Ok tt) = refl
first_of-none (Err error) = refl

module _ {S T E : Type 0} (consumes : T → S → Result (Unit {0}) E → T → S → Type 0) (size place : ℕ) where
  -- a turn, and then two parts of the round
  Next-parts : {s t : S} {more us : List S} (items mine others left : List T) (a b c : Result (Unit {0}) E) → Turn consumes place s (take size items) a t mine
      → Round consumes size place more (drop size items) (first_of b c) us (others ++ left)
      → Round consumes size place (s ∷ more) items (first_of (first_of a b) c) (t ∷ us) ((mine ++ others) ++ left)
  Next-parts {s} {t} {more} {us} items mine others left a b c turn rest = subst (λ (l : List T). Round consumes size place (s ∷ more) items (first_of (first_of a b) c) (t ∷ us) l)
      (sym (append_assoc mine others left))
      (subst (λ (r : Result (Unit {0}) E). Round consumes size place (s ∷ more) items r (t ∷ us) (mine ++ (others ++ left))) (first_of-assoc a b c) (Round.Next turn rest))

  -- a round of some workers, and one of the others with the rest of the items
  pub Round-append : (ss more : List S) (items part rest : List T) {ts us : List S} {left others : List T} {a b : Result (Unit {0}) E}
      → part ≡ take (length ss * size) items → rest ≡ drop (length ss * size) items
      → Round consumes size place ss part a ts left → Round consumes size place more rest b us others
      → Round consumes size place (ss ++ more) items (first_of a b) (ts ++ us) (left ++ others)
  Round-append [] more items part rest {ts} {us} {left} {others} {a} {b} is behind Round.Over second =
      let none : part ≡ [] = is ∙ ap (λ n. take n items) (zero-mul size) in
      let all : rest ≡ items = behind ∙ ap (λ n. drop n items) (zero-mul size) in
      subst (λ (l : List T). Round consumes size place more items b us (l ++ others)) (sym none)
      (subst (λ (l : List T). Round consumes size place more l b us others) all second)
  Round-append (s ∷ ss) more items part rest {us = us} {others = others} {b = b} is behind
      (Round.Next {t = t} {ts = ts} {mine = mine} {others = after} {answer = answer} {rest = said} turn later) second =
      let m = length ss * size in
      let n : length (s ∷ ss) * size ≡ size + m = suc-mul (length ss) size ∙ (let h : m + size ≡ size + m = omega arith in h) in
      let front : part ≡ take (size + m) items = is ∙ ap (λ k. take k items) n in
      let first : take size part ≡ take size items = ap (take size) front ∙ take-less size m items in
      let further : drop size part ≡ take m (drop size items) = ap (drop size) front ∙ drop-take size m items in
      let last : rest ≡ drop m (drop size items) = behind ∙ ap (λ k. drop k items) n ∙ sym (drop-drop m size items) in
      Next-parts items mine after others answer said b (subst (λ (l : List T). Turn consumes place s l answer t mine) first turn)
      (Round-append ss more (drop size items) (drop size part) rest further last later second)

  -- a round of all workers, by that of each half of them
  pub Round-halves : (low cut : ℕ) (states ss more : List S) (items part rest : List T) (a b answer : Result (Unit {0}) E) (ts us after : List S) (left others lefts : List T)
      → states ≡ ss ++ more → length ss ≡ low → cut ≡ min (low * size) (length items) → part ≡ take cut items → rest ≡ drop cut items
      → after ≡ ts ++ us → lefts ≡ left ++ others → answer ≡ first_of a b
      → Round consumes size place ss part a ts left → Round consumes size place more rest b us others → Round consumes size place states items answer after lefts
  Round-halves low cut states ss more items part rest a b answer ts us after left others lefts states_are few cut_is part_is rest_is after_are left_are answer_is first second =
      let is : part ≡ take (length ss * size) items = part_is ∙ ap (λ k. take k items) cut_is ∙ take_min (low * size) items ∙ ap (λ k. take (k * size) items) (sym few) in
      let behind : rest ≡ drop (length ss * size) items = rest_is ∙ ap (λ k. drop k items) cut_is ∙ drop_min (low * size) items ∙ ap (λ k. drop (k * size) items) (sym few) in
      rw (states_are, answer_is, after_are, left_are) (Round-append ss more items part rest is behind first second)

  -- a round of one worker, whose run is cut off
  pub Round-alone : (states after : List S) (d t : S) (cut : ℕ) (items part mine left : List T) (answer : Result (Unit {0}) E)
      → length states ≡ 1 → after ≡ set states 0 t → cut ≡ min size (length items) → part ≡ take cut items → left ≡ mine ++ drop cut items
      → Turn consumes place (get_or states 0 d) part answer t mine → Round consumes size place states items answer after left
  Round-alone [] after d t cut items part mine left answer one after_is cut_is part_is left_is turn = absurd (omega (arith, one))
  Round-alone (s ∷ x ∷ more) after d t cut items part mine left answer one after_is cut_is part_is left_is turn = absurd (omega (arith, one))
  Round-alone (s ∷ []) after d t cut items part mine left answer one after_is cut_is part_is left_is turn =
      let is : part ≡ take size items = part_is ∙ ap (λ k. take k items) cut_is ∙ take_min size items in
      let behind : drop cut items ≡ drop size items = ap (λ k. drop k items) cut_is ∙ drop_min size items in
      rw (after_is, left_is, behind) (subst (λ (r : Result (Unit {0}) E). Round consumes size place (s ∷ []) items r (t ∷ []) (mine ++ drop size items)) (first_of-none answer)
      (Round.Next (subst (λ (l : List T). Turn consumes place s l answer t mine) is turn) Round.Over))

-- one more pair
pub AllZip-push : {A B : Type 0} (R : A → B → Type 0) (xs : List A) (ys : List B) (x : A) (y : B) → AllZip R xs ys → R x y → AllZip R (xs ++ x ∷ []) (ys ++ y ∷ [])
AllZip-push R [] [] x y all one = (one, tt)
AllZip-push R [] (z ∷ ys) x y all one = absurd all
AllZip-push R (w ∷ xs) [] x y all one = absurd all
AllZip-push R (w ∷ xs) (z ∷ ys) x y all one = (all.0, AllZip-push R xs ys x y all.1 one)

-- ---- the result of rounds

-- a vector whose slice was changed and keeps its length
pub restored : {X : Type 0} (n : ℕ) (new old : List X) → n ≡ length old → length new ≡ length old → take n (new ++ drop (length new) old) ≡ new
restored n new old long same =
    ap (λ l. take n (new ++ l)) (drop_all (length new) old (omega (arith, same))) ∙ ap (take n) (append-nil new) ∙ take_all n new (omega (arith, long, same))

module _ {S T E P V W : Type 0} (begins : ℕ → S → Type 0) (consumes : T → S → Result (Unit {0}) E → T → S → Type 0) (asks : P → Option (Unit {0}) → P → Type 0) (ends : S → V → Type 0) (listed : W → List V) where
  pub rounds_done : (n workers size : ℕ) (p : P) (shown firsts lasts ended : List S) (items left : List T) (values : W) → workers ≡ n → size ≡ run_of workers (length items)
      → shown ≡ firsts → Begin begins workers firsts → Rounds consumes asks size 0 p shown items (Ok tt) lasts left → ended ≡ lasts → AllZip ends ended (listed values)
      → IsOfRounds begins consumes asks ends listed n p items left (Ok values)
  rounds_done n workers size p shown firsts lasts ended items left values most long same begun rounds last valued = record {
    firsts = firsts;
    lasts = lasts;
    outcome = Ok tt;
    begun = subst (λ (k : ℕ). Begin begins k firsts) most begun;
    rounds = subst (λ (l : List S). Rounds consumes asks (run_of n (length items)) 0 p l items (Ok tt) lasts left) same
        (subst (λ (k : ℕ). Rounds consumes asks k 0 p shown items (Ok tt) lasts left) (long ∙ ap (λ (k : ℕ). run_of k (length items)) most) rounds);
    failed = tt;
    ended = (refl, subst (λ (l : List S). AllZip ends l (listed values)) last valued);
  }

  pub rounds_failed : (n workers size : ℕ) (p : P) (shown firsts lasts : List S) (items left : List T) (error : E) → workers ≡ n → size ≡ run_of workers (length items)
      → shown ≡ firsts → Begin begins workers firsts → Rounds consumes asks size 0 p shown items (Err error) lasts left
      → IsOfRounds begins consumes asks ends listed n p items left (Err error)
  rounds_failed n workers size p shown firsts lasts items left error most long same begun rounds = record {
    firsts = firsts;
    lasts = lasts;
    outcome = Err error;
    begun = subst (λ (k : ℕ). Begin begins k firsts) most begun;
    rounds = subst (λ (l : List S). Rounds consumes asks (run_of n (length items)) 0 p l items (Err error) lasts left) same
        (subst (λ (k : ℕ). Rounds consumes asks k 0 p shown items (Err error) lasts left) (long ∙ ap (λ (k : ℕ). run_of k (length items)) most) rounds);
    failed = refl;
    ended = tt;
  }
