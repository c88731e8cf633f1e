-- The laws of items in order: what is given of items that come and of what ends them, and that items which come in any
-- order are given in the order of their numbers.
use Rattle.std.proofs.Common.{◌≡◌, ◌≢◌, ℕ, zero, suc, ◌+◌, ◌^◌, ◌<◌, ◌≤◌, inl, inr, Bool, true, false, cond, List, [], ◌∷◌, ◌++◌, length, drop, map, Option, Some, None, Result, Ok, Err, IsSome, slice_get, refl, sym, ap, subst, ◌∙◌, arith}
use Rattle.std.specs.Option.{option_or}
use Rattle.std.specs.Iterator.{Yields, YieldsThen, Drains, AlwaysYields}
use Rattle.std.proofs.lemmas.Bool.{cases_lt}
use Rattle.std.proofs.lemmas.Bool.Decides.{eqb_tells}
use Rattle.std.proofs.lemmas.List.{map-append, append_assoc}
use Rattle.gix_features_parts.specs.declared.parallel.in_order.InOrderError.{InOrderError}
use Rattle.gix_features_parts.specs.declared.parallel.in_order.InOrderError.TheVariants.{NoMemory}
use Rattle.gix_features_parts.specs.InOrder.{Waiting, Changes, CameBefore, WaitToo, PassesTurn, At, IsGivenFor, GivesInOrder, IsBegun, item_numbered, EachOnce, greatest_number}
use Rattle.gix_features_parts.specs.InOrderState.{in_order_at}
use Rattle.gix_features_parts.specs.declared.parallel.in_order.InOrderIter.{InOrderIter}
use Rattle.gix_features_parts.specs.InOrderRuns.{AreInTurn, IsLast, GivesInTurn, ArriveOnce, GivesItems}
use Rattle.gix_features_parts.proofs.NumberedLemmas.{item_here, item_there, changed_here, changed_there, other_number, none_or_some, not_some, none_if_not}
use Rattle.gix_features_parts.proofs.NumberedLemmas.{or_none, or_some, within_some, front_get, last_get, one_longer, drop_past, numbered_append, once_append, once_front}

yields_append : {S A : Type 0} (steps : S → Option A → S → Type 0) (xs ys : List A) (s t u : S) → Yields steps s xs t → Yields steps t ys u
    → Yields steps s (xs ++ ys) u
yields_append steps [] ys s t u same more = subst (λ from. Yields steps from ys u) (sym same) more
yields_append steps (x ∷ xs) ys s t u run more = (run.0, run.1, yields_append steps xs ys run.0 t u run.2 more)

module _ {S T E : Type 0} (steps : S → Option (Result (ℕ × T) E) → S → Type 0) (began : S) where
  -- ---- while items come

  -- The items that came, and those of them that were given. The others wait.
  record Arrived (inner : S) (next : ℕ) (waiting : Waiting T) (pairs : List (ℕ × T)) (items : List T) : Type 0 where
    yields : Yields steps began (map Ok pairs) inner
    once : EachOnce pairs
    count : length items ≡ next
    given : (k : ℕ) → k < next → slice_get items k ≡ item_numbered k pairs
    past : (k : ℕ) → k < next → waiting k ≡ None
    ahead : (k : ℕ) → next ≤ k → waiting k ≡ item_numbered k pairs

  -- a number came before exactly if an item with it arrived
  came_some : (inner : S) (next : ℕ) (waiting : Waiting T) (pairs : List (ℕ × T)) (items : List T) (number : ℕ)
      → Arrived inner next waiting pairs items → CameBefore next waiting number → IsSome (item_numbered number pairs)
  came_some inner next waiting pairs items number arrived came =
      elim (cases_lt number next) [
        | inl past ↦
            let within : number < length items = omega (arith, past, arrived.count) in
            subst (λ o. IsSome o) (arrived.given number past) (within_some items number within)
        | inr least ↦
            elim came [
              | inl past ↦ absurd (omega (arith, past, least))
              | inr waits ↦ subst (λ o. IsSome o) (arrived.ahead number least) waits
            ]
      ]

  new_none : (inner : S) (next : ℕ) (waiting : Waiting T) (pairs : List (ℕ × T)) (items : List T) (number : ℕ)
      → Arrived inner next waiting pairs items → (CameBefore next waiting number → ⊥) → item_numbered number pairs ≡ None
  new_none inner next waiting pairs items number arrived new =
      elim (cases_lt number next) [
        | inl past ↦ absurd (new (inl past))
        | inr least ↦ sym (arrived.ahead number least) ∙ none_if_not (waiting number) (λ waits. new (inr waits))
      ]

  -- more items come
  arrive_more : (s t : S) (next : ℕ) (waiting kept : Waiting T) (pairs more : List (ℕ × T)) (items : List T)
      → Arrived s next waiting pairs items → Yields steps s (map Ok more) t → EachOnce more
      → ((k : ℕ) → IsSome (item_numbered k more) → (next ≤ k) × (waiting k ≡ None)) → WaitToo more waiting kept
      → Arrived t next kept (pairs ++ more) items
  arrive_more s t next waiting kept pairs more items arrived run once new wait =
      let absent : (k : ℕ) → k < next → item_numbered k more ≡ None
      = λ k past. none_if_not (item_numbered k more) (λ some. let least = (new k some).0 in omega (arith, least, past)) in
      record {
        yields = subst (λ xs. Yields steps began xs t) (sym (map-append Ok pairs more))
            (yields_append steps (map Ok pairs) (map Ok more) began s t arrived.yields run);
        once = once_append pairs more arrived.once once (λ k some. let is = new k some in sym (arrived.ahead k is.0) ∙ is.1);
        count = arrived.count;
        given = λ k past.
            arrived.given k past ∙ sym (or_none (item_numbered k pairs)) ∙ ap (λ o. option_or (item_numbered k pairs) o) (sym (absent k past))
            ∙ sym (numbered_append k pairs more);
        past = λ k past. wait k ∙ ap (λ o. option_or o (waiting k)) (absent k past) ∙ arrived.past k past;
        ahead = λ k least.
            elim (none_or_some (item_numbered k more)) [
              | inl none ↦
                  wait k ∙ ap (λ o. option_or o (waiting k)) none ∙ arrived.ahead k least ∙ sym (or_none (item_numbered k pairs))
                  ∙ ap (λ o. option_or (item_numbered k pairs) o) (sym none) ∙ sym (numbered_append k pairs more)
              | inr some ↦
                  let is = (new k some).1 in
                  let none = sym (arrived.ahead k least) ∙ is in
                  wait k ∙ ap (λ o. option_or (item_numbered k more) o) is ∙ or_none (item_numbered k more)
                  ∙ ap (λ o. option_or o (item_numbered k more)) (sym none) ∙ sym (numbered_append k pairs more)
            ];
      }

  -- the one whose turn it is is given
  give_one : (s : S) (next : ℕ) (waiting rest : Waiting T) (pairs : List (ℕ × T)) (items : List T) (item : T) → Arrived s next waiting pairs items
      → waiting next ≡ Some item → Changes waiting next None rest → Arrived s (next + 1) rest pairs (items ++ item ∷ [])
  give_one s next waiting rest pairs items item arrived waits changes =
      let count = arrived.count in
      record {
        yields = arrived.yields;
        once = arrived.once;
        count = one_longer items item ∙ ap (λ n. n + 1) count;
        given = λ k past.
            elim (eqb_tells next k) [
              | inl e ↦
                  let is = ap (λ n. slice_get (items ++ item ∷ []) n) (sym (count ∙ e.1)) ∙ last_get items item ∙ sym waits in
                  is ∙ arrived.ahead next (omega arith) ∙ ap (λ n. item_numbered n pairs) e.1
              | inr e ↦
                  let apart = e.1 in
                  let before : k < next = omega (arith, past, apart) in
                  front_get items item k (omega (arith, before, count)) ∙ arrived.given k before
            ];
        past = λ k past.
            elim (eqb_tells next k) [
              | inl e ↦ changed_here waiting rest next k None changes e.1
              | inr e ↦
                  let apart = e.1 in changed_there waiting rest next k None changes apart ∙ arrived.past k (omega (arith, past, apart))
            ];
        ahead = λ k least.
            let apart : next ≢ k = omega (arith, least) in
            changed_there waiting rest next k None changes apart ∙ arrived.ahead k (omega (arith, least));
      }

  -- ---- what is given next

  -- the items that came and what ended them
  record Done (items : List T) (behind : List (Result T (InOrderError E))) : Type 0 where
    pairs : List (ℕ × T)
    answer : Option (Result (ℕ × T) E)
    ended : S
    answers : YieldsThen steps began (map Ok pairs) answer ended
    once : EachOnce pairs
    in_turn : AreInTurn pairs items
    last : IsLast pairs (length items) answer behind

  abbrev Given : ℕ → List T → Option (Result T (InOrderError E)) → At S T → Type 0
  Given next items None after = Done items []
  Given next items (Some (Err error)) after = (after.is_over ≡ true) × Done items (Err error ∷ [])
  Given next items (Some (Ok item)) after = next + 1 < 2 ^ 64
      → (after.is_over ≡ false) × ((pairs : List (ℕ × T)) × Arrived after.inner after.next after.waiting pairs (items ++ item ∷ []))

  -- the turn passes on, unless the number is the greatest
  passed : (next now : ℕ) (over : Bool) → PassesTurn next now over → next + 1 < 2 ^ 64 → (now ≡ next + 1) × (over ≡ false)
  passed next now over passes few =
      let apart : next ≢ greatest_number = omega (arith, few) in
      let is = passes.passed in
      (omega (arith, is, few), passes.last ∙ other_number next greatest_number apart)

  done : (s t : S) (next : ℕ) (waiting : Waiting T) (pairs : List (ℕ × T)) (items : List T) (answer : Option (Result (ℕ × T) E))
      (behind : List (Result T (InOrderError E))) → Arrived s next waiting pairs items → waiting next ≡ None → steps s answer t
      → IsLast pairs next answer behind → Done items behind
  done s t next waiting pairs items answer behind arrived gap step last = record {
    pairs = pairs;
    answer = answer;
    ended = t;
    answers = (s, arrived.yields, step);
    once = arrived.once;
    in_turn = record {
      each = λ k within. arrived.given k (subst (λ n. k < n) arrived.count within);
      gap = subst (λ n. item_numbered n pairs ≡ None) (sym arrived.count) (sym (arrived.ahead next (omega arith)) ∙ gap);
    };
    last = subst (λ n. IsLast pairs n answer behind) (sym arrived.count) last;
  }

  -- the inner iterator's item has its turn
  in_turn : (s : S) (next number : ℕ) (waiting : Waiting T) (pairs : List (ℕ × T)) (items : List T) (item : T) (after : At S T)
      → Arrived s next after.waiting pairs items → after.waiting next ≡ None → steps s (Some (Ok (number, item))) after.inner → number ≡ next
      → after.next ≡ next + 1 → Arrived after.inner after.next after.waiting (pairs ++ (number, item) ∷ []) (items ++ item ∷ [])
  in_turn s next number waiting pairs items item after arrived gap step is now =
      let kept : Waiting T = λ k. option_or (item_numbered k ((number, item) ∷ [])) (after.waiting k) in
      let new : (k : ℕ) → IsSome (item_numbered k ((number, item) ∷ [])) → (next ≤ k) × (after.waiting k ≡ None)
      = λ k some.
      elim (eqb_tells number k) [
        | inl e ↦ subst (λ n. (next ≤ n) × (after.waiting n ≡ None)) (sym is ∙ e.1) (omega arith, gap)
        | inr e ↦ absurd (not_some {A = T} {o = item_numbered k ((number, item) ∷ [])} (item_there k number item [] e.1) some)
      ] in
      let more = arrive_more s after.inner next after.waiting kept pairs ((number, item) ∷ []) items arrived
      (after.inner, step, refl) (refl, tt) new (λ k. refl) in
      let here : kept next ≡ Some item = ap (λ o. option_or o (after.waiting next)) (item_here next number item [] is) in
      let changes : Changes kept next None after.waiting
      = λ k.
      elim (eqb_tells next k) [
        | inl e ↦ subst (λ n. after.waiting n ≡ None) e.1 gap ∙ ap (λ b. cond b None (kept k)) (sym e.0)
        | inr e ↦
            ap (λ o. option_or o (after.waiting k)) (sym (item_there k number item [] (λ same. e.1 (sym is ∙ same))))
            ∙ ap (λ b. cond b None (kept k)) (sym e.0)
      ] in
      subst (λ n. Arrived after.inner n after.waiting (pairs ++ (number, item) ∷ []) (items ++ item ∷ [])) (sym now)
      (give_one after.inner next kept after.waiting (pairs ++ (number, item) ∷ []) items item more here changes)

  for_answer : (s : S) (next : ℕ) (pairs : List (ℕ × T)) (items : List T) (after : At S T) → Arrived s next after.waiting pairs items
      → after.waiting next ≡ None → (answer : Option (Result (ℕ × T) E)) (result : Option (Result T (InOrderError E))) → steps s answer after.inner
      → IsGivenFor next after answer result → Given next items result after
  for_answer s next pairs items after arrived gap _ _ step (IsGivenFor.InTurn {number = number} {item = item} is passes) = λ few.
      let now = passed next after.next after.is_over passes few in
      (now.1, (pairs ++ (number, item) ∷ [], in_turn s next number after.waiting pairs items item after arrived gap step is now.0))
  for_answer s next pairs items after arrived gap _ _ step (IsGivenFor.Again {number = number} came stops) = (
    stops.1,
    done s after.inner next after.waiting pairs items _ _ arrived gap step
        (IsLast.Again (came_some s next after.waiting pairs items number arrived came)),
  )
  for_answer s next pairs items after arrived gap _ _ step (IsGivenFor.NoRoom {number = number} apart new stops) = (
    stops.1,
    done s after.inner next after.waiting pairs items _ _ arrived gap step
        (IsLast.NoRoom (new_none s next after.waiting pairs items number arrived new) apart),
  )
  for_answer s next pairs items after arrived gap _ _ step (IsGivenFor.Fails stops) =
      (stops.1, done s after.inner next after.waiting pairs items _ _ arrived gap step IsLast.Fails)
  for_answer s next pairs items after arrived gap _ _ step (IsGivenFor.Ends stops) =
      done s after.inner next after.waiting pairs items _ _ arrived gap step IsLast.Ends

  next_given : (at : At S T) (pairs : List (ℕ × T)) (items : List T) → at.is_over ≡ false → Arrived at.inner at.next at.waiting pairs items
      → (result : Option (Result T (InOrderError E))) (after : At S T) → GivesInOrder steps at result after → Given at.next items result after
  next_given at pairs items going arrived _ _ (GivesInOrder.Over over) = cc (going, over)
  next_given at pairs items going arrived _ _ (GivesInOrder.Waited {after = after} {item = item} g releases) = λ few.
      let now = passed at.next after.next after.is_over releases.passes few in
      let given = give_one at.inner at.next at.waiting after.waiting pairs items item arrived releases.waited releases.rest in
      let turned = subst (λ n. Arrived at.inner n after.waiting pairs (items ++ item ∷ [])) (sym now.0) given in
      (now.1, (pairs, subst (λ s. Arrived s after.next after.waiting pairs (items ++ item ∷ [])) (sym releases.unasked) turned))
  next_given at pairs items going arrived _ _ (GivesInOrder.Came {after = after} {result = result} g comes) =
      let asks = comes.2 in
      let absent : item_numbered at.next comes.0 ≡ None
      = none_if_not (item_numbered at.next comes.0) (λ some. let past = (asks.early.early at.next some).0 in omega (arith, past)) in
      let gap = asks.wait at.next ∙ ap (λ o. option_or o (at.waiting at.next)) absent ∙ asks.gap in
      let more = arrive_more at.inner asks.answers.0 at.next at.waiting after.waiting pairs comes.0 items arrived asks.answers.1 asks.early.once
      (λ k some. let early = asks.early.early k some in (omega (arith, early.0), early.1)) asks.wait in
      for_answer asks.answers.0 at.next (pairs ++ comes.0) items after more gap comes.1 result asks.answers.2 comes.3

  -- ---- a whole run

  over_gives : (at after : At S T) (result : Option (Result T (InOrderError E))) → at.is_over ≡ true → GivesInOrder steps at result after → result ≡ None
  over_gives at _ _ over (GivesInOrder.Over same) = refl
  over_gives at _ _ over (GivesInOrder.Waited going releases) = cc (going, over)
  over_gives at _ _ over (GivesInOrder.Came going comes) = cc (going, over)

  Whole : List (Result T (InOrderError E)) → Type 0
  Whole results = GivesInTurn steps began results

  whole : (items : List T) (behind : List (Result T (InOrderError E))) → Done items behind → Whole (map Ok items ++ behind)
  unfolding Whole
  whole items behind done = record {
    pairs = done.pairs;
    answer = done.answer;
    ended = done.ended;
    answers = done.answers;
    once = done.once;
    items = items;
    in_turn = done.in_turn;
    behind = behind;
    last = done.last;
    given = refl;
  }

  run : (results : List (Result T (InOrderError E))) (at t u : At S T) (pairs : List (ℕ × T)) (items : List T) → at.is_over ≡ false
      → Arrived at.inner at.next at.waiting pairs items → Yields (GivesInOrder steps) at results t → GivesInOrder steps t None u
      → at.next + length results < 2 ^ 64 → Whole (map Ok items ++ results)
  run [] at t u pairs items going arrived same last few =
      whole items [] (next_given at pairs items going arrived None u (subst (λ from. GivesInOrder steps from None u) (sym same) last))
  run (Ok item ∷ results) at t u pairs items going arrived more last few =
      let given = next_given at pairs items going arrived (Some (Ok item)) more.0 more.1 (omega (arith, few)) in
      let now = given.1.1.count in
      let was = arrived.count in
      let longer = one_longer items item in
      let rest = run results more.0 t u given.1.0 (items ++ item ∷ []) given.0 given.1.1 more.2 last (omega (arith, few, now, was, longer)) in
      let same = ap (λ xs. xs ++ results) (map-append Ok items (item ∷ [])) ∙ append_assoc (map Ok items) (Ok item ∷ []) results in
      subst (λ xs. Whole xs) same rest
  run (Err error ∷ []) at t u pairs items going arrived more last few =
      let given = next_given at pairs items going arrived (Some (Err error)) more.0 more.1 in whole items (Err error ∷ []) given.1
  run (Err error ∷ result ∷ results) at t u pairs items going arrived more last few =
      let given = next_given at pairs items going arrived (Some (Err error)) more.0 more.1 in
      let none = over_gives more.0 more.2.0 (Some result) given.0 more.2.1 in cc none

-- What is given of the items that come, and of what ends them.
pub items_in_turn : {S T E : Type 0} (steps : S → Option (Result (ℕ × T) E) → S → Type 0) (at : At S T) (results : List (Result T (InOrderError E)))
    → length results < 2 ^ 64 → IsBegun at → Drains (GivesInOrder steps) at results → GivesInTurn steps at.inner results
unfolding Whole
items_in_turn steps at results few begun drains =
    let first = begun.first in
    run steps at.inner results at drains.1.0 drains.0 [] [] begun.going
    record {
      yields = refl;
      once = tt;
      count = sym first;
      given = λ k past. absurd (omega (arith, past, first));
      past = λ k past. begun.none k;
      ahead = λ k least. begun.none k;
    }
    drains.1.1 drains.1.2 (omega (arith, few, first))

-- ---- items that come each once

module _ {S T E : Type 0} (steps : S → Option (Result (ℕ × T) E) → S → Type 0) where
  -- what came is a prefix of what was to come
  abbrev Front : List (ℕ × T) → List (ℕ × T) → Option (Result (ℕ × T) E) → Type 0
  Front came pairs None = came ≡ pairs
  Front came pairs (Some (Ok pair)) = (rest : List (ℕ × T)) × (pairs ≡ came ++ pair ∷ rest)
  Front came pairs (Some (Err error)) = ⊥

  front_more : (first : ℕ × T) (came pairs : List (ℕ × T)) (answer : Option (Result (ℕ × T) E)) → Front came pairs answer
      → Front (first ∷ came) (first ∷ pairs) answer
  front_more first came pairs None same = ap (λ xs. first ∷ xs) same
  front_more first came pairs (Some (Ok pair)) front = (front.0, ap (λ xs. first ∷ xs) front.1)
  front_more first came pairs (Some (Err error)) front = front

  front : (came pairs : List (ℕ × T)) (s t u : S) (answer : Option (Result (ℕ × T) E)) → AlwaysYields steps (λ a. a) s (map Ok pairs)
      → Yields steps s (map Ok came) t → steps t answer u → Front came pairs answer
  front [] [] s t u None always same step = refl
  front [] [] s t u (Some arrived) always same step = absurd (always arrived u (subst (λ from. steps from (Some arrived) u) (sym same) step))
  front [] (pair ∷ pairs) s t u None always same step = absurd (always.0 u (subst (λ from. steps from None u) (sym same) step))
  front [] (pair ∷ pairs) s t u (Some (Ok came)) always same step =
      let e = (always.1 (Ok came) u (subst (λ from. steps from (Some (Ok came)) u) (sym same) step)).0 in
      let is : came ≡ pair = cc e in (pairs, ap (λ p. p ∷ pairs) (sym is))
  front [] (pair ∷ pairs) s t u (Some (Err error)) always same step =
      let e = (always.1 (Err error) u (subst (λ from. steps from (Some (Err error)) u) (sym same) step)).0 in cc e
  front (first ∷ came) [] s t u answer always run step = absurd (always (Ok first) run.0 run.1)
  front (first ∷ came) (pair ∷ pairs) s t u answer always run step =
      let next = always.1 (Ok first) run.0 run.1 in
      let e = next.0 in
      let is : first ≡ pair = cc e in
      subst (λ p. Front (first ∷ came) (p ∷ pairs) answer) is (front_more first came pairs answer (front came pairs run.0 t u answer next.1 run.2 step))

  -- the items in turn are a prefix of all
  front_given : (items given : List T) (behind : List (Result T (InOrderError E)))
      → ((k : ℕ) → k < length given → slice_get given k ≡ slice_get items k) → GivesItems (drop (length given) items) behind
      → GivesItems items (map Ok given ++ behind)
  front_given items [] behind each rest = rest
  front_given [] (x ∷ given) behind each rest = let e = each zero (omega arith) in cc e
  front_given (item ∷ items) (x ∷ given) behind each rest =
      let e = each zero (omega arith) in
      let is : x ≡ item = cc e in (
        items,
        ap (λ y. y ∷ items) (sym is),
        front_given items given behind (λ k within. each (suc k) (omega (arith, within))) rest,
      )

  behind_given : (items given : List T) (arrive came : List (ℕ × T)) (answer : Option (Result (ℕ × T) E)) (behind : List (Result T (InOrderError E)))
      → ArriveOnce items arrive → AreInTurn came given → Front came arrive answer → IsLast came (length given) answer behind
      → GivesItems items (map Ok given ++ behind)
  behind_given items given arrive came _ _ all turn same IsLast.Ends =
      let each : (k : ℕ) → item_numbered k came ≡ slice_get items k = λ k. ap (λ pairs. item_numbered k pairs) same ∙ all.found k in
      front_given items given [] (λ k within. turn.each k within ∙ each k)
      (drop_past items (length given) (sym (each (length given)) ∙ turn.gap))
  behind_given items given arrive came _ _ all turn front IsLast.Fails = absurd front
  behind_given items given arrive came _ _ all turn front (IsLast.Again {number = number} {item = item} some) =
      let once = subst (λ pairs. EachOnce pairs) front.1 all.once in
      absurd (not_some {A = T} {o = item_numbered number came} (once_front came (number, item) front.0 once) some)
  behind_given items given arrive came _ _ all turn front (IsLast.NoRoom {number = number} {item = item} new apart) =
      front_given items given (Err NoMemory ∷ [])
      (λ k within.
      let is = turn.each k within in
      let some = subst (λ o. IsSome o) is (within_some given k within) in
      let found = ap (λ pairs. item_numbered k pairs) front.1 ∙ numbered_append k came ((number, item) ∷ front.0) in
      is ∙ sym (or_some (item_numbered k came) (item_numbered k ((number, item) ∷ front.0)) some) ∙ sym found ∙ all.found k)
      (refl, refl)

-- Items that come with their places as numbers, in any order, are given in order.
pub items_in_order : {S T E : Type 0} (steps : S → Option (Result (ℕ × T) E) → S → Type 0) (at : At S T) (items : List T) (pairs : List (ℕ × T))
    (results : List (Result T (InOrderError E))) → length results < 2 ^ 64 → IsBegun at → ArriveOnce items pairs
    → AlwaysYields steps (λ a. a) at.inner (map Ok pairs) → Drains (GivesInOrder steps) at results → GivesItems items results
items_in_order steps at items pairs results few begun arrive always drains =
    let turn = items_in_turn steps at results few begun drains in
    let came = front steps turn.pairs pairs at.inner turn.answers.0 turn.ended turn.answer always turn.answers.1 turn.answers.2 in
    subst (λ xs. GivesItems items xs) (sym turn.given)
    (behind_given steps items turn.items pairs turn.pairs turn.answer turn.behind arrive turn.in_turn came turn.last)

-- ---- the iterator itself

module _ {S R A : Type 0} (steps : R → Option A → R → Type 0) (shown : S → R) where
  shown_run : (items : List A) (s t : S) → Yields (λ a item b. steps (shown a) item (shown b)) s items t → Yields steps (shown s) items (shown t)
  shown_run [] s t same = ap shown same
  shown_run (item ∷ items) s t run = (shown run.0, run.1, shown_run items run.0 t run.2)

module _ {I T E : Type 0} (steps : I → Option (Result (ℕ × T) E) → I → Type 0) (iter : InOrderIter T I) (results : List (Result T (InOrderError E)))
    (few : length results < 2 ^ 64) (begun : IsBegun (in_order_at iter))
    (drains : Drains (λ s result t. GivesInOrder steps (in_order_at s) result (in_order_at t)) iter results) where
  whole_run : Drains (GivesInOrder steps) (in_order_at iter) results
  whole_run = (in_order_at drains.0, (in_order_at drains.1.0, shown_run (GivesInOrder steps) in_order_at results iter drains.1.0 drains.1.1, drains.1.2))

  -- An `InOrderIter` that is run to its end gives the items in turn, and what follows them.
  pub iter_gives_in_turn : GivesInTurn steps iter.inner results
  iter_gives_in_turn = items_in_turn steps (in_order_at iter) results few begun whole_run

  -- It gives all items in order, in whatever order they come.
  pub iter_gives_items : (items : List T) (pairs : List (ℕ × T)) → ArriveOnce items pairs → AlwaysYields steps (λ a. a) iter.inner (map Ok pairs)
      → GivesItems items results
  iter_gives_items items pairs arrive always = items_in_order steps (in_order_at iter) items pairs results few begun arrive always whole_run
