-- Lemmas on items in order that are collected: the laws, for what `collect` ensures.
use Rattle.std.proofs.Common.{◌≡◌, ℕ, ◌^◌, ◌<◌, List, length, map, Option, Result, Ok, Err, IfOk, sym, subst, arith}
use Rattle.std.specs.Iterator.{AlwaysYields, Drains}
use Rattle.std.specs.declared.vec.Vec.{Vec}
use Rattle.std.proofs.lemmas.Iterator.{IsCollectResult}
use Rattle.gix_features_parts.specs.InOrder.{GivesInOrder, IsBegun}
use Rattle.gix_features_parts.specs.InOrderState.{in_order_at}
use Rattle.gix_features_parts.specs.InOrderRuns.{GivesInTurn, ArriveOnce, GivesItems}
use Rattle.gix_features_parts.specs.declared.parallel.in_order.InOrderError.{InOrderError}
use Rattle.gix_features_parts.specs.declared.parallel.in_order.InOrderIter.{InOrderIter}
use Rattle.gix_features_parts.proofs.InOrderLaws.{iter_gives_in_turn, iter_gives_items}

-- a vector's items are numbered by 64 bits
few : {A Z : Type 0} (v : Vec A Z) (xs : List A) → v.items ≡ xs → length xs < 2 ^ 64
few v xs same =
    let fits : length v.items < 2 ^ 64 = omega (arith, v.ok.0, v.ok.1, v.small) in
    subst (λ l. length l < 2 ^ 64) same fits

-- the steps of an iterator in order, by those of its inner one
abbrev pub OrderSteps : {I T E : Type 0} → (I → Option (Result (ℕ × T) E) → I → Type 0) → InOrderIter T I → Option (Result T (InOrderError E))
    → InOrderIter T I → Type 0
OrderSteps steps s result t = GivesInOrder steps (in_order_at s) result (in_order_at t)

module _ {I T E Z X : Type 0} (steps : I → Option (Result (ℕ × T) E) → I → Type 0) (iter : I) (begun : InOrderIter T I) (inner : begun.inner ≡ iter)
    (begins : IsBegun (in_order_at begun)) where
  pub collected_in_turn : (result : Result (Vec (Result T (InOrderError E)) Z) X) → IsCollectResult (OrderSteps steps) begun result
      → IfOk result (λ given. GivesInTurn steps iter given.items)
  collected_in_turn (Err error) ran = tt
  collected_in_turn (Ok given) (xs, drained, same) =
      let last = drained.2 tt in
      let drains : Drains (OrderSteps steps) begun xs = (last.0, (drained.0, drained.1, last.1)) in
      let turn = iter_gives_in_turn steps begun xs (few given xs same.0) begins drains in
      subst (λ l. GivesInTurn steps iter l) (sym same.0) (subst (λ s. GivesInTurn steps s xs) inner turn)

  pub collected_in_order : (result : Result (Vec (Result T (InOrderError E)) Z) X) → IsCollectResult (OrderSteps steps) begun result
      → IfOk result (λ given. (items : List T) (pairs : List (ℕ × T)) → ArriveOnce items pairs → AlwaysYields steps (λ a. a) iter (map Ok pairs)
      → GivesItems items given.items)
  collected_in_order (Err error) ran = tt
  collected_in_order (Ok given) (xs, drained, same) = λ items pairs arrive always.
      let last = drained.2 tt in
      let drains : Drains (OrderSteps steps) begun xs = (last.0, (drained.0, drained.1, last.1)) in
      let come = subst (λ s. AlwaysYields steps (λ a. a) s (map Ok pairs)) (sym inner) always in
      subst (λ l. GivesItems items l) (sym same.0) (iter_gives_items steps begun xs (few given xs same.0) begins drains items pairs arrive come)
