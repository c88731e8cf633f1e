-- The items come last first, each once, so they are given in order.
use Rattle.std.proofs.Common.{◌≡◌, ℕ, List, [], ◌∷◌, ◌++◌, length, map, Option, Result, Ok, sym, ap, ◌∙◌, arith}
use Rattle.std.proofs.lemmas.Result.{IfOk-weaker}
use Rattle.std.specs.Iterator.{AlwaysYields}
use Rattle.std.specs.Prelude.{MatchOption, vec_len}
use Rattle.feature_tests.specs.declared.orders.Broken.{Broken}
use Rattle.feature_tests.specs.declared.turned.LastFirst.{LastFirst}
use Rattle.feature_tests.proofs.TurnedLemmas.{downward, turn, arrive_once, no_last, same_ends, longer, turn-turn, length-turn}
use Rattle.feature_tests.proofs.turned.turned.Goals as goal

module _ {T : Type 0} where
  abbrev GivesLast : LastFirst T → Option (Result (ℕ × T) Broken) → LastFirst T → Type 0
  GivesLast s came t =
      MatchOption came (vec_len s.left ≡ 0)
      (λ numbered. (item : T) × (numbered ≡ Ok (vec_len t.left, item)) × (s.left.items ≡ t.left.items ++ item ∷ []))

  downward_always : (xs : List T) (s : LastFirst T) → s.left.items ≡ turn xs → AlwaysYields GivesLast (λ a. a) s (map Ok (downward xs))
  downward_always [] s same = λ came t last. no_last t.left.items last.0 (sym last.2 ∙ same)
  downward_always (x ∷ xs) s same = (
    λ t none.
        let some = longer (turn xs) x in
        let long = ap length same in
        omega (arith, none, some, long, s.left.ok.0),
    λ came t last.
        let ends = same_ends t.left.items (turn xs) last.0 x (sym last.2 ∙ same) in
        let place = t.left.ok.0 ∙ ap length ends.0 ∙ length-turn xs in
        (last.1 ∙ ap (λ n. Ok (n, last.0)) place ∙ ap (λ item. Ok (length xs, item)) ends.1, downward_always xs t ends.0),
  )

  -- It gives the items last first, and nothing else.
  last_first : (s : LastFirst T) → AlwaysYields GivesLast (λ a. a) s (map Ok (downward (turn s.left.items)))
  last_first s = downward_always (turn s.left.items) s (sym (turn-turn s.left.items))

pub returns : goal.returns
returns g c =
    let items = c.args.left.items in
    record {
      in_order = IfOk-weaker c.drained.result _ _
          (λ given law. law items (downward (turn items)) (arrive_once items) (last_first (record { left = c.args.left }))) c.drained.ensures.in_order;
    }
