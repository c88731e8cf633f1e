-- Children in order: the errors, and after them the entries, stably sorted.
use Rattle.std.proofs.Common.{◌≡◌, ◌++◌, ap, map, subst, sym, ◌∙◌, rules}
use Rattle.std.specs.Prelude.{Ok}
use Rattle.std.specs.Cmp.{IsStrictWeakOrder}
use Rattle.std.specs.List.{filter_map}
use Rattle.std.specs.List.Sorted.{IsPermutation, IsStable}
use Rattle.std.specs.Ordering.{is_lt}
use Rattle.std.proofs.lemmas.Fn.{always_returns_same}
use Rattle.std.proofs.lemmas.List.Sorted.{ranks_by}
use Rattle.std.specs.Result.{result_ok}
use Rattle.walkdir.specs.Walk.Children.{error_in}
use Rattle.walkdir.proofs.read.in_order.Goals as goal

pub returns-clause-order : goal.returns-clause-order
returns-clause-order g c =
    let given = c.args.children.items in
    let sorted = c.sort_by.new.self.items in
    let order = g.S.Sorter.order c.args.sorter.now in
    let entries : filter_map result_ok given ≡ c.tell_apart.new.entries.items = sym c.in_ok-tell_apart.ensures.entries in
    let errors : filter_map error_in given ≡ c.tell_apart.new.errors.items = sym c.in_ok-tell_apart.ensures.errors in
    let weak : IsStrictWeakOrder (λ x y. is_lt (order x y)) = ranks_by (g.met.S.Sorter.total c.args.sorter.now) (λ x. x) in
    record {
      entries = sorted;
      sorted = record {
        same = subst (λ l. IsPermutation l sorted) (sym entries) c.in_ok-sort_by.ensures.permutation;
        rises = c.in_ok-sort_by.ensures.sorted (λ x y. is_lt (order x y)) weak (always_returns_same _ _ _ (λ a r f k. search rules));
        stable = subst (λ l. IsStable order l sorted) (sym entries)
            (c.in_ok-sort_by.ensures.stable (λ x y. is_lt (order x y)) weak (always_returns_same _ _ _ (λ a r f k. search rules)));
      };
      is = c.in_ok-put_behind.ensures.behind ∙ ap (λ l. l ++ map Ok sorted) (sym errors);
    }
