use Rattle.std.proofs.Common.{◌++◌, ap, refl}
use Rattle.std.specs.Ordering.{is_gt}
use Rattle.std.specs.declared.ops.Bound.TheVariants.{Excluded, Unbounded}
use Rattle.std.proofs.lemmas.Result.{on_ok_weaker}
use Rattle.gix_odb_watch.proofs.TouchedLemmas.{inside_range, not_past, starts_before}
use Rattle.gix_odb_watch.proofs.touched.add_inside.Goals as goal

pub range-inside-requires-in-Some : goal.range-inside-requires-in-Some
range-inside-requires-in-Some c = ap is_gt (starts_before c.args.place.now c.in-Some.end (rw c.in-Some.is at c.in_ok-end_of.ensures.end))

pub returns-in-None : goal.returns-in-None
returns-in-None c = record {
  added =
      on_ok_weaker c.add_each.result
      (λ added.
      inside_range c.args.folders.now.keys c.args.place.now c.args.spots.now.items c.add_each.new.spots.items c.range-inside.result Unbounded
      (c.range-inside.ensures.between tt) (λ rest. refl) added)
      c.add_each.ensures.added;
}

pub returns-in-Some : goal.returns-in-Some
returns-in-Some c =
    let before = rw c.in-Some.is at c.in_ok-end_of.ensures.end in
    record {
      added =
          on_ok_weaker c.add_each-in-Some.result
          (λ added.
          inside_range c.args.folders.now.keys c.args.place.now c.args.spots.now.items c.add_each-in-Some.new.spots.items c.range-inside-in-Some.result (Excluded c.in-Some.end)
          (c.range-inside-in-Some.ensures.between tt) (λ rest. not_past (c.args.place.now ++ rest) c.in-Some.end (before rest)) added)
          c.add_each-in-Some.ensures.added;
    }
