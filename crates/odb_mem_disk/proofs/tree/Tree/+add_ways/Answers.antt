use Rattle.std.proofs.Common.{◌≡◌, ◌∙◌, ◌++◌, ◌∷◌, [], sym, ap, suc, ◌-◌, arith}
use Rattle.odb_base.specs.Path.{Path}
use Rattle.odb_mem_disk.proofs.WaysLemmas.{added_alone, added_end, added_onward}
use Rattle.odb_mem_disk.proofs.tree.Tree.+add_ways.Goals as goal

pub returns-then-links-eq0 : goal.returns-then-links-eq0
returns-then-links-eq0 t c = record {
  added =
      added_alone c.args.self.now c.args.path.now c.args.links c.if-links-eq0.true c.args.ways.now.items c.push.new.self.items
      (c.in_ok-push.ensures.items ∙ ap (λ (p : Path). c.args.ways.now.items ++ p ∷ []) c.in_ok-try_clone.ensures.copy);
}

pub returns-in-None : goal.returns-in-None
returns-in-None t c = record {
  added = let one : c.args.links ≡ suc (c.args.links - 1) = omega arith in
      added_end c.args.self.now c.args.path.now c.args.links (c.args.links - 1) one (sym c.in_ok-onward.ensures.onward ∙ c.in-None.is) c.args.ways.now.items c.push.new.self.items
      (c.in_ok-push.ensures.items ∙ ap (λ (p : Path). c.args.ways.now.items ++ p ∷ []) c.in_ok-try_clone.ensures.copy);
}

pub returns-in-Some : goal.returns-in-Some
returns-in-Some t c = record {
  added = let one : c.args.links ≡ suc (c.args.links - 1) = omega arith in
      added_onward c.args.self.now c.args.path.now c.args.links (c.args.links - 1) one c.in-Some.onward (sym c.in_ok-onward.ensures.onward ∙ c.in-Some.is)
      c.args.ways.now.items c.push.new.self.items c.add_ways.new.ways.items
      (c.in_ok-push.ensures.items ∙ ap (λ (p : Path). c.args.ways.now.items ++ p ∷ []) c.in_ok-try_clone.ensures.copy)
      c.add_ways.result c.add_ways.ensures.added;
}
