use Rattle.std.proofs.Common.{◌≡◌, ℕ, ◌-◌, List, ◌∷◌, [], ◌++◌, ap, sym, ◌∙◌, arith}
use Rattle.gix_pack_read.specs.MultiIndexNames.{go_on}
use Rattle.gix_pack_read.proofs.NameLemmas.{length_pushed, name_refused, name_taken, names_step}
use Rattle.gix_pack_read.proofs.multi_index.names.names_in.Goals as goal

-- the name is not above the last one
pub returns-then-not-is_above-clause-none : goal.returns-then-not-is_above-clause-none
returns-then-not-is_above-clause-none c =
    c.loop-left.invariant.same_so_far
    ∙ name_refused c.loop-left.last.now c.in-Some.found.0.now c.loop-left.left c.loop-left.rest.now c.in-Some.found.1.now
    (omega arith) c.in-Some.ensures.parts c.in-Some.ensures.fits (sym c.is_above.ensures.above ∙ c.if-not-is_above.true)

-- one more name
pub loop-left-preserved : goal.loop-left-preserved
loop-left-preserved c =
    let added : c.push.new.self.items ≡ c.loop-left.names.items ++ c.in-Some.found.0.now ∷ [] = c.in_ok-push.ensures.items
    ∙ ap (λ (name : List ℕ). c.loop-left.names.items ++ name ∷ []) c.in_ok-new.ensures.name in
    let taken = name_taken c.loop-left.last.now c.in-Some.found.0.now c.loop-left.left c.loop-left.rest.now c.in-Some.found.1.now
    (omega arith) c.in-Some.ensures.parts c.in-Some.ensures.fits (sym c.is_above.ensures.above ∙ c.if-not-is_above.false) in
    record {
      few = omega (arith, length_pushed c.loop-left.names.items c.push.new.self.items c.in-Some.found.0.now added);
      names_so_far = names_step _ c.loop-left.names.items c.push.new.self.items c.in-Some.found.0.now c.loop-left.left c.loop-left.rest.now c.in-Some.found.1.now (omega arith) c.in-Some.ensures.parts
          c.loop-left.invariant.names_so_far added;
      same_so_far = c.loop-left.invariant.same_so_far ∙ taken ∙ ap (λ (last : List ℕ). go_on last (c.loop-left.left - 1) c.in-Some.found.1.now) (sym c.as_bytes-last.ensures.value);
    }
