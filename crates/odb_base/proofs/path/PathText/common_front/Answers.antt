use Rattle.std.proofs.Common.{◌++◌, ◌∷◌, [], drop, refl, sym, ap, ◌∙◌, None, Some}
use Rattle.odb_base.specs.Path.{HasSameFirst}
use Rattle.odb_base.proofs.JoinedPathLemmas.{joined_nil, joined-push, names_in, is_joined, all_taken, same_next, other_next, is_common}
use Rattle.odb_base.proofs.path.PathText.common_front.Goals as goal

pub loop-name-init : goal.loop-name-init
loop-name-init c = record { taken = c.new-joined.ensures.bytes ∙ joined_nil; same = refl }

both : (c : goal.In_ok-push_name) → HasSameFirst (drop c.loop-name.shared c.args.self.now) (drop c.loop-name.shared c.args.other.now) (Some c.in-Some.name.now)
both c = rw (← c.in_ok-own.ensures.value, ← c.in_ok-its.ensures.value, ← c.deref.ensures.value, ← c.deref-in-loop-name.ensures.value) c.in-Some.ensures.same

pub loop-name-preserved : goal.loop-name-preserved
loop-name-preserved c =
    let next = same_next _ _ _ _ (both c) in
    record {
      taken = rw (c.in_ok-push_name.ensures.pushed, c.loop-name.invariant.taken, next) (sym (joined-push _ _));
      same = next ∙ ap (λ f. f ++ c.in-Some.name.now ∷ []) c.loop-name.invariant.same ∙ sym (other_next _ _ _ _ (both c));
    }

pub of-requires : goal.of-requires
of-requires c = record { joined = is_joined _ _ c.loop-name.invariant.taken (all_taken _ _ c.names.ensures.are_names) }

pub returns : goal.returns
returns c = record {
  front = let apart : HasSameFirst (drop c.loop-name.shared c.args.self.now) (drop c.loop-name.shared c.args.other.now) None =
      rw (← c.in_ok-own.ensures.value, ← c.in_ok-its.ensures.value, ← c.deref.ensures.value, ← c.deref-in-loop-name.ensures.value) c.in_default.ensures.same in
      rw (c.of.ensures.names, names_in _ _ c.loop-name.invariant.taken (all_taken _ _ c.names.ensures.are_names)) (is_common _ _ _ c.loop-name.invariant.same apart);
}
