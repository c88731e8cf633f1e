use Rattle.std.proofs.Common.{map, take, refl, sym, ap, ◌∙◌}
use Rattle.std.specs.List.{list_all}
use Rattle.odb_base.specs.Path.{is_name}
use Rattle.odb_base.proofs.PathLemmas.{names-refused}
use Rattle.odb_base.proofs.JoinedPathLemmas.{names_in, is_joined, joined_nil, joined-push, names-push, texts-push, texts-all}
use Rattle.odb_base.proofs.path.PathText.from_names.Goals as goal

pub returns-then-not-is_name-clause-refused : goal.returns-then-not-is_name-clause-refused
returns-then-not-is_name-clause-refused c =
    λ _. names-refused c.args.texts.now c.loop-text.text-index _ c.loop-text-test.true (sym c.if-not-is_name.ensures.named)

pub loop-text-init : goal.loop-text-init
loop-text-init c = record { taken = c.in_ok-joined.ensures.bytes ∙ joined_nil; are_names = refl }

pub loop-text-preserved : goal.loop-text-preserved
loop-text-preserved c =
    let more = texts-push c.args.texts.now c.loop-text.text-index _ c.loop-text-test.true in
    let so_far = map (λ text. text.now) (take c.loop-text.text-index c.args.texts.now) in
    record {
      taken = rw (c.in_ok-push_name.ensures.pushed, c.loop-text.invariant.taken, more) (sym (joined-push so_far _));
      are_names = rw (more) (names-push so_far _ c.loop-text.invariant.are_names (sym c.if-not-is_name.ensures.named));
    }

pub of-requires : goal.of-requires
of-requires c = record { joined = is_joined _ _ c.loop-text.invariant.taken c.loop-text.invariant.are_names }

pub returns-clause-path : goal.returns-clause-path
returns-clause-path c = c.of.ensures.names ∙ names_in _ _ c.loop-text.invariant.taken c.loop-text.invariant.are_names ∙ texts-all c.args.texts.now c.loop-text.text-index c.loop-text-test.false

pub returns-clause-are_names : goal.returns-clause-are_names
returns-clause-are_names c = ap (list_all is_name) (c.of.ensures.names ∙ names_in _ _ c.loop-text.invariant.taken c.loop-text.invariant.are_names) ∙ c.loop-text.invariant.are_names
