use Rattle.std.proofs.Common.{◌∙◌, sym, ap, true, false, not, refl}
use Rattle.std.proofs.lemmas.Result.{err_from_is_err_and}
use Rattle.std.proofs.lemmas.Bool.{false≢true}
use Rattle.odb_disk.specs.Tree.{names_in}
use Rattle.odb_disk.specs.Tree.Change.{is_nil}
use Rattle.odb_mem_disk.proofs.NamesLemmas.{not_twice}
use Rattle.odb_disk.proofs.WriteCallsLemmas.Spots.{removable_refused, nothing_to_remove, removed_or_not, root_nil, other_nil}
use Rattle.odb_mem_disk.proofs.tree.Tree.removable.Goals as goal

pub returns-in_err-place-clause-told : goal.returns-in_err-place-clause-told
returns-in_err-place-clause-told c =
    let p = err_from_is_err_and c.from_residual.result c.from_residual.ensures.1 in
    rw (p.1, p.2) (removable_refused c.args.self.now c.args.path.now _ c.in_err-place.ensures.told)

pub returns-in_default-clause-told : goal.returns-in_default-clause-told
returns-in_default-clause-told c = nothing_to_remove c.args.self.now c.args.path.now c.in_ok-place.place c.in_ok-place.ensures.told (sym c.in_default.ensures.value)

pub returns-then-has_names-clause-told : goal.returns-then-has_names-clause-told
returns-then-has_names-clause-told c =
    let s = c.in_ok-place.place in
    removed_or_not c.args.self.now c.args.path.now s c.in_ok-place.ensures.told c.in-Some.field-0.now false (is_nil s) (sym c.in-Some.ensures.value)
    (ap (λ t. is_nil (names_in t s)) (sym c.self.view_is) ∙ sym (not_twice _) ∙ ap not (sym c.has_names.ensures.names ∙ c.if-has_names.true)) refl

pub returns-then-is_root-clause-told : goal.returns-then-is_root-clause-told
returns-then-is_root-clause-told c =
    let s = c.in_ok-place.place in
    removed_or_not c.args.self.now c.args.path.now s c.in_ok-place.ensures.told c.in-Some.field-0.now true true (sym c.in-Some.ensures.value)
    (ap (λ t. is_nil (names_in t s)) (sym c.self.view_is) ∙ sym (not_twice _) ∙ ap not (sym c.has_names.ensures.names ∙ c.if-has_names.false))
    (root_nil s (c.is_root.ensures.root.0 c.if-is_root.true))

pub returns-clause-told : goal.returns-clause-told
returns-clause-told c =
    let s = c.in_ok-place.place in
    removed_or_not c.args.self.now c.args.path.now s c.in_ok-place.ensures.told c.in-Some.field-0.now true false (sym c.in-Some.ensures.value)
    (ap (λ t. is_nil (names_in t s)) (sym c.self.view_is) ∙ sym (not_twice _) ∙ ap not (sym c.has_names.ensures.names ∙ c.if-has_names.false))
    (other_nil s (λ root. false≢true (sym c.if-is_root.false ∙ c.is_root.ensures.root.1 root)))
