use Rattle.std.proofs.Common.{◌∙◌, sym, ap, Ok}
use Rattle.std.proofs.lemmas.Result.{err_from_is_err_and}
use Rattle.odb_disk.specs.Entries.{entries_in}
use Rattle.odb_mem_disk.proofs.EntriesLemmas.{opened_directory, opened_other, opened_refused}
use Rattle.odb_mem_disk.proofs.tree.Tree.entries.Goals as goal

pub returns-in_err-place-clause-answer : goal.returns-in_err-place-clause-answer
returns-in_err-place-clause-answer c =
    let p = err_from_is_err_and c.from_residual.result c.from_residual.ensures.1 in
    rw (p.1, p.2) (opened_refused c.args.self.now c.args.path.now _ c.in_err-place.ensures.told)

pub returns-then-not-stands_directory-clause-answer : goal.returns-then-not-stands_directory-clause-answer
returns-then-not-stands_directory-clause-answer c =
    opened_other c.args.self.now c.args.path.now c.in_ok-place.place c.in_ok-place.ensures.told (sym c.stands_directory.ensures.directory ∙ c.if-not-stands_directory.true)

pub returns-clause-answer : goal.returns-clause-answer
returns-clause-answer c =
    opened_directory c.args.self.now c.args.path.now c.in_ok-place.place c.in_ok-place.ensures.told (sym c.stands_directory.ensures.directory ∙ c.if-not-stands_directory.false)
    ∙ ap Ok (ap (λ t. entries_in t c.in_ok-place.place) (sym c.self.view_is) ∙ sym c.in_ok-entries_below.ensures.entries)
