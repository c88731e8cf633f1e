use Rattle.std.proofs.Common.{◌∙◌, ap}
use Rattle.std.proofs.lemmas.Result.{err_from_is_err_and}
use Rattle.odb_disk.proofs.MemDiskLemmas.{open_refused, open_answers, Opens-from}
use Rattle.odb_mem_disk.proofs.mem_disk.MemDiskDisk.open_dir.Goals as goal

pub returns-in_err-entries-clause-answer : goal.returns-in_err-entries-clause-answer
returns-in_err-entries-clause-answer c =
    let p = err_from_is_err_and c.from_residual.result c.from_residual.ensures.1 in
    let same = ap (λ v. v.state) c.self.view_is ∙ c.count.ensures.state in
    rw (p.1, p.2) (open_refused c.self.inside.tree c.args.self.now.state c.args.path.now same c.in_err-entries.field-0.0 c.in_err-entries.ensures.answer)

pub returns-clause-answer : goal.returns-clause-answer
returns-clause-answer c =
    let same = ap (λ v. v.state) c.self.view_is ∙ c.count.ensures.state in
    open_answers c.self.inside.tree c.args.self.now.state c.args.path.now same c.in_ok-entries.entries c.in_ok-entries.ensures.answer

pub returns-clause-opened : goal.returns-clause-opened
returns-clause-opened c =
    let same = ap (λ v. v.state) c.self.view_is ∙ c.count.ensures.state in
    let same_streams = ap (λ v. v.streams) c.self.view_is ∙ c.count.ensures.streams in
    Opens-from c.self.inside.tree c.args.self.now.state c.args.path.now same c.in_ok-entries.entries c.in_ok-entries.ensures.answer
    c.self.inside.streams c.args.self.now.streams c.open.new.self c.in_ok-open.field-0 same_streams c.in_ok-open.ensures.opened c.in_ok-open.ensures.least c.in_ok-open.ensures.few
