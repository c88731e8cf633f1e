use Rattle.std.proofs.Common.{◌∙◌, sym, ap, subst, Some}
use Rattle.odb_disk.specs.Tree.{IsTree, tree_of}
use Rattle.odb_disk.specs.Tree.Follow.{read_of}
use Rattle.odb_disk.specs.Answers.{Answers}
use Rattle.odb_disk.proofs.TreeLemmas.{tree_of-state_of}
use Rattle.odb_disk.proofs.MemDiskLemmas.{after_call-state}
use Rattle.odb_mem_disk.proofs.mem_disk.MemDiskDisk.read.Goals as goal

pub returns-then-failed-clause-kept : goal.returns-then-failed-clause-kept
returns-then-failed-clause-kept c = ap (λ v. Some v.state) c.count-failed.ensures.counted ∙ ap Some (after_call-state _)

pub returns-clause-kept : goal.returns-clause-kept
returns-clause-kept c = ap (λ v. Some v.state) c.count-failed.ensures.counted ∙ ap Some (after_call-state _)

pub returns-clause-answer : goal.returns-clause-answer
returns-clause-answer c =
    let same = sym (tree_of-state_of c.self.inside.tree) ∙ ap (λ v. tree_of v.state) (c.self.view_is ∙ c.count-failed.ensures.counted) ∙ ap tree_of (after_call-state c.args.self.now) in
    subst (λ t. Answers c.read.result (read_of t c.args.path.now)) same c.read.ensures.answer

pub returns-then-failed-clause-tree : goal.returns-then-failed-clause-tree
returns-then-failed-clause-tree c =
    let same = sym (tree_of-state_of c.self.inside.tree) ∙ ap (λ v. tree_of v.state) (c.self.view_is ∙ c.count-failed.ensures.counted) ∙ ap tree_of (after_call-state c.args.self.now) in
    subst IsTree same c.self.invariant

pub returns-clause-tree : goal.returns-clause-tree
returns-clause-tree c =
    let same = sym (tree_of-state_of c.self.inside.tree) ∙ ap (λ v. tree_of v.state) (c.self.view_is ∙ c.count-failed.ensures.counted) ∙ ap tree_of (after_call-state c.args.self.now) in
    subst IsTree same c.self.invariant
