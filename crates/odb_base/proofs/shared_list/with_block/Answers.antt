use Rattle.std.proofs.Common.{◌≡◌, ◌/◌, lit<, set, sym}
use Rattle.std.proofs.lemmas.List.{set_past}
use Rattle.std.proofs.lemmas.Result.{IfOk-weaker}
use Rattle.odb_base.specs.Blocks.{AreFilled, joined}
use Rattle.odb_base.proofs.BlocksLemmas.{joined_past, set_joined}
use Rattle.odb_base.proofs.shared_list.with_block.Goals as goal

-- the number is after the last group
pub returns-in-None-clause-filled : goal.returns-in-None-clause-filled
returns-in-None-clause-filled g c =
    IfOk-weaker c.try_clone.result (λ copy. copy ≡ c.args.groups.now) (AreFilled 32) (λ copy e. rw e c.requires.filled) c.try_clone.ensures.value

pub returns-in-None-clause-changed : goal.returns-in-None-clause-changed
returns-in-None-clause-changed g c =
    let past = joined_past 32 c.args.groups.now c.args.number c.requires.filled (lit< tt) (sym c.in-None.ensures.group) in
    IfOk-weaker c.try_clone.result (λ copy. copy ≡ c.args.groups.now) (λ copy. joined copy ≡ set (joined c.args.groups.now) c.args.number c.args.block)
    (λ copy e. rw e (sym (set_past (joined c.args.groups.now) c.args.number c.args.block past)))
    c.try_clone.ensures.value

-- the group that was found has the block now
pub returns-in_ok-group-in-Some-clause-filled : goal.returns-in_ok-group-in-Some-clause-filled
returns-in_ok-group-in-Some-clause-filled g c =
    IfOk-weaker c.shared_with-in-Some.result (λ copy. copy ≡ set c.args.groups.now (c.args.number / 32) c.in_ok-group-in-Some.group) (AreFilled 32)
    (λ copy e. (set_joined 32 c.args.groups.now c.args.number c.requires.filled (lit< tt) c.args.block (sym c.in-Some.ensures.group) c.in_ok-group-in-Some.ensures.values e).0)
    c.shared_with-in-Some.ensures.values

pub returns-in_ok-group-in-Some-clause-changed : goal.returns-in_ok-group-in-Some-clause-changed
returns-in_ok-group-in-Some-clause-changed g c =
    IfOk-weaker c.shared_with-in-Some.result (λ copy. copy ≡ set c.args.groups.now (c.args.number / 32) c.in_ok-group-in-Some.group) (λ changed. joined changed ≡ set (joined c.args.groups.now) c.args.number c.args.block)
    (λ copy e. (set_joined 32 c.args.groups.now c.args.number c.requires.filled (lit< tt) c.args.block (sym c.in-Some.ensures.group) c.in_ok-group-in-Some.ensures.values e).1)
    c.shared_with-in-Some.ensures.values
