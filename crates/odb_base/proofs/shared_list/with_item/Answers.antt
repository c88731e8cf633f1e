use Rattle.std.proofs.Common.{◌≡◌, ◌∙◌, ◌/◌, lit<, set, sym}
use Rattle.std.proofs.lemmas.List.{set_past}
use Rattle.std.proofs.lemmas.Result.{IfOk-weaker}
use Rattle.odb_base.specs.Blocks.{AreFilled, IsFilled, joined}
use Rattle.odb_base.proofs.BlocksLemmas.{IfOk-both, joined_past, set_in_groups}
use Rattle.odb_base.proofs.shared_list.with_item.Goals as goal

-- the place is after the last block
pub returns-in-None-clause-filled : goal.returns-in-None-clause-filled
returns-in-None-clause-filled g c =
    IfOk-weaker c.try_clone.result (λ copy. copy ≡ c.args.groups.now) (IsFilled 32) (λ copy e. rw e c.requires.filled) c.try_clone.ensures.value

pub returns-in-None-clause-places : goal.returns-in-None-clause-places
returns-in-None-clause-places g c =
    let past = joined_past 32 (joined c.args.groups.now) c.args.place c.requires.filled.1 (lit< tt) (sym c.in-None.ensures.block) in
    IfOk-weaker c.try_clone.result (λ copy. copy ≡ c.args.groups.now) (λ copy. joined (joined copy) ≡ set (joined (joined c.args.groups.now)) c.args.place c.args.item)
    (λ copy e. rw e (sym (set_past (joined (joined c.args.groups.now)) c.args.place c.args.item past)))
    c.try_clone.ensures.value

-- the block that was found has the item now
pub returns-in_ok-block-in-Some-clause-filled : goal.returns-in_ok-block-in-Some-clause-filled
returns-in_ok-block-in-Some-clause-filled g c =
    IfOk-weaker c.with_block.result (λ changed. AreFilled 32 changed × (joined changed ≡ set (joined c.args.groups.now) (c.args.place / 32) c.in_ok-block-in-Some.block)) (IsFilled 32)
    (λ changed h. (set_in_groups 32 c.args.groups.now changed c.args.place c.args.item c.requires.filled (lit< tt) (sym c.in-Some.ensures.block) c.in_ok-block-in-Some.ensures.items h.0 h.1).0)
    (IfOk-both c.with_block.result (AreFilled 32) (λ changed. joined changed ≡ set (joined c.args.groups.now) (c.args.place / 32) c.in_ok-block-in-Some.block) c.with_block.ensures.filled c.with_block.ensures.changed)

pub returns-in_ok-block-in-Some-clause-places : goal.returns-in_ok-block-in-Some-clause-places
returns-in_ok-block-in-Some-clause-places g c =
    IfOk-weaker c.with_block.result (λ changed. AreFilled 32 changed × (joined changed ≡ set (joined c.args.groups.now) (c.args.place / 32) c.in_ok-block-in-Some.block)) (λ changed. joined (joined changed) ≡ set (joined (joined c.args.groups.now)) c.args.place c.args.item)
    (λ changed h. (set_in_groups 32 c.args.groups.now changed c.args.place c.args.item c.requires.filled (lit< tt) (sym c.in-Some.ensures.block) c.in_ok-block-in-Some.ensures.items h.0 h.1).1)
    (IfOk-both c.with_block.result (AreFilled 32) (λ changed. joined changed ≡ set (joined c.args.groups.now) (c.args.place / 32) c.in_ok-block-in-Some.block) c.with_block.ensures.filled c.with_block.ensures.changed)
