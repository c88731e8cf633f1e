use Rattle.std.proofs.Common.{◌∙◌, arith, rules}
use Rattle.gix_odb_core.proofs.PublishLemmas.{take_one-first, take_one-old}
use Rattle.gix_odb_core.proofs.publish.take_one.Goals as goal

pub returns-clause-taken : goal.returns-clause-taken
returns-clause-taken c = take_one-first c.args.row.now c.args.left.now c.args.after.now.items c.args.new c.in_ok-new-2.field-0 (omega arith) (search rules)
    (c.in_ok-new-2.ensures.value ∙ c.in_ok-new.ensures.filled)

pub returns-then-not-new-clause-taken : goal.returns-then-not-new-clause-taken
returns-then-not-new-clause-taken c = take_one-old c.args.row.now c.args.left.now c.args.after.now.items c.args.new (search rules)
