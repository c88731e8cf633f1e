use Rattle.std.proofs.Common.{◌≡◌, ◌∙◌, sym}
use Rattle.odb_disk.specs.Tree.{tree_of}
use Rattle.odb_disk.specs.Ask.{answer_in, fails_now, state_after}
use Rattle.odb_disk.proofs.StreamAsksLemmas.{told_in, left_in}
use Rattle.odb_disk.proofs.AskLemmas.InMemory.{answered_by, volume_after_ask, volume_kept, has_memory, no_memory}
use Rattle.odb_mem_disk.proofs.mem_disk.MemDisk.carry_out.Goals as goal

pub returns-then-ran_out-clause-kept : goal.returns-then-ran_out-clause-kept
returns-then-ran_out-clause-kept c =
    let is = c.carry_out-answer.ensures in
    let old = c.args.self.now in
    let new = c.carry_out-answer.new.disk in
    let ask = c.args.ask.now in
    let answer = c.carry_out-answer.result in
    let state : new.state ≡ state_after old.state ask answer = cc in
    let left = left_in old.state old.streams new.streams ask answer is.streams is.of_streams is.answered.least in
    volume_kept old new ask answer state left is.answered.counted (no_memory answer (sym c.ran_out.ensures.ran_out ∙ c.if-ran_out.true))

pub returns-clause-answered : goal.returns-clause-answered
returns-clause-answered c =
    let is = c.carry_out-answer.ensures in
    let old = c.args.self.now in
    let new = c.carry_out-answer.new.disk in
    let ask = c.args.ask.now in
    let answer = c.carry_out-answer.result in
    let told = told_in old.state old.streams new.streams ask answer is.answer is.of_streams is.answered.least in
    answered_by (fails_now old ask) answer (answer_in (tree_of old.state) old.streams ask) told is.answered.failed
    (has_memory answer (sym c.ran_out.ensures.ran_out ∙ c.if-ran_out.false))

pub returns-clause-made : goal.returns-clause-made
returns-clause-made c =
    let is = c.carry_out-answer.ensures in
    let old = c.args.self.now in
    let new = c.carry_out-answer.new.disk in
    let ask = c.args.ask.now in
    let answer = c.carry_out-answer.result in
    let state : new.state ≡ state_after old.state ask answer = cc in
    let left = left_in old.state old.streams new.streams ask answer is.streams is.of_streams is.answered.least in
    let told = told_in old.state old.streams new.streams ask answer is.answer is.of_streams is.answered.least in
    volume_after_ask old new ask answer state left is.answered.counted
    (has_memory answer (sym c.ran_out.ensures.ran_out ∙ c.if-ran_out.false)) told is.answered.failed
