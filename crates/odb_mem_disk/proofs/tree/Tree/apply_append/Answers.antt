use Rattle.std.proofs.Common.{◌≡◌, ◌∙◌, sym, ap, true, is_some, subst}
use Rattle.std.proofs.lemmas.Result.{on_ok_weaker}
use Rattle.std.specs.Option.{IfSome}
use Rattle.odb_disk.specs.Tree.Change.{is_file_content}
use Rattle.odb_disk.proofs.TreeLemmas.Possible.{possible-append}
use Rattle.odb_disk.proofs.TreeLemmas.Write.{file_at}
use Rattle.odb_disk.proofs.WriteCallsLemmas.Changes.{appended_at}
use Rattle.odb_mem_disk.proofs.tree.Tree.apply_append.Goals as goal

pub file_led_to-requires : goal.file_led_to-requires
file_led_to-requires c = record { leads = sym (possible-append c.args.self.now c.args.path.now c.args.bytes.now) ∙ c.requires.possible }

pub append_at-requires-clause-stands : goal.append_at-requires-clause-stands
append_at-requires-clause-stands c = ap is_some (file_at c.args.self.now c.args.path.now c.in_ok-place.place c.in_ok-place.ensures.place).at

pub append_at-requires-clause-file : goal.append_at-requires-clause-file
append_at-requires-clause-file c =
    let f = file_at c.args.self.now c.args.path.now c.in_ok-place.place c.in_ok-place.ensures.place in
    subst (λ o. IfSome o (λ node. is_file_content node.content ≡ true)) (sym f.at) f.file

pub returns-clause-made : goal.returns-clause-made
returns-clause-made c =
    on_ok_weaker c.append_at.result
    (λ put. appended_at c.args.self.now c.args.path.now c.in_ok-place.place c.in_ok-place.ensures.place c.append_at.new.self c.args.bytes.now put)
    c.append_at.ensures.made
