use Rattle.std.proofs.Common.{◌≡◌, ◌≢◌, ◌∙◌, [], ◌++◌, OnOk, length, map, sym, ap, subst, arith}
use borrow.Author.Tests.{ltb-true, ltb-false}
use Rattle.std.specs.List.{cons_option}
use Rattle.odb_mem_disk.proofs.EntriesLemmas.{none_added, one_added}
use Rattle.odb_mem_disk.proofs.tree.list.add_entry.Goals as goal
use Rattle.odb_mem_disk.proofs.tree.list.add_entry.Goals.{in_default-via-then-as_slice-lt1, in_default-via-else-as_slice-lt1+else-this-lt2}

pub returns-in_default : goal.returns-in_default
returns-in_default c = record {
  added = let names = c.as_slice.result.now in
      let is : map (λ name. name.now) names ≡ c.args.below.now = ap (map (λ name. name.now)) c.as_slice.ensures.value ∙ c.in_ok-names.ensures.value in
      let other : length names ≢ 1 = elim c.in_default.branch [
        | in_default-via-then-as_slice-lt1 w ↦ λ one. omega (arith, ltb-true, ltb-false)
        | in_default-via-else-as_slice-lt1+else-this-lt2 w ↦ λ one. omega (arith, ltb-true, ltb-false)
      ] in
      none_added c.args.entries.now names c.args.below.now c.args.node.now is other;
}

pub returns : goal.returns
returns c = record {
  added = let names = c.as_slice.result.now in
      let is : map (λ name. name.now) names ≡ c.args.below.now = ap (map (λ name. name.now)) c.as_slice.ensures.value ∙ c.in_ok-names.ensures.value in
      let one : length names ≡ 1 = omega arith in
      let added = one_added names c.args.below.now c.args.node.now _ c.in_ok-new.field-0 c.kind.result is one c.in_ok-new.ensures.name c.kind.ensures.kind in
      subst (λ o. OnOk c.push.result (c.push.new.self ≡ c.args.entries.now ++ cons_option o [])) (sym added) c.push.ensures.ok;
}
