use Rattle.std.proofs.Common.{◌≡◌, ℕ, List, [], ◌++◌, codes, ap, ◌∙◌}
use Rattle.std.specs.Fmt.{decimal}
use Rattle.odb_script.specs.Told.{field_at, shown}
use Rattle.odb_script.proofs.unbuilt.unbuilt_line.Goals as goal

-- the number of the line, and then its word as it is shown
told_on : (none now next number label word field : List ℕ) → none ≡ [] → now ≡ none ++ number → next ≡ now ++ (label ++ shown word) → word ≡ field
    → next ≡ number ++ (label ++ shown field)
told_on none now next number label word field nothing numbered shows is =
    shows ∙ ap (λ n. n ++ (label ++ shown word)) (numbered ∙ ap (λ n. n ++ number) nothing) ∙ ap (λ w. number ++ (label ++ shown w)) is

pub returns : goal.returns
returns c = record {
  told = told_on c.new-out.result.items c.labelled.new.out.items c.label_field.new.out.items
      (codes "line " ++ decimal c.args.number) (codes ", field 1: not built yet: ") c.part_at.result.bytes.now (field_at c.args.line.now 1)
      c.new-out.ensures.items c.in_ok-labelled.ensures.ok c.in_ok-label_field.ensures.ok c.part_at.ensures.part;
}
