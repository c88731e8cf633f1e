use Rattle.std.proofs.Common.{◌==◌, arith, not, sym, ap, ◌∙◌}
use Rattle.std.specs.List.{slice_index}
use Rattle.walkdir.specs.Entry.{file_name_of}
use Rattle.walkdir_uses.proofs.FoundLemmas.{hidden_by}
use Rattle.walkdir_uses.proofs.is_visible.Goals as goal

pub returns : goal.returns
returns c =
    let dotted = c.starts_with.ensures.byte (omega arith) (omega arith) (λ w o finds. finds) ∙ ap (λ name. slice_index name 0 == 46) c.file_name.ensures.told in
    record { told = ap not (dotted ∙ sym (hidden_by (file_name_of c.args.entry.now))) }
