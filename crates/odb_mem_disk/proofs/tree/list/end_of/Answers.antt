use Rattle.std.proofs.Common.{[], ◌∷◌, ◌++◌, ap, sym, ◌∙◌}
use Rattle.odb_mem_disk.proofs.ListingLemmas.{all_before}
use Rattle.odb_mem_disk.proofs.tree.list.end_of.Goals as goal

pub returns-in-Ok : goal.returns-in-Ok
returns-in-Ok c = record {
  end = all_before c.args.path.now c.in-Some.directory c.in-Some-file_name.name.now c.in-Ok.end (sym c.in_ok-directory.ensures.parent ∙ c.in-Some.is) (sym c.in-Some-file_name.ensures.name)
      (c.in-Ok.ensures.joined ∙ ap (λ n. c.in-Some.directory ++ n ∷ []) (c.as_str.ensures.value ∙ c.in_ok-behind.ensures.behind));
}
