use Rattle.std.proofs.Common.{◌∙◌, ap, List}
use Rattle.std.specs.List.{list_any}
use Rattle.gix_odb_watch.specs.Kept.{Kept}
use Rattle.gix_odb_watch.specs.Files.{differs}
use Rattle.gix_odb_watch.specs.declared.shown_file.ShownFile.{ShownFile}
use Rattle.gix_odb_watch.proofs.KeptLemmas.{second_answered}
use Rattle.gix_odb_watch.proofs.shown.Shown.has_second.Goals as goal

pub returns : goal.returns
returns c = record {
  second = λ before after fits is.
      second_answered c.args.self.now before after c.args.revealed.now.files.items fits is.reveals c.differs_from_one.result
      (c.differs_from_one.ensures.differs ∙ ap (λ (files : List ShownFile). list_any (differs c.self.inside.contents) files) c.deref.ensures.value
      ∙ ap (λ (k : Kept). list_any (differs k.contents) c.args.revealed.now.files.items) c.self.view_is);
}
