use Rattle.std.proofs.Common.{sym, ◌∙◌}
use Rattle.gix_odb_watch.proofs.FilesLemmas.{keeps_new, keeps_there}
use Rattle.gix_odb_watch.proofs.contents.Contents.keep.Goals as goal

pub returns-then-contains_key : goal.returns-then-contains_key
returns-then-contains_key c = record {
  kept = keeps_there c.self.inside.bytes.entries c.args.self.now c.args.file c.self.view_is (sym c.contains_key.ensures ∙ c.if-contains_key.true);
}

pub returns : goal.returns
returns c = record {
  kept = keeps_new c.self.inside.bytes.entries c.args.self.now c.args.file c.self.view_is c.insert.new.self.entries (sym c.contains_key.ensures ∙ c.if-contains_key.false)
      c.in_ok-insert.ensures.updates.0;
}
