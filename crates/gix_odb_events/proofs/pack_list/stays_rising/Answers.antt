use Rattle.std.proofs.Common.{◌∙◌, ap, sym}
use Rattle.std.specs.List.{slice_get}
use Rattle.odb_base.specs.Path.{Path}
use Rattle.gix_odb_events.specs.PackFiles.{PackFile}
use Rattle.gix_odb_events.specs.PackList.{has_path_at}
use Rattle.gix_odb_events.proofs.PackListLaws.{IsRising-set}
use Rattle.gix_odb_events.proofs.pack_list.stays_rising.Goals as goal

-- the path at the place stays
pub returns : goal.returns
returns c = record {
  rising = λ is.
      IsRising-set c.args.packs.now c.args.place c.args.pack.now (c.is_rising.ensures.rising c.if-not-is_rising.false)
      (ap (λ (p : Path). has_path_at p (slice_get c.args.packs.now c.args.place)) (sym (c.path.ensures.path ∙ ap (λ (p : PackFile). p.path) c.value.ensures.value)) ∙ sym c.has_path_at.ensures.has ∙ is);
}
