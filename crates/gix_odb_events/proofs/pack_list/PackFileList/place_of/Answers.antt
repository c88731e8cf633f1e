use Rattle.std.proofs.Common.{◌∙◌, sym}
use Rattle.gix_odb_events.proofs.PackListLaws.{HasFirst-from_rising}
use Rattle.gix_odb_events.proofs.pack_list.PackFileList.place_of.Goals as goal

-- the only pack that has the path
pub returns-then-has_path_at : goal.returns-then-has_path_at
returns-then-has_path_at c = record {
  place = HasFirst-from_rising c.args.path.now c.args.self.now c.place_by_halves-place.result (c.is_rising.ensures.rising c.if-is_rising.true)
      (sym c.has_path_at.ensures.has ∙ c.if-has_path_at.true);
}
