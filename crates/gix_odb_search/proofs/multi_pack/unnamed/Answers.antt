use Rattle.std.proofs.Common.{◌∙◌, rules, sym, ap, List, not, ◌||◌}
use Rattle.std.specs.List.{filter}
use Rattle.std.specs.Option.{is_some}
use Rattle.std.proofs.lemmas.Fn.{filter_same}
use Rattle.gix_odb_events.specs.declared.listing.ListingRow.{ListingRow}
use Rattle.gix_odb_search.specs.MultiPack.{is_among, named_in}
use Rattle.gix_odb_search.proofs.MultiPackLemmas.{row_stays}
use Rattle.gix_odb_search.proofs.multi_pack.unnamed.Goals as goal

pub returns : goal.returns
returns c = record {
  unnamed =
      c.from_vec.ensures.items
      ∙ filter_same _ _ _ (λ row b f' k. search (rules, row_stays c.in_ok-named.named c.args.rows (rw (sym c.as_slice.ensures.value) c.in_ok-named.ensures.named))) _ _ c.retain.ensures.filtered
      ∙ ap (λ (rows : List ListingRow). filter (λ row. is_some row.multi || not (is_among (named_in c.args.rows) row.path)) rows) c.into_vec-rows.ensures.items;
}
