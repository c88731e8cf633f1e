use Rattle.std.proofs.Common.{[], ap, length, sym, subst, unwrap_or, ℕ, ◌∙◌}
use Rattle.gix_hash.specs.Steps.{IsSearch}
use Rattle.gix_odb_core.specs.SlotTable.{IsTable, filled_count, keys_of, slot_of}
use Rattle.gix_odb_core.proofs.SlotTableLemmas.{table_len}
use Rattle.gix_odb_core.proofs.slot_table.SlotTable.slot_of_counted.Goals as goal

pub search-requires : goal.search-requires
search-requires g c = record { table = subst (IsTable (keys_of c.self.inside.slots)) (sym c.places_of.ensures.places) c.self.invariant }

pub returns : goal.returns
returns g c = record {
  slot = c.search.ensures.slot ∙ ap (slot_of c.args.path.now c.args.time) c.self.view_is;
  steps = subst (λ (n : ℕ). IsSearch n c.args.steps.now c.search.new.steps)
      (ap (length {A = ℕ}) c.places_of.ensures.places
      ∙ table_len c.self.inside.slots (unwrap_or c.self.inside.table []) c.self.invariant
      ∙ ap filled_count c.self.view_is)
      c.search.ensures.steps;
}
