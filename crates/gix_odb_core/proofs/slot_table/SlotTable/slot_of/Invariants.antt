use Rattle.gix_odb_core.proofs.slot_table.SlotTable.slot_of.Given as goal

abbrev pub ghosts-slot_of_uncounted : goal.ghosts-slot_of_uncounted
ghosts-slot_of_uncounted a = record { name = a.blank.name; parts = a.blank.parts }
