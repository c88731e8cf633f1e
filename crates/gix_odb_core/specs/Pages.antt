-- A journal as contracts see it.
use Rattle.std.specs.Prelude.{ℕ, List}
use Rattle.gix_odb_core.specs.declared.journal.Entry.{Entry}

-- its entries, in order, and how many more there is room for, without more memory
pub record Pages : Type 0 where
  pub entries : List Entry
  pub room : ℕ
