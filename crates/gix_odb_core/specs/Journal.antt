-- The entries of a journal, in order.
use Rattle.std.specs.Prelude.{List}
use Rattle.gix_odb_core.specs.declared.journal.Entry.{Entry}
use Rattle.gix_odb_core.specs.declared.journal.Journal.{Journal}

abbrev pub entries_of : Journal → List Entry
entries_of journal = journal.entries
