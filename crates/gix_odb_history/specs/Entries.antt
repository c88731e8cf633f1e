-- Which entries of the journals of a run its records name.
use Rattle.std.specs.Prelude.{◌≡◌, ℕ, ◌==◌, List, length, Option, Some, None, if◌then◌else◌}
use Rattle.std.specs.List.{filter_map, range_with_len}
use Rattle.gix_odb_core.specs.History.{History}
use Rattle.gix_odb_history.specs.Cores.{history_at}
use Rattle.gix_odb_history.specs.declared.record.Did.{Did}
use Rattle.gix_odb_history.specs.declared.record.Did.TheVariants.{Nothing, Disk, Core}
use Rattle.gix_odb_history.specs.declared.record.Record.{Record}

-- the entry of a store's journal in this record, if there is one
abbrev pub entry_told : (store : ℕ) → Did → Option ℕ
entry_told store Nothing = None
entry_told store (Disk op path failed) = None
entry_told store (Core other entry) = if other == store then Some entry else None

abbrev pub entries_told : (store : ℕ) → List Record → List ℕ
entries_told store records = filter_map (λ record_of. entry_told store record_of.did) records

-- The records with an event of a store's core name the entries 1 to n of its journal, in order and each once.
abbrev pub TellsEachEntry : List History → List Record → Type 0
TellsEachEntry cores records = (store : ℕ) → entries_told store records ≡ range_with_len 1 (length (history_at cores store).entries)
