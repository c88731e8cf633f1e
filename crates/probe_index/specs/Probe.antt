-- Which file the bytes of the source are, why they are refused, and what is written for them.
use Rattle.std.specs.Prelude.{◌≡◌, ℕ, List, length, nat_eq, nat_lt, Option, Some, None, is_some, if◌then◌else◌}
use Rattle.std.specs.List.{starts_with}
use Rattle.gix_hash.specs.declared.kind.Kind.{Kind}
use Rattle.gix_hash.specs.declared.object_id.ObjectId.{ObjectId}
use Rattle.gix_pack.specs.Index.{index_rows, index_start, is_index}
use Rattle.gix_pack.specs.MultiIndex.{multi_index_of, multi_index_start, told}
use Rattle.probe_index.specs.declared.asked.Asked.{Asked}
use Rattle.probe_index.specs.declared.probe.Format.{Format}
use Rattle.probe_index.specs.declared.probe.Format.TheVariants.{Index, MultiIndex}
use Rattle.probe_index.specs.declared.probe.Refusal.{Refusal}
use Rattle.probe_index.specs.declared.probe.Refusal.TheVariants.{TooLong, Unknown, BadIndex, BadMultiIndex}
use Rattle.probe_index.specs.declared.status.Status.{Status}
use Rattle.probe_index.specs.declared.status.Status.TheVariants.{Done, Refused}
use Rattle.probe_index.specs.Lines.{AreLines, IsIndexLine, IsPackLine}
use Rattle.probe_index.specs.Refusal.{refusal_text}

-- the most bytes that a file may have, 1 GiB: a source that never ends is refused
abbrev pub file_limit : ℕ
file_limit = 1_073_741_824

-- the format by the first four bytes
abbrev pub format_of : List ℕ → Option Format
format_of bytes =
    if starts_with nat_eq bytes index_start then Some Index
    else if starts_with nat_eq bytes multi_index_start then Some MultiIndex
    else None

abbrev pub index_refusal : Kind → List ℕ → Option Refusal
index_refusal kind bytes = if is_index kind bytes then None else Some BadIndex

abbrev pub multi_index_refusal : List ℕ → Option Refusal
multi_index_refusal bytes = if is_some (multi_index_of bytes) then None else Some BadMultiIndex

abbrev pub refusal_in : Kind → List ℕ → Option Format → Option Refusal
refusal_in kind bytes None = Some Unknown
refusal_in kind bytes (Some Index) = index_refusal kind bytes
refusal_in kind bytes (Some MultiIndex) = multi_index_refusal bytes

-- why bytes are refused, if they are: the length comes before all else
abbrev pub refusal_of : Kind → List ℕ → Option Refusal
refusal_of kind bytes = if nat_lt file_limit (length bytes) then Some TooLong else refusal_in kind bytes (format_of bytes)

-- the lines of the ids by the rows that the bytes have in their format
abbrev pub TellsIn : Kind → List ℕ → List ObjectId → List ℕ → Option Format → Type 0
TellsIn kind bytes ids text None = ⊥
TellsIn kind bytes ids text (Some Index) = AreLines (IsIndexLine (index_rows kind bytes)) ids text
TellsIn kind bytes ids text (Some MultiIndex) = AreLines (IsPackLine (told bytes)) ids text

abbrev pub WritesIn : Asked → List ℕ → List ℕ → Status → Option Refusal → Type 0
WritesIn asked bytes written status None = (status ≡ Done) × TellsIn asked.kind bytes asked.ids written (format_of bytes)
WritesIn asked bytes written status (Some why) = (status ≡ Refused why) × (written ≡ refusal_text why)

-- what is written for bytes, and the status: the lines of the ids exactly if the bytes are not refused
abbrev pub WritesOf : Asked → List ℕ → List ℕ → Status → Type 0
WritesOf asked bytes written status = WritesIn asked bytes written status (refusal_of asked.kind bytes)
