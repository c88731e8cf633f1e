-- What a pack gives of an object that is sought.
use Rattle.std.specs.Prelude.{ℕ, Option, Result, Ok, Err}
use Rattle.gix_pack_read.specs.FileBytes.{FileBytes}
use Rattle.gix_pack_read.specs.Pack.{Entry, entry_at, header_at}
use Rattle.gix_pack_read.specs.declared.data.Error as pack
use Rattle.gix_pack_read.specs.declared.data.Error.TheVariants as pack_errors
use Rattle.gix_pack_read.specs.declared.data.entry.Header as pack_header
use Rattle.gix_odb_search.specs.declared.goal.Error.{Error}
use Rattle.gix_odb_search.specs.declared.goal.Error.TheVariants as errors
use Rattle.gix_odb_search.specs.declared.goal.Found.{Found}
use Rattle.gix_odb_search.specs.declared.goal.Found.TheVariants as found
use Rattle.gix_object.specs.declared.want.Want.{Want}
use Rattle.gix_object.specs.declared.want.Want.TheVariants.{Object, Header, Presence}

-- an error of a pack, as one of a search for an object. Bytes that are no pack can't be loaded
abbrev pub error_of : pack.Error → Error
error_of pack_errors.BadPack = errors.LoadPack
error_of pack_errors.BadEntry = errors.Pack
error_of pack_errors.DeltaEntry = errors.DeltaEntry
error_of (pack_errors.OutOfMemory size) = errors.OutOfMemory size
error_of (pack_errors.EntryType code) = errors.EntryType code

abbrev pub object_in : Result Entry pack.Error → Result Found Error
object_in (Ok entry) = Ok (found.Object entry.kind entry.bytes)
object_in (Err error) = Err (error_of error)

abbrev pub header_in : Result pack_header.Header pack.Error → Result Found Error
header_in (Ok header) = Ok (found.Header header.kind header.size)
header_in (Err error) = Err (error_of error)

-- what a pack gives at an offset: a base entry with its data, within the limit; the header of one; or that the object is there, for
-- which no pack is asked
abbrev pub given_by : Want → (limit : Option ℕ) → FileBytes → (offset : ℕ) → Result Found Error
given_by Object limit file offset = object_in (entry_at file.kind file.bytes offset limit)
given_by Header limit file offset = header_in (header_at file.kind file.bytes offset)
given_by Presence limit file offset = Ok found.Presence
