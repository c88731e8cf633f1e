-- What a look-up replies.
use Rattle.std.specs.Prelude.{true, false, if◌then◌else◌}
use Rattle.gix_odb_search.specs.declared.goal.Error as pack
use Rattle.gix_odb_search.specs.declared.goal.Error.TheVariants as pack_errors
use Rattle.gix_odb_search.specs.declared.goal.Found.{Found}
use Rattle.gix_odb_search.specs.declared.goal.Found.TheVariants as found
use Rattle.gix_odb_search.specs.declared.search.Notes.{Notes}
use Rattle.gix_odb_calls.specs.declared.call.CallError.TheVariants as call_errors
use Rattle.gix_odb_calls.specs.declared.call.Reply.{Reply}
use Rattle.gix_odb_calls.specs.declared.call.Reply.TheVariants as replies
use Rattle.gix_odb_calls.specs.declared.find.Error as find
use Rattle.gix_odb_calls.specs.declared.find.Error.TheVariants as find_errors
use Rattle.gix_odb_calls.specs.declared.find.Header.TheVariants as headers
use Rattle.gix_odb_calls.specs.declared.load_index.Error as load_index
use Rattle.gix_odb_calls.specs.declared.load_index.Error.TheVariants as load_errors
use Rattle.gix_odb.specs.declared.look_up.LookStage.{LookStage}
use Rattle.gix_odb.specs.declared.look_up.LookStage.TheVariants as stages
use Rattle.gix_object.specs.declared.want.Want.{Want}
use Rattle.gix_object.specs.declared.want.Want.TheVariants.{Presence}

abbrev pub load_refused : load_index.Error → Reply
load_refused error = replies.Refused (call_errors.Find (find_errors.LoadIndex error))

abbrev pub find_error : pack.Error → find.Error
find_error pack_errors.LoadPack = find_errors.LoadPack
find_error pack_errors.Pack = find_errors.Pack
find_error (pack_errors.EntryType code) = find_errors.EntryType code
find_error pack_errors.DeltaEntry = find_errors.DeltaEntry
find_error (pack_errors.OutOfMemory size) = find_errors.OutOfMemory size

abbrev pub reply_found : Found → Reply
reply_found (found.Object kind bytes) = replies.Found kind bytes
reply_found (found.Header kind size) = replies.Header (headers.Packed kind size)
reply_found found.Presence = replies.Tested true

abbrev pub not_found : Want → Reply
not_found Presence = replies.Tested false
not_found want = replies.NotFound

-- where nothing was found: an index that couldn't be read, or a folder that couldn't be searched, is reported
abbrev pub ended : Want → Notes → LookStage
ended want notes = if notes.failed then stages.Done (load_refused load_errors.Io) else stages.Done (not_found want)
