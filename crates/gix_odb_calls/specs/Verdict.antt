-- What a query asks of a folder of loose objects, and what the answer means for it.
use Rattle.std.specs.Prelude.{ℕ, List, true, false, Option, Some, None, Result, Ok, Err, Bool}
use Rattle.odb_base.specs.Path.{Path}
use Rattle.odb_disk.specs.declared.ask.DiskAnswer.{DiskAnswer}
use Rattle.odb_disk.specs.declared.ask.DiskAsk.{DiskAsk}
use Rattle.gix_hash.specs.declared.object_id.ObjectId.{ObjectId}
use Rattle.gix_object.specs.declared.kind.Kind.{Kind}
use Rattle.gix_object.specs.declared.want.Want.{Want}
use Rattle.gix_object.specs.declared.want.Want.TheVariants.{Object, Header, Presence}
use Rattle.gix_odb_loose.specs.LooseFile.{loose_path}
use Rattle.gix_odb_loose.specs.LooseOrder.{want_ask}
use Rattle.gix_odb_loose.specs.LooseOrder.Answered.{found_by, header_by, tested_by}
use Rattle.gix_odb_loose.specs.declared.find.Error.{Error}
use Rattle.gix_odb_loose.specs.declared.find.Error.TheVariants as errors
use Rattle.gix_odb_calls.specs.declared.call.CallError.TheVariants as call_errors
use Rattle.gix_odb_calls.specs.declared.call.Reply.{Reply}
use Rattle.gix_odb_calls.specs.declared.call.Reply.TheVariants as replies
use Rattle.gix_odb_calls.specs.declared.find.Error.TheVariants as find_errors
use Rattle.gix_odb_calls.specs.declared.find.Header.TheVariants as headers
use Rattle.gix_odb_calls.specs.declared.verdict.FolderCall.{FolderCall}
use Rattle.gix_odb_calls.specs.declared.verdict.Verdict.{Verdict}
use Rattle.gix_odb_calls.specs.declared.verdict.Verdict.TheVariants as verdicts

-- ---- the ask to a folder

-- a folder is asked for the object of an id
abbrev pub asking : (limit : Option ℕ) → Want → ObjectId → Path → FolderCall
asking limit want id folder = record { want = want; path = loose_path folder id; limit = limit }

-- its one call of the disk
abbrev pub folder_ask : FolderCall → DiskAsk
folder_ask call = want_ask call.want call.path

-- ---- what the answer means for the query

-- an error of a folder is passed on
abbrev pub refused : Error → Reply
refused error = replies.Refused (call_errors.Find (find_errors.Loose error))

-- an object ends a find, as an error does; nothing at the path is a miss
abbrev pub verdict_on_find : Result (Option (Kind × List ℕ)) Error → Verdict
verdict_on_find (Ok (Some found)) = verdicts.Ends (replies.Found found.0 found.1)
verdict_on_find (Ok None) = verdicts.Misses
verdict_on_find (Err error) = verdicts.Ends (refused error)

-- the same of a header
abbrev pub verdict_on_header : Result (Option (ℕ × Kind)) Error → Verdict
verdict_on_header (Ok (Some found)) = verdicts.Ends (replies.Header (headers.Loose found.1 found.0))
verdict_on_header (Ok None) = verdicts.Misses
verdict_on_header (Err error) = verdicts.Ends (refused error)

-- A file is a yes. A look that failed is noted, so that another folder may still say yes.
abbrev pub verdict_on_test : Result Bool Error → Verdict
verdict_on_test (Ok true) = verdicts.Ends (replies.Tested true)
verdict_on_test (Ok false) = verdicts.Misses
verdict_on_test (Err errors.NoMemory) = verdicts.Ends (refused errors.NoMemory)
verdict_on_test (Err error) = verdicts.Notes error

-- what the query makes of the answer, by what is wanted
abbrev pub verdict_by : Want → Path → (limit : Option ℕ) → DiskAnswer → Verdict
verdict_by Object path limit answer = verdict_on_find (found_by path limit answer)
verdict_by Header path limit answer = verdict_on_header (header_by path answer)
verdict_by Presence path limit answer = verdict_on_test (tested_by path answer)

abbrev pub folder_verdict : FolderCall → DiskAnswer → Verdict
folder_verdict call answer = verdict_by call.want call.path call.limit answer
