-- No reply but the one that ends a look-up that found nothing says that nothing was found.
use Rattle.std.proofs.Common.{◌≡◌, ℕ, Bool, true, false, List, Option, Result, Ok, Err, Some, None}
use Rattle.odb_disk.specs.declared.ask.DiskAnswer.{DiskAnswer}
use Rattle.gix_object.specs.declared.kind.Kind.{Kind}
use Rattle.gix_odb_loose.specs.LooseOrder.Answered.{found_by, header_by, tested_by}
use Rattle.gix_odb_loose.specs.declared.find.Error.{Error}
use Rattle.gix_odb_loose.specs.declared.find.Error.TheVariants as errors
use Rattle.gix_odb_calls.specs.Verdict.{folder_verdict, verdict_by, verdict_on_find, verdict_on_header, verdict_on_test}
use Rattle.gix_odb_calls.specs.declared.verdict.FolderCall.{FolderCall}
use Rattle.gix_odb_calls.specs.declared.call.CallError.{CallError}
use Rattle.gix_odb_calls.specs.declared.call.Reply.{Reply}
use Rattle.gix_odb_calls.specs.declared.call.Reply.TheVariants as replies
use Rattle.gix_object.specs.declared.want.Want.{Want}
use Rattle.gix_object.specs.declared.want.Want.TheVariants.{Object, Header, Presence}
use Rattle.gix_odb_calls.specs.declared.verdict.Verdict.{Verdict}
use Rattle.gix_odb_calls.specs.declared.verdict.Verdict.TheVariants as verdicts
use Rattle.gix_odb_search.specs.declared.goal.Found.{Found}
use Rattle.gix_odb_search.specs.declared.goal.Found.TheVariants as found
use Rattle.gix_odb.specs.LookUpOrder.{not_found, reply_found}

abbrev pub IsMiss : Want → Reply → Type 0
IsMiss want reply = reply ≡ not_found want

pub refused_is_no_miss : (want : Want) (error : CallError) → ¬ (IsMiss want (replies.Refused error))
refused_is_no_miss Object error is = cc is
refused_is_no_miss Header error is = cc is
refused_is_no_miss Presence error is = cc is

pub found_is_no_miss : (want : Want) (what : Found) → ¬ (IsMiss want (reply_found what))
found_is_no_miss Object (found.Object kind bytes) is = cc is
found_is_no_miss Object (found.Header kind size) is = cc is
found_is_no_miss Object found.Presence is = cc is
found_is_no_miss Header (found.Object kind bytes) is = cc is
found_is_no_miss Header (found.Header kind size) is = cc is
found_is_no_miss Header found.Presence is = cc is
found_is_no_miss Presence (found.Object kind bytes) is = cc is
found_is_no_miss Presence (found.Header kind size) is = cc is
found_is_no_miss Presence found.Presence is = cc is

-- a verdict that ends a look-up is no miss of it
abbrev pub EndsNoMiss : Want → Verdict → Type 0
EndsNoMiss want (verdicts.Ends reply) = ¬ (IsMiss want reply)
EndsNoMiss want verdict = Unit {0}

find_ends : (want : Want) (answer : Result (Option (Kind × List ℕ)) Error) → EndsNoMiss want (verdict_on_find answer)
find_ends Object (Ok (Some object)) = λ is. cc is
find_ends Header (Ok (Some object)) = λ is. cc is
find_ends Presence (Ok (Some object)) = λ is. cc is
find_ends want (Ok None) = tt
find_ends want (Err error) = refused_is_no_miss want _

header_ends : (want : Want) (answer : Result (Option (ℕ × Kind)) Error) → EndsNoMiss want (verdict_on_header answer)
header_ends Object (Ok (Some header)) = λ is. cc is
header_ends Header (Ok (Some header)) = λ is. cc is
header_ends Presence (Ok (Some header)) = λ is. cc is
header_ends want (Ok None) = tt
header_ends want (Err error) = refused_is_no_miss want _

test_ends : (want : Want) (answer : Result Bool Error) → EndsNoMiss want (verdict_on_test answer)
test_ends Object (Ok true) = λ is. cc is
test_ends Header (Ok true) = λ is. cc is
test_ends Presence (Ok true) = λ is. cc is
test_ends want (Ok false) = tt
test_ends want (Err errors.NoMemory) = refused_is_no_miss want _
test_ends want (Err error) = tt

-- no verdict of a folder ends a look-up with what is replied where nothing was found, whatever is wanted
pub verdict_is_no_miss : (want : Want) (call : FolderCall) (answer : DiskAnswer) → EndsNoMiss want (folder_verdict call answer)
verdict_is_no_miss want call answer = by call.want
  where
    by : (asked : Want) → EndsNoMiss want (verdict_by asked call.path call.limit answer)
    by Object = find_ends want (found_by call.path call.limit answer)
    by Header = header_ends want (header_by call.path answer)
    by Presence = test_ends want (tested_by call.path answer)
