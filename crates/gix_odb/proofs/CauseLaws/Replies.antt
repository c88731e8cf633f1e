-- What is found for a look-up, and what folders of loose objects say to it, are replies that it has.
use Rattle.std.specs.Prelude.{ℕ, Bool, true, false, List, Option, Some, None, Result, Ok, Err}
use Rattle.odb_base.specs.Path.{Path}
use Rattle.odb_disk.specs.declared.ask.DiskAnswer.{DiskAnswer}
use Rattle.gix_object.specs.declared.kind.Kind.{Kind}
use Rattle.gix_odb_calls.specs.declared.call.CallError.TheVariants as call_errors
use Rattle.gix_odb_calls.specs.declared.call.Reply.TheVariants as replies
use Rattle.gix_odb_calls.specs.declared.find.Error.{Error}
use Rattle.gix_object.specs.declared.want.Want.{Want}
use Rattle.gix_object.specs.declared.want.Want.TheVariants.{Object, Header, Presence}
use Rattle.gix_odb_calls.specs.declared.verdict.Verdict.{Verdict}
use Rattle.gix_odb_calls.specs.declared.verdict.Verdict.TheVariants as verdicts
use Rattle.gix_odb_calls.specs.Verdict.{verdict_by, verdict_on_find, verdict_on_header, verdict_on_test}
use Rattle.gix_odb_loose.specs.LooseOrder.Answered.{found_by, header_by, tested_by}
use Rattle.gix_odb_loose.specs.declared.find.Error as loose
use Rattle.gix_odb_loose.specs.declared.find.Error.TheVariants as loose_errors
use Rattle.gix_odb_search.specs.declared.goal.Found.{Found}
use Rattle.gix_odb_search.specs.declared.goal.Found.TheVariants as found
use Rattle.gix_odb_search.proofs.TrierLaws.{Fits}
use Rattle.gix_odb.specs.LookUpOrder.{not_found, reply_found}
use Rattle.gix_odb.specs.Reply.{IsReplyTo}

pub refused_replies : (want : Want) (error : Error) → IsReplyTo want (replies.Refused (call_errors.Find error))
refused_replies Object error = tt
refused_replies Header error = tt
refused_replies Presence error = tt

pub not_found_replies : (want : Want) → IsReplyTo want (not_found want)
not_found_replies Object = tt
not_found_replies Header = tt
not_found_replies Presence = tt

-- ---- what is found in packs

pub found_replies : (want : Want) (found : Found) → Fits want found → IsReplyTo want (reply_found found)
found_replies Object (found.Object kind bytes) fits = tt
found_replies Object (found.Header kind size) fits = absurd fits
found_replies Object found.Presence fits = absurd fits
found_replies Header (found.Object kind bytes) fits = absurd fits
found_replies Header (found.Header kind size) fits = tt
found_replies Header found.Presence fits = absurd fits
found_replies Presence (found.Object kind bytes) fits = absurd fits
found_replies Presence (found.Header kind size) fits = absurd fits
found_replies Presence found.Presence fits = tt

-- ---- what folders of loose objects reply

-- a verdict that ends a look-up has a reply of it
abbrev pub EndsWell : Want → Verdict → Type 0
EndsWell want (verdicts.Ends reply) = IsReplyTo want reply
EndsWell want verdicts.Misses = Unit {0}
EndsWell want (verdicts.Notes error) = Unit {0}

find_ends_well : (answer : Result (Option (Kind × List ℕ)) loose.Error) → EndsWell Object (verdict_on_find answer)
find_ends_well (Ok (Some found)) = tt
find_ends_well (Ok None) = tt
find_ends_well (Err error) = tt

header_ends_well : (answer : Result (Option (ℕ × Kind)) loose.Error) → EndsWell Header (verdict_on_header answer)
header_ends_well (Ok (Some found)) = tt
header_ends_well (Ok None) = tt
header_ends_well (Err error) = tt

test_ends_well : (answer : Result Bool loose.Error) → EndsWell Presence (verdict_on_test answer)
test_ends_well (Ok true) = tt
test_ends_well (Ok false) = tt
test_ends_well (Err loose_errors.NoMemory) = tt
test_ends_well (Err error) = tt

pub verdict_ends_well : (want : Want) (path : Path) (limit : Option ℕ) (answer : DiskAnswer) → EndsWell want (verdict_by want path limit answer)
verdict_ends_well Object path limit answer = find_ends_well (found_by path limit answer)
verdict_ends_well Header path limit answer = header_ends_well (header_by path answer)
verdict_ends_well Presence path limit answer = test_ends_well (tested_by path answer)
