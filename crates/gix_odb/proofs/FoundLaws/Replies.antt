-- What is known of a look-up's reply: where an answer was found, and why a pack refused the object.
use Rattle.std.proofs.Common.{◌≡◌, ℕ, true, false, Bool, List, Contains, Option, Some, None, Ok, Err, Result, subst, inl, inr}
use Rattle.odb_base.specs.Path.{Path}
use Rattle.odb_disk.specs.declared.ask.DiskAnswer.{DiskAnswer}
use Rattle.gix_hash.specs.declared.kind.Kind.{Kind}
use Rattle.gix_hash.specs.declared.object_id.ObjectId.{ObjectId}
use Rattle.gix_odb_loose.specs.LooseOrder.Answered.{found_by, header_by, tested_by}
use Rattle.gix_odb_loose.specs.declared.find.Error as loose
use Rattle.gix_odb_loose.specs.declared.find.Error.TheVariants as loose_errors
use Rattle.gix_odb_search.specs.declared.goal.Error as goals
use Rattle.gix_odb_search.specs.declared.goal.Found.{Found}
use Rattle.gix_odb_search.specs.declared.goal.Found.TheVariants as founds
use Rattle.gix_odb_calls.specs.Verdict.{verdict_by, verdict_on_find, verdict_on_header, verdict_on_test}
use Rattle.gix_odb_calls.specs.declared.call.CallError.TheVariants as call_errors
use Rattle.gix_odb_calls.specs.declared.call.Reply.{Reply}
use Rattle.gix_odb_calls.specs.declared.call.Reply.TheVariants as replies
use Rattle.gix_odb_calls.specs.declared.find.Error.{Error}
use Rattle.gix_odb_calls.specs.declared.load_index.Error as load
use Rattle.gix_object.specs.declared.kind.Kind as object
use Rattle.gix_object.specs.declared.want.Want.{Want}
use Rattle.gix_object.specs.declared.want.Want.TheVariants.{Object, Header, Presence}
use Rattle.gix_odb_calls.specs.declared.verdict.Verdict.{Verdict}
use Rattle.gix_odb_calls.specs.declared.verdict.Verdict.TheVariants as verdicts
use Rattle.gix_odb.specs.Caused.{IsCaused}
use Rattle.gix_odb.specs.LookExchanges.{Exchange, HasVerdict}
use Rattle.gix_odb.specs.LookUpOrder.{Setting, find_error, load_refused, not_found, reply_found}
use Rattle.gix_odb.specs.Shown.{folders_of}
use Rattle.gix_odb.proofs.FoundLaws.Known.{IsCausedHere, IsFoundHere, IsOfPack, KnowsReply}

-- a reply is no refusal by a pack
abbrev IsOther : Reply → Type 0
IsOther (replies.Refused (call_errors.Find error)) = IsOfPack error → ⊥
IsOther reply = Unit {0}

abbrev pub EndsOther : Verdict → Type 0
EndsOther (verdicts.Ends reply) = IsOther reply
EndsOther verdict = Unit {0}

test_ends_other : (told : Result Bool loose.Error) → EndsOther (verdict_on_test told)
test_ends_other (Ok true) = tt
test_ends_other (Ok false) = tt
test_ends_other (Err loose_errors.NoMemory) = λ no. no
test_ends_other (Err error) = tt

find_ends_other : (told : Result (Option (object.Kind × List ℕ)) loose.Error) → EndsOther (verdict_on_find told)
find_ends_other (Ok (Some found)) = tt
find_ends_other (Ok None) = tt
find_ends_other (Err error) = λ no. no

header_ends_other : (told : Result (Option (ℕ × object.Kind)) loose.Error) → EndsOther (verdict_on_header told)
header_ends_other (Ok (Some found)) = tt
header_ends_other (Ok None) = tt
header_ends_other (Err error) = λ no. no

-- no loose object is refused by a pack
pub loose_ends_other : (want : Want) (path : Path) (limit : Option ℕ) (answer : DiskAnswer) → EndsOther (verdict_by want path limit answer)
loose_ends_other Object path limit answer = find_ends_other (found_by path limit answer)
loose_ends_other Header path limit answer = header_ends_other (header_by path answer)
loose_ends_other Presence path limit answer = test_ends_other (tested_by path answer)

module _ (Shown : Path → ℕ → List ℕ → Type 0) (setting : Setting) (hash : Kind) (id : ObjectId) (exchanges : List Exchange)
    (want : Want) where
  abbrev Knows : Reply → Type 0
  Knows reply = KnowsReply Shown setting hash id exchanges want reply

  abbrev Because : Error → Type 0
  Because error = IsCaused Shown setting hash id want exchanges error

  other_cause : (reply : Reply) → IsOther reply → (error : Error) → reply ≡ replies.Refused (call_errors.Find error) → IsOfPack error → Because error
  other_cause reply other error is of = absurd (subst IsOther is other of)

  found_is_other : (found : Found) → IsOther (reply_found found)
  found_is_other (founds.Object kind bytes) = tt
  found_is_other (founds.Header kind size) = tt
  found_is_other founds.Presence = tt

  pub found_reply : (found : Found) → IsFoundHere Shown setting hash id exchanges want found → Knows (reply_found found)
  found_reply found here = record { found = λ answer. inl here; caused = other_cause (reply_found found) (found_is_other found) }

  pub pack_reply : (error : goals.Error) → IsCausedHere Shown setting hash id exchanges want error
      → Knows (replies.Refused (call_errors.Find (find_error error)))
  pack_reply error here = record {
    found = λ answer. absurd answer;
    caused = λ other is of. let same : find_error error ≡ other = cc is in subst Because same here;
  }

  pub load_reply : (error : load.Error) → Knows (load_refused error)
  load_reply error = record { found = λ answer. absurd answer; caused = other_cause (load_refused error) (λ no. no) }

  pub missed_reply : (asked : Want) → Knows (not_found asked)
  missed_reply Object = record { found = λ answer. absurd answer; caused = other_cause replies.NotFound tt }
  missed_reply Header = record { found = λ answer. absurd answer; caused = other_cause replies.NotFound tt }
  missed_reply Presence = record { found = λ answer. absurd answer; caused = other_cause (replies.Tested false) tt }

  pub loose_reply : (reply : Reply) (folder : Path) → Contains (folders_of setting) folder → HasVerdict setting want id exchanges folder (verdicts.Ends reply)
      → IsOther reply → Knows reply
  loose_reply reply folder among says other = record { found = λ answer. inr (folder, among, says); caused = other_cause reply other }
