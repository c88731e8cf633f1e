-- The replies that a look-up has, by what is wanted, and those that say that the object is there.
use Rattle.std.specs.Prelude.{true}
use Rattle.gix_odb_calls.specs.declared.call.CallError.{CallError}
use Rattle.gix_odb_calls.specs.declared.call.CallError.TheVariants as call_errors
use Rattle.gix_odb_calls.specs.declared.call.Reply.{Reply}
use Rattle.gix_odb_calls.specs.declared.call.Reply.TheVariants as replies
use Rattle.gix_object.specs.declared.want.Want.{Want}
use Rattle.gix_object.specs.declared.want.Want.TheVariants.{Object, Header, Presence}

-- an error of a find, a look-up of a header or a test
abbrev pub IsFindError : CallError → Type 0
IsFindError (call_errors.Find error) = Unit {0}
IsFindError error = ⊥

abbrev pub IsReplyToFind : Reply → Type 0
IsReplyToFind (replies.Found kind bytes) = Unit {0}
IsReplyToFind replies.NotFound = Unit {0}
IsReplyToFind (replies.Refused error) = IsFindError error
IsReplyToFind reply = ⊥

abbrev pub IsReplyToHeader : Reply → Type 0
IsReplyToHeader (replies.Header header) = Unit {0}
IsReplyToHeader replies.NotFound = Unit {0}
IsReplyToHeader (replies.Refused error) = IsFindError error
IsReplyToHeader reply = ⊥

abbrev pub IsReplyToTest : Reply → Type 0
IsReplyToTest (replies.Tested there) = Unit {0}
IsReplyToTest (replies.Refused error) = IsFindError error
IsReplyToTest reply = ⊥

-- a reply that a look-up has
abbrev pub IsReplyTo : Want → Reply → Type 0
IsReplyTo Object reply = IsReplyToFind reply
IsReplyTo Header reply = IsReplyToHeader reply
IsReplyTo Presence reply = IsReplyToTest reply

-- a reply says that the object is there
abbrev pub IsAnswer : Reply → Type 0
IsAnswer (replies.Found kind bytes) = Unit {0}
IsAnswer (replies.Header header) = Unit {0}
IsAnswer (replies.Tested true) = Unit {0}
IsAnswer reply = ⊥
