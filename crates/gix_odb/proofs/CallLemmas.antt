-- What a call writes with stays a call that writes, and replies what it wrote.
use Rattle.std.proofs.Common.{◌≡◌, true, Some, None, Result, Ok, Err, refl, sym, ap, ◌∙◌}
use Rattle.std.specs.Result.{result_ok}
use Rattle.odb_disk.specs.declared.ask.DiskAnswer.{DiskAnswer}
use Rattle.odb_disk.specs.declared.ask.DiskAsk.{DiskAsk}
use Rattle.gix_hash.specs.declared.kind.Kind.{Kind as HashKind}
use Rattle.gix_hash.specs.declared.object_id.ObjectId.{ObjectId}
use Rattle.gix_odb_loose.specs.LooseOrder.{next_stage, reply_in, reply_of, stage_reply, written_to}
use Rattle.gix_odb_loose.specs.LooseOrder as loose_order
use Rattle.gix_odb_loose.specs.WriteJobs.{advance_by}
use Rattle.gix_odb_loose.specs.declared.call.LooseAsk.TheVariants as loose_asks
use Rattle.gix_odb_loose.specs.declared.call.LooseCall.{LooseCall}
use Rattle.gix_odb_loose.specs.declared.call.LooseReply.{LooseReply}
use Rattle.gix_odb_loose.specs.declared.call.LooseReply.TheVariants as loose_replies
use Rattle.gix_odb_loose.specs.declared.call.Stage as loose
use Rattle.gix_odb_loose.specs.declared.call.Stage.TheVariants as loose_stages
use Rattle.gix_odb_loose.specs.declared.write.Error as loose_write
use Rattle.gix_odb_loose.specs.declared.write_at_hand.Advance.{Advance}
use Rattle.gix_odb_loose.specs.declared.write_at_hand.Advance.TheVariants as advances
use Rattle.gix_odb_loose.specs.declared.write_at_hand.WriteJob.{WriteJob}
use Rattle.gix_odb_calls.proofs.QueryLaws.{by_call-all}
use Rattle.gix_odb_calls.specs.declared.call.Call.{Call}
use Rattle.gix_odb_calls.specs.declared.call.Reply.{Reply}
use Rattle.gix_odb_calls.specs.declared.query.Query.{Query}
use Rattle.gix_odb_events.specs.declared.answer.Answer.{Answer}
use Rattle.gix_odb_events.specs.declared.answer.Answer.TheVariants as told
use Rattle.gix_odb_events.specs.declared.view.View.{View}
use Rattle.gix_odb.specs.LookUpOrder.{Setting}
use Rattle.gix_odb.specs.RefreshOrder as refreshes
use Rattle.gix_odb.specs.declared.refresh.RefreshStep.{RefreshStep}
use Rattle.gix_odb.specs.declared.refresh.RefreshStep.TheVariants as fronts
use Rattle.gix_odb.specs.CallOrder.{fed, fronted, is_for_writes, is_write, is_write_at, is_written, looking, replied_by, result_of_write, started, writing, written_at, written_on, wrote_as}
use Rattle.gix_odb.specs.declared.call_state.CallStage.{CallStage}
use Rattle.gix_odb.specs.declared.call_state.CallStage.TheVariants.{Looking, Refreshing, Refused, Writing}
use Rattle.gix_odb.specs.declared.refresh_mode.RefreshMode.{RefreshMode}
use Rattle.gix_odb.specs.Store.{listed_for}

-- ---- it stays a call that writes

advanced-writes : (job : WriteJob) (advance : Advance) → is_write_at (written_to job advance) ≡ true
advanced-writes job (advances.Stage stage) = refl
advanced-writes job (advances.Reply answer) = refl

stage-writes : (stage : loose.Stage) (answer : DiskAnswer) → is_write_at stage ≡ true → is_write_at (next_stage stage answer) ≡ true
stage-writes (loose_stages.Asking want path limit) answer writes = absurd (cc writes)
stage-writes (loose_stages.Searching search) answer writes = absurd (cc writes)
stage-writes (loose_stages.Writing job) answer writes = advanced-writes job (advance_by job answer)
stage-writes (loose_stages.Done reply) answer writes = writes

written_on-writes : (call : LooseCall) (answer : Answer) → is_write call ≡ true → is_write (written_on call answer) ≡ true
written_on-writes call (told.Disk answer) writes = stage-writes call.stage answer writes
written_on-writes call (told.Core answer) writes = writes

pub fronted-writes : (step : RefreshStep) (write : LooseCall) → is_write write ≡ true → is_for_writes (fronted step write) ≡ true
fronted-writes (fronts.More refresh) write writes = writes
fronted-writes (fronts.Read view) write writes = writes
fronted-writes (fronts.Current view own) write writes = writes
fronted-writes (fronts.Outdated list_no) write writes = writes
fronted-writes (fronts.Refused error) write writes = refl

pub fed-writes : (setting : Setting) (state : CallStage) (answer : Answer) → is_for_writes state ≡ true → is_for_writes (fed setting state answer) ≡ true
fed-writes setting (Looking look) answer writes = refl
fed-writes setting (Refreshing refresh write) answer writes = fronted-writes (refreshes.fed setting.parts.objects (listed_for setting.parts) refresh answer) write writes
fed-writes setting (Writing call) answer writes = written_on-writes call answer writes
fed-writes setting (Refused error) answer writes = refl

-- the same of a stage that was fed
pub fed_writes_by : (setting : Setting) (answer : Answer) (stage before next : CallStage) → is_for_writes stage ≡ true → before ≡ stage → next ≡ fed setting before answer
    → is_for_writes next ≡ true
fed_writes_by setting answer stage before next writes was feeds =
    ap is_for_writes feeds ∙ fed-writes setting before answer (ap is_for_writes was ∙ writes)

-- so does a new call
pub started-writes : (setting : Setting) (hash : HashKind) (mode : RefreshMode) (view : View) (sought : Query → ObjectId) (call : Call)
    → is_for_writes (started setting hash mode view sought call) ≡ true
started-writes setting hash mode view sought call =
    by_call-all (λ (state : CallStage). is_for_writes state ≡ true) (λ query. looking setting mode view sought query)
    (λ kind size bytes known. fronted (refreshes.started view) (writing setting.parts.objects hash kind size bytes known))
    (λ query. refl)
    (λ kind size bytes known. fronted-writes (refreshes.started view) (writing setting.parts.objects hash kind size bytes known) refl)
    call

pub started_writes_by : (setting : Setting) (hash : HashKind) (mode : RefreshMode) (view : View) (sought : Query → ObjectId) (call : Call) (stage : CallStage)
    → stage ≡ started setting hash mode view sought call → is_for_writes stage ≡ true
started_writes_by setting hash mode view sought call stage is = ap is_for_writes is ∙ started-writes setting hash mode view sought call

-- ---- its reply is what it wrote

replies_at : (stage : loose.Stage) (reply : LooseReply) → is_write_at stage ≡ true → stage_reply stage ≡ Some reply → is_written reply ≡ true
replies_at (loose_stages.Asking want path limit) reply writes is = absurd (cc is)
replies_at (loose_stages.Searching search) reply writes is = absurd (cc is)
replies_at (loose_stages.Writing job) reply writes is = absurd (cc is)
replies_at (loose_stages.Done own) reply writes is = let same : own ≡ reply = cc is in ap is_written (sym same) ∙ writes

pub write_replies : (call : LooseCall) (reply : LooseReply) → is_write call ≡ true → reply_of call ≡ Some reply → is_written reply ≡ true
write_replies call reply writes is = replies_at call.stage reply writes is

result_at : (call : LooseCall) (stage : loose.Stage) (answer : Result ObjectId loose_write.Error) → stage_reply stage ≡ Some (loose_replies.Wrote answer)
    → replied_by call (written_at stage) ≡ Ok (wrote_as answer)
result_at call (loose_stages.Asking want path limit) answer is = absurd (cc is)
result_at call (loose_stages.Searching search) answer is = absurd (cc is)
result_at call (loose_stages.Writing job) answer is = absurd (cc is)
result_at call (loose_stages.Done (loose_replies.Wrote own)) answer is = let same : own ≡ answer = cc is in ap (λ a. Ok (wrote_as a)) same
result_at call (loose_stages.Done (loose_replies.Contains own)) answer is = absurd (cc is)
result_at call (loose_stages.Done (loose_replies.Found own)) answer is = absurd (cc is)
result_at call (loose_stages.Done (loose_replies.Header own)) answer is = absurd (cc is)
result_at call (loose_stages.Done (loose_replies.Prefix own names)) answer is = absurd (cc is)

pub write_result : (call : LooseCall) (reply : LooseReply) (answer : Result ObjectId loose_write.Error) → reply_of call ≡ Some reply → reply ≡ loose_replies.Wrote answer
    → result_of_write call ≡ Ok (wrote_as answer)
write_result call reply answer is wrote = result_at call call.stage answer (is ∙ ap Some wrote)

goes_on_at : (call : LooseCall) (stage : loose.Stage) → stage_reply stage ≡ None → replied_by call (written_at stage) ≡ Err call
goes_on_at call (loose_stages.Asking want path limit) is = refl
goes_on_at call (loose_stages.Searching search) is = refl
goes_on_at call (loose_stages.Writing job) is = refl
goes_on_at call (loose_stages.Done reply) is = absurd (cc is)

pub write_goes_on : (call : LooseCall) → reply_of call ≡ None → result_of_write call ≡ Err call
write_goes_on call is = goes_on_at call call.stage is

-- the same by what it asks
pub write_asked_done : (call : LooseCall) (reply : LooseReply) → is_write call ≡ true → loose_asks.Done reply ≡ loose_order.ask_of call → is_written reply ≡ true
write_asked_done call reply writes is = write_replies call reply writes (sym (ap reply_in is))

pub write_copied : (call : LooseCall) (reply : LooseReply) (answer : Result ObjectId loose_write.Error) (own : Reply) → loose_asks.Done reply ≡ loose_order.ask_of call
    → reply ≡ loose_replies.Wrote answer → own ≡ wrote_as answer → Some own ≡ result_ok (result_of_write call)
write_copied call reply answer own is wrote told_so = ap Some told_so ∙ sym (ap result_ok (write_result call reply answer (sym (ap reply_in is)) wrote))

pub write_asks_on : (call : LooseCall) (ask : DiskAsk) → loose_asks.Disk ask ≡ loose_order.ask_of call → None ≡ result_ok (result_of_write call)
write_asks_on call ask is = sym (ap result_ok (write_goes_on call (sym (ap reply_in is))))

-- a write that is done, and one that goes on
pub write_ends : (call : LooseCall) (reply : LooseReply) (answer : Result ObjectId loose_write.Error) (own : Reply) → reply_of call ≡ Some reply
    → reply ≡ loose_replies.Wrote answer → own ≡ wrote_as answer → Ok own ≡ result_of_write call
write_ends call reply answer own is wrote told_so = ap Ok told_so ∙ sym (write_result call reply answer is wrote)

pub write_stays : (call next : LooseCall) → next ≡ call → reply_of call ≡ None → Err next ≡ result_of_write call
write_stays call next same is = ap Err same ∙ sym (write_goes_on call is)
