-- Laws of what calls ask: a call that was started asks for something or has its reply, and says that it is done exactly where it has one.
-- No call has a core made.
use Rattle.std.proofs.Common.{◌≡◌, ◌↔◌, ℕ, true, List, [], ◌∷◌, Option, Some, None, Result, Ok, Err, refl, sym, ap, ◌∙◌}
use Rattle.std.specs.Result.{result_ok}
use Rattle.gix_hash.specs.declared.kind.Kind.{Kind as HashKind}
use Rattle.gix_hash.specs.declared.object_id.ObjectId.{ObjectId}
use Rattle.odb_disk.specs.declared.ask.DiskAsk.{DiskAsk}
use Rattle.gix_odb_loose.specs.LooseOrder.{disk_ask_of, stage_ask}
use Rattle.gix_odb_loose.specs.declared.call.LooseCall.{LooseCall}
use Rattle.gix_odb_loose.specs.declared.call.LooseReply.TheVariants as loose_replies
use Rattle.gix_odb_loose.specs.declared.call.Stage as loose
use Rattle.gix_odb_loose.specs.declared.call.Stage.TheVariants as loose_stages
use Rattle.gix_odb_calls.specs.declared.call.Call.{Call}
use Rattle.gix_odb_calls.specs.declared.call.Reply.{Reply}
use Rattle.gix_odb_calls.specs.declared.query.Query.{Query}
use Rattle.gix_odb_events.specs.declared.answer.Ask.TheVariants as asks
use Rattle.gix_odb_events.specs.declared.view.View.{View}
use Rattle.gix_odb.proofs.HandedLaws.{look_ups_have_no_core_made}
use Rattle.gix_odb.specs.LookExchanges.{Exchange}
use Rattle.gix_odb.specs.LookUpOrder as looks
use Rattle.gix_odb.specs.LookUpOrder.{Setting}
use Rattle.gix_odb.specs.declared.look_up.LookHead.{LookHead}
use Rattle.gix_odb.specs.declared.look_up.LookStage.{LookStage}
use Rattle.gix_odb.specs.declared.look_up.LookStage.TheVariants as look_stages
use Rattle.gix_odb.proofs.RefreshLaws.{refreshes_have_no_core_made}
use Rattle.gix_odb.specs.Asked as any
use Rattle.gix_odb.specs.declared.refresh.RefreshStep.TheVariants as fronts
use Rattle.gix_odb.proofs.CallLemmas.{fed-writes, started-writes}
use Rattle.gix_odb.specs.CallOrder.{Asks, ask_of, fed, is_for_writes, is_write_at, loose_ask, looking_result, replied_by, result_of, started, unlisted, writing_result, written_at, wrote_as}
use Rattle.gix_odb.specs.declared.ask.Ask.TheVariants as own
use Rattle.gix_odb.specs.declared.call_state.CallStage.{CallStage}
use Rattle.gix_odb.specs.declared.call_state.CallStage.TheVariants.{Looking, Refreshing, Refused, Writing}
use Rattle.gix_odb.specs.declared.refresh_mode.RefreshMode.{RefreshMode}

-- ---- a call with a reply asks nothing

look_asks_none : (head : LookHead) (stage : LookStage) (reply : Reply) → looking_result (looks.result_at head stage) ≡ Ok reply → looks.ask_at stage ≡ None
look_asks_none head (look_stages.Trying trier part) reply is = absurd (cc is)
look_asks_none head (look_stages.Loose round call) reply is = absurd (cc is)
look_asks_none head (look_stages.Refreshing refresh purpose notes) reply is = absurd (cc is)
look_asks_none head (look_stages.Checking list_no notes) reply is = absurd (cc is)
look_asks_none head (look_stages.Done other) reply is = refl

write_asks_none : (call : LooseCall) (stage : loose.Stage) (reply : Reply) → writing_result (replied_by call (written_at stage)) ≡ Ok reply
    → loose_ask (stage_ask stage) ≡ None
write_asks_none call (loose_stages.Asking want path limit) reply is = absurd (cc is)
write_asks_none call (loose_stages.Searching search) reply is = absurd (cc is)
write_asks_none call (loose_stages.Writing job) reply is = absurd (cc is)
write_asks_none call (loose_stages.Done other) reply is = refl

pub a_call_with_a_reply_asks_nothing : (state : CallStage) (reply : Reply) → result_of state ≡ Ok reply → ask_of state ≡ None
a_call_with_a_reply_asks_nothing (Looking look) reply is = look_asks_none look.head look.stage reply is
a_call_with_a_reply_asks_nothing (Refreshing refresh write) reply is = absurd (cc is)
a_call_with_a_reply_asks_nothing (Writing call) reply is = write_asks_none call call.stage reply is
a_call_with_a_reply_asks_nothing (Refused error) reply is = refl

-- ---- a call has no core made

loose_asks_no_core : (ask : Option DiskAsk) (slots folders : ℕ) → ¬ (loose_ask ask ≡ Some (asks.NewCore slots folders))
loose_asks_no_core None slots folders is = cc is
loose_asks_no_core (Some ask) slots folders is = cc is

pub calls_have_no_core_made : (state : CallStage) (slots folders : ℕ) → ¬ (ask_of state ≡ Some (asks.NewCore slots folders))
calls_have_no_core_made (Looking look) slots folders is = look_ups_have_no_core_made look slots folders is
calls_have_no_core_made (Refreshing refresh write) slots folders is = refreshes_have_no_core_made (fronts.More refresh) slots folders is
calls_have_no_core_made (Writing call) slots folders is = loose_asks_no_core (disk_ask_of call) slots folders is
calls_have_no_core_made (Refused error) slots folders is = cc is

-- so it asks for the disk, for its core, or for nothing
pub asks_no_new_core : (state : CallStage) (slots folders : ℕ) → Some (asks.NewCore slots folders) ≡ ask_of state → ⊥
asks_no_new_core state slots folders is = calls_have_no_core_made state slots folders (sym is)

-- ---- it is done

-- a call is done with a reply exactly where this is its reply
pub calls_are_done_with_their_reply : (state : CallStage) (reply : Reply) → Asks state (own.Done reply) ↔ (result_of state ≡ Ok reply)
calls_are_done_with_their_reply state reply = ((λ done. done.1), λ is. (a_call_with_a_reply_asks_nothing state reply is, is))

ok_by : (result : Result Reply CallStage) (reply : Reply) → Some reply ≡ result_ok result → result ≡ Ok reply
ok_by (Ok other) reply is = let same : reply ≡ other = cc is in ap Ok (sym same)
ok_by (Err state) reply is = absurd (cc is)

-- one that asks for nothing is done with the reply that it has
pub done_with : (state : CallStage) (reply : Reply) → None ≡ ask_of state → Some reply ≡ result_ok (result_of state) → Asks state (own.Done reply)
done_with state reply asks_none is = (sym asks_none, ok_by (result_of state) reply is)

-- ---- a call without a reply asks for something

-- what a call has that asks nothing
abbrev HasReply : CallStage → Type 0
HasReply state = ask_of state ≡ None → (reply : Reply) × (result_of state ≡ Ok reply)

look_has_reply : (head : LookHead) (stage : LookStage) → looks.ask_at stage ≡ None → (reply : Reply) × (looking_result (looks.result_at head stage) ≡ Ok reply)
look_has_reply head (look_stages.Trying trier part) is = absurd (cc is)
look_has_reply head (look_stages.Loose round call) is = absurd (cc is)
look_has_reply head (look_stages.Refreshing refresh purpose notes) is = absurd (cc is)
look_has_reply head (look_stages.Checking list_no notes) is = absurd (cc is)
look_has_reply head (look_stages.Done reply) is = (reply, refl)

write_has_reply : (call : LooseCall) (stage : loose.Stage) → is_write_at stage ≡ true → loose_ask (stage_ask stage) ≡ None
    → (reply : Reply) × (writing_result (replied_by call (written_at stage)) ≡ Ok reply)
write_has_reply call (loose_stages.Asking want path limit) writes is = absurd (cc writes)
write_has_reply call (loose_stages.Searching search) writes is = absurd (cc writes)
write_has_reply call (loose_stages.Writing job) writes is = absurd (cc is)
write_has_reply call (loose_stages.Done (loose_replies.Wrote answer)) writes is = (wrote_as answer, refl)
write_has_reply call (loose_stages.Done (loose_replies.Contains answer)) writes is = absurd (cc writes)
write_has_reply call (loose_stages.Done (loose_replies.Found answer)) writes is = absurd (cc writes)
write_has_reply call (loose_stages.Done (loose_replies.Header answer)) writes is = absurd (cc writes)
write_has_reply call (loose_stages.Done (loose_replies.Prefix answer names)) writes is = absurd (cc writes)

has_reply : (state : CallStage) → is_for_writes state ≡ true → HasReply state
has_reply (Looking look) writes is = look_has_reply look.head look.stage is
has_reply (Refreshing refresh write) writes is = absurd (cc is)
has_reply (Writing call) writes is = write_has_reply call call.stage writes is
has_reply (Refused error) writes is = (unlisted error, refl)

-- a call neither asks for nothing nor lacks its reply
pub asks_or_is_done : (state : CallStage) → is_for_writes state ≡ true → None ≡ ask_of state → None ≡ result_ok (result_of state) → ⊥
asks_or_is_done state writes asks_none none =
    let has = has_reply state writes (sym asks_none) in
    let some : None ≡ Some has.0 = none ∙ ap result_ok has.1 in
    cc some

-- a call behind exchanges
abbrev pub behind : Setting → CallStage → List Exchange → CallStage
behind setting state exchanges = any.behind ask_of (fed setting) state exchanges

behind-writes : (setting : Setting) (state : CallStage) (exchanges : List Exchange) → is_for_writes state ≡ true → is_for_writes (behind setting state exchanges) ≡ true
behind-writes setting state [] writes = writes
behind-writes setting state (exchange ∷ exchanges) writes =
    behind-writes setting (fed setting state exchange.answer) exchanges (fed-writes setting state exchange.answer writes)

module _ (setting : Setting) (hash : HashKind) (mode : RefreshMode) (view : View) (sought : Query → ObjectId) (exchanges : List Exchange) where
  -- a call that was started asks nothing exactly where it has its reply
  pub a_done_call_asks_nothing : (call : Call) → (ask_of (behind setting (started setting hash mode view sought call) exchanges) ≡ None)
      ↔ ((reply : Reply) × (result_of (behind setting (started setting hash mode view sought call) exchanges) ≡ Ok reply))
  a_done_call_asks_nothing call = (
    has_reply (behind setting (started setting hash mode view sought call) exchanges)
        (behind-writes setting (started setting hash mode view sought call) exchanges (started-writes setting hash mode view sought call)),
    λ done. a_call_with_a_reply_asks_nothing (behind setting (started setting hash mode view sought call) exchanges) done.0 done.1,
  )
