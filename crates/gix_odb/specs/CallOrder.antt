-- The order of work of a call: an object is looked for in the store, or written into the objects directory. In front of a write the list
-- of the store is read, where it was not.
use Rattle.std.specs.Prelude.{◌≡◌, ℕ, ◌<◌, ◌^◌, Bool, true, false, List, Option, Some, None, Result, Ok, Err}
use Rattle.odb_base.specs.Path.{Path}
use Rattle.odb_disk.specs.declared.ask.DiskAsk.{DiskAsk}
use Rattle.gix_hash.specs.declared.kind.Kind.{Kind as HashKind}
use Rattle.gix_hash.specs.declared.object_id.ObjectId.{ObjectId}
use Rattle.gix_object.specs.declared.kind.Kind.{Kind}
use Rattle.gix_odb_loose.specs.LooseOrder.{disk_ask_of}
use Rattle.gix_odb_loose.specs.LooseOrder as loose_order
use Rattle.gix_odb_loose.specs.declared.call.LooseCall.{LooseCall}
use Rattle.gix_odb_loose.specs.declared.call.LooseJob.TheVariants as jobs
use Rattle.gix_odb_loose.specs.declared.call.LooseReply.{LooseReply}
use Rattle.gix_odb_loose.specs.declared.call.LooseReply.TheVariants as loose_replies
use Rattle.gix_odb_loose.specs.declared.call.Stage as loose_calls
use Rattle.gix_odb_loose.specs.declared.call.Stage.TheVariants as loose_stages
use Rattle.gix_odb_loose.specs.declared.store.Store as loose
use Rattle.gix_odb_loose.specs.declared.write.Error as loose_write
use Rattle.gix_odb_calls.specs.Hashes.{is_of_hash}
use Rattle.gix_odb_calls.specs.Query.{by_call}
use Rattle.gix_odb_calls.specs.declared.call.Call.{Call}
use Rattle.gix_odb_calls.specs.declared.call.Call.TheVariants as call_kinds
use Rattle.gix_odb_calls.specs.declared.call.CallError.TheVariants as call_errors
use Rattle.gix_odb_calls.specs.declared.call.Reply.{Reply}
use Rattle.gix_odb_calls.specs.declared.call.Reply.TheVariants as replies
use Rattle.gix_odb.specs.declared.ask.Ask as published
use Rattle.gix_odb.specs.declared.ask.Ask.TheVariants as own
use Rattle.gix_odb.specs.declared.call_state.CallStage.{CallStage}
use Rattle.gix_odb.specs.declared.call_state.CallStage.TheVariants.{Looking, Refreshing, Refused, Writing}
use Rattle.gix_odb.specs.declared.look_up.LookUp.{LookUp}
use Rattle.gix_odb.specs.LookUpOrder as looks
use Rattle.gix_odb.specs.LookUpOrder.{Setting}
use Rattle.gix_odb.specs.RefreshOrder as refreshes
use Rattle.gix_odb.specs.declared.refresh.RefreshStep.{RefreshStep}
use Rattle.gix_odb.specs.declared.refresh.RefreshStep.TheVariants as fronts
use Rattle.gix_odb.specs.declared.refresh_mode.RefreshMode.{RefreshMode}
use Rattle.gix_odb_events.specs.declared.view.View.{View}
use Rattle.gix_odb_events.specs.declared.answer.Answer.{Answer}
use Rattle.gix_odb_events.specs.declared.answer.Answer.TheVariants as told
use Rattle.gix_odb_events.specs.declared.answer.Ask.{Ask}
use Rattle.gix_odb_events.specs.declared.answer.Ask.TheVariants as asks
use Rattle.gix_odb_calls.specs.declared.query.Query.{Query}
use Rattle.gix_odb_calls.specs.declared.load_index.Error as load
use Rattle.gix_odb_calls.specs.declared.write.Error.TheVariants as write_errors
use Rattle.gix_odb.specs.Store.{listed_for}

-- ---- a write

-- the objects directory as the folder that is written into, with the hash of the store
abbrev pub write_store : Path → HashKind → loose.Store
write_store objects hash = record { path = objects; object_hash = hash; options = record { alloc_limit_bytes = None } }

-- an object is written into the objects directory of a store of a hash
abbrev pub writing : Path → HashKind → Kind → (size : ℕ) → List ℕ → (known : Option ObjectId) → LooseCall
writing objects hash kind size bytes known = loose_order.started (write_store objects hash) (jobs.Write kind size bytes known)

-- a call of the objects directory that writes: it is under way, or done with what it came to
abbrev pub is_written : LooseReply → Bool
is_written (loose_replies.Wrote answer) = true
is_written reply = false

abbrev pub is_write_at : loose_calls.Stage → Bool
is_write_at (loose_stages.Asking want path limit) = false
is_write_at (loose_stages.Searching search) = false
is_write_at (loose_stages.Writing job) = true
is_write_at (loose_stages.Done reply) = is_written reply

abbrev pub is_write : LooseCall → Bool
is_write call = is_write_at call.stage

-- what it came to, where it is done
abbrev pub written_in : LooseReply → Option (Result ObjectId loose_write.Error)
written_in (loose_replies.Wrote answer) = Some answer
written_in reply = None

abbrev pub written_at : loose_calls.Stage → Option (Result ObjectId loose_write.Error)
written_at (loose_stages.Done reply) = written_in reply
written_at stage = None

-- its reply
abbrev pub wrote_as : Result ObjectId loose_write.Error → Reply
wrote_as (Ok id) = replies.Wrote id
wrote_as (Err error) = replies.Refused (call_errors.Write (write_errors.LooseWrite error))

abbrev pub replied_by : LooseCall → Option (Result ObjectId loose_write.Error) → Result Reply LooseCall
replied_by call None = Err call
replied_by call (Some answer) = Ok (wrote_as answer)

-- the reply of a write that is done, or the write
abbrev pub result_of_write : LooseCall → Result Reply LooseCall
result_of_write call = replied_by call (written_at call.stage)

-- what the objects directory asks for
abbrev pub loose_ask : Option DiskAsk → Option Ask
loose_ask None = None
loose_ask (Some ask) = Some (asks.Disk ask)

-- a write whose store could not be listed
abbrev pub unlisted : load.Error → Reply
unlisted error = replies.Refused (call_errors.Write (write_errors.LoadIndex error))

-- the size of a write has 64 bits
abbrev pub HasSize : Call → Type 0
HasSize (call_kinds.Write kind size bytes id) = size < 2 ^ 64
HasSize call = Unit {0}

-- ---- any call

-- the ids that a call names are of a hash
abbrev pub IsOfHash : HashKind → Call → Type 0
IsOfHash hash call = is_of_hash hash call ≡ true

-- a new query from a snapshot, where `sought` tells the id that is sought
abbrev pub looking : Setting → RefreshMode → View → (sought : Query → ObjectId) → Query → CallStage
looking setting mode view sought query = Looking (looks.started setting mode view query.want (sought query))

-- A write and the refresh before it. It begins where the core has a list that was read, also where the listing came too late: another list
-- was read then.
abbrev pub fronted : RefreshStep → LooseCall → CallStage
fronted (fronts.More refresh) write = Refreshing refresh write
fronted (fronts.Read view) write = Writing write
fronted (fronts.Current view own) write = Writing write
fronted (fronts.Outdated list_no) write = Writing write
fronted (fronts.Refused error) write = Refused error

-- a new call in a store of a hash
abbrev pub started : Setting → HashKind → RefreshMode → View → (sought : Query → ObjectId) → Call → CallStage
started setting hash mode view sought call =
    by_call
    (λ query. looking setting mode view sought query)
    (λ kind size bytes known. fronted (refreshes.started view) (writing setting.parts.objects hash kind size bytes known))
    call

-- what is asked for next, if anything is: of the disk, or of the store's core
abbrev pub ask_of : CallStage → Option Ask
ask_of (Looking look) = looks.ask_of look
ask_of (Refreshing refresh write) = Some (refreshes.ask_of refresh)
ask_of (Writing call) = loose_ask (disk_ask_of call)
ask_of (Refused error) = None

abbrev pub looking_result : Result Reply LookUp → Result Reply CallStage
looking_result (Ok reply) = Ok reply
looking_result (Err look) = Err (Looking look)

abbrev pub writing_result : Result Reply LooseCall → Result Reply CallStage
writing_result (Ok reply) = Ok reply
writing_result (Err call) = Err (Writing call)

-- the reply of a call that is done, or the call
abbrev pub result_of : CallStage → Result Reply CallStage
result_of (Looking look) = looking_result (looks.result_of look)
result_of (Refreshing refresh write) = Err (Refreshing refresh write)
result_of (Writing call) = writing_result (result_of_write call)
result_of (Refused error) = Ok (unlisted error)

-- what a call does next: it waits for what it asks for, or asks for nothing and has its reply
abbrev pub Asks : CallStage → published.Ask → Type 0
Asks state (own.Disk ask) = ask_of state ≡ Some (asks.Disk ask)
Asks state (own.Core event) = ask_of state ≡ Some (asks.Core event)
Asks state (own.Done reply) = (ask_of state ≡ None) × (result_of state ≡ Ok reply)

-- what a call writes with is a call that writes
abbrev pub is_for_writes : CallStage → Bool
is_for_writes (Looking look) = true
is_for_writes (Refreshing refresh write) = is_write write
is_for_writes (Writing call) = is_write call
is_for_writes (Refused error) = true

-- a write after an answer, which is one of the disk: the last row only makes the function total
abbrev pub written_on : LooseCall → Answer → LooseCall
written_on call (told.Disk answer) = loose_order.fed call answer
written_on call (told.Core answer) = call

-- the stage of a call after the answer to what it asked for
abbrev pub fed : Setting → CallStage → Answer → CallStage
fed setting (Looking look) answer = Looking (looks.fed setting look answer)
fed setting (Refreshing refresh write) answer = fronted (refreshes.fed setting.parts.objects (listed_for setting.parts) refresh answer) write
fed setting (Writing call) answer = Writing (written_on call answer)
fed setting (Refused error) answer = Refused error

-- the path with which the stream was opened that the next call of the disk is on, where it is on one: a look-up lists folders, and so does what
-- stands in front of a write
abbrev pub opened_in : CallStage → Option Path
opened_in (Looking look) = looks.opened_in look
opened_in (Refreshing refresh write) = refreshes.opened_in refresh
opened_in (Writing call) = None
opened_in (Refused error) = None
