-- The order of work of a call: which call of the disk is next, and what its answer leads to.
pub mod Answered
use Rattle.std.specs.Prelude.{ℕ, true, List, length, Option, Some, None}
use Rattle.odb_base.specs.Path.{Path}
use Rattle.odb_disk.specs.declared.ask.DiskAsk.{DiskAsk}
use Rattle.odb_disk.specs.declared.ask.DiskAsk.TheVariants as asks
use Rattle.odb_disk.specs.declared.ask.DiskAnswer.{DiskAnswer}
use Rattle.gix_hash.specs.declared.object_id.ObjectId.{ObjectId}
use Rattle.gix_object.specs.declared.kind.Kind.{Kind}
use Rattle.gix_object.specs.declared.want.Want.{Want}
use Rattle.gix_object.specs.declared.want.Want.TheVariants.{Object, Header, Presence}
use Rattle.gix_odb_loose.specs.LooseFile.{loose_path}
use Rattle.gix_odb_loose.specs.PrefixOrder as searches
use Rattle.gix_odb_loose.specs.declared.prefix_search.SearchStep.{SearchStep}
use Rattle.gix_odb_loose.specs.declared.prefix_search.SearchStep.TheVariants as search_steps
use Rattle.gix_odb_loose.specs.Store.{store_path, store_hash, store_limit}
use Rattle.gix_odb_loose.specs.declared.store.Store.{Store}
use Rattle.gix_odb_loose.specs.declared.call.LooseJob.{LooseJob}
use Rattle.gix_odb_loose.specs.declared.call.LooseJob.TheVariants as jobs
use Rattle.gix_odb_loose.specs.declared.call.LooseAsk.{LooseAsk}
use Rattle.gix_odb_loose.specs.declared.call.LooseAsk.TheVariants as loose_asks
use Rattle.gix_odb_loose.specs.declared.call.LooseReply.{LooseReply}
use Rattle.gix_odb_loose.specs.declared.call.LooseReply.TheVariants as replies
use Rattle.gix_odb_loose.specs.declared.call.LooseCall.{LooseCall}
use Rattle.gix_odb_loose.specs.WriteOrder.{number_made, temporary_of}
use Rattle.gix_odb_loose.specs.WriteAsks.{write_of}
use Rattle.gix_odb_loose.specs.WriteJobs.{ask_in, advance_by, writes_left}
use Rattle.gix_odb_loose.specs.WriteRuns.{write_head}
use Rattle.gix_odb_loose.specs.declared.write_order.WriteAsk.TheVariants as wants
use Rattle.gix_odb_loose.specs.declared.write_at_hand.Advance.{Advance}
use Rattle.gix_odb_loose.specs.declared.write_at_hand.Advance.TheVariants as advances
use Rattle.gix_odb_loose.specs.declared.write_at_hand.WriteJob.{WriteJob}
use Rattle.gix_odb_loose.specs.declared.call.Next.{Next}
use Rattle.gix_odb_loose.specs.declared.call.Next.TheVariants as nexts
use Rattle.gix_odb_loose.specs.declared.call.Stage.{Stage}
use Rattle.gix_odb_loose.specs.declared.call.Stage.TheVariants as stages
use Rattle.gix_odb_loose.specs.LooseOrder.Answered.{tested_by, found_by, header_by}

-- ---- what a caller wants of an object

-- the job of a caller who wants this much
abbrev pub job_of : Want → ObjectId → LooseJob
job_of Object id = jobs.Find id
job_of Header id = jobs.Header id
job_of Presence id = jobs.Contains id

-- a test stats the path, links followed; a find and a header look-up read it
abbrev pub want_ask : Want → Path → DiskAsk
want_ask Object path = asks.Read path
want_ask Header path = asks.Read path
want_ask Presence path = asks.Look path true

-- the reply to the answer
abbrev pub want_reply : Want → Path → Option ℕ → DiskAnswer → LooseReply
want_reply Object path limit answer = replies.Found (found_by path limit answer)
want_reply Header path limit answer = replies.Header (header_by path answer)
want_reply Presence path limit answer = replies.Contains (tested_by path answer)

-- ---- the stages of a call

-- a new write has its data and no temporary file
abbrev pub begun : Store → Kind → ℕ → List ℕ → Option ObjectId → WriteJob
begun store kind size bytes id = write_of (write_head store kind size) (store_hash store) id bytes

-- a new call that only asks for an object has its path
abbrev pub asking_of : Store → Want → ObjectId → Stage
asking_of store want id = stages.Asking want (loose_path (store_path store) id) (store_limit store)

-- a new call has its one path, what is to be looked up, or what is to be written, and has asked nothing
abbrev pub first_stage : Store → LooseJob → Stage
first_stage store (jobs.Contains id) = asking_of store Presence id
first_stage store (jobs.Find id) = asking_of store Object id
first_stage store (jobs.Header id) = asking_of store Header id
first_stage store (jobs.Prefix prefix gather) = stages.Searching (searches.begun (store_path store) prefix gather)
first_stage store (jobs.Write kind size bytes id) = stages.Writing (begun store kind size bytes id)

abbrev pub started : Store → LooseJob → LooseCall
started store job = record { stage = first_stage store job }

-- the call of a caller who wants this much of the object with this id
abbrev pub started_for : Store → Want → ObjectId → LooseCall
started_for store want id = record { stage = asking_of store want id }

-- what is asked at a stage
abbrev pub asked_at : Stage → LooseAsk
asked_at (stages.Asking want path limit) = loose_asks.Disk (want_ask want path)
asked_at (stages.Searching search) = loose_asks.Disk (searches.ask_of search)
asked_at (stages.Writing job) = loose_asks.Disk (ask_in job)
asked_at (stages.Done reply) = loose_asks.Done reply

abbrev pub ask_of : LooseCall → LooseAsk
ask_of call = asked_at call.stage

-- what is asked, with the reply borrowed
abbrev pub asked_as : Next → LooseAsk
asked_as (nexts.Disk ask) = loose_asks.Disk ask
asked_as (nexts.Done reply) = loose_asks.Done reply.now

-- the call of the disk, if there is one; the reply, if the call is done
abbrev pub disk_ask_in : LooseAsk → Option DiskAsk
disk_ask_in (loose_asks.Disk ask) = Some ask
disk_ask_in (loose_asks.Done reply) = None

abbrev pub reply_in : LooseAsk → Option LooseReply
reply_in (loose_asks.Disk ask) = None
reply_in (loose_asks.Done reply) = Some reply

abbrev pub stage_ask : Stage → Option DiskAsk
stage_ask stage = disk_ask_in (asked_at stage)

abbrev pub stage_reply : Stage → Option LooseReply
stage_reply stage = reply_in (asked_at stage)

abbrev pub disk_ask_of : LooseCall → Option DiskAsk
disk_ask_of call = stage_ask call.stage

abbrev pub reply_of : LooseCall → Option LooseReply
reply_of call = stage_reply call.stage

-- ---- after an answer

-- a look-up of a prefix goes on, or has its reply
abbrev pub searched_to : SearchStep → Stage
searched_to (search_steps.More search) = stages.Searching search
searched_to (search_steps.Done found) = stages.Done (replies.Prefix found.answer found.names)

-- a write goes on, or has its reply
abbrev pub written_to : WriteJob → Advance → Stage
written_to job (advances.Stage stage) = stages.Writing (record job { stage = stage })
written_to job (advances.Reply answer) = stages.Done (replies.Wrote answer)

-- a finding call is done after its one answer, a look-up of a prefix and a write at their end; a call that is done stays unchanged
abbrev pub next_stage : Stage → DiskAnswer → Stage
next_stage (stages.Asking want path limit) answer = stages.Done (want_reply want path limit answer)
next_stage (stages.Searching search) answer = searched_to (searches.fed search answer)
next_stage (stages.Writing job) answer = written_to job (advance_by job answer)
next_stage (stages.Done reply) answer = stages.Done reply

abbrev pub fed : LooseCall → DiskAnswer → LooseCall
fed call answer = record { stage = next_stage call.stage answer }

-- a call that reads no directory
abbrev pub IsStreamless : Stage → Type 0
IsStreamless (stages.Searching search) = ⊥
IsStreamless stage = Unit {0}

-- how many calls of the disk are left to a call that reads no directory
abbrev pub asks_left : Stage → ℕ
asks_left (stages.Asking want path limit) = 1
asks_left (stages.Searching search) = 0
asks_left (stages.Writing job) = writes_left (length job.bytes) (wants.Disk job.stage)
asks_left (stages.Done reply) = 0

abbrev pub temporary_at : Stage → Option Path
temporary_at (stages.Asking want path limit) = None
temporary_at (stages.Searching search) = None
temporary_at (stages.Writing job) = temporary_of job.head (number_made job.stage)
temporary_at (stages.Done reply) = None

-- the temporary file of a write, if it was made
abbrev pub temporary_in : LooseCall → Option Path
temporary_in call = temporary_at call.stage
