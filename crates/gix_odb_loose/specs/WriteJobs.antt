-- A write with its data in memory: the next piece, the end of the data, and how many calls of the disk are left.
use Rattle.std.specs.Prelude.{ℕ, ◌+◌, ◌-◌, ◌/◌, nat_le, List, [], length, take, drop, Option, Some, None, if◌then◌else◌}
use Rattle.odb_disk.specs.declared.ask.DiskAsk.{DiskAsk}
use Rattle.odb_disk.specs.declared.ask.DiskAnswer.{DiskAnswer}
use Rattle.gix_hash.specs.declared.object_id.ObjectId.{ObjectId}
use Rattle.gix_odb_loose.specs.WriteNames.{name_for}
use Rattle.gix_odb_loose.specs.WritePieces.{piece_size, room_behind}
use Rattle.gix_odb_loose.specs.WriteOrder.{temp_names, written_in, write_ask, next_write, ended_with, wrote_by}
use Rattle.gix_odb_loose.specs.declared.write_order.WriteAsk.{WriteAsk}
use Rattle.gix_odb_loose.specs.declared.write_order.WriteAsk.TheVariants as wants
use Rattle.gix_odb_loose.specs.declared.write_order.WriteStage.{WriteStage}
use Rattle.gix_odb_loose.specs.declared.write_order.WriteStage.TheVariants as stages
use Rattle.gix_odb_loose.specs.declared.write_at_hand.Onward.{Onward}
use Rattle.gix_odb_loose.specs.declared.write_at_hand.Onward.TheVariants.{Stage, End}
use Rattle.gix_odb_loose.specs.declared.write_at_hand.Advance.{Advance}
use Rattle.gix_odb_loose.specs.declared.write_at_hand.Advance.TheVariants as advances
use Rattle.gix_odb_loose.specs.declared.write_at_hand.WriteJob.{WriteJob}

-- the piece after `written` bytes
abbrev pub piece_at : ℕ → List ℕ → ℕ → List ℕ
piece_at size bytes written = take (room_behind size written) (drop written bytes)

abbrev pub piece_of : ℕ → List ℕ → Option ℕ → List ℕ
piece_of size bytes None = []
piece_of size bytes (Some written) = piece_at size bytes written

-- the piece that a write appends next
abbrev pub piece_in : WriteJob → List ℕ
piece_in job = piece_of job.head.size job.bytes (written_in job.stage)

-- the id of its object
abbrev pub name_of : WriteJob → ObjectId
name_of job = name_for job.known job.hash job.head job.bytes

-- where data are asked for, the next piece is to be appended, or the data have ended if none are left
abbrev pub supplied_with : WriteJob → (number written : ℕ) → WriteStage
supplied_with job number written =
    if nat_le (length job.bytes) written then ended_with job.head.size (name_of job) number written else stages.Filling number written

abbrev pub ask_in : WriteJob → DiskAsk
ask_in job = write_ask job.head (piece_in job) job.stage

abbrev pub supplied : WriteJob → WriteAsk → Onward
supplied job (wants.Disk stage) = Stage stage
supplied job (wants.Data number written) = Stage (supplied_with job number written)
supplied job (wants.Done end) = End end

abbrev pub next_in : WriteJob → DiskAnswer → Onward
next_in job answer = supplied job (next_write job.head.size (length (piece_in job)) job.stage answer)

abbrev pub advance_to : WriteJob → Onward → Advance
advance_to job (Stage stage) = advances.Stage stage
advance_to job (End end) = advances.Reply (wrote_by job.head end)

abbrev pub advance_by : WriteJob → DiskAnswer → Advance
advance_by job answer = advance_to job (next_in job answer)

-- how many pieces this many bytes take: the last may be shorter
abbrev pub pieces_of : ℕ → ℕ
pieces_of len = (len + (piece_size - 1)) / piece_size

-- the calls that are left after `written` bytes: one for each piece, and those of the end
abbrev pub pieces_left : (most written : ℕ) → ℕ
pieces_left most written = 4 + pieces_of (most - written)

-- How many calls of the disk are left, at most, where there can be `most` bytes of data in all: all pieces but the last are
-- whole. The one measure of a write, by what it asks for next; asking for data is no call of the disk.
abbrev pub writes_left : (most : ℕ) → WriteAsk → ℕ
writes_left most (wants.Disk (stages.Making number)) = 6 + pieces_of most + (temp_names - number)
writes_left most (wants.Disk (stages.Heading number)) = 5 + pieces_of most
writes_left most (wants.Disk (stages.Filling number written)) = pieces_left most written
writes_left most (wants.Disk (stages.Foldering number id)) = 3
writes_left most (wants.Disk (stages.Moving number id)) = 2
writes_left most (wants.Disk (stages.Removing number refusal)) = 1
writes_left most (wants.Data number written) = pieces_left most written
writes_left most (wants.Done end) = 0

-- what a write with its data in memory asks for next, by what an answer led to
abbrev pub onward_ask : Onward → WriteAsk
onward_ask (Stage stage) = wants.Disk stage
onward_ask (End end) = wants.Done end
