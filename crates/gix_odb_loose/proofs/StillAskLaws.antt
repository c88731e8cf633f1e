-- No call of a store but a look-up of a prefix opens a stream of the disk, takes from one or closes one. For callers.
use Rattle.std.specs.Prelude.{◌≡◌, true, false, List, Some, is_some, refl}
use Rattle.std.proofs.Common.{◌∙◌, ℕ, sym, ap}
use Rattle.odb_base.specs.Path.{Path}
use Rattle.odb_disk.specs.StreamAsks.{is_of_streams}
use Rattle.odb_disk.specs.declared.ask.DiskAsk.{DiskAsk}
use Rattle.gix_object.specs.declared.want.Want.{Want}
use Rattle.gix_object.specs.declared.want.Want.TheVariants.{Object, Header, Presence}
use Rattle.gix_odb_loose.specs.LooseOrder.{IsStreamless, disk_ask_of, stage_ask, want_ask}
use Rattle.gix_odb_loose.specs.StreamJobs.Progress.{Begun}
use Rattle.gix_odb_loose.specs.StreamJobs.AtStage.{IsReady}
use Rattle.gix_odb_loose.specs.WriteOrder.{number_made, write_ask}
use Rattle.gix_odb_loose.specs.WriteJobs.{ask_in, piece_in}
use Rattle.gix_odb_loose.specs.declared.call.LooseCall.{LooseCall}
use Rattle.gix_odb_loose.specs.declared.call.Stage.{Stage}
use Rattle.gix_odb_loose.specs.declared.call.Stage.TheVariants as calls
use Rattle.gix_odb_loose.specs.declared.write_order.WriteHead.{WriteHead}
use Rattle.gix_odb_loose.specs.declared.write_order.WriteStage.{WriteStage}
use Rattle.gix_odb_loose.specs.declared.write_order.WriteStage.TheVariants as stages

pub write_asks_still : (head : WriteHead) (piece : List ℕ) (stage : WriteStage) → is_of_streams (write_ask head piece stage) ≡ false
write_asks_still head piece (stages.Making number) = refl
write_asks_still head piece (stages.Heading number) = refl
write_asks_still head piece (stages.Filling number written) = refl
write_asks_still head piece (stages.Foldering number id) = refl
write_asks_still head piece (stages.Moving number id) = refl
write_asks_still head piece (stages.Removing number refusal) = refl

pub write_asked_still : (head : WriteHead) (piece : List ℕ) (stage : WriteStage) (ask : DiskAsk) → ask ≡ write_ask head piece stage → is_of_streams ask ≡ false
write_asked_still head piece stage ask is = ap is_of_streams is ∙ write_asks_still head piece stage

want_asks_still : (want : Want) (path : Path) → is_of_streams (want_ask want path) ≡ false
want_asks_still Object path = refl
want_asks_still Header path = refl
want_asks_still Presence path = refl

stage_ask-still : (stage : Stage) (ask : DiskAsk) → IsStreamless stage → stage_ask stage ≡ Some ask → is_of_streams ask ≡ false
stage_ask-still (calls.Searching search) ask streamless is = absurd streamless
stage_ask-still (calls.Asking want path limit) ask streamless is = let same : want_ask want path ≡ ask = cc is in ap is_of_streams (sym same) ∙ want_asks_still want path
stage_ask-still (calls.Writing job) ask streamless is = let same : ask_in job ≡ ask = cc is in ap is_of_streams (sym same) ∙ write_asks_still job.head (piece_in job) job.stage
stage_ask-still (calls.Done reply) ask streamless is = absurd (cc is)

pub call_asks_still : (call : LooseCall) (ask : DiskAsk) → IsStreamless call.stage → disk_ask_of call ≡ Some ask → is_of_streams ask ≡ false
call_asks_still call ask streamless is = stage_ask-still call.stage ask streamless is

-- the removal of a temporary file that was made
pub removal_still : (w : Begun) (removal : DiskAsk) (stage : WriteStage) → is_some (number_made stage) ≡ true → IsReady w removal stage → is_of_streams removal ≡ false
removal_still w removal (stages.Making number) made ready = absurd (cc made)
removal_still w removal (stages.Heading number) made ready = ap is_of_streams ready
removal_still w removal (stages.Filling number written) made ready = ap is_of_streams ready
removal_still w removal (stages.Foldering number id) made ready = ap is_of_streams ready
removal_still w removal (stages.Moving number id) made ready = ap is_of_streams ready
removal_still w removal (stages.Removing number refusal) made ready = ap is_of_streams ready
