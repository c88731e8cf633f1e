-- The indices of a list are tried.
use Rattle.std.specs.Prelude.{true, false, List}
use Rattle.gix_odb_calls.specs.declared.call.CallError.TheVariants as call_errors
use Rattle.gix_odb_calls.specs.declared.call.Reply.TheVariants as replies
use Rattle.gix_odb_events.specs.declared.answer.Answer.{Answer}
use Rattle.gix_odb_events.specs.declared.loaded.Todo.{Todo}
use Rattle.gix_odb_events.specs.declared.view.View.{View}
use Rattle.gix_odb.specs.LoadIndex.{of_refusal}
use Rattle.gix_odb.specs.declared.look_up.LookHead.{LookHead}
use Rattle.gix_odb.specs.declared.look_up.LookStage.{LookStage}
use Rattle.gix_odb.specs.declared.look_up.LookStage.TheVariants as stages
use Rattle.gix_odb.specs.declared.look_up.Part.{Part}
use Rattle.gix_odb.specs.declared.look_up.Part.TheVariants as parts
use Rattle.gix_odb_search.specs.TryOrder.{seek}
use Rattle.gix_odb_search.specs.TryOrder as tries
use Rattle.gix_odb_search.specs.declared.goal.Goal.{Goal}
use Rattle.gix_odb_search.specs.declared.search.Notes.{Notes}
use Rattle.gix_odb_search.specs.declared.trier.Tried.{Tried}
use Rattle.gix_odb_search.specs.declared.trier.Tried.TheVariants as tried
use Rattle.gix_odb_search.specs.declared.trier.Trier.{Trier}
use Rattle.gix_odb.specs.LookUpOrder.Store.{Setting}
use Rattle.gix_odb.specs.LookUpOrder.Listing.{after_core_list}
use Rattle.gix_odb.specs.LookUpOrder.Loose.{loose_from}
use Rattle.gix_odb.specs.LookUpOrder.Replies.{load_refused, find_error, reply_found}

-- what is sought in the indices, and within which limit
abbrev pub goal_of : Setting → LookHead → Goal
goal_of setting head = record { id = head.id; want = head.want; limit = setting.parts.alloc_limit_bytes }

-- after the indices of a list come the loose folders, but not after the core's list where the snapshot was tried before it: then they were
-- asked, and the look-up goes on as after them
abbrev pub after_list : Setting → LookHead → Part → Notes → LookStage
after_list setting head parts.Snapshot notes = loose_from setting head parts.Snapshot notes
after_list setting head (parts.List list_no true) notes = loose_from setting head (parts.List list_no true) notes
after_list setting head (parts.List list_no false) notes = after_core_list setting head list_no notes
after_list setting head (parts.Published list_no) notes = loose_from setting head (parts.Published list_no) notes

-- after a step of trying: the next one; what was found; the loose folders, or a listing, where nothing was; or why it ended
abbrev pub by_tried : Setting → LookHead → Part → Tried → LookStage
by_tried setting head part (tried.More trier) = stages.Trying trier part
by_tried setting head part (tried.Hit found) = stages.Done (reply_found found)
by_tried setting head part (tried.Missed notes) = after_list setting head part notes
by_tried setting head part (tried.Bad error) = stages.Done (replies.Refused (call_errors.Find (find_error error)))
by_tried setting head part (tried.Broken refusal) = stages.Done (load_refused (of_refusal refusal))

-- the list that a view shows is tried
abbrev pub try_view : Setting → LookHead → Part → View → List Todo → Notes → LookStage
try_view setting head part view todo notes =
    by_tried setting head part (seek (goal_of setting head) (record { indices = view.snapshot.indices; todo = todo; notes = notes }))

-- trying after an answer
abbrev pub trier_fed : Trier → Answer → Tried
trier_fed = tries.fed
