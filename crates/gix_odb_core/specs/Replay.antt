-- The answers to events, and what a journal replays to.
use Rattle.std.specs.Prelude.{◌≡◌, ℕ, ◌+◌, ◌⊎◌, Bool, true, false, ◌==◌, List, [], ◌∷◌, length, map, min, take, slice_get, ◌++◌, filter, count_by, Option, Some, None, Ok, Err, if◌then◌else◌}
use Rattle.std.specs.List.{filter_map, last_or}
use Rattle.gix_odb_events.specs.Answers.{Answer, view_in}
use Rattle.gix_odb_core.specs.Handles.{IsRegistered, registered}
use Rattle.gix_odb_core.specs.Counts.{listed_in}
use Rattle.gix_odb_events.specs.Slots.{listed_of, slot_at}
use Rattle.gix_odb_core.specs.Metrics.{metrics_of}
use Rattle.gix_odb_events.specs.PackFiles.{HasDifferentPaths}
use Rattle.gix_odb_core.specs.Steps.{Publishing, Outdated, TooFew, Overflows, Unchanged, Published, after, publishing}
use Rattle.gix_odb_events.specs.View.{last_state}
use Rattle.gix_odb_core.specs.Files.{slot_with_index, slot_with_pack}
use Rattle.gix_odb_core.specs.Views.{view_of}
use Rattle.gix_odb_events.specs.declared.event.Effect.TheVariants as effects
use Rattle.gix_odb_events.specs.declared.event.Event.{Event}
use Rattle.gix_odb_events.specs.declared.event.Event.TheVariants as event
use Rattle.gix_odb_events.specs.declared.event.Refusal.TheVariants as refusals
use Rattle.gix_odb_core.specs.declared.journal.Entry.{Entry}
use Rattle.gix_odb_events.specs.declared.metrics.Passed.{Passed}
use Rattle.gix_odb_events.specs.declared.metrics.Report.{Report}
use Rattle.gix_odb_core.specs.declared.shape.Shape.{Shape}
use Rattle.gix_odb_events.specs.declared.slot.Filled.{Filled}
use Rattle.gix_odb_events.specs.declared.view.View.{View}

-- ---- what else a journal says

-- whether an entry published a listing, or confirmed the list
abbrev pub is_refresh : Answer → Bool
is_refresh (Ok (effects.Published view)) = true
is_refresh (Ok (effects.Unchanged view)) = true
is_refresh answer = false

abbrev pub refreshes_in : List Entry → ℕ
refreshes_in entries = count_by (λ entry. is_refresh entry.answer) entries

-- the file that an event passes over, if it does
abbrev pub passed_by : Event → Option Passed
passed_by (event.PassOver slot path why) = Some (record { path = path; why = why })
passed_by other = None

-- the file that was passed over by an event with this answer: none if it was refused
abbrev pub passed_with : Event → Answer → Option Passed
passed_with happens (Ok effect) = passed_by happens
passed_with happens (Err refusal) = None

abbrev pub passed_in : List Entry → List Passed
passed_in entries = filter_map (λ entry. passed_with entry.event entry.answer) entries

-- the report on a shape, after these entries
abbrev pub report_of : Shape → List Entry → Report
report_of shape entries = record { metrics = metrics_of shape (refreshes_in entries); listed = map listed_of (listed_in shape.slots shape.list); passed_over = passed_in entries }

-- ---- the answer to an event, as the entry after these, with its number

abbrev pub put_answer : Shape → Shape → (number : ℕ) → Option Filled → Answer
put_answer before now number None = Ok (effects.Put (view_of now number) false)
put_answer before now number (Some filled) = if before.state_id == last_state then Err refusals.GenerationOverflow else Ok (effects.Put (view_of now number) true)

abbrev pub publish_answer : Shape → (number : ℕ) → Publishing → Answer
publish_answer shape number Outdated = Ok (effects.Outdated shape.list_no)
publish_answer shape number (TooFew needed) = Err (refusals.InsufficientSlots (length shape.slots) needed)
publish_answer shape number Overflows = Err refusals.GenerationOverflow
publish_answer shape number (Unchanged now) = Ok (effects.Unchanged (view_of now number))
publish_answer shape number (Published now) = Ok (effects.Published (view_of now number))

abbrev pub answer_of : List Entry → Shape → (number : ℕ) → (seat : ℕ) → Event → Answer
answer_of entries shape number seat (event.Register stable) = Ok (effects.Seen (view_of (after shape seat (event.Register stable)) number))
answer_of entries shape number seat event.Upgrade = Ok (effects.Seen (view_of (after shape seat event.Upgrade) number))
answer_of entries shape number seat event.Remove = Ok effects.Removed
answer_of entries shape number seat event.Look = Ok (effects.Seen (view_of shape number))
answer_of entries shape number seat event.Report = Ok (effects.Reported (view_of shape number) (report_of shape entries))
answer_of entries shape number seat (event.PutIndex slot path file) =
    put_answer shape (after shape seat (event.PutIndex slot path file)) number (slot_with_index path file (slot_at shape.slots slot))
answer_of entries shape number seat (event.PutPack pack path file) =
    put_answer shape (after shape seat (event.PutPack pack path file)) number (slot_with_pack path file (slot_at shape.slots pack.index))
answer_of entries shape number seat (event.PassOver slot path why) = Ok (effects.Seen (view_of (after shape seat (event.PassOver slot path why)) number))
answer_of entries shape number seat (event.Publish listing) = publish_answer shape number (publishing shape listing)

-- ---- a journal

-- an entry that was refused for lack of memory changes nothing
abbrev pub after_answer : Shape → Entry → Answer → Shape
after_answer shape entry (Err refusals.NoMemory) = shape
after_answer shape entry answer = after shape entry.seat entry.event

abbrev pub after_entry : Shape → Entry → Shape
after_entry shape entry = after_answer shape entry entry.answer

-- the shape after all entries
abbrev pub replay : Shape → List Entry → Shape
replay shape [] = shape
replay shape (entry ∷ entries) = replay (after_entry shape entry) entries

-- the number of the entry after these
abbrev pub number_behind : List Entry → ℕ
number_behind past = min (length past + 1) last_state

-- an entry can follow others: it has the next number, and its answer is the one that the event gives, unless memory ran out
pub record IsNext (opening : Shape) (past : List Entry) (entry : Entry) : Type 0 where
  pub numbered : entry.number ≡ number_behind past
  pub answered : (entry.answer ≡ Err refusals.NoMemory) ⊎ (entry.answer ≡ answer_of past (replay opening past) (number_behind past) entry.seat entry.event)

abbrev pub IsLegal : Shape → List Entry → Type 0
IsLegal opening entries = (i : ℕ) (entry : Entry) → slice_get entries i ≡ Some entry → IsNext opening (take i entries) entry

-- each of these entries can follow the past and those before it
abbrev pub AreNext : Shape → (past later : List Entry) → Type 0
AreNext opening past later = (i : ℕ) (entry : Entry) → slice_get later i ≡ Some entry → IsNext opening (past ++ take i later) entry

-- one entry more, with this event and answer
abbrev pub Appends : Shape → (past now : List Entry) → (seat : ℕ) → Event → Answer → Type 0
Appends opening past now seat event answer = (entry : Entry) × (now ≡ past ++ entry ∷ []) × IsNext opening past entry × (entry.seat ≡ seat) × (entry.event ≡ event) × (entry.answer ≡ answer)

abbrev pub IsNeverRefused : Event → Answer → Type 0
IsNeverRefused event.Remove answer = answer ≡ Ok effects.Removed
IsNeverRefused other answer = Unit {0}

-- what an event needs: Register a free seat, Upgrade one that isn't stable, Remove a registered one, and Publish rows of different paths
abbrev pub CanHappen : Shape → (seat : ℕ) → Event → Type 0
CanHappen shape seat (event.Register stable) = registered shape.handles seat ≡ None
CanHappen shape seat event.Upgrade = registered shape.handles seat ≡ Some false
CanHappen shape seat event.Remove = IsRegistered shape.handles seat
CanHappen shape seat (event.Publish listing) = HasDifferentPaths listing.rows
CanHappen shape seat other = Unit {0}

-- a handle's snapshot: the view of its last entry that returned one
abbrev pub snapshot_of : (seat : ℕ) → List Entry → Option View
snapshot_of seat entries = last_or None (filter_map (λ entry. view_in entry.answer) (filter (λ entry. entry.seat == seat) entries))
