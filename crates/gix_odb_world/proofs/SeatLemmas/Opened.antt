-- How an opening continues, and how it ends.
use Rattle.std.proofs.Common.{◌≡◌, ℕ, Bool, true, false, length, Option, Ok, Err, Result, refl, sym, ap, subst}
use Rattle.std.specs.Prelude.{if◌then◌else◌, nat_le}
use Rattle.odb_base.specs.Path.{Path}
use Rattle.odb_disk.specs.declared.ask.DiskAnswer.{DiskAnswer}
use Rattle.odb_disk.specs.declared.ask.DiskAnswer.TheVariants as answers
use Rattle.odb_disk.specs.declared.disk_error.DiskError.TheVariants as disk_errors
use Rattle.odb_disk.specs.declared.meta.Kind.{Kind}
use Rattle.odb_disk.specs.declared.meta.Kind.TheVariants as kinds
use Rattle.gix_odb.specs.OpenOrder.{begun, fed, listed_on, looked, numbered, refused, result_of, shown, slots_for}
use Rattle.gix_odb_events.specs.PackId.{most_slots}
use Rattle.gix_odb_search.specs.ListOrder as lists
use Rattle.gix_odb_search.specs.ListedStore.{ListedStore}
use Rattle.gix_odb_search.specs.MultiPack.{most_packs}
use Rattle.gix_odb_search.specs.declared.lister.ListStep.{ListStep}
use Rattle.gix_odb_search.specs.declared.lister.ListStep.TheVariants as listed
use Rattle.gix_odb_calls.specs.declared.call.CallError.TheVariants as call_errors
use Rattle.gix_odb_calls.specs.declared.call.Reply.{Reply}
use Rattle.gix_odb_calls.specs.declared.call.Reply.TheVariants as replies
use Rattle.gix_odb_calls.specs.declared.init.Error as opening_error
use Rattle.gix_odb_calls.specs.declared.init.Error.TheVariants as opening_errors
use Rattle.gix_odb_calls.specs.declared.init.Slots.{Slots}
use Rattle.gix_odb_calls.specs.declared.init.Slots.TheVariants.{AsNeededByDiskState, Given}
use Rattle.gix_odb_calls.specs.declared.load_index.Error.TheVariants as load_errors
use Rattle.gix_odb.specs.declared.open_state.OpenStage.{OpenStage}
use Rattle.gix_odb.specs.declared.open_state.OpenStage.TheVariants as opens
use Rattle.gix_odb_calls.specs.declared.step.Outcome.TheVariants as outcomes
use Rattle.gix_odb_world.specs.Work.{Work}
use Rattle.gix_odb_world.specs.Work.{Opening}
use Rattle.gix_odb_events.specs.declared.answer.Answer.{Answer}
use Rattle.gix_odb_events.specs.declared.answer.Answer.TheVariants as told
use Rattle.gix_odb_world.specs.Headline.{outcome_of}
use Rattle.gix_odb_world.specs.Machine.{placed}
use Rattle.gix_odb_world.specs.Machines.{fed_in}
use Rattle.gix_odb_world.specs.Running.Opening.{opening, opening_fed}
use Rattle.gix_odb_world.specs.Status.{Store, refuses_opening}

-- an opening that isn't done
abbrev pub IsOn : OpenStage → Type 0
IsOn opens.Looking = Unit {0}
IsOn (opens.Listing lister percent minimum) = Unit {0}
IsOn (opens.Registering slots) = Unit {0}
IsOn (opens.Done reply) = ⊥

-- the reply, or what is left, by the outcome of a turn
pub reply_of : (result : Result Reply Work) (reply : Reply) → outcome_of result ≡ outcomes.Reply reply → result ≡ Ok reply
reply_of (Ok own) reply is = let same : own ≡ reply = cc is in ap Ok same
reply_of (Err left) reply is = absurd (cc is)

pub left_of : (result : Result Reply Work) → outcome_of result ≡ outcomes.Pending → (left : Work) × (result ≡ Err left)
left_of (Ok reply) is = absurd (cc is)
left_of (Err left) is = (left, refl)

pub opened_by : (state : OpenStage) (reply : Reply) → placed opening (result_of state) ≡ Ok reply → state ≡ opens.Done reply
opened_by opens.Looking reply is = absurd (cc is)
opened_by (opens.Listing lister percent minimum) reply is = absurd (cc is)
opened_by (opens.Registering slots) reply is = absurd (cc is)
opened_by (opens.Done own) reply is = let same : own ≡ reply = cc is in ap opens.Done same

-- what is left of an opening is one that isn't done
on_at : (state : OpenStage) (left : Work) → placed opening (result_of state) ≡ Err left → (next : OpenStage) × (left ≡ Opening next) × IsOn next
on_at opens.Looking left is = let same : Opening opens.Looking ≡ left = cc is in (opens.Looking, sym same, tt)
on_at (opens.Listing lister percent minimum) left is =
    let same : Opening (opens.Listing lister percent minimum) ≡ left = cc is in (opens.Listing lister percent minimum, sym same, tt)
on_at (opens.Registering slots) left is = let same : Opening (opens.Registering slots) ≡ left = cc is in (opens.Registering slots, sym same, tt)
on_at (opens.Done own) left is = absurd (cc is)

pub on_by : (store : Store) (state : OpenStage) (answer : Option Answer) (left : Work) → fed_in store (Opening state) answer ≡ Err left
    → (next : OpenStage) × (left ≡ Opening next) × IsOn next
on_by store state answer left is = on_at (opening_fed store state answer) left is

-- an opening that ends with a call of the disk is refused
module _ (reply : Reply) where
  by_error : (error : opening_error.Error) → refused error ≡ opens.Done reply → refuses_opening reply ≡ true
  by_error error is =
      let same : replies.Refused (call_errors.Open error) ≡ reply = cc is in
      subst (λ r. refuses_opening r ≡ true) same refl

  by_number : (number : ℕ) → numbered number ≡ opens.Done reply → refuses_opening reply ≡ true
  by_number number is = by (nat_le number most_slots) is
    where
      by : (few : Bool) → (if few then opens.Registering number else refused (opening_errors.TooManySlots number)) ≡ opens.Done reply
          → refuses_opening reply ≡ true
      by true is = absurd (cc is)
      by false is = by_error (opening_errors.TooManySlots number) is

  by_slots : (objects : Path) (slots : Slots) → begun objects slots ≡ opens.Done reply → refuses_opening reply ≡ true
  by_slots objects (Given number) is = by_number number is
  by_slots objects (AsNeededByDiskState percent minimum) is = absurd (cc is)

  by_kind : (objects : Path) (slots : Slots) (kind : Kind) → shown objects slots kind ≡ opens.Done reply → refuses_opening reply ≡ true
  by_kind objects slots kinds.Dir is = by_slots objects slots is
  by_kind objects slots kinds.File is = by_error opening_errors.NotADirectory is
  by_kind objects slots kinds.Link is = by_error opening_errors.NotADirectory is

  by_look : (objects : Path) (slots : Slots) (answer : DiskAnswer) → looked objects slots answer ≡ opens.Done reply → refuses_opening reply ≡ true
  by_look objects slots (answers.Meta meta) is = by_kind objects slots meta.kind is
  by_look objects slots (answers.Refused disk_errors.Failed) is = by_error opening_errors.Io is
  by_look objects slots (answers.Refused disk_errors.Absent) is = by_error opening_errors.NotADirectory is
  by_look objects slots (answers.Refused disk_errors.WrongKind) is = by_error opening_errors.NotADirectory is
  by_look objects slots (answers.Refused disk_errors.LinkLoop) is = by_error opening_errors.NotADirectory is
  by_look objects slots (answers.Refused disk_errors.Exists) is = by_error opening_errors.NotADirectory is
  by_look objects slots (answers.Refused disk_errors.NotEmpty) is = by_error opening_errors.NotADirectory is
  by_look objects slots (answers.Refused disk_errors.NoMemory) is = by_error opening_errors.NotADirectory is
  by_look objects slots (answers.File bytes time) is = by_error opening_errors.NotADirectory is
  by_look objects slots (answers.Dir dir) is = by_error opening_errors.NotADirectory is
  by_look objects slots (answers.Entry entry) is = by_error opening_errors.NotADirectory is
  by_look objects slots answers.End is = by_error opening_errors.NotADirectory is
  by_look objects slots answers.Done is = by_error opening_errors.NotADirectory is

  by_listing : (percent minimum : ℕ) (step : ListStep) → listed_on percent minimum step ≡ opens.Done reply → refuses_opening reply ≡ true
  by_listing percent minimum (listed.More lister) is = absurd (cc is)
  by_listing percent minimum (listed.Listed listing) is = by_number (slots_for percent minimum (length listing.rows)) is
  by_listing percent minimum listed.Broken is = by_error (opening_errors.LoadIndex load_errors.Io) is
  by_listing percent minimum (listed.TooManyPacks actual path) is =
      by_error (opening_errors.LoadIndex (load_errors.TooManyPacksInMultiIndex actual most_packs path)) is

pub answered_refuses : (objects : Path) (listed_by : ListedStore) (slots : Slots) (state : OpenStage) (answer : DiskAnswer) (reply : Reply) → IsOn state
    → fed objects listed_by slots state (told.Disk answer) ≡ opens.Done reply → refuses_opening reply ≡ true
answered_refuses objects listed_by slots opens.Looking answer reply on is = by_look reply objects slots answer is
answered_refuses objects listed_by slots (opens.Listing lister percent minimum) answer reply on is =
    by_listing reply percent minimum (lists.fed listed_by lister answer) is
answered_refuses objects listed_by slots (opens.Registering number) answer reply on is = absurd (cc is)
answered_refuses objects listed_by slots (opens.Done own) answer reply on is = absurd on
