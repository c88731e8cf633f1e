-- What a turn of an opening says of its end and of what is left: whether the objects directory was shown.
use Rattle.std.proofs.Common.{◌≡◌, ℕ, ◌≤◌, Bool, true, false, nat_le, cond, length, Result, Ok, Err, refl, arith}
use Rattle.std.specs.Prelude.{if◌then◌else◌}
use Rattle.odb_base.specs.Path.{Path}
use Rattle.odb_disk.specs.Tree.{Tree}
use Rattle.odb_disk.specs.Tree.Follow.{Refusal, Absent, WrongKind, LinkLoop, looked}
use Rattle.odb_disk.specs.declared.disk_error.DiskError.TheVariants as disk_errors
use Rattle.odb_disk.specs.declared.meta.Kind.{Kind}
use Rattle.odb_disk.specs.declared.meta.Kind.TheVariants as kinds
use Rattle.odb_disk.specs.declared.meta.Meta.{Meta}
use Rattle.odb_disk.specs.Ask.{answer_of, meta_answer}
use Rattle.odb_disk.specs.declared.ask.DiskAnswer.TheVariants as answers
use Rattle.odb_disk.specs.declared.ask.DiskAsk.TheVariants as asks
use Rattle.gix_odb_events.specs.PackId.{most_slots}
use Rattle.gix_odb_search.specs.declared.lister.ListStep.{ListStep}
use Rattle.gix_odb_search.specs.declared.lister.ListStep.TheVariants as listed
use Rattle.gix_odb.specs.OpenOrder.{begun as with_slots, listed_on, looked as after_look, numbered, refused, shown as after_kind, slots_for}
use Rattle.gix_odb.specs.declared.open_state.OpenStage.{OpenStage}
use Rattle.gix_odb.specs.declared.open_state.OpenStage.TheVariants as opens
use Rattle.gix_odb_calls.specs.declared.call.CallError.TheVariants as call_errors
use Rattle.gix_odb_calls.specs.declared.call.Reply.TheVariants as replies
use Rattle.gix_odb_calls.specs.declared.init.Error as opening
use Rattle.gix_odb_calls.specs.declared.init.Error.TheVariants as opening_errors
use Rattle.gix_odb_calls.specs.declared.init.Slots.{Slots}
use Rattle.gix_odb_calls.specs.declared.init.Slots.TheVariants.{AsNeededByDiskState, Given}
use Rattle.gix_odb_world.specs.Causes.{Sometime, ShowsDirectory}
use Rattle.gix_odb_world.specs.Status.{Store}

module _ (trees : ℕ → Tree) (Failed : Type 0) (store : Store) (begun now : ℕ) (later : begun ≤ now) where
  abbrev objects : Path
  objects = store.parts.objects

  abbrev pub Directory : Type 0
  Directory = Sometime begun now (λ moment. ShowsDirectory (trees moment) objects)

  -- what a turn says of the error with which it ends: the causes of a listing are shown by what was asked and answered
  abbrev pub Says : opening.Error → Type 0
  Says opening_errors.NotADirectory = Sometime begun now (λ moment. ¬ ShowsDirectory (trees moment) objects)
  Says (opening_errors.TooManySlots asked) = Directory
  Says opening_errors.Io = Failed
  Says (opening_errors.LoadIndex error) = Unit {0}
  Says opening_errors.NoMemory = ⊥

  -- what it says of the stage after it
  abbrev pub Looks : OpenStage → Type 0
  Looks opens.Looking = ⊥
  Looks (opens.Done (replies.Refused (call_errors.Open error))) = Says error
  Looks (opens.Done reply) = ⊥
  Looks state = Directory

  -- something held at the last moment
  at_last : (P : ℕ → Type 0) → P now → Sometime begun now P
  at_last P so = record { moment = now; from = later; to = omega arith; was = so }

  -- the slots are or aren't too many
  by_number : Directory → (number : ℕ) → Looks (numbered number)
  by_number shown number = by (nat_le number most_slots)
    where
      by : (few : Bool) → Looks (if few then opens.Registering number else refused (opening_errors.TooManySlots number))
      by true = shown
      by false = shown

  -- ---- the listing

  pub listing_keeps : Directory → (percent minimum : ℕ) (step : ListStep) → Looks (listed_on percent minimum step)
  listing_keeps shown percent minimum (listed.More lister) = shown
  listing_keeps shown percent minimum (listed.Listed listing) = by_number shown (slots_for percent minimum (length listing.rows))
  listing_keeps shown percent minimum listed.Broken = tt
  listing_keeps shown percent minimum (listed.TooManyPacks actual path) = tt

  -- ---- the stat

  by_slots : Directory → (slots : Slots) → Looks (with_slots objects slots)
  by_slots shown (Given number) = by_number shown number
  by_slots shown (AsNeededByDiskState percent minimum) = shown

  not_shown : ¬ (ShowsDirectory (trees now) objects) → Looks (refused opening_errors.NotADirectory)
  not_shown other = at_last (λ moment. ¬ (ShowsDirectory (trees moment) objects)) other

  shown_last : ShowsDirectory (trees now) objects → Directory
  shown_last shown = at_last (λ moment. ShowsDirectory (trees moment) objects) shown

  -- what the stat showed
  by_kind : (meta : Meta) → looked (trees now) objects true ≡ Ok meta → (kind : Kind) → meta.kind ≡ kind → Looks (after_kind objects store.parts.slots kind)
  by_kind meta e kinds.Dir is = by_slots (shown_last (rw e is)) store.parts.slots
  by_kind meta e kinds.File is = not_shown (rw e (λ dir. cc))
  by_kind meta e kinds.Link is = not_shown (rw e (λ dir. cc))

  by_look : (told : Result Meta Refusal) → looked (trees now) objects true ≡ told → Looks (after_look objects store.parts.slots (meta_answer told))
  by_look (Ok meta) e = by_kind meta e meta.kind refl
  by_look (Err Absent) e = not_shown (rw e (λ nothing. nothing))
  by_look (Err WrongKind) e = not_shown (rw e (λ nothing. nothing))
  by_look (Err LinkLoop) e = not_shown (rw e (λ nothing. nothing))

  -- the stat failed, or was answered by the last moment's tree
  pub look_keeps : (fails : Bool) → (fails ≡ true → Failed)
      → Looks (after_look objects store.parts.slots (cond fails (answers.Refused disk_errors.Failed) (answer_of (trees now) (asks.Look objects true))))
  unfolding answer_of
  look_keeps true is = is refl
  look_keeps false is = by_look (looked (trees now) objects true) refl
