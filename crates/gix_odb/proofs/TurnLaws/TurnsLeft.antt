-- How many turns a look-up has left, by its stage.
use Rattle.std.proofs.Common.{◌≡◌, ◌⊎◌, inl, inr, ℕ, ◌+◌, ◌-◌, ◌*◌, ◌≤◌, ◌<◌, length, Option, Ok, refl, arith}
use Rattle.gix_odb_search.proofs.TryTurnLaws.{trier_turns}
use Rattle.gix_odb_events.specs.declared.answer.Answer.{Answer}
use Rattle.gix_odb_calls.specs.declared.call.Reply.{Reply}
use Rattle.gix_odb.specs.Laps.{number_by}
use Rattle.gix_odb.specs.Stream.{Stream}
use Rattle.gix_odb.specs.LookUpOrder.{Setting, result_at, seen}
use Rattle.gix_odb.specs.declared.refresh.Refresh.TheVariants as fronts
use Rattle.gix_odb.specs.RefreshMode.{by_mode}
use Rattle.gix_odb.specs.declared.refresh_mode.RefreshMode.TheVariants.{Never}
use Rattle.gix_odb.specs.declared.look_up.LookHead.{LookHead}
use Rattle.gix_odb.specs.declared.look_up.LookStage.{LookStage}
use Rattle.gix_odb.specs.declared.look_up.LookStage.TheVariants as stages
use Rattle.gix_odb.specs.declared.look_up.LookUp.{LookUp}
use Rattle.gix_odb.specs.declared.look_up.Part.{Part}
use Rattle.gix_odb.specs.declared.look_up.Part.TheVariants as parts
use Rattle.gix_odb.specs.declared.look_up.Purpose.{Purpose}
use Rattle.gix_odb.specs.declared.look_up.Purpose.TheVariants as purposes
use Rattle.gix_odb.proofs.TurnLaws.LapsLeft.{IsFirst, IsFurther, IsFirst-less, IsFirst-on, IsFurther-less, IsFurther-on}
use Rattle.gix_odb.proofs.ListerLaws.Turns.{IsCounted, folder_turns, further, lister_turns}
use Rattle.gix_odb.specs.Store.{listed_for}

-- the turns after a listing: the publish, the list, the loose folders, and a read of the core's state
abbrev pub settling_turns : (slots folders : ℕ) → ℕ
settling_turns slots folders = 4 * slots + folders + 3

-- a look-up is made in a setting, over so many slots, and no stream gives more entries than so many: a lap has room for a listing and what follows
-- it, and for one turn more
pub record Bounds : Type 0 where
  pub setting : Setting
  pub slots : ℕ
  pub entries : ℕ
  pub lap : ℕ
  pub wide : folder_turns (listed_for setting.parts) entries + further (listed_for setting.parts) entries 0 + settling_turns slots (length setting.parts.folders) + 1 ≤ lap

module _ (bounds : Bounds) where
  abbrev pub folders : ℕ
  folders = length bounds.setting.parts.folders

  abbrev pub settling : ℕ
  settling = settling_turns bounds.slots folders

  -- a list and the loose folders after it
  abbrev pub trying : ℕ
  trying = 4 * bounds.slots + folders + 1

  -- ---- what is left, by the stage

  abbrev pub HasFirst : LookHead → (before room turns : ℕ) → Type 0
  HasFirst head before room turns = IsFirst bounds.setting.most bounds.lap head before room turns

  abbrev pub HasFurther : LookHead → (number before room turns : ℕ) → Type 0
  HasFurther head number before room turns = IsFurther bounds.setting.most bounds.lap head number before room turns

  -- after a list of the core come the turns of a lap, unless the handle never refreshes its list
  abbrev pub onward : LookHead → ℕ
  onward head = by_mode 0 bounds.lap head.mode

  -- Where a list is tried or the loose folders after it are asked, for which there are so many turns. After the snapshot come a read of the core's
  -- state and the core's list with its loose folders; after the core's list a lap; after a published list a read of the core's state.
  abbrev pub OfPart : LookHead → Part → (before room turns : ℕ) → Type 0
  OfPart head parts.Snapshot before room turns = HasFirst head before (room + (trying + 1)) turns
  OfPart head (parts.List number loose) before room turns = HasFurther head number before (room + onward head) turns
  OfPart head (parts.Published number) before room turns = HasFurther head number before (room + 1) turns

  -- The core's list is read for the first time, or by a handle that never refreshes its list once more after a listing that came too late.
  abbrev pub ReadsFirst : LookHead → (before turns : ℕ) → Type 0
  ReadsFirst head before turns = HasFirst head before (trying + 1) turns ⊎ ((head.mode ≡ Never) × HasFurther head before before bounds.lap turns)

  abbrev pub OfPurpose : LookHead → Purpose → (before turns : ℕ) → Type 0
  OfPurpose head (purposes.First loose) before turns = ReadsFirst head before turns
  OfPurpose head purposes.Again before turns = HasFurther head before before (bounds.lap + 1) turns

  -- A look-up that goes on has at most so many turns left. The last number of a list that it got is `before`, and the stream that it
  -- reads gave `count` entries.
  abbrev pub HasLeft : LookHead → LookStage → (before : ℕ) (stream : Option Stream) (turns : ℕ) → Type 0
  HasLeft head (stages.Trying trier part) before stream turns = OfPart head part before (trier_turns trier + folders + 1) turns
  HasLeft head (stages.Loose round call) before stream turns = OfPart head round.part before ((folders - round.next) + 1) turns
  HasLeft head (stages.Refreshing fronts.Reading purpose notes) before stream turns = OfPurpose head purpose before turns
  HasLeft head (stages.Refreshing (fronts.Listing lister) purpose notes) before stream turns =
      IsCounted (listed_for bounds.setting.parts) bounds.entries stream lister
      × HasFurther head lister.head.base before (lister_turns (listed_for bounds.setting.parts) bounds.entries lister + settling) turns
  HasLeft head (stages.Refreshing (fronts.Publishing listing) purpose notes) before stream turns = HasFurther head listing.base before settling turns
  HasLeft head (stages.Checking number notes) before stream turns = HasFurther head number before 1 turns
  HasLeft head (stages.Done reply) before stream turns = Unit {0}

  abbrev pub LookHasLeft : LookUp → (before : ℕ) (stream : Option Stream) (turns : ℕ) → Type 0
  LookHasLeft look before stream turns = HasLeft look.head look.stage before stream turns

  -- ---- a look-up that goes on has a turn left

  OfPart-pos : (head : LookHead) (part : Part) (before room turns : ℕ) → OfPart head part before (room + 1) turns → 0 < turns
  OfPart-pos head parts.Snapshot before room turns has = omega (arith, has.enough)
  OfPart-pos head (parts.List number loose) before room turns has = omega (arith, has.enough)
  OfPart-pos head (parts.Published number) before room turns has = omega (arith, has.enough)

  OfPurpose-pos : (head : LookHead) (purpose : Purpose) (before turns : ℕ) → OfPurpose head purpose before turns → 0 < turns
  OfPurpose-pos head (purposes.First loose) before turns (inl has) = omega (arith, has.enough)
  OfPurpose-pos head (purposes.First loose) before turns (inr has) = omega (arith, has.1.enough, bounds.wide)
  OfPurpose-pos head purposes.Again before turns has = omega (arith, has.enough)

  pub HasLeft-pos : (head : LookHead) (stage : LookStage) (before : ℕ) (stream : Option Stream) (turns : ℕ) → HasLeft head stage before stream turns
      → ((reply : Reply) → ¬ (result_at head stage ≡ Ok reply))
      → 0 < turns
  HasLeft-pos head (stages.Trying trier part) before stream turns has on = OfPart-pos head part before (trier_turns trier + folders) turns has
  HasLeft-pos head (stages.Loose round call) before stream turns has on = OfPart-pos head round.part before (folders - round.next) turns has
  HasLeft-pos head (stages.Refreshing fronts.Reading purpose notes) before stream turns has on = OfPurpose-pos head purpose before turns has
  HasLeft-pos head (stages.Refreshing (fronts.Listing lister) purpose notes) before stream turns has on = omega (arith, has.1.enough)
  HasLeft-pos head (stages.Refreshing (fronts.Publishing listing) purpose notes) before stream turns has on = omega (arith, has.enough)
  HasLeft-pos head (stages.Checking number notes) before stream turns has on = omega (arith, has.enough)
  HasLeft-pos head (stages.Done reply) before stream turns has on = absurd (on reply refl)

  -- ---- fewer turns are needed, after an answer or not

  pub OfPart-on : (head : LookHead) (part : Part) (before room turns less left : ℕ) (answer : Answer) → OfPart head part before room turns
      → before ≤ number_by before answer
      → less + turns ≤ room + left
      → OfPart (seen head answer) part (number_by before answer) less left
  OfPart-on head parts.Snapshot before room turns less left answer has later spent = IsFirst-on answer has later (omega arith)
  OfPart-on head (parts.List number loose) before room turns less left answer has later spent =
      IsFurther-on answer (number_by before answer) has later (omega arith)
  OfPart-on head (parts.Published number) before room turns less left answer has later spent =
      IsFurther-on answer (number_by before answer) has later (omega arith)

  pub OfPart-less : (head : LookHead) (part : Part) (before room turns less left : ℕ) → OfPart head part before room turns → less + turns ≤ room + left
      → OfPart head part before less left
  OfPart-less head parts.Snapshot before room turns less left has spent = IsFirst-less has (omega arith)
  OfPart-less head (parts.List number loose) before room turns less left has spent = IsFurther-less has (omega arith)
  OfPart-less head (parts.Published number) before room turns less left has spent = IsFurther-less has (omega arith)
