-- What is common to all turns of a write: what was asked, what its file holds, and what its end or its next stage needs.
use Rattle.std.proofs.Common.{Contains, ◌≡◌, ℕ, ◌+◌, ◌≤◌, List, [], ◌∷◌, ◌++◌, length, Option, Some, None, Ok, sym, ap, ◌∙◌, subst, arith}
use Rattle.std.proofs.lemmas.List.{length_push}
use Rattle.std.proofs.Math.Seq.{take-length}
use Rattle.odb_base.specs.Path.{Path}
use Rattle.odb_disk.specs.Ask.{answer_now}
use Rattle.odb_disk.specs.MemDisk.{Volume}
use Rattle.odb_disk.specs.Tree.{IsTree, Tree, tree_of}
use Rattle.odb_disk.specs.Tree.Change.{changed}
use Rattle.odb_disk.specs.Tree.Write.{change_of_append, change_of_make_dir, change_of_new_file, written}
use Rattle.odb_disk.specs.declared.ask.DiskAnswer.{DiskAnswer}
use Rattle.odb_disk.specs.declared.ask.DiskAnswer.TheVariants as answers
use Rattle.odb_disk.specs.declared.ask.DiskAsk.{DiskAsk}
use Rattle.odb_disk.specs.declared.ask.DiskAsk.TheVariants as asks
use Rattle.odb_disk.specs.declared.change.Change.{Change}
use Rattle.odb_disk.specs.declared.change.Change.TheVariants.{MakeDir}
use Rattle.odb_disk.specs.OwnFile.{HasFile}
use Rattle.odb_disk.proofs.OwnFileLaws.{has_file_kept, has_more, has_new_file, kept_by_make_dir}
use Rattle.odb_disk.proofs.WayWriteLaws.{make_dir_change}
use Rattle.odb_disk.proofs.WriteLaws.{tree_of-written}
use Rattle.gix_hash.specs.declared.object_id.ObjectId.{ObjectId}
use Rattle.gix_odb_loose.specs.Exchanges.{Exchange}
use Rattle.gix_odb_loose.specs.WriteHistory.{IsStopped}
use Rattle.gix_odb_loose.specs.WriteOrder.{error_from}
use Rattle.gix_odb_loose.specs.declared.write.Error.TheVariants as loose_errors
use Rattle.gix_odb_loose.specs.declared.write.Message.TheVariants as messages
use Rattle.gix_odb_loose.specs.declared.write_order.Refusal.{Refusal}
use Rattle.gix_odb_loose.specs.declared.write_order.Refusal.TheVariants as refusals
use Rattle.gix_odb_loose.specs.declared.write_order.WriteHead.{WriteHead}
use Rattle.gix_odb_loose.specs.declared.write_order.WriteStage.{WriteStage}
use Rattle.gix_odb_history.specs.Event.{OfDisk, Event}
use Rattle.gix_odb_history.specs.Run.{IsTurnOf, TellsCall, change_by, disk_after, disk_after_asked, tree_at}
use Rattle.gix_odb_world.specs.Running.Write.{HoldsFile, StandsAt}
use Rattle.gix_odb_history.specs.Writing.{AskedAt, AskedSince, IsNewFile, IsRename, TurnsMadeOnly, ToWrite}
use Rattle.gix_odb_world.proofs.HistoryLemmas.{tree_at-now}
use Rattle.gix_odb_history.proofs.WriteAsk.{Made}
use Rattle.gix_odb_world.proofs.WriteKept.{alone_before, asked_at_kept, asked_now, each_turn_push}

-- a write that is to remove its file was not refused its making
pub made_before_removal : (head : WriteHead) (Named : ObjectId → Type 0) (Counted : ℕ → Type 0) (number : ℕ) (refusal : Refusal) (past : List Exchange) (at : Path)
    → IsStopped head Named ⊥ Counted number refusal past
    → error_from head refusal ≡ loose_errors.Io messages.CreateTempFile at → (P : Type 0) → P
made_before_removal head Named Counted number (refusals.Io messages.CreateTempFile) past at stopped same P = absurd stopped
made_before_removal head Named Counted number (refusals.Io messages.WriteHeader) past at stopped same P = absurd (cc same)
made_before_removal head Named Counted number (refusals.Io messages.StreamData) past at stopped same P = absurd (cc same)
made_before_removal head Named Counted number refusals.IoRaw past at stopped same P = absurd (cc same)
made_before_removal head Named Counted number (refusals.Persist id) past at stopped same P = absurd (cc same)
made_before_removal head Named Counted number (refusals.SizeMismatch actual) past at stopped same P = absurd (cc same)
made_before_removal head Named Counted number refusals.NoMemory past at stopped same P = absurd (cc same)

-- the last event is a turn of the handle that made this call of the disk
pub record IsTurnWith (first : Volume) (events : List Event) (e : Event) (handle : ℕ) (ask : DiskAsk) : Type 0 where
  pub turn : IsTurnOf handle e
  pub did : TellsCall (disk_after first events) ask e.entry.did
  pub asked : e.asked ≡ OfDisk ask (answer_now (disk_after first events) ask)
  pub change : e.entry.change ≡ change_by (disk_after first events) ask
  pub tree : IsTree (tree_of (disk_after first events).state)

-- a turn of a write: its handle adds an event to a history, and has had so many turns of the write before, since its task was set
pub record TurnOfWrite : Type 0 where
  pub first : Volume
  pub events : List Event
  pub e : Event
  pub handle : ℕ
  pub begun : ℕ
  pub turns : ℕ
  pub w : ToWrite
  pub since : begun ≤ length events

-- what the write knows that is at a stage before it
abbrev pub Stands : TurnOfWrite → WriteStage → Type 0
Stands t stage = StandsAt t.first t.events t.handle t.begun t.turns t.w stage

-- it makes this call of the disk
abbrev pub Makes : TurnOfWrite → DiskAsk → Type 0
Makes t ask = IsTurnWith t.first t.events t.e t.handle ask

-- its call of the disk and the answer, and the calls that the write made before it
pub record CallOfTurn (t : TurnOfWrite) : Type 0 where
  pub ask : DiskAsk
  pub is : Makes t ask
  pub answer : DiskAnswer
  pub given : answer ≡ answer_now (disk_after t.first t.events) ask
  pub past : List Exchange
  pub asked : (x : Exchange) → Contains past x → AskedSince t.first t.events t.handle t.begun x.ask x.answer

-- the call that is made at a stage
abbrev pub call_at : (t : TurnOfWrite) (stage : WriteStage) → Stands t stage → (ask : DiskAsk) → Makes t ask → (answer : DiskAnswer)
    → answer ≡ answer_now (disk_after t.first t.events) ask → CallOfTurn t
call_at t stage s ask is answer given = record { ask = ask; is = is; answer = answer; given = given; past = s.past; asked = s.asked }

module _ (t : TurnOfWrite) where
  open t use {first, events, e, handle, begun, turns, w, since}

  abbrev whole : List Event
  whole = events ++ e ∷ []

  abbrev disk : Volume
  disk = disk_after first events

  abbrev before : Tree
  before = tree_at first events (length events)

  abbrev now : Tree
  now = tree_at first whole (length events + 1)

  pub before_is : tree_of disk.state ≡ before
  before_is = ap (λ es. tree_of (disk_after first es).state) (sym (take-length events))

  -- ---- what is common to all turns

  module _ (call : CallOfTurn t) where
    open call use {ask, is, answer, given}

    pub is_tree : IsTree before
    is_tree = subst IsTree before_is is.tree

    pub now_is : now ≡ tree_of (written disk.state (change_by disk ask))
    now_is =
        tree_at-now first events e
        ∙ (ap (λ asked. tree_of (disk_after_asked disk asked e.entry.change).state) is.asked ∙ ap (λ change. tree_of (written disk.state change)) is.change)

    pub now_changed : (change : Change) → change_by disk ask ≡ Some change → now ≡ changed before change
    now_changed change made = now_is ∙ (ap (λ c. tree_of (written disk.state c)) made ∙ (tree_of-written disk.state change ∙ ap (λ t. changed t change) before_is))

    pub now_same : change_by disk ask ≡ None → now ≡ before
    now_same none = now_is ∙ (ap (λ c. tree_of (written disk.state c)) none ∙ before_is)

    pub own : AskedAt first whole handle (length events) ask answer
    own = asked_now first events e handle ask answer is.turn is.did (is.asked ∙ ap (OfDisk ask) (sym given)) given

    -- a file of the write's own after its own call
    pub own_holds : (path : Path) (bytes more : List ℕ) → ((s : Path) → HasFile before path s bytes 0 → HasFile now path s more 0) → HoldsFile first events handle begun path bytes
        → HoldsFile first whole handle begun path more
    own_holds path bytes more step h =
        record {
          made = h.made;
          later = h.later;
          makes = asked_at_kept first events e handle h.made _ _ h.makes;
          holds = λ alone.
              let old = h.holds (alone_before first events e handle path (h.made + 1) (length whole) (omega (arith, length_push events e)) alone) in
              (old.0, subst (λ n. HasFile (tree_at first whole n) path old.0 more 0) (sym (length_push events e)) (step old.0 old.1));
        }

    -- an append to it
    pub appended_holds : (path : Path) (bytes more : List ℕ) → Made disk ask (change_of_append (tree_of disk.state) path more) → HoldsFile first events handle begun path bytes
        → HoldsFile first whole handle begun path (bytes ++ more)
    appended_holds path bytes more m =
        own_holds path bytes (bytes ++ more)
        (λ s has. subst (λ t. HasFile t path s (bytes ++ more) 0) (sym (now_changed m.change m.made))
        (has_more before is_tree path s bytes 0 has more m.change (subst (λ t. change_of_append t path more ≡ Ok m.change) before_is m.is)))

    -- a directory that is made
    pub foldered_holds : (path folder : Path) (bytes : List ℕ) → Made disk ask (change_of_make_dir (tree_of disk.state) folder) → HoldsFile first events handle begun path bytes
        → HoldsFile first whole handle begun path bytes
    foldered_holds path folder bytes m =
        own_holds path bytes bytes
        (λ s has.
        let c = make_dir_change before folder m.change (subst (λ t. change_of_make_dir t folder ≡ Ok m.change) before_is m.is) in
        subst (λ t. HasFile t path s bytes 0) (sym (now_changed m.change m.made))
        (subst (λ d. HasFile (changed before d) path s bytes 0) (sym c.2)
        (has_file_kept before (changed before (MakeDir c.0 _)) path s bytes 0 (kept_by_make_dir before is_tree path s bytes 0 has folder c.0 _ c.1) has)))

    -- a call that changed nothing
    pub same_holds : (path : Path) (bytes : List ℕ) → change_by disk ask ≡ None → HoldsFile first events handle begun path bytes → HoldsFile first whole handle begun path bytes
    same_holds path bytes none = own_holds path bytes bytes (λ s has. subst (λ t. HasFile t path s bytes 0) (sym (now_same none)) has)

    -- the making of it
    pub new_holds : (path : Path) → ask ≡ asks.NewFile path → answer ≡ answers.Done → Made disk ask (change_of_new_file (tree_of disk.state) path) → HoldsFile first whole handle begun path []
    new_holds path asks_it done m =
        record {
          made = length events;
          later = since;
          makes = subst (λ a. AskedAt first whole handle (length events) a answers.Done) asks_it (subst (λ a. AskedAt first whole handle (length events) ask a) done own);
          holds = λ alone.
              let new = has_new_file before is_tree path m.change (subst (λ t. change_of_new_file t path ≡ Ok m.change) before_is m.is) in
              (new.0, subst (λ n. HasFile (tree_at first whole n) path new.0 [] 0) (sym (length_push events e)) (subst (λ t. HasFile t path new.0 [] 0) (sym (now_changed m.change m.made)) new.1));
        }

    -- a change that is none is no rename and makes no file
    pub no_rename : change_by disk ask ≡ None → ¬ (IsRename e.entry.change)
    no_rename none renames = subst IsRename (is.change ∙ none) renames

    pub no_file : change_by disk ask ≡ None → ¬ (IsNewFile e.entry.change)
    no_file none makes = subst IsNewFile (is.change ∙ none) makes

    pub made_same : (number : Option ℕ) → ¬ (IsNewFile e.entry.change) → TurnsMadeOnly events handle begun w.objects number → TurnsMadeOnly whole handle begun w.objects number
    made_same number none old = each_turn_push events e handle begun _ old (λ turn makes. absurd (none makes))
