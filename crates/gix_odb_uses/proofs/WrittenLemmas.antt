-- From the clauses of writes to the calls built on them.
use Rattle.std.proofs.Common.{◌≡◌, ℕ, ◌≤◌, List, length, Option, Some, None, Result, Ok, Err, true, inl, inr, refl, sym, subst, arith, ◌∙◌}
use Rattle.std.specs.Option.{IfSome}
use Rattle.std.proofs.lemmas.Option.{same_Some}
use Rattle.odb_base.specs.Faults.{Rose}
use Rattle.odb_disk.specs.declared.ask.DiskAsk.{DiskAsk}
use Rattle.odb_disk.specs.declared.ask.DiskAnswer.{DiskAnswer}
use Rattle.odb_disk.specs.Tree.{State}
use Rattle.gix_hash.specs.declared.object_id.ObjectId.{ObjectId}
use Rattle.gix_object.specs.Data.{Object}
use Rattle.gix_object.specs.declared.kind.Kind.{Kind}
use Rattle.gix_object.specs.declared.kind.Kind.TheVariants.{Blob}
use Rattle.gix_odb_loose.proofs.CauseLaws.Write.{WriteCause-wider}
use Rattle.gix_odb_loose.specs.Answers.{Finds, path_in, put_in}
use Rattle.gix_odb_loose.specs.Asked.{AreAllCalls, FindAsks}
use Rattle.gix_odb_loose.specs.Exchanges.{Exchange, left_by}
use Rattle.gix_odb_loose.specs.WriteHistory.Refused.{DoneIn}
use Rattle.gix_odb_loose.specs.WriteRuns.{AtHand, Content, DiskSeen, GetsName, HasFailed, WriteRuns, bytes_told, disk_seen, write_head, write_into}
use Rattle.gix_odb_loose.specs.WriteRuns.ReadBack.{ReadsBack}
use Rattle.gix_odb_loose.specs.WriteRuns.RefusedAsks.{FoundThere, Refuses}
use Rattle.gix_odb_loose.specs.WriteStreams.{OtherLength}
use Rattle.gix_odb_loose.specs.declared.find.Error.{Error as FindError}
use Rattle.gix_odb_loose.specs.declared.store.Store.{Store}
use Rattle.gix_odb_loose.specs.declared.write.Error.{Error}
use Rattle.gix_odb_uses.specs.Objects.{IsHeld}
use Rattle.gix_odb_uses.specs.Reads.{MayRead}
use Rattle.gix_odb_uses.specs.Written.{CanBeRead, IsCopy, IsWrite, blob_id, kept_on}
use Rattle.gix_odb_uses.proofs.ReadLemmas.{may_read}
use Rattle.gix_odb_uses.proofs.ObjectLemmas.{at_told, held, if_told, rose_between, same_found}

-- what was seen of a disk, by its states, its counts of faults, and by which exchanges are the calls of a write
abbrev seen : (state state_now : Option State) (faults faults_now : ℕ) (AreCalls : List Exchange → Type 0) → DiskSeen
seen state state_now faults faults_now AreCalls = record { state = state; state_now = state_now; faults = faults; faults_now = faults_now; AreCalls = AreCalls }

-- ---- a write as a part of a call

module _ (Made AreCalls : List Exchange → Type 0) (wider : (exchanges : List Exchange) → Made exchanges → AreCalls exchanges) (store : Store) (kind : Kind) (size : ℕ) (known : Option ObjectId)
    (content : Content) (answer : Result ObjectId Error) where
  -- the write that left a disk in this way
  abbrev Runs : DiskSeen → Type 0
  Runs disk = WriteRuns (write_into store kind size known content disk answer)

  -- a write also runs between earlier and later counts of faults, in a call that makes more calls
  runs_longer : (state new : Option State) (earlier faults now later : ℕ) → earlier ≤ faults → now ≤ later → Runs (seen state new faults now Made) → Runs (seen state new earlier later AreCalls)
  runs_longer state new earlier faults now later since until run =
      let w = write_into store kind size known content (seen state new faults now Made) answer in
      record {
        exchanges = run.exchanges;
        made = wider run.exchanges run.made;
        given = run.given;
        left = run.left;
        own = run.own;
        asks = run.asks;
        spared = run.spared;
        wrote = run.wrote;
        stopped = run.stopped;
        unnamed = run.unnamed;
        cleared = run.cleared;
        untouched = run.untouched;
        refused =
            λ error is.
            WriteCause-wider (write_head store kind size) (Refuses state (Rose faults now) run.exchanges) (Refuses state (Rose earlier later) run.exchanges)
            (FoundThere run.exchanges) (FoundThere run.exchanges) (DoneIn run.exchanges) (DoneIn run.exchanges)
            (λ ask making h. (h.0, h.1, h.2, elim h.3 [ inl failed ↦ inl (failed.0, rose_between earlier faults now later since until failed.1) | inr other ↦ inr other ]))
            (λ ask h. h) (λ ask h. h) (HasFailed content) (HasFailed content) (λ h. h) (GetsName w) (GetsName w) (λ id h. h) (Unit {0}) (Unit {0}) (λ h. h)
            (OtherLength (bytes_told content) size) (OtherLength (bytes_told content) size) (λ n h. h) error (run.refused error is);
      }

  -- and between states that are the same
  pub runs_between : (before state new after : Option State) → before ≡ state → after ≡ new → (earlier faults now later : ℕ) → earlier ≤ faults → now ≤ later
      → Runs (seen state new faults now Made) → Runs (seen before after earlier later AreCalls)
  runs_between before state new after same kept earlier faults now later since until run =
      subst (λ (s : Option State). Runs (seen s after earlier later AreCalls)) (sym same)
      (subst (λ (s : Option State). Runs (seen state s earlier later AreCalls)) (sym kept) (runs_longer state new earlier faults now later since until run))

-- ---- bytes that are kept

module _ {D : Type 0} (state : D → Option State) (faults : D → ℕ) (answered : D → DiskAsk → DiskAnswer → D → Type 0) (store : Store) (bytes : List ℕ) where
  -- the write that a call begins with; the object's path is read after it, and the state is as the write left it
  pub first_write : (before middle after : D) (id : ObjectId) (found : Result (Option Object) FindError) → id ≡ blob_id store bytes → state after ≡ state middle → faults middle ≤ faults after
      → FindAsks answered store id middle after found
      → IsWrite store Blob bytes None (disk_seen state faults answered before middle) (Ok id) → IsWrite store Blob bytes None (kept_on state faults answered store bytes before after) (Ok (blob_id store bytes))
  first_write before middle after id found is kept until asked run =
      subst (λ (x : ObjectId). IsWrite store Blob bytes None (kept_on state faults answered store bytes before after) (Ok x)) is
      (runs_between (λ exchanges. AreAllCalls answered exchanges before middle)
      (λ exchanges. (between : D) × AreAllCalls answered exchanges before between × MayRead answered (path_in store (blob_id store bytes)) between after)
      (λ exchanges made. (middle, made, subst (λ (x : ObjectId). MayRead answered (path_in store x) middle after) is (may_read answered (path_in store id) middle after _ found asked)))
      store Blob (length bytes) None (AtHand bytes) (Ok id) (state before) (state before) (state middle) (state after) refl kept (faults before) (faults before) (faults middle) (faults after)
      (omega arith) until run)

  -- a write that was refused, and no more
  pub refused_write : (before after : D) (error : Error) → IsWrite store Blob bytes None (disk_seen state faults answered before after) (Err error)
      → IsWrite store Blob bytes None (kept_on state faults answered store bytes before after) (Err error)
  refused_write before after error run =
      runs_between (λ exchanges. AreAllCalls answered exchanges before after)
      (λ exchanges. (between : D) × AreAllCalls answered exchanges before between × MayRead answered (path_in store (blob_id store bytes)) between after)
      (λ exchanges made. (after, made, inl refl))
      store Blob (length bytes) None (AtHand bytes) (Err error) (state before) (state before) (state after) (state after) refl refl (faults before) (faults before) (faults after) (faults after)
      (omega arith) (omega arith) run

-- ---- an object that is copied

-- bytes in memory that were written can be read at the object's path, unless a link was replaced
module _ (Made : List Exchange → Type 0) (store : Store) (known : Option ObjectId) (kind : Kind) (bytes : List ℕ) (before after : Option State) (faults now : ℕ) (id : ObjectId) where
  pub reads_back : IsWrite store kind bytes known (seen before after faults now Made) (Ok id) → (s : State) → before ≡ Some s
      → (early : Option State) × (number : ℕ) × ReadsBack (write_head store kind (length bytes)) number id bytes early after
  reads_back run s told =
      let writes = run.wrote id refl in
      let early = left_by before writes.moved.before in
      let back : ReadsBack (write_head store kind (length bytes)) writes.number id writes.bytes early after =
      at_told before (λ _. ReadsBack (write_head store kind (length bytes)) writes.number id writes.bytes early after) s told writes.read_back in
      (early, writes.number, subst (λ (all : List ℕ). ReadsBack (write_head store kind (length bytes)) writes.number id all early after) (sym writes.whole) back)

-- What was found in the first store, these bytes, was written into the second one.
module _ (from to : Store) (id : ObjectId) (before middle after : Option State) (faults then now : ℕ) (kept : middle ≡ before) (since : faults ≤ then)
    (found : Result (Option Kind) FindError) (kind : Kind) (bytes gave : List ℕ) (finds : IfSome before (λ s. Finds from id s (Rose faults then) (put_in found gave)))
    (is : found ≡ Ok (Some kind)) (whole : bytes ≡ gave) (Made AreCalls : List Exchange → Type 0) (wider : (exchanges : List Exchange) → Made exchanges → AreCalls exchanges) where
  finds_in : (s : State) → before ≡ Some s → Finds from id s (Rose faults then) (put_in (Ok (Some kind)) bytes)
  finds_in s told =
      subst (λ (all : List ℕ). Finds from id s (Rose faults then) (put_in (Ok (Some kind)) all)) (sym whole)
      (subst (λ (r : Result (Option Kind) FindError). Finds from id s (Rose faults then) (put_in r gave)) is
      (at_told before (λ x. Finds from id x (Rose faults then) (put_in found gave)) s told finds))

  -- an object was copied, or the write was refused
  pub copy_made : (answer : Result ObjectId Error) → IsWrite to kind bytes (Some id) (seen middle after then now Made) answer → IsCopy from to id (seen before after faults now AreCalls) answer
  copy_made answer run =
      record {
        kind = kind;
        bytes = bytes;
        held = if_told before (λ s. IsHeld from id s kind bytes) (λ s told. held from id s (Rose faults then) kind bytes (Ok (Some kind)) (finds_in s told) refl);
        written = runs_between Made AreCalls wider to kind (length bytes) (Some id) (AtHand bytes) answer before middle after after (sym kept) refl faults then now now since (omega arith) run;
      }

  module _ (answered : ObjectId) (named : answered ≡ id) (run : IsWrite to kind bytes (Some id) (seen middle after then now Made) (Ok answered)) where
    pub copied : IsCopy from to id (seen before after faults now AreCalls) (Ok id)
    copied = subst (λ (x : ObjectId). IsCopy from to id (seen before after faults now AreCalls) (Ok x)) named (copy_made (Ok answered) run)

    -- an object that was copied can be read in the second store
    pub can_be_read : (s : State) → before ≡ Some s → CanBeRead from to id s after true
    can_be_read s told other all is_held =
        let same = same_found from id s (Rose faults then) other all (Some kind) bytes (finds_in s told) is_held in
        let kind_is : kind ≡ other = same_Some kind other same.0 in
        let write = subst (λ (x : ObjectId). IsWrite to kind bytes (Some id) (seen middle after then now Made) (Ok x)) named run in
        subst (λ (k : Kind). (early : Option State) × (number : ℕ) × ReadsBack (write_head to k (length all)) number id all early after) kind_is
        (subst (λ (read : List ℕ). (early : Option State) × (number : ℕ) × ReadsBack (write_head to kind (length read)) number id read early after) same.1
        (reads_back Made to (Some id) kind bytes middle after then now id write s (kept ∙ told)))
