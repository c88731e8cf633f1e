-- From the run of a write to the clauses of each call.
use Rattle.std.specs.Prelude.{◌≡◌, ⊤, ℕ, List, [], ◌++◌, length, drop, Option, Some, None, Result, Ok, Err, IfOk, IfSome, is_err, false, refl}
use Rattle.std.proofs.Common.{inl, inr, sym, ap, ◌∙◌, subst, arith}
use Rattle.std.proofs.Math.Seq.{drop-append_seam}
use Rattle.odb_base.specs.Faults.{Rose}
use Rattle.gix_hash.specs.Hash.{hash_of}
use Rattle.gix_hash.specs.ObjectId.{kind_of}
use Rattle.gix_hash.specs.declared.kind.Kind.{Kind as HashKind}
use Rattle.gix_hash.specs.declared.object_id.ObjectId.{ObjectId}
use Rattle.gix_object.specs.Id.{object_id}
use Rattle.gix_object.proofs.IdLaws.{kind_of-object_id}
use Rattle.gix_object.specs.Loose.{header_of}
use Rattle.gix_object.specs.Stream.{IsDrawn, IsWhole, stream_of}
use Rattle.gix_object.specs.Stream as streams
use Rattle.gix_odb_loose.proofs.CauseLaws.Write.{WriteCause-wider}
use Rattle.gix_odb_loose.specs.WriteNames.{name_for}
use Rattle.gix_odb_loose.specs.Exchanges.{Exchange}
use Rattle.gix_odb_loose.specs.WriteAsks.{write_of, RunsAlong}
use Rattle.gix_odb_loose.specs.WriteHistory.Refused.{DoneIn}
use Rattle.gix_odb_loose.specs.WriteHistory.{IsStopped, IsHistory}
use Rattle.gix_odb_loose.specs.WriteRuns.RefusedAsks.{Refuses, FoundThere}
use Rattle.gix_odb_loose.specs.WriteRuns.{IsRefusedWrite, NamedFrom, Content, AtHand, Streamed, bytes_told, DiskSeen, HasNotFailed, Write, WriteRuns, write_head}
use Rattle.gix_odb_loose.specs.WriteStreams.{Draws, IsAtEnd, OtherLength, TakesFrom}
use Rattle.gix_odb_loose.specs.declared.store.Store.{Store}
use Rattle.gix_odb_loose.specs.declared.write.Error.{Error}
use Rattle.gix_object.specs.declared.kind.Kind.{Kind}
use Rattle.gix_odb_loose.specs.declared.write.Message.TheVariants as messages
use Rattle.gix_odb_loose.specs.declared.write_order.Refusal.{Refusal}
use Rattle.gix_odb_loose.specs.declared.write_order.Refusal.TheVariants as refusals
use Rattle.gix_odb_loose.specs.declared.write_order.WriteHead.{WriteHead}
use Rattle.gix_odb_loose.specs.declared.write_order.WriteStage.{WriteStage}
use Rattle.gix_odb_loose.specs.declared.write_order.WriteStage.TheVariants as stages
use Rattle.gix_odb_loose.specs.declared.write_at_hand.WriteJob.{WriteJob}

pub if_ok : {A E : Type 0} (P : A → Type 0) (result : Result A E) → ((x : A) → result ≡ Ok x → P x) → IfOk result P
if_ok P (Ok x) h = h x refl
if_ok P (Err error) h = tt

-- the name of an object by its own data
object_named : (hash : HashKind) (head : WriteHead) (bytes : List ℕ) → length bytes ≡ head.size → name_for None hash head bytes ≡ object_id hash head.kind bytes
unfolding object_id
object_named hash head bytes size = ap (λ (n : ℕ). hash_of hash (header_of head.kind n ++ bytes)) (sym size)

-- a source that never fails stops no write
module _ (head : WriteHead) (Named : ObjectId → Type 0) (Counted : ℕ → Type 0) (SourceFailed : Type 0) (none : SourceFailed → ⊥) where
  unfailing_stop : (number : ℕ) (refusal : Refusal) (past : List Exchange) → IsStopped head Named SourceFailed Counted number refusal past → IsStopped head Named ⊥ Counted number refusal past
  unfailing_stop number (refusals.Io messages.CreateTempFile) past h = h
  unfailing_stop number (refusals.Io messages.WriteHeader) past h = h
  unfailing_stop number (refusals.Io messages.StreamData) past h = elim h [ inl failed ↦ absurd (none failed.0) | inr one ↦ inr one ]
  unfailing_stop number refusals.IoRaw past h = h
  unfailing_stop number (refusals.Persist id) past h = h
  unfailing_stop number (refusals.SizeMismatch actual) past h = h
  unfailing_stop number refusals.NoMemory past h = h

  unfailing_history : (appended : List ℕ) (stage : WriteStage) (past : List Exchange) → IsHistory head Named SourceFailed Counted appended stage past
      → IsHistory head Named ⊥ Counted appended stage past
  unfailing_history appended (stages.Making number) past h = h
  unfailing_history appended (stages.Heading number) past h = h
  unfailing_history appended (stages.Filling number written) past h = h
  unfailing_history appended (stages.Foldering number id) past h = h
  unfailing_history appended (stages.Moving number id) past h = h
  unfailing_history appended (stages.Removing number refusal) past h = unfailing_stop number refusal past h

  unfailing_write : (past : List Exchange) (error : Error) → IsRefusedWrite head Named SourceFailed Counted past error → IsRefusedWrite head Named ⊥ Counted past error
  unfailing_write past error h =
      elim h [
        | inl run ↦ inl (run.0, elim run.1 [ inl unmade ↦ inl unmade | inr one ↦ inr (one.0, one.1, unfailing_stop one.0 run.0 one.1 one.2, one.3) ], run.2)
        | inr broken ↦
            inr (
              record {
                stage = broken.0.stage;
                appended = broken.0.appended;
                before = broken.0.before;
                history = unfailing_history broken.0.appended broken.0.stage broken.0.before broken.0.history;
                removed = broken.0.removed;
              },
              broken.1,
            )
      ]

-- a write by what it was given and left
abbrev pub write_by : WriteHead → HashKind → Option ObjectId → Content → DiskSeen → Result ObjectId Error → Write
write_by head hash known content disk result = record { head = head; hash = hash; known = known; content = content; disk = disk; answer = result }

module _ (head : WriteHead) (hash : HashKind) (content : Content) (disk : DiskSeen) (result : Result ObjectId Error) where
  abbrev Runs : Option ObjectId → Type 0
  Runs known = WriteRuns (write_by head hash known content disk result)

  module _ (run : Runs None) where
    by_data : (id : ObjectId) → result ≡ Ok id → (bytes : List ℕ) × (id ≡ object_id hash head.kind bytes) × IfSome (bytes_told content) (λ all. all ≡ bytes)
    by_data id is = let writes = run.wrote id is in (writes.bytes, writes.name ∙ object_named hash head writes.bytes writes.size, writes.whole)

    of_source : (source : Option (List ℕ)) (bytes : List ℕ) (id : ObjectId) → IfSome source (λ all. all ≡ bytes) → id ≡ object_id hash head.kind bytes
        → IfSome source (λ all. id ≡ object_id hash head.kind all)
    of_source None bytes id whole named = tt
    of_source (Some all) bytes id whole named = named ∙ ap (object_id hash head.kind) (sym whole)

    -- the id is that of the data
    pub wrote_id : IfOk result (λ id. IfSome (bytes_told content) (λ bytes. id ≡ object_id hash head.kind bytes))
    wrote_id = if_ok (λ id. IfSome (bytes_told content) (λ bytes. id ≡ object_id hash head.kind bytes)) result (λ id is. let by = by_data id is in of_source (bytes_told content) by.0 id by.2 by.1)

    pub wrote_kind : IfOk result (λ id. kind_of id ≡ hash)
    wrote_kind = if_ok (λ id. kind_of id ≡ hash) result (λ id is. let by = by_data id is in ap kind_of by.1 ∙ kind_of-object_id hash head.kind by.0)

  -- or the known one
  pub wrote_known : (known : ObjectId) → Runs (Some known) → IfOk result (λ id. id ≡ known)
  wrote_known known run = if_ok (λ id. id ≡ known) result (λ id is. (run.wrote id is).name)

  -- the length of the source is the size, and it is at its end
  pub wrote_whole : (known : Option ObjectId) (rest : Option (List ℕ)) (faults faults_now : ℕ) → Runs known → TakesFrom head.size (bytes_told content) rest faults faults_now
      → IfOk result (λ _. IsAtEnd rest)
      → IfOk result (λ _. IsWhole head.size (bytes_told content) rest)
  wrote_whole known rest faults faults_now run takes ended = by_result result refl ended
    where
      whole : (source : Option (List ℕ)) (bytes : List ℕ) → IfSome source (λ all. all ≡ bytes) → length bytes ≡ head.size → IfSome source (λ all. length all ≡ head.size)
      whole None bytes w size = tt
      whole (Some all) bytes w size = ap length w ∙ size

      at_end : (source rest : Option (List ℕ)) (all : List ℕ) → Draws source rest all → IsAtEnd rest → IfSome source (λ _. rest ≡ Some [])
      at_end None rest all d e = tt
      at_end (Some left) None all d e = absurd d
      at_end (Some left) (Some rest) all d e = ap (λ (xs : List ℕ). Some xs) e

      by_result : (r : Result ObjectId Error) → result ≡ r → IfOk r (λ _. IsAtEnd rest) → IfOk r (λ _. IsWhole head.size (bytes_told content) rest)
      by_result (Ok id) is e =
          let writes = run.wrote id is in record { size_is = whole (bytes_told content) writes.bytes writes.whole writes.size; at_end = at_end (bytes_told content) rest takes.all takes.drawn e }
      by_result (Err error) is e = tt

  -- the count of the source is unchanged
  pub wrote_spared : (known : Option ObjectId) → Runs known → IfOk result (λ _. HasNotFailed content)
  wrote_spared known run =
      if_ok (λ _. HasNotFailed content) result (λ id is.
      elim run.spared [
        | inl spared ↦ spared
        | inr failed ↦
            absurd (elim failed.1 [ inl io ↦ (let both = sym is ∙ io in cc both) | inr want ↦ (let both = sym is ∙ want in cc both) ])
      ])

-- a source of bytes that never fails is as good as these bytes in memory
module _ (head : WriteHead) (hash : HashKind) (known : Option ObjectId) (lent bytes : List ℕ) (disk : DiskSeen) (result : Result ObjectId Error) where
  unfailing : Rose 0 0 → ⊥
  unfailing rose = absurd (omega (arith, rose))

  unfailing_asks : (job : WriteJob) (past : List Exchange) → RunsAlong job (Rose 0 0) past result → RunsAlong job ⊥ past result
  unfailing_asks job past h = elim h [ inl ended ↦ inl ended | inr cut ↦ inr (cut.0, elim cut.1 [ inl failed ↦ absurd (unfailing failed.0) | inr no_memory ↦ inr no_memory ]) ]

  unfailing_runs : WriteRuns (write_by head hash known (Streamed (Some lent) 0 0) disk result) → WriteRuns (write_by head hash known (AtHand lent) disk result)
  unfailing_runs run =
      record {
        exchanges = run.exchanges;
        made = run.made;
        given = run.given;
        left = run.left;
        own = run.own;
        asks = λ all told. unfailing_asks (write_of head hash known all) run.exchanges (run.asks all told);
        spared = inl tt;
        wrote = run.wrote;
        stopped = λ error is. unfailing_write head (NamedFrom head hash known (Some lent)) (OtherLength (Some lent) head.size) (Rose 0 0) unfailing run.exchanges error (run.stopped error is);
        unnamed = run.unnamed;
        cleared = run.cleared;
        untouched = run.untouched;
        refused =
            λ error is.
            WriteCause-wider head (Refuses disk.state (Rose disk.faults disk.faults_now) run.exchanges) (Refuses disk.state (Rose disk.faults disk.faults_now) run.exchanges) (FoundThere run.exchanges) (FoundThere run.exchanges)
            (DoneIn run.exchanges) (DoneIn run.exchanges) (λ ask m r. r) (λ ask t. t) (λ ask d. d)
            (Rose 0 0) ⊥ unfailing (NamedFrom head hash known (Some lent)) (NamedFrom head hash known (Some lent)) (λ id n. n) ⊤ ⊤ (λ m. m) (OtherLength (Some lent) head.size)
            (OtherLength (Some lent) head.size) (λ n k. k) error (run.refused error is);
      }

  pub runs_at_hand : lent ≡ bytes → WriteRuns (write_by head hash known (Streamed (Some lent) 0 0) disk result)
      → WriteRuns (write_by head hash known (AtHand bytes) disk result)
  runs_at_hand same run = subst (λ (xs : List ℕ). WriteRuns (write_by head hash known (AtHand xs) disk result)) same (unfailing_runs run)

-- an object's own kind and data
pub runs_of_object : (store : Store) (hash : HashKind) (known : Option ObjectId) (kind own : Kind) (bytes held : List ℕ) (disk : DiskSeen) (result : Result ObjectId Error)
    → kind ≡ own → bytes ≡ held
    → WriteRuns (write_by (write_head store kind (length bytes)) hash known (AtHand bytes) disk result)
    → WriteRuns (write_by (write_head store own (length held)) hash known (AtHand held) disk result)
runs_of_object store hash known kind own bytes held disk result kind_is held_is run =
    subst (λ (xs : List ℕ). WriteRuns (write_by (write_head store own (length xs)) hash known (AtHand xs) disk result)) held_is
    (subst (λ (k : Kind). WriteRuns (write_by (write_head store k (length bytes)) hash known (AtHand bytes) disk result)) kind_is run)

-- what is taken from the front
pub drawn_from : (size faults now : ℕ) (left rest : Option (List ℕ)) → TakesFrom size left rest faults now → IsDrawn (stream_of left faults rest now)
drawn_from size faults now left rest takes = record { taken = front left rest takes.all takes.drawn; later = takes.later }
  where
    front : (left rest : Option (List ℕ)) (all : List ℕ) → Draws left rest all → streams.Takes left rest
    front None rest all d = d
    front (Some left) None all d = absurd d
    front (Some left) (Some rest) all d = (length all, ap (λ (xs : List ℕ). Some xs) (sym (ap (drop (length all)) (sym d) ∙ drop-append_seam all rest)))

-- what an object put into an empty sink
pub put_all : {T E : Type 0} (bytes held now : List ℕ) (result : Result T E) → streams.Puts bytes (Some held) (Some now) result → is_err result ≡ false → held ≡ [] → now ≡ bytes
put_all bytes held now (Ok x) puts ok none = let same : now ≡ held ++ bytes = cc puts in same ∙ ap (λ (h : List ℕ). h ++ bytes) none
put_all bytes held now (Err error) puts ok none = absurd (cc ok)
