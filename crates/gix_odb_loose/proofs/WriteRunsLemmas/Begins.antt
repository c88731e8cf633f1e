-- The start of a write: on a disk and from a source, and as a new job.
use Rattle.std.specs.Prelude.{◌≡◌, ℕ, false, List, [], Option, Result, Ok, Err, IfOk}
use Rattle.std.proofs.Common.{ap, ◌∙◌, subst}
use Rattle.odb_disk.specs.Tree.{State}
use Rattle.odb_disk.specs.declared.ask.DiskAsk.TheVariants as asks
use Rattle.gix_hash.specs.declared.kind.Kind.{Kind as HashKind}
use Rattle.gix_hash.specs.declared.object_id.ObjectId.{ObjectId}
use Rattle.gix_odb_loose.specs.WriteOrder.{temp_path}
use Rattle.gix_odb_loose.specs.StreamJobs.Progress.{begun_in, Begun}
use Rattle.gix_odb_loose.specs.StreamJobs.AtStage.{IsNew}
use Rattle.gix_odb_loose.specs.StreamJobs.{IsUnderway}
use Rattle.gix_odb_loose.specs.declared.write_order.WriteHead.{WriteHead}
use Rattle.gix_odb_loose.specs.declared.write_order.WriteStage.TheVariants as stages
use Rattle.gix_odb_loose.proofs.StreamJobsLemmas.Ends.{stands_first}
use Rattle.gix_odb_loose.specs.WriteNames.{Names}
use Rattle.gix_odb_loose.specs.declared.write_streamed.StreamJob.{StreamJob}
use Rattle.gix_odb_loose.specs.declared.store.Store.{Store}
use Rattle.gix_object.specs.declared.kind.Kind.{Kind}

-- a write into a store at its start, on a disk and from a source
abbrev pub begun_on : {S D : Type 0} → Store → Kind → ℕ → Option ObjectId → (left : S → Option (List ℕ)) (failures : S → ℕ) → S → (state : D → Option State) (faults : D → ℕ) → D → Begun
begun_on store kind size known left failures source state faults disk = begun_in store kind size known (left source) (failures source) (state disk) (faults disk)

-- a new job is underway, and has asked nothing
pub new_underway : (w : Begun) (job : StreamJob) → IsNew w.head w.hash w.known job → IsUnderway w w.state w.faults [] w.left w.source_faults job
new_underway w job new = stands_first w job new.about new.stage new.has_ended new.naming new.removal

-- a job made in this way is new
pub new_in : {E : Type 0} (head made : WriteHead) (hash taken : HashKind) (known : Option ObjectId) (result : Result StreamJob E) → made ≡ head → taken ≡ hash → IfOk result (λ job. job.head ≡ made)
    → IfOk result (λ job. job.stage ≡ stages.Making 0)
    → IfOk result (λ job. job.has_ended ≡ false) → IfOk result (λ job. Names known taken made [] job.naming) → IfOk result (λ job. job.removal ≡ asks.Remove (temp_path made.objects 0))
    → IfOk result (IsNew head hash known)
new_in head made hash taken known (Err error) same hash_is heads stage ended naming removal = tt
new_in head made hash taken known (Ok job) same hash_is heads stage ended naming removal =
    record {
      about = heads ∙ same;
      stage = stage;
      has_ended = ended;
      naming = subst (λ (h : HashKind). Names known h head [] job.naming) hash_is (subst (λ (h : WriteHead). Names known taken h [] job.naming) same naming);
      removal = removal ∙ ap (λ (h : WriteHead). asks.Remove (temp_path h.objects 0)) same;
    }
