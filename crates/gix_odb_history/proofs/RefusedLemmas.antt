-- A call that makes something is refused by a failure, or by its way.
use Rattle.std.proofs.Common.{◌≡◌, ◌≢◌, ℕ, Bool, true, false, List, take, Ok, Err, Result, refl, sym, ap, ◌∙◌, subst, inl, inr}
use Rattle.std.specs.Prelude.{if◌then◌else◌}
use Rattle.odb_disk.specs.Ask.{answer_of, fails_now, write_answer}
use Rattle.odb_disk.specs.MemDisk.{Volume}
use Rattle.odb_disk.specs.Tree.{Tree, tree_of}
use Rattle.odb_disk.specs.Tree.Write as writing
use Rattle.odb_disk.specs.Tree.Write.{change_of_append, change_of_make_dir, change_of_new_file, change_of_rename}
use Rattle.odb_disk.specs.declared.ask.DiskAnswer.{DiskAnswer}
use Rattle.odb_disk.specs.declared.ask.DiskAnswer.TheVariants as answers
use Rattle.odb_disk.specs.declared.ask.DiskAsk.{DiskAsk}
use Rattle.odb_disk.specs.declared.ask.DiskAsk.TheVariants as asks
use Rattle.odb_disk.specs.declared.change.Change.{Change}
use Rattle.odb_disk.specs.declared.disk_error.DiskError.{DiskError}
use Rattle.odb_disk.specs.declared.disk_error.DiskError.TheVariants as disk_errors
use Rattle.odb_disk.proofs.RefusalLaws.{append-never, full, make_dir-never, new_file-never, rename-never, there}
use Rattle.gix_odb_loose.proofs.CauseLaws.Write.{IsMaking}
use Rattle.gix_odb_loose.specs.WriteHistory.Refused.{IsRefused}
use Rattle.gix_odb_loose.specs.WriteRuns.RefusedAsks.{IsOnWay}
use Rattle.gix_odb_history.specs.Event.{OfDisk, Event}
use Rattle.gix_odb_history.specs.Run.{Fails, disk_after}
use Rattle.gix_odb_history.specs.Writing.{AskedSince, RefusedSince}
use Rattle.gix_odb_history.proofs.FailedLemmas.{answer_by_tree}
use Rattle.gix_odb_history.proofs.WriteAsk.{Told, told_append, told_make_dir, told_new_file, told_rename}

module _ (first : Volume) (events : List Event) (handle begun : ℕ) (ask : DiskAsk) (answer : DiskAnswer) (asked : AskedSince first events handle begun ask answer)
    (refused : IsRefused ask answer) where
  abbrev disk : Volume
  disk = disk_after first (take asked.place events)

  abbrev tree : Tree
  tree = tree_of disk.state

  by_error : (error : DiskError) → IsOnWay error → answer ≡ answers.Refused error → RefusedSince first events handle begun ask
  by_error error on is = inr (error, on, subst (AskedSince first events handle begun ask) is asked)

  module _ (told : Result Change writing.Refusal) (tells : Told tree ask told) (unfilled : told ≢ Err writing.NotEmpty)
      (untaken : told ≡ Err writing.Exists → IsRefused ask (answers.Refused disk_errors.Exists) → ⊥) where
    by_told : (t : Result Change writing.Refusal) → told ≡ t → answer ≡ write_answer t → RefusedSince first events handle begun ask
    by_told (Ok change) is e = absurd (subst (IsRefused ask) e refused)
    by_told (Err writing.Absent) is e = by_error disk_errors.Absent tt e
    by_told (Err writing.WrongKind) is e = by_error disk_errors.WrongKind tt e
    by_told (Err writing.LinkLoop) is e = by_error disk_errors.LinkLoop tt e
    by_told (Err writing.Exists) is e = absurd (untaken is (subst (IsRefused ask) e refused))
    by_told (Err writing.NotEmpty) is e = absurd (unfilled is)

    by_failing : (fails : Bool) → fails_now disk ask ≡ fails → answer ≡ (if fails then answers.Refused disk_errors.Failed else answer_of tree ask)
        → RefusedSince first events handle begun ask
    by_failing true fails e =
        inl (record {
          asked = record {
            place = asked.place;
            later = asked.later;
            at = record { event = asked.at.event; there = asked.at.there; turn = asked.at.turn; did = asked.at.did; asked = asked.at.asked ∙ ap (OfDisk ask) e; given = sym e ∙ asked.at.given };
          };
          failed = subst Fails (sym asked.at.did.1) fails;
        })
    by_failing false fails e = by_told told refl (e ∙ tells.answer)

    pub refused_so : RefusedSince first events handle begun ask
    refused_so = by_failing (fails_now disk ask) refl (asked.at.given ∙ answer_by_tree disk ask tells.still)

pub refused_on_way : (first : Volume) (events : List Event) (handle begun : ℕ) (ask : DiskAsk) → IsMaking ask → (answer : DiskAnswer)
    → AskedSince first events handle begun ask answer → IsRefused ask answer → RefusedSince first events handle begun ask
refused_on_way first events handle begun (asks.NewFile path) making answer asked refused =
    let t : Tree = tree_of (disk_after first (take asked.place events)).state in
    refused_so first events handle begun (asks.NewFile path) answer asked refused (change_of_new_file t path) (told_new_file t path) (new_file-never t path) (λ is r. r)
refused_on_way first events handle begun (asks.MakeDir path) making answer asked refused =
    let t : Tree = tree_of (disk_after first (take asked.place events)).state in
    refused_so first events handle begun (asks.MakeDir path) answer asked refused (change_of_make_dir t path) (told_make_dir t path) (make_dir-never t path) (λ is r. r)
refused_on_way first events handle begun (asks.Append path bytes) making answer asked refused =
    let t : Tree = tree_of (disk_after first (take asked.place events)).state in
    refused_so first events handle begun (asks.Append path bytes) answer asked refused (change_of_append t path bytes) (told_append t path bytes)
    (append-never writing.NotEmpty full t path bytes) (λ is r. append-never writing.Exists there t path bytes is)
refused_on_way first events handle begun (asks.Rename from to) making answer asked refused =
    let t : Tree = tree_of (disk_after first (take asked.place events)).state in
    refused_so first events handle begun (asks.Rename from to) answer asked refused (change_of_rename t from to) (told_rename t from to)
    (rename-never writing.NotEmpty full t from to) (λ is r. rename-never writing.Exists there t from to is)
refused_on_way first events handle begun (asks.Look path follow) making answer asked refused = absurd making
refused_on_way first events handle begun (asks.Read path) making answer asked refused = absurd making
refused_on_way first events handle begun (asks.OpenDir path) making answer asked refused = absurd making
refused_on_way first events handle begun (asks.NextEntry dir) making answer asked refused = absurd making
refused_on_way first events handle begun (asks.CloseDir dir) making answer asked refused = absurd making
refused_on_way first events handle begun (asks.Remove path) making answer asked refused = absurd making
