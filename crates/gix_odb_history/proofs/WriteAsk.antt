-- The answer to a call of the disk that writes, and the change that it made.
pub mod Quiet
use Rattle.std.proofs.Common.{◌≡◌, ◌≢◌, ℕ, Bool, true, false, List, Option, Some, None, Result, Ok, Err, refl, sym, ap, ◌∙◌, subst}
use Rattle.std.specs.Prelude.{if◌then◌else◌}
use Rattle.std.specs.Result.{result_ok}
use Rattle.odb_base.specs.Path.{Path}
use Rattle.odb_disk.specs.Ask.{answer_now, answer_of, change_of_ask, fails_now, write_answer}
use Rattle.odb_disk.specs.StreamAsks.{is_of_streams}
use Rattle.odb_disk.specs.MemDisk.{Volume}
use Rattle.odb_disk.specs.Tree.{Tree, tree_of}
use Rattle.odb_disk.specs.Tree.Write as writing
use Rattle.odb_disk.specs.Tree.Write.{change_of_append, change_of_make_dir, change_of_new_file, change_of_remove, change_of_rename}
use Rattle.odb_disk.specs.declared.ask.DiskAnswer.{DiskAnswer}
use Rattle.odb_disk.specs.declared.ask.DiskAnswer.TheVariants as answers
use Rattle.odb_disk.specs.declared.ask.DiskAsk.{DiskAsk}
use Rattle.odb_disk.specs.declared.ask.DiskAsk.TheVariants as asks
use Rattle.odb_disk.specs.declared.change.Change.{Change}
use Rattle.odb_disk.specs.declared.disk_error.DiskError.TheVariants as disk_errors
use Rattle.gix_odb_history.specs.Run.{change_by}
use Rattle.gix_odb_history.proofs.FailedLemmas.{answer_by_tree}

-- ---- a call that writes

-- the answer to a call and its change follow from the tree
pub record Told (tree : Tree) (ask : DiskAsk) (told : Result Change writing.Refusal) : Type 0 where
  pub still : is_of_streams ask ≡ false
  pub answer : answer_of tree ask ≡ write_answer told
  pub change : change_of_ask tree ask ≡ result_ok told

pub told_new_file : (tree : Tree) (path : Path) → Told tree (asks.NewFile path) (change_of_new_file tree path)
unfolding answer_of change_of_ask
told_new_file tree path = record { still = refl; answer = refl; change = refl }

pub told_append : (tree : Tree) (path : Path) (bytes : List ℕ) → Told tree (asks.Append path bytes) (change_of_append tree path bytes)
unfolding answer_of change_of_ask
told_append tree path bytes = record { still = refl; answer = refl; change = refl }

pub told_make_dir : (tree : Tree) (path : Path) → Told tree (asks.MakeDir path) (change_of_make_dir tree path)
unfolding answer_of change_of_ask
told_make_dir tree path = record { still = refl; answer = refl; change = refl }

pub told_rename : (tree : Tree) (from to : Path) → Told tree (asks.Rename from to) (change_of_rename tree from to)
unfolding answer_of change_of_ask
told_rename tree from to = record { still = refl; answer = refl; change = refl }

pub told_remove : (tree : Tree) (path : Path) → Told tree (asks.Remove path) (change_of_remove tree path)
unfolding answer_of change_of_ask
told_remove tree path = record { still = refl; answer = refl; change = refl }

-- the call made the change that follows from the tree
pub record Made (disk : Volume) (ask : DiskAsk) (told : Result Change writing.Refusal) : Type 0 where
  pub change : Change
  pub is : told ≡ Ok change
  pub made : change_by disk ask ≡ Some change

module _ (disk : Volume) (ask : DiskAsk) (told : Result Change writing.Refusal) (tells : Told (tree_of disk.state) ask told) where
  abbrev by : Bool → Option Change
  by fails = if fails then None else change_of_ask (tree_of disk.state) ask

  abbrev answered : Bool → DiskAnswer
  answered fails = if fails then answers.Refused disk_errors.Failed else answer_of (tree_of disk.state) ask

  done_is : (told' : Result Change writing.Refusal) → answers.Done ≡ write_answer told' → (change : Change) × (told' ≡ Ok change)
  done_is (Ok change) e = (change, refl)
  done_is (Err refusal) e = absurd (cc e)

  -- a call that was done made this change
  pub done_made : answers.Done ≡ answer_now disk ask → Made disk ask told
  done_made given = by_failing (fails_now disk ask) refl (given ∙ answer_by_tree disk ask tells.still)
    where
      by_failing : (fails : Bool) → fails_now disk ask ≡ fails → answers.Done ≡ answered fails → Made disk ask told
      by_failing true fails e = absurd (cc e)
      by_failing false fails e =
          let d = done_is told (e ∙ tells.answer) in
          record { change = d.0; is = d.1; made = ap by fails ∙ (tells.change ∙ ap (λ (r : Result Change writing.Refusal). result_ok r) d.1) }

  -- one that wasn't made none
  pub undone_made : answers.Done ≢ answer_now disk ask → change_by disk ask ≡ None
  undone_made other = by_failing (fails_now disk ask) refl (λ e. other (e ∙ sym (answer_by_tree disk ask tells.still)))
    where
      by_told : (told' : Result Change writing.Refusal) → answers.Done ≢ write_answer told' → result_ok told' ≡ None
      by_told (Ok change) undone = absurd (undone refl)
      by_told (Err refusal) undone = refl

      by_failing : (fails : Bool) → fails_now disk ask ≡ fails → answers.Done ≢ answered fails → by fails ≡ None
      by_failing true fails undone = refl
      by_failing false fails undone = tells.change ∙ by_told told (λ e. undone (e ∙ sym tells.answer))

  -- a property of the change that follows from the tree holds of the one that was made
  pub change_by-all : (P : Option Change → Type 0) → P None → ((change : Change) → told ≡ Ok change → P (Some change)) → P (change_by disk ask)
  change_by-all P none some = by_failing (fails_now disk ask)
    where
      by_told : (told' : Result Change writing.Refusal) → told ≡ told' → P (result_ok told')
      by_told (Ok change) is = some change is
      by_told (Err refusal) is = none

      by_failing : (fails : Bool) → P (by fails)
      by_failing true = none
      by_failing false = subst P (sym tells.change) (by_told told refl)

-- ---- a call that changed something was done

told_done : (told : Result Change writing.Refusal) (change : Change) → result_ok told ≡ Some change → write_answer told ≡ answers.Done
told_done (Ok made) change is = refl
told_done (Err refusal) change is = absurd (cc)

changed_done : (tree : Tree) (ask : DiskAsk) (change : Change) → change_of_ask tree ask ≡ Some change → answer_of tree ask ≡ answers.Done
unfolding answer_of change_of_ask
changed_done tree (asks.Look path follow) change is = absurd (cc)
changed_done tree (asks.Read path) change is = absurd (cc)
changed_done tree (asks.OpenDir path) change is = absurd (cc)
changed_done tree (asks.NextEntry dir) change is = absurd (cc)
changed_done tree (asks.CloseDir dir) change is = absurd (cc)
changed_done tree (asks.MakeDir path) change is = told_done (change_of_make_dir tree path) change is
changed_done tree (asks.NewFile path) change is = told_done (change_of_new_file tree path) change is
changed_done tree (asks.Append path bytes) change is = told_done (change_of_append tree path bytes) change is
changed_done tree (asks.Rename from to) change is = told_done (change_of_rename tree from to) change is
changed_done tree (asks.Remove path) change is = told_done (change_of_remove tree path) change is

changed_still : (tree : Tree) (ask : DiskAsk) (change : Change) → change_of_ask tree ask ≡ Some change → is_of_streams ask ≡ false
unfolding change_of_ask
changed_still tree (asks.OpenDir path) change is = absurd (cc)
changed_still tree (asks.NextEntry dir) change is = absurd (cc)
changed_still tree (asks.CloseDir dir) change is = absurd (cc)
changed_still tree (asks.Look path follow) change is = refl
changed_still tree (asks.Read path) change is = refl
changed_still tree (asks.MakeDir path) change is = refl
changed_still tree (asks.NewFile path) change is = refl
changed_still tree (asks.Append path bytes) change is = refl
changed_still tree (asks.Rename from to) change is = refl
changed_still tree (asks.Remove path) change is = refl

pub made_done : (disk : Volume) (ask : DiskAsk) (change : Change) → change_by disk ask ≡ Some change → answer_now disk ask ≡ answers.Done
made_done disk ask change is = answer_by_tree disk ask (changed_still (tree_of disk.state) ask change (told_change (fails_now disk ask) is)) ∙ by_failing (fails_now disk ask) is
  where
    told_change : (fails : Bool) → (if fails then None else change_of_ask (tree_of disk.state) ask) ≡ Some change
        → change_of_ask (tree_of disk.state) ask ≡ Some change
    told_change true e = absurd (cc e)
    told_change false e = e

    by_failing : (fails : Bool) → (if fails then None else change_of_ask (tree_of disk.state) ask) ≡ Some change
        → (if fails then answers.Refused disk_errors.Failed else answer_of (tree_of disk.state) ask) ≡ answers.Done
    by_failing true e = absurd (cc e)
    by_failing false e = changed_done (tree_of disk.state) ask change e
