-- A call that writes on a disk in memory: the disk answers what its tree says, and its tree makes the change.
use Rattle.std.proofs.Common.{◌≡◌, ◌≢◌, false, Option, Some, None, Result, Ok, Err, OnOk, OnErr, refl, sym, ap, ◌∙◌, subst}
use Rattle.std.specs.Result.{result_ok}
use Rattle.std.proofs.lemmas.Bool.{false≢true}
use Rattle.std.proofs.lemmas.Result.{on_ok_weaker, on_err_weaker}
use Rattle.odb_disk.specs.Tree.{Tree, IsTree, tree_of, state_of}
use Rattle.odb_disk.specs.Tree.Change.{changed}
use Rattle.odb_disk.specs.Tree.Write.{Refusal, done, written, after_write, changed_by}
use Rattle.odb_disk.specs.Answers.{AnswersWrite, Tells}
use Rattle.odb_disk.specs.declared.change.Change.{Change}
use Rattle.odb_disk.specs.declared.disk_error.DiskError.{DiskError}
use Rattle.odb_disk.specs.declared.disk_error.DiskError.TheVariants as errors
use Rattle.odb_disk.proofs.TreeLemmas.{tree_of-state_of}
use Rattle.odb_disk.specs.Ask.{change_of_ask, fails_now, after_count, TakesLeast, IsCounted}
use Rattle.odb_base.specs.Calls.{Calls}
use Rattle.odb_disk.specs.MemDisk.{Volume}
use Rattle.odb_disk.specs.Streams.{Streams}
use Rattle.odb_disk.specs.Told.{told_write}
use Rattle.odb_disk.specs.declared.ask.DiskAsk.{DiskAsk}
use Rattle.odb_disk.specs.declared.ask.DiskAnswer.TheVariants as answers
use Rattle.odb_disk.proofs.AskedLaws.{IsTree-asked}
use Rattle.odb_disk.proofs.AskLemmas.Carried.{AsksFor}
use Rattle.odb_disk.proofs.AskLemmas.InMemory.{after_count-state}

-- what a tree says is an answer of a disk, and no failure
Tells-answers : {A : Type 0} (r : Result A DiskError) (told : Result A Refusal) → Tells r told → AnswersWrite r told
Tells-answers (Ok x) told is = is
Tells-answers (Err errors.Absent) told is = is
Tells-answers (Err errors.WrongKind) told is = is
Tells-answers (Err errors.LinkLoop) told is = is
Tells-answers (Err errors.Exists) told is = is
Tells-answers (Err errors.NotEmpty) told is = is
Tells-answers (Err errors.Failed) told is = absurd is
Tells-answers (Err errors.NoMemory) told is = tt

Tells-unfailed : (r : Result (Unit {0}) DiskError) (told : Result (Unit {0}) Refusal) → Tells r told → told_write r ≢ answers.Refused errors.Failed
Tells-unfailed (Ok x) told is = λ e. cc
Tells-unfailed (Err errors.Absent) told is = λ e. cc
Tells-unfailed (Err errors.WrongKind) told is = λ e. cc
Tells-unfailed (Err errors.LinkLoop) told is = λ e. cc
Tells-unfailed (Err errors.Exists) told is = λ e. cc
Tells-unfailed (Err errors.NotEmpty) told is = λ e. cc
Tells-unfailed (Err errors.Failed) told is = absurd is
Tells-unfailed (Err errors.NoMemory) told is = λ e. cc

-- a call that writes opens no stream
takes_none : (streams : Streams) (r : Result (Unit {0}) DiskError) → TakesLeast streams (told_write r)
takes_none streams (Ok x) = tt
takes_none streams (Err error) = tt

written-state_of : (t : Tree) (change : Option Change) → state_of (changed_by t change) ≡ written (state_of t) change
unfolding after_write
written-state_of t None = refl
written-state_of t (Some change) = ap (λ u. state_of (changed u change)) (sym (tree_of-state_of t))

-- a call that writes: the disk before it, what it answers, and the disk afterwards
pub record Writes (change_in : Tree → Result Change Refusal) (ask : DiskAsk) (old : Volume) (r : Result (Unit {0}) DiskError) (new : Volume) : Type 0 where
  pub answer : AnswersWrite r (done (change_in (tree_of old.state)))
  pub made : OnOk r (Some new.state ≡ Some (written old.state (result_ok (change_in (tree_of old.state)))))
  pub kept : OnErr r (Some new.state ≡ Some old.state)
  pub answered : IsCounted old ask (told_write r) new

-- the tree before a call that asks for the changes of a word, and afterwards
module _ {change_in : Tree → Result Change Refusal} {ask : DiskAsk} (asks_for : AsksFor change_in ask) (r : Result (Unit {0}) DiskError) (t u : Tree)
    (made : OnOk r (u ≡ changed_by t (result_ok (change_in t)))) (kept : OnErr r (u ≡ t)) where
  pub written_tree : IsTree t → IsTree u
  written_tree is_tree = by_result r made kept
    where
      by_change : (made_by : Option Change) → change_of_ask t ask ≡ made_by → IsTree (changed_by t made_by)
      by_change None is = is_tree
      by_change (Some change) is = IsTree-asked t is_tree ask change is

      by_result : (q : Result (Unit {0}) DiskError) → OnOk q (u ≡ changed_by t (result_ok (change_in t))) → OnErr q (u ≡ t) → IsTree u
      by_result (Ok x) made kept = subst IsTree (sym made) (by_change (result_ok (change_in t)) (asks_for.changes_by t))
      by_result (Err e) made kept = subst IsTree (sym kept) is_tree

  -- the disk has that tree once the call is counted, and doesn't fail
  pub writes : (old : Volume) {streams : Streams} {calls : Calls} → ◌≡◌ {A = Volume} (record { state = state_of t; streams = streams; calls = calls }) (after_count old ask)
      → fails_now old ask ≡ false → Tells r (done (change_in t)) → Writes change_in ask old r (record { state = state_of u; streams = streams; calls = calls })
  writes old seen unfailed told =
      let same : state_of t ≡ old.state = ap (λ (v : Volume). v.state) seen ∙ after_count-state old ask in
      let tree_is : t ≡ tree_of old.state = sym (tree_of-state_of t) ∙ ap tree_of same in
      let change_is = λ (v : Tree). result_ok (change_in v) in
      record {
        answer = subst (λ v. AnswersWrite r (done (change_in v))) tree_is (Tells-answers r (done (change_in t)) told);
        made =
            on_ok_weaker r
            (λ is. ap (λ v. Some (state_of v)) is ∙ ap Some (written-state_of t (change_is t) ∙ ap (λ s. written s (change_is t)) same ∙ ap (λ v. written old.state (change_is v)) tree_is))
            made;
        kept = on_err_weaker r (λ is. ap (λ v. Some (state_of v)) is ∙ ap Some same) kept;
        answered = record {
          counted = ap (λ (v : Volume). v.calls) seen;
          failed = (λ is. absurd (Tells-unfailed r (done (change_in t)) told is), λ is. absurd (false≢true (sym unfailed ∙ is)));
          least = takes_none old.streams r;
        };
      }
