-- From the answers of the calls of a disk to those of a call that is given as a value.
use Rattle.std.specs.Result.{result_ok}
use Rattle.std.proofs.Common.{◌≡◌, ℕ, Bool, List, Option, Some, None, Result, Ok, Err, IfSome, OnOk, OnErr, refl, sym, ap, ◌∙◌}
use Rattle.odb_base.specs.Path.{Path}
use Rattle.odb_disk.specs.Tree.{Tree, State, tree_of}
use Rattle.odb_disk.specs.Tree.Follow.{Refusal, looked, read_of}
use Rattle.odb_disk.specs.Tree.Write as writing
use Rattle.odb_disk.specs.Tree.Write.{change_of_make_dir, change_of_new_file, change_of_append, change_of_rename, change_of_remove, done, written, written_as}
use Rattle.odb_disk.specs.Answers.{Answers, AnswersWrite}
use Rattle.odb_disk.specs.Told.{told_look, told_read, told_write}
use Rattle.odb_disk.specs.Ask.{meta_answer, file_answer, write_answer, answer_of, change_of_ask, state_told_after, AnswersAsk}
use Rattle.odb_disk.specs.declared.change.Change.{Change}
use Rattle.odb_disk.specs.declared.meta.Meta.{Meta}
use Rattle.odb_disk.specs.declared.disk_error.DiskError.{DiskError}
use Rattle.odb_disk.specs.declared.disk_error.DiskError.TheVariants as errors
use Rattle.odb_disk.specs.declared.ask.DiskAsk.{DiskAsk}
use Rattle.odb_disk.specs.declared.ask.DiskAsk.TheVariants as asks
use Rattle.odb_disk.specs.declared.ask.DiskAnswer.{DiskAnswer}
use Rattle.odb_disk.specs.declared.ask.DiskAnswer.TheVariants as answers

look_told : (r : Result Meta DiskError) (told : Result Meta Refusal) → Answers r told → AnswersAsk (told_look r) (meta_answer told)
look_told (Ok found) told is = ap meta_answer (sym is)
look_told (Err errors.Absent) told is = ap meta_answer (sym is)
look_told (Err errors.WrongKind) told is = ap meta_answer (sym is)
look_told (Err errors.LinkLoop) told is = ap meta_answer (sym is)
look_told (Err errors.Exists) told is = absurd is
look_told (Err errors.NotEmpty) told is = absurd is
look_told (Err errors.Failed) told is = tt
look_told (Err errors.NoMemory) told is = tt

read_told : (r : Result (List ℕ × ℕ) DiskError) (told : Result (List ℕ × ℕ) Refusal) → Answers r told → AnswersAsk (told_read r) (file_answer told)
read_told (Ok file) told is = ap file_answer (sym is)
read_told (Err errors.Absent) told is = ap file_answer (sym is)
read_told (Err errors.WrongKind) told is = ap file_answer (sym is)
read_told (Err errors.LinkLoop) told is = ap file_answer (sym is)
read_told (Err errors.Exists) told is = absurd is
read_told (Err errors.NotEmpty) told is = absurd is
read_told (Err errors.Failed) told is = tt
read_told (Err errors.NoMemory) told is = tt

-- a call that reads, on a disk that may not report its state
module _ {path : Path} {ask : DiskAsk} {answer : DiskAnswer} where
  pub carried_look : {follow : Bool} → ask ≡ asks.Look path follow → (r : Result Meta DiskError) → answer ≡ told_look r → (o : Option State)
      → IfSome o (λ s. Answers r (looked (tree_of s) path follow)) → IfSome o (λ s. AnswersAsk answer (answer_of (tree_of s) ask))
  unfolding answer_of
  carried_look is r told None answers = tt
  carried_look {follow = follow} is r told (Some s) answers = rw (is, told) (look_told r (looked (tree_of s) path follow) answers)

  pub carried_read : ask ≡ asks.Read path → (r : Result (List ℕ × ℕ) DiskError) → answer ≡ told_read r → (o : Option State)
      → IfSome o (λ s. Answers r (read_of (tree_of s) path)) → IfSome o (λ s. AnswersAsk answer (answer_of (tree_of s) ask))
  unfolding answer_of
  carried_read is r told None answers = tt
  carried_read is r told (Some s) answers = rw (is, told) (read_told r (read_of (tree_of s) path) answers)

-- ---- a call that writes

-- a call that writes asks for the changes that a word says: a tree answers by them, and makes them
pub record AsksFor (change_in : Tree → Result Change writing.Refusal) (ask : DiskAsk) : Type 0 where
  pub answers_by : (t : Tree) → answer_of t ask ≡ write_answer (change_in t)
  pub changes_by : (t : Tree) → change_of_ask t ask ≡ result_ok (change_in t)

module _ (path : Path) where
  pub asks_make_dir : AsksFor (λ t. change_of_make_dir t path) (asks.MakeDir path)
  unfolding answer_of change_of_ask
  asks_make_dir = record { answers_by = λ t. refl; changes_by = λ t. refl }

  pub asks_new_file : AsksFor (λ t. change_of_new_file t path) (asks.NewFile path)
  unfolding answer_of change_of_ask
  asks_new_file = record { answers_by = λ t. refl; changes_by = λ t. refl }

  pub asks_append : (bytes : List ℕ) → AsksFor (λ t. change_of_append t path bytes) (asks.Append path bytes)
  unfolding answer_of change_of_ask
  asks_append bytes = record { answers_by = λ t. refl; changes_by = λ t. refl }

  pub asks_rename : (to : Path) → AsksFor (λ t. change_of_rename t path to) (asks.Rename path to)
  unfolding answer_of change_of_ask
  asks_rename to = record { answers_by = λ t. refl; changes_by = λ t. refl }

  pub asks_remove : AsksFor (λ t. change_of_remove t path) (asks.Remove path)
  unfolding answer_of change_of_ask
  asks_remove = record { answers_by = λ t. refl; changes_by = λ t. refl }

done_answer : (told : Result Change writing.Refusal) → write_answer (done told) ≡ write_answer told
done_answer (Ok change) = refl
done_answer (Err refusal) = refl

write_told : (r : Result (Unit {0}) DiskError) (told : Result Change writing.Refusal) → AnswersWrite r (done told) → AnswersAsk (told_write r) (write_answer told)
write_told (Ok x) told is = ap write_answer (sym is) ∙ done_answer told
write_told (Err errors.Absent) told is = ap write_answer (sym is) ∙ done_answer told
write_told (Err errors.WrongKind) told is = ap write_answer (sym is) ∙ done_answer told
write_told (Err errors.LinkLoop) told is = ap write_answer (sym is) ∙ done_answer told
write_told (Err errors.Exists) told is = ap write_answer (sym is) ∙ done_answer told
write_told (Err errors.NotEmpty) told is = ap write_answer (sym is) ∙ done_answer told
write_told (Err errors.Failed) told is = tt
write_told (Err errors.NoMemory) told is = tt

-- what a disk that may not report its state answers to a call that writes, and its state afterwards
module _ {change_in : Tree → Result Change writing.Refusal} {asked : DiskAsk} (asks_for : AsksFor change_in asked) {ask : DiskAsk} (is : ask ≡ asked)
    (r : Result (Unit {0}) DiskError) {answer : DiskAnswer} (told : answer ≡ told_write r) (o : Option State) where
  pub carried_write : IfSome o (λ s. AnswersWrite r (done (change_in (tree_of s)))) → IfSome o (λ s. AnswersAsk answer (answer_of (tree_of s) ask))
  carried_write answers = by_state o answers
    where
      by_state : (p : Option State) → IfSome p (λ s. AnswersWrite r (done (change_in (tree_of s)))) → IfSome p (λ s. AnswersAsk answer (answer_of (tree_of s) ask))
      by_state None answers = tt
      by_state (Some s) answers = rw (is, told, asks_for.answers_by (tree_of s)) (write_told r (change_in (tree_of s)) answers)

  pub carried_state : (new : Option State) → OnOk r (new ≡ written_as change_in o) → OnErr r (new ≡ o) → new ≡ state_told_after o ask answer
  carried_state new made kept = rw (is, told) (by_result r made kept)
    where
      done_told : (p : Option State) → written_as change_in p ≡ state_told_after p asked answers.Done
      done_told None = refl
      done_told (Some s) = ap (λ c. Some (written s c)) (sym (asks_for.changes_by (tree_of s)))

      kept_told : (p : Option State) (e : DiskError) → p ≡ state_told_after p asked (answers.Refused e)
      kept_told None e = refl
      kept_told (Some s) e = refl

      by_result : (q : Result (Unit {0}) DiskError) → OnOk q (new ≡ written_as change_in o) → OnErr q (new ≡ o) → new ≡ state_told_after o asked (told_write q)
      by_result (Ok x) made kept = made ∙ done_told o
      by_result (Err e) made kept = kept ∙ kept_told o e

-- a stat and a read leave the state as it was
module _ (ask : DiskAsk) (o new : Option State) (same : new ≡ o) where
  pub looked_state : (answer : DiskAnswer) (r : Result Meta DiskError) → answer ≡ told_look r → new ≡ state_told_after o ask answer
  looked_state answer r is = same ∙ by_state o r ∙ ap (state_told_after o ask) (sym is)
    where
      by_state : (p : Option State) (q : Result Meta DiskError) → p ≡ state_told_after p ask (told_look q)
      by_state None q = refl
      by_state (Some s) (Ok found) = refl
      by_state (Some s) (Err e) = refl

  pub read_state : (answer : DiskAnswer) (r : Result (List ℕ × ℕ) DiskError) → answer ≡ told_read r → new ≡ state_told_after o ask answer
  read_state answer r is = same ∙ by_state o r ∙ ap (state_told_after o ask) (sym is)
    where
      by_state : (p : Option State) (q : Result (List ℕ × ℕ) DiskError) → p ≡ state_told_after p ask (told_read q)
      by_state None q = refl
      by_state (Some s) (Ok file) = refl
      by_state (Some s) (Err e) = refl
