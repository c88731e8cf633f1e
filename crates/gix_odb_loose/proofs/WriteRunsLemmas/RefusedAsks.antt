-- Which answers refused the asks of a write.
use Rattle.std.specs.Prelude.{◌≡◌, ◌⊎◌, ℕ, zero, suc, ◌<◌, List, [], ◌∷◌, length, slice_index_or, Contains, Option, Some, None, Result, Ok, Err, IfSome, refl}
use Rattle.std.proofs.Common.{inl, inr, ap, ◌∙◌, subst, arith}
use Rattle.odb_base.specs.Faults.{Rose}
use Rattle.odb_disk.specs.Ask.{AnswersAsk, answer_of, state_told_after, write_answer, error_of_write}
use Rattle.odb_disk.specs.Tree.{State, Tree, tree_of}
use Rattle.odb_disk.specs.Tree.Write as writing
use Rattle.odb_disk.specs.Tree.Write.{change_of_make_dir, change_of_new_file, change_of_append, change_of_rename}
use Rattle.odb_disk.specs.declared.change.Change.{Change}
use Rattle.odb_disk.specs.declared.ask.DiskAsk.{DiskAsk}
use Rattle.odb_disk.specs.declared.ask.DiskAsk.TheVariants as asks
use Rattle.odb_disk.specs.declared.ask.DiskAnswer.{DiskAnswer}
use Rattle.odb_disk.specs.declared.ask.DiskAnswer.TheVariants as answers
use Rattle.odb_disk.specs.declared.disk_error.DiskError.{DiskError}
use Rattle.odb_disk.specs.declared.disk_error.DiskError.TheVariants as disk_errors
use Rattle.odb_disk.proofs.RefusalLaws.{Never, there, full, new_file-never, make_dir-never, append-never, rename-never}
use Rattle.gix_odb_loose.proofs.CauseLaws.Write.{IsMaking}
use Rattle.gix_odb_loose.specs.Exchanges.{Exchange, exchanged, AreGiven, FailByFaults}
use Rattle.gix_odb_loose.specs.WriteHistory.Refused.{IsRefused, RefusedIn}
use Rattle.gix_odb_loose.specs.WriteRuns.RefusedAsks.{IsOnWay, Refuses}

abbrev ByWay : DiskAnswer → Type 0
ByWay answer = (answer ≡ answers.Refused disk_errors.Failed) ⊎ ((error : DiskError) × IsOnWay error × (answer ≡ answers.Refused error))

abbrev ByTree : Result Change writing.Refusal → DiskAnswer → Type 0
ByTree made answer = (answer ≡ answers.Refused disk_errors.Failed) ⊎ ((refusal : writing.Refusal) × (made ≡ Err refusal) × (answer ≡ answers.Refused (error_of_write refusal)))

told : (made : Result Change writing.Refusal) (error : DiskError) → answers.Refused error ≡ write_answer made → ByTree made (answers.Refused error)
told (Ok change) error e = absurd (cc e)
told (Err refusal) error e = inr (refusal, refl, e)

by_tree : (ask : DiskAsk) (made : Result Change writing.Refusal) (answer : DiskAnswer) → AnswersAsk answer (write_answer made) → IsRefused ask answer → ByTree made answer
by_tree ask made answers.Done a r = absurd r
by_tree ask (Ok change) (answers.Meta meta) a r = absurd (cc a)
by_tree ask (Ok change) (answers.Dir dir) a r = absurd (cc a)
by_tree ask (Ok change) (answers.Entry entry) a r = absurd (cc a)
by_tree ask (Ok change) answers.End a r = absurd (cc a)
by_tree ask (Err refusal) (answers.Meta meta) a r = absurd (cc a)
by_tree ask (Err refusal) (answers.Dir dir) a r = absurd (cc a)
by_tree ask (Err refusal) (answers.Entry entry) a r = absurd (cc a)
by_tree ask (Err refusal) answers.End a r = absurd (cc a)
by_tree ask (Ok change) (answers.File bytes time) a r = absurd (cc a)
by_tree ask (Err refusal) (answers.File bytes time) a r = absurd (cc a)
by_tree ask made (answers.Refused disk_errors.Failed) a r = inl refl
by_tree ask made (answers.Refused disk_errors.NoMemory) a r = absurd r
by_tree ask made (answers.Refused disk_errors.Absent) a r = told made disk_errors.Absent a
by_tree ask made (answers.Refused disk_errors.WrongKind) a r = told made disk_errors.WrongKind a
by_tree ask made (answers.Refused disk_errors.LinkLoop) a r = told made disk_errors.LinkLoop a
by_tree ask made (answers.Refused disk_errors.Exists) a r = told made disk_errors.Exists a
by_tree ask made (answers.Refused disk_errors.NotEmpty) a r = told made disk_errors.NotEmpty a

by_way : (made : Result Change writing.Refusal) (answer : DiskAnswer) → (answer ≡ answers.Refused disk_errors.Exists → made ≡ Err writing.Exists → ⊥) → Never writing.NotEmpty made
    → ByTree made answer → ByWay answer
by_way made answer taken unfilled h = elim h [ inl failed ↦ inl failed | inr by ↦ inr (on_way by.0 by.1 by.2) ]
  where
    on_way : (refusal : writing.Refusal) → made ≡ Err refusal → answer ≡ answers.Refused (error_of_write refusal) → (error : DiskError) × IsOnWay error × (answer ≡ answers.Refused error)
    on_way writing.Absent m e = (disk_errors.Absent, tt, e)
    on_way writing.WrongKind m e = (disk_errors.WrongKind, tt, e)
    on_way writing.LinkLoop m e = (disk_errors.LinkLoop, tt, e)
    on_way writing.Exists m e = absurd (taken e m)
    on_way writing.NotEmpty m e = absurd (unfilled m)

-- an ask that makes something is refused by a failure or by its way; Exists doesn't refuse a new file or a directory
making_refused : (tree : Tree) (ask : DiskAsk) → IsMaking ask → (answer : DiskAnswer) → AnswersAsk answer (answer_of tree ask) → IsRefused ask answer → ByWay answer
unfolding answer_of
making_refused tree (asks.NewFile path) making answer a r =
    by_way (change_of_new_file tree path) answer (λ e m. subst (IsRefused (asks.NewFile path)) e r) (new_file-never tree path) (by_tree (asks.NewFile path) (change_of_new_file tree path) answer a r)
making_refused tree (asks.MakeDir path) making answer a r =
    by_way (change_of_make_dir tree path) answer (λ e m. subst (IsRefused (asks.MakeDir path)) e r) (make_dir-never tree path) (by_tree (asks.MakeDir path) (change_of_make_dir tree path) answer a r)
making_refused tree (asks.Append path bytes) making answer a r =
    by_way (change_of_append tree path bytes) answer (λ e m. append-never writing.Exists there tree path bytes m) (append-never writing.NotEmpty full tree path bytes)
    (by_tree (asks.Append path bytes) (change_of_append tree path bytes) answer a r)
making_refused tree (asks.Rename from to) making answer a r =
    by_way (change_of_rename tree from to) answer (λ e m. rename-never writing.Exists there tree from to m) (rename-never writing.NotEmpty full tree from to)
    (by_tree (asks.Rename from to) (change_of_rename tree from to) answer a r)
making_refused tree (asks.Look path follow) making answer a r = absurd making
making_refused tree (asks.Read path) making answer a r = absurd making
making_refused tree (asks.OpenDir path) making answer a r = absurd making
making_refused tree (asks.NextEntry dir) making answer a r = absurd making
making_refused tree (asks.CloseDir dir) making answer a r = absurd making
making_refused tree (asks.Remove path) making answer a r = absurd making

-- ---- of a list of exchanges

from_told : (state : Option State) (x : Exchange) (P : Type 0) → IfSome (state_told_after state x.ask x.answer) (λ _. P) → IfSome state (λ _. P)
from_told None x P h = tt
from_told (Some s) x P h = h

abbrev GivenBySome : Exchange → Type 0
GivenBySome x = (t : Tree) × AnswersAsk x.answer (answer_of t x.ask)

given_first : (state : Option State) (x : Exchange) → IfSome state (λ s. AnswersAsk x.answer (answer_of (tree_of s) x.ask)) → IfSome state (λ _. GivenBySome x)
given_first None x h = tt
given_first (Some s) x h = (tree_of s, h)

given_at : (xs : List Exchange) (state : Option State) (k : ℕ) (x : Exchange) → AreGiven state xs → k < length xs → slice_index_or xs k x ≡ x → IfSome state (λ _. GivenBySome x)
unfolding AreGiven
given_at [] state k x given less e = absurd (omega arith)
given_at (y ∷ ys) state zero x given less e = subst (λ (z : Exchange). IfSome state (λ _. GivenBySome z)) e (given_first state y given.0)
given_at (y ∷ ys) state (suc k) x given less e = from_told state y (GivenBySome x) (given_at ys (state_told_after state y.ask y.answer) k x given.1 (omega (arith, less)) e)

refuses_told : (state : Option State) (Failed : Type 0) (xs : List Exchange) (ask : DiskAsk) (answer : DiskAnswer) → IsMaking ask → Contains xs (exchanged ask answer) → IsRefused ask answer
    → (answer ≡ answers.Refused disk_errors.Failed → Failed)
    → IfSome state (λ _. GivenBySome (exchanged ask answer)) → Refuses state Failed xs ask
refuses_told None Failed xs ask answer making has refused failed given = (answer, has, refused, inr tt)
refuses_told (Some s) Failed xs ask answer making has refused failed given =
    elim (making_refused given.0 ask making answer given.1 refused) [
      | inl e ↦ (answer, has, refused, inl (e, failed e))
      | inr by ↦ (answer, has, refused, inr by)
    ]

failed_at : (before now : ℕ) (xs : List Exchange) (ask : DiskAsk) (answer : DiskAnswer) → FailByFaults before now xs → Contains xs (exchanged ask answer) → answer ≡ answers.Refused disk_errors.Failed
    → Rose before now
failed_at before now xs ask answer fail has e = fail has.0 (exchanged ask answer) has.1 (ap (λ (x : Exchange). x.answer) has.2 ∙ e)

pub refuses_in : (state : Option State) (before now : ℕ) (xs : List Exchange) → AreGiven state xs → FailByFaults before now xs → (ask : DiskAsk) → IsMaking ask → RefusedIn xs ask
    → Refuses state (Rose before now) xs ask
refuses_in state before now xs given fail ask making refused =
    refuses_told state (Rose before now) xs ask refused.0 making refused.1 refused.2 (failed_at before now xs ask refused.0 fail refused.1)
    (given_at xs state refused.1.0 (exchanged ask refused.0) given refused.1.1 refused.1.2)
