-- What a call asked of a disk and what it was answered, one exchange after another.
use Rattle.std.specs.Prelude.{◌≡◌, ◌⊎◌, ℕ, Bool, true, false, ◌&&◌, List, [], ◌∷◌, All, Option, Some, None, IfSome}
use Rattle.odb_base.specs.Faults.{Rose}
use Rattle.odb_base.specs.Path.{Path}
use Rattle.odb_disk.specs.Ask.{AnswersAsk, answer_of, state_told_after}
use Rattle.odb_disk.specs.Tree.{State, tree_of}
use Rattle.odb_disk.specs.declared.ask.DiskAsk.{DiskAsk}
use Rattle.odb_disk.specs.declared.ask.DiskAsk.TheVariants as asks
use Rattle.odb_disk.specs.declared.ask.DiskAnswer.{DiskAnswer}
use Rattle.odb_disk.specs.declared.ask.DiskAnswer.TheVariants as answers
use Rattle.odb_disk.specs.declared.disk_error.DiskError.TheVariants as disk_errors

-- a call of the disk and its answer
pub record Exchange : Type 0 where
  pub ask : DiskAsk
  pub answer : DiskAnswer

abbrev pub exchanged : DiskAsk → DiskAnswer → Exchange
exchanged ask answer = record { ask = ask; answer = answer }

-- the state that exchanges leave
unfoldable pub left_by : Option State → List Exchange → Option State
left_by state [] = state
left_by state (x ∷ xs) = left_by (state_told_after state x.ask x.answer) xs

-- the disk's answer is its tree's at that moment, unless the call failed or memory ran out
abbrev pub IsGiven : Option State → Exchange → Type 0
IsGiven state x = IfSome state (λ s. AnswersAsk x.answer (answer_of (tree_of s) x.ask))

-- each answer was the disk's, from this state on
unfoldable pub AreGiven : Option State → List Exchange → Type 0
AreGiven state [] = Unit {0}
AreGiven state (x ∷ xs) = IsGiven state x × AreGiven (state_told_after state x.ask x.answer) xs

-- a call failed only where the count of faults rose in between
abbrev pub FailByFaults : ℕ → ℕ → List Exchange → Type 0
FailByFaults before now = All (λ (x : Exchange). x.answer ≡ answers.Refused disk_errors.Failed → Rose before now)

-- ---- what was done

abbrev pub is_rename : DiskAsk → Bool
is_rename (asks.Rename from to) = true
is_rename ask = false

abbrev pub is_done : DiskAnswer → Bool
is_done answers.Done = true
is_done answer = false

-- no change that was made is a rename
abbrev pub RenamedNothing : List Exchange → Type 0
RenamedNothing = All (λ (x : Exchange). (is_rename x.ask && is_done x.answer) ≡ false)

abbrev pub file_made : DiskAsk → DiskAnswer → Option Path
file_made (asks.NewFile path) answers.Done = Some path
file_made ask answer = None

-- no file was made but this one, if there is one
abbrev pub MadeOnly : Option Path → List Exchange → Type 0
MadeOnly path = All (λ (x : Exchange). (file_made x.ask x.answer ≡ None) ⊎ (file_made x.ask x.answer ≡ path))
