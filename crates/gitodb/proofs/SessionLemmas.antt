-- Lemmas on statuses: what is answered for the bytes that were read holds for the script, and what a delivery says of a status.
use Rattle.std.proofs.Common.{◌≡◌, inl, inr, ℕ, ◌≤◌, List, [], ◌++◌, length, sym, ap, ◌∙◌, subst}
use Rattle.std.specs.Prelude.{IfSome}
use Rattle.std.proofs.lemmas.Bool.{cases_lt}
use Rattle.odb_mem_disk.specs.Source.{ReadsFile}
use Rattle.gix_odb_world.specs.Play.{IsPlayed}
use Rattle.gitodb.specs.declared.command.Command.TheVariants.{World}
use Rattle.gitodb.specs.declared.status.Status.{Status}
use Rattle.gitodb.specs.declared.status.Status.TheVariants.{WriteFault}
use Rattle.odb_script.specs.declared.reader.Ending.{Ending}
use Rattle.odb_script.specs.declared.reader.Ending.TheVariants.{Whole, RefusedAt, NotBuiltAt}
use Rattle.odb_script.specs.declared.reader.Script.TheVariants.{Faults}
use Rattle.odb_script.specs.declared.item.Item.{Item}
use Rattle.odb_script.specs.Script.{disk_of, lines_of, script_limit, reading_from}
use Rattle.odb_script.proofs.LimitLemmas.{items_of-read, too-long-Whole}
use Rattle.odb_program.specs.Session.{Delivers, Input}
use Rattle.odb_program.proofs.SessionLaws.{ReadToEnd-short, ends_delivered, holds_of_source}
use Rattle.odb_script.proofs.ToldLaws.{told_of-read}
use Rattle.odb_script.specs.Told.{told_of}
use Rattle.gitodb.specs.Session.{Session, Answers, AnswersWith, Writes, WritesFor, Finishes, ReadsIts, Ends, status_by}

-- ---- what was read and what is written

Answers-front : (text rest written : List ℕ) (ending : Ending) → (length text ≤ script_limit → rest ≡ []) → Answers text written ending → Answers (text ++ rest) written ending
Answers-front text rest written ending whole a =
    let same = items_of-read text rest whole in
    let P : List Item → Type 0 = λ i.
    (reading_from i 1 (Faults [])).ending ≡ ending in
    record {
      ends = subst P (sym same) a.ends;
      play = a.play;
      played = let Q : List Item → Type 0 = λ i.
          IsPlayed (disk_of (reading_from i 1 (Faults [])).script) (lines_of (reading_from i 1 (Faults [])).script) a.play in subst Q (sym same) a.played;
      written_is = a.written_is;
    }

-- what `world` writes for the bytes that it read, it writes for the script
written_for_script : (input : Input) (text written : List ℕ) (status : Status) → ReadsFile script_limit input.left input.left' text → AnswersWith text written status
    → IfSome input.left (λ script. AnswersWith script written status)
written_for_script input text written status reads answers =
    holds_of_source script_limit input.left input.left' text (λ script. AnswersWith script written status) reads
    (λ rest whole. record {
      ending = answers.ending;
      answers = Answers-front text rest written answers.ending whole answers.answers;
      status_is = answers.status_is
          ∙ ap (status_by answers.ending) (sym (told_of-read text rest whole));
    })

-- a script that ended whole is no longer than a script may be
whole_is_short : (text written : List ℕ) → Answers text written Whole → length text ≤ script_limit
whole_is_short text written answers = elim (cases_lt script_limit (length text)) [ inl long ↦ absurd (too-long-Whole text long answers.ends) | inr short ↦ short ]

-- ---- what a delivery says of a status

-- an output that was delivered ends with its status, or with a failed write
pub Ends-delivered : (s : Session) (output : List ℕ) (status result : Status) → Writes s output status → (Finishes s status → Ends s status)
    → Delivers WriteFault s.output output status result → Ends s result
Ends-delivered s output status result writes ends delivered =
    ends_delivered (Ends s) (Writes s) WriteFault s.output output status result writes ends (λ failed. failed) delivered

-- a script that was answered ends with the status of its ending
ends_by : (s : Session) (text written : List ℕ) (ending : Ending) (told : List ℕ) → s.command ≡ World → ReadsFile script_limit s.input.left s.input.left' text
    → Answers text written ending → Finishes s (status_by ending told)
    → Ends s (status_by ending told)
ends_by s text written Whole told world reads answers finished =
    (finished, subst (λ c. ReadsIts c s.input) (sym world) (ReadToEnd-short script_limit s.input.left s.input.left' text reads (whole_is_short text written answers)))
ends_by s text written (RefusedAt line) told world reads answers finished = (world, finished)
ends_by s text written (NotBuiltAt line) told world reads answers finished = (world, finished)

pub Ends-world : (s : Session) (text output : List ℕ) (status result : Status) → s.command ≡ World → ReadsFile script_limit s.input.left s.input.left' text → AnswersWith text output status
    → Delivers WriteFault s.output output status result → Ends s result
Ends-world s text output status result world reads answers delivered =
    Ends-delivered s output status result
    (subst (λ c. WritesFor s.help s.version c s.input.left output status) (sym world) (written_for_script s.input text output status reads answers))
    (subst (λ r. Finishes s r → Ends s r) (sym answers.status_is) (ends_by s text output answers.ending (told_of text) world reads answers.answers))
    delivered
