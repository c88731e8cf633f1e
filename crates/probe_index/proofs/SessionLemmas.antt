-- Lemmas on statuses: a prefix of a file that is too long is answered as the file, and what a delivery says of a status.
use Rattle.std.proofs.Common.{◌≡◌, ◌⊎◌, inl, inr, ℕ, ◌<◌, ◌≤◌, true, nat_lt, List, [], ◌++◌, length, refl, sym, ap, ◌∙◌, subst, Option, Some, None, arith}
use Rattle.std.specs.Prelude.{IfSome}
use Rattle.std.proofs.lemmas.Bool.{cases_lt}
use Rattle.std.proofs.lemmas.Bool.Decides.{nat_tests}
use Rattle.std.proofs.lemmas.List.{append-nil, length-append}
use Rattle.odb_mem_disk.specs.Source.{ReadsFile}
use Rattle.gix_hash.specs.declared.kind.Kind.{Kind}
use Rattle.probe_index.specs.declared.asked.Asked.{Asked}
use Rattle.probe_index.specs.declared.command.Command.{Command}
use Rattle.probe_index.specs.declared.command.Command.TheVariants.{Probe, Help, Version, NoWords, NotUnderstood}
use Rattle.probe_index.specs.declared.status.Status.{Status}
use Rattle.probe_index.specs.declared.status.Status.TheVariants as statuses
use Rattle.probe_index.specs.declared.probe.Refusal.{Refusal}
use Rattle.probe_index.specs.declared.probe.Refusal.TheVariants.{TooLong}
use Rattle.probe_index.specs.Probe.{WritesIn, WritesOf, file_limit, refusal_of}
use Rattle.odb_program.specs.Session.{Delivers, Input}
use Rattle.odb_program.proofs.SessionLaws.{ReadToEnd-short, ends_delivered, holds_of_source}
use Rattle.probe_index.specs.Session.{Ends, Finishes, LeavesIts, ReadsIts, Session, Writes, WritesFor}

-- ---- a file that is too long

too_long : (kind : Kind) (bytes : List ℕ) → file_limit < length bytes → refusal_of kind bytes ≡ Some TooLong
too_long kind bytes long = let test : nat_lt file_limit (length bytes) ≡ true = grind (arith, nat_tests, long) in rw test refl

-- what is written for bytes that are too long is written for any that are
WritesOf-long : (asked : Asked) (bytes others written : List ℕ) (status : Status) → file_limit < length bytes → file_limit < length others → WritesOf asked bytes written status
    → WritesOf asked others written status
WritesOf-long asked bytes others written status long too writes =
    let P : Option Refusal → Type 0 = λ why. WritesIn asked bytes written status why in
    let Q : Option Refusal → Type 0 = λ why. WritesIn asked others written status why in
    let refused : WritesIn asked bytes written status (Some TooLong) = subst P (too_long asked.kind bytes long) writes in
    subst Q (sym (too_long asked.kind others too)) refused

-- a prefix that is the whole, or is longer than a file may be, is answered as the whole
WritesOf-read : (asked : Asked) (bytes rest written : List ℕ) (status : Status) → (length bytes ≤ file_limit → rest ≡ []) → WritesOf asked bytes written status
    → WritesOf asked (bytes ++ rest) written status
WritesOf-read asked bytes rest written status whole writes =
    elim (cases_lt file_limit (length bytes)) [
      | inl long ↦ WritesOf-long asked bytes (bytes ++ rest) written status long (omega (arith, length-append bytes rest)) writes
      | inr short ↦
          let P : List ℕ → Type 0 = λ b. WritesOf asked b written status in
          subst P (sym (ap (λ r. bytes ++ r) (whole short) ∙ append-nil bytes)) writes
    ]

written_for_file : (asked : Asked) (input : Input) (bytes written : List ℕ) (status : Status) → ReadsFile file_limit input.left input.left' bytes → WritesOf asked bytes written status
    → IfSome input.left (λ file. WritesOf asked file written status)
written_for_file asked input bytes written status reads writes =
    holds_of_source file_limit input.left input.left' bytes (λ file. WritesOf asked file written status) reads
    (λ rest whole. WritesOf-read asked bytes rest written status whole writes)

-- ---- a file that is answered was read to its end

refused : (asked : Asked) (bytes written : List ℕ) → WritesIn asked bytes written statuses.Done (Some TooLong) → ⊥
refused asked bytes written writes = cc writes.0

done_is_short : (asked : Asked) (bytes written : List ℕ) → WritesOf asked bytes written statuses.Done → length bytes ≤ file_limit
done_is_short asked bytes written writes =
    elim (cases_lt file_limit (length bytes)) [
      | inl long ↦
          let P : Option Refusal → Type 0 = λ why. WritesIn asked bytes written statuses.Done why in
          absurd (refused asked bytes written (subst P (too_long asked.kind bytes long) writes))
      | inr short ↦ short
    ]

-- ---- what a delivery says of a status

-- an output that was delivered ends with its status, or with a failed write
pub Ends-delivered : (s : Session) (output : List ℕ) (status result : Status) → Writes s output status → (Finishes s status → Ends s status)
    → Delivers statuses.WriteFault s.output output status result → Ends s result
Ends-delivered s output status result writes ends delivered =
    ends_delivered (Ends s) (Writes s) statuses.WriteFault s.output output status result writes ends (λ failed. failed) delivered

-- the end of a command, under another name of the command
pub ends_as : (s : Session) (command : Command) (result : Status) → s.command ≡ command → Ends (record s { command = command }) result → Ends s result
ends_as s command result is ends = subst (λ c. Ends (record s { command = c }) result) (sym is) ends

pub ends_help : (s : Session) (result : Status) → s.command ≡ Help
    → Delivers statuses.WriteFault s.output s.texts.help statuses.Done result → Ends s result
ends_help s result is delivered =
    Ends-delivered s s.texts.help statuses.Done result (subst (λ c. WritesFor s.texts c s.input.left s.texts.help statuses.Done) (sym is) (refl, refl))
    (λ finished. (finished, subst (λ c. ReadsIts c s.input) (sym is) tt)) delivered

pub ends_version : (s : Session) (result : Status) → s.command ≡ Version
    → Delivers statuses.WriteFault s.output s.texts.version statuses.Done result → Ends s result
ends_version s result is delivered =
    Ends-delivered s s.texts.version statuses.Done result (subst (λ c. WritesFor s.texts c s.input.left s.texts.version statuses.Done) (sym is) (refl, refl))
    (λ finished. (finished, subst (λ c. ReadsIts c s.input) (sym is) tt)) delivered

pub ends_no_words : (s : Session) (result : Status) → s.command ≡ NoWords
    → Delivers statuses.WriteFault s.output s.texts.usage statuses.NoWords result → Ends s result
ends_no_words s result is delivered =
    Ends-delivered s s.texts.usage statuses.NoWords result (subst (λ c. WritesFor s.texts c s.input.left s.texts.usage statuses.NoWords) (sym is) (refl, refl))
    (λ finished. (is, finished)) delivered

pub ends_not_understood : (s : Session) (result : Status) → s.command ≡ NotUnderstood
    → Delivers statuses.WriteFault s.output s.texts.usage statuses.NotUnderstood result → Ends s result
ends_not_understood s result is delivered =
    Ends-delivered s s.texts.usage statuses.NotUnderstood result (subst (λ c. WritesFor s.texts c s.input.left s.texts.usage statuses.NotUnderstood) (sym is) (refl, refl))
    (λ finished. (is, finished)) delivered

-- a file is answered, or it is refused
answered_or_refused : (asked : Asked) (bytes written : List ℕ) (status : Status) (why : Option Refusal) → WritesIn asked bytes written status why
    → (status ≡ statuses.Done) ⊎ ((why : Refusal) × (status ≡ statuses.Refused why))
answered_or_refused asked bytes written status None writes = inl writes.0
answered_or_refused asked bytes written status (Some why) writes = inr (why, writes.0)

-- no source is changed if nothing was done
pub leaves_same : {S : Type 0} (command : Command) (source : S) → LeavesIts command source source
leaves_same (Probe asked) source = tt
leaves_same Help source = refl
leaves_same Version source = refl
leaves_same NoWords source = refl
leaves_same NotUnderstood source = refl

pub leaves_as : {S : Type 0} (command : Command) (asked : Asked) (before now : S) → command ≡ Probe asked → LeavesIts command before now
leaves_as {S = S} command asked before now is = subst (λ (c : Command). LeavesIts {S = S} c before now) (sym is) tt

module _ (s : Session) (asked : Asked) (bytes output : List ℕ) (asks : s.command ≡ Probe asked) (reads : ReadsFile file_limit s.input.left s.input.left' bytes) where
  ends-by : (status : Status) → WritesOf asked bytes output status → (status ≡ statuses.Done) ⊎ ((why : Refusal) × (status ≡ statuses.Refused why)) → Finishes s status → Ends s status
  ends-by status writes (inl done) finished =
      let P : Status → Type 0 = λ r. WritesOf asked bytes output r → Finishes s r → Ends s r in
      subst P (sym done) (λ w f. (
        f,
        subst (λ c. ReadsIts c s.input) (sym asks)
            (ReadToEnd-short file_limit s.input.left s.input.left' bytes reads (done_is_short asked bytes output w)),
      )) writes finished
  ends-by status writes (inr refused) finished =
      let P : Status → Type 0 = λ r. Finishes s r → Ends s r in
      subst P (sym refused.1) (λ f. ((asked, asks), f)) finished

  writes-for : (status : Status) → WritesOf asked bytes output status → Writes s output status
  writes-for status writes =
      let P : Command → Type 0 = λ c. WritesFor s.texts c s.input.left output status in
      subst P (sym asks) (written_for_file asked s.input bytes output status reads writes)

  -- a file that was answered ends with the status of its answer, or with a failed write
  pub Ends-answered : (status result : Status) → WritesOf asked bytes output status → Delivers statuses.WriteFault s.output output status result → Ends s result
  Ends-answered status result writes delivered =
      Ends-delivered s output status result (writes-for status writes)
      (ends-by status writes (answered_or_refused asked bytes output status (refusal_of asked.kind bytes) writes))
      delivered
