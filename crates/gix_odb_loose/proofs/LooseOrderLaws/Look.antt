-- The laws of tests of presence: what a reply says of the answer to its stat.
use Rattle.std.specs.Prelude.{◌≡◌, ◌≢◌, ◌↔◌, Bool, true, false, IsTrue, Result, Ok, Err, refl}
use Rattle.std.proofs.Common.{subst}
use Rattle.odb_base.specs.Path.{Path}
use Rattle.odb_disk.specs.Ask.{AnswersAsk, meta_answer}
use Rattle.odb_disk.specs.Tree.{Tree}
use Rattle.odb_disk.specs.Tree.Follow.{Refusal, looked}
use Rattle.odb_disk.specs.declared.ask.DiskAnswer.{DiskAnswer}
use Rattle.odb_disk.specs.declared.ask.DiskAnswer.TheVariants as answers
use Rattle.odb_disk.specs.declared.disk_error.DiskError.TheVariants as disk_errors
use Rattle.odb_disk.specs.declared.meta.Kind.{Kind as NodeKind}
use Rattle.odb_disk.specs.declared.meta.Kind.TheVariants as nodes
use Rattle.odb_disk.specs.declared.meta.Meta.{Meta}
use Rattle.odb_disk.proofs.TreeLemmas.Look.{read_of-file, read_of-other, read_of-refused}
use Rattle.gix_odb_loose.specs.LooseFile.{LeadsToFile}
use Rattle.gix_odb_loose.specs.Causes.{TestCause}
use Rattle.gix_odb_loose.specs.LooseOrder.Answered.{unreadable, is_file, tested_by}
use Rattle.gix_odb_loose.specs.declared.find.Error.{Error}
use Rattle.gix_odb_loose.specs.declared.find.Error.TheVariants as errors

-- ---- the answer to a stat

-- a test is refused only by a call that failed, or because memory ran out
pub tested_by-Err : (path : Path) (Failed Wanting : Type 0) (given : DiskAnswer) → (given ≡ answers.Refused disk_errors.Failed → Failed) → (given ≡ answers.Refused disk_errors.NoMemory → Wanting)
    → (error : Error) → tested_by path given ≡ Err error → TestCause path Failed Wanting error
tested_by-Err path Failed Wanting (answers.Refused disk_errors.Failed) failed wanting error e =
    let same : unreadable path ≡ error = cc e in subst (TestCause path Failed Wanting) same (refl, refl, failed refl)
tested_by-Err path Failed Wanting (answers.Refused disk_errors.NoMemory) failed wanting error e = let same : errors.NoMemory ≡ error = cc e in subst (TestCause path Failed Wanting) same (wanting refl)
tested_by-Err path Failed Wanting (answers.Refused disk_errors.Absent) failed wanting error e = absurd (cc e)
tested_by-Err path Failed Wanting given failed wanting error e = absurd (cc e)

meta_led : (told : Result Meta Refusal) (meta : Meta) → answers.Meta meta ≡ meta_answer told → told ≡ Ok meta
meta_led (Ok other) meta e = cc e
meta_led (Err refusal) meta e = absurd (cc e)

refused_led : (told : Result Meta Refusal) (given : DiskAnswer) → given ≡ meta_answer told → ((meta : Meta) → given ≢ answers.Meta meta) → (refusal : Refusal) × (told ≡ Err refusal)
refused_led (Ok meta) given e none = absurd (none meta e)
refused_led (Err refusal) given e none = (refusal, refl)

module _ (tree : Tree) (path : Path) where
  by_kind : (meta : Meta) → looked tree path true ≡ Ok meta → (kind : NodeKind) → meta.kind ≡ kind → (there : Bool) → is_file kind ≡ there → IsTrue there ↔ LeadsToFile tree path
  by_kind meta e nodes.File k there is =
      let read = read_of-file tree path meta e k in
      (λ t. record { bytes = read.bytes; time = meta.time; given = read.is; holds = tt }, λ g. cc is)
  by_kind meta e nodes.Dir k there is = (λ t. absurd (cc (t, is)), λ g. absurd (cc (g.given, read_of-other tree path meta e (λ f. cc (f, k)))))
  by_kind meta e nodes.Link k there is = (λ t. absurd (cc (t, is)), λ g. absurd (cc (g.given, read_of-other tree path meta e (λ f. cc (f, k)))))

  not_there : (refusal : Refusal) → looked tree path true ≡ Err refusal → (there : Bool) → false ≡ there → IsTrue there ↔ LeadsToFile tree path
  not_there refusal e there is = (λ t. absurd (cc (t, is)), λ g. absurd (cc (g.given, read_of-refused tree path refusal e)))

  -- a test returns whether the tree's path leads to a file
  pub tested_by-Ok : (given : DiskAnswer) → AnswersAsk given (meta_answer (looked tree path true)) → (there : Bool) → tested_by path given ≡ Ok there → IsTrue there ↔ LeadsToFile tree path
  tested_by-Ok (answers.Meta meta) asked there e = by_kind meta (meta_led (looked tree path true) meta asked) meta.kind refl there (cc e)
  tested_by-Ok (answers.Refused disk_errors.Failed) asked there e = absurd (cc e)
  tested_by-Ok (answers.Refused disk_errors.NoMemory) asked there e = absurd (cc e)
  tested_by-Ok (answers.Refused disk_errors.Absent) asked there e =
      let led = refused_led (looked tree path true) (answers.Refused disk_errors.Absent) asked (λ meta f. cc f) in not_there led.0 led.1 there (cc e)
  tested_by-Ok given asked there e =
      let led = refused_led (looked tree path true) given asked (λ meta f. cc f) in not_there led.0 led.1 there (cc e)
