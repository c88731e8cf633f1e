-- What a handled entry was answered: stats reported an error, or nothing more was asked, or a directory was entered.
use Rattle.std.proofs.Common.{◌≡◌, ℕ, true, List, length, Option, Result, Ok, Err, sym, subst}
use Rattle.std.specs.Prelude.{IfErr}
use Rattle.odb_base.specs.Path.{Path}
use Rattle.odb_disk.specs.CallsMade.{Leads}
use Rattle.odb_disk.specs.declared.ask.DiskAsk.{DiskAsk}
use Rattle.odb_disk.specs.declared.ask.DiskAnswer.{DiskAnswer}
use Rattle.walkdir.specs.Answered.{IsStackTold, TellsOn}
use Rattle.walkdir.specs.AnsweredTurns.{IsKnown, IsSeenIn, TellsPushed}
use Rattle.walkdir.specs.Error.{IsOfEntry, is_no_memory}
use Rattle.walkdir.specs.Turns.{handed}
use Rattle.walkdir.specs.Within.{LiesIn}
use Rattle.walkdir.specs.declared.dent.DirEntry.{DirEntry}
use Rattle.walkdir.specs.declared.error.Error.{Error}
use Rattle.walkdir.specs.declared.directory.DirList.{DirList}
use Rattle.walkdir.specs.declared.directory.Place.{Place}
use Rattle.walkdir.proofs.AnsweredLemmas.{error_seen, leads_then, stack_later}
use Rattle.walkdir.proofs.AnsweredLemmas.Steps.{entry_told, lost_item_told}
use Rattle.walkdir.proofs.RefusedLemmas.{given_at, looked_beside, lost_item_at}

module _ {D : Type 0} (answered : D → DiskAsk → DiskAnswer → D → Type 0) where
  -- stats reported an error of an entry that is in the innermost directory
  pub tells_seen : (a b : D) (stack : List DirList) (path : Path) (depth : ℕ) (r : Result (Option DirEntry) Error) (error : Error) → r ≡ Err error
      → Leads answered a b → ((first : D) → IsStackTold answered first a stack → IsSeenIn answered first b error.inner)
      → IsOfEntry path depth error → depth ≡ length stack → LiesIn path stack → TellsOn answered a stack (handed r) b stack
  tells_seen a b stack path depth r error is leads seen of deep lies =
      subst (λ (x : Result (Option DirEntry) Error). TellsOn answered a stack (handed x) b stack) (sym is) (record {
        leads = leads;
        told = λ first told. (stack_later answered first a b stack told leads, error_seen answered first b error (seen first told));
        refused = λ first told. looked_beside answered first b path depth error stack of deep lies (seen first told);
      })

  -- an entry is given, or not, and nothing is put on the stack
  pub tells_shown : (a b : D) (stack : List DirList) (given : Option DirEntry) → Leads answered a b
      → TellsOn answered a stack (handed (Ok given)) b stack
  tells_shown a b stack given leads = record {
    leads = leads;
    told = λ first told. (stack_later answered first a b stack told leads, entry_told answered first b given);
    refused = λ first told. given_at answered first b given stack;
  }

  -- a directory is put on the stack, or memory ran out
  pub tells_entered : (a b c : D) (stack rest : List DirList) (path : Path) (place : Option Place) (r : Result (Option DirEntry) Error)
      → Leads answered a b → ((first : D) → IsStackTold answered first a stack → IsKnown answered first b path place)
      → TellsPushed answered b stack path place c rest → IfErr r (λ e. is_no_memory e ≡ true) → TellsOn answered a stack (handed r) c rest
  tells_entered a b c stack rest path place r leads known goes lost = record {
    leads = leads_then answered a b c leads goes.leads;
    told = λ first told. (
      goes.told first (stack_later answered first a b stack told leads) (known first told),
      lost_item_told answered first c r lost,
    );
    refused = λ first told. lost_item_at answered first c r rest lost;
  }
