use Rattle.std.proofs.Common.{arith, Global, [], ◌∷◌, ◌++◌, ap, sym, ◌∙◌, map}
use Rattle.std.proofs.lemmas.List.{map-append}
use Rattle.std.proofs.lemmas.List.Elements.{All-push}
use Rattle.std.specs.declared.vec.IntoIter.{IntoIter}
use Rattle.gix_odb_core.specs.History.{History}
use Rattle.gix_odb_core.specs.Journal.{entries_of}
use Rattle.gix_odb_history.specs.JournalKept.{IsJournal}
use Rattle.gix_odb_history.specs.declared.kept_core.KeptCore.{KeptCore}
use Rattle.gix_odb_history.proofs.TakenLemmas.{all_taken}
use Rattle.gix_odb_history.proofs.cores.journals_of.Goals as goal

-- one more journal is that of one more core
pub loop-core-preserved : goal.loop-core-preserved
loop-core-preserved c = (
  ap (map entries_of) c.in_ok-push.ensures.ok
      ∙ (map-append entries_of c.loop-core.journals (c.into_journal.result ∷ [])
      ∙ (ap (λ es. es ++ entries_of c.into_journal.result ∷ []) c.loop-core.invariant.0
      ∙ (ap (λ e. map (λ (h : History). h.entries) c.loop-core.yielded ++ e ∷ []) c.into_journal.ensures.entries
      ∙ sym (map-append (λ (h : History). h.entries) c.loop-core.yielded (c.in-Some.core ∷ []))))),
  All-push IsJournal c.loop-core.yielded c.in-Some.core c.loop-core.invariant.1 c.into_journal.ensures.journal,
)

-- all cores were yielded
pub returns-clause-entries : goal.returns-clause-entries
returns-clause-entries c =
    let all = all_taken (λ (i : IntoIter KeptCore Global). i.rest.items) (λ (i : IntoIter KeptCore Global). i.rest.len) c.into_iter-core-iterator.result c.loop-core.yielded
    c.loop-core.core-iterator c.loop-core.yielded_by (omega (arith, c.in-None.ensures.steps.0)) in
    c.loop-core.invariant.0 ∙ ap (map (λ (h : History). h.entries)) (all ∙ c.into_iter-core-iterator.ensures.into_iter_gives.0)
