use Rattle.std.proofs.Common.{◌≡◌, IfOk, List, subst, sym, ap, ◌∙◌}
use Rattle.gix_odb_events.specs.declared.loaded.Todo.{Todo}
use Rattle.gix_odb_search.specs.LoadOrder.{place_of}
use Rattle.gix_odb_search.specs.TryOrder.Seek.{at}
use Rattle.gix_odb_search.specs.declared.index_loader.IndexLoader.TheVariants.{Reading}
use Rattle.gix_odb_search.specs.declared.trier.Stage.TheVariants as stages
use Rattle.gix_odb_search.specs.declared.trier.Tried.{Tried}
use Rattle.gix_odb_search.proofs.TodoLemmas.{first_read, none_read}
use Rattle.gix_odb_search.proofs.trier.at_todo.Goals as goal

pub returns-in-Ok-Some : goal.returns-in-Ok-Some
returns-in-Ok-Some c =
    let todo = c.in-Ok-Some.todo in
    let left = ap (λ (rest : List Todo). at c.args.goal (record c.args.ahead { todo = rest }) (stages.Loading (Reading (place_of todo))))
    c.in-Ok-Some.ensures.rest in
    record {
      at = subst (λ (wanted : Tried). IfOk c.at_index.result (λ tried. tried ≡ wanted))
          (left ∙ first_read c.args.goal c.args.ahead todo c.args.ahead.todo (sym c.in-Ok-Some.field-0-is ∙ c.in-Ok-Some.ensures.first)) c.at_index.ensures.loads;
    }

pub returns-in-Ok-None : goal.returns-in-Ok-None
returns-in-Ok-None c = record {
  at = c.missed.ensures.missed
      ∙ none_read c.args.goal c.args.ahead c.args.ahead.todo (sym c.in-Ok-None.field-0-is ∙ c.in-Ok-None.ensures.first);
}
