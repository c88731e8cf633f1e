use Rattle.std.proofs.Common.{ap, sym, ◌∙◌}
use Rattle.gix_odb_core.specs.IndexKeys.{index_time}
use Rattle.gix_odb_core.specs.Publish.{is_kept}
use Rattle.gix_odb_events.specs.Slots.{index_path}
use Rattle.gix_odb_core.proofs.IndexKeysLemmas.{kept_by_key, none_kept}
use Rattle.gix_odb_core.proofs.index_key.has_one_of.Goals as goal

pub returns-in-None : goal.returns-in-None
returns-in-None c = record { kept = λ rows keys. sym (ap (is_kept rows) c.in-None.is ∙ none_kept rows) }

pub returns-in-Some : goal.returns-in-Some
returns-in-Some c = record {
  kept = λ rows keys.
      c.contains.ensures
      ∙ keys c.of_filled.result
      ∙ kept_by_key rows c.of_filled.result c.in-Some.filled
      (c.of_filled.ensures.path ∙ ap (λ filled. index_path filled.index) c.value.ensures.value)
      (c.of_filled.ensures.time ∙ ap (λ filled. index_time filled.index filled.time) c.value.ensures.value)
      ∙ ap (is_kept rows) (sym c.in-Some.is);
}
