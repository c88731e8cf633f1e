use Rattle.std.proofs.Common.{rules, arith, ◌≡◌, ◌++◌, ◌∷◌, ◌==◌, [], map, Global, append-nil, sym, ap, ◌∙◌}
use Rattle.std.specs.List.{slice_index}
use Rattle.std.specs.declared.vec.IntoIter.{IntoIter}
use Rattle.walkdir.specs.declared.dent.DirEntry.{DirEntry}
use Rattle.std.proofs.lemmas.List.{map-append}
use Rattle.walkdir_uses.proofs.FoundLemmas.{all_taken, name_hidden, name_shown, none_left}
use Rattle.walkdir_uses.specs.Found.{visible_names}
use Rattle.walkdir_uses.proofs.visible_names_of.Goals as goal
use Rattle.walkdir_uses.proofs.visible_names_of.Goals.{then-not-starts_with+in_ok-from_str+in_ok-push, else-not-starts_with}

pub loop-entry-preserved : goal.loop-entry-preserved
loop-entry-preserved c =
    let entry = c.in-Some.entry in
    let entries = c.loop-entry.yielded in
    let dotted = c.starts_with.ensures.byte (omega arith) (omega arith) (λ w o finds. finds) ∙ ap (λ name. slice_index name 0 == 46) c.file_name.ensures.told in
    elim c.if-not-starts_with.branch [
      | then-not-starts_with+in_ok-from_str+in_ok-push w ↦
          ap (λ names. map (λ name. name.bytes.items) names.items) w.names-is ∙ ap (map (λ name. name.bytes.items)) w.in_ok-push.ensures.items
          ∙ map-append (λ name. name.bytes.items) c.loop-entry.names.items (w.in_ok-from_str.field-0 ∷ [])
          ∙ ap (λ name. map (λ name. name.bytes.items) c.loop-entry.names.items ++ name ∷ []) (w.in_ok-from_str.ensures.ok ∙ w.file_name-then-not-starts_with.ensures.told)
          ∙ name_shown entries entry (map (λ name. name.bytes.items) c.loop-entry.names.items) c.starts_with.result dotted (search rules) c.loop-entry.invariant
      | else-not-starts_with w ↦
          ap (λ names. map (λ name. name.bytes.items) names.items) w.names-is
          ∙ name_hidden entries entry (map (λ name. name.bytes.items) c.loop-entry.names.items) c.starts_with.result dotted (search rules) c.loop-entry.invariant
    ]

pub returns : goal.returns
returns c =
    let none : c.loop-entry.entry-iterator.rest.items ≡ [] = none_left c.loop-entry.entry-iterator.rest.items (omega (arith, c.in-None.ensures.steps.0)) in
    let taken = all_taken (λ (i : IntoIter DirEntry Global). i.rest.items) (λ (i : IntoIter DirEntry Global). i.rest.len) c.into_iter-entry-iterator.result c.loop-entry.yielded
    c.loop-entry.entry-iterator c.loop-entry.yielded_by in
    let all : c.loop-entry.yielded ≡ c.args.entries.items =
    sym (append-nil c.loop-entry.yielded) ∙ ap (λ rest. c.loop-entry.yielded ++ rest) (sym none) ∙ sym taken ∙ c.into_iter-entry-iterator.ensures.into_iter_gives.0 in
    record { names = c.loop-entry.invariant ∙ ap visible_names all }
