use Rattle.std.proofs.Common.{rules, List, ◌++◌, ◌∷◌, [], map, Some, Ok, Err, inl, inr, refl, sym, ap, subst, ◌∙◌}
use Rattle.std.proofs.lemmas.List.{map-append}
use Rattle.std.specs.Iterator.{Yields}
use Rattle.walkdir.specs.Error.{no_memory}
use Rattle.walkdir.specs.Walk.{Item}
use Rattle.walkdir.specs.declared.dent.DirEntry.{DirEntry}
use Rattle.walkdir_uses.proofs.FoundLemmas.{if_err, yields_more}
use Rattle.walkdir_uses.proofs.all_of.Goals as goal

-- one more entry
pub loop-item-preserved : goal.loop-item-preserved
loop-item-preserved g c =
    let entry = c.in_ok-item.field-0 in
    let items : List Item = map Ok c.loop-item.entries.items in
    let step = subst (λ item. g.W.Iterator.next_gives c.loop-item.walk item c.next.new.self) (c.in-Some.is ∙ ap Some c.in_ok-item.was) c.next.ensures.steps in
    let along = yields_more g.W.Iterator.next_gives c.args.walk.now items c.loop-item.walk (Ok entry) c.next.new.self c.loop-item.invariant.gave step in
    record {
      can = search rules;
      finite = search rules;
      gave = subst (λ items. Yields g.W.Iterator.next_gives c.args.walk.now items c.next.new.self)
          (sym (ap (λ (entries : List DirEntry). map Ok entries) c.in_ok-push.ensures.items ∙ map-append Ok c.loop-item.entries.items (entry ∷ []))) along;
    }

-- an error is given after the entries
pub returns-in_err-item-clause-part : goal.returns-in_err-item-clause-part
returns-in_err-item-clause-part g c =
    let error = c.in_err-item.field-0.0 in
    let items : List Item = map Ok c.loop-item.entries.items in
    let step = subst (λ item. g.W.Iterator.next_gives c.loop-item.walk item c.next.new.self) (c.in-Some.is ∙ ap Some c.in_err-item.was) c.next.ensures.steps in
    let along = yields_more g.W.Iterator.next_gives c.args.walk.now items c.loop-item.walk (Err error) c.next.new.self c.loop-item.invariant.gave step in
    if_err c.from_residual.result error _ c.from_residual.ensures.1 (items ++ Err error ∷ [], along, inr (c.loop-item.entries.items, refl))

-- memory ran out after one more entry
pub returns-in_err-push-clause-part : goal.returns-in_err-push-clause-part
returns-in_err-push-clause-part g c =
    let entry = c.in_ok-item.field-0 in
    let items : List Item = map Ok c.loop-item.entries.items in
    let step = subst (λ item. g.W.Iterator.next_gives c.loop-item.walk item c.next.new.self) (c.in-Some.is ∙ ap Some c.in_ok-item.was) c.next.ensures.steps in
    let along = yields_more g.W.Iterator.next_gives c.args.walk.now items c.loop-item.walk (Ok entry) c.next.new.self c.loop-item.invariant.gave step in
    if_err c.from_residual-in_err-push.result no_memory _ (search rules) (items ++ Ok entry ∷ [], along, inl refl)
