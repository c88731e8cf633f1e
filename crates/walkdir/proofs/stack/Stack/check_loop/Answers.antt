-- The nearest directory at a place is found from the innermost on.
use Rattle.std.proofs.Common.{◌≡◌, Some, None, ap, reverse, sym, ◌∙◌, rules, tests}
use Rattle.std.specs.Borrow.{Bor}
use Rattle.std.specs.Prelude.{find}
use Rattle.std.specs.Option.{option_map}
use Rattle.std.proofs.lemmas.Iterator.Adapters.{YieldsList-from_rev_slice}
use Rattle.std.proofs.lemmas.Iterator.Search.{find_from_yields_List}
use Rattle.walkdir.specs.Walk.{Ancestor}
use Rattle.walkdir.specs.Walk.Entries.{same_place}
use Rattle.walkdir.specs.declared.directory.DirList.{DirList}
use Rattle.walkdir.proofs.HandlesLemmas.Followed.{standing_found}
use Rattle.walkdir.proofs.stack.Stack.check_loop.Goals as goal

pub returns-in-Some-clause-checks : goal.returns-in-Some-clause-checks
returns-in-Some-clause-checks g c =
    let lists = c.args.self.now.lists.items in
    let found : option_map (λ y. y.now) c.find.result ≡ find (λ (list : DirList). same_place c.args.place list.place) (reverse lists) =
    find_from_yields_List (λ (list : DirList). same_place c.args.place list.place) _ _ c.find.result c.find.ensures.ran
    (YieldsList-from_rev_slice lists (cc)) (λ x b q k. search (rules, tests)) in
    let ancestor : Ancestor = record { path = c.in-Some.list.now.path; place = c.in-Some.list.now.place } in
    let one : option_map (λ (y : Bor DirList). y.now) c.find.result ≡ Some c.in-Some.list.now =
    ap (option_map (λ (y : Bor DirList). y.now)) c.in-Some.is in
    (ancestor, standing_found lists c.args.place (Some c.in-Some.list.now) (sym found ∙ one), c.from_loop.ensures.made)

pub returns-in-None-clause-checks : goal.returns-in-None-clause-checks
returns-in-None-clause-checks g c =
    let lists = c.args.self.now.lists.items in
    let found : option_map (λ y. y.now) c.find.result ≡ find (λ (list : DirList). same_place c.args.place list.place) (reverse lists) =
    find_from_yields_List (λ (list : DirList). same_place c.args.place list.place) _ _ c.find.result c.find.ensures.ran
    (YieldsList-from_rev_slice lists (cc)) (λ x b q k. search (rules, tests)) in
    let one : option_map (λ (y : Bor DirList). y.now) c.find.result ≡ None = ap (option_map (λ (y : Bor DirList). y.now)) c.in-None.is in
    standing_found lists c.args.place None (sym found ∙ one)
