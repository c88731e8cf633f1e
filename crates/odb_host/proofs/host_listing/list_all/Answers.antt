use Rattle.std.proofs.Common.{◌∷◌, ◌++◌, [], sym, subst}
use Rattle.std.specs.Iterator.{Yields}
use Rattle.std.proofs.lemmas.Slice.Zip.{all_zipped_more}
use Rattle.odb_host.specs.HostListing.{IsFoundIn, IsListing, ListsNone}
use Rattle.odb_host.proofs.HostListingLemmas.{if_err, lists_last, lists_no_more, lists_none}
use Rattle.odb_host.proofs.host_listing.list_all.Goals as goal

pub loop-name-init : goal.loop-name-init
loop-name-init g c = ([], tt, subst (IsListing c.args.most []) (sym c.new-listing.ensures.bare) (lists_none c.args.most))

pub loop-name-preserved : goal.loop-name-preserved
loop-name-preserved g c =
    let (found, each, is) = c.loop-name.invariant in
    let took = c.in_ok-take.ensures.takes in (
      found ++ took.found ∷ [],
      all_zipped_more IsFoundIn c.loop-name.yielded found c.in-Some.name took.found each took.is,
      lists_last c.args.most found took.found c.loop-name.listing c.take.new.self is took.added took.kept took.few,
    )

pub returns-in_err-take-clause-unlisted : goal.returns-in_err-take-clause-unlisted
returns-in_err-take-clause-unlisted g c =
    let (found, each, is) = c.loop-name.invariant in
    let some = subst (λ s. Yields g.I.Iterator.next_gives s c.loop-name.yielded c.loop-name.name-iterator) c.into_iter-name-iterator.ensures.into_iter_gives c.loop-name.yielded_by in
    if_err c.from_residual.result c.in_err-take.field-0.0 (λ e. ListsNone g.I.Iterator.next_gives c.args.names c.args.most e) c.from_residual.ensures.1
    (lists_no_more g.I.Iterator.next_gives c.args.names _ c.next.new.self c.args.most
    c.loop-name.yielded c.in-Some.name found c.loop-name.listing c.take.new.self c.in_err-take.field-0.0 some c.in-Some.ensures.steps each is c.in_err-take.ensures.takes)
