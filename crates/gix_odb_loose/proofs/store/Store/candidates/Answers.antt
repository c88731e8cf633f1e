use Rattle.std.proofs.Common.{refl}
use Rattle.gix_odb_loose.specs.Store.{store_path}
use Rattle.gix_odb_loose.proofs.PrefixSearchesLemmas.Drives.{back_unmoved, stands_first}
use Rattle.gix_odb_loose.proofs.store.Store.candidates.Goals as goal

pub run-requires : goal.run-requires
run-requires g c =
    record { stands = (_, refl, stands_first _ _ _ (store_path c.args.self.now) c.args.prefix c.args.gather c.in_ok-search.search c.hex_len.ensures.prefix c.in_ok-search.ensures.begun) }

pub returns-clause-found : goal.returns-clause-found
returns-clause-found g c =
    c.run.ensures.found _ refl (stands_first _ _ _ (store_path c.args.self.now) c.args.prefix c.args.gather c.in_ok-search.search c.hex_len.ensures.prefix c.in_ok-search.ensures.begun)

pub returns-clause-streams : goal.returns-clause-streams
returns-clause-streams g c =
    c.run.ensures.streams _ refl (stands_first _ _ _ (store_path c.args.self.now) c.args.prefix c.args.gather c.in_ok-search.search c.hex_len.ensures.prefix c.in_ok-search.ensures.begun)

pub returns-in_err-search-clause-streams : goal.returns-in_err-search-clause-streams
returns-in_err-search-clause-streams g c = back_unmoved _
