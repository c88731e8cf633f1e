use Rattle.std.proofs.Common.{sym, ◌∙◌}
use Rattle.gix_odb_search.proofs.PackAmongLemmas.{pack_among-first, pack_among-none}
use Rattle.gix_odb_search.proofs.trier.stored.pack_among.Goals as goal

pub returns-in-None : goal.returns-in-None
returns-in-None c = record { pack = sym (pack_among-none c.args.pack.now c.args.packs.now c.in-None.ensures.place) }

pub returns-in-Some : goal.returns-in-Some
returns-in-Some c = record {
  pack = c.loaded_at.ensures.pack ∙ sym (pack_among-first c.args.pack.now c.args.packs.now c.in-Some.place c.in-Some.ensures.place);
}
