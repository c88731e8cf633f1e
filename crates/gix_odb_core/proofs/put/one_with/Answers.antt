use Rattle.std.proofs.Common.{◌≡◌, ◌∙◌, sym}
use Rattle.std.proofs.lemmas.Result.{IfOk-weaker}
use Rattle.gix_odb_core.specs.PacksWith.{packs_with, place_with}
use Rattle.gix_odb_core.proofs.PacksOfPathLemmas.{is-there, packs_with-one}
use Rattle.gix_odb_core.proofs.put.one_with.Goals as goal

-- the pack that has the path is there
pub returns-in-None : goal.returns-in-None
returns-in-None c = absurd (is-there c.args.path.now c.args.packs.now c.args.place c.requires.rising c.requires.first (sym c.in-None.ensures.pack))

-- and it is the only one
pub returns-in-Some : goal.returns-in-Some
returns-in-Some c = record {
  packs = IfOk-weaker c.place_with.result (λ stored. stored ≡ place_with c.args.path.now c.args.read.now c.args.packs.now c.args.place c.in-Some.pack.now)
      (λ stored. stored ≡ packs_with c.args.path.now c.args.read.now c.args.packs.now)
      (λ stored e.
      e
      ∙ sym (packs_with-one c.args.path.now c.args.packs.now c.args.place c.requires.rising c.requires.first c.in-Some.pack.now (sym c.in-Some.ensures.pack) c.args.read.now))
      c.place_with.ensures.packs;
}
