use Rattle.std.proofs.Common.{◌≡◌, ◌∙◌, map, set, sym}
use Rattle.std.proofs.lemmas.Result.{IfOk-weaker}
use Rattle.gix_odb_core.specs.Files.{passed_at}
use Rattle.gix_odb_core.proofs.PacksOfPathLemmas.{passed-one}
use Rattle.gix_odb_core.proofs.pass.one_passed.Goals as goal

-- the pack at the place is the only one that has the path
pub returns-in-Some : goal.returns-in-Some
returns-in-Some c = record {
  packs = IfOk-weaker c.place_passed.result (λ copies. copies ≡ set c.args.packs.now c.args.place (passed_at c.args.path.now c.in-Some.pack.now))
      (λ copies. copies ≡ map (passed_at c.args.path.now) c.args.packs.now)
      (λ copies e.
      e ∙ sym (passed-one c.args.path.now c.args.packs.now c.args.place c.requires.rising c.requires.first c.in-Some.pack.now (sym c.in-Some.ensures.pack)))
      c.place_passed.ensures.packs;
}
