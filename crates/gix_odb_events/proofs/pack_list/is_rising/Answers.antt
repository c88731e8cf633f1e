use Rattle.std.proofs.Common.{◌≡◌, ◌∙◌, ap, arith, sym}
use Rattle.odb_base.specs.Path.{Path, path_cmp}
use Rattle.gix_odb_events.specs.PackFiles.{PackFile}
use Rattle.gix_odb_events.proofs.PackListLaws.{rising-more}
use Rattle.gix_odb_events.proofs.pack_list.is_rising.Goals as goal

-- the path before this one is before it
pub loop-place-preserved : goal.loop-place-preserved
loop-place-preserved c =
    let last = c.index-packs-place.result in
    let next = c.index-packs-place-in-loop-place.result in
    let before : c.path-before.result.now ≡ last.path = c.path-before.ensures.path ∙ ap (λ (p : PackFile). p.path) c.value.ensures.value in
    let after : c.path.result.now ≡ next.path = c.path.ensures.path ∙ ap (λ (p : PackFile). p.path) c.value-in-loop-place.ensures.value in
    rising-more c.args.packs.now c.loop-place.place last next (omega arith) (omega arith) c.index-packs-place.is c.index-packs-place-in-loop-place.is
    (ap (λ (p : Path). path_cmp p next.path) (sym before) ∙ ap (path_cmp c.path-before.result.now) (sym after) ∙ c.is_below.ensures.below c.if-not-is_below.false)
    c.loop-place.invariant
