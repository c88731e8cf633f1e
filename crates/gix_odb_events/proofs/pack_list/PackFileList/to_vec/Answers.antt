use Rattle.std.proofs.Common.{◌++◌, ◌∙◌, ap}
use Rattle.std.specs.List.{slice_get}
use Rattle.std.specs.Option.{option_to_list}
use Rattle.gix_odb_events.proofs.PackListLaws.{take-next}
use Rattle.gix_odb_events.proofs.pack_list.PackFileList.to_vec.Goals as goal

pub loop-place-preserved : goal.loop-place-preserved
loop-place-preserved c =
    c.in_ok-put_pack.ensures.put
    ∙ ap (λ front. front ++ option_to_list (slice_get c.args.self.now c.loop-place.place)) c.loop-place.invariant
    ∙ take-next c.args.self.now c.loop-place.place
