use Rattle.std.proofs.Common.{◌≡◌, ℕ, ◌<◌, false, get_or, subst, arith}
use Rattle.std.proofs.lemmas.List.{take_all}
use Rattle.gix_odb_events.specs.Shown.{is_listed}
use Rattle.gix_odb_events.proofs.PlacesLemmas.{listed_marks}
use Rattle.gix_odb_events.proofs.places.marks_of.Goals as goal

pub returns : goal.returns
returns c =
    let places = c.args.places.now in
    let marks = c.loop-place.marks.items in
    let count = c.count_of-count.result in
    let marked = λ (k : ℕ) (within : k < count). subst (λ list. get_or marks k false ≡ is_listed list k) (take_all c.loop-place.place-index places (omega arith)) (c.loop-place.invariant.1 k within) in
    record { marked = listed_marks places count marks c.count_of-count.ensures.above c.loop-place.invariant.0 marked }
