use Rattle.std.proofs.Common.{◌≡◌, ◌==◌, Contains, Option, Some, true, false, find, sym, ◌∙◌}
use Rattle.std.proofs.lemmas.Bool.{false≢true}
use Rattle.std.proofs.lemmas.Result.{IfOk-weaker}
use Rattle.gix_odb_events.specs.Shown.{is_listed, shown_kept, shown_slot}
use Rattle.gix_odb_events.specs.Slots.{slot_at}
use Rattle.gix_odb_events.specs.declared.loaded.SnapshotIndex.{SnapshotIndex}
use Rattle.gix_odb_events.proofs.ShownLemmas.{kept_find, kept_find-listed, kept_only}
use Rattle.gix_odb_events.proofs.loaded.KeptList.in_slot.Goals as goal

-- the slot is not among these
pub returns-then-listed-clause-first : goal.returns-then-listed-clause-first
returns-then-listed-clause-first c =
    let of = c.self.inside.of in
    let place = c.args.place in
    let here : is_listed of.list place ≡ true = cc in
    let view : c.args.self.now ≡ shown_kept of.slots of.list = cc in
    rw view (kept_find-listed of.slots of.list place here)

pub returns-then-listed-clause-only : goal.returns-then-listed-clause-only
returns-then-listed-clause-only c = λ index has under.
    let of = c.self.inside.of in
    let place = c.args.place in
    let here : is_listed of.list place ≡ true = cc in
    let view : c.args.self.now ≡ shown_kept of.slots of.list = cc in
    let there = kept_only of.slots of.list place index (rw view at has) under in
    absurd (false≢true (sym there.0 ∙ here))

pub returns-clause-first : goal.returns-clause-first
returns-clause-first c =
    let of = c.self.inside.of in
    let place = c.args.place in
    let here : is_listed of.list place ≡ false = cc in
    let view : c.args.self.now ≡ shown_kept of.slots of.list = cc in
    let same : c.value-of.result.now ≡ of = cc in
    let now : shown_slot place (slot_at c.value-of.result.now.slots place) ≡ find (λ index. index.slot == place) c.args.self.now = rw (view, same) (kept_find of.slots of.list place here) in
    IfOk-weaker c.shown_at.result (λ (found : Option SnapshotIndex). found ≡ shown_slot place (slot_at c.value-of.result.now.slots place))
    (λ (found : Option SnapshotIndex). found ≡ find (λ index. index.slot == place) c.args.self.now) (λ found is. is ∙ now) c.shown_at.ensures.shown

pub returns-clause-only : goal.returns-clause-only
returns-clause-only c =
    let of = c.self.inside.of in
    let place = c.args.place in
    let view : c.args.self.now ≡ shown_kept of.slots of.list = cc in
    let same : c.value-of.result.now ≡ of = cc in
    IfOk-weaker c.shown_at.result (λ (found : Option SnapshotIndex). found ≡ shown_slot place (slot_at c.value-of.result.now.slots place))
    (λ (found : Option SnapshotIndex). (index : SnapshotIndex) → Contains c.args.self.now index → index.slot ≡ place → found ≡ Some index)
    (λ found is index has under. is ∙ rw same (kept_only of.slots of.list place index (rw view at has) under).1) c.shown_at.ensures.shown
