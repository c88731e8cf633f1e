-- Temporary files whose way was cut off in an undisturbed run: each stays where it was made, as long as other programs leave
-- it and the way to its spot alone.
pub mod Spot
pub mod WasCut
use Rattle.std.proofs.Common.{◌≡◌, ◌≢◌, inl, inr, ℕ, zero, suc, ◌+◌, ◌<◌, ◌≤◌, Bool, true, false, take, Some, None, refl, sym, ◌∙◌, subst, arith}
use Rattle.std.specs.Prelude.{slice_get, ◌==◌}
use Rattle.std.proofs.lemmas.Bool.{cases_lt, eqb-false, eqb-true}
use Rattle.odb_base.specs.Path.{Path}
use Rattle.odb_disk.specs.Tree.{IsTree, Tree}
use Rattle.odb_disk.specs.Tree.Way.{SameOnWay}
use Rattle.odb_disk.specs.Tree.Write.{spot}
use Rattle.odb_disk.proofs.OwnWayLaws.{Stops, stop_below_root, stops_kept}
use Rattle.gix_odb_loose.specs.WriteOrder.{temp_name}
use Rattle.gix_odb_loose.proofs.NameLaws.{IsTemporary}
use Rattle.gix_odb_history.specs.Event.{Event}
use Rattle.gix_odb_history.specs.Run.{IsTurnOf, tree_at}
use Rattle.gix_odb_world.specs.Undisturbed.{HasMade, IsUndisturbed, OthersLeave}
use Rattle.gix_odb_world.proofs.LawfulRun.{LawfulRun}
use Rattle.gix_odb_world.proofs.OwnFiles as along
use Rattle.gix_odb_world.proofs.OwnFiles.Over as over
use Rattle.gix_odb_world.proofs.OwnFiles.Standing as files
use Rattle.gix_odb_world.proofs.OwnFiles.Writer as writers
use Rattle.gix_odb_world.proofs.OwnFiles.Turn as turns
use Rattle.gix_odb_world.proofs.RunSteps.{Kind, Made, Quiet, Turned, event_or_end, kind_at}
use Rattle.gix_odb_world.proofs.CutFiles.WasCut as records
use Rattle.gix_odb_world.proofs.CutFiles.Spot.{not_vacant, spot_left, spot_stops}

module _ (run : LawfulRun) where
  open run use {first, events}

  abbrev tree : ℕ → Tree
  tree = tree_at first events

  abbrev Files : ℕ → Type 0
  Files = files.Files run

  abbrev Leaves : Path → ℕ → Type 0
  Leaves = records.Leaves run

  abbrev Stands : (handle now : ℕ) → Path → Type 0
  Stands = records.Stands run

  abbrev CutOff : (handle made : ℕ) → Path → ℕ → Type 0
  CutOff = records.CutOff run

  abbrev AllKept : ℕ → Type 0
  AllKept = records.AllKept run

  -- ---- one more event

  module _ (now : ℕ) (e : Event) (there : slice_get events now ≡ Some e) (all : Files now) (calm : IsUndisturbed first events (now + 1)) where
    -- the turn of another write leaves it alone
    left_by_writer : (handle : ℕ) (s : Path) → IsTemporary s → Stands handle now s → (b : writers.ByWriter run now e)
        → b.handle ≢ handle → Leaves s now
    left_by_writer handle s temporary stands b differs =
        subst (λ u. SameOnWay (tree now) u true s) (sym (files.changed_to run now e there b.change b.is))
        (spot_left (tree now) is_tree temporary.0 (temp_name temporary.1) s temporary.2 stands.stops w.from b.change w.does_it.own another
        (λ p renames same. w.does_it.onto p renames (subst IsTemporary (sym same) temporary)))
      where
        is_tree : IsTree (tree now)
        is_tree = writers.is_tree run now

        w : files.Wrote run now e there b
        w = files.wrote run now e there all b

        another : w.from ≢ s
        another same = elim w.whose [
          | inl root ↦ stop_below_root (tree now) is_tree true s s stands.stops (root ∙ same)
          | inr his ↦ stands.apart b.handle his.0 his.1 differs his.2 his.3.0 (his.3.1 ∙ same)
        ]

    -- as does every event, where other programs do
    left_alone : (handle made : ℕ) (path : Path) → HasMade first events handle made path now → (c : CutOff handle made path now)
        → OthersLeave first events c.cut.own.spot (c.place + 1) (now + 1) → Leaves c.cut.own.spot now
    left_alone handle made path hm c leave = by_kind (kind_at run now e there)
      where
        unchanged : e.entry.change ≡ None → Leaves c.cut.own.spot now
        unchanged none = files.same_way run now e there c.cut.own.spot none

        stands : Stands handle now c.cut.own.spot
        stands = c.stands (λ place x later within at outside. leave place x later (omega (arith, within)) at outside)

        by_writer : (b : writers.ByWriter run now e) (same : Bool) → (b.handle == handle) ≡ same
            → Leaves c.cut.own.spot now
        by_writer b true is = unchanged (turns.lost_turn run now e there handle made path hm (subst (λ h. IsTurnOf h e) (eqb-true b.handle handle is) b.turn) c.lost)
        by_writer b false is = left_by_writer handle c.cut.own.spot c.cut.temporary stands b (eqb-false b.handle handle is)

        by_kind : Kind first (take now events) e → Leaves c.cut.own.spot now
        by_kind (Quiet q) = unchanged q.none
        by_kind (Made m) = let before = c.before in leave now e (omega (arith, before)) (omega arith) there m.outside
        by_kind (Turned t) = elim (writers.quiet_or_writer run now e there t) [ inl none ↦ unchanged none | inr b ↦ by_writer b (b.handle == handle) refl ]

    -- where it was left alone it is still there
    stands_next : (handle : ℕ) (s : Path) → Leaves s now → Stands handle now s → Stands handle (now + 1) s
    stands_next handle s same stands = record { stops = stops_kept (tree now) (tree (now + 1)) true s s same stands.stops; apart = apart }
      where
        apart : (other last : ℕ) (twin : Path) → other ≢ handle → HasMade first events other last twin (now + 1) → (o : files.Own run other last twin (now + 1))
            → o.spot ≢ s
        apart other last twin differs hm o = elim (along.old_or_new run now e there other last twin hm) [
          | inl soon ↦
              let was = files.made_before run now e there other last twin hm soon in
              let been = along.own_before run now e there all calm other last twin was o in
              λ same. stands.apart other last twin differs was been.0 (been.1 ∙ same)
          | inr is ↦ not_vacant (tree now) s twin o.spot stands.stops (along.new_vacant run now e there other last twin hm is o)
        ]

    cut_next : (handle made : ℕ) (path : Path) → HasMade first events handle made path now → CutOff handle made path now
        → CutOff handle made path (now + 1)
    cut_next handle made path hm c =
        let before = c.before in
        record {
          lost = along.lost_next run now e there all calm handle made path hm c.lost;
          place = c.place;
          later = c.later;
          before = omega (arith, before);
          cut = c.cut;
          stays = stays;
          stands = λ leave. stands_next handle c.cut.own.spot (left_alone handle made path hm c leave)
              (c.stands (λ place x later within at outside. leave place x later (omega (arith, within)) at outside));
        }
      where
        stays : (step : ℕ) → c.place ≤ step → step < now + 1 → OthersLeave first events c.cut.own.spot (c.place + 1) (step + 1)
            → Leaves c.cut.own.spot step
        stays step later soon leave = elim (cases_lt step now) [
          | inl early ↦ c.stays step later early leave
          | inr late ↦
              let is : now ≡ step = omega (arith, soon, late) in
              subst (Leaves c.cut.own.spot) is (left_alone handle made path hm c (λ place x from within at outside. leave place x from (omega (arith, within, is)) at outside))
        ]

    -- a file is where its own path leads
    own_stands : (handle made : ℕ) (path : Path) → HasMade first events handle made path now → (o : files.Own run handle made path now)
        → Stands handle now o.spot
    own_stands handle made path hm o = record {
      stops = spot_stops (tree now) path o.spot o.own;
      apart = λ other last twin differs his p. all.apart other handle last made twin path differs his hm p o;
    }

    cut_now : (handle made : ℕ) (path : Path) (hm : HasMade first events handle made path now) (o : files.Own run handle made path now)
        → files.CutNow run now e there handle made path hm o.spot → CutOff handle made path (now + 1)
    cut_now handle made path hm o c =
        record {
          lost = files.lost_now run now e there handle made path hm o.spot c;
          place = now;
          later = hm.before;
          before = omega arith;
          cut = record {
            own = o;
            temporary = files.temporary run now e there handle made path hm o.spot o.own;
            event = e;
            there = there;
            other = c.other;
            apart = c.apart;
            turn = c.turn;
            cuts = c.cuts;
          };
          stays = λ step later soon leave. let is : now ≡ step = omega (arith, later, soon) in subst (Leaves o.spot) is c.cuts.file;
          stands = λ leave. stands_next handle o.spot c.cuts.file (own_stands handle made path hm o);
        }

    next : AllKept now → AllKept (now + 1)
    next each handle made path hm = elim (along.old_or_new run now e there handle made path hm) [
      | inl soon ↦
          let was = files.made_before run now e there handle made path hm soon in
          elim (each handle made path was) [
            | inl o ↦ elim (along.own_next run now e there all calm handle made path was hm o) [ inl own ↦ inl own | inr c ↦ inr (cut_now handle made path was o c) ]
            | inr c ↦ inr (cut_next handle made path was c)
          ]
      | inr is ↦ inl (along.new_next run now e there handle made path hm is)
    ]

  -- ---- along a run

  -- where the run is over nothing changes
  module _ (now : ℕ) (none : slice_get events now ≡ None) where
    over_leaves : (s : Path) → Leaves s now
    over_leaves s =
        let one : suc now ≡ now + 1 = omega arith in
        writers.same_tree_on_way (tree now) (tree (now + 1)) s (subst (λ n. tree n ≡ tree now) one (over.over_tree run now none))

    over_stands : (handle : ℕ) (s : Path) → Stands handle now s → Stands handle (suc now) s
    over_stands handle s stands =
        record {
          stops = subst (λ u. Stops u true s s) (sym (over.over_tree run now none)) stands.stops;
          apart = λ other last twin differs hm o same.
              let was = over.over_made run now none other last twin hm in
              let been = over.back_own run now none other last twin o in
              stands.apart other last twin differs was been.0 (been.1 ∙ same);
        }

    over_cut : (handle made : ℕ) (path : Path) → CutOff handle made path now → CutOff handle made path (suc now)
    over_cut handle made path c =
        let before = c.before in
        record {
          lost = over.over_lost run now none path c.lost;
          place = c.place;
          later = c.later;
          before = omega (arith, before);
          cut = c.cut;
          stays = stays;
          stands = λ leave. over_stands handle c.cut.own.spot (c.stands (λ place x later within at outside. leave place x later (omega (arith, within)) at outside));
        }
      where
        stays : (step : ℕ) → c.place ≤ step → step < suc now → OthersLeave first events c.cut.own.spot (c.place + 1) (step + 1)
            → Leaves c.cut.own.spot step
        stays step later soon leave = elim (cases_lt step now) [
          | inl early ↦ c.stays step later early leave
          | inr late ↦ let is : now ≡ step = omega (arith, soon, late) in subst (Leaves c.cut.own.spot) is (over_leaves c.cut.own.spot)
        ]

    kept_over : AllKept now → AllKept (suc now)
    kept_over each handle made path hm = elim (each handle made path (over.over_made run now none handle made path hm)) [
      | inl o ↦ inl (over.over_own run now none handle made path o)
      | inr c ↦ inr (over_cut handle made path c)
    ]

  -- after each event of an undisturbed run each temporary file is alone, or was cut off
  pub cuts_at : (now : ℕ) → IsUndisturbed first events now → AllKept now
  cuts_at zero calm = λ handle made path hm. let before = hm.before in absurd (omega (arith, before))
  cuts_at (suc now) calm =
      let calm_before : IsUndisturbed first events now = λ place e within there outside handle made path hm. calm place e (omega (arith, within)) there outside handle made path hm in
      let each = cuts_at now calm_before in
      elim (event_or_end events now) [
        | inl at ↦
            let one : now + 1 ≡ suc now = omega arith in
            let calm_after : IsUndisturbed first events (now + 1) = λ place e within there outside handle made path hm. calm place e (omega (arith, within)) there outside handle made path hm in
            subst AllKept one (next now at.0 at.1 (along.files_at run now calm_before) calm_after each)
        | inr none ↦ kept_over now none each
      ]
