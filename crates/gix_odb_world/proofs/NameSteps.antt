-- In an undisturbed run the name that a write made holds a whole encoding.
pub mod Given
use Rattle.std.proofs.Common.{◌≡◌, ◌⊎◌, inl, inr, ℕ, zero, suc, ◌+◌, ◌-◌, ◌<◌, ◌≤◌, Bool, true, false, Ok, refl, sym, ◌∙◌, subst, arith}
use Rattle.std.specs.Prelude.{◌==◌}
use Rattle.std.proofs.lemmas.Bool.{eqb-false, eqb-true}
use Rattle.odb_base.specs.Path.{Path}
use Rattle.odb_disk.specs.Tree.{Tree}
use Rattle.odb_disk.specs.Tree.Way.{crosses}
use Rattle.odb_disk.specs.Tree.Write.{spot}
use Rattle.odb_disk.proofs.OwnWayLaws.{OwnSpot, own_kept}
use Rattle.odb_disk.proofs.WayLaws.{read_kept}
use Rattle.gix_odb_history.specs.Run.{tree_at}
use Rattle.gix_odb_world.specs.Undisturbed.{IsUndisturbed}
use Rattle.gix_odb_world.specs.WholeNames.{GivesAgain, GivesName, HoldsWhole, LeavesAlone, NamesStayWhole, name_path}
use Rattle.gix_odb_history.specs.Writing.{ToWrite}
use Rattle.gix_odb_world.proofs.LawfulRun.{LawfulRun}
use Rattle.gix_odb_world.proofs.NameSteps.Given.{target_is, whole_after, full, spot_after, whole_again, spot_again}

module _ (run : LawfulRun) where
  open run use {first, events}

  abbrev tree : ℕ → Tree
  tree = tree_at first events

  module _ (place : ℕ) (w : ToWrite) (to : Path) (gives : GivesName events place w to) (free : crosses (tree place) (name_path w) to ≡ false) where
    abbrev path : Path
    path = name_path w

    record Holds (now : ℕ) : Type 0 where
      holds : HoldsWhole first events path place now
      spot : Path
      own : OwnSpot (tree now) path spot

    abbrev Kept : ℕ → Type 0
    Kept now = (step : ℕ) → place < step → step < now → LeavesAlone first events path step ⊎ GivesAgain first events path step

    calm_before : (now later : ℕ) → now ≤ later → IsUndisturbed first events later → IsUndisturbed first events now
    calm_before now later soon calm at e before there outside handle made other hm = calm at e (omega (arith, soon, before)) there outside handle made other hm

    at_rename : IsUndisturbed first events (place + 1) → Holds (place + 1)
    at_rename calm =
        let before = calm_before place (place + 1) (omega arith) calm in
        record {
          holds = record {
            last = place;
            later = omega arith;
            before = omega arith;
            gives = record { write = w; to = to; gives = gives; onto = target_is run place w to gives before };
            since = λ step later soon. absurd (omega (arith, later, soon));
            whole = whole_after run place w to gives before free;
            full = full run place w to gives;
          };
          spot = to;
          own = spot_after run place w to gives before free;
        }

    left_next : (now : ℕ) → Holds now → LeavesAlone first events path now → Holds (now + 1)
    left_next now h alone =
        let k = h.holds in
        let before = k.before in
        record {
          holds = record {
            last = k.last;
            later = k.later;
            before = omega (arith, before);
            gives = k.gives;
            since = λ step later soon. by_step step later soon (step == now) refl;
            whole = read_kept (tree now) (tree (now + 1)) path alone ∙ k.whole;
            full = k.full;
          };
          spot = h.spot;
          own = own_kept (tree now) (tree (now + 1)) path h.spot alone h.own;
        }
      where
        by_step : (step : ℕ) → h.holds.last < step → step < now + 1 → (same : Bool) → (step == now) ≡ same → LeavesAlone first events path step
        by_step step later soon true same = subst (LeavesAlone first events path) (sym (eqb-true step now same)) alone
        by_step step later soon false apart = let differs = eqb-false step now apart in h.holds.since step later (omega (arith, soon, differs))

    given_next : (now : ℕ) → place < now → IsUndisturbed first events now → Holds now → GivesAgain first events path now → Holds (now + 1)
    given_next now late calm h again =
        let both : Ok h.spot ≡ Ok again.to = sym h.own.is ∙ again.onto in
        let there : OwnSpot (tree now) path again.to = subst (OwnSpot (tree now) path) (cc both) h.own in
        record {
          holds = record {
            last = now;
            later = omega (arith, late);
            before = omega arith;
            gives = again;
            since = λ step later soon. absurd (omega (arith, later, soon));
            whole = whole_again run now again.write again.to again.gives calm path there;
            full = full run now again.write again.to again.gives;
          };
          spot = again.to;
          own = spot_again run now again.write again.to again.gives calm path there;
        }

    holds_on : (more : ℕ) → IsUndisturbed first events (place + 1 + more) → Kept (place + 1 + more) → Holds (place + 1 + more)
    holds_on zero calm kept =
        let none : place + 1 ≡ place + 1 + 0 = omega arith in
        subst Holds none (at_rename (calm_before (place + 1) (place + 1 + 0) (omega arith) calm))
    holds_on (suc more) calm kept =
        let now = place + 1 + more in
        let one : now + 1 ≡ place + 1 + suc more = omega arith in
        let before = calm_before now (place + 1 + suc more) (omega arith) calm in
        let h = holds_on more before (λ step later soon. kept step later (omega (arith, soon))) in
        subst Holds one (elim (kept now (omega arith) (omega arith)) [ inl alone ↦ left_next now h alone | inr again ↦ given_next now (omega arith) before h again ])

  pub names_stay_whole : NamesStayWhole first events
  names_stay_whole place now w to gives free late calm kept =
      let more = now - (place + 1) in
      let same : place + 1 + more ≡ now = omega (arith, late) in
      subst (HoldsWhole first events (name_path w) place) same
      (holds_on place w to gives free more (subst (IsUndisturbed first events) (sym same) calm) (λ step later soon. kept step later (omega (arith, soon, same)))).holds
