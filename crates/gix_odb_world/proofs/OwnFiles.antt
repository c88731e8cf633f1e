-- The temporary files of writes in an undisturbed run: each is alone, or was cut off, after each event.
pub mod Ends
pub mod Writer
pub mod Standing
pub mod Other
pub mod Over
pub mod Turn
use Rattle.std.proofs.Common.{◌≡◌, ◌≢◌, ◌⊎◌, inl, inr, ℕ, zero, suc, ◌+◌, ◌<◌, Bool, true, false, [], take, Some, None, Ok, refl, sym, ap, ◌∙◌, subst, arith}
use Rattle.std.specs.Prelude.{slice_get, ◌==◌}
use Rattle.std.proofs.lemmas.Bool.{cases_lt, eqb-false, eqb-true}
use Rattle.odb_base.specs.Path.{Path}
use Rattle.odb_disk.specs.Tree.{Tree}
use Rattle.odb_disk.specs.Tree.Write.{spot, vacant}
use Rattle.odb_disk.specs.declared.change.Change.TheVariants.{PutFile}
use Rattle.odb_disk.proofs.OwnWayLaws.{OwnSpot, own_not_vacant}
use Rattle.gix_odb_calls.specs.declared.step.Step.TheVariants as steps
use Rattle.gix_odb_history.specs.Event.{Event}
use Rattle.gix_odb_history.specs.Run.{IsTurnOf, tree_at}
use Rattle.gix_odb_world.specs.Undisturbed.{HasMade, IsUndisturbed}
use Rattle.gix_odb_world.proofs.LawfulRun.{LawfulRun}
use Rattle.gix_odb_world.proofs.FileSteps.{new_at}
use Rattle.gix_odb_world.proofs.RunSteps.{Kind, Made, Quiet, Turned, event_or_end, kind_at}
use Rattle.gix_odb_world.proofs.OwnFiles.Writer.{one_event, ByWriter, quiet_or_writer}
use Rattle.gix_odb_world.proofs.OwnFiles.Standing.{Own, Lost, Files, lost_no_file, made_before, own_same, lost_same, same_way, CutNow, lost_now}
use Rattle.gix_odb_world.proofs.OwnFiles.Over.{back_own, over_lost, over_made, over_own}
use Rattle.gix_odb_world.proofs.OwnFiles.Other.{own_spared, lost_spared}
use Rattle.gix_odb_world.proofs.OwnFiles.Turn.{lost_turn, own_turn}

module _ (run : LawfulRun) where
  open run use {first, events}

  abbrev tree : ℕ → Tree
  tree = tree_at first events

  module _ (now : ℕ) (e : Event) (there : slice_get events now ≡ Some e) where
    pub lost_next : Files run now → IsUndisturbed first events (now + 1) → (handle made : ℕ) (path : Path)
        → HasMade first events handle made path now → Lost run path now
        → Lost run path (now + 1)
    lost_next files calm handle made path hm l = by_kind (kind_at run now e there)
      where
        by_writer : (b : ByWriter run now e) (same : Bool) → (b.handle == handle) ≡ same
            → Lost run path (now + 1)
        by_writer b true is = lost_same run now e there path
            (same_way run now e there path (lost_turn run now e there handle made path hm (subst (λ h. IsTurnOf h e) (eqb-true b.handle handle is) b.turn) l)) l
        by_writer b false is = lost_spared run now e there files handle made path hm b (eqb-false b.handle handle is) l

        by_kind : Kind first (take now events) e → Lost run path (now + 1)
        by_kind (Quiet q) = lost_same run now e there path (same_way run now e there path q.none) l
        by_kind (Made m) = lost_same run now e there path (calm now e (omega arith) there m.outside handle made path hm) l
        by_kind (Turned t) = elim (quiet_or_writer run now e there t) [
          | inl none ↦ lost_same run now e there path (same_way run now e there path none) l
          | inr b ↦ by_writer b
              (b.handle == handle) refl
        ]

    pub own_next : Files run now → IsUndisturbed first events (now + 1)
        → (handle made : ℕ) (path : Path) (hm : HasMade first events handle made path now) → HasMade first events handle made path (now + 1)
        → (o : Own run handle made path now)
        → Own run handle made path (now + 1) ⊎ CutNow run now e there handle made path hm o.spot
    own_next files calm handle made path hm after o = by_kind (kind_at run now e there)
      where
        by_writer : (b : ByWriter run now e) (same : Bool) → (b.handle == handle) ≡ same
            → Own run handle made path (now + 1) ⊎ CutNow run now e there handle made path hm o.spot
        by_writer b true is = inl (own_turn run now e there handle made path hm (subst (λ h. IsTurnOf h e) (eqb-true b.handle handle is) b.turn) o after)
        by_writer b false is = elim (own_spared run now e there files handle made path hm b (eqb-false b.handle handle is) o) [
          | inl same ↦ inl
              (own_same run now e there handle made path same o)
          | inr c ↦ inr c
        ]

        by_kind : Kind first (take now events) e
            → Own run handle made path (now + 1) ⊎ CutNow run now e there handle made path hm o.spot
        by_kind (Quiet q) = inl (own_same run now e there handle made path (same_way run now e there path q.none) o)
        by_kind (Made m) = inl (own_same run now e there handle made path (calm now e (omega arith) there m.outside handle made path hm) o)
        by_kind (Turned t) = elim (quiet_or_writer run now e there t) [
          | inl none ↦ inl
              (own_same run now e there handle made path (same_way run now e there path none) o)
          | inr b ↦ by_writer b (b.handle == handle) refl
        ]

    -- a file that the event makes
    pub new_next : (handle made : ℕ) (path : Path) → HasMade first events handle made path (now + 1) → made ≡ now
        → Own run handle made path (now + 1)
    new_next handle made path hm is =
        let new = new_at run handle made path hm.makes in
        record {
          spot = new.spot;
          event = hm.makes.event;
          there = hm.makes.there;
          put = new.put;
          own = subst (λ n. OwnSpot (tree (n + 1)) path new.spot) is new.own;
          alone = λ place x later within at other. absurd (omega (arith, later, within, is));
        }

    pub old_or_new : (handle made : ℕ) (path : Path) → HasMade first events handle made path (now + 1) → (made < now) ⊎ (made ≡ now)
    old_or_new handle made path hm = elim (cases_lt made now) [ inl soon ↦ inl soon | inr late ↦ let before = hm.before in inr (omega (arith, before, late)) ]

    each_next : Files run now → IsUndisturbed first events (now + 1) → (handle made : ℕ) (path : Path)
        → HasMade first events handle made path (now + 1)
        → Own run handle made path (now + 1) ⊎ Lost run path (now + 1)
    each_next files calm handle made path hm = elim (old_or_new handle made path hm) [
      | inl soon ↦
          let was = made_before run now e there handle made path hm soon in
          elim (files.each handle made path was) [
            | inl o ↦ elim (own_next files calm handle made path was hm o) [ inl own ↦ inl own | inr c ↦ inr (lost_now run now e there handle made path was o.spot c) ]
            | inr l ↦ inr (lost_next files calm handle made path was l)
          ]
      | inr is ↦ inl (new_next handle made path hm is)
    ]

    -- a file that is at its spot after the event was there before it
    pub own_before : Files run now → IsUndisturbed first events (now + 1) → (handle made : ℕ) (path : Path)
        → HasMade first events handle made path now → (a : Own run handle made path (now + 1))
        → (o : Own run handle made path now) × (o.spot ≡ a.spot)
    own_before files calm handle made path was a = elim (files.each handle made path was) [
      | inl o ↦ (o, same_spot o)
      | inr l ↦ absurd (lost_no_file run (now + 1) path (lost_next files calm handle made path was l) a.spot a.own.leads)
    ]
      where
        same_spot : (o : Own run handle made path now) → o.spot ≡ a.spot
        same_spot o =
            let one : o.event ≡ a.event = one_event events made o.event a.event o.there a.there in
            let both : Some (PutFile o.spot 0 []) ≡ Some (PutFile a.spot 0 []) = sym o.put ∙ (ap (λ (x : Event). x.entry.change) one ∙ a.put) in
            cc both

    -- nothing was where a new file is made
    pub new_vacant : (handle made : ℕ) (path : Path) → HasMade first events handle made path (now + 1) → made ≡ now
        → (a : Own run handle made path (now + 1)) → vacant (tree now) path ≡ Ok a.spot
    new_vacant handle made path hm is a =
        let new = new_at run handle made path hm.makes in
        let one : hm.makes.event ≡ a.event = one_event events made hm.makes.event a.event hm.makes.there a.there in
        let both : Some (PutFile new.spot 0 []) ≡ Some (PutFile a.spot 0 []) = sym new.put ∙ (ap (λ (x : Event). x.entry.change) one ∙ a.put) in
        let spots : new.spot ≡ a.spot = cc in
        subst (λ n. vacant (tree n) path ≡ Ok new.spot) is new.free ∙ ap Ok spots

    -- so it isn't where another one is
    new_apart : Files run now → IsUndisturbed first events (now + 1)
        → (handle other made last : ℕ) (path twin : Path) → HasMade first events handle made path now → HasMade first events other last twin (now + 1)
        → last ≡ now
        → (a : Own run handle made path (now + 1))
        → (b : Own run other last twin (now + 1)) → a.spot ≢ b.spot
    new_apart files calm handle other made last path twin was hm is a b same =
        let o = own_before files calm handle made path was a in
        own_not_vacant (tree now) path o.0.spot twin b.spot o.0.own (new_vacant other last twin hm is b) (o.1 ∙ same)

    apart_next : Files run now → IsUndisturbed first events (now + 1)
        → (handle other made last : ℕ) (path twin : Path) → handle ≢ other → HasMade first events handle made path (now + 1)
        → HasMade first events other last twin (now + 1)
        → (a : Own run handle made path (now + 1))
        → (b : Own run other last twin (now + 1)) → a.spot ≢ b.spot
    apart_next files calm handle other made last path twin apart hm his a b = elim (old_or_new handle made path hm) [
      | inl soon ↦
          let was = made_before run now e there handle made path hm soon in
          elim (old_or_new other last twin his) [
            | inl early ↦
                let been = made_before run now e there other last twin his early in
                let o = own_before files calm handle made path was a in
                let p = own_before files calm other last twin been b in
                λ same. files.apart handle other made last path twin apart was been o.0 p.0 (o.1 ∙ (same ∙ sym p.1))
            | inr is ↦ new_apart files calm handle other made last path twin was his is a b
          ]
      | inr is ↦ elim (old_or_new other last twin his) [
        | inl early ↦ λ same. new_apart files calm other handle last made twin path (made_before run now e there other last twin his early) hm is b a (sym same)
        | inr also ↦
            let one : hm.makes.event ≡ his.makes.event = one_event events made hm.makes.event his.makes.event hm.makes.there (ap (slice_get events) (is ∙ sym also) ∙ his.makes.there) in
            let both : steps.Turn handle ≡ steps.Turn other = sym hm.makes.turn.step ∙ (ap (λ (x : Event). x.step) one ∙ his.makes.turn.step) in
            absurd (apart (cc both))
      ]
    ]

    next : Files run now → IsUndisturbed first events (now + 1)
        → Files run (now + 1)
    next files calm = record { each = each_next files calm; apart = apart_next files calm }

  -- ---- along a run

  -- where the run is over nothing changes
  module _ (now : ℕ) (none : slice_get events now ≡ None) where
    files_over : Files run now → Files run (suc now)
    files_over files = record {
      each = λ handle made path hm. elim (files.each handle made path (over_made run now none handle made path hm)) [
        | inl o ↦ inl
            (over_own run now none handle made path o)
        | inr l ↦ inr (over_lost run now none path l)
      ];
      apart = λ handle other made last path twin differs hm his a b same.
          let was = over_made run now none handle made path hm in
          let been = over_made run now none other last twin his in
          let o = back_own run now none handle made path a in
          let p = back_own run now none other last twin b in
          files.apart handle other made last path twin differs was been o.0 p.0 (o.1 ∙ (same ∙ sym p.1));
    }

  -- after each event of an undisturbed run each temporary file is alone, or was cut off
  pub files_at : (now : ℕ) → IsUndisturbed first events now → Files run now
  files_at zero calm = record {
    each = λ handle made path hm. let before = hm.before in absurd (omega (arith, before));
    apart = λ handle other made last path twin differs hm his a b. let before = hm.before in absurd (omega (arith, before));
  }
  files_at (suc now) calm =
      let before = files_at now (λ place e within there outside handle made path hm. calm place e (omega (arith, within)) there outside handle made path hm) in
      elim (event_or_end events now) [
        | inl at ↦
            let one : now + 1 ≡ suc now = omega arith in
            subst (Files run) one (next now at.0 at.1 before (λ place e within there outside handle made path hm. calm place e (omega (arith, within)) there outside handle made path hm))
        | inr none ↦ files_over now none before
      ]
