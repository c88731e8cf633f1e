-- In an undisturbed run the temporary files of writes are alone.
use Rattle.std.proofs.Common.{◌≡◌, ◌≢◌, ◌⊎◌, inl, inr, ℕ, ◌+◌, take, Some, Ok, sym, ap, ◌∙◌, subst}
use Rattle.std.specs.Prelude.{slice_get, true}
use Rattle.odb_base.specs.Path.{Path}
use Rattle.odb_disk.specs.Tree.{Tree}
use Rattle.odb_disk.specs.Tree.Way.{SameOnWay}
use Rattle.odb_disk.specs.Tree.Write.{file_spot}
use Rattle.gix_odb_calls.specs.declared.step.Step.TheVariants as steps
use Rattle.gix_odb_history.specs.Event.{Event}
use Rattle.gix_odb_history.specs.Run.{IsTurnOf, tree_at}
use Rattle.gix_odb_world.specs.Undisturbed.{AreApart, CutsOff, HasMade, IsAloneAtRename, IsCutOff, IsKept, IsSpared, IsUndisturbed, StandsAlone, WritesStandAlone}
use Rattle.gix_odb_history.specs.Writing.{IsRename}
use Rattle.gix_odb_world.proofs.LawfulRun.{LawfulRun}
use Rattle.gix_odb_world.proofs.CutFiles as cuts
use Rattle.gix_odb_world.proofs.CutFiles.WasCut as records
use Rattle.gix_odb_world.proofs.OwnFiles as along
use Rattle.gix_odb_world.proofs.OwnFiles.Standing as files
use Rattle.gix_odb_world.proofs.OwnFiles.Writer as writers
use Rattle.gix_odb_world.proofs.OwnFiles.Other as others
use Rattle.gix_odb_world.proofs.OwnFiles.Turn as turns
use Rattle.gix_odb_world.proofs.RunSteps.{Kind, Made, Quiet, Turned, kind_at}

module _ (run : LawfulRun) where
  open run use {first, events}

  abbrev tree : ℕ → Tree
  tree = tree_at first events

  abbrev pub Own : ℕ → ℕ → Path → ℕ → Type 0
  Own = files.Own run

  abbrev Lost : Path → ℕ → Type 0
  Lost = files.Lost run

  abbrev CutOff : ℕ → ℕ → Path → ℕ → Type 0
  CutOff = records.CutOff run

  led_twice : (now : ℕ) (path s r : Path) → file_spot (tree now) path ≡ Ok s → file_spot (tree now) path ≡ Ok r → s ≡ r
  led_twice now path s r one two = let both : Ok s ≡ Ok r = sym one ∙ two in cc both

  -- what another handle's turn does
  module _ (place : ℕ) (e : Event) (other handle made : ℕ) (path s : Path) (calm : IsUndisturbed first events place) (there : slice_get events place ≡ Some e)
      (turn : IsTurnOf other e) (apart : other ≢ handle) (hm : HasMade first events handle made path place) where
    abbrev Spared : Path → Type 0
    Spared r = SameOnWay (tree place) (tree (place + 1)) true path ⊎ CutsOff (tree place) (tree (place + 1)) path r e

    own_spared : (o : Own handle made path place) → Spared o.spot
    own_spared o = by_kind (kind_at run place e there)
      where
        by_writer : (b : writers.ByWriter run place e) → Spared o.spot
        by_writer b =
            let both : steps.Turn b.handle ≡ steps.Turn other = sym b.turn.step ∙ turn.step in
            let same : b.handle ≡ other = cc both in
            elim (others.own_spared run place e there (along.files_at run place calm) handle made path hm b (λ h. apart (sym same ∙ h)) o) [ inl kept ↦ inl kept | inr c ↦ inr c.cuts ]

        by_kind : Kind first (take place events) e → Spared o.spot
        by_kind (Quiet q) = inl (files.same_way run place e there path q.none)
        by_kind (Made m) = let both : steps.Turn other ≡ steps.Disk m.outside.0 = sym turn.step ∙ m.outside.1 in absurd (cc both)
        by_kind (Turned t) = elim (writers.quiet_or_writer run place e there t) [
          | inl none ↦ inl (files.same_way run place e there path none)
          | inr b ↦ by_writer b
        ]

    spared_led : file_spot (tree place) path ≡ Ok s → Spared s
    spared_led leads = elim ((along.files_at run place calm).each handle made path hm) [
      | inl o ↦ subst Spared (led_twice place path o.spot s o.own.leads leads) (own_spared o)
      | inr l ↦ absurd (files.lost_no_file run place path l s leads)
    ]

  spared : IsSpared first events
  spared place e other handle made path s calm there turn apart hm leads = spared_led place e other handle made path s calm there turn apart hm leads

  -- what has become of each file
  stands_alone : (handle made now : ℕ) (path : Path) → Own handle made path now → StandsAlone first events handle made path now
  stands_alone handle made now path o =
      record {
        spot = o.spot;
        put = λ x there. ap (λ (y : Event). y.entry.change) (writers.one_event events made x o.event there o.there) ∙ o.put;
        leads = o.own.leads;
        alone = o.alone;
      }

  is_cut_off : (handle made now : ℕ) (path : Path) → CutOff handle made path now → IsCutOff first events handle made path now
  unfolding stands_alone
  is_cut_off handle made now path c =
      record {
        place = c.place;
        later = c.later;
        before = c.before;
        stood = stands_alone handle made c.place path c.cut.own;
        event = c.cut.event;
        there = c.cut.there;
        other = c.cut.other;
        apart = c.cut.apart;
        turn = c.cut.turn;
        cuts = c.cut.cuts;
        gone = files.lost_no_file run now path c.lost;
        stays = c.stays;
      }

  kept : IsKept first events
  kept handle made now path calm hm = elim (cuts.cuts_at run now calm handle made path hm) [
    | inl o ↦ inl (stands_alone handle made now path o)
    | inr c ↦ inr (is_cut_off handle made now path c)
  ]

  -- a write that renames has its file
  pub own_at_rename : (place : ℕ) (e : Event) (handle made : ℕ) (path : Path) → IsUndisturbed first events place → slice_get events place ≡ Some e
      → IsTurnOf handle e → IsRename e.entry.change → HasMade first events handle made path place → Own handle made path place
  own_at_rename place e handle made path calm there turn renames hm = elim ((along.files_at run place calm).each handle made path hm) [
    | inl o ↦ o
    | inr l ↦ absurd (subst IsRename (turns.lost_turn run place e there handle made path hm turn l) renames)
  ]

  renamed : IsAloneAtRename first events
  renamed place e handle made path calm there turn renames hm = (own_at_rename place e handle made path calm there turn renames hm).alone

  are_apart : AreApart first events
  are_apart handle other made last now path twin s r calm differs hm his leads led = by_files (at.each handle made path hm) (at.each other last twin his)
    where
      at : files.Files run now
      at = along.files_at run now calm

      by_files : Own handle made path now ⊎ Lost path now → Own other last twin now ⊎ Lost twin now → s ≢ r
      by_files (inr l) p = absurd (files.lost_no_file run now path l s leads)
      by_files (inl o) (inr l) = absurd (files.lost_no_file run now twin l r led)
      by_files (inl o) (inl p) = λ same. at.apart handle other made last path twin differs hm his o p
          (led_twice now path o.spot s o.own.leads leads ∙ (same ∙ led_twice now twin r p.spot led p.own.leads))

  pub writes_stand_alone : WritesStandAlone first events
  writes_stand_alone = record { spared = spared; kept = kept; renamed = renamed; apart = are_apart }
