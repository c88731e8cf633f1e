-- What the turn of another write does to a temporary file.
use Rattle.std.proofs.Common.{◌≡◌, ◌≢◌, ◌⊎◌, inl, inr, ℕ, ◌+◌, true, [], ◌∷◌, ◌++◌, Some, Ok, sym, ap, ◌∙◌, subst}
use Rattle.std.specs.Prelude.{slice_get}
use Rattle.odb_base.specs.Path.{Name, Path}
use Rattle.odb_disk.specs.Tree.{Tree}
use Rattle.odb_disk.specs.Tree.Change.{changed}
use Rattle.odb_disk.specs.Tree.Way.{SameOnWay, crosses}
use Rattle.odb_disk.specs.Tree.Write.{file_spot}
use Rattle.odb_disk.proofs.OwnWayLaws as ways
use Rattle.odb_disk.proofs.OwnWayLaws.{Cut, OwnSpot, cut_after, cut_no_file, own_after, own_stops, stop_below_root}
use Rattle.gix_odb_loose.specs.WriteOrder.{temp_name}
use Rattle.gix_odb_loose.proofs.NameLaws.{IsTemporary, temp_path-is}
use Rattle.gix_odb_history.specs.Event.{Event}
use Rattle.gix_odb_history.specs.Run.{tree_at}
use Rattle.gix_odb_world.specs.Undisturbed.{HasMade}
use Rattle.gix_odb_world.proofs.LawfulRun.{LawfulRun}
use Rattle.gix_odb_world.proofs.FileSteps.{NotTemporary}
use Rattle.gix_odb_world.proofs.OwnFiles.Writer.{is_tree, ByWriter}
use Rattle.gix_odb_world.proofs.OwnFiles.Standing.{Own, Lost, Files, changed_to, lost_by, Wrote, wrote, temporary, CutNow}

module _ (run : LawfulRun) where
  open run use {first, events}

  abbrev tree : ℕ → Tree
  tree = tree_at first events

  module _ (now : ℕ) (e : Event) (there : slice_get events now ≡ Some e) where
    module _ (files : Files run now) (handle made : ℕ) (path : Path) (hm : HasMade first events handle made path now) (b : ByWriter run now e) (apart : b.handle ≢ handle) where
      abbrev front : Path
      front = hm.running.store.parts.objects

      abbrev name : Name
      name = temp_name hm.number

      path_is : path ≡ front ++ name ∷ []
      path_is = hm.named ∙ temp_path-is front hm.number

      after_is : tree (now + 1) ≡ changed (tree now) b.change
      after_is = changed_to run now e there b.change b.is

      another : (o : Own run handle made path now) (w : Wrote run now e there b)
          → w.from ≢ o.spot
      another o w same = elim w.whose [
        | inl root ↦ stop_below_root (tree now) (is_tree run now) true path o.spot (own_stops (tree now) path o.spot o.own) (root ∙ same)
        | inr his ↦ files.apart handle b.handle made his.0 path his.1 (λ h. apart (sym h)) hm his.2 o his.3.0 (sym (his.3.1 ∙ same))
      ]

      gone_by : Cut NotTemporary (tree (now + 1)) front → (r : Path) → file_spot (tree (now + 1)) path ≢ Ok r
      gone_by cut r leads = cut_no_file NotTemporary (tree (now + 1)) (is_tree run (now + 1)) front name cut r (ap (file_spot (tree (now + 1))) (sym path_is) ∙ leads)

      cut_now : (o : Own run handle made path now) (w : Wrote run now e there b)
          → ways.CutsOff (tree now) front name o.spot w.from b.change
          → CutNow run now e there handle made path hm o.spot
      cut_now o w c =
          let cut : Cut NotTemporary (tree (now + 1)) front =
          record { stop = c.to; stops = subst (λ u. ways.Stops u true front c.to) (sym after_is) c.stops; apart = w.does_it.onto c.to c.is } in
          record {
            other = b.handle;
            apart = apart;
            turn = b.turn;
            cut = cut;
            cuts = record {
              from = w.from;
              to = c.to;
              renames = b.is ∙ ap Some c.is;
              link = subst (λ p. crosses (tree now) p c.to ≡ true) (sym path_is) c.link;
              file = subst (λ u. SameOnWay (tree now) u true o.spot) (sym after_is) c.file;
              gone = gone_by cut;
            };
          }

      -- it leaves the file and its way alone, or cuts the way off
      pub own_spared : (o : Own run handle made path now)
          → SameOnWay (tree now) (tree (now + 1)) true path ⊎ CutNow run now e there handle made path hm o.spot
      own_spared o =
          let w = wrote run now e there files b in
          let own = subst (λ p. OwnSpot (tree now) p o.spot) path_is o.own in
          elim (own_after (tree now) (is_tree run now) front name o.spot own w.from (another o w) b.change w.does_it.own
          (λ p renames same. w.does_it.onto p renames (subst IsTemporary (sym same) (temporary run now e there handle made path hm o.spot o.own)))) [
            | inl same ↦ inl (subst (λ u. SameOnWay (tree now) u true path) (sym after_is) (subst (SameOnWay (tree now) (changed (tree now) b.change) true) (sym path_is) same))
            | inr c ↦ inr (cut_now o w c)
          ]

      -- a way that was cut off stays cut off
      pub lost_spared : Lost run path now → Lost run path (now + 1)
      lost_spared l =
          let w = wrote run now e there files b in
          let away : w.from ≢ l.cut.stop = λ same. elim w.whose [
            | inl root ↦ stop_below_root (tree now) (is_tree run now) true l.front l.cut.stop l.cut.stops (root ∙ same)
            | inr his ↦ l.cut.apart (subst IsTemporary (his.3.1 ∙ same) (temporary run now e there b.handle his.0 his.1 his.2 his.3.0.spot his.3.0.own))
          ] in
          lost_by run now e there path l (subst (λ u. Cut NotTemporary u l.front) (sym after_is)
          (cut_after NotTemporary (tree now) l.front l.cut (is_tree run now) w.from b.change w.does_it.own away w.does_it.onto))
