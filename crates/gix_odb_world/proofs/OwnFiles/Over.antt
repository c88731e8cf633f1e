-- Where a run is over nothing changes: its temporary files stay as they are.
use Rattle.std.proofs.Common.{◌≡◌, ℕ, suc, None, refl, sym, ap, ◌∙◌, subst, arith}
use Rattle.std.specs.Prelude.{slice_get}
use Rattle.std.proofs.lemmas.Option.{slice_get_within}
use Rattle.odb_base.specs.Path.{Path}
use Rattle.odb_disk.specs.Tree.{Tree, tree_of}
use Rattle.odb_disk.proofs.OwnWayLaws.{Cut, OwnSpot}
use Rattle.gix_odb_world.specs.Status.{status_of}
use Rattle.gix_odb_history.specs.Run.{disk_after, tree_at}
use Rattle.gix_odb_world.specs.Undisturbed.{HasMade}
use Rattle.gix_odb_world.proofs.LawfulRun.{LawfulRun}
use Rattle.gix_odb_world.proofs.FileSteps.{NotTemporary}
use Rattle.gix_odb_world.proofs.RunSteps.{none_beyond, take_none}
use Rattle.gix_odb_world.proofs.OwnFiles.Standing.{Own, Lost}

module _ (run : LawfulRun) where
  open run use {first, events}

  abbrev tree : ℕ → Tree
  tree = tree_at first events

  module _ (now : ℕ) (none : slice_get events now ≡ None) where
    pub over_tree : tree (suc now) ≡ tree now
    over_tree = ap (λ es. tree_of (disk_after first es).state) (take_none events now none)

    pub over_made : (handle made : ℕ) (path : Path) → HasMade first events handle made path (suc now) → HasMade first events handle made path now
    over_made handle made path hm =
        let within = slice_get_within events made hm.makes.event hm.makes.there in
        let beyond = none_beyond events now none in
        record {
          running = hm.running;
          call = hm.call;
          at = record { works = ap (λ es. status_of es handle) (sym (take_none events now none)) ∙ hm.at.works; writes = hm.at.writes };
          later = hm.later;
          before = omega (arith, within, beyond);
          number = hm.number;
          named = hm.named;
          makes = hm.makes;
        }

    pub over_own : (handle made : ℕ) (path : Path) → Own run handle made path now
        → Own run handle made path (suc now)
    over_own handle made path o =
        record {
          spot = o.spot;
          event = o.event;
          there = o.there;
          put = o.put;
          own = subst (λ u. OwnSpot u path o.spot) (sym over_tree) o.own;
          alone = λ place x later within at other.
              let inside = slice_get_within events place x at in
              let beyond = none_beyond events now none in
              o.alone place x later (omega (arith, inside, beyond)) at other;
        }

    pub over_lost : (path : Path) → Lost run path now → Lost run path (suc now)
    over_lost path l = record { front = l.front; parent = l.parent; cut = subst (λ u. Cut NotTemporary u l.front) (sym over_tree) l.cut }

    pub back_own : (handle made : ℕ) (path : Path) → (a : Own run handle made path (suc now))
        → (o : Own run handle made path now) × (o.spot ≡ a.spot)
    back_own handle made path a = (
      record {
        spot = a.spot;
        event = a.event;
        there = a.there;
        put = a.put;
        own = subst (λ u. OwnSpot u path a.spot) over_tree a.own;
        alone = λ place x later within at other. a.alone place x later (omega (arith, within)) at other;
      },
      refl,
    )
