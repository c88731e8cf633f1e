-- What the moment after a turn shows, where the turn's call of the disk makes no change.
use Rattle.std.proofs.Common.{◌≡◌, ℕ, ◌+◌, ◌≤◌, true, false, List, [], ◌∷◌, ◌++◌, length, None, sym, ◌∙◌, ap, subst}
use Rattle.odb_disk.specs.Tree.{tree_of}
use Rattle.odb_disk.specs.Tree.Write.{written}
use Rattle.odb_disk.specs.Ask.{fails_now}
use Rattle.odb_disk.specs.MemDisk.{Volume}
use Rattle.odb_disk.specs.declared.ask.DiskAsk.{DiskAsk}
use Rattle.gix_odb_history.specs.Event.{Event}
use Rattle.gix_odb_world.specs.Status.{Running}
use Rattle.gix_odb_history.specs.Run.{Fails, FailedSince, change_by, disk_after, disk_after_asked, tree_at}
use Rattle.gix_odb_world.proofs.HistoryLemmas.{failed_before, failed_last, tree_at-now}
use Rattle.gix_odb_world.proofs.WriteTurn.Common.{IsTurnWith}

module _ (first : Volume) (events : List Event) (e : Event) (handle : ℕ) (running : Running) (since : running.begun ≤ length events) (ask : DiskAsk) (is : IsTurnWith first events e handle ask) where
  abbrev whole : List Event
  whole = events ++ e ∷ []

  abbrev disk : Volume
  disk = disk_after first events

  listed : Fails e.entry.did → fails_now disk ask ≡ true
  listed failed = subst Fails is.did.1 failed

  -- where the call failed, a call has failed since the task was set
  pub failed_now : fails_now disk ask ≡ true → FailedSince whole handle running.begun
  failed_now fails = failed_last events e handle running.begun since is.turn (subst Fails (sym is.did.1) fails)

  -- where it didn't, a call that has failed did so before
  pub failed_earlier : fails_now disk ask ≡ false → FailedSince whole handle running.begun → FailedSince events handle running.begun
  failed_earlier works = failed_before events e handle running.begun (λ turn failed. absurd (cc (listed failed, works)))

  -- the tree after it is the one that answered
  pub shown_now : change_by disk ask ≡ None → tree_at first whole (length events + 1) ≡ tree_of disk.state
  shown_now none =
      tree_at-now first events e
      ∙ (ap (λ asked. tree_of (disk_after_asked disk asked e.entry.change).state) is.asked ∙ ap (λ change. tree_of (written disk.state change)) (is.change ∙ none))
