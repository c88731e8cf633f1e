-- What has become of a temporary file after an event: it is at its own spot, or its way was cut off.
use Rattle.std.proofs.Common.{◌≡◌, ◌≢◌, ◌⊎◌, inl, inr, ℕ, ◌+◌, ◌<◌, Bool, true, false, [], take, Option, Some, None, Ok, refl, sym, ap, ◌∙◌, subst, arith}
use Rattle.std.specs.Prelude.{slice_get, ◌==◌}
use Rattle.std.proofs.lemmas.Bool.{eqb-false, eqb-true}
use Rattle.std.proofs.lemmas.Option.{slice_get_within}
use Rattle.odb_base.specs.Path.{Path, parent_of}
use Rattle.odb_base.specs.PathLaws.{parent_of-push, parent_of-some}
use Rattle.odb_disk.specs.Tree.{Tree}
use Rattle.odb_disk.specs.Tree.Change.{changed}
use Rattle.odb_disk.specs.Tree.Way.{SameOnWay}
use Rattle.odb_disk.specs.Tree.Write.{file_spot, spot}
use Rattle.odb_disk.specs.declared.change.Change.{Change}
use Rattle.odb_disk.specs.declared.change.Change.TheVariants.{PutFile}
use Rattle.odb_disk.proofs.OwnWayLaws.{Cut, OwnSpot, cut_kept, cut_no_file, own_kept}
use Rattle.gix_odb_loose.specs.WriteOrder.{number_made, temp_name, temp_path}
use Rattle.gix_odb_loose.specs.declared.call.LooseCall.{LooseCall}
use Rattle.gix_odb_loose.specs.declared.call.Stage.TheVariants.{Writing}
use Rattle.gix_odb_loose.specs.declared.write_at_hand.WriteJob.{WriteJob}
use Rattle.gix_odb_loose.specs.declared.write_order.WriteStage.{WriteStage}
use Rattle.gix_odb_loose.specs.declared.write_order.WriteStage.TheVariants.{Making}
use Rattle.gix_odb_loose.proofs.NameLaws.{IsTemporary, temp_path-is, temporary_spot}
use Rattle.gix_odb_history.specs.Event.{Event}
use Rattle.gix_odb_world.specs.Status.{IsAtWrite, Running, Store, Status, status_after, status_of}
use Rattle.gix_odb_history.specs.Run.{IsTurnOf, tree_at}
use Rattle.gix_odb_world.specs.Running.Write.{IsWriting, write_at}
use Rattle.gix_odb_world.specs.Undisturbed.{CutsOff, HasMade}
use Rattle.gix_odb_history.specs.Writing.{LeftAlone, ToWrite, head_to_write}
use Rattle.gix_odb_world.proofs.LawfulRun.{LawfulRun}
use Rattle.gix_odb_world.proofs.FileSteps.{Does, NotTemporary, does, does_first, does_nothing}
use Rattle.gix_odb_world.proofs.FileSteps.AtWrite.{AtWrite, write_before}
use Rattle.gix_odb_world.proofs.MachineLaws.{HasNoFile}
use Rattle.gix_odb_world.proofs.RunSteps.{IsLeft, left_at, status_next}
use Rattle.gix_odb_world.proofs.OwnFiles.Writer.{one_event, same_tree_on_way, is_tree, made_at_stage, stage_of_made, writing_at, ByWriter}

abbrev job_at : ToWrite → WriteStage → WriteJob
job_at w stage = record { head = head_to_write w; stage = stage; bytes = w.bytes; hash = w.hash; known = w.known }

-- a write at a stage that has a file has made it
makes_no_more : (w : ToWrite) (stage : WriteStage) (number : ℕ) (call : LooseCall) → call ≡ write_at w stage → number_made stage ≡ Some number
    → ¬ (HasNoFile call)
makes_no_more w stage number call is made none =
    let same : write_at w stage ≡ write_at none.write (Making none.number) = sym is ∙ none.is in
    let staged : Writing (job_at w stage) ≡ Writing (job_at none.write (Making none.number)) = ap (λ (loose : LooseCall). loose.stage) same in
    let jobs : job_at w stage ≡ job_at none.write (Making none.number) = cc staged in
    let at : stage ≡ Making none.number = ap (λ (job : WriteJob). job.stage) jobs in
    let both : None ≡ Some number = ap number_made (sym at) ∙ made in
    cc both

module _ (run : LawfulRun) where
  open run use {first, events}

  abbrev tree : ℕ → Tree
  tree = tree_at first events

  -- it is at its own spot, and nobody else touched it
  pub record Own (handle made : ℕ) (path : Path) (now : ℕ) : Type 0 where
    pub spot : Path
    pub event : Event
    pub there : slice_get events made ≡ Some event
    pub put : event.entry.change ≡ Some (PutFile spot 0 [])
    pub own : OwnSpot (tree now) path spot
    pub alone : LeftAlone first events handle path (made + 1) now

  -- its way was cut off, and ends at a file
  pub record Lost (path : Path) (now : ℕ) : Type 0 where
    pub front : Path
    pub parent : parent_of path ≡ Some front
    pub cut : Cut NotTemporary (tree now) front

  pub record Files (now : ℕ) : Type 0 where
    pub each : (handle made : ℕ) (path : Path) → HasMade first events handle made path now → Own handle made path now ⊎ Lost path now
    pub apart : (handle other made last : ℕ) (path twin : Path) → handle ≢ other → HasMade first events handle made path now
        → HasMade first events other last twin now
        → (a : Own handle made path now) → (b : Own other last twin now) → a.spot ≢ b.spot

  pub lost_no_file : (now : ℕ) (path : Path) → Lost path now → (s : Path) → file_spot (tree now) path ≢ Ok s
  lost_no_file now path lost s leads =
      let named = parent_of-some path lost.front lost.parent in
      cut_no_file NotTemporary (tree now) (is_tree run now) lost.front named.0 lost.cut s (ap (file_spot (tree now)) (sym named.1) ∙ leads)

  pub parent_made : (handle made now : ℕ) (path : Path) (hm : HasMade first events handle made path now)
      → parent_of path ≡ Some hm.running.store.parts.objects
  parent_made handle made now path hm = ap parent_of (hm.named ∙ temp_path-is hm.running.store.parts.objects hm.number) ∙ parent_of-push hm.running.store.parts.objects (temp_name hm.number)

  pub cut_made : (handle made now : ℕ) (path : Path) (hm : HasMade first events handle made path now) (at : ℕ) → Lost path at
      → Cut NotTemporary (tree at) hm.running.store.parts.objects
  cut_made handle made now path hm at lost =
      let both : Some lost.front ≡ Some hm.running.store.parts.objects = sym lost.parent ∙ parent_made handle made now path hm in subst (Cut NotTemporary (tree at)) (cc both) lost.cut

  -- ---- one more event

  -- a handle that is at a write after an event, by the status that the event left
  pub at_write_next : (now : ℕ) (e : Event) → slice_get events now ≡ Some e → (handle : ℕ) (running : Running) (call : LooseCall)
      → IsAtWrite (status_of (take (now + 1) events) handle) running call
      → AtWrite running.store running.begun (status_after (now + 1) e.step e.outcome e.asked (status_of (take now events)) handle)
  at_write_next now e there handle running call at =
      record {
        running = running;
        call = call;
        at = record { works = ap (λ (table : ℕ → Status). table handle) (sym (status_next run now e there)) ∙ at.works; writes = at.writes };
        in_store = refl;
        since = refl;
      }

  module _ (now : ℕ) (e : Event) (there : slice_get events now ≡ Some e) where
    pub unchanged : e.entry.change ≡ None → tree (now + 1) ≡ tree now
    unchanged none = subst (IsLeft (tree now) (tree (now + 1))) none (left_at run now e there)

    pub changed_to : (c : Change) → e.entry.change ≡ Some c → tree (now + 1) ≡ changed (tree now) c
    changed_to c is = subst (IsLeft (tree now) (tree (now + 1))) is (left_at run now e there)

    pub alone_push : (handle from : ℕ) (path : Path) → LeftAlone first events handle path from now
        → (¬ (IsTurnOf handle e) → SameOnWay (tree now) (tree (now + 1)) true path) → LeftAlone first events handle path from (now + 1)
    alone_push handle from path alone here place x later within at other = by_place (place == now) refl
      where
        by_place : (same : Bool) → (place == now) ≡ same → SameOnWay (tree place) (tree (place + 1)) true path
        by_place false apart = let differs = eqb-false place now apart in alone place x later (omega (arith, within, differs)) at other
        by_place true same =
            let is : now ≡ place = sym (eqb-true place now same) in
            let one : x ≡ e = one_event events now x e (ap (slice_get events) is ∙ at) there in
            subst (λ n. SameOnWay (tree n) (tree (n + 1)) true path) is (here (λ turn. other (subst (λ (y : Event). IsTurnOf handle y) (sym one) turn)))

    -- a write that runs after the event, and has made its file before it, ran before it
    pub made_before : (handle made : ℕ) (path : Path) → HasMade first events handle made path (now + 1) → made < now
        → HasMade first events handle made path now
    unfolding at_write_next
    made_before handle made path hm soon =
        let later = hm.later in
        let at = at_write_next now e there handle hm.running hm.call hm.at in
        let within = slice_get_within events now e there in
        let writes : IsWriting first (take (now + 1) events) handle hm.running hm.call =
        writing_at run (now + 1) handle hm.running hm.call (omega (arith, within)) hm.at in
        let stage = stage_of_made run handle made (now + 1) path hm writes in
        let past = makes_no_more writes.write writes.stage stage.0 hm.call writes.is stage.1 in
        let was =
        write_before hm.running.store hm.running.begun first (take now events) (status_of (take now events))
        (λ other. run.throughout now other (omega (arith, within))) handle (now + 1) e.step e.outcome e.asked (omega (arith, later, soon)) (record { at = at; past = past }) in
        let since = was.since in
        record {
          running = was.running;
          call = was.call;
          at = was.at;
          later = omega (arith, later, since);
          before = soon;
          number = hm.number;
          named = hm.named ∙ ap (λ (s : Store). temp_path s.parts.objects hm.number) (sym was.in_store);
          makes = hm.makes;
        }

    pub own_same : (handle made : ℕ) (path : Path) → SameOnWay (tree now) (tree (now + 1)) true path → Own handle made path now
        → Own handle made path (now + 1)
    own_same handle made path same o =
        record {
          spot = o.spot;
          event = o.event;
          there = o.there;
          put = o.put;
          own = own_kept (tree now) (tree (now + 1)) path o.spot same o.own;
          alone = alone_push handle (made + 1) path o.alone (λ _. same);
        }

    pub lost_by : (path : Path) (l : Lost path now) → Cut NotTemporary (tree (now + 1)) l.front → Lost path (now + 1)
    lost_by path l cut = record { front = l.front; parent = l.parent; cut = cut }

    pub lost_same : (path : Path) → SameOnWay (tree now) (tree (now + 1)) true path → Lost path now → Lost path (now + 1)
    lost_same path same l =
        let named = parent_of-some path l.front l.parent in
        lost_by path l (cut_kept NotTemporary (tree now) l.front l.cut (tree (now + 1)) named.0 (subst (SameOnWay (tree now) (tree (now + 1)) true) named.1 same))

    pub same_way : (path : Path) → e.entry.change ≡ None → SameOnWay (tree now) (tree (now + 1)) true path
    same_way path none = same_tree_on_way (tree now) (tree (now + 1)) path (unchanged none)

    -- the writer's own file, where it has one
    pub record Wrote (b : ByWriter run now e) : Type 0 where
      pub from : Path
      pub does_it : Does (tree now) from b.change
      pub whose : ([] ≡ from) ⊎ ((made : ℕ) × (path : Path) × HasMade first events b.handle made path now × ((o : Own b.handle made path now) × (o.spot ≡ from)))

    pub wrote : Files now → (b : ByWriter run now e) → Wrote b
    unfolding made_at_stage
    wrote files b = by_number (number_made b.writes.stage) refl
      where
        by_number : (number : Option ℕ) → number_made b.writes.stage ≡ number → Wrote b
        by_number None none = record { from = []; does_it = does_first (tree now) (is_tree run now) b.running.store.parts.objects b.change b.writes.stage [] none b.moves; whose = inl refl }
        by_number (Some number) stage =
            let hm = made_at_stage run now b.handle b.running b.call b.at b.writes number stage in
            elim (files.each b.handle hm.0 (temp_path b.running.store.parts.objects number) hm.1) [
              | inl o ↦ record {
                from = o.spot;
                does_it = does (tree now) (is_tree run now) b.running.store.parts.objects b.change b.writes.stage number o.spot stage o.own b.moves;
                whose = inr (hm.0, temp_path b.running.store.parts.objects number, hm.1, (o, refl));
              }
              | inr lost ↦ absurd (does_nothing (tree now) (is_tree run now) b.running.store.parts.objects b.change b.writes.stage number stage
                  (cut_made b.handle hm.0 now (temp_path b.running.store.parts.objects number) hm.1 now lost) b.moves)
            ]

    pub temporary : (handle made : ℕ) (path : Path) → HasMade first events handle made path now → (s : Path) → OwnSpot (tree now) path s
        → IsTemporary s
    temporary handle made path hm s own = temporary_spot (tree now) hm.running.store.parts.objects hm.number s (subst (λ p. spot (tree now) p ≡ Ok s) hm.named own.is)

    -- it cut the way of a file at s off
    pub record CutNow (handle made : ℕ) (path : Path) (hm : HasMade first events handle made path now) (s : Path) : Type 0 where
      pub other : ℕ
      pub apart : other ≢ handle
      pub turn : IsTurnOf other e
      pub cut : Cut NotTemporary (tree (now + 1)) hm.running.store.parts.objects
      pub cuts : CutsOff (tree now) (tree (now + 1)) path s e

    pub lost_now : (handle made : ℕ) (path : Path) (hm : HasMade first events handle made path now) (s : Path) → CutNow handle made path hm s
        → Lost path (now + 1)
    lost_now handle made path hm s c = record { front = hm.running.store.parts.objects; parent = parent_made handle made now path hm; cut = c.cut }
