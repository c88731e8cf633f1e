-- No watched path shows two contents in a lawful run, since each of its steps keeps the rule.
use Rattle.std.proofs.Common.{◌≡◌, ◌≢◌, ◌⊎◌, inl, inr, ℕ, zero, suc, ◌+◌, ◌≤◌, Bool, true, false, List, [], ◌∷◌, ◌++◌, length, take, Option, Some, None, Result, Ok, refl, sym, ap, ◌∙◌, subst, arith}
use Rattle.std.specs.Prelude.{if◌then◌else◌}
use Rattle.std.specs.Cmp.Lexicographic.{bytes_decides}
use Rattle.std.specs.Option.{option_or}
use Rattle.std.specs.Ordering.{eq_by_cmp}
use Rattle.std.proofs.lemmas.Bool.{cases_lt, false≢true}
use Rattle.std.proofs.lemmas.List.{length_push}
use Rattle.std.proofs.Math.Seq.{take-length}
use Rattle.odb_base.specs.Path.{Name, Path, parent_of, path_cmp, same_name}
use Rattle.odb_base.specs.PathLaws.{parent_of-push}
use Rattle.odb_disk.specs.MemDisk.{Volume}
use Rattle.odb_disk.specs.Tree.{Tree, tree_of}
use Rattle.odb_disk.specs.Tree.Change.{changed}
use Rattle.odb_disk.specs.Tree.Follow.{Refusal, read_of}
use Rattle.odb_disk.specs.declared.change.Change.{Change}
use Rattle.gix_odb_watch.specs.HasShown.{HasShown, Since, with_since}
use Rattle.gix_odb_watch.specs.Watched.{Shows, pack_directory}
use Rattle.gix_odb_calls.specs.declared.step.Outcome.{Outcome}
use Rattle.gix_odb_calls.specs.declared.step.Outcome.TheVariants as outcomes
use Rattle.gix_odb_calls.specs.declared.step.Step.{Step}
use Rattle.gix_odb_calls.specs.declared.step.Step.TheVariants as steps
use Rattle.gix_odb_world.specs.Changes.{ChangesAs, change_applied}
use Rattle.gix_odb_history.specs.Event.{Event}
use Rattle.gix_odb_world.specs.Headline.{Law}
use Rattle.gix_odb_history.specs.Run.{change_asked, disk_after, disk_after_event, tree_at}
use Rattle.gix_odb_world.specs.TwoContents.{BreaksRule, ShowOneContent, watched_after, watched_by, watched_from, watched_too, would_change, would_change_in}
use Rattle.gix_odb_world.specs.Valid.{misuse_of}
use Rattle.gix_odb_world.proofs.HistoryLemmas.{tree_at-all, tree_at-before, tree_at-now}
use Rattle.gix_odb_world.proofs.LawfulRun.{LawfulRun}
use Rattle.gix_odb_world.proofs.RunSteps.{IsLeft, Kind, Made, Quiet, Turned, event_or_end, kind_of, left, none_beyond, take_next}
use Rattle.gix_odb_world.proofs.ValidLaws.{keeps_rule}
use Rattle.gix_odb_world.proofs.WatchLemmas.{watched_after-push}

-- ---- which folders are watched

-- a folder that is watched has been since before, or since now
one_since : (since : Since) (now : ℕ) (folder other : Path) (begun : ℕ) → with_since since now folder other ≡ Some begun → (since other ≡ Some begun) ⊎ (begun ≡ now)
one_since since now folder other begun is = by (since other) refl (eq_by_cmp path_cmp other folder) is
  where
    by : (o : Option ℕ) → since other ≡ o → (b : Bool) → option_or o (if b then Some now else None) ≡ Some begun → (since other ≡ Some begun) ⊎ (begun ≡ now)
    by (Some early) same b e = inl (same ∙ e)
    by None same true e = inr (cc e)
    by None same false e = absurd (cc e)

too_since : (since : Since) (now : ℕ) (folders : List Path) (other : Path) (begun : ℕ) → watched_too since now folders other ≡ Some begun → (since other ≡ Some begun) ⊎ (begun ≡ now)
unfolding watched_too
too_since since now [] other begun is = inl is
too_since since now (folder ∷ folders) other begun is = elim (too_since (with_since since now folder) now folders other begun is) [
  | inl one ↦ one_since since now folder other begun one
  | inr same ↦ inr same
]

since_by : (number : ℕ) (step : Step) (outcome : Outcome) (since : Since) (other : Path) (begun : ℕ) → watched_by number step outcome since other ≡ Some begun
    → (since other ≡ Some begun) ⊎ (begun ≡ number)
since_by number (steps.Open handle path folders hash replacements options) outcomes.Applied since other begun is = too_since since number (path ∷ folders) other begun is
since_by number step outcome since other begun is = inl is

-- a watched folder stays watched
pub one_stays : (since : Since) (now : ℕ) (folder other : Path) (begun : ℕ) → since other ≡ Some begun → with_since since now folder other ≡ Some begun
one_stays since now folder other begun is = ap (λ o. option_or o (if eq_by_cmp path_cmp other folder then Some now else None)) is

pub too_stays : (since : Since) (now : ℕ) (folders : List Path) (other : Path) (begun : ℕ) → since other ≡ Some begun → watched_too since now folders other ≡ Some begun
unfolding watched_too
too_stays since now [] other begun is = is
too_stays since now (folder ∷ folders) other begun is = too_stays (with_since since now folder) now folders other begun (one_stays since now folder other begun is)

pub by_stays : (number : ℕ) (step : Step) (outcome : Outcome) (since : Since) (other : Path) (begun : ℕ) → since other ≡ Some begun → watched_by number step outcome since other ≡ Some begun
by_stays number (steps.Open handle path folders hash replacements options) outcomes.Applied since other begun is = too_stays since number (path ∷ folders) other begun is
by_stays number step outcome since other begun is = is

-- ---- one more event

-- a path in its pack directory determines a folder
one_folder : (a b : Path) (n m : Name) → pack_directory a ++ n ∷ [] ≡ pack_directory b ++ m ∷ [] → a ≡ b
one_folder a b n m same =
    let both : Some (pack_directory a) ≡ Some (pack_directory b) = sym (parent_of-push (pack_directory a) n) ∙ ap parent_of same ∙ parent_of-push (pack_directory b) m in
    let inner : pack_directory a ≡ pack_directory b = cc both in
    let outer : Some a ≡ Some b = sym (parent_of-push a _) ∙ ap parent_of inner ∙ parent_of-push b _ in
    cc outer

-- a path of one tree shows one content
same_read : (tree : Tree) (path : Path) (one other : List ℕ) (time at : ℕ) → read_of tree path ≡ Ok (one, time) → read_of tree path ≡ Ok (other, at) → one ≡ other
same_read tree path one other time at reads too =
    let both : ◌≡◌ {A = Result (List ℕ × ℕ) Refusal} (Ok (one, time)) (Ok (other, at)) = sym reads ∙ too in
    let pair : ◌≡◌ {A = List ℕ × ℕ} (one, time) (other, at) = cc both in ap (λ (p : List ℕ × ℕ). p.0) pair

-- bytes that can't differ are equal
same_bytes : (one other : List ℕ) → ¬ (other ≢ one) → one ≡ other
same_bytes one other never = by (same_name other one) refl
  where
    by : (b : Bool) → same_name other one ≡ b → one ≡ other
    by true is = sym ((bytes_decides other one).0 is)
    by false is = absurd (never (λ same. false≢true (sym is ∙ (bytes_decides other one).1 same)))

sound_if_changed : (step : Step) (outcome : Outcome) (change : Option Change) (made : Change) → ChangesAs step outcome change → change ≡ Some made → misuse_of outcome ≡ None
sound_if_changed step outcomes.Applied change made changes is = refl
sound_if_changed step outcomes.Pending change made changes is = refl
sound_if_changed step (outcomes.Reply reply) change made changes is = refl
sound_if_changed step (outcomes.Misuse why) change made changes is = absurd (cc (sym changes ∙ is))

le_or_next : (m n : ℕ) → m ≤ n + 1 → (m ≤ n) ⊎ (m ≡ n + 1)
le_or_next m n le = elim (cases_lt n m) [ inl more ↦ inr (omega (arith, le, more)) | inr less ↦ inl less ]

module _ (first : Volume) (past : List Event) (e : Event) (law : Law first past e) (before : ShowOneContent first past) where
  abbrev whole : List Event
  whole = past ++ e ∷ []

  abbrev now : ℕ
  now = length past

  abbrev old : Tree
  old = tree_of (disk_after first past).state

  abbrev new : Tree
  new = tree_of (disk_after_event (disk_after first past) e).state

  abbrev Has : Path → ℕ → List ℕ → Type 0
  Has path time bytes = HasShown (tree_at first past) (watched_after past) now path time bytes

  -- a path shows bytes after the event
  record ShowsNow (path : Path) (time : ℕ) (bytes : List ℕ) : Type 0 where
    folder : Path
    shows : Shows folder new path time bytes

  -- the change of the event is the one that its step would make
  would : (change : Change) → e.entry.change ≡ Some change → would_change first past e.step ≡ Some change
  would change is = by (kind_of first past e law)
    where
      by : Kind first past e → would_change first past e.step ≡ Some change
      by (Quiet q) = absurd (cc (sym q.none ∙ is))
      by (Made m) =
          let step : e.step ≡ steps.Disk m.outside.0 = m.outside.1 in
          let applied : e.entry.change ≡ change_applied e.step = subst (λ o. ChangesAs e.step o e.entry.change) m.outside.2 law.change in
          ap (would_change first past) step ∙ (sym (ap change_applied step) ∙ (sym applied ∙ is))
      by (Turned t) =
          ap (would_change first past) t.turn.turn.step
          ∙ (ap (would_change_in (disk_after first past)) t.turn.status ∙ (ap (change_asked (disk_after first past)) t.works.asks ∙ (sym t.works.changed ∙ is)))

  -- what a path showed before the event, and what it shows after it
  old_new : (path : Path) (time : ℕ) (one other : List ℕ) → Has path time one → ShowsNow path time other → one ≡ other
  old_new path time one other h s = by e.entry.change refl (left first past e (kind_of first past e law))
    where
      folder_is : h.folder ≡ s.folder
      folder_is = one_folder h.folder s.folder h.shows.name s.shows.name (sym h.shows.path_is ∙ s.shows.path_is)

      here : Shows h.folder new path time other
      here = subst (λ f. Shows f new path time other) (sym folder_is) s.shows

      by : (change : Option Change) → e.entry.change ≡ change → IsLeft old new e.entry.change → one ≡ other
      by None is leaves =
          let still : new ≡ tree_at first past now = subst (IsLeft old new) is leaves ∙ sym (tree_at-all first past) in
          let from = h.from in
          let to = h.to in
          before path time one other h
          (record { folder = h.folder; begun = h.begun; watched = h.watched; moment = now; from = omega (arith, from, to); to = omega arith; shows = subst (λ t. Shows h.folder t path time other) still here })
      by (Some change) is leaves =
          let made : new ≡ changed old change = subst (IsLeft old new) is leaves in
          let sound : misuse_of e.outcome ≡ None = sound_if_changed e.step e.outcome e.entry.change change law.change is in
          same_bytes one other
          (λ differs.
          keeps_rule first past e law sound
          (subst (BreaksRule first past) (sym (would change is))
          (record {
            path = path;
            time = time;
            first = one;
            bytes = other;
            known = h;
            folder = h.folder;
            begun = h.begun;
            watched = h.watched;
            shows = subst (λ t. Shows h.folder t path time other) made here;
            differs = differs;
          })))

  new_new : (path : Path) (time : ℕ) (one other : List ℕ) → ShowsNow path time one → ShowsNow path time other → one ≡ other
  new_new path time one other s o = same_read new path one other s.shows.at o.shows.at s.shows.reads o.shows.reads

  -- what a path has shown after the event it showed before, or shows now
  shown_by : (path : Path) (time : ℕ) (bytes : List ℕ) → HasShown (tree_at first whole) (watched_after whole) (length whole) path time bytes → Has path time bytes ⊎ ShowsNow path time bytes
  shown_by path time bytes h = elim (le_or_next h.moment now (omega (arith, to, long))) [
    | inl early ↦ inl (earlier early)
    | inr last ↦
        inr (record { folder = h.folder; shows = subst (λ t. Shows h.folder t path time bytes) (ap (tree_at first whole) last ∙ tree_at-now first past e) h.shows })
  ]
    where
      to : h.moment ≤ length whole
      to = h.to

      long : length whole ≡ now + 1
      long = length_push past e

      earlier : h.moment ≤ now → Has path time bytes
      earlier early =
          let from = h.from in
          let watched : watched_by (now + 1) e.step e.outcome (watched_after past) h.folder ≡ Some h.begun = ap (λ (s : Since). s h.folder) (sym (watched_after-push past e)) ∙ h.watched in
          record {
            folder = h.folder;
            begun = h.begun;
            watched = elim (since_by (now + 1) e.step e.outcome (watched_after past) h.folder h.begun watched) [
              | inl since ↦ since
              | inr late ↦ absurd (omega (arith, from, early, late))
            ];
            moment = h.moment;
            from = from;
            to = early;
            shows = subst (λ t. Shows h.folder t path time bytes) (tree_at-before first past e h.moment early) h.shows;
          }

  pub one_content_on : ShowOneContent first whole
  one_content_on path time one other h o = by (shown_by path time one h) (shown_by path time other o)
    where
      by : Has path time one ⊎ ShowsNow path time one → Has path time other ⊎ ShowsNow path time other → one ≡ other
      by (inl a) (inl b) = before path time one other a b
      by (inl a) (inr b) = old_new path time one other a b
      by (inr a) (inl b) = sym (old_new path time other one b a)
      by (inr a) (inr b) = new_new path time one other a b

-- ---- along a run

none_shown : (first : Volume) → ShowOneContent first []
unfolding watched_from
none_shown first path time one other h o = let wrong : None ≡ Some h.begun = h.watched in absurd (cc wrong)

module _ (run : LawfulRun) where
  open run use {first, events, lawful}

  at_place : (place : ℕ) → place ≤ length events → ShowOneContent first (take place events)
  at_place zero within = none_shown first
  at_place (suc place) within = elim (event_or_end events place) [
    | inl at ↦
        let one : place + 1 ≡ suc place = omega arith in
        subst (λ n. ShowOneContent first (take n events)) one
        (subst (ShowOneContent first) (sym (take_next events place at.0 at.1))
        (one_content_on first (take place events) at.0 (lawful place at.0 at.1) (at_place place (omega (arith, within)))))
    | inr none ↦ let beyond = none_beyond events place none in absurd (omega (arith, within, beyond))
  ]

  pub one_content_shown : ShowOneContent first events
  one_content_shown = subst (ShowOneContent first) (take-length events) (at_place (length events) (omega arith))
