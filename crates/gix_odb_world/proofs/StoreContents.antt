-- From its opening on each watched path in a folder of a store shows one content.
use Rattle.std.proofs.Common.{◌≡◌, ℕ, zero, suc, ◌+◌, ◌≤◌, true, List, [], ◌∷◌, ◌++◌, length, take, Contains, Option, Some, None, inl, inr, refl, sym, ap, ◌∙◌, subst, arith}
use Rattle.std.specs.Prelude.{if◌then◌else◌}
use Rattle.std.specs.Option.{option_or}
use Rattle.std.specs.Ordering.{eq_by_cmp}
use Rattle.std.proofs.lemmas.Cmp.{eq_by_cmp_equiv}
use Rattle.std.proofs.lemmas.List.{length_push}
use Rattle.std.proofs.lemmas.Option.{slice_get_within}
use Rattle.std.proofs.Math.Seq.{take-length}
use Rattle.odb_base.specs.Path.{Path, path_cmp}
use Rattle.odb_base.specs.PathLaws.{path_order}
use Rattle.gix_odb_watch.specs.HasShown.{HasShown, Since, with_since}
use Rattle.gix_odb_watch.specs.Watched.{Shows}
use Rattle.gix_odb_calls.specs.declared.step.Step.TheVariants as steps
use Rattle.gix_odb.specs.Contents.{folder_list}
use Rattle.gix_odb_calls.specs.declared.store_parts.StoreParts.{StoreParts}
use Rattle.gix_odb_world.specs.Begun.{IsOpenStore}
use Rattle.gix_odb_history.specs.Event.{Event}
use Rattle.gix_odb_history.specs.Run.{tree_at}
use Rattle.gix_odb_world.specs.Status.{Store}
use Rattle.gix_odb_world.specs.TwoContents.{watched_after, watched_by, watched_too}
use Rattle.gix_odb_world.proofs.LawfulRun.{LawfulRun}
use Rattle.gix_odb_world.proofs.OneContent.{by_stays, one_content_shown, one_stays, too_stays}
use Rattle.gix_odb_world.proofs.RunSteps.{event_or_end, length_take, none_beyond, take_next}
use Rattle.gix_odb_world.proofs.WatchLemmas.{are_begun, watched_after-push}

-- ---- the folders that are named are watched

one_named : (since : Since) (now : ℕ) (folder other : Path) → folder ≡ other → (begun : ℕ) × (with_since since now folder other ≡ Some begun)
one_named since now folder other same = by (since other) refl
  where
    own : eq_by_cmp path_cmp other folder ≡ true
    own = ap (λ (f : Path). eq_by_cmp path_cmp other f) same ∙ (eq_by_cmp_equiv path_order).refl other

    by : (o : Option ℕ) → since other ≡ o → (begun : ℕ) × (with_since since now folder other ≡ Some begun)
    by (Some early) is = (early, one_stays since now folder other early is)
    by None is = (now, ap (λ o. option_or o (if eq_by_cmp path_cmp other folder then Some now else None)) is ∙ ap (λ b. if b then Some now else None) own)

named : (since : Since) (now : ℕ) (folders : List Path) (other : Path) → Contains folders other → (begun : ℕ) × (watched_too since now folders other ≡ Some begun)
unfolding watched_too
named since now [] other (k, within, is) = absurd (omega (arith, within))
named since now (folder ∷ folders) other (zero, within, is) =
    let one = one_named since now folder other is in
    (one.0, too_stays (with_since since now folder) now folders other one.0 one.1)
named since now (folder ∷ folders) other (suc k, within, is) = named (with_since since now folder) now folders other (k, omega (arith, within), is)

-- ---- and stay so

gap : (a b : ℕ) → a ≤ b → (d : ℕ) × (a + d ≡ b)
gap zero b le = (b, omega arith)
gap (suc a) zero le = absurd (omega (arith, le))
gap (suc a) (suc b) le = let rest = gap a b (omega (arith, le)) in let is = rest.1 in (rest.0, omega (arith, is))

module _ (run : LawfulRun) where
  open run use {first, events}

  still : (more place : ℕ) (other : Path) (begun : ℕ) → watched_after (take place events) other ≡ Some begun → place + more ≤ length events
      → watched_after (take (place + more) events) other ≡ Some begun
  still zero place other begun is within = let same : place ≡ place + 0 = omega arith in subst (λ n. watched_after (take n events) other ≡ Some begun) same is
  still (suc more) place other begun is within = elim (event_or_end events place) [
    | inl at ↦
        let next : watched_after (take (place + 1) events) other ≡ Some begun =
        ap (λ es. watched_after es other) (take_next events place at.0 at.1) ∙ ap (λ (s : Since). s other) (watched_after-push (take place events) at.0)
        ∙ by_stays (length (take place events) + 1) at.0.step at.0.outcome (watched_after (take place events)) other begun is in
        let same : place + 1 + more ≡ place + suc more = omega arith in
        subst (λ n. watched_after (take n events) other ≡ Some begun) same (still more (place + 1) other begun next (omega (arith, within)))
    | inr none ↦ let beyond = none_beyond events place none in absurd (omega (arith, within, beyond))
  ]

  module _ (handle : ℕ) (store : Store) (opened : IsOpenStore events handle store) (folder : Path) (among : Contains (folder_list store.parts) folder) where
    abbrev past : List Event
    past = take opened.place events

    abbrev upto : List Event
    upto = take (opened.place + 1) events

    upto_is : upto ≡ past ++ opened.event ∷ []
    upto_is = take_next events opened.place opened.event opened.there

    long : length upto ≡ store.opened
    long =
        let count : length (past ++ opened.event ∷ []) ≡ length past + 1 = length_push past opened.event in
        let short : length past ≡ opened.place = length_take events opened.place opened.event opened.there in
        let number : store.opened ≡ opened.place + 1 = opened.number in
        ap length upto_is ∙ omega (arith, count, short, number)

    here : (begun : ℕ) × (watched_after upto folder ≡ Some begun)
    here =
        let at_open = named (watched_after past) (length past + 1) (opened.path ∷ opened.folders) folder
        (subst (λ (parts : StoreParts). Contains (folder_list parts) folder) opened.parts among) in (
          at_open.0,
          ap (λ es. watched_after es folder) upto_is ∙ ap (λ (s : Since). s folder) (watched_after-push past opened.event)
              ∙ (ap (λ s. watched_by (length past + 1) s opened.event.outcome (watched_after past) folder) opened.opens
              ∙ (ap
              (λ o. watched_by (length past + 1) (steps.Open handle opened.path opened.folders opened.hash opened.replacements opened.options) o (watched_after past) folder)
              opened.applied
              ∙ at_open.1)),
        )

    within : opened.place + 1 ≤ length events
    within = let inside = slice_get_within events opened.place opened.event opened.there in omega (arith, inside)

    watched : watched_after events folder ≡ Some here.0
    watched =
        let rest = gap (opened.place + 1) (length events) within in
        ap (λ es. watched_after es folder) (sym (ap (λ n. take n events) rest.1 ∙ take-length events))
        ∙ still rest.0 (opened.place + 1) folder here.0 here.1 (let is = rest.1 in omega (arith, is))

    early : here.0 ≤ store.opened
    early = let bound = are_begun upto folder here.0 here.1 in omega (arith, bound, long)

    -- what a path showed at a state since the opening
    has_shown : (path : Path) (time moment : ℕ) (bytes : List ℕ) → store.opened ≤ moment → moment ≤ length events → Shows folder (tree_at first events moment) path time bytes
        → HasShown (tree_at first events) (watched_after events) (length events) path time bytes
    has_shown path time moment bytes from to shows = record {
      folder = folder;
      begun = here.0;
      watched = watched;
      moment = moment;
      from = omega (arith, from, early);
      to = to;
      shows = shows;
    }

    -- two contents that it showed at such states, and that count under one time, are the same
    pub shows_one : (path : Path) (time m n : ℕ) (one other : List ℕ) → store.opened ≤ m → m ≤ length events → store.opened ≤ n → n ≤ length events
        → Shows folder (tree_at first events m) path time one → Shows folder (tree_at first events n) path time other → one ≡ other
    shows_one path time m n one other from_m to_m from_n to_n shows also =
        one_content_shown run path time one other (has_shown path time m one from_m to_m shows) (has_shown path time n other from_n to_n also)
