-- What is known of the stage that a look-up goes on to: after a list, its loose folders, the core, or a refresh.
use Rattle.std.proofs.Common.{◌≡◌, ℕ, ◌-◌, Bool, true, false, ◌==◌, List, slice_get, Option, Some, None, refl, sym, ◌∙◌, ap, inl}
use Rattle.std.specs.Prelude.{if◌then◌else◌, unwrap_or}
use Rattle.std.proofs.lemmas.Bool.{ltb-true}
use Rattle.odb_base.specs.Path.{Path}
use Rattle.gix_hash.specs.declared.kind.Kind.{Kind}
use Rattle.gix_hash.specs.declared.object_id.ObjectId.{ObjectId}
use Rattle.gix_odb_events.specs.declared.view.View.{View}
use Rattle.gix_odb_events.specs.declared.loaded.Todo.{Todo}
use Rattle.gix_odb_search.specs.TryOrder.{seek}
use Rattle.gix_odb_search.specs.declared.lister.ListStep.{ListStep}
use Rattle.gix_odb_search.specs.declared.lister.ListStep.TheVariants as listed
use Rattle.gix_odb_search.specs.declared.search.Notes.{Notes}
use Rattle.gix_odb_search.specs.declared.trier.Ahead.{Ahead}
use Rattle.gix_odb_search.specs.declared.goal.Goal.{Goal}
use Rattle.gix_odb_search.proofs.TrierLaws.{Comes, seek-comes}
use Rattle.gix_odb.specs.Caused.{IsRefused}
use Rattle.gix_odb.specs.LookExchanges.{HasFailed}
use Rattle.gix_odb_events.specs.declared.event.Refusal.{Refusal}
use Rattle.gix_odb_search.specs.declared.trier.Tried.{Tried}
use Rattle.gix_odb_search.specs.declared.trier.Tried.TheVariants as tried
use Rattle.gix_odb_calls.specs.declared.load_index.Error.TheVariants as load_errors
use Rattle.gix_odb_calls.specs.declared.verdict.Verdict.{Verdict}
use Rattle.gix_odb_calls.specs.declared.verdict.Verdict.TheVariants as verdicts
use Rattle.gix_odb.specs.Caused.{IsUnsettled, TellsNumber}
use Rattle.gix_odb.specs.LookExchanges.{Exchange, IsLast}
use Rattle.gix_odb.specs.LookUpOrder.{Setting, after_core_list, after_list, after_loose, at_folder, by_check}
use Rattle.gix_odb.specs.LookUpOrder.{by_checked, by_read, by_refresh, by_tried}
use Rattle.gix_odb.specs.LookUpOrder.{by_verdict, counted, ended, goal_of, is_unsettled, listing_from, load_refused, not_found}
use Rattle.gix_odb.specs.LookUpOrder.{try_view, unsettled}
use Rattle.gix_odb.specs.RefreshOrder.{by_listed, by_look, by_view}
use Rattle.gix_odb.specs.RefreshOrder as refreshes
use Rattle.gix_odb.specs.declared.refresh.RefreshStep.TheVariants as steps
use Rattle.gix_odb.specs.declared.refresh.Refresh.TheVariants as fronts
use Rattle.gix_odb.specs.declared.look_up.LookHead.{LookHead}
use Rattle.gix_odb.specs.declared.look_up.LookStage.{LookStage}
use Rattle.gix_odb.specs.declared.look_up.LookStage.TheVariants as stages
use Rattle.gix_odb.specs.declared.look_up.LookUp.{LookUp}
use Rattle.gix_odb.specs.declared.look_up.LooseRound.{LooseRound}
use Rattle.gix_odb.specs.declared.look_up.Part.{Part}
use Rattle.gix_odb.specs.declared.look_up.Part.TheVariants as parts
use Rattle.gix_odb.specs.declared.look_up.Purpose.{Purpose}
use Rattle.gix_odb.specs.declared.look_up.Purpose.TheVariants as purposes
use Rattle.gix_odb.proofs.ModeLemmas.{by_mode-all}
use Rattle.gix_odb.proofs.ListerLaws.Tells.{ListedTells}
use Rattle.gix_odb.proofs.CauseLaws.Pasts.{Noted}
use Rattle.gix_odb.proofs.CauseLaws.Known.{Counts, HasBegun, KnowsAt, ShowedPart, VerdictTells, bad_explained, found_explained}
use Rattle.gix_odb.proofs.CauseLaws.Known.{not_found_explained, refusal_explained}

module _ (Shown : Path → ℕ → List ℕ → Type 0) (setting : Setting) (hash : Kind) (id : ObjectId)
    (exchanges : List Exchange) where
  abbrev Knows : LookHead → LookStage → Type 0
  Knows head stage = KnowsAt Shown setting hash id exchanges head stage

  -- the core refused an event with this refusal
  abbrev Refuses : Refusal → Type 0
  Refuses refusal = IsRefused exchanges refusal

  module _ (head : LookHead) where
    listing_from-known : (base : ℕ) (notes : Notes) → Noted exchanges notes → HasBegun head → Knows head (listing_from setting base notes)
    listing_from-known base notes noted begun = (noted, begun, tt)

    ended-known : (notes : Notes) → Noted exchanges notes → Knows head (ended head.want notes)
    ended-known notes noted = by notes.failed refl
      where
        by : (b : Bool) → notes.failed ≡ b → Knows head (if b then stages.Done (load_refused load_errors.Io) else stages.Done (not_found head.want))
        by true is = inl (noted is)
        by false is = not_found_explained Shown setting hash id exchanges head.want

    -- a list of the core was tried, and the loose folders
    core_list-known : (list_no : ℕ) (notes : Notes) → Noted exchanges notes → HasBegun head → Knows head (after_core_list setting head list_no notes)
    core_list-known list_no notes noted begun =
        by_mode-all (Knows head) (ended head.want notes) (listing_from setting list_no notes) head.mode (ended-known notes noted)
        (listing_from-known list_no notes noted begun)

    after_list-known : (part : Part) (notes : Notes) → Noted exchanges notes → ShowedPart head part → Knows head (after_list setting head part notes)
    after_list-known parts.Snapshot notes noted showed = (noted, tt)
    after_list-known (parts.List list_no true) notes noted showed = (noted, showed)
    after_list-known (parts.List list_no false) notes noted showed = core_list-known list_no notes noted showed
    after_list-known (parts.Published list_no) notes noted showed = (noted, showed)

    after_loose-known : (part : Part) (notes : Notes) → Noted exchanges notes → ShowedPart head part → Knows head (after_loose setting head part notes)
    after_loose-known parts.Snapshot notes noted showed = noted
    after_loose-known (parts.List list_no loose) notes noted showed = core_list-known list_no notes noted showed
    after_loose-known (parts.Published list_no) notes noted showed =
        by_mode-all (Knows head) (ended head.want notes) (stages.Checking list_no notes) head.mode (ended-known notes noted) noted

    -- ---- the indices of a list

    pub by_tried-known : (part : Part) → ShowedPart head part → (goal : Goal) (t : Tried) → Comes goal (HasFailed exchanges) Refuses t
        → Knows head (by_tried setting head part t)
    by_tried-known part showed goal (tried.More trier) tells = (tells.1, showed, tells.2)
    by_tried-known part showed goal (tried.Hit found) tells = found_explained Shown setting hash id exchanges head.want found
    by_tried-known part showed goal (tried.Missed notes) tells = after_list-known part notes tells showed
    by_tried-known part showed goal (tried.Bad error) tells = bad_explained Shown setting hash id exchanges head.want error
    by_tried-known part showed goal (tried.Broken refusal) tells = refusal_explained Shown setting hash id exchanges head.want refusal tells

    pub try_view-known : (part : Part) → ShowedPart head part → (view : View) (todo : List Todo) (notes : Notes) → Noted exchanges notes
        → Knows head (try_view setting head part view todo notes)
    try_view-known part showed view todo notes noted =
        by_tried-known part showed (goal_of setting head) (seek (goal_of setting head) ahead)
        (seek-comes (goal_of setting head) (HasFailed exchanges) Refuses ahead noted)
      where
        ahead : Ahead
        ahead = record { indices = view.snapshot.indices; todo = todo; notes = notes }

    -- ---- the loose folders

    at_folder-known : (round : LooseRound) → Noted exchanges round.notes → ShowedPart head round.part → (next : Option Path)
        → Knows head (at_folder setting head round next)
    at_folder-known round noted showed None = after_loose-known round.part round.notes noted showed
    at_folder-known round noted showed (Some folder) = (noted, showed)

    pub by_verdict-known : (round : LooseRound) → Noted exchanges round.notes → ShowedPart head round.part → (verdict : Verdict)
        → VerdictTells Shown setting hash id exchanges head.want verdict
        → Knows head (by_verdict setting head round verdict)
    by_verdict-known round noted showed (verdicts.Ends reply) tells = tells
    by_verdict-known round noted showed verdicts.Misses tells = at_folder-known round noted showed (slice_get setting.parts.folders round.next)
    by_verdict-known round noted showed (verdicts.Notes error) tells =
        at_folder-known (record round { notes = record round.notes { failed = true } }) (λ is. tells) showed (slice_get setting.parts.folders round.next)

    -- ---- the core

    module _ (counts : Counts exchanges head) (begun : HasBegun head) (exchange : Exchange) (last : IsLast exchanges exchange) where
      -- more lists of others than the look-up may meet
      unsettled-known : (now : ℕ) → TellsNumber exchange.answer now → is_unsettled setting head now ≡ true
          → IsUnsettled Shown setting hash id exchanges (unwrap_or head.begun now) head.own now
      unsettled-known now number many =
          let same : unwrap_or head.begun now ≡ begun.0 = ap (λ (b : Option ℕ). unwrap_or b now) begun.1 in
          record {
            first = sym counts.begun ∙ begun.1 ∙ ap (λ (n : ℕ). Some n) (sym same);
            published = counts.own;
            exchange = exchange;
            last = last;
            number = number;
            many = ltb-true setting.most (now - unwrap_or head.begun now - head.own) many;
          }

      pub counted-known : (now : ℕ) → TellsNumber exchange.answer now → (next : LookStage) → Knows head next → Knows head (counted setting head now next)
      counted-known now number next knows = by (is_unsettled setting head now) refl
        where
          by : (b : Bool) → is_unsettled setting head now ≡ b → Knows head (if b then unsettled head now else next)
          by true is = unsettled-known now number is
          by false is = knows

      by_check-known : (list_no : ℕ) (view : View) (notes : Notes) → Noted exchanges notes → TellsNumber exchange.answer view.list_no
          → Knows head (by_check setting head list_no view notes)
      by_check-known list_no view notes noted number = by (view.list_no == list_no)
        where
          by : (b : Bool) → Knows head (if b then ended head.want notes else counted setting head view.list_no (listing_from setting view.list_no notes))
          by true = ended-known notes noted
          by false = counted-known view.list_no number (listing_from setting view.list_no notes) (listing_from-known view.list_no notes noted begun)

    pub by_checked-known : Counts exchanges head → (exchange : Exchange) → IsLast exchanges exchange → (list_no : ℕ) (notes : Notes) → Noted exchanges notes
        → (view : Option View) → ((v : View) → view ≡ Some v → HasBegun head × TellsNumber exchange.answer v.list_no)
        → Knows head (by_checked setting head list_no notes view)
    by_checked-known counts exchange last list_no notes noted None shows = noted
    by_checked-known counts exchange last list_no notes noted (Some view) shows =
        by_check-known counts (shows view refl).0 exchange last list_no view notes noted (shows view refl).1

    -- ---- the list of the core is read, or brought up to date

    abbrev KnowsLook : LookUp → Type 0
    KnowsLook look = Knows look.head look.stage

    by_read-known : HasBegun head → (purpose : Purpose) (view : View) (notes : Notes) → Noted exchanges notes → Knows head (by_read setting head purpose view notes)
    by_read-known begun (purposes.First loose) view notes noted = try_view-known (parts.List view.list_no loose) begun view view.todo notes noted
    by_read-known begun purposes.Again view notes noted =
        by_mode-all (Knows head) (stages.Refreshing fronts.Reading (purposes.First true) notes) (listing_from setting view.list_no notes) head.mode noted
        (listing_from-known view.list_no notes noted begun)

    by_view-known : HasBegun head → (purpose : Purpose) (view : View) (notes : Notes) → Noted exchanges notes
        → KnowsLook (by_refresh setting head purpose notes (by_view setting.parts.objects view))
    by_view-known begun purpose view notes noted = by view.read
      where
        by : (b : Bool)
            → KnowsLook (by_refresh setting head purpose notes (if b then steps.Read view else steps.More (refreshes.listing_from setting.parts.objects view.list_no)))
        by true = by_read-known begun purpose view notes noted
        by false = (noted, begun, tt)

    pub by_look-known : (purpose : Purpose) (notes : Notes) → Noted exchanges notes → (view : Option View) → ((v : View) → view ≡ Some v → HasBegun head)
        → KnowsLook (by_refresh setting head purpose notes (by_look setting.parts.objects view))
    by_look-known purpose notes noted None shows = noted
    by_look-known purpose notes noted (Some view) shows = by_view-known (shows view refl) purpose view notes noted

    pub by_listed-known : (purpose : Purpose) (notes : Notes) → Noted exchanges notes → HasBegun head → (step : ListStep)
        → ListedTells setting exchanges step
        → KnowsLook (by_refresh setting head purpose notes (by_listed step))
    by_listed-known purpose notes noted begun (listed.More lister) tells = (noted, begun, tells)
    by_listed-known purpose notes noted begun (listed.Listed listing) tells = (noted, begun)
    by_listed-known purpose notes noted begun listed.Broken tells = tells
    by_listed-known purpose notes noted begun (listed.TooManyPacks actual path) tells = tells
