-- Where a look-up of a prefix stands after the directory was read: at its next match, and after a link in it was followed.
use Rattle.std.proofs.Common.{◌≡◌, ◌≢◌, ℕ, ◌<◌, ◌≤◌, true, false, cond, List, [], ◌∷◌, length, None, Result, Ok}
use Rattle.std.proofs.Common.{refl, sym, ap, ◌∙◌, arith, inr}
use Rattle.std.specs.List.{IsDistinct}
use Rattle.std.specs.Option.{ForSome}
use Rattle.odb_base.specs.Faults.{Rose}
use Rattle.odb_disk.specs.Ask.{AnswersAsk, meta_answer}
use Rattle.odb_disk.specs.Streams.{Streams}
use Rattle.odb_disk.specs.Tree.{Tree, tree_of}
use Rattle.odb_disk.specs.Tree.Follow.{Refusal, looked}
use Rattle.odb_disk.specs.declared.ask.DiskAnswer.{DiskAnswer}
use Rattle.odb_disk.specs.declared.ask.DiskAnswer.TheVariants as answers
use Rattle.odb_disk.specs.declared.disk_error.DiskError.TheVariants as errors
use Rattle.odb_disk.specs.declared.meta.Kind.{Kind as NodeKind}
use Rattle.odb_disk.specs.declared.meta.Kind.TheVariants as nodes
use Rattle.odb_disk.specs.declared.meta.Meta.{Meta}
use Rattle.odb_disk.proofs.TreeLemmas.Look.{looked-read, read_of-file}
use Rattle.gix_hash.specs.ObjectId.{IsId}
use Rattle.gix_hash.specs.Prefix.{HasPrefix, IsPrefix}
use Rattle.gix_hash.specs.declared.object_id.ObjectId.{ObjectId}
use Rattle.gix_odb_loose.specs.LooseFile.{loose_path}
use Rattle.gix_odb_loose.specs.NameSet.{taken}
use Rattle.gix_odb_loose.specs.PrefixNames.{same_id}
use Rattle.gix_odb_loose.specs.PrefixOrder.{done, is_settled, leads_to, linked, more, next, with_taken}
use Rattle.gix_odb_loose.specs.PrefixSearches.{AreLeft, AreNamed, Began, Counts, OwnsOne, calls_at, head_in}
use Rattle.gix_odb_loose.specs.declared.prefix_search.Match.{Match}
use Rattle.gix_odb_loose.specs.declared.prefix_search.Match.TheVariants.{File, Link}
use Rattle.gix_odb_loose.specs.declared.prefix_search.SearchStage.TheVariants as stages
use Rattle.gix_odb_loose.specs.declared.prefix_search.SearchStep.{SearchStep}
use Rattle.gix_odb_loose.proofs.NameSetLemmas.{taken_distinct}
use Rattle.gix_odb_loose.proofs.PrefixListLemmas.{has_first}
use Rattle.gix_odb_loose.proofs.PrefixSearchesLemmas.Ends.{Turned, ends, fails, goes, meta_told}
use Rattle.gix_odb_loose.proofs.PrefixSearchesLemmas.Matches.{later_named, left_taken, left_without}
use Rattle.gix_odb_loose.proofs.PrefixSearchesLemmas.Names.{ended_settled, ended_whole}

-- ---- the next match

module _ (b : Began) (is : IsPrefix b.prefix) (new : Streams) (now : ℕ) (later : b.faults ≤ now) (calls : ℕ) (own : OwnsOne b None new) where
  -- two candidates may be enough, else there is more to do
  unless_settled : (names : List ObjectId) → IsDistinct same_id names → (left : List Match) → ForSome b.state (λ s. AreLeft b (tree_of s) names left) → 0 < calls → (step : SearchStep) → Turned b new now calls step
      → Turned b new now calls (cond (is_settled (head_in b names)) (done (head_in b names)) step)
  unless_settled names distinct left at some step turned =
      elim (is_settled (head_in b names)) as (λ settled. is_settled (head_in b names) ≡ settled → Turned b new now calls (cond settled (done (head_in b names)) step)) [
        | true ↦ λ settled. ends b is new now later names distinct calls own (λ s here. let h = at s here in ended_settled b (tree_of s) names distinct h.found settled) some
        | false ↦ λ _. turned
      ] refl

  link_left : (id : ObjectId) (left : List Match) → length (Link id ∷ left) < calls → calls_at new (stages.Linked id left) < calls
  unfolding calls_at
  link_left id left few = omega (arith, few)

  pub next_turns : (left : List Match) (names : List ObjectId) → IsDistinct same_id names → AreNamed b left → ForSome b.state (λ s. AreLeft b (tree_of s) names left) → length left < calls
      → Turned b new now calls (next (head_in b names) left)
  next_turns [] names distinct named at few = ends b is new now later names distinct calls own (λ s here. let h = at s here in ended_whole b (tree_of s) names distinct h) few
  next_turns (File id ∷ left) names distinct named at few =
      unless_settled names distinct (File id ∷ left) at (omega (arith, few)) (next (with_taken (head_in b names) id) left)
      (next_turns left (taken names id) (taken_distinct names id distinct) (later_named b (File id) left named)
      (λ s here. let h = at s here in left_taken b (tree_of s) (File id) left names h (h.files id (has_first (File id) left)))
      (omega (arith, few)))
  next_turns (Link id ∷ left) names distinct named at few =
      unless_settled names distinct (Link id ∷ left) at (omega (arith, few)) (more (head_in b names) (stages.Linked id left))
      (goes b is new now later names distinct calls (stages.Linked id left) named own at tt (link_left id left few))

-- ---- a link that leads to a file, and one that doesn't

module _ (b : Began) (tree : Tree) (id : ObjectId) where
  -- it isn't a file
  abbrev pub LeadsElsewhere : Type 0
  LeadsElsewhere = (meta : Meta) → looked tree (loose_path b.objects id) true ≡ Ok meta → meta.kind ≢ nodes.File

  no_candidate : LeadsElsewhere → ¬ (Counts b tree id)
  no_candidate elsewhere counts =
      let looks = looked-read tree (loose_path b.objects id) counts.file.bytes counts.file.time counts.file.given in
      elsewhere looks.meta looks.is looks.kind

  candidate : IsId id → HasPrefix b.prefix id → (meta : Meta) → looked tree (loose_path b.objects id) true ≡ Ok meta → meta.kind ≡ nodes.File → Counts b tree id
  candidate own has meta shown file =
      let reads = read_of-file tree (loose_path b.objects id) meta shown file in
      record { is = own; has = has; file = record { bytes = reads.bytes; time = meta.time; given = reads.is; holds = tt } }

module _ (b : Began) (is : IsPrefix b.prefix) (old new : Streams) (now : ℕ) (later : b.faults ≤ now) (id : ObjectId) (left : List Match) (names : List ObjectId)
    (distinct : IsDistinct same_id names) (named : AreNamed b (Link id ∷ left)) (own : OwnsOne b None new) where
  abbrev pub To : SearchStep → Type 0
  To step = Turned b new now (calls_at old (stages.Linked id left)) step

  abbrev pub At : Tree → Type 0
  At tree = AreLeft b tree names (Link id ∷ left)

  few_left : length left < calls_at old (stages.Linked id left)
  unfolding calls_at
  few_left = omega arith

  some_calls : 0 < calls_at old (stages.Linked id left)
  unfolding calls_at
  some_calls = omega arith

  other_turns : ForSome b.state (λ s. At (tree_of s) × LeadsElsewhere b (tree_of s) id) → To (next (head_in b names) left)
  other_turns at =
      next_turns b is new now later _ own left names distinct (later_named b (Link id) left named)
      (λ s here. let h = at s here in left_without b (tree_of s) (Link id) left names h.0 (no_candidate b (tree_of s) id h.1)) few_left

  elsewhere : (kind : NodeKind) → kind ≢ nodes.File → (tree : Tree) (meta : Meta) → looked tree (loose_path b.objects id) true ≡ Ok meta → meta.kind ≡ kind → LeadsElsewhere b tree id
  elsewhere kind other tree meta shown same own_meta own_shown file =
      let both : ◌≡◌ {A = Result Meta Refusal} (Ok own_meta) (Ok meta) = sym own_shown ∙ shown in
      let metas : own_meta ≡ meta = cc both in
      other (sym same ∙ ap (λ (m : Meta). m.kind) (sym metas) ∙ file)

  abbrev pub IsLookedAt : NodeKind → Tree → Type 0
  IsLookedAt kind tree = (meta : Meta) × (looked tree (loose_path b.objects id) true ≡ Ok meta) × (meta.kind ≡ kind)

  found : (tree : Tree) → IsLookedAt nodes.File tree → Counts b tree id
  found tree shown = let own = named (Link id) (has_first (Link id) left) in candidate b tree id own.0 own.1 shown.0 shown.1 shown.2

  leads_turns : (kind : NodeKind) → ForSome b.state (λ s. At (tree_of s) × IsLookedAt kind (tree_of s)) → To (leads_to (head_in b names) id left kind)
  leads_turns nodes.File at =
      next_turns b is new now later _ own left (taken names id) (taken_distinct names id distinct) (later_named b (Link id) left named)
      (λ s here. let h = at s here in left_taken b (tree_of s) (Link id) left names h.0 (found (tree_of s) h.1)) few_left
  leads_turns nodes.Dir at = other_turns (λ s here. let h = at s here in (h.0, elsewhere nodes.Dir (λ e. cc e) (tree_of s) h.1.0 h.1.1 h.1.2))
  leads_turns nodes.Link at = other_turns (λ s here. let h = at s here in (h.0, elsewhere nodes.Link (λ e. cc e) (tree_of s) h.1.0 h.1.1 h.1.2))

  -- an answer that shows no file
  abbrev pub Shows : DiskAnswer → Tree → Type 0
  Shows answer tree = At tree × AnswersAsk answer (meta_answer (looked tree (loose_path b.objects id) true))

  unshown : (answer : DiskAnswer) → ((meta : Meta) → answer ≢ answers.Meta meta) → (tree : Tree) → At tree → answer ≡ meta_answer (looked tree (loose_path b.objects id) true) → At tree × LeadsElsewhere b tree id
  unshown answer other tree at told = (at, λ meta shown file. other meta (told ∙ ap meta_answer shown))

  pub linked_turns : (answer : DiskAnswer) → (answer ≡ answers.Refused errors.Failed → Rose b.faults now) → ForSome b.state (λ s. Shows answer (tree_of s)) → To (linked (head_in b names) id left answer)
  linked_turns (answers.Meta meta) failed at =
      leads_turns meta.kind (λ s here. let h = at s here in (h.0, (meta, meta_told meta (looked (tree_of s) (loose_path b.objects id) true) h.1, refl)))
  linked_turns (answers.Refused errors.Failed) failed at =
      let named_own = named (Link id) (has_first (Link id) left) in
      fails b is new now later names distinct _ 1 (loose_path b.objects id) errors.Failed own (failed refl, inr (id, named_own.0, named_own.1, refl)) some_calls
  linked_turns (answers.Refused errors.NoMemory) failed at = fails b is new now later names distinct _ 1 (loose_path b.objects id) errors.NoMemory own tt some_calls
  linked_turns (answers.Refused errors.Absent) failed at = other_turns (λ s here. let h = at s here in unshown (answers.Refused errors.Absent) (λ meta e. cc e) (tree_of s) h.0 h.1)
  linked_turns (answers.Refused errors.WrongKind) failed at = other_turns (λ s here. let h = at s here in unshown (answers.Refused errors.WrongKind) (λ meta e. cc e) (tree_of s) h.0 h.1)
  linked_turns (answers.Refused errors.LinkLoop) failed at = other_turns (λ s here. let h = at s here in unshown (answers.Refused errors.LinkLoop) (λ meta e. cc e) (tree_of s) h.0 h.1)
  linked_turns (answers.Refused errors.Exists) failed at = other_turns (λ s here. let h = at s here in unshown (answers.Refused errors.Exists) (λ meta e. cc e) (tree_of s) h.0 h.1)
  linked_turns (answers.Refused errors.NotEmpty) failed at = other_turns (λ s here. let h = at s here in unshown (answers.Refused errors.NotEmpty) (λ meta e. cc e) (tree_of s) h.0 h.1)
  linked_turns (answers.File bytes time) failed at = other_turns (λ s here. let h = at s here in unshown (answers.File bytes time) (λ meta e. cc e) (tree_of s) h.0 h.1)
  linked_turns (answers.Dir dir) failed at = other_turns (λ s here. let h = at s here in unshown (answers.Dir dir) (λ meta e. cc e) (tree_of s) h.0 h.1)
  linked_turns (answers.Entry entry) failed at = other_turns (λ s here. let h = at s here in unshown (answers.Entry entry) (λ meta e. cc e) (tree_of s) h.0 h.1)
  linked_turns answers.End failed at = other_turns (λ s here. let h = at s here in unshown answers.End (λ meta e. cc e) (tree_of s) h.0 h.1)
  linked_turns answers.Done failed at = other_turns (λ s here. let h = at s here in unshown answers.Done (λ meta e. cc e) (tree_of s) h.0 h.1)
