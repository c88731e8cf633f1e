-- Where a look-up of a prefix stands after the answer to its call of the disk, stage by stage.
use Rattle.std.proofs.Common.{◌≡◌, ◌≢◌, inl, inr, ℕ, ◌<◌, ◌≤◌, Bool, true, false, List, [], None, Result, Ok, Err}
use Rattle.std.proofs.Common.{refl, sym, ap, ◌∙◌, arith}
use Rattle.std.specs.List.{IsDistinct}
use Rattle.std.specs.Option.{ForSome}
use Rattle.odb_base.specs.Faults.{Rose}
use Rattle.odb_base.specs.Path.{Path}
use Rattle.odb_disk.specs.Answers.{Answers}
use Rattle.odb_disk.specs.Ask.{AnswersAsk, answer_of, meta_answer}
use Rattle.odb_disk.specs.Entries.{opened as entries_opened}
use Rattle.odb_disk.specs.StreamAsks.{AnswersStreams}
use Rattle.odb_disk.specs.Streams.{Opens, Streams}
use Rattle.odb_disk.specs.Tree.{Tree, tree_of}
use Rattle.odb_disk.specs.Tree.Follow.{Refusal, looked}
use Rattle.odb_disk.specs.declared.ask.DiskAnswer.{DiskAnswer}
use Rattle.odb_disk.specs.declared.ask.DiskAnswer.TheVariants as answers
use Rattle.odb_disk.specs.declared.ask.DiskAsk.TheVariants as asks
use Rattle.odb_disk.specs.declared.disk_error.DiskError.{DiskError}
use Rattle.odb_disk.specs.declared.disk_error.DiskError.TheVariants as errors
use Rattle.odb_disk.specs.declared.entry.Entry.{Entry}
use Rattle.odb_disk.specs.declared.meta.Kind.{Kind as NodeKind}
use Rattle.odb_disk.specs.declared.meta.Kind.TheVariants as nodes
use Rattle.odb_disk.specs.declared.meta.Meta.{Meta}
use Rattle.gix_hash.specs.Prefix.{IsPrefix}
use Rattle.gix_hash.specs.declared.object_id.ObjectId.{ObjectId}
use Rattle.gix_odb_loose.specs.PrefixNames.{same_id}
use Rattle.gix_odb_loose.specs.PrefixOrder.{by_kind, opened, statted}
use Rattle.gix_odb_loose.specs.PrefixSearches.{Began, IsDirectory, OwnsOne, calls_at, folder_in, head_in}
use Rattle.gix_odb_loose.specs.declared.prefix_search.SearchStage.TheVariants as stages
use Rattle.gix_odb_loose.specs.declared.prefix_search.SearchStep.{SearchStep}
use Rattle.gix_odb_loose.proofs.PrefixFolderLaws.{none_at_file, none_unless_directory, opens_if_directory}
use Rattle.gix_odb_loose.proofs.PrefixSearchesLemmas.Ends.{IsOfLook, RefusedAs, ShownAs, Turned, ends, for_some, goes, look_refused, meta_told, of_look, open_refused, unlisted_turns}
use Rattle.gix_odb_loose.proofs.PrefixSearchesLemmas.Matches.{none_named}
use Rattle.gix_odb_loose.proofs.PrefixSearchesLemmas.Names.{IsEnded, ended_none}
use Rattle.gix_odb_loose.proofs.PrefixSearchesLemmas.Streams.{gives_opened, left_is, own_opened, own_same}

-- the answer to a stat, by the tree
pub told_look : (tree : Tree) (path : Path) (follow : Bool) (answer : DiskAnswer) → AnswersAsk answer (answer_of tree (asks.Look path follow)) → AnswersAsk answer (meta_answer (looked tree path follow))
unfolding answer_of
told_look tree path follow answer told = told

module _ (b : Began) (is : IsPrefix b.prefix) (old new : Streams) (before now : ℕ) (first : b.faults ≤ before) (then : before ≤ now) where
  still_later : b.faults ≤ now
  still_later = omega (arith, first, then)

  rose_since : Rose before now → Rose b.faults now
  rose_since rose = omega (arith, first, rose)

  module _ (names : List ObjectId) (distinct : IsDistinct same_id names) where
    abbrev pub To : (calls : ℕ) → SearchStep → Type 0
    To calls step = Turned b new now calls step

    abbrev pub IsLookedAt : (follow : Bool) → NodeKind → Tree → Type 0
    IsLookedAt follow kind tree = (meta : Meta) × (looked tree (folder_in b) follow ≡ Ok meta) × (meta.kind ≡ kind)

    -- ---- the directory is statted

    no_file : (tree : Tree) → names ≡ [] → IsLookedAt false nodes.File tree → IsEnded b tree names
    no_file tree none shown = ended_none b tree names none (none_at_file tree b.objects b.prefix is shown.0 shown.1 shown.2)

    no_directory : (kind : NodeKind) → kind ≢ nodes.Dir → (tree : Tree) → names ≡ [] → IsLookedAt true kind tree → IsEnded b tree names
    no_directory kind other tree none shown =
        ended_none b tree names none (none_unless_directory tree b.objects b.prefix is shown.0 shown.1 (λ same. other (sym shown.2 ∙ same)))

    directory : (tree : Tree) (follow : Bool) → IsLookedAt follow nodes.Dir tree → IsDirectory b tree
    directory tree follow shown = let opens = opens_if_directory tree b.objects b.prefix is follow shown.0 shown.1 shown.2 in record { entries = opens.0; opens = opens.1 }

    kind_turns : (follow : Bool) (kind : NodeKind) → OwnsOne b None new → ForSome b.state (λ s. (names ≡ []) × IsLookedAt follow kind (tree_of s))
        → To (calls_at old (stages.Statting follow)) (by_kind (head_in b names) follow kind)
    unfolding calls_at
    kind_turns false nodes.Dir own at = goes b is new now still_later names distinct _ stages.Opening (none_named b) own (λ s here. let h = at s here in (h.0, directory (tree_of s) false h.1)) tt (omega arith)
    kind_turns true nodes.Dir own at = goes b is new now still_later names distinct _ stages.Opening (none_named b) own (λ s here. let h = at s here in (h.0, directory (tree_of s) true h.1)) tt (omega arith)
    kind_turns false nodes.Link own at = goes b is new now still_later names distinct _ (stages.Statting true) (none_named b) own (λ s here. let h = at s here in h.0) tt (omega arith)
    kind_turns false nodes.File own at = ends b is new now still_later names distinct _ own (λ s here. let h = at s here in no_file (tree_of s) h.0 h.1) (omega arith)
    kind_turns true nodes.Link own at = ends b is new now still_later names distinct _ own (λ s here. let h = at s here in no_directory nodes.Link (λ e. cc e) (tree_of s) h.0 h.1) (omega arith)
    kind_turns true nodes.File own at = ends b is new now still_later names distinct _ own (λ s here. let h = at s here in no_directory nodes.File (λ e. cc e) (tree_of s) h.0 h.1) (omega arith)

    some_calls : (follow : Bool) → 0 < calls_at old (stages.Statting follow)
    unfolding calls_at
    some_calls true = omega arith
    some_calls false = omega arith

    shown_look : (follow : Bool) (error : DiskError) (tree : Tree) → RefusedAs error (looked tree (folder_in b) follow) → ShownAs b error tree
    shown_look follow error tree (inl failed) = inl failed
    shown_look follow error tree (inr (inl lost)) = inr (inl lost)
    shown_look false error tree (inr (inr refused)) = inr (inr (refused.0, inl refused.1, refused.2))
    shown_look true error tree (inr (inr refused)) = inr (inr (refused.0, inr refused.1, refused.2))

    -- a stat has no other answer
    odd_look : (follow : Bool) (answer : DiskAnswer) → (IsOfLook answer → ⊥) → OwnsOne b None new → ForSome b.state (λ s. (names ≡ []) × (answer ≡ meta_answer (looked (tree_of s) (folder_in b) follow)))
        → ForSome b.state (λ s. (names ≡ []) × ShownAs b errors.WrongKind (tree_of s))
    odd_look follow answer odd own at = (λ s here. let h = at s here in absurd (odd (of_look answer (looked (tree_of s) (folder_in b) follow) h.1)))

    pub statted_turns : (follow : Bool) (answer : DiskAnswer) → (answer ≡ answers.Refused errors.Failed → Rose before now) → OwnsOne b None new
        → ForSome b.state (λ s. (names ≡ []) × AnswersAsk answer (meta_answer (looked (tree_of s) (folder_in b) follow)))
        → To (calls_at old (stages.Statting follow)) (statted (head_in b names) follow answer)
    statted_turns follow (answers.Meta meta) failed own at =
        kind_turns follow meta.kind own (λ s here. let h = at s here in (h.0, (meta, meta_told meta (looked (tree_of s) (folder_in b) follow) h.1, refl)))
    statted_turns follow (answers.Refused error) failed own at =
        unlisted_turns b is new now still_later names distinct _ error (λ same. rose_since (failed (ap answers.Refused same))) own
        (λ s here. let h = at s here in (h.0, shown_look follow error (tree_of s) (look_refused error (looked (tree_of s) (folder_in b) follow) h.1))) (some_calls follow)
    statted_turns follow (answers.File bytes time) failed own at =
        unlisted_turns b is new now still_later names distinct _ errors.WrongKind (λ same. absurd (cc same)) own (odd_look follow (answers.File bytes time) (λ odd. odd) own at) (some_calls follow)
    statted_turns follow (answers.Dir dir) failed own at =
        unlisted_turns b is new now still_later names distinct _ errors.WrongKind (λ same. absurd (cc same)) own (odd_look follow (answers.Dir dir) (λ odd. odd) own at) (some_calls follow)
    statted_turns follow (answers.Entry entry) failed own at =
        unlisted_turns b is new now still_later names distinct _ errors.WrongKind (λ same. absurd (cc same)) own (odd_look follow (answers.Entry entry) (λ odd. odd) own at) (some_calls follow)
    statted_turns follow answers.End failed own at =
        unlisted_turns b is new now still_later names distinct _ errors.WrongKind (λ same. absurd (cc same)) own (odd_look follow answers.End (λ odd. odd) own at) (some_calls follow)
    statted_turns follow answers.Done failed own at =
        unlisted_turns b is new now still_later names distinct _ errors.WrongKind (λ same. absurd (cc same)) own (odd_look follow answers.Done (λ odd. odd) own at) (some_calls follow)

    -- ---- it is opened

    few_left : (dir : ℕ) (opens : Opens b.state (folder_in b) old new dir) → calls_at new (stages.Reading dir []) < calls_at old stages.Opening
    unfolding calls_at
    few_left dir opens =
        let left = left_is new dir opens.entries (gives_opened b.state (folder_in b) old new dir opens) in
        omega (arith, left, opens.few)

    no_calls : 0 < calls_at old stages.Opening
    unfolding calls_at
    no_calls = omega arith

    -- the directory opens, unless the call fails or memory runs out
    shown_open : (error : DiskError) (tree : Tree) → IsDirectory b tree → RefusedAs error (entries_opened tree (folder_in b)) → ShownAs b error tree
    shown_open error tree there (inl failed) = inl failed
    shown_open error tree there (inr (inl lost)) = inr (inl lost)
    shown_open error tree there (inr (inr refused)) =
        let both : ◌≡◌ {A = Result (List Entry) Refusal} (Ok there.entries) (Err refused.0) = sym there.opens ∙ refused.1 in
        absurd (cc both)

    pub opened_turns : (answer : DiskAnswer) → (answer ≡ answers.Refused errors.Failed → Rose before now) → OwnsOne b None old → AnswersStreams b.state old new (asks.OpenDir (folder_in b)) answer → ForSome b.state (λ s. (names ≡ []) × IsDirectory b (tree_of s))
        → To (calls_at old stages.Opening) (opened (head_in b names) answer)
    opened_turns (answers.Dir dir) failed own opens at =
        goes b is new now still_later names distinct _ (stages.Reading dir []) (none_named b) (own_opened b b.state (folder_in b) old new dir opens own)
        (λ s here. let h = at s here in let whole = for_some b.state (λ s. entries_opened (tree_of s) (folder_in b) ≡ Ok opens.entries) opens.fixed s here in (h.0, record { read = []; rest = opens.entries; opens = whole; gives = gives_opened b.state (folder_in b) old new dir opens; matched = refl }))
        tt (few_left dir opens)
    opened_turns (answers.Refused error) failed own refused at =
        unlisted_turns b is new now still_later names distinct _ error (λ same. rose_since (failed (ap answers.Refused same))) (own_same b None old new refused.0 own)
        (λ s here. let h = at s here in let told = for_some b.state (λ s. Answers {A = List Entry} (Err error) (entries_opened (tree_of s) (folder_in b))) refused.1 s here in (h.0, shown_open error (tree_of s) h.1 (open_refused error (entries_opened (tree_of s) (folder_in b)) told))) no_calls
    opened_turns (answers.Meta meta) failed own odd at = absurd odd
    opened_turns (answers.File bytes time) failed own odd at = absurd odd
    opened_turns (answers.Entry entry) failed own odd at = absurd odd
    opened_turns answers.End failed own odd at = absurd odd
    opened_turns answers.Done failed own odd at = absurd odd
