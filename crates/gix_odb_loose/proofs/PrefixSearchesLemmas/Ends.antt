-- How a look-up of a prefix goes on and ends: with what it found, or with an error that has its cause.
use Rattle.std.specs.Prelude.{⊤}
use Rattle.std.proofs.Common.{◌≡◌, ◌≢◌, ◌⊎◌, inl, inr, ℕ, ◌<◌, ◌≤◌, true, false, List, [], Option, Some, None, Result, Ok, Err, IfSome, refl, sym, ap, ◌∙◌, subst}
use Rattle.std.specs.List.{IsDistinct}
use Rattle.std.specs.Option.{ForSome}
use Rattle.odb_base.specs.Faults.{Rose}
use Rattle.odb_base.specs.Path.{Path}
use Rattle.odb_disk.specs.Answers.{Answers}
use Rattle.odb_disk.specs.Ask.{AnswersAsk, error_of, meta_answer}
use Rattle.odb_disk.specs.Streams.{Streams}
use Rattle.odb_disk.specs.Tree.{Tree, tree_of}
use Rattle.odb_disk.specs.Tree.Follow.{Absent, LinkLoop, Refusal, WrongKind, looked}
use Rattle.odb_disk.specs.declared.ask.DiskAnswer.{DiskAnswer}
use Rattle.odb_disk.specs.declared.ask.DiskAnswer.TheVariants as answers
use Rattle.odb_disk.specs.declared.disk_error.DiskError.{DiskError}
use Rattle.odb_disk.specs.declared.disk_error.DiskError.TheVariants as errors
use Rattle.odb_disk.specs.declared.entry.Entry.{Entry}
use Rattle.odb_disk.specs.declared.meta.Meta.{Meta}
use Rattle.gix_hash.specs.Prefix.{IsPrefix}
use Rattle.gix_hash.specs.declared.object_id.ObjectId.{ObjectId}
use Rattle.gix_odb_loose.specs.PrefixCauses.{IsRefused, PrefixCause}
use Rattle.gix_odb_loose.specs.PrefixNames.{same_id}
use Rattle.gix_odb_loose.specs.PrefixOrder.{done, failed, more, unlisted, walk_error}
use Rattle.gix_odb_loose.specs.PrefixSearches.{AreNamed, Began, BreaksAt, Counts, IsAtIn, OwnsOne, StandsAfter, calls_after, calls_at, folder_in, head_in, matches_at, own_at}
use Rattle.gix_odb_loose.specs.declared.prefix_search.SearchStage.{SearchStage}
use Rattle.gix_odb_loose.specs.declared.prefix_search.SearchStep.{SearchStep}
use Rattle.gix_odb_loose.proofs.PrefixFolderLaws.{none_unless_followed, none_unless_there}
use Rattle.gix_odb_loose.proofs.PrefixSearchesLemmas.Names.{IsEnded, ended_none}
use Rattle.gix_odb_loose.proofs.PrefixSearchesLemmas.Streams.{own_back}

-- ---- a state that may be unknown

pub for_some : {A : Type 0} (o : Option A) (P : A → Type 0) → IfSome o P → ForSome o P
for_some None P p a is = absurd (cc is)
for_some (Some own) P p a is = subst P (let same : own ≡ a = cc is in same) p

pub if_some : {A : Type 0} (o : Option A) (P : A → Type 0) → ForSome o P → IfSome o P
if_some None P p = tt
if_some (Some a) P p = p a refl

-- ---- refusals

-- an error is a failure, or says that memory ran out, or is a refusal that the tree gives
abbrev pub RefusedAs : {A : Type 0} → DiskError → Result A Refusal → Type 0
RefusedAs {A} error told = (error ≡ errors.Failed) ⊎ ((error ≡ errors.NoMemory) ⊎ ((refusal : Refusal) × (told ≡ Err refusal) × (error ≡ error_of refusal)))

same_refusal : (error : DiskError) (told : Result Meta Refusal) → answers.Refused error ≡ meta_answer told → RefusedAs error told
same_refusal error (Ok meta) is = absurd (cc is)
same_refusal error (Err refusal) is = inr (inr (refusal, refl, let same : error ≡ error_of refusal = cc is in same))

pub look_refused : (error : DiskError) (told : Result Meta Refusal) → AnswersAsk (answers.Refused error) (meta_answer told) → RefusedAs error told
look_refused errors.Failed told is = inl refl
look_refused errors.NoMemory told is = inr (inl refl)
look_refused errors.Absent told is = same_refusal errors.Absent told is
look_refused errors.WrongKind told is = same_refusal errors.WrongKind told is
look_refused errors.LinkLoop told is = same_refusal errors.LinkLoop told is
look_refused errors.Exists told is = same_refusal errors.Exists told is
look_refused errors.NotEmpty told is = same_refusal errors.NotEmpty told is

pub open_refused : (error : DiskError) (told : Result (List Entry) Refusal) → Answers {A = List Entry} (Err error) told → RefusedAs error told
open_refused errors.Failed told is = inl refl
open_refused errors.NoMemory told is = inr (inl refl)
open_refused errors.Absent told is = inr (inr (Absent, is, refl))
open_refused errors.WrongKind told is = inr (inr (WrongKind, is, refl))
open_refused errors.LinkLoop told is = inr (inr (LinkLoop, is, refl))
open_refused errors.Exists told is = absurd is
open_refused errors.NotEmpty told is = absurd is

pub meta_told : (meta : Meta) (told : Result Meta Refusal) → answers.Meta meta ≡ meta_answer told → told ≡ Ok meta
meta_told meta (Ok own) is = let same : meta ≡ own = cc is in ap Ok (sym same)
meta_told meta (Err refusal) is = absurd (cc is)

-- an answer to a stat is what was found, or a refusal
abbrev pub IsOfLook : DiskAnswer → Type 0
IsOfLook (answers.Meta meta) = Unit {0}
IsOfLook (answers.Refused error) = Unit {0}
IsOfLook answer = ⊥

pub of_look : (answer : DiskAnswer) (told : Result Meta Refusal) → answer ≡ meta_answer told → IsOfLook answer
of_look answer (Ok meta) is = subst IsOfLook (sym is) tt
of_look answer (Err refusal) is = subst IsOfLook (sym is) tt

-- ---- the steps

-- a step stands, and fewer calls are left than `calls`
abbrev pub Turned : Began → (new : Streams) → (now calls : ℕ) → SearchStep → Type 0
Turned b new now calls step = StandsAfter b new now step × (calls_after new step < calls)

-- a stat of the directory is refused in the tree for this reason
abbrev pub Shown : Began → Tree → Refusal → Type 0
Shown b tree refusal = (looked tree (folder_in b) false ≡ Err refusal) ⊎ (looked tree (folder_in b) true ≡ Err refusal)

abbrev pub ShownAs : Began → DiskError → Tree → Type 0
ShownAs b error tree = (error ≡ errors.Failed) ⊎ ((error ≡ errors.NoMemory) ⊎ ((refusal : Refusal) × Shown b tree refusal × (error ≡ error_of refusal)))

module _ (b : Began) (is : IsPrefix b.prefix) (new : Streams) (now : ℕ) (later : b.faults ≤ now) (names : List ObjectId) (distinct : IsDistinct same_id names) where
  pub goes : (calls : ℕ) (stage : SearchStage) → AreNamed b (matches_at stage) → OwnsOne b (own_at stage) new → ForSome b.state (λ s. IsAtIn b (tree_of s) new names stage) → BreaksAt b now stage
      → calls_at new stage < calls → Turned b new now calls (more (head_in b names) stage)
  goes calls stage named own at breaks fewer =
      (record { prefix = is; names = names; stage = stage; is = refl; distinct = distinct; named = named; own = own; at = at; breaks = breaks; later = later }, fewer)

  pub ends : (calls : ℕ) → OwnsOne b None new → ForSome b.state (λ s. IsEnded b (tree_of s) names) → 0 < calls → Turned b new now calls (done (head_in b names))
  ends calls own ended some = (
    (
      record {
        answer = (λ s here. let e = ended s here in e.answer);
        names = λ gather. (λ s here. let e = ended s here in e.names_are gather);
        distinct = distinct;
        cause = tt;
      },
      own_back b new own,
    ),
    some,
  )

  pub fails : (calls : ℕ) (depth : ℕ) (path : Path) (error : DiskError) → OwnsOne b None new → PrefixCause b.objects b.prefix b.state (Rose b.faults now) ⊤ (walk_error depth path error) → 0 < calls
      → Turned b new now calls (failed (head_in b names) depth path error)
  fails calls depth path error own cause some =
      ((record { answer = (λ s here. tt); names = λ gather. (λ s here. tt); distinct = distinct; cause = cause }, own_back b new own), some)

  -- ---- where the directory can't be listed

  no_candidates : (tree : Tree) (refusal : Refusal) → Shown b tree refusal → (id : ObjectId) → ¬ (Counts b tree id)
  no_candidates tree refusal (inl shown) = none_unless_there tree b.objects b.prefix is refusal shown
  no_candidates tree refusal (inr shown) = none_unless_followed tree b.objects b.prefix is refusal shown

  absent_ends : (tree : Tree) → names ≡ [] → ShownAs b errors.Absent tree → IsEnded b tree names
  absent_ends tree none (inl wrong) = absurd (cc wrong)
  absent_ends tree none (inr (inl wrong)) = absurd (cc wrong)
  absent_ends tree none (inr (inr shown)) = ended_none b tree names none (no_candidates tree shown.0 shown.1)

  refused_by : (error : DiskError) → error ≢ errors.Failed → error ≢ errors.NoMemory → error ≢ errors.Absent → (tree : Tree) → ShownAs b error tree → IsRefused (folder_in b) tree error
  refused_by error failed lost there tree (inl wrong) = absurd (failed wrong)
  refused_by error failed lost there tree (inr (inl wrong)) = absurd (lost wrong)
  refused_by error failed lost there tree (inr (inr shown)) =
      record { refusal = shown.0; error_is = shown.2; there = λ (absent : shown.0 ≡ Absent). there (shown.2 ∙ ap error_of absent); shown = shown.1 }

  refused_in : (error : DiskError) → error ≢ errors.Failed → error ≢ errors.NoMemory → error ≢ errors.Absent → ForSome b.state (λ s. (names ≡ []) × ShownAs b error (tree_of s))
      → IfSome b.state (λ s. IsRefused (folder_in b) (tree_of s) error)
  refused_in error failed lost there shown =
      if_some b.state (λ s. IsRefused (folder_in b) (tree_of s) error) (λ s here. let h = shown s here in refused_by error failed lost there (tree_of s) h.1)

  pub unlisted_turns : (calls : ℕ) (error : DiskError) → (error ≡ errors.Failed → Rose b.faults now) → OwnsOne b None new → ForSome b.state (λ s. (names ≡ []) × ShownAs b error (tree_of s)) → 0 < calls
      → Turned b new now calls (unlisted (head_in b names) error)
  unlisted_turns calls errors.Absent rose own shown some = ends calls own (λ s here. let h = shown s here in absent_ends (tree_of s) h.0 h.1) some
  unlisted_turns calls errors.Failed rose own shown some = fails calls 0 (folder_in b) errors.Failed own (rose refl, inl refl) some
  unlisted_turns calls errors.NoMemory rose own shown some = fails calls 0 (folder_in b) errors.NoMemory own tt some
  unlisted_turns calls errors.WrongKind rose own shown some =
      fails calls 0 (folder_in b) errors.WrongKind own (refl, refused_in errors.WrongKind (λ e. cc e) (λ e. cc e) (λ e. cc e) shown) some
  unlisted_turns calls errors.LinkLoop rose own shown some =
      fails calls 0 (folder_in b) errors.LinkLoop own (refl, refused_in errors.LinkLoop (λ e. cc e) (λ e. cc e) (λ e. cc e) shown) some
  unlisted_turns calls errors.Exists rose own shown some =
      fails calls 0 (folder_in b) errors.Exists own (refl, refused_in errors.Exists (λ e. cc e) (λ e. cc e) (λ e. cc e) shown) some
  unlisted_turns calls errors.NotEmpty rose own shown some =
      fails calls 0 (folder_in b) errors.NotEmpty own (refl, refused_in errors.NotEmpty (λ e. cc e) (λ e. cc e) (λ e. cc e) shown) some
