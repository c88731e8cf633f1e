-- What a look-up of a prefix found, and what is returned of it.
use Rattle.std.specs.Prelude.{⊤}
use Rattle.std.proofs.Common.{◌≡◌, ◌⊎◌, inl, inr, ◌↔◌, ℕ, ◌||◌, true, List, Contains, Option, Some, None, Result, Ok, Err, IfOk, IfErr, IfSome, OnErr, OnOk, refl, ap, subst}
use Rattle.std.specs.HashSet.{HashSet, contains}
use Rattle.std.specs.Result.{IsErrAnd}
use Rattle.odb_base.specs.Faults.{Rose}
use Rattle.odb_base.specs.Path.{Path}
use Rattle.odb_disk.specs.Tree.{State, tree_of}
use Rattle.odb_disk.specs.declared.ask.DiskAnswer.{DiskAnswer}
use Rattle.odb_disk.specs.declared.ask.DiskAsk.{DiskAsk}
use Rattle.walkdir.specs.Error.{no_memory}
use Rattle.walkdir.specs.declared.error.Error.{Error}
use Rattle.gix_hash.specs.Prefix.{PrefixOf}
use Rattle.gix_hash.specs.declared.object_id.ObjectId.{ObjectId}
use Rattle.gix_odb_loose.specs.NameSet.{is_among}
use Rattle.gix_odb_loose.specs.PrefixCauses.{PrefixCause}
use Rattle.gix_odb_loose.specs.PrefixNames.{Gains, Tells, same_id}
use Rattle.gix_odb_loose.specs.PrefixRuns.{AsksBy, Comes}
use Rattle.gix_odb_loose.specs.PrefixSearches.{Began, Counts, IsFound}
use Rattle.gix_odb_loose.specs.declared.lookup.Outcome.{Outcome}
use Rattle.gix_odb_loose.specs.declared.prefix_search.Candidates.{Candidates}
use Rattle.gix_odb_loose.specs.declared.prefix_search.PrefixSearch.{PrefixSearch}
use Rattle.gix_odb_loose.specs.declared.prefix_search.SearchStep.TheVariants.{More, Done}
use Rattle.gix_odb_loose.proofs.PrefixSearchesLemmas.Drives.{memory_cause}
use Rattle.gix_odb_loose.proofs.PrefixSearchesLemmas.Ends.{if_some}
use Rattle.gix_odb_loose.proofs.PrefixSetLemmas.{gains_names}

abbrev pub Answer : Type 0
Answer = Result (Option Outcome) Error

-- an error is the one that was found, or says that memory ran out
abbrev pub IsErrorOf : Answer → Error → Type 0
IsErrorOf answer error = (answer ≡ Err error) ⊎ (error ≡ no_memory)

pub own_outcome : (answer : Answer) → IfOk answer (λ outcome. answer ≡ Ok outcome)
own_outcome (Ok outcome) = refl
own_outcome (Err error) = tt

pub own_error : (answer : Answer) → IfErr answer (IsErrorOf answer)
own_error (Ok outcome) = tt
own_error (Err error) = inl refl

module _ (b : Began) (now : ℕ) (found : Candidates) (own : IsFound b now found) where
  -- the outcome
  pub told_outcome : (result : Answer) → IfOk result (λ outcome. found.answer ≡ Ok outcome) → IfSome b.state (λ s. IfOk result (Tells (Counts b (tree_of s))))
  told_outcome (Ok outcome) same =
      if_some b.state (λ s. Tells (Counts b (tree_of s)) outcome) (λ s here. subst (λ (a : Answer). IfOk a (Tells (Counts b (tree_of s)))) same (own.answer s here))
  told_outcome (Err error) same = if_some b.state (λ s. ⊤) (λ s here. tt)

  -- the set
  pub told_gains : {S : Type 0} (before after : HashSet ObjectId S) (result : Answer) → b.gather ≡ true → IfOk result (λ outcome. found.answer ≡ Ok outcome)
      → OnOk result ((id : ObjectId) → contains same_id after id ≡ (contains same_id before id || is_among found.names id)) → IfSome b.state (λ s. OnOk result (Gains (Counts b (tree_of s)) before after))
  told_gains before after (Ok outcome) gather same all =
      if_some b.state (λ s. Gains (Counts b (tree_of s)) before after)
      (λ s here.
      gains_names (Counts b (tree_of s)) before after found.names all
      (subst (λ (a : Answer). IfOk a (λ _. (id : ObjectId) → Contains found.names id ↔ Counts b (tree_of s) id)) same (own.names gather s here)))
  told_gains before after (Err error) gather same all = if_some b.state (λ s. ⊤) (λ s here. tt)

  -- the cause of an error
  pub told_cause : (result : Answer) → IfErr result (IsErrorOf found.answer) → IfErr result (PrefixCause b.objects b.prefix b.state (Rose b.faults now) ⊤)
  told_cause (Ok outcome) is = tt
  told_cause (Err error) (inl same) = subst (λ (a : Answer). IfErr a (PrefixCause b.objects b.prefix b.state (Rose b.faults now) ⊤)) same own.cause
  told_cause (Err error) (inr lost) = memory_cause b.objects b.prefix b.state (Rose b.faults now) error lost

module _ {D : Type 0} (answered : D → DiskAsk → DiskAnswer → D → Type 0) (search : PrefixSearch) (before after : D) where
  -- the calls
  pub told_asks : (found : Candidates) (result : Answer) → ((given : List DiskAnswer) × Comes answered given (More search) before after (Done found)) → IfOk result (λ outcome. found.answer ≡ Ok outcome)
      → IfErr result (IsErrorOf found.answer) → AsksBy answered search before after result
  told_asks found (Ok outcome) came same is =
      inr (came.0, found.names, subst (λ (a : Answer). Comes answered came.0 (More search) before after (Done (record { answer = a; names = found.names }))) same came.1)
  told_asks found (Err error) came same (inl is) =
      inr (came.0, found.names, subst (λ (a : Answer). Comes answered came.0 (More search) before after (Done (record { answer = a; names = found.names }))) is came.1)
  told_asks found (Err error) came same (inr lost) = inl (ap Err lost)

  -- memory ran out
  pub lost_asks : (result : Answer) → IsErrAnd result (λ error. error ≡ no_memory) → AsksBy answered search before after result
  lost_asks (Ok outcome) lost = absurd lost
  lost_asks (Err error) lost = inl (ap Err lost)

pub lost_cause : (objects : Path) (prefix : PrefixOf) (state : Option State) (Failed : Type 0) (result : Answer) → IsErrAnd result (λ error. error ≡ no_memory)
    → IfErr result (PrefixCause objects prefix state Failed ⊤)
lost_cause objects prefix state Failed (Ok outcome) lost = absurd lost
lost_cause objects prefix state Failed (Err error) lost = memory_cause objects prefix state Failed error lost

pub lost_answer : (state : Option State) (P : State → Option Outcome → Type 0) (result : Answer) → IsErrAnd result (λ error. error ≡ no_memory) → IfSome state (λ s. IfOk result (P s))
lost_answer state P (Ok outcome) lost = absurd lost
lost_answer state P (Err error) lost = if_some state (λ s. ⊤) (λ s here. tt)

pub lost_gains : (state : Option State) (P : State → Type 0) (result : Answer) → IsErrAnd result (λ error. error ≡ no_memory) → IfSome state (λ s. OnOk result (P s))
lost_gains state P (Ok outcome) lost = absurd lost
lost_gains state P (Err error) lost = if_some state (λ s. ⊤) (λ s here. tt)

-- ---- no set was passed in

pub none_gain : (state : Option State) (result : Answer) → IfSome state (λ s. OnOk result (Unit {0}))
none_gain None result = tt
none_gain (Some s) (Ok outcome) = tt
none_gain (Some s) (Err error) = tt

pub none_stay : (result : Answer) → OnErr result (Unit {0})
none_stay (Ok outcome) = tt
none_stay (Err error) = tt
