-- Walks one after the other: one more, one that was cut off, and what their status says.
use Rattle.std.proofs.Common.{◌≡◌, ◌⊎◌, inl, inr, ℕ, ◌+◌, ◌<◌, ◌≤◌, Bool, true, false, cond, List, [], ◌∷◌, ◌++◌, length}
use Rattle.std.proofs.Common.{get_or, take, drop, refl, sym, ap, subst, ◌∙◌, append_assoc, append-nil, arith}
use Rattle.std.specs.Prelude.{Option}
use Rattle.std.specs.List.{list_any}
use Rattle.std.proofs.lemmas.List.{take_all}
use Rattle.odb_base.specs.Path.{Path}
use Rattle.odb_disk.specs.Tree.{State}
use Rattle.list_walk.specs.Lines.{is_error}
use Rattle.list_walk.specs.Visits.{CutOff, Listed, Moment, Visits, VisitsCut, worse}
use Rattle.list_walk.specs.Visits.Visits.{none, more}
use Rattle.list_walk.specs.declared.status.Status.{Status}
use Rattle.list_walk.specs.declared.status.Status.TheVariants as statuses
use Rattle.list_walk.specs.declared.words.Choices.{Choices}

-- ---- a list and its first item

pub first_and : {X : Type 0} (xs : List X) (n : ℕ) (first other : X) → length xs ≤ n + 1 → 0 < length xs → first ≡ get_or xs 0 other → xs ≡ first ∷ take n (drop 1 xs)
first_and [] n first other all some is = absurd (omega arith)
first_and (x ∷ xs) n first other all some is = ap (λ y. y ∷ xs) (sym is) ∙ ap (λ ys. first ∷ ys) (sym (take_all n xs (omega arith)))

pub nothing_left : {X : Type 0} (xs : List X) → length xs < 1 → xs ≡ []
nothing_left [] few = refl
nothing_left (x ∷ xs) few = absurd (omega arith)

-- ---- walks one after the other

module _ (choices : Choices) (state : Option State) (first : Moment) where
  -- the walks of the folders before those that are left
  pub record Walked (folders rest : List Path) (now : Moment) (status : Status) : Type 0 where
    pub front : List Path
    pub folders_are : folders ≡ front ++ rest
    pub visits : Visits choices state first front now status

  pub begins_walks : (folders : List Path) → Walked folders folders first statuses.Done
  begins_walks folders = record { front = []; folders_are = refl; visits = none }

  pub one_walk_more : (folders rest more_rest : List Path) (now next : Moment) (status own : Status) (folder : Path) → Walked folders rest now status → rest ≡ folder ∷ more_rest
      → Listed (record { choices = choices; state = state; folder = folder; before = now; after = next }) own → Walked folders more_rest next (worse status own)
  one_walk_more folders rest more_rest now next status own folder walked are listed = record {
    front = walked.front ++ folder ∷ [];
    folders_are = walked.folders_are ∙ ap (λ r. walked.front ++ r) are ∙ sym (append_assoc walked.front (folder ∷ []) more_rest);
    visits = more walked.front now next status own folder walked.visits listed;
  }

  pub walks_cut : (folders rest more_rest : List Path) (now last : Moment) (status : Status) (folder : Path) → Walked folders rest now status → rest ≡ folder ∷ more_rest
      → CutOff (record { choices = choices; state = state; folder = folder; before = now; after = last }) → VisitsCut choices state folders first last
  walks_cut folders rest more_rest now last status folder walked are cut = record {
    front = walked.front;
    folder = folder;
    behind = more_rest;
    folders_are = walked.folders_are ∙ ap (λ r. walked.front ++ r) are;
    before = now;
    status = status;
    visits = walked.visits;
    cut = cut;
  }

  pub all_walked : (folders rest : List Path) (now : Moment) (status : Status) → Walked folders rest now status → rest ≡ [] → Visits choices state first folders now status
  all_walked folders rest now status walked nothing =
      subst (λ f. Visits choices state first f now status) (sym (walked.folders_are ∙ ap (λ r. walked.front ++ r) nothing ∙ append-nil walked.front)) walked.visits

  own_kind : (errors : Bool) (status : Status) → status ≡ cond errors statuses.SomeErrors statuses.Done → (status ≡ statuses.SomeErrors) ⊎ (status ≡ statuses.Done)
  own_kind true status is = inl is
  own_kind false status is = inr is

  -- the status says whether there are errors, and nothing else
  pub kind : (folders : List Path) (now : Moment) (status : Status) → Visits choices state first folders now status → (status ≡ statuses.SomeErrors) ⊎ (status ≡ statuses.Done)
  kind folders now status none = inr refl
  kind folders now status (more front before after earlier own folder visits listed) =
      elim (kind front before earlier visits) [
        | inl is ↦ inl (ap (λ s. worse s own) is)
        | inr is ↦ elim (own_kind (list_any is_error listed.wrote.items) own listed.wrote.status_is) [
          | inl other ↦ inl (ap (λ s. worse s own) is ∙ other)
          | inr other ↦ inr (ap (λ s. worse s own) is ∙ other)
        ]
      ]
