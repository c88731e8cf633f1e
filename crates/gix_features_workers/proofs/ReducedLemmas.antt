-- Lemmas on answers.
use Rattle.std.proofs.Common.{Result, Ok, Err}
use Rattle.std.specs.Prelude.{⊤}
use Rattle.gix_features_workers.specs.declared.calls.ParallelError.{ParallelError}
use Rattle.gix_features_workers.specs.declared.calls.ParallelError.TheVariants.{Reduce, NoMemory}
use Rattle.gix_features_workers.specs.Workers.{AreWorked}
use Rattle.gix_features_workers.specs.Reduced.{IfReduced, IsStep}
use Rattle.std.proofs.Common.{◌≡◌, ℕ, List, [], Option, None, sym, subst}

pub IfReduced-then : {A E : Type 0} {P Q : Result A E → Type 0} (result : Result A (ParallelError E)) → ((answer : Result A E) → P answer → Q answer)
    → IfReduced result P → IfReduced result Q
IfReduced-then (Ok value) then p = then (Ok value) p
IfReduced-then (Err (Reduce error)) then p = then (Err error) p
IfReduced-then (Err NoMemory) then p = p

-- the results of the last states are forgotten
pub AreWorked-forget : {S T O L : Type 0} {begins : ℕ → S → Type 0} {consumes : S → T → O → S → Type 0} {ends : S → L → Type 0} {n : ℕ} {items : List T} {outputs : List O} {lasts : List L}
    → AreWorked begins consumes ends n items outputs lasts → AreWorked begins consumes (λ _ _. ⊤) n items outputs lasts
AreWorked-forget worked = record {
  one_each = worked.one_each;
  workers = worked.workers;
  each = λ k d b. let one = worked.each k d b in record { first = one.first; final = one.final; begun = one.begun; worked = one.worked; ended = tt };
}

-- no output is left, and none is fed
pub IsStep-none : {R O P E : Type 0} (feeds : R → O → Result P E → R → Type 0) (r : R) (xs ys : List O) (answer : Option (Result P (ParallelError E)))
    → xs ≡ [] → answer ≡ None → ys ≡ [] → IsStep feeds r xs answer r ys
IsStep-none feeds r xs ys answer a b d = subst (λ zs. IsStep feeds r xs answer r zs) (sym d)
    (subst (λ w. IsStep feeds r xs w r []) (sym b) (subst (λ zs. IsStep feeds r zs None r []) (sym a) IsStep.Done))
