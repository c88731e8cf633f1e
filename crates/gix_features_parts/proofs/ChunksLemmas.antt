-- Lemmas on the items that an iterator gave.
use Rattle.std.proofs.Common.{◌≡◌, ℕ, ◌<◌, ◌≤◌, Bool, true, false, Option, Some, None, Ok, Err, List, [], ◌∷◌, ◌++◌, length, refl, sym, ap, subst, arith, length-append}
use Rattle.std.specs.Iterator.{Count, Yields, YieldsThen, MakesProgress}
use Rattle.gix_features_parts.specs.Chunks.{Cuts, Runs, LeavesAtMost}
use Rattle.odb_base.specs.declared.no_memory.NoMemory.{NoMemory}

module _ {S A : Type 0} (steps : S → Option A → S → Type 0) where
  -- one more item follows those before it
  pub Yields-push : (xs : List A) (s t u : S) (x : A) → Yields steps s xs t → steps t (Some x) u → Yields steps s (xs ++ x ∷ []) u
  Yields-push [] s t u x e step = (u, subst (λ v. steps v (Some x) u) (sym e) step, refl)
  Yields-push (y ∷ ys) s t u x e step = (e.0, e.1, Yields-push ys e.0 t u x e.2 step)

  module _ (can : S → Type 0) (left : S → Count) where
    pub Runs-none : (s : S) → can s → Runs can steps left s [] s
    Runs-none s c = record { yields = refl; can_go_on = c; fewer = λ finite. (finite, omega arith) }

    pub Runs-push : (xs : List A) (s t u : S) (x : A) → Runs can steps left s xs t → steps t (Some x) u → MakesProgress can left t (Some x) u
        → Runs can steps left s (xs ++ x ∷ []) u
    Runs-push xs s t u x run step goes = record {
      yields = Yields-push xs s t u x run.yields step;
      can_go_on = goes.keeps;
      fewer = λ finite.
          let before = run.fewer finite in
          let nearer = goes.on before.0 in
          let n = length-append xs (x ∷ []) in
          (nearer.1, omega (arith, before.1, nearer.2, n));
    }

    pub Runs-leaves : (xs : List A) (s t : S) → Runs can steps left s xs t → LeavesAtMost left s xs
    Runs-leaves xs s t run finite = omega (arith, (run.fewer finite).1)

pub no_items : {A : Type 0} (xs : List A) → length xs ≡ 0 → xs ≡ []
no_items [] e = refl
no_items (x ∷ xs) e = absurd (omega (arith, e))

-- ---- the next chunk

module _ {S A V : Type 0} {steps : S → Option A → S → Type 0} {items : V → List A} (most : ℕ) where
  pub cut_over : {s : S} (has_ended : Bool) → has_ended ≡ true → Cuts steps items most s has_ended None s has_ended
  cut_over has_ended e = rw e Cuts.Over

  pub cut_lost : {s t : S} {failed : NoMemory} (has_ended : Bool) (lost : List A) → has_ended ≡ false → 0 < length lost → length lost ≤ most
      → Yields steps s lost t → Cuts steps items most s has_ended (Some (Err failed)) t true
  cut_lost has_ended lost e some few run = rw e (Cuts.Lost lost some few run)

  pub cut_nothing : (s t : S) (before now : Bool) (xs : List A) → 0 < most → before ≡ false → xs ≡ []
      → (now ≡ false → (length xs ≡ most) × (Unit {0})) → (now ≡ true → (length xs < most) × YieldsThen steps s xs None t)
      → Cuts steps items most s before None t now
  cut_nothing s t before false xs positive b empty full ended =
      let len : length xs ≡ 0 = ap length empty in absurd (omega (arith, (full refl).0, positive, len))
  cut_nothing s t before true xs positive b empty full ended =
      let run = subst (λ ys. YieldsThen steps s ys None t) empty (ended refl).1 in
      rw b (Cuts.Nothing (subst (λ v. steps v None t) (sym run.1) run.2))

  pub cut_chunk : (s t : S) (before now : Bool) (chunk : V) → before ≡ false → 0 < length (items chunk)
      → (now ≡ false → (length (items chunk) ≡ most) × Yields steps s (items chunk) t)
      → (now ≡ true → (length (items chunk) < most) × YieldsThen steps s (items chunk) None t)
      → Cuts steps items most s before (Some (Ok chunk)) t now
  cut_chunk s t before false chunk b some full ended = rw b (Cuts.Full (full refl).0 (full refl).1)
  cut_chunk s t before true chunk b some full ended = rw b (Cuts.Last some (ended refl).0 (ended refl).1)
