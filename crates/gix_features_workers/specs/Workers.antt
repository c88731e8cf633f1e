-- What workers make of items: item i is consumed by worker i mod n, whose state is that after its earlier items.
use Rattle.std.specs.Prelude.{◌≡◌, ℕ, zero, suc, ◌-◌, ◌<◌, List, [], ◌∷◌, length, slice_index_or, ⊤}
use Rattle.std.specs.Fn.{Shared, FnReturns}
use Rattle.std.specs.Borrow.{MutBor}

-- every n-th item, after so many are skipped: with n workers, worker k has the share that skips k
abbrev pub share : {T : Type 0} → ℕ → ℕ → List T → List T
share n skip [] = []
share n zero (x ∷ xs) = x ∷ share n (n - 1) xs
share n (suc skip) (x ∷ xs) = share n skip xs

-- how a worker consumes an item
module _ {S T O : Type 0} (consumes : S → T → O → S → Type 0) where
  -- the outputs that a worker makes of its items, one after another, and its last state
  pub data Works : S → List T → List O → S → Type 0 where
    Done : {s : S} → Works s [] [] s
    Next : {s t u : S} {x : T} {o : O} {xs : List T} {os : List O} → consumes s x o t → Works t xs os u → Works s (x ∷ xs) (o ∷ os) u

-- how a worker of some number begins, how it consumes an item, and the result of its last state
module _ {S T O L : Type 0} (begins : ℕ → S → Type 0) (consumes : S → T → O → S → Type 0) (ends : S → L → Type 0) where
  -- a worker's outputs, and its result at the end
  pub record IsWorked (worker : ℕ) (items : List T) (outputs : List O) (last : L) : Type 0 where
    pub first : S
    pub final : S
    pub begun : begins worker first
    pub worked : Works consumes first items outputs final
    pub ended : ends final last

  -- Each of n workers makes its share of the outputs of its share of the items.
  pub record AreWorked (n : ℕ) (items : List T) (outputs : List O) (lasts : List L) : Type 0 where
    pub one_each : length outputs ≡ length items
    pub workers : length lasts ≡ n
    pub each : (k : ℕ) (d : L) → k < n → IsWorked k (share n k items) (share n k outputs) (slice_index_or lasts k d)

-- the outputs that n workers make of items, whatever the results of their last states
abbrev pub AreMade : {S T O : Type 0} → (ℕ → S → Type 0) → (S → T → O → S → Type 0) → ℕ → List T → List O → List (Unit {0}) → Type 0
AreMade begins consumes n = AreWorked {L = Unit {0}} begins consumes (λ _ _. ⊤) n

-- a call with a worker's number may give its first state
abbrev pub BeginsAs : {N S : Type 0} → Shared N (ℕ × Unit {0}) S → N → ℕ → S → Type 0
BeginsAs g f worker first = FnReturns g f (worker, tt) first

-- a call with an item and a state may give an output, and leave another state
pub record ConsumesTo {C S T O : Type 0} (g : Shared C (T × (MutBor S × Unit {0})) (O × (MutBor S × Unit {0}))) (c : C) (before : S) (x : T) (o : O) (after : S) : Type 0 where
  pub shown : MutBor S
  pub shows : shown.now ≡ before
  pub left : MutBor S
  pub met : g.post c (x, (shown, tt)) (o, (left, tt))
  pub leaves : left.now ≡ after

-- a call with a worker's last state may give this
abbrev pub EndsAs : {F S L : Type 0} → Shared F (S × Unit {0}) L → F → S → L → Type 0
EndsAs g f final last = FnReturns g f (final, tt) last
