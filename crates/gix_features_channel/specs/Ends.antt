-- The rule of a channel with two ends. No clause of a public call cites this.
use Rattle.std.specs.Prelude.{◌≡◌, ℕ, Bool, true, List, ◌++◌}
use mathlib.Core.Option.{some}
use lib.ListN.{get_elem?}
use Rattle.gix_features_channel.specs.declared.ends.Hand.{Hand}

module _ {T : Type 0} where
  -- what an end may do, has sent and has taken
  abbrev pub hand : Bool → Bool → List T → List T → Hand T
  hand sends takes sent taken = record { sends = sends; takes = takes; sent = sent; taken = taken }

  -- what the end with a number knows, if that with one number sends and that with another takes
  abbrev pub Knows : ℕ → ℕ → List T → List T → ℕ → Hand T → Type 0
  Knows sender taker sent taken port v = (v.sends ≡ true → (port ≡ sender) × (v.sent ≡ sent)) × (v.takes ≡ true → (port ≡ taker) × (v.taken ≡ taken))

  -- These are a prefix of what keeps a law.
  abbrev pub Begins : (List T → Type 0) → List T → Type 0
  Begins Law taken = (rest : List T) × Law (taken ++ rest)

  -- what was sent is what was taken and then what the channel holds, and keeps a law
  abbrev pub IsInOrder : (List T → Type 0) → List T → List (Hand T) → Type 0
  IsInOrder Law items views = (sender : ℕ) × (taker : ℕ) × (sent : List T) × (taken : List T) × (sent ≡ taken ++ items) × Law sent
      × ((port : ℕ) (v : Hand T) → get_elem? views port ≡ some v → Knows sender taker sent taken port v)
