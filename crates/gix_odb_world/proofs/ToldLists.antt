-- Lists of exchanges with one more at their end.
use Rattle.std.proofs.Common.{◌≡◌, ◌⊎◌, ℕ, zero, suc, List, [], ◌∷◌, ◌++◌, length, Contains, Option, inl, inr, refl, sym, ap, arith}
use Rattle.std.specs.Prelude.{slice_set}
use Rattle.gix_odb.specs.LookExchanges.{AreAnswered, Exchange, IsAnswerTo}
use Rattle.gix_odb.specs.Laps as laps
use Rattle.gix_odb.specs.Laps.{AreNumbered, AreWithin, IsNumbered, number_by}
use Rattle.gix_odb.specs.Stream.{Stream, stream_by, stream_from}
use Rattle.gix_odb_world.specs.Running.Query.{number_after}

-- ---- what is among them

pub nothing_among : {A : Type 0} (x : A) → ¬ (Contains [] x)
nothing_among x (k, within, is) = omega (arith, within)

pub one_of_more : {A : Type 0} (xs : List A) (x y : A) → Contains (xs ++ x ∷ []) y → Contains xs y ⊎ (y ≡ x)
one_of_more [] x y (zero, within, is) = inr (sym is)
one_of_more [] x y (suc k, within, is) = absurd (omega (arith, within))
one_of_more (z ∷ xs) x y (zero, within, is) = inl (zero, omega arith, is)
one_of_more (z ∷ xs) x y (suc k, within, is) = elim (one_of_more xs x y (k, omega (arith, within), is)) [
  | inl old ↦ inl (suc old.0, (let few = old.1 in omega (arith, few)), old.2)
  | inr last ↦ inr last
]

pub among_more : {A : Type 0} (xs : List A) (x y : A) → Contains xs y → Contains (xs ++ x ∷ []) y
among_more [] x y (k, within, is) = absurd (omega (arith, within))
among_more (z ∷ xs) x y (zero, within, is) = (zero, omega arith, is)
among_more (z ∷ xs) x y (suc k, within, is) =
    let rest = among_more xs x y (k, omega (arith, within), is) in (suc rest.0, (let few = rest.1 in omega (arith, few)), rest.2)

pub last_among : {A : Type 0} (xs : List A) (x : A) → Contains (xs ++ x ∷ []) x
last_among [] x = (zero, omega arith, refl)
last_among (z ∷ xs) x = let rest = last_among xs x in (suc rest.0, (let few = rest.1 in omega (arith, few)), rest.2)

-- ---- what holds of all

pub AreAnswered-push : (exchanges : List Exchange) (exchange : Exchange) → AreAnswered exchanges → IsAnswerTo exchange.ask exchange.answer
    → AreAnswered (exchanges ++ exchange ∷ [])
AreAnswered-push [] exchange all one = (one, tt)
AreAnswered-push (first ∷ exchanges) exchange all one = (all.0, AreAnswered-push exchanges exchange all.1 one)

pub number_after-push : (before : ℕ) (exchanges : List Exchange) (exchange : Exchange)
    → number_after before (exchanges ++ exchange ∷ []) ≡ number_by (number_after before exchanges) exchange.answer
number_after-push before [] exchange = refl
number_after-push before (first ∷ exchanges) exchange = number_after-push (number_by before first.answer) exchanges exchange

pub AreNumbered-push : (slots before : ℕ) (exchanges : List Exchange) (exchange : Exchange) → AreNumbered slots before exchanges
    → IsNumbered slots (number_after before exchanges) exchange.ask exchange.answer → AreNumbered slots before (exchanges ++ exchange ∷ [])
AreNumbered-push slots before [] exchange all one = (one, tt)
AreNumbered-push slots before (first ∷ exchanges) exchange all one = (all.0, AreNumbered-push slots (number_by before first.answer) exchanges exchange all.1 one)

-- ---- the open stream

pub AreWithin-push : (entries : ℕ) (before : Option Stream) (exchanges : List Exchange) (exchange : Exchange) → AreWithin entries before exchanges
    → laps.HasAtMost entries (stream_by (stream_from before exchanges) exchange.ask exchange.answer) → AreWithin entries before (exchanges ++ exchange ∷ [])
AreWithin-push entries before [] exchange all one = (one, tt)
AreWithin-push entries before (first ∷ exchanges) exchange all one =
    (all.0, AreWithin-push entries (stream_by before first.ask first.answer) exchanges exchange all.1 one)

pub within_last : (entries : ℕ) (before : Option Stream) (exchanges : List Exchange) → AreWithin entries before exchanges → laps.HasAtMost entries before
    → laps.HasAtMost entries (stream_from before exchanges)
within_last entries before [] all few = few
within_last entries before (first ∷ exchanges) all few = within_last entries (stream_by before first.ask first.answer) exchanges all.1 all.0

-- a list of which one element is set is as long
pub length-slice_set : {A : Type 0} (xs : List A) (i : ℕ) (x : A) → length (slice_set xs i x) ≡ length xs
length-slice_set [] i x = refl
length-slice_set (y ∷ xs) zero x = refl
length-slice_set (y ∷ xs) (suc i) x = ap suc (length-slice_set xs i x)
