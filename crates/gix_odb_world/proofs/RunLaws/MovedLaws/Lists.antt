-- Lists of exchanges, and the answers up to a moment.
use Rattle.std.proofs.Common.{◌≡◌, ℕ, zero, suc, ◌≤◌, List, [], ◌∷◌, ◌++◌, length, take, drop, refl, sym, ap, ◌∙◌, arith}
use Rattle.std.specs.List.{filter_map}
use Rattle.std.proofs.lemmas.List.{drop-append-le}
use Rattle.std.proofs.lemmas.List.Elements.{filter_map-append}
use Rattle.gix_odb.specs.LookExchanges.{AreAsked, Exchange}
use Rattle.gix_odb.specs.LookUpOrder.{Setting, fed}
use Rattle.gix_odb.specs.declared.look_up.LookUp.{LookUp}
use Rattle.gix_odb_history.specs.Event.{Event}
use Rattle.gix_odb_world.specs.Told.{exchange_in, told_since}
use Rattle.gix_odb_world.proofs.RunSteps.Fronts.{front_of_front}

split : (n : ℕ) (xs : List Event) → take n xs ++ drop n xs ≡ xs
split zero xs = refl
split (suc n) [] = refl
split (suc n) (x ∷ xs) = ap (λ (es : List Event). x ∷ es) (split n xs)

pub asked_first : (setting : Setting) (look : LookUp) (xs ys : List Exchange) → AreAsked setting look (xs ++ ys) → AreAsked setting look xs
asked_first setting look [] ys asked = tt
asked_first setting look (x ∷ xs) ys asked = (asked.0, asked_first setting (fed setting look x.answer) xs ys asked.1)

length_front : (n : ℕ) (xs : List Event) → n ≤ length xs → length (take n xs) ≡ n
length_front zero xs within = refl
length_front (suc n) [] within = absurd (omega (arith, within))
length_front (suc n) (x ∷ xs) within = let rest = length_front n xs (omega (arith, within)) in omega (arith, rest)

-- the answers up to a moment come before later ones
pub told_first_part : (events : List Event) (handle begun early late : ℕ) → begun ≤ early → early ≤ late → late ≤ length events
    → (rest : List Exchange) × (told_since (take late events) handle begun ≡ told_since (take early events) handle begun ++ rest)
unfolding told_since
told_first_part events handle begun early late since up within =
    let whole : List Event = take late events in
    let front : take early whole ≡ take early events = front_of_front events early late up in
    let long : length (take early events) ≡ early = length_front early events (omega (arith, up, within)) in
    let parts_of : whole ≡ take early events ++ drop early whole = sym (split early whole) ∙ ap (λ (es : List Event). es ++ drop early whole) front in (
      filter_map (exchange_in handle) (drop early whole),
      ap (λ (es : List Event). filter_map (exchange_in handle) (drop begun es)) parts_of
          ∙ ap (filter_map (exchange_in handle)) (drop-append-le begun (take early events) (drop early whole) (omega (arith, since, long)))
          ∙ filter_map-append (exchange_in handle) (drop begun (take early events)) (drop early whole),
    )
