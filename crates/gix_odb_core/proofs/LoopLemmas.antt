-- Loops that build a list, a step at a time.
use Rattle.std.proofs.Common.{◌≡◌, ℕ, ◌+◌, ◌<◌, List, [], ◌∷◌, ◌++◌, length, get_or, take, map, Option, Some, None, refl, sym, ap, ◌∙◌, arith}
use Rattle.std.specs.List.{cons_option, enumerate_from, filter_map}
use Rattle.std.specs.Option.{option_map, option_to_list}
use Rattle.std.proofs.lemmas.List.{get_or_default}
use Rattle.std.proofs.lemmas.List.FromFn.{get_or-enumerate_from, length-enumerate_from}
use Rattle.gix_odb_core.proofs.PublishLemmas.{filter_map-take_more}

-- one more item, for which a function gives something or nothing
pub filter_map-step : {X Y : Type 0} (h : X → Option Y) (xs : List X) (i : ℕ) (x : X) (o : Option Y) (old now : List Y)
    → i < length xs → x ≡ get_or xs i x → o ≡ h x → old ≡ filter_map h (take i xs) → now ≡ old ++ option_to_list o → now ≡ filter_map h (take (i + 1) xs)
filter_map-step {Y = Y} h xs i x o old now within is gives so_far put =
    put
    ∙ ap (λ (l : List Y). l ++ option_to_list o) so_far
    ∙ ap (λ (p : Option Y). filter_map h (take i xs) ++ option_to_list p) (gives ∙ ap h is)
    ∙ sym (filter_map-take_more h xs i x within)

-- for a list of numbers, where the place is read with a default
pub filter_map-numbers : {Y : Type 0} (h : ℕ → Option Y) (xs : List ℕ) (i : ℕ) (o : Option Y) (old now : List Y)
    → i < length xs → o ≡ h (get_or xs i 0) → old ≡ filter_map h (take i xs) → now ≡ old ++ option_to_list o → now ≡ filter_map h (take (i + 1) xs)
filter_map-numbers h xs i o old now within gives so_far put =
    filter_map-step h xs i (get_or xs i 0) o old now within (get_or_default xs i 0 (get_or xs i 0) within) gives so_far put

-- for a list whose items are numbered
pub filter_map-numbered : {X Y : Type 0} (h : ℕ × X → Option Y) (xs : List X) (i : ℕ) (x : X) (o : Option Y) (old now : List Y)
    → i < length xs → x ≡ get_or xs i x → o ≡ h (i, x) → old ≡ filter_map h (take i (enumerate_from 0 xs)) → now ≡ old ++ option_to_list o → now ≡ filter_map h (take (i + 1) (enumerate_from 0 xs))
filter_map-numbered {X = X} h xs i x o old now within is gives so_far put =
    let n : i < length (enumerate_from 0 xs) = omega (arith, length-enumerate_from 0 xs) in
    let at : get_or (enumerate_from 0 xs) i (i, x) ≡ (0 + i, get_or xs i x) = get_or-enumerate_from 0 xs i (i, x) within in
    let zero_on : 0 + i ≡ i = omega arith in
    let same : (i, x) ≡ get_or (enumerate_from 0 xs) i (i, x) = ap (λ (y : X). (i, y)) is ∙ ap (λ (n : ℕ). (n, get_or xs i x)) (sym zero_on) ∙ sym at in
    filter_map-step h (enumerate_from 0 xs) i (i, x) o old now n same gives so_far put

-- a function of the result of another
pub filter_map-option_map : {X Y Z : Type 0} (f : Y → Z) (h : X → Option Y) (xs : List X) → filter_map (λ x. option_map f (h x)) xs ≡ map f (filter_map h xs)
filter_map-option_map f h [] = refl
filter_map-option_map {Y = Y} {Z = Z} f h (x ∷ xs) = ap (cons_option (option_map f (h x))) (filter_map-option_map f h xs) ∙ by (h x)
  where
    by : (o : Option Y) → cons_option (option_map f o) (map f (filter_map h xs)) ≡ map f (cons_option o (filter_map h xs))
    by None = refl
    by (Some y) = refl
