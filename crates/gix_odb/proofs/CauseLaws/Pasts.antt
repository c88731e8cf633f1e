-- What exchanges show, more of them show too.
use Rattle.std.proofs.Common.{◌≡◌, ℕ, true, ◌+◌, ◌<◌, List, [], ◌∷◌, ◌++◌, Option, Some, None, refl, sym, ◌∙◌, ap, arith}
use Rattle.std.specs.Prelude.{min}
use Rattle.gix_odb_events.specs.View.{last_state}
use Rattle.gix_odb_events.specs.declared.view.View.{View}
use Rattle.gix_odb_search.specs.declared.search.Notes.{Notes}
use Rattle.gix_odb.specs.LookExchanges.{Exchange, HasFailed, first_number, is_publish, number_or, published_in}
use Rattle.gix_odb.specs.LookUpOrder.{first_of, view_of}

-- a failure that is noted is in the exchanges
abbrev pub Noted : List Exchange → Notes → Type 0
Noted exchanges notes = notes.failed ≡ true → HasFailed exchanges

-- ---- the first number

first_of-number_or : (other : Option ℕ) (first : Option View) (later : Option View)
    → first_of (number_or other first) later ≡ number_or (first_of other later) first
first_of-number_or other None later = refl
first_of-number_or other (Some view) later = refl

number_or-first_of : (view : Option View) → first_of None view ≡ number_or None view
number_or-first_of None = refl
number_or-first_of (Some view) = refl

pub first_number-push : (past : List Exchange) (exchange : Exchange)
    → first_number (past ++ exchange ∷ []) ≡ first_of (first_number past) (view_of exchange.answer)
first_number-push [] exchange = sym (number_or-first_of (view_of exchange.answer))
first_number-push (first ∷ past) exchange =
    ap (λ other. number_or other (view_of first.answer)) (first_number-push past exchange)
    ∙ sym (first_of-number_or (first_number past) (view_of first.answer) (view_of exchange.answer))

-- ---- what was published

pub published_in-push : (past : List Exchange) (exchange : Exchange)
    → published_in (past ++ exchange ∷ []) ≡ published_in past + is_publish exchange.ask exchange.answer
published_in-push [] exchange = omega arith
published_in-push (first ∷ past) exchange = omega (arith, published_in-push past exchange)

-- one more that is the look-up's own
pub one_more_own : (own before now : ℕ) → own ≡ before → own < last_state → now ≡ before + 1 → min (own + 1) last_state ≡ now
one_more_own own before now is room more = omega arith

pub no_more_own : (own before now : ℕ) → own ≡ before → now ≡ before + 0 → own ≡ now
no_more_own own before now is more = omega arith
