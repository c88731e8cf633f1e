-- What each exchange of a machine preserves holds after all of them; and machines after one more exchange.
use Rattle.std.proofs.Common.{◌≡◌, ◌+◌, List, [], ◌∷◌, ◌++◌, length, Contains, Option, Some, None, refl, sym, ap, subst, append_assoc, append-nil, arith}
use Rattle.gix_odb_events.specs.declared.answer.Answer.{Answer}
use Rattle.gix_odb_events.specs.declared.answer.Ask.{Ask}
use Rattle.gix_odb.specs.Exchange.{Exchange}
use Rattle.gix_odb.proofs.ListerLaws.Lists.{has_first, has_later}
use Rattle.gix_odb.specs.Asked.{AreAsked, behind, one_more, turns_of}

-- Here `Holds past machine` is what holds of a machine after exchanges, and `Meets` what is known of each exchange.
module _ {Machine : Type 0} (ask_of : Machine → Option Ask) (fed : Machine → Answer → Machine) (Holds : List Exchange → Machine → Type 0)
    (Meets : Exchange → Type 0)
    (kept : (past : List Exchange) (machine : Machine) (exchange : Exchange) → Holds past machine → ask_of machine ≡ Some exchange.ask → Meets exchange
    → Holds (past ++ exchange ∷ []) (fed machine exchange.answer)) where
  pub holds_from : (past : List Exchange) (machine : Machine) (exchanges : List Exchange) → Holds past machine → AreAsked ask_of fed machine exchanges
      → ((exchange : Exchange) → Contains exchanges exchange → Meets exchange)
      → Holds (past ++ exchanges) (behind ask_of fed machine exchanges)
  holds_from past machine [] holds asked meets = subst (λ (all : List Exchange). Holds all machine) (sym (append-nil past)) holds
  holds_from past machine (exchange ∷ exchanges) holds asked meets =
      subst (λ (all : List Exchange). Holds all (behind ask_of fed machine (exchange ∷ exchanges))) (append_assoc past (exchange ∷ []) exchanges)
      (holds_from (past ++ exchange ∷ []) (fed machine exchange.answer) exchanges
      (kept past machine exchange holds asked.0 (meets exchange (has_first exchange exchanges))) asked.1
      (λ other among. meets other (has_later exchange exchanges other among)))

  pub holds_behind : (machine : Machine) (exchanges : List Exchange) → Holds [] machine → AreAsked ask_of fed machine exchanges
      → ((exchange : Exchange) → Contains exchanges exchange → Meets exchange)
      → Holds exchanges (behind ask_of fed machine exchanges)
  holds_behind machine exchanges holds asked meets = holds_from [] machine exchanges holds asked meets

-- ---- after one more exchange

module _ {Machine : Type 0} (ask_of : Machine → Option Ask) (fed : Machine → Answer → Machine) where
  pub behind-push : (machine : Machine) (exchanges : List Exchange) (exchange : Exchange)
      → behind ask_of fed machine (exchanges ++ exchange ∷ []) ≡ fed (behind ask_of fed machine exchanges) exchange.answer
  behind-push machine [] exchange = refl
  behind-push machine (first ∷ exchanges) exchange = behind-push (fed machine first.answer) exchanges exchange

  pub asked-push : (machine : Machine) (exchanges : List Exchange) (exchange : Exchange) → AreAsked ask_of fed machine exchanges
      → ask_of (behind ask_of fed machine exchanges) ≡ Some exchange.ask → AreAsked ask_of fed machine (exchanges ++ exchange ∷ [])
  asked-push machine [] exchange asked is = (is, tt)
  asked-push machine (first ∷ exchanges) exchange asked is = (asked.0, asked-push (fed machine first.answer) exchanges exchange asked.1 is)

  -- each exchange is a turn of it, where it asked for each
  pub turns_of-asked : (machine : Machine) (exchanges : List Exchange) → AreAsked ask_of fed machine exchanges → turns_of ask_of fed machine exchanges ≡ length exchanges
  turns_of-asked machine [] asked = refl
  turns_of-asked machine (exchange ∷ exchanges) asked =
      let rest = turns_of-asked (fed machine exchange.answer) exchanges asked.1 in
      let here : turns_of ask_of fed machine (exchange ∷ exchanges) ≡ turns_of ask_of fed (fed machine exchange.answer) exchanges + 1 =
      ap (λ (asks : Option Ask). one_more asks (turns_of ask_of fed (fed machine exchange.answer) exchanges)) asked.0 in
      omega (arith, rest, here)

  -- where it asks nothing after exchanges, one more exchange is no turn of it
  pub turns_of-ended : (machine : Machine) (exchanges : List Exchange) (exchange : Exchange) → ask_of (behind ask_of fed machine exchanges) ≡ None
      → turns_of ask_of fed machine (exchanges ++ exchange ∷ []) ≡ turns_of ask_of fed machine exchanges
  turns_of-ended machine [] exchange ended = ap (λ (asks : Option Ask). one_more asks 0) ended
  turns_of-ended machine (first ∷ exchanges) exchange ended = ap (one_more (ask_of machine)) (turns_of-ended (fed machine first.answer) exchanges exchange ended)
