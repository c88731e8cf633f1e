-- What a machine asked and was answered, one after another, for any machine that asks one thing at a time.
use Rattle.std.specs.Prelude.{◌≡◌, ℕ, ◌+◌, List, [], ◌∷◌, Option, Some, None}
use Rattle.gix_odb_events.specs.declared.answer.Answer.{Answer}
use Rattle.gix_odb_events.specs.declared.answer.Ask.{Ask}
use Rattle.gix_odb.specs.Exchange.{Exchange}
pub use Rattle.gix_odb.specs.Suited.{IsSuited, AreSuited}

-- one more than later ones, where something is asked
abbrev pub one_more : Option Ask → (later : ℕ) → ℕ
one_more None later = 0
one_more (Some ask) later = later + 1

-- Here `ask_of machine` is what a machine asks next, if anything, and `fed machine answer` is the machine after an answer.
module _ {Machine : Type 0} (ask_of : Machine → Option Ask) (fed : Machine → Answer → Machine) where
  -- the machine after exchanges
  abbrev pub behind : Machine → List Exchange → Machine
  behind machine [] = machine
  behind machine (exchange ∷ exchanges) = behind (fed machine exchange.answer) exchanges

  -- each exchange answers what the machine asked then
  abbrev pub AreAsked : Machine → List Exchange → Type 0
  AreAsked machine [] = Unit {0}
  AreAsked machine (exchange ∷ exchanges) = (ask_of machine ≡ Some exchange.ask) × AreAsked (fed machine exchange.answer) exchanges

  -- how many of the exchanges it asked for: those that come before it asks nothing
  abbrev pub turns_of : Machine → List Exchange → ℕ
  turns_of machine [] = 0
  turns_of machine (exchange ∷ exchanges) = one_more (ask_of machine) (turns_of (fed machine exchange.answer) exchanges)
