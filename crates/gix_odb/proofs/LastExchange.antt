-- The last of a list of exchanges: what comes after it, and what was known before it.
use Rattle.std.proofs.Common.{◌≡◌, ◌⊎◌, inl, inr, ℕ, List, [], ◌∷◌, ◌++◌, Some, refl, sym, ap}
use Rattle.std.proofs.lemmas.List.Elements.{Contains-append_left, Contains-push}
use Rattle.gix_hash.specs.declared.kind.Kind.{Kind}
use Rattle.odb_base.specs.Path.{Path}
use Rattle.gix_odb.specs.LookExchanges.{AreAsked, Exchange, behind}
use Rattle.gix_odb.specs.LookUpOrder.{Setting, ask_of, fed}
use Rattle.gix_odb.specs.True.{AreTrue, IsTrue}
use Rattle.gix_odb.specs.declared.look_up.LookUp.{LookUp}

-- exchanges without their last one
pub record Cut (exchanges : List Exchange) : Type 0 where
  pub past : List Exchange
  pub last : Exchange
  pub is : exchanges ≡ past ++ last ∷ []

cut_more : (first : Exchange) (exchanges : List Exchange) → ([] ≡ exchanges) ⊎ Cut exchanges → Cut (first ∷ exchanges)
cut_more first exchanges (inl none) = record { past = []; last = first; is = ap (λ (es : List Exchange). first ∷ es) (sym none) }
cut_more first exchanges (inr cut) = record { past = first ∷ cut.past; last = cut.last; is = ap (λ (es : List Exchange). first ∷ es) cut.is }

-- there are none, or there is a last one
pub none_or_cut : (exchanges : List Exchange) → ([] ≡ exchanges) ⊎ Cut exchanges
none_or_cut [] = inl refl
none_or_cut (first ∷ exchanges) = inr (cut_more first exchanges (none_or_cut exchanges))

module _ (setting : Setting) where
  pub behind-push : (look : LookUp) (past : List Exchange) (last : Exchange)
      → behind setting look (past ++ last ∷ []) ≡ fed setting (behind setting look past) last.answer
  behind-push look [] last = refl
  behind-push look (first ∷ past) last = behind-push (fed setting look first.answer) past last

  -- what was asked at the last one, and before it
  pub asked-push : (look : LookUp) (past : List Exchange) (last : Exchange) → AreAsked setting look (past ++ last ∷ [])
      → AreAsked setting look past × (ask_of (behind setting look past) ≡ Some last.ask)
  asked-push look [] last asked = (tt, asked.0)
  asked-push look (first ∷ past) last asked =
      let rest = asked-push (fed setting look first.answer) past last asked.1 in
      ((asked.0, rest.0), rest.1)

  -- each exchange was asked after those before it
  pub asked-within : (look : LookUp) (past : List Exchange) (exchange : Exchange) (rest : List Exchange) → AreAsked setting look (past ++ exchange ∷ rest)
      → AreAsked setting look past × (ask_of (behind setting look past) ≡ Some exchange.ask)
  asked-within look [] exchange rest asked = (tt, asked.0)
  asked-within look (first ∷ past) exchange rest asked =
      let more = asked-within (fed setting look first.answer) past exchange rest asked.1 in
      ((asked.0, more.0), more.1)

module _ (Shown : Path → ℕ → List ℕ → Type 0) (setting : Setting) (hash : Kind) (past : List Exchange) (last : Exchange)
    (truth : AreTrue Shown setting hash (past ++ last ∷ [])) where
  pub true_before : AreTrue Shown setting hash past
  true_before exchange among = truth exchange (Contains-append_left past (last ∷ []) exchange among)

  pub true_last : IsTrue Shown setting hash last.ask last.answer
  true_last = truth last (Contains-push past last)
