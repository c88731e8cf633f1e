-- A total order, and what is before and after a value in it.
use Rattle.std.proofs.Common.{◌≡◌, false, Ordering, Less, Equal, Greater, refl, ap, ◌∙◌}
use Rattle.std.specs.Cmp.{IsTotalOrder}
use Rattle.std.specs.Ordering.{is_lt, ordering_reverse, ordering_then}
use Rattle.std.proofs.lemmas.Cmp.{alike_right, tied_back}

-- an order that isn't less is not less in its first part
pub not_less-then : (o rest : Ordering) → is_lt (ordering_then o rest) ≡ false → ¬ (o ≡ Less)
not_less-then Less rest not_less is = cc
not_less-then Equal rest not_less is = cc
not_less-then Greater rest not_less is = cc

-- nor in its second part, where the first is a tie
pub not_less-tied : (o rest : Ordering) → is_lt (ordering_then o rest) ≡ false → o ≡ Equal → ¬ (rest ≡ Less)
not_less-tied Less rest not_less tie is = cc
not_less-tied Equal Less not_less tie is = cc
not_less-tied Equal Equal not_less tie is = cc
not_less-tied Equal Greater not_less tie is = cc
not_less-tied Greater rest not_less tie is = cc

module _ {X : Type 0} (R : X → X → Ordering) (total : IsTotalOrder R) where
  back : (x y : X) → R x y ≡ Greater → R y x ≡ Less
  back x y greater = total.antisymm y x ∙ ap ordering_reverse greater

  -- what isn't below a value that is above a third is above it
  pub greater_later : (a b t : X) → ¬ (R b a ≡ Less) → R a t ≡ Greater → R b t ≡ Greater
  greater_later a b t later greater = by (R b t) refl
    where
      by : (o : Ordering) → R b t ≡ o → R b t ≡ Greater
      by Less is = absurd (later (total.trans b t a is (back a t greater)))
      by Equal is = absurd (later (total.congr b t a is ∙ back a t greater))
      by Greater is = is

  -- where it is below a third, so is what it isn't below
  pub less_earlier : (a b t : X) → ¬ (R b a ≡ Less) → R b t ≡ Less → R a t ≡ Less
  less_earlier a b t later less = by (R a t) refl
    where
      by : (o : Ordering) → R a t ≡ o → R a t ≡ Less
      by Less is = is
      by Equal is = absurd (later (alike_right total a t b is ∙ less))
      by Greater is = absurd (later (total.trans b t a less (back a t is)))

  -- two that tie with a third tie
  pub both_tied : (a b t : X) → R a t ≡ Equal → R b t ≡ Equal → R a b ≡ Equal
  both_tied a b t one other = total.congr a t b one ∙ tied_back total b t other
