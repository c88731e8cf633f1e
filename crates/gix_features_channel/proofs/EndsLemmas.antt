-- Each move of an end keeps the rule of its channel.
use Rattle.std.proofs.Common.{◌≡◌, ◌≢◌, ℕ, zero, suc, true, false, true≢false, List, [], ◌∷◌, ◌++◌, length, set, sym, refl, ap, ◌∙◌, subst, ⊎_elim, append_assoc}
use Rattle.std.specs.Prelude.{⊤}
use mathlib.Core.Option.{some, some-ne-none}
use lib.ListN.{get_elem?}
use Rattle.crossbeam_channel.specs.Fifo.{Pushes, Pops, Forks, Merges, Learns}
use Rattle.atomic_table.proofs.Lists.{at_set, at_snoc}
use Rattle.gix_features_channel.specs.declared.ends.Hand.{Hand}
use Rattle.gix_features_channel.specs.Ends.{hand, Knows, Begins, IsInOrder}

module _ {T : Type 0} where
  -- what holds of each view with its number
  abbrev Each : (ℕ → Hand T → Type 0) → List (Hand T) → Type 0
  Each F views = (port : ℕ) (v : Hand T) → get_elem? views port ≡ some v → F port v

  -- a view at no earlier number is the last
  at_end : (views : List (Hand T)) (last v : Hand T) (port : ℕ) → get_elem? views port ≢ some v → get_elem? (views ++ last ∷ []) port ≡ some v → port ≡ length views
  at_end [] last v zero new e = refl
  at_end [] last v (suc port) new e = absurd (some-ne-none v (sym e))
  at_end (w ∷ views) last v zero new e = absurd (new e)
  at_end (w ∷ views) last v (suc port) new e = ap suc (at_end views last v port new e)

  Each-set : (F : ℕ → Hand T → Type 0) (views : List (Hand T)) (port : ℕ) (w : Hand T) → F port w
      → ((other : ℕ) (v : Hand T) → other ≢ port → get_elem? views other ≡ some v → F other v) → Each F (set views port w)
  Each-set F views port w mine others other v e = ⊎_elim (λ (h : (other ≡ port) × (w ≡ v)). subst (λ (p : ℕ × Hand T). F p.0 p.1) (λ i. (sym h.0 i, h.1 i)) mine)
      (λ (h : (other ≢ port) × (get_elem? views other ≡ some v)). others other v h.0 h.1) (at_set views port other w v e)

module _ {T : Type 0} (Law : List T → Type 0) where
  pub begins : Law [] → IsInOrder Law [] (hand true true [] [] ∷ [])
  begins law = (
    0,
    0,
    [],
    [],
    refl,
    law,
    Each-set (Knows 0 0 [] []) (hand true true [] [] ∷ []) 0 (hand true true [] []) ((λ _. (refl, refl)), λ _. (refl, refl))
        (λ port v other e. absurd (other (at_end [] (hand true true [] []) v port (λ h. some-ne-none v (sym h)) e))),
  )

  pub sends : (n port : ℕ) (v : Hand T) (x : T) → v.sends ≡ true → (Law v.sent → Law (v.sent ++ x ∷ [])) → Pushes (IsInOrder Law) n port v x (λ w. w ≡ hand v.sends v.takes (v.sent ++ x ∷ []) v.taken)
  sends n port v x may keeps items views room h at =
      let w : Hand T = hand v.sends v.takes (v.sent ++ x ∷ []) v.taken in
      let mine = h.6 port v at in
      let sent = h.2 ++ x ∷ [] in (
        w,
        (
          h.0,
          h.1,
          sent,
          h.3,
          ap (λ l. l ++ x ∷ []) h.4 ∙ append_assoc h.3 items (x ∷ []),
          subst (λ (l : List T). Law (l ++ x ∷ [])) (mine.0 may).1 (keeps (subst Law (sym (mine.0 may).1) h.5)),
          Each-set (Knows h.0 h.1 sent h.3) views port w ((λ _. ((mine.0 may).0, ap (λ l. l ++ x ∷ []) (mine.0 may).1)), mine.1)
              (λ other u apart e. ((λ p. absurd (apart (((h.6 other u e).0 p).0 ∙ sym (mine.0 may).0))), (h.6 other u e).1)),
        ),
        refl,
      )

  pub takes : (port : ℕ) (v : Hand T) → v.takes ≡ true → Pops (IsInOrder Law) port v (λ x w. (w ≡ hand v.sends v.takes v.sent (v.taken ++ x ∷ [])) × Begins Law (v.taken ++ x ∷ [])
      × (v.sends ≡ true → Begins (λ all. v.sent ≡ all) (v.taken ++ x ∷ [])))
  takes port v may x items views h at =
      let w : Hand T = hand v.sends v.takes v.sent (v.taken ++ x ∷ []) in
      let mine = h.6 port v at in
      let taken = h.3 ++ x ∷ [] in
      let all : h.2 ≡ taken ++ items = h.4 ∙ sym (append_assoc h.3 (x ∷ []) items) in
      let mine_too : h.2 ≡ (v.taken ++ x ∷ []) ++ items = all ∙ ap (λ (l : List T). (l ++ x ∷ []) ++ items) (sym (mine.1 may).1) in (
        w,
        (
          h.0,
          h.1,
          h.2,
          taken,
          all,
          h.5,
          Each-set (Knows h.0 h.1 h.2 taken) views port w (mine.0, λ _. ((mine.1 may).0, ap (λ l. l ++ x ∷ []) (mine.1 may).1))
              (λ other u apart e. ((h.6 other u e).0, λ p. absurd (apart (((h.6 other u e).1 p).0 ∙ sym (mine.1 may).0)))),
        ),
        (refl, (items, subst Law mine_too h.5), λ sends. (items, (mine.0 sends).1 ∙ mine_too)),
      )

  pub nothing : (port : ℕ) (v : Hand T) → Learns (IsInOrder Law) port v (λ items. ⊤)
  nothing port v items views h at = tt

  -- what was taken and what the channel holds keeps the law
  pub rests : (port : ℕ) (v : Hand T) → v.takes ≡ true → Learns (IsInOrder Law) port v (λ items. Law (v.taken ++ items))
  rests port v may items views h at = subst Law (h.4 ∙ ap (λ l. l ++ items) (sym ((h.6 port v at).1 may).1)) h.5

  pub forks : (port : ℕ) (v : Hand T) → v.sends ≡ true → v.takes ≡ true → Forks (IsInOrder Law) port v (hand true false v.sent []) (hand false true [] v.taken)
  forks port v a b items views h at =
      let left : Hand T = hand true false v.sent [] in
      let right : Hand T = hand false true [] v.taken in
      let mine = h.6 port v at in
      let lefts : List (Hand T) = set views port left in
      let Old : ℕ → Hand T → Type 0 = λ other u. (u.sends ≡ true → (other ≡ h.0) × (u.sent ≡ h.2)) × (u.takes ≢ true) in
      let old : Each Old lefts = Each-set Old views port left ((λ _. mine.0 a), λ p. true≢false (sym p))
      (λ other u apart e. ((h.6 other u e).0, λ p. apart (((h.6 other u e).1 p).0 ∙ sym (mine.1 b).0))) in (
        h.0,
        length lefts,
        h.2,
        h.3,
        h.4,
        h.5,
        λ other u e. ⊎_elim (λ x. ((old other u x).0, λ p. absurd ((old other u x).1 p)))
            (λ (is : right ≡ u). (
              (λ p. absurd (true≢false (sym (ap (λ (y : Hand T). y.sends) is ∙ p)))),
              λ p. (at_end lefts right u other (λ x. (old other u x).1 p) e, ap (λ (y : Hand T). y.taken) (sym is) ∙ (mine.1 b).1),
            )) (at_snoc lefts right u other e),
      )

  pub merges : (port : ℕ) (v : Hand T) (other : ℕ) (u : Hand T) → v.sends ≡ true → u.takes ≡ true
      → Merges (IsInOrder Law) port v other u (hand true true v.sent u.taken) (hand false false [] [])
  merges port v other u a b items views h at two at' =
      let both : Hand T = hand true true v.sent u.taken in
      let mine = h.6 port v at in
      let boths : List (Hand T) = set views port both in
      let was : get_elem? views other ≡ some u = ⊎_elim (λ x. absurd (two x.0)) (λ x. x.1) (at_set views port other both u at') in
      let theirs = (h.6 other u was).1 b in
      let Now : ℕ → Hand T → Type 0 = λ j y. j ≢ other → Knows h.0 port h.2 h.3 j y in
      let now : Each Now boths = Each-set Now views port both (λ _. ((λ _. mine.0 a), λ _. (refl, theirs.1)))
      (λ j y _ e apart. ((h.6 j y e).0, λ p. absurd (apart (((h.6 j y e).1 p).0 ∙ sym theirs.0)))) in (
        h.0,
        port,
        h.2,
        h.3,
        h.4,
        h.5,
        Each-set (Knows h.0 port h.2 h.3) boths other (hand false false [] []) ((λ p. absurd (true≢false (sym p))), λ p. absurd (true≢false (sym p)))
            (λ j y apart e. now j y e apart),
      )

  pub totals : (port : ℕ) (v : Hand T) → v.sends ≡ true → v.takes ≡ true → Learns (IsInOrder Law) port v (λ items. v.sent ≡ v.taken ++ items)
  totals port v a b items views h at = let mine = h.6 port v at in (mine.0 a).1 ∙ h.4 ∙ ap (λ l. l ++ items) (sym (mine.1 b).1)
