-- Lemmas on what workers make of items.
use Rattle.std.proofs.Common.{◌≡◌, ℕ, zero, suc, ◌<◌, List, [], ◌∷◌, ◌++◌, length, map, get_or, refl, sym, ap, ◌∙◌, subst, arith, Result, Ok, IfOk}
use Rattle.std.proofs.lemmas.List.{get_or-map, map-append, length-map}
use Rattle.std.specs.declared.vec.IntoIter.{IntoIter}
use Rattle.std.specs.Vec.Iter.{into_iter_items}
use Rattle.odb_base.specs.declared.no_memory.NoMemory.{NoMemory}
use Rattle.gix_features_workers.specs.declared.deal.Job.{Job}
use Rattle.gix_features_workers.specs.declared.work.Worked.{Worked}
use Rattle.gix_features_workers.specs.Workers.{share, Works, IsWorked, AreWorked}
use Rattle.gix_features_workers.specs.Dealt.{turns_before, AreDealt, AreDone, AreGathered, AreShares}
use Rattle.gix_features_workers.proofs.DealtLemmas.{woven, turns-first}

module _ {S T O : Type 0} (consumes : S → T → O → S → Type 0) where
  -- one more item follows those before it
  pub Works-push : {t u : S} {x : T} {o : O} (xs : List T) (os : List O) {s : S} → Works consumes s xs os t → consumes t x o u
      → Works consumes s (xs ++ x ∷ []) (os ++ o ∷ []) u
  Works-push [] [] Works.Done step = Works.Next step Works.Done
  Works-push [] (o ∷ os) none step = elim none [ ]
  Works-push (x ∷ xs) [] none step = elim none [ ]
  Works-push (x ∷ xs) (o ∷ os) (Works.Next first rest) step = Works.Next first (Works-push xs os rest step)

  pub Works-length : {t : S} (xs : List T) (os : List O) {s : S} → Works consumes s xs os t → length os ≡ length xs
  Works-length [] [] Works.Done = refl
  Works-length [] (o ∷ os) none = elim none [ ]
  Works-length (x ∷ xs) [] none = elim none [ ]
  Works-length (x ∷ xs) (o ∷ os) (Works.Next first rest) = ap suc (Works-length xs os rest)

-- ---- results in their parts

module _ {O L A : Type 0} where
  pub AreGathered-none : AreGathered {O = O} {L = L} {A = A} [] [] []
  AreGathered-none = record { worked = []; are_there = refl; outputs = refl; last_states = refl }

  pub AreGathered-more : (results : List (Result (Worked O L) NoMemory)) (streams : List (IntoIter O A)) (lasts : List L) (w : Worked O L) (stream : IntoIter O A)
      → AreGathered results streams lasts → into_iter_items stream ≡ w.outputs.items
      → AreGathered (results ++ Ok w ∷ []) (streams ++ stream ∷ []) (lasts ++ w.last ∷ [])
  AreGathered-more results streams lasts w stream parts is = record {
    worked = parts.worked ++ w ∷ [];
    are_there = ap (λ (l : List (Result (Worked O L) NoMemory)). l ++ Ok w ∷ []) parts.are_there ∙ sym (map-append Ok parts.worked (w ∷ []));
    outputs = map-append into_iter_items streams (stream ∷ []) ∙ ap (λ (l : List (List O)). l ++ into_iter_items stream ∷ []) parts.outputs
        ∙ ap (λ (l : List O). map (λ (v : Worked O L). v.outputs.items) parts.worked ++ l ∷ []) is ∙ sym (map-append (λ (v : Worked O L). v.outputs.items) parts.worked (w ∷ []));
    last_states = ap (λ (l : List L). l ++ w.last ∷ []) parts.last_states ∙ sym (map-append (λ (v : Worked O L). v.last) parts.worked (w ∷ []));
  }

-- an element that is there, whatever is the default for those that aren't
pub element : {X : Type 0} (xs : List X) (k : ℕ) → k < length xs → (x : X) × ((d : X) → get_or xs k d ≡ x)
element [] k b = absurd (omega (arith, b))
element (x ∷ xs) zero b = (x, λ d. refl)
element (x ∷ xs) (suc k) b = element xs k (omega (arith, b))

-- ---- what all workers make

module _ {S T O L A : Type 0} (begins : ℕ → S → Type 0) (consumes : S → T → O → S → Type 0) (ends : S → L → Type 0) where
  -- if each did its job, and the parts are gathered, the outputs are the shares of one list, which is what all make
  pub AreWorked-all : (n : ℕ) (items : List T) (jobs : List (Job T)) (results : List (Result (Worked O L) NoMemory)) (streams : List (IntoIter O A)) (lasts : List L)
      → 0 < n → AreDealt n items jobs → AreDone begins consumes ends jobs results → AreGathered results streams lasts
      → (outputs : List O) × AreShares n 0 outputs streams × AreWorked begins consumes ends n items outputs lasts
  AreWorked-all n items jobs results streams lasts some dealt done parts =
      let ws = parts.worked in
      let outputs_of : Worked O L → List O = λ w. w.outputs.items in
      let len : length ws ≡ n = sym (length-map ws Ok) ∙ ap length (sym parts.are_there) ∙ done.workers ∙ dealt.workers in
      let at : (k : ℕ) → k < n → (w : Worked O L) × ((d : Worked O L) → get_or ws k d ≡ w) = λ k b. element ws k (omega (arith, len, b)) in
      let job : (k : ℕ) → k < n → (j : Job T) × ((d : Job T) → get_or jobs k d ≡ j) = λ k b. element jobs k (omega (arith, dealt.workers, b)) in
      let one : (k : ℕ) (b : k < n) → IsWorked begins consumes ends k (share n k items) (at k b).0.outputs.items (at k b).0.last = λ k b.
      let w = at k b in
      let j = job k b in
      let is : get_or results k (Ok w.0) ≡ Ok w.0 = ap (λ (l : List (Result (Worked O L) NoMemory)). get_or l k (Ok w.0)) parts.are_there
      ∙ get_or-map Ok ws k w.0 (Ok w.0) (omega (arith, len, b)) ∙ ap Ok (w.1 w.0) in
      let told = done.each k (Ok w.0) j.0 (omega (arith, dealt.workers, b)) in
      let did = subst (λ (r : Result (Worked O L) NoMemory). IfOk r (λ v. IsWorked begins consumes ends (get_or jobs k j.0).worker (get_or jobs k j.0).items.items v.outputs.items v.last)) is told in
      let mine = dealt.each k j.0 b in
      subst (λ (i : List T). IsWorked begins consumes ends k i w.0.outputs.items w.0.last) mine.1
      (subst (λ i. IsWorked begins consumes ends i (get_or jobs k j.0).items.items w.0.outputs.items w.0.last) mine.0 did) in
      let f : ℕ → List O = λ k. get_or (map outputs_of ws) k [] in
      let f-is : (k : ℕ) (b : k < n) → f k ≡ (at k b).0.outputs.items = λ k b.
      get_or-map outputs_of ws k (at k b).0 [] (omega (arith, len, b)) ∙ ap outputs_of ((at k b).1 (at k b).0) in
      let long : (k : ℕ) → k < n → length (f k) ≡ length (share n (turns_before n 0 k) items) = λ k b.
      ap length (f-is k b) ∙ Works-length consumes (share n k items) (at k b).0.outputs.items (one k b).worked
      ∙ ap (λ i. length (share n i items)) (sym (turns-first n k)) in
      let all = woven n items 0 f some long in (
        all.0,
        record {
          in_turn = some;
          workers = sym (length-map streams into_iter_items) ∙ ap length parts.outputs ∙ length-map ws outputs_of ∙ len;
          each = λ k d b.
              let there : k < length streams = omega (arith, b, sym (length-map streams into_iter_items) ∙ ap length parts.outputs ∙ length-map ws outputs_of ∙ len) in
              sym (get_or-map into_iter_items streams k d [] there) ∙ ap (λ (l : List (List O)). get_or l k []) parts.outputs ∙ sym (all.2 k b);
        },
        record {
          one_each = all.1;
          workers = ap length parts.last_states ∙ length-map ws (λ (w : Worked O L). w.last) ∙ len;
          each = λ k d b.
              let w = at k b in
              let made : (w.0).outputs.items ≡ share n k all.0 = sym (f-is k b) ∙ sym (all.2 k b) ∙ ap (λ i. share n i all.0) (turns-first n k) in
              let last : (w.0).last ≡ get_or lasts k d = sym (ap (λ (l : List L). get_or l k d) parts.last_states
              ∙ get_or-map (λ (v : Worked O L). v.last) ws k w.0 d (omega (arith, len, b)) ∙ ap (λ (v : Worked O L). v.last) (w.1 w.0)) in
              subst (λ (l : L). IsWorked begins consumes ends k (share n k items) (share n k all.0) l) last
              (subst (λ (o : List O). IsWorked begins consumes ends k (share n k items) o w.0.last) made (one k b));
        },
      )
