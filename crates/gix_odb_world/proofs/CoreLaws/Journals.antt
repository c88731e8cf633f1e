-- Journals with one more entry at their end.
use Rattle.std.proofs.Common.{◌≡◌, ◌<◌, ◌≤◌, ◌⊎◌, inl, inr, List, [], ◌∷◌, ◌++◌, length}
use Rattle.std.proofs.Common.{get_or, take, slice_get, Contains, Some, sym, ap, subst, ◌∙◌, arith, length-append}
use Rattle.std.proofs.Math.ListN.{get_or-append}
use Rattle.std.proofs.Math.Seq.{get_or-append_seam, take-append_seam}
use Rattle.std.proofs.lemmas.Bool.{cases_lt}
use Rattle.std.proofs.lemmas.List.{take-append-le}
use Rattle.std.proofs.lemmas.List.Elements.{All-contains, All-contains_itself, All-push}
use Rattle.std.proofs.lemmas.Option.{get_or_from_slice_get, slice_get-get_or, slice_get_within}
use Rattle.gix_odb_core.specs.Numbers.{NeverFalls}
use Rattle.gix_odb_core.specs.Replay.{IsLegal, IsNext, replay}
use Rattle.gix_odb_core.specs.declared.journal.Entry.{Entry}
use Rattle.gix_odb_core.specs.declared.shape.Shape.{Shape}
use Rattle.gix_odb_core.proofs.NumberLaws.{entries_lower_no_number}
use Rattle.gix_odb_core.proofs.OrderLaws.{replay_of_joined_journals}

module _ (entries : List Entry) (entry : Entry) where
  abbrev grown : List Entry
  grown = entries ++ entry ∷ []

  -- what holds of each entry and of the next one holds of each of the grown list
  pub each_of_grown : (P : Entry → Type 0) → ((one : Entry) → Contains entries one → P one) → P entry → (one : Entry) → Contains grown one → P one
  each_of_grown P each last one among =
      All-contains P grown one (All-push P entries entry (λ i d within. each (get_or entries i d) (All-contains_itself entries i d within)) last) among

  module _ (opening : Shape) where
    -- a legal journal with a next entry is legal
    pub legal_journal_grows : IsLegal opening entries → IsNext opening entries entry → IsLegal opening grown
    legal_journal_grows legal next i one at = by (cases_lt i (length entries))
      where
        by : (i < length entries) ⊎ (length entries ≤ i) → IsNext opening (take i grown) one
        by (inl before) =
            let same : get_or grown i one ≡ one = get_or_from_slice_get grown i one one at in
            let there : slice_get entries i ≡ Some one =
            slice_get-get_or entries i one before ∙ ap Some (sym (get_or-append entries (entry ∷ []) one i before) ∙ same) in
            subst (λ (past : List Entry). IsNext opening past one) (sym (take-append-le i entries (entry ∷ []) (omega arith))) (legal i one there)
        by (inr past) =
            let within : i < length grown = slice_get_within grown i one at in
            let here : i ≡ length entries = omega (arith, length-append entries (entry ∷ [])) in
            let is : entry ≡ one =
            sym (get_or-append_seam entries entry [] one) ∙ ap (λ n. get_or grown n one) (sym here) ∙ get_or_from_slice_get grown i one one at in
            let front : take i grown ≡ entries = ap (λ n. take n grown) here ∙ take-append_seam entries (entry ∷ []) in
            subst (λ (past : List Entry). IsNext opening past one) (sym front) (subst (λ (e : Entry). IsNext opening entries e) is next)

    -- no number of the shape falls by the next entry
    pub next_entry_lowers_no_number : NeverFalls (replay opening entries) (replay opening grown)
    next_entry_lowers_no_number =
        subst (NeverFalls (replay opening entries)) (sym (replay_of_joined_journals entries (entry ∷ []) opening))
        (entries_lower_no_number (entry ∷ []) (replay opening entries))
