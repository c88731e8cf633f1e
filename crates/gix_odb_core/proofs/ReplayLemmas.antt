-- One entry more at the end of a journal, and entries that follow others.
use Rattle.std.proofs.Common.{◌≡◌, ℕ, zero, suc, ◌+◌, ◌<◌, ◌≤◌, inl, inr, List, [], ◌∷◌, ◌++◌, length, get_or, take, Option, Some, None, Ok, Err}
use Rattle.std.proofs.Common.{refl, sym, ap, subst, ◌∙◌, arith, append_assoc, append-nil, length-append, cond, min}
use Rattle.std.specs.List.{cons_option, slice_get}
use Rattle.std.specs.Option.{option_to_list}
use Rattle.std.proofs.lemmas.Bool.{cases_lt}
use Rattle.std.proofs.lemmas.List.{take-append-le}
use Rattle.std.proofs.Math.Seq.{get_or-append_seam, take-append_seam}
use Rattle.std.proofs.Math.ListN.{get_or-append}
use Rattle.std.proofs.lemmas.List.Elements.{filter_map-append}
use Rattle.std.proofs.lemmas.List.Sums.{sum_by_push}
use Rattle.std.proofs.lemmas.Option.{get_or_from_slice_get, slice_get-get_or, slice_get_within}
use Rattle.gix_odb_core.specs.Replay.{AreNext, IsLegal, IsNext, after_answer, after_entry, is_refresh, answer_of, number_behind, passed_by, passed_in, passed_with, refreshes_in, replay}
use Rattle.gix_odb_events.specs.Answers.{Answer}
use Rattle.gix_odb_core.specs.State.{newest}
use Rattle.gix_odb_core.specs.Steps.{after}
use Rattle.gix_odb_events.specs.declared.event.Event.{Event}
use Rattle.gix_odb_events.specs.declared.event.Event.TheVariants as event
use Rattle.gix_odb_events.specs.declared.event.Refusal.TheVariants as refusals
use Rattle.gix_odb_core.specs.declared.journal.Entry.{Entry}
use Rattle.gix_odb_core.specs.declared.shape.Shape.{Shape}

pub replay-push : (shape : Shape) (entries : List Entry) (entry : Entry) → replay shape (entries ++ entry ∷ []) ≡ after_entry (replay shape entries) entry
replay-push shape [] entry = refl
replay-push shape (first ∷ entries) entry = replay-push (after_entry shape first) entries entry

pub passed_in-push : (entries : List Entry) (entry : Entry) → passed_in (entries ++ entry ∷ []) ≡ passed_in entries ++ option_to_list (passed_with entry.event entry.answer)
passed_in-push entries entry =
    filter_map-append (λ e. passed_with e.event e.answer) entries (entry ∷ []) ∙ ap (λ l. passed_in entries ++ l) (only (passed_with entry.event entry.answer))
  where
    only : {Y : Type 0} (o : Option Y) → cons_option o [] ≡ option_to_list o
    only None = refl
    only (Some y) = refl

passes_none : (happens : Event) (answer : Answer) → passed_by happens ≡ None → passed_with happens answer ≡ passed_by happens
passes_none happens (Ok effect) none = refl
passes_none happens (Err refusal) none = sym none

-- an event that isn't refused for lack of memory passes its file over, if it has one
pub passed-answer : (entries : List Entry) (shape : Shape) (number seat : ℕ) (happens : Event)
    → passed_with happens (answer_of entries shape number seat happens) ≡ passed_by happens
passed-answer entries shape number seat (event.Register stable) = refl
passed-answer entries shape number seat event.Upgrade = refl
passed-answer entries shape number seat event.Remove = refl
passed-answer entries shape number seat event.Look = refl
passed-answer entries shape number seat event.Report = refl
passed-answer entries shape number seat (event.PutIndex slot path file) =
    passes_none (event.PutIndex slot path file) (answer_of entries shape number seat (event.PutIndex slot path file)) refl
passed-answer entries shape number seat (event.PutPack pack path file) =
    passes_none (event.PutPack pack path file) (answer_of entries shape number seat (event.PutPack pack path file)) refl
passed-answer entries shape number seat (event.PassOver slot path why) = refl
passed-answer entries shape number seat (event.Publish listing) =
    passes_none (event.Publish listing) (answer_of entries shape number seat (event.Publish listing)) refl

pub refreshes_in-push : (entries : List Entry) (entry : Entry) → refreshes_in (entries ++ entry ∷ []) ≡ refreshes_in entries + cond (is_refresh entry.answer) 1 0
refreshes_in-push entries entry = sum_by_push (λ (e : Entry). cond (is_refresh e.answer) 1 0) entries entry

-- the number of an entry is the newest, once it is appended
pub newest-push : (entries : List Entry) (entry : Entry) → newest (entries ++ entry ∷ []) ≡ number_behind entries
newest-push entries entry = ap (λ n. min n 18446744073709551615) (length-append entries (entry ∷ []))

-- a legal journal with a next entry is legal
pub IsLegal-push : (opening : Shape) (entries : List Entry) (entry : Entry) → IsLegal opening entries → IsNext opening entries entry → IsLegal opening (entries ++ entry ∷ [])
IsLegal-push opening entries entry legal next i one at = elim (cases_lt i (length entries)) [ inl before ↦ earlier before | inr past ↦ last past ]
  where
    earlier : i < length entries → IsNext opening (take i (entries ++ entry ∷ [])) one
    earlier before =
        let same : get_or (entries ++ entry ∷ []) i one ≡ one = get_or_from_slice_get (entries ++ entry ∷ []) i one one at in
        let there : slice_get entries i ≡ Some one = slice_get-get_or entries i one before ∙ ap Some (sym (get_or-append entries (entry ∷ []) one i before) ∙ same) in
        subst (λ (past : List Entry). IsNext opening past one) (sym (take-append-le i entries (entry ∷ []) (omega arith))) (legal i one there)

    last : length entries ≤ i → IsNext opening (take i (entries ++ entry ∷ [])) one
    last past =
        let within : i < length (entries ++ entry ∷ []) = slice_get_within (entries ++ entry ∷ []) i one at in
        let here : i ≡ length entries = omega (arith, length-append entries (entry ∷ [])) in
        let is : entry ≡ one = sym (get_or-append_seam entries entry [] one) ∙ ap (λ n. get_or (entries ++ entry ∷ []) n one) (sym here) ∙ get_or_from_slice_get (entries ++ entry ∷ []) i one one at in
        let front : take i (entries ++ entry ∷ []) ≡ entries = ap (λ n. take n (entries ++ entry ∷ [])) here ∙ take-append_seam entries (entry ∷ []) in
        subst (λ (past : List Entry). IsNext opening past one) (sym front) (subst (λ (e : Entry). IsNext opening entries e) is next)

-- an entry that isn't refused for lack of memory changes the shape as its event does
pub after_answer-changes : (shape : Shape) (entry : Entry) (answer : Answer) → ¬ (answer ≡ Err refusals.NoMemory) → after_answer shape entry answer ≡ after shape entry.seat entry.event
after_answer-changes shape entry (Ok effect) some = refl
after_answer-changes shape entry (Err refusals.NoMemory) some = absurd (some refl)
after_answer-changes shape entry (Err refusals.GenerationOverflow) some = refl
after_answer-changes shape entry (Err (refusals.InsufficientSlots current needed)) some = refl

-- ---- entries that follow others

pub next_first : (opening : Shape) (past : List Entry) (entry : Entry) (later : List Entry) → AreNext opening past (entry ∷ later) → IsNext opening past entry
next_first opening past entry later next = subst (λ (l : List Entry). IsNext opening l entry) (append-nil past) (next zero entry refl)

pub next_rest : (opening : Shape) (past : List Entry) (entry : Entry) (later : List Entry) → AreNext opening past (entry ∷ later) → AreNext opening (past ++ entry ∷ []) later
next_rest opening past entry later next i one is =
    subst (λ (l : List Entry). IsNext opening l one) (sym (append_assoc past (entry ∷ []) (take i later))) (next (suc i) one is)

-- the first ones
pub next_front : (opening : Shape) (past front later : List Entry) → AreNext opening past (front ++ later) → AreNext opening past front
next_front opening past front later next i one is =
    let within : i < length front = slice_get_within front i one is in
    let longer : i < length (front ++ later) = omega (arith, length-append front later) in
    let there : slice_get (front ++ later) i ≡ Some one =
    slice_get-get_or (front ++ later) i one longer ∙ ap Some (get_or-append front later one i within ∙ get_or_from_slice_get front i one one is) in
    subst (λ (l : List Entry). IsNext opening (past ++ l) one) (take-append-le i front later (omega arith)) (next i one there)

-- those after the first ones
pub next_behind : (opening : Shape) (front past later : List Entry) → AreNext opening past (front ++ later) → AreNext opening (past ++ front) later
next_behind opening [] past later next = subst (λ (l : List Entry). AreNext opening l later) (sym (append-nil past)) next
next_behind opening (entry ∷ front) past later next =
    subst (λ (l : List Entry). AreNext opening l later) (append_assoc past (entry ∷ []) front)
    (next_behind opening front (past ++ entry ∷ []) later (next_rest opening past entry (front ++ later) next))
