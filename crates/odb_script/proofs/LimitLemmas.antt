-- Laws of scripts that are longer than a script may be.
use Rattle.std.proofs.Common.{◌≡◌, ◌≢◌, inl, inr, ℕ, ◌+◌, ◌<◌, ◌≤◌, false, nat_le, map, List, [], ◌∷◌, ◌++◌, length, take, refl, ap, ◌∙◌, subst, arith}
use Rattle.std.proofs.lemmas.Bool.{cases_lt}
use Rattle.std.proofs.lemmas.Bool.Decides.{nat_tests}
use Rattle.std.proofs.lemmas.List.{append-nil}
use Rattle.odb_script.specs.declared.reader.Ending.TheVariants.{Whole}
use Rattle.odb_script.specs.declared.reader.Script.{Script}
use Rattle.odb_script.specs.declared.reader.Script.TheVariants.{Faults}
use Rattle.odb_script.specs.declared.reader.Taken.{Taken}
use Rattle.odb_script.specs.declared.reader.Taken.TheVariants.{GoesOn, RefusedHere, NotBuiltHere}
use Rattle.odb_script.specs.declared.item.Item.{Item}
use Rattle.odb_script.specs.declared.item.Item.TheVariants as items
use Rattle.odb_script.specs.Script.{script_limit, items_of, lines_in, but_last, taken, carried, reading_from, reading_of}
use Rattle.odb_script.specs.Line.{item_of}
use Rattle.odb_script.proofs.ScriptLemmas.{items_of-front}

-- ---- a prefix of a script

-- a prefix that is the whole, or is longer than a script may be, reads as the whole
pub items_of-read : (text rest : List ℕ) → (length text ≤ script_limit → rest ≡ []) → items_of (text ++ rest) ≡ items_of text
items_of-read text rest whole =
    elim (cases_lt script_limit (length text)) [
      | inl long ↦ items_of-front text rest long
      | inr short ↦ ap (λ r. items_of (text ++ r)) (whole short) ∙ ap items_of (append-nil text)
    ]

-- ---- a script that is too long doesn't end whole

carried-Whole : (lines : List Item) (number : ℕ) (t : Taken) → ((next : Script) → (reading_from lines (number + 1) next).ending ≢ Whole)
    → (carried (reading_from lines (number + 1)) number t).ending ≢ Whole
carried-Whole lines number (GoesOn next) further e = further next e
carried-Whole lines number (RefusedHere script) further e = cc
carried-Whole lines number (NotBuiltHere script) further e = cc

refused-Whole : (lines : List Item) (number : ℕ) (script : Script) → (reading_from (lines ++ items.Refused ∷ []) number script).ending ≢ Whole
unfolding reading_from taken
refused-Whole [] number script e = cc
refused-Whole (item ∷ lines) number script e =
    carried-Whole (lines ++ items.Refused ∷ []) number (taken script item) (refused-Whole lines (number + 1)) e

items_of-long : (bytes : List ℕ) → script_limit < length bytes → items_of bytes ≡ map item_of (but_last (lines_in (take script_limit bytes))) ++ items.Refused ∷ []
unfolding items_of
items_of-long bytes long = let short : nat_le (length bytes) script_limit ≡ false = grind (arith, nat_tests) in rw short refl

pub too-long-Whole : (script : List ℕ) → script_limit < length script → (reading_of script).ending ≢ Whole
too-long-Whole script long e =
    let P : List Item → Type 0 = λ i. (reading_from i 1 (Faults [])).ending ≡ Whole in
    refused-Whole (map item_of (but_last (lines_in (take script_limit script)))) 1 (Faults []) (subst P (items_of-long script long) e)
