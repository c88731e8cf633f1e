-- The law of the message on scripts that are longer than allowed.
use Rattle.std.proofs.Common.{◌≡◌, ℕ, ◌<◌, ◌≤◌, true, false, List, [], ◌++◌, length, take, nat_le, refl, sym, ap, ◌∙◌, inl, inr, arith}
use Rattle.std.proofs.lemmas.Bool.{cases_lt}
use Rattle.std.proofs.lemmas.List.{append-nil, length-append, take-append-le}
use Rattle.odb_script.proofs.LimitLemmas.{items_of-read}
use Rattle.odb_script.specs.declared.item.Item.{Item}
use Rattle.odb_script.specs.declared.reader.Ending.{Ending}
use Rattle.odb_script.specs.declared.reader.Ending.TheVariants.{Whole, RefusedAt, NotBuiltAt}
use Rattle.odb_script.specs.declared.reader.Reading.{Reading}
use Rattle.odb_script.specs.declared.reader.Script.{Script}
use Rattle.odb_script.specs.declared.reader.Script.TheVariants.{Faults}
use Rattle.odb_script.specs.Script.{reading_from, reading_of, script_limit}
use Rattle.odb_script.specs.Reason.{line_at}
use Rattle.odb_script.specs.Told.{told_at, told_by, told_in, told_of, unbuilt_at, unbuilt_line}

above : (n limit : ℕ) → limit < n → nat_le n limit ≡ false
above n limit h = grind (arith, h)

cut : (script : Script) (bytes : List ℕ) (number : ℕ) → script_limit < length bytes → told_at script bytes number ≡ told_in true script (take script_limit bytes) number
unfolding told_at
cut script bytes number long = rw (above (length bytes) script_limit long) refl

told_at-long : (script : Script) (front more : List ℕ) (number : ℕ) → script_limit < length front → told_at script (front ++ more) number ≡ told_at script front number
told_at-long script front more number long =
    let whole : script_limit < length (front ++ more) = omega (arith, length-append front more) in
    cut script (front ++ more) number whole
    ∙ ap (λ bytes. told_in true script bytes number) (take-append-le script_limit front more (omega arith))
    ∙ sym (cut script front number long)

unbuilt-cut : (bytes : List ℕ) (number : ℕ) → script_limit < length bytes → unbuilt_at bytes number ≡ unbuilt_line number (line_at (take script_limit bytes) number)
unfolding unbuilt_at
unbuilt-cut bytes number long = rw (above (length bytes) script_limit long) refl

unbuilt_at-long : (front more : List ℕ) (number : ℕ) → script_limit < length front → unbuilt_at (front ++ more) number ≡ unbuilt_at front number
unbuilt_at-long front more number long =
    let whole : script_limit < length (front ++ more) = omega (arith, length-append front more) in
    unbuilt-cut (front ++ more) number whole
    ∙ ap (λ bytes. unbuilt_line number (line_at bytes number)) (take-append-le script_limit front more (omega arith))
    ∙ sym (unbuilt-cut front number long)

told_by-long : (script : Script) (front more : List ℕ) (ending : Ending) → script_limit < length front → told_by script (front ++ more) ending ≡ told_by script front ending
told_by-long script front more Whole long = refl
told_by-long script front more (RefusedAt number) long = told_at-long script front more number long
told_by-long script front more (NotBuiltAt number) long = unbuilt_at-long front more number long

-- the message by the reading of a script is the message on the script
pub told_of-is : (bytes : List ℕ) (reading : Reading) → reading ≡ reading_of bytes → told_by reading.script bytes reading.ending ≡ told_of bytes
unfolding told_of
told_of-is bytes reading is = ap (λ (r : Reading). told_by r.script bytes r.ending) is

-- the message on a prefix that is the whole, or is longer than a script may be, is the message on the whole
pub told_of-read : (text rest : List ℕ) → (length text ≤ script_limit → rest ≡ []) → told_of (text ++ rest) ≡ told_of text
unfolding told_of
told_of-read text rest whole =
    let told : List Item → List ℕ = λ items. told_by (reading_from items 1 (Faults [])).script (text ++ rest) (reading_from items 1 (Faults [])).ending in
    elim (cases_lt script_limit (length text)) [
      | inl long ↦ ap told (items_of-read text rest whole) ∙ told_by-long (reading_of text).script text rest (reading_of text).ending long
      | inr short ↦ ap (λ r. told_of (text ++ r)) (whole short) ∙ ap told_of (append-nil text)
    ]
