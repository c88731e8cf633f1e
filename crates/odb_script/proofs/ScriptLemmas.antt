-- Laws of scripts.
use Rattle.std.proofs.Common.{◌≡◌, ℕ, ◌+◌, ◌==◌, ◌<◌, ◌≤◌, Bool, true, false, List, [], ◌∷◌, ◌++◌, length, take, map, nat_le, if◌then◌else◌, refl, sym, ap, ◌∙◌, arith}
use Rattle.std.specs.List.{join_with_byte, AllByRecursion}
use Rattle.std.proofs.lemmas.List.{length-append, map-append, take-append-le}
use Rattle.std.proofs.lemmas.List.Splits.{length-slice_split}
use Rattle.odb_script.specs.declared.item.Item.{Item}
use Rattle.odb_script.specs.declared.item.Item.TheVariants.{Blank, Refused}
use Rattle.odb_script.specs.declared.reader.Script.{Script}
use Rattle.odb_script.specs.declared.reader.Script.TheVariants.{Faults}
use Rattle.odb_script.specs.declared.reader.Taken.{Taken}
use Rattle.odb_script.specs.declared.reader.Taken.TheVariants.{GoesOn, RefusedHere, NotBuiltHere}
use Rattle.odb_script.specs.declared.reader.Ending.TheVariants.{RefusedAt, NotBuiltAt}
use Rattle.odb_script.specs.declared.reader.Reading.{Reading}
use Rattle.odb_script.proofs.SplitLemmas.{lacks, slice_split-join, slice_split-push}
use Rattle.odb_script.specs.Line.{item_of}
use Rattle.odb_script.specs.Script.{lines_in, items_in, items_of, script_limit, taken, carried, reading_from, reading_of}

-- ---- the lines

-- there is a line, if only an empty one
some_line : (bytes : List ℕ) → 0 < length (lines_in bytes)
some_line bytes = omega (arith, length-slice_split (λ b. b == 10) bytes)

-- ---- reading line by line

items_in-more : (is_cut : Bool) (line : List ℕ) (lines : List (List ℕ)) → 0 < length lines → items_in is_cut (line ∷ lines) ≡ item_of line ∷ items_in is_cut lines
items_in-more false line lines some = refl
items_in-more true line [] some = absurd (omega arith)
items_in-more true line (other ∷ lines) some = refl

-- the reading of lines begins with the first
reading_from-more : (is_cut : Bool) (bytes line more : List ℕ) (number : ℕ) (script : Script) → lines_in bytes ≡ line ∷ lines_in more
    → reading_from (items_in is_cut (lines_in bytes)) number script ≡ carried (reading_from (items_in is_cut (lines_in more)) (number + 1)) number (taken script (item_of line))
unfolding reading_from
reading_from-more is_cut bytes line more number script e =
    ap (λ lines. reading_from (items_in is_cut lines) number script) e
    ∙ ap (λ items. reading_from items number script) (items_in-more is_cut line (lines_in more) (some_line more))

module _ (is_cut : Bool) (bytes line more : List ℕ) (number : ℕ) (script next : Script) (first : lines_in bytes ≡ line ∷ lines_in more) where
  begun : reading_from (items_in is_cut (lines_in bytes)) number script ≡ carried (reading_from (items_in is_cut (lines_in more)) (number + 1)) number (taken script (item_of line))
  begun = reading_from-more is_cut bytes line more number script first

  -- it goes on with the lines after it
  pub goes_on : taken script (item_of line) ≡ GoesOn next → reading_from (items_in is_cut (lines_in bytes)) number script ≡ reading_from (items_in is_cut (lines_in more)) (number + 1) next
  goes_on e = begun ∙ ap (carried (reading_from (items_in is_cut (lines_in more)) (number + 1)) number) e

  -- or ends there
  pub refused : taken script (item_of line) ≡ RefusedHere next → reading_from (items_in is_cut (lines_in bytes)) number script ≡ record { script = next; ending = RefusedAt number }
  refused e = begun ∙ ap (carried (reading_from (items_in is_cut (lines_in more)) (number + 1)) number) e

  pub not_built : taken script (item_of line) ≡ NotBuiltHere next → reading_from (items_in is_cut (lines_in bytes)) number script ≡ record { script = next; ending = NotBuiltAt number }
  not_built e = begun ∙ ap (carried (reading_from (items_in is_cut (lines_in more)) (number + 1)) number) e

-- the last line is taken, or refused if it is cut off
pub last : (is_cut : Bool) (bytes : List ℕ) (number : ℕ) (script : Script) → lines_in bytes ≡ bytes ∷ []
    → reading_from (items_in is_cut (lines_in bytes)) number script ≡ carried (reading_from [] (number + 1)) number (taken script (if is_cut then Refused else item_of bytes))
unfolding reading_from
last false bytes number script e = ap (λ lines. reading_from (items_in false lines) number script) e
last true bytes number script e = ap (λ lines. reading_from (items_in true lines) number script) e

-- ---- the limit

above : (n limit : ℕ) → limit < n → nat_le n limit ≡ false
above n limit h = grind (arith, h)

cut : (bytes : List ℕ) → script_limit < length bytes → items_of bytes ≡ items_in true (lines_in (take script_limit bytes))
unfolding items_of
cut bytes long = rw (above (length bytes) script_limit long) refl

-- of a script that is too long, a prefix that is too long says the same
pub items_of-front : (front more : List ℕ) → script_limit < length front → items_of (front ++ more) ≡ items_of front
unfolding items_of
items_of-front front more long =
    let whole : script_limit < length (front ++ more) = omega (arith, length-append front more) in
    cut (front ++ more) whole
    ∙ ap (λ bytes. items_in true (lines_in bytes)) (take-append-le script_limit front more (omega arith))
    ∙ sym (cut front long)

within : (n limit : ℕ) → n ≤ limit → nat_le n limit ≡ true
within n limit h = grind (arith, h)

whole : (bytes : List ℕ) → length bytes ≤ script_limit → items_of bytes ≡ map item_of (lines_in bytes)
unfolding items_of
whole bytes short = rw (within (length bytes) script_limit short) refl

-- ---- lines and line feeds

-- what lines without line feeds say is what each of them says
pub items_of-lines : (line : List ℕ) (lines : List (List ℕ)) → AllByRecursion (λ text. lacks 10 text ≡ true) (line ∷ lines)
    → length (join_with_byte 10 (line ∷ lines)) ≤ script_limit → items_of (join_with_byte 10 (line ∷ lines)) ≡ map item_of (line ∷ lines)
items_of-lines line lines lack short =
    whole (join_with_byte 10 (line ∷ lines)) short ∙ ap (map item_of) (slice_split-join 10 line lines lack)

carried-same : (f g : Script → Reading) → ((script : Script) → f script ≡ g script) → (number : ℕ) (t : Taken) → carried f number t ≡ carried g number t
carried-same f g same number (GoesOn script) = same script
carried-same f g same number (RefusedHere script) = refl
carried-same f g same number (NotBuiltHere script) = refl

-- a blank line at the end says nothing
reading_from-blank : (items : List Item) (number : ℕ) (script : Script) → reading_from (items ++ Blank ∷ []) number script ≡ reading_from items number script
unfolding reading_from taken
reading_from-blank [] number script = refl
reading_from-blank (item ∷ items) number script =
    carried-same (reading_from (items ++ Blank ∷ []) (number + 1)) (reading_from items (number + 1)) (reading_from-blank items (number + 1)) number (taken script item)

nothing : item_of [] ≡ Blank
unfolding item_of
nothing = refl

-- the last line may lack its line feed
pub reading_of-line_feed : (bytes : List ℕ) → length bytes < script_limit → reading_of (bytes ++ 10 ∷ []) ≡ reading_of bytes
reading_of-line_feed bytes short =
    let longer : length (bytes ++ 10 ∷ []) ≤ script_limit = omega (arith, length-append bytes (10 ∷ [])) in
    let items : items_of (bytes ++ 10 ∷ []) ≡ items_of bytes ++ Blank ∷ [] =
    whole (bytes ++ 10 ∷ []) longer
    ∙ ap (map item_of) (slice_split-push 10 bytes)
    ∙ map-append item_of (lines_in bytes) ([] ∷ [])
    ∙ ap (λ item. map item_of (lines_in bytes) ++ item ∷ []) nothing
    ∙ ap (λ before. before ++ Blank ∷ []) (sym (whole bytes (omega arith))) in
    ap (λ all. reading_from all 1 (Faults [])) items ∙ reading_from-blank (items_of bytes) 1 (Faults [])
