-- Laws of openings: what options spell is chosen.
use Rattle.std.proofs.Common.{◌≡◌, ℕ, ◌^◌, ◌<◌, ◌==◌, true, not, List, [], ◌∷◌, ◌++◌, map, codes, Some, refl, ap, ◌∙◌, arith}
use Rattle.std.specs.Fmt.{decimal}
use Rattle.std.specs.List.{list_all, AllByRecursion}
use Rattle.std.proofs.lemmas.Bool.{and_parts}
use Rattle.odb_base.specs.Path.{Path, is_name, text_of}
use Rattle.odb_base.specs.PathLaws.{path_of-text_of}
use Rattle.odb_base.proofs.DecimalLemmas.{number_of-decimal, number_below-is}
use Rattle.gix_hash.specs.ObjectId.{IsId, hex_of, id_of, is_lower_text, is_lower_digit}
use Rattle.gix_hash.specs.declared.object_id.ObjectId.{ObjectId}
use Rattle.gix_hash.proofs.ObjectIdLemmas.{id_of-hex_of, is_lower_text-hex_of}
use Rattle.odb_script.specs.declared.choice.Choice.{Choice}
use Rattle.odb_script.specs.declared.choice.Choice.TheVariants.{Folder, Replacement, Slots, Limit, Changes, NoMultiPackIndex, Sha256}
use Rattle.odb_script.specs.declared.choice.Chosen.{Chosen}
use Rattle.odb_script.specs.Word.{word_of}
use Rattle.odb_script.specs.Line.{line_item, item_of}
use Rattle.odb_script.specs.Opening.{first_id, second_id, choice_of, with_choice, with_next, nothing_chosen, chosen_by, opening_at, open_of}
use Rattle.odb_script.proofs.SplitLemmas.{after_first-followed, before_first-followed, lacks}
use Rattle.odb_script.proofs.LineLemmas.{AreFields, line_of, item_of-line_of, IsField-word, IsField-decimal, handle_of-decimal}

-- ---- pairs of ids

digit : (b : ℕ) → is_lower_digit b ≡ true → not (b == 58) ≡ true
digit b h = grind (arith, h)

no_colon : (text : List ℕ) → is_lower_text text ≡ true → lacks 58 text ≡ true
no_colon [] h = refl
no_colon (b ∷ text) h =
    let parts = and_parts (is_lower_digit b) (is_lower_text text) h in rw (digit b parts.0, no_colon text parts.1) refl

module _ (id by : ObjectId) (is : IsId id) (other : IsId by) where
  plain : lacks 58 (hex_of id) ≡ true
  plain = no_colon (hex_of id) (is_lower_text-hex_of id is)

  first_is : first_id (hex_of id ++ 58 ∷ hex_of by) ≡ Some id
  first_is = ap id_of (before_first-followed 58 (hex_of id) (hex_of by) plain) ∙ id_of-hex_of id is

  second_is : second_id (hex_of id ++ 58 ∷ hex_of by) ≡ Some by
  second_is = ap id_of (after_first-followed 58 (hex_of id) (hex_of by) plain) ∙ id_of-hex_of by other

-- ---- options

-- how an option's choice is spelled
abbrev pub spelled : Choice → List ℕ
spelled (Folder path) = codes "folder=" ++ text_of path
spelled (Replacement id by) = codes "replace=" ++ hex_of id ++ 58 ∷ hex_of by
spelled (Slots slots) = codes "slots=" ++ decimal slots
spelled (Limit bytes) = codes "limit=" ++ decimal bytes
spelled (Changes changes) = codes "changes=" ++ decimal changes
spelled NoMultiPackIndex = codes "midx=no"
spelled Sha256 = codes "hash=sha256"

-- what an option can choose
abbrev pub IsChoice : Choice → Type 0
IsChoice (Folder path) = list_all is_name path ≡ true
IsChoice (Replacement id by) = IsId id × IsId by
IsChoice (Slots slots) = slots < 2 ^ 16
IsChoice (Limit bytes) = bytes < 2 ^ 64
IsChoice (Changes changes) = changes < 2 ^ 32
IsChoice NoMultiPackIndex = Unit {0}
IsChoice Sha256 = Unit {0}

abbrev pub AreChoices : List Choice → Type 0
AreChoices choices = AllByRecursion IsChoice choices

pub choice_of-spelled : (choice : Choice) → IsChoice choice → choice_of (spelled choice) ≡ Some choice
choice_of-spelled (Folder path) is = rw (path_of-text_of path is) refl
choice_of-spelled (Replacement id by) is = rw (first_is id by is.0 is.1, second_is id by is.0 is.1) refl
choice_of-spelled (Slots slots) is = rw (number_below-is (2 ^ 16) (decimal slots) slots (number_of-decimal slots (omega arith)) is) refl
choice_of-spelled (Limit bytes) is = rw (number_of-decimal bytes is) refl
choice_of-spelled (Changes changes) is = rw (number_below-is (2 ^ 32) (decimal changes) changes (number_of-decimal changes (omega arith)) is) refl
choice_of-spelled NoMultiPackIndex is = refl
choice_of-spelled Sha256 is = refl

-- ---- what options choose together

abbrev pub with_all : Chosen → List Choice → Chosen
with_all chosen [] = chosen
with_all chosen (choice ∷ choices) = with_all (with_choice chosen choice) choices

-- options that are spelled are chosen one after the other
pub chosen_by-spelled : (choices : List Choice) (chosen : Chosen) → AreChoices choices → chosen_by (map spelled choices) chosen ≡ Some (with_all chosen choices)
unfolding chosen_by
chosen_by-spelled [] chosen are = refl
chosen_by-spelled (choice ∷ choices) chosen are =
    ap (with_next (chosen_by (map spelled choices)) chosen) (choice_of-spelled choice are.0) ∙ chosen_by-spelled choices (with_choice chosen choice) are.1

-- an opening that is spelled is read with what its options choose
pub item_of-open : (handle : ℕ) (path : Path) (choices : List Choice) → handle < 2 ^ 32 → list_all is_name path ≡ true → AreChoices choices
    → AreFields (text_of path ∷ map spelled choices)
    → item_of (line_of (codes "open" ∷ decimal handle ∷ text_of path ∷ map spelled choices)) ≡ opening_at handle path (with_all nothing_chosen choices)
unfolding word_of line_item open_of
item_of-open handle path choices small names are fields =
    item_of-line_of 111 (codes "pen") (decimal handle ∷ text_of path ∷ map spelled choices) refl (IsField-word (codes "open") refl refl, (IsField-decimal handle (omega arith), fields))
    ∙ rw (handle_of-decimal handle small, path_of-text_of path names, chosen_by-spelled choices nothing_chosen are) refl
