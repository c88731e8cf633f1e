-- Laws of lines: what is spelled is read.
use Rattle.std.proofs.Common.{◌≡◌, ℕ, zero, suc, ◌^◌, ◌<◌, ◌≤◌, ◌==◌, ◌&&◌, Bool, true, false, not, List, [], ◌∷◌, ◌++◌, length, codes, nat_lt, nat_le, ◌≢◌, Some, None, refl, ◌∙◌, arith}
use Rattle.std.specs.Fmt.{decimal}
use Rattle.std.specs.Char.{is_ascii_digit}
use Rattle.std.specs.List.{list_all, join_with_byte, AllByRecursion}
use Rattle.std.specs.Str.{IsUtf8, IsAscii, all_ascii_digits}
use Rattle.std.proofs.lemmas.Bool.{and_parts, and_from, ne_eqb}
use Rattle.std.proofs.lemmas.Fmt.{IsAscii-decimal, digits_decimal}
use Rattle.std.proofs.lemmas.Str.{IsUtf8-append, IsUtf8-from_ascii, is_utf8-from_IsUtf8}
use Rattle.std.proofs.lemmas.List.Folds.{list_all-append}
use Rattle.odb_base.proofs.DecimalLemmas.{own, number_of-decimal, number_below-is}
use Rattle.gix_hash.specs.ObjectId.{IsId, hex_of, is_lower_text, is_lower_digit}
use Rattle.gix_hash.specs.declared.object_id.ObjectId.{ObjectId}
use Rattle.gix_hash.proofs.ObjectIdLemmas.{id_of-hex_of, is_lower_text-hex_of}
use Rattle.gix_odb_calls.specs.declared.call.Call.TheVariants as calls
use Rattle.gix_odb_calls.specs.declared.step.Step.TheVariants as steps
use Rattle.gix_odb_calls.specs.declared.line.Line.TheVariants.{One, Finish}
use Rattle.odb_script.specs.declared.item.Item.TheVariants as items
use Rattle.odb_script.specs.declared.word.Word.TheVariants as words
use Rattle.odb_script.specs.Word.{word_of}
use Rattle.gix_object.specs.declared.want.Want.{Want}
use Rattle.gix_object.specs.declared.want.Want.TheVariants as wants
use Rattle.gix_object.specs.declared.kind.Kind.{Kind}
use Rattle.gix_object.specs.declared.kind.Kind.TheVariants.{Commit, Tree, Blob, Tag}
use Rattle.gix_object.specs.Kind.{kind_word}
use Rattle.gix_object.proofs.KindLaws.{kind_of_word-kind_word}
use Rattle.odb_script.specs.Content.{data_of}
use Rattle.odb_script.specs.Opening.{handle_of}
use Rattle.odb_script.proofs.SplitLemmas.{slice_split-join}
use Rattle.odb_script.specs.Line.{Fields, call_for, fields_of, line_item, item_of}

-- ---- fields and their line

abbrev pub has_no_space : List ℕ → Bool
has_no_space text = list_all (λ b. not (b == 32)) text

-- what can be a field: text without a space
pub record IsField (text : List ℕ) : Type 0 where
  pub utf8 : IsUtf8 text
  pub no_space : has_no_space text ≡ true

abbrev pub AreFields : Fields → Type 0
AreFields fields = AllByRecursion IsField fields

-- the line of fields
abbrev pub line_of : Fields → List ℕ
line_of fields = join_with_byte 32 fields

have_no_space : (fields : Fields) → AreFields fields → AllByRecursion (λ field. has_no_space field ≡ true) fields
have_no_space [] are = tt
have_no_space (field ∷ fields) are = (are.0.no_space, have_no_space fields are.1)

-- the fields of the line of some fields are those
pub fields_of-line_of : (field : List ℕ) (fields : Fields) → AreFields (field ∷ fields) → fields_of (line_of (field ∷ fields)) ≡ field ∷ fields
fields_of-line_of field fields are = slice_split-join 32 field fields (have_no_space (field ∷ fields) are)

abbrev is_ascii : List ℕ → Bool
is_ascii text = list_all (λ b. nat_lt b 128) text

IsAscii-from_test : (text : List ℕ) → is_ascii text ≡ true → IsAscii text
IsAscii-from_test [] h i = omega arith
IsAscii-from_test (b ∷ text) h zero = let parts = and_parts (nat_lt b 128) (is_ascii text) h in grind (arith, parts.0)
IsAscii-from_test (b ∷ text) h (suc i) = IsAscii-from_test text (and_parts (nat_lt b 128) (is_ascii text) h).1 i

-- a field of plain bytes, by a test
pub IsField-word : (text : List ℕ) → is_ascii text ≡ true → has_no_space text ≡ true → IsField text
IsField-word text ascii plain = record { utf8 = IsUtf8-from_ascii text (IsAscii-from_test text ascii); no_space = plain }

pub IsField-append : (text more : List ℕ) → IsField text → IsField more → IsField (text ++ more)
IsField-append text more first second = record {
  utf8 = IsUtf8-append text more first.utf8 second.utf8;
  no_space = list_all-append (λ b. not (b == 32)) text more ∙ and_from (has_no_space text) (has_no_space more) first.no_space second.no_space;
}

space : IsUtf8 (32 ∷ [])
space = IsUtf8-from_ascii (32 ∷ []) (IsAscii-from_test (32 ∷ []) refl)

IsUtf8-line_of : (field : List ℕ) (fields : Fields) → AreFields (field ∷ fields) → IsUtf8 (line_of (field ∷ fields))
IsUtf8-line_of field [] are = are.0.utf8
IsUtf8-line_of field (other ∷ fields) are =
    IsUtf8-append field (32 ∷ line_of (other ∷ fields)) are.0.utf8 (IsUtf8-append (32 ∷ []) (line_of (other ∷ fields)) space (IsUtf8-line_of other fields are.1))

-- a line of fields is read by its first word; it is no comment
pub item_of-line_of : (b : ℕ) (word : List ℕ) (fields : Fields) → (b == 35) ≡ false → AreFields ((b ∷ word) ∷ fields) → item_of (line_of ((b ∷ word) ∷ fields)) ≡ line_item (word_of (b ∷ word)) fields
unfolding item_of
item_of-line_of b word [] first are =
    rw (first, is_utf8-from_IsUtf8 (b ∷ word) (IsUtf8-line_of (b ∷ word) [] are), fields_of-line_of (b ∷ word) [] are) refl
item_of-line_of b word (field ∷ fields) first are =
    rw (first, is_utf8-from_IsUtf8 (line_of ((b ∷ word) ∷ field ∷ fields)) (IsUtf8-line_of (b ∷ word) (field ∷ fields) are), fields_of-line_of (b ∷ word) (field ∷ fields) are) refl

-- ---- numbers and ids as fields

-- hex digits in lower case, decimal ones among them, are ASCII and no space
abbrev is_plain : ℕ → Bool
is_plain b = nat_le 48 b && nat_le b 102

plain_byte : (b : ℕ) → is_plain b ≡ true → (nat_lt b 128 ≡ true) × (not (b == 32) ≡ true)
plain_byte b h =
    let parts = and_parts (nat_le 48 b) (nat_le b 102) h in
    let low : 48 ≤ b = grind (arith, parts.0) in
    let high : b ≤ 102 = grind (arith, parts.1) in
    let other : b ≢ 32 = omega arith in
    (grind (arith, high), rw (ne_eqb b 32 other) refl)

digit_byte : (b : ℕ) → is_ascii_digit b ≡ true → is_plain b ≡ true
digit_byte b h = grind (arith, h)

lower_byte : (b : ℕ) → is_lower_digit b ≡ true → is_plain b ≡ true
lower_byte b h = grind (arith, h)

plain_digits : (digits : List ℕ) → all_ascii_digits digits ≡ true → has_no_space digits ≡ true
plain_digits [] h = refl
plain_digits (d ∷ digits) h =
    let parts = and_parts (is_ascii_digit d) (all_ascii_digits digits) h in
    and_from (not (d == 32)) (has_no_space digits) (plain_byte d (digit_byte d parts.0)).1 (plain_digits digits parts.1)

pub IsField-decimal : (n : ℕ) → n < 2 ^ 64 → IsField (decimal n)
IsField-decimal n small =
    record { utf8 = IsUtf8-from_ascii (decimal n) (IsAscii-decimal n small); no_space = plain_digits (decimal n) (digits_decimal own n small) }

lower_digits_are : (digits : List ℕ) → is_lower_text digits ≡ true → (is_ascii digits ≡ true) × (has_no_space digits ≡ true)
lower_digits_are [] h = (refl, refl)
lower_digits_are (d ∷ digits) h =
    let parts = and_parts (is_lower_digit d) (is_lower_text digits) h in
    let own = plain_byte d (lower_byte d parts.0) in
    let rest = lower_digits_are digits parts.1 in
    (and_from (nat_lt d 128) (is_ascii digits) own.0 rest.0, and_from (not (d == 32)) (has_no_space digits) own.1 rest.1)

IsField-lower : (digits : List ℕ) → is_lower_text digits ≡ true → IsField digits
IsField-lower digits h = IsField-word digits (lower_digits_are digits h).0 (lower_digits_are digits h).1

pub IsField-hex_of : (id : ObjectId) → IsId id → IsField (hex_of id)
IsField-hex_of id is = IsField-lower (hex_of id) (is_lower_text-hex_of id is)

pub handle_of-decimal : (handle : ℕ) → handle < 2 ^ 32 → handle_of (decimal handle) ≡ Some handle
handle_of-decimal handle small = number_below-is (2 ^ 32) (decimal handle) handle (number_of-decimal handle (omega arith)) small

-- ---- what is spelled is read

pub item_of-fail : (number : ℕ) → number < 2 ^ 64 → item_of (line_of (codes "fail" ∷ decimal number ∷ [])) ≡ items.Fail number
unfolding word_of line_item
item_of-fail number small =
    item_of-line_of 102 (codes "ail") (decimal number ∷ []) refl (IsField-word (codes "fail") refl refl, (IsField-decimal number small, tt))
    ∙ rw (number_of-decimal number small) refl

pub item_of-close : (handle : ℕ) → handle < 2 ^ 32 → item_of (line_of (codes "close" ∷ decimal handle ∷ [])) ≡ items.Play (One (steps.Close handle))
unfolding word_of line_item
item_of-close handle small =
    item_of-line_of 99 (codes "lose") (decimal handle ∷ []) refl (IsField-word (codes "close") refl refl, (IsField-decimal handle (omega arith), tt))
    ∙ rw (handle_of-decimal handle small) refl

pub item_of-turn : (handle : ℕ) → handle < 2 ^ 32 → item_of (line_of (codes "turn" ∷ decimal handle ∷ [])) ≡ items.Play (One (steps.Turn handle))
unfolding word_of line_item
item_of-turn handle small =
    item_of-line_of 116 (codes "urn") (decimal handle ∷ []) refl (IsField-word (codes "turn") refl refl, (IsField-decimal handle (omega arith), tt))
    ∙ rw (handle_of-decimal handle small) refl

pub item_of-finish : (handle : ℕ) → handle < 2 ^ 32 → item_of (line_of (codes "finish" ∷ decimal handle ∷ [])) ≡ items.Play (Finish handle)
unfolding word_of line_item
item_of-finish handle small =
    item_of-line_of 102 (codes "inish") (decimal handle ∷ []) refl (IsField-word (codes "finish") refl refl, (IsField-decimal handle (omega arith), tt))
    ∙ rw (handle_of-decimal handle small) refl

pub item_of-never : (handle : ℕ) → handle < 2 ^ 32 → item_of (line_of (codes "never" ∷ decimal handle ∷ [])) ≡ items.Play (One (steps.Never handle))
unfolding word_of line_item
item_of-never handle small =
    item_of-line_of 110 (codes "ever") (decimal handle ∷ []) refl (IsField-word (codes "never") refl refl, (IsField-decimal handle (omega arith), tt))
    ∙ rw (handle_of-decimal handle small) refl

pub item_of-ignore : (handle : ℕ) → handle < 2 ^ 32 → item_of (line_of (codes "ignore" ∷ decimal handle ∷ [])) ≡ items.Play (One (steps.Ignore handle))
unfolding word_of line_item
item_of-ignore handle small =
    item_of-line_of 105 (codes "gnore") (decimal handle ∷ []) refl (IsField-word (codes "ignore") refl refl, (IsField-decimal handle (omega arith), tt))
    ∙ rw (handle_of-decimal handle small) refl

pub item_of-clone : (handle from : ℕ) → handle < 2 ^ 32 → from < 2 ^ 32
    → item_of (line_of (codes "clone" ∷ decimal handle ∷ decimal from ∷ [])) ≡ items.Play (One (steps.Clone handle from))
unfolding word_of line_item
item_of-clone handle from small few =
    item_of-line_of 99 (codes "lone") (decimal handle ∷ decimal from ∷ []) refl
    (IsField-word (codes "clone") refl refl, (IsField-decimal handle (omega arith), (IsField-decimal from (omega arith), tt)))
    ∙ rw (handle_of-decimal handle small, handle_of-decimal from few) refl

-- calls that ask for the object of an id
module _ (handle : ℕ) (id : ObjectId) (small : handle < 2 ^ 32) (is : IsId id) where
  asked : (b : ℕ) (word : List ℕ) (want : Want) → (b == 35) ≡ false → IsField (b ∷ word) → word_of (b ∷ word) ≡ Some (words.Ask want)
      → item_of (line_of ((b ∷ word) ∷ decimal handle ∷ hex_of id ∷ [])) ≡ items.Play (One (steps.Start handle (call_for want id)))
  unfolding line_item
  asked b word want no_comment field word_is =
      item_of-line_of b word (decimal handle ∷ hex_of id ∷ []) no_comment (field, (IsField-decimal handle (omega arith), (IsField-hex_of id is, tt)))
      ∙ rw (word_is, handle_of-decimal handle small, id_of-hex_of id is) refl

  pub item_of-find : item_of (line_of (codes "find" ∷ decimal handle ∷ hex_of id ∷ [])) ≡ items.Play (One (steps.Start handle (calls.Find id)))
  unfolding word_of
  item_of-find = asked 102 (codes "ind") wants.Object refl (IsField-word (codes "find") refl refl) refl

  pub item_of-header : item_of (line_of (codes "header" ∷ decimal handle ∷ hex_of id ∷ [])) ≡ items.Play (One (steps.Start handle (calls.Header id)))
  unfolding word_of
  item_of-header = asked 104 (codes "eader") wants.Header refl (IsField-word (codes "header") refl refl) refl

  pub item_of-test : item_of (line_of (codes "test" ∷ decimal handle ∷ hex_of id ∷ [])) ≡ items.Play (One (steps.Start handle (calls.Test id)))
  unfolding word_of
  item_of-test = asked 116 (codes "est") wants.Presence refl (IsField-word (codes "test") refl refl) refl

-- writes of data that are spelled as a field
IsField-kind_word : (kind : Kind) → IsField (kind_word kind)
IsField-kind_word Commit = IsField-word (codes "commit") refl refl
IsField-kind_word Tree = IsField-word (codes "tree") refl refl
IsField-kind_word Blob = IsField-word (codes "blob") refl refl
IsField-kind_word Tag = IsField-word (codes "tag") refl refl

module _ (handle : ℕ) (kind : Kind) (digits bytes : List ℕ) (small : handle < 2 ^ 32) (field : IsField digits) (spelled : data_of digits ≡ Some bytes) where
  pub item_of-write : item_of (line_of (codes "write" ∷ decimal handle ∷ kind_word kind ∷ digits ∷ [])) ≡ items.Play (One (steps.Start handle (calls.Write kind (length bytes) bytes None)))
  unfolding word_of line_item
  item_of-write =
      item_of-line_of 119 (codes "rite") (decimal handle ∷ kind_word kind ∷ digits ∷ []) refl
      (IsField-word (codes "write") refl refl, (IsField-decimal handle (omega arith), (IsField-kind_word kind, (field, tt))))
      ∙ rw (handle_of-decimal handle small, kind_of_word-kind_word kind, spelled) refl

  pub item_of-stream : (size : ℕ) → size < 2 ^ 64 → item_of (line_of (codes "stream" ∷ decimal handle ∷ kind_word kind ∷ decimal size ∷ digits ∷ []))
      ≡ items.Play (One (steps.Start handle (calls.Write kind size bytes None)))
  unfolding word_of line_item
  item_of-stream size fits =
      item_of-line_of 115 (codes "tream") (decimal handle ∷ kind_word kind ∷ decimal size ∷ digits ∷ []) refl
      (IsField-word (codes "stream") refl refl, (IsField-decimal handle (omega arith), (IsField-kind_word kind, (IsField-decimal size fits, (field, tt)))))
      ∙ rw (handle_of-decimal handle small, kind_of_word-kind_word kind, number_of-decimal size fits, spelled) refl

  pub item_of-writeas : (id : ObjectId) → IsId id → item_of (line_of (codes "writeas" ∷ decimal handle ∷ kind_word kind ∷ hex_of id ∷ digits ∷ [])) ≡ items.Play
      (One (steps.Start handle (calls.Write kind (length bytes) bytes (Some id))))
  unfolding word_of line_item
  item_of-writeas id is =
      item_of-line_of 119 (codes "riteas") (decimal handle ∷ kind_word kind ∷ hex_of id ∷ digits ∷ []) refl
      (IsField-word (codes "writeas") refl refl, (IsField-decimal handle (omega arith), (IsField-kind_word kind, (IsField-hex_of id is, (field, tt)))))
      ∙ rw (handle_of-decimal handle small, kind_of_word-kind_word kind, id_of-hex_of id is, spelled) refl
