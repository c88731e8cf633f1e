-- A line that is outside the language has a field that is wrong, or isn't text.
use Rattle.std.proofs.Common.{◌≡◌, ◌≢◌, ℕ, Bool, true, false, List, [], ◌∷◌, Option, Some, None, refl}
use Rattle.std.specs.Str.{is_utf8}
use Rattle.odb_base.specs.Decimal.{number_of}
use Rattle.gix_hash.specs.ObjectId.{id_of}
use Rattle.gix_hash.specs.declared.object_id.ObjectId.{ObjectId}
use Rattle.gix_object.specs.Kind.{kind_of_word}
use Rattle.gix_object.specs.declared.kind.Kind.{Kind}
use Rattle.gix_object.specs.declared.want.Want.{Want}
use Rattle.odb_script.specs.Content.{data_of}
use Rattle.odb_script.specs.Line.{call_for, changed_item, fields_item, fields_of, is_blank, for_handle, item_of, line_item, start_of, write_under}
use Rattle.odb_script.specs.Opening.{handle_of}
use Rattle.odb_script.specs.Split.{Fields}
use Rattle.odb_script.specs.Word.{change_word_of, word_of}
use Rattle.odb_script.specs.declared.item.Item.{Item}
use Rattle.odb_script.specs.declared.item.Item.TheVariants as items
use Rattle.odb_script.specs.declared.word.ChangeWord.{ChangeWord}
use Rattle.odb_script.specs.declared.word.ChangeWord.TheVariants as changes
use Rattle.odb_script.specs.declared.word.Word.{Word}
use Rattle.odb_script.specs.declared.word.Word.TheVariants as words
use Rattle.odb_script.specs.Expected.{expected_of, expected_of_change}
use Rattle.odb_script.specs.Fault.{fault_behind, fault_in, fault_of_change}
use Rattle.odb_script.specs.Reason.{by_fault, line_reason}
use Rattle.odb_script.specs.declared.expected.Expected.TheVariants.{Handle}
use Rattle.odb_script.specs.declared.fault.Fault.{Fault}
use Rattle.odb_script.specs.declared.reason.Reason.TheVariants.{OutOfPlace}
use Rattle.odb_script.proofs.SpelledLemmas.{AllSpelled, all_spelled, outside, set_up, some_is}
use Rattle.odb_script.proofs.ReasonOpeningLemmas.{no_handle, no_path, opening_spelled, opens}

-- ---- lines

one : (item : ℕ → Item) (fields : Fields) → ((handle : ℕ) → item handle ≢ items.Refused) → AllSpelled (Handle ∷ []) fields → for_handle item fields ≢ items.Refused
one item [] other all h = absurd all
one item (handle ∷ []) other all h = let is = some_is (handle_of handle) all.0 in other is.0 (rw is.1 at h)
one item (handle ∷ more ∷ rest) other all h = absurd all.1

asked : (want : Want) (handle : ℕ) (id : ObjectId) → start_of (call_for want) (Some handle) (Some id) ≢ items.Refused
asked want handle id h = cc h

known : (handle : ℕ) (kind : Kind) (id : ObjectId) (bytes : List ℕ) → write_under (Some handle) (Some kind) (Some id) (Some bytes) ≢ items.Refused
known handle kind id bytes h = cc h

-- a line whose fields have no fault isn't outside the language
no_fault : (word : Option Word) (fields : Fields) → fault_behind word fields ≡ None → line_item word fields ≢ items.Refused
unfolding line_item
no_fault None fields none h = cc none
no_fault (Some words.NotBuilt) fields none h = cc h
no_fault (Some words.Fail) fields none h = number fields (all_spelled (expected_of words.Fail) fields 2 none) h
  where
    number : (fields : Fields) → AllSpelled (expected_of words.Fail) fields → line_item (Some words.Fail) fields ≢ items.Refused
    number [] all h = absurd all
    number (text ∷ []) all h = let n = some_is (number_of text) all.0 in cc (rw n.1 at h)
    number (text ∷ more ∷ rest) all h = absurd all.1
no_fault (Some words.Mkdir) fields none h = set_up changes.Mkdir fields (all_spelled (expected_of words.Mkdir) fields 2 none) h
no_fault (Some words.Put) fields none h = set_up changes.Put fields (all_spelled (expected_of words.Put) fields 2 none) h
no_fault (Some words.Link) fields none h = set_up changes.Link fields (all_spelled (expected_of words.Link) fields 2 none) h
no_fault (Some words.Steps) [] none h = cc h
no_fault (Some words.Steps) (more ∷ rest) none h = absurd (all_spelled [] (more ∷ rest) 2 none)
no_fault (Some words.Open) [] none h = no_handle none
no_fault (Some words.Open) (handle ∷ []) none h = no_path handle none
no_fault (Some words.Open) (handle ∷ path ∷ options) none h = opens handle path options (opening_spelled handle path options none) h
no_fault (Some words.Clone) fields none h = clone fields (all_spelled (expected_of words.Clone) fields 2 none) h
  where
    clone : (fields : Fields) → AllSpelled (expected_of words.Clone) fields → line_item (Some words.Clone) fields ≢ items.Refused
    clone [] all h = absurd all
    clone (handle ∷ []) all h = absurd all.1
    clone (handle ∷ from ∷ []) all h = let hd = some_is (handle_of handle) all.0 in let f = some_is (handle_of from) all.1.0 in cc (rw (hd.1, f.1) at h)
    clone (handle ∷ from ∷ more ∷ rest) all h = absurd all.1.1
no_fault (Some words.Close) fields none h = one _ fields (λ handle e. cc e) (all_spelled (expected_of words.Close) fields 2 none) h
no_fault (Some words.Never) fields none h = one _ fields (λ handle e. cc e) (all_spelled (expected_of words.Never) fields 2 none) h
no_fault (Some words.Ignore) fields none h = one _ fields (λ handle e. cc e) (all_spelled (expected_of words.Ignore) fields 2 none) h
no_fault (Some (words.Ask want)) fields none h = ask fields (all_spelled (expected_of (words.Ask want)) fields 2 none) h
  where
    ask : (fields : Fields) → AllSpelled (expected_of (words.Ask want)) fields → line_item (Some (words.Ask want)) fields ≢ items.Refused
    ask [] all h = absurd all
    ask (handle ∷ []) all h = absurd all.1
    ask (handle ∷ id ∷ []) all h = let hd = some_is (handle_of handle) all.0 in let i = some_is (id_of id) all.1.0 in asked want hd.0 i.0 (rw (hd.1, i.1) at h)
    ask (handle ∷ id ∷ more ∷ rest) all h = absurd all.1.1
no_fault (Some words.Write) fields none h = write fields (all_spelled (expected_of words.Write) fields 2 none) h
  where
    write : (fields : Fields) → AllSpelled (expected_of words.Write) fields → line_item (Some words.Write) fields ≢ items.Refused
    write [] all h = absurd all
    write (handle ∷ []) all h = absurd all.1
    write (handle ∷ kind ∷ []) all h = absurd all.1.1
    write (handle ∷ kind ∷ digits ∷ []) all h =
        let hd = some_is (handle_of handle) all.0 in let k = some_is (kind_of_word kind) all.1.0 in let d = some_is (data_of digits) all.1.1.0 in cc (rw (hd.1, k.1, d.1) at h)
    write (handle ∷ kind ∷ digits ∷ more ∷ rest) all h = absurd all.1.1.1
no_fault (Some words.Stream) fields none h = stream fields (all_spelled (expected_of words.Stream) fields 2 none) h
  where
    stream : (fields : Fields) → AllSpelled (expected_of words.Stream) fields → line_item (Some words.Stream) fields ≢ items.Refused
    stream [] all h = absurd all
    stream (handle ∷ []) all h = absurd all.1
    stream (handle ∷ kind ∷ []) all h = absurd all.1.1
    stream (handle ∷ kind ∷ size ∷ []) all h = absurd all.1.1.1
    stream (handle ∷ kind ∷ size ∷ digits ∷ []) all h =
        let hd = some_is (handle_of handle) all.0 in let k = some_is (kind_of_word kind) all.1.0 in let s = some_is (number_of size) all.1.1.0 in let d = some_is (data_of digits) all.1.1.1.0 in
        cc (rw (hd.1, k.1, s.1, d.1) at h)
    stream (handle ∷ kind ∷ size ∷ digits ∷ more ∷ rest) all h = absurd all.1.1.1.1
no_fault (Some words.WriteAs) fields none h = writeas fields (all_spelled (expected_of words.WriteAs) fields 2 none) h
  where
    writeas : (fields : Fields) → AllSpelled (expected_of words.WriteAs) fields → line_item (Some words.WriteAs) fields ≢ items.Refused
    writeas [] all h = absurd all
    writeas (handle ∷ []) all h = absurd all.1
    writeas (handle ∷ kind ∷ []) all h = absurd all.1.1
    writeas (handle ∷ kind ∷ id ∷ []) all h = absurd all.1.1.1
    writeas (handle ∷ kind ∷ id ∷ digits ∷ []) all h =
        let hd = some_is (handle_of handle) all.0 in let k = some_is (kind_of_word kind) all.1.0 in let i = some_is (id_of id) all.1.1.0 in let d = some_is (data_of digits) all.1.1.1.0 in
        known hd.0 k.0 i.0 d.0 (rw (hd.1, k.1, i.1, d.1) at h)
    writeas (handle ∷ kind ∷ id ∷ digits ∷ more ∷ rest) all h = absurd all.1.1.1.1
no_fault (Some words.Turn) fields none h = one _ fields (λ handle e. cc e) (all_spelled (expected_of words.Turn) fields 2 none) h
no_fault (Some words.Finish) fields none h = one _ fields (λ handle e. cc e) (all_spelled (expected_of words.Finish) fields 2 none) h
no_fault (Some words.Do) [] none h = cc none
no_fault (Some words.Do) (word ∷ fields) none h = by_word (change_word_of word) none h
  where
    by_word : (found : Option ChangeWord) → fault_of_change found fields ≡ None → changed_item found fields ≢ items.Refused
    by_word None none h = cc none
    by_word (Some word) none h = outside word fields (all_spelled (expected_of_change word) fields 3 none) h

fields_have : (fields : Fields) → fields_item fields ≡ items.Refused → fault_in fields ≢ None
unfolding fault_in
fields_have [] h none = cc h
fields_have (word ∷ fields) h none = no_fault (word_of word) fields none h

-- a line of text that is outside the language has a field that is wrong
pub refused_has_fault : (line : List ℕ) → item_of line ≡ items.Refused → is_utf8 line ≡ true → fault_in (fields_of line) ≢ None
unfolding item_of
refused_has_fault line refused text none = by_test (is_blank line) refl
  where
    by_test : (b : Bool) → is_blank line ≡ b → ⊥
    by_test true e = cc (rw e at refused)
    by_test false e = fields_have (fields_of line) (rw (e, text) at refused) none

field_is : (fault : Option Fault) → fault ≢ None → by_fault fault ≢ OutOfPlace
field_is None some e = some refl
field_is (Some fault) some e = cc e

-- so such a line is never reported as out of place
pub refused_has_reason : (line : List ℕ) → item_of line ≡ items.Refused → line_reason line ≢ OutOfPlace
unfolding line_reason
refused_has_reason line refused e = by_test (is_utf8 line) refl
  where
    by_test : (b : Bool) → is_utf8 line ≡ b → ⊥
    by_test true text = field_is (fault_in (fields_of line)) (refused_has_fault line refused text) (rw text at e)
    by_test false text = cc (rw text at e)
