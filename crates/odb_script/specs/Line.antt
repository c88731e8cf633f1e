-- What one line of a script says. Fields are separated by single spaces.
use Rattle.std.specs.Prelude.{ℕ, ◌==◌, Bool, true, List, [], ◌∷◌, length, Option, Some, None, if◌then◌else◌}
use Rattle.std.specs.Str.{is_utf8}
use Rattle.odb_base.specs.Decimal.{number_of}
use Rattle.odb_disk.specs.declared.change.Change.{Change}
use Rattle.gix_hash.specs.ObjectId.{id_of}
use Rattle.gix_hash.specs.declared.object_id.ObjectId.{ObjectId}
use Rattle.gix_object.specs.Kind.{kind_of_word}
use Rattle.gix_object.specs.declared.kind.Kind.{Kind}
use Rattle.gix_odb_calls.specs.declared.call.Call.{Call}
use Rattle.gix_odb_calls.specs.declared.call.Call.TheVariants as calls
use Rattle.gix_odb_calls.specs.declared.step.Step.{Step}
use Rattle.gix_odb_calls.specs.declared.step.Step.TheVariants as steps
use Rattle.gix_odb_calls.specs.declared.line.Line.TheVariants.{One, Finish}
use Rattle.odb_script.specs.declared.item.Item.{Item}
use Rattle.odb_script.specs.declared.item.Item.TheVariants as items
use Rattle.odb_script.specs.declared.word.ChangeWord.{ChangeWord}
use Rattle.odb_script.specs.declared.word.ChangeWord.TheVariants as change_words
use Rattle.odb_script.specs.declared.word.Word.{Word}
use Rattle.odb_script.specs.declared.word.Word.TheVariants as words
pub use Rattle.gix_odb_calls.specs.Query.{call_for}
pub use Rattle.odb_script.specs.Split.{Fields, fields_of, texts_of}
use Rattle.odb_script.specs.Word.{word_of, change_word_of}
use Rattle.odb_script.specs.Content.{data_of}
use Rattle.odb_script.specs.Change.{change_of}
use Rattle.odb_script.specs.Opening.{handle_of, open_of}

abbrev pub step_item : Step → Item
step_item step = items.Play (One step)

-- a line that is read, or refused if nothing is
abbrev pub item_or_refused : {A : Type 0} → (A → Item) → Option A → Item
item_or_refused item None = items.Refused
item_or_refused item (Some read) = item read

-- a change of the setup, and one of another program while the steps are played
abbrev pub setup_item : Option Change → Item
setup_item change = item_or_refused items.Setup change

abbrev pub outside_item : Option Change → Item
outside_item change = item_or_refused (λ c. step_item (steps.Disk c)) change

-- such a change by the word after `do` and the fields after it
abbrev pub changed_item : Option ChangeWord → Fields → Item
changed_item None fields = items.Refused
changed_item (Some word) fields = outside_item (change_of word fields)

-- the handle of a line whose one field names it
abbrev pub one_handle : Fields → Option ℕ
one_handle (handle ∷ []) = handle_of handle
one_handle fields = None

-- a line of the handle that its one field names
abbrev pub for_handle : (ℕ → Item) → Fields → Item
for_handle item fields = item_or_refused item (one_handle fields)

-- one more handle on the store of another
abbrev pub clone_of : (handle from : Option ℕ) → Item
clone_of (Some handle) (Some from) = step_item (steps.Clone handle from)
clone_of handle from = items.Refused

-- the start of a call on an id
abbrev pub start_of : (ObjectId → Call) → Option ℕ → Option ObjectId → Item
start_of call None id = items.Refused
start_of call (Some handle) None = items.Refused
start_of call (Some handle) (Some id) = step_item (steps.Start handle (call id))

-- the number of bytes of data
abbrev pub size_of : Option (List ℕ) → Option ℕ
size_of None = None
size_of (Some bytes) = Some (length bytes)

-- the start of a write of data with a given size
abbrev pub write_of : Option ℕ → Option Kind → Option ℕ → Option (List ℕ) → Option ObjectId → Item
write_of None kind size bytes id = items.Refused
write_of (Some handle) None size bytes id = items.Refused
write_of (Some handle) (Some kind) None bytes id = items.Refused
write_of (Some handle) (Some kind) (Some size) None id = items.Refused
write_of (Some handle) (Some kind) (Some size) (Some bytes) id = step_item (steps.Start handle (calls.Write kind size bytes id))

-- the start of a write under an id that is known
abbrev pub write_under : Option ℕ → Option Kind → Option ObjectId → Option (List ℕ) → Item
write_under handle kind None bytes = items.Refused
write_under handle kind (Some id) bytes = write_of handle kind (size_of bytes) bytes (Some id)

-- a line by its first word and the fields after it
unfoldable pub line_item : Option Word → Fields → Item
line_item None fields = items.Refused
line_item (Some words.NotBuilt) fields = items.NotBuilt
line_item (Some words.Fail) (number ∷ []) = item_or_refused items.Fail (number_of number)
line_item (Some words.Mkdir) fields = setup_item (change_of change_words.Mkdir fields)
line_item (Some words.Put) fields = setup_item (change_of change_words.Put fields)
line_item (Some words.Link) fields = setup_item (change_of change_words.Link fields)
line_item (Some words.Steps) [] = items.Steps
line_item (Some words.Open) (handle ∷ path ∷ options) = open_of handle path options
line_item (Some words.Clone) (handle ∷ from ∷ []) = clone_of (handle_of handle) (handle_of from)
line_item (Some words.Close) fields = for_handle (λ h. step_item (steps.Close h)) fields
line_item (Some words.Never) fields = for_handle (λ h. step_item (steps.Never h)) fields
line_item (Some words.Ignore) fields = for_handle (λ h. step_item (steps.Ignore h)) fields
line_item (Some (words.Ask want)) (handle ∷ id ∷ []) = start_of (call_for want) (handle_of handle) (id_of id)
line_item (Some words.Write) (handle ∷ kind ∷ digits ∷ []) =
    write_of (handle_of handle) (kind_of_word kind) (size_of (data_of digits)) (data_of digits) None
line_item (Some words.Stream) (handle ∷ kind ∷ size ∷ digits ∷ []) =
    write_of (handle_of handle) (kind_of_word kind) (number_of size) (data_of digits) None
line_item (Some words.WriteAs) (handle ∷ kind ∷ id ∷ digits ∷ []) =
    write_under (handle_of handle) (kind_of_word kind) (id_of id) (data_of digits)
line_item (Some words.Turn) fields = for_handle (λ h. step_item (steps.Turn h)) fields
line_item (Some words.Finish) fields = for_handle (λ h. items.Play (Finish h)) fields
line_item (Some words.Do) (word ∷ fields) = changed_item (change_word_of word) fields
line_item (Some word) fields = items.Refused

abbrev pub fields_item : Fields → Item
fields_item [] = items.Blank
fields_item (word ∷ fields) = line_item (word_of word) fields

-- `#`, with which a comment begins
abbrev pub comment : ℕ
comment = 35

-- an empty line, or one that begins with `#`
abbrev pub is_blank : List ℕ → Bool
is_blank [] = true
is_blank (first ∷ rest) = first == comment

-- what a line says: a blank one nothing, and any other has to be text
unfoldable pub item_of : List ℕ → Item
item_of line =
    if is_blank line then items.Blank
    else if is_utf8 line then fields_item (fields_of line)
    else items.Refused
