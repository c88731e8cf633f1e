-- The words of a script's language.
use Rattle.std.specs.Prelude.{ℕ, Bool, List, [], ◌∷◌, codes, Option, Some, None, if◌then◌else◌}
use Rattle.std.specs.List.{list_any}
use Rattle.odb_base.specs.Path.{same_name}
use Rattle.gix_object.specs.declared.want.Want.TheVariants as wants
use Rattle.odb_script.specs.declared.word.ChangeWord.{ChangeWord}
use Rattle.odb_script.specs.declared.word.ChangeWord.TheVariants as changes
use Rattle.odb_script.specs.declared.word.Word.{Word}
use Rattle.odb_script.specs.declared.word.Word.TheVariants as words

-- whether a text is one of these
abbrev pub is_one_of : List (List ℕ) → List ℕ → Bool
is_one_of texts text = list_any (same_name text) texts

-- words that aren't built yet, with which a line may begin
abbrev pub unbuilt_words : List (List ℕ)
unbuilt_words =
    codes "ids" ∷ codes "upgrade" ∷ codes "prefix" ∷ codes "locate" ∷ codes "entry" ∷ []

-- the word of a step, with which a line may begin
abbrev pub step_word_of : List ℕ → Option Word
step_word_of text =
    if same_name text (codes "open") then Some words.Open
    else if same_name text (codes "clone") then Some words.Clone
    else if same_name text (codes "close") then Some words.Close
    else if same_name text (codes "never") then Some words.Never
    else if same_name text (codes "ignore") then Some words.Ignore
    else if same_name text (codes "find") then Some (words.Ask wants.Object)
    else if same_name text (codes "header") then Some (words.Ask wants.Header)
    else if same_name text (codes "test") then Some (words.Ask wants.Presence)
    else if same_name text (codes "write") then Some words.Write
    else if same_name text (codes "stream") then Some words.Stream
    else if same_name text (codes "writeas") then Some words.WriteAs
    else if same_name text (codes "turn") then Some words.Turn
    else if same_name text (codes "finish") then Some words.Finish
    else if same_name text (codes "do") then Some words.Do
    else if is_one_of unbuilt_words text then Some words.NotBuilt
    else None

-- the word that a line may begin with: of the setup, or of a step
unfoldable pub word_of : List ℕ → Option Word
word_of text =
    if same_name text (codes "fail") then Some words.Fail
    else if same_name text (codes "mkdir") then Some words.Mkdir
    else if same_name text (codes "put") then Some words.Put
    else if same_name text (codes "link") then Some words.Link
    else if same_name text (codes "steps") then Some words.Steps
    else step_word_of text

-- the word that may follow `do`
unfoldable pub change_word_of : List ℕ → Option ChangeWord
change_word_of text =
    if same_name text (codes "mkdir") then Some changes.Mkdir
    else if same_name text (codes "put") then Some changes.Put
    else if same_name text (codes "link") then Some changes.Link
    else if same_name text (codes "rename") then Some changes.Rename
    else if same_name text (codes "remove") then Some changes.Remove
    else if same_name text (codes "time") then Some changes.Time
    else None
