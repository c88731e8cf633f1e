-- What the fields after a word have to be, and whether a field is that.
use Rattle.std.specs.Prelude.{ℕ, Bool, List, [], ◌∷◌, codes, Option, Some, None, is_some}
use Rattle.odb_base.specs.Decimal.{number_of}
use Rattle.odb_base.specs.Path.{path_of}
use Rattle.gix_hash.specs.ObjectId.{id_of}
use Rattle.gix_object.specs.Kind.{kind_of_word}
use Rattle.odb_script.specs.Content.{content_of, data_of}
use Rattle.odb_script.specs.Opening.{choice_of, handle_of}
use Rattle.odb_script.specs.Word.{change_word_of}
use Rattle.odb_script.specs.declared.word.ChangeWord.{ChangeWord}
use Rattle.odb_script.specs.declared.word.ChangeWord.TheVariants as changes
use Rattle.odb_script.specs.declared.word.Word.{Word}
use Rattle.odb_script.specs.declared.word.Word.TheVariants as words
use Rattle.odb_script.specs.declared.expected.Expected.{Expected}
use Rattle.odb_script.specs.declared.expected.Expected.TheVariants.{Handle, Path, Number, Kind, Id, Data, Content, Choice, Change}

-- after a word that follows `do`
abbrev pub expected_of_change : ChangeWord → List Expected
expected_of_change changes.Mkdir = Path ∷ []
expected_of_change changes.Put = Path ∷ Number ∷ Content ∷ []
expected_of_change changes.Link = Path ∷ Path ∷ []
expected_of_change changes.Rename = Path ∷ Path ∷ []
expected_of_change changes.Remove = Path ∷ []
expected_of_change changes.Time = Path ∷ Number ∷ []

-- after a word of a line, except the options of an opening and what follows `do` and its word
abbrev pub expected_of : Word → List Expected
expected_of words.Fail = Number ∷ []
expected_of words.Mkdir = expected_of_change changes.Mkdir
expected_of words.Put = expected_of_change changes.Put
expected_of words.Link = expected_of_change changes.Link
expected_of words.Steps = []
expected_of words.Open = Handle ∷ Path ∷ []
expected_of words.Clone = Handle ∷ Handle ∷ []
expected_of words.Close = Handle ∷ []
expected_of words.Never = Handle ∷ []
expected_of words.Ignore = Handle ∷ []
expected_of (words.Ask want) = Handle ∷ Id ∷ []
expected_of words.Write = Handle ∷ Kind ∷ Data ∷ []
expected_of words.Stream = Handle ∷ Kind ∷ Number ∷ Data ∷ []
expected_of words.WriteAs = Handle ∷ Kind ∷ Id ∷ Data ∷ []
expected_of words.Turn = Handle ∷ []
expected_of words.Finish = Handle ∷ []
expected_of words.Do = Change ∷ []
expected_of words.NotBuilt = []

-- what further fields have to be, if there may be any: options
abbrev pub further_of : Word → Option Expected
further_of words.Open = Some Choice
further_of word = None

-- whether a field is what it has to be: whether a line with it is read
abbrev pub is_spelled : Expected → List ℕ → Bool
is_spelled Handle text = is_some (handle_of text)
is_spelled Path text = is_some (path_of text)
is_spelled Number text = is_some (number_of text)
is_spelled Kind text = is_some (kind_of_word text)
is_spelled Id text = is_some (id_of text)
is_spelled Data text = is_some (data_of text)
is_spelled Content text = is_some (content_of text)
is_spelled Choice text = is_some (choice_of text)
is_spelled Change text = is_some (change_word_of text)

-- in words
abbrev pub name_of : Expected → List ℕ
name_of Handle = codes "a handle"
name_of Path = codes "a path"
name_of Number = codes "a number"
name_of Kind = codes "a kind"
name_of Id = codes "an id"
name_of Data = codes "data"
name_of Content = codes "contents"
name_of Choice = codes "an option"
name_of Change = codes "a change"
