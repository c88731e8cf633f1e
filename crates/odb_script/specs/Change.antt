-- Changes of the disk as a word and its fields.
use Rattle.std.specs.Prelude.{ℕ, List, [], ◌∷◌, Option, Some, None}
use Rattle.std.specs.Option.{option_map}
use Rattle.odb_base.specs.Decimal.{number_of}
use Rattle.odb_base.specs.Path.{Path, path_of}
use Rattle.odb_disk.specs.declared.change.Change.{Change}
use Rattle.odb_disk.specs.declared.change.Change.TheVariants as changes
use Rattle.odb_script.specs.declared.word.ChangeWord.{ChangeWord}
use Rattle.odb_script.specs.declared.word.ChangeWord.TheVariants as words
use Rattle.odb_script.specs.Content.{content_of}

-- the device of all directories that a script makes: it has no word for devices
abbrev pub device : ℕ
device = 0

abbrev pub file_of : Option Path → Option ℕ → Option (List ℕ) → Option Change
file_of None time content = None
file_of (Some path) None content = None
file_of (Some path) (Some time) None = None
file_of (Some path) (Some time) (Some bytes) = Some (changes.PutFile path time bytes)

abbrev pub between : (Path → Path → Change) → Option Path → Option Path → Option Change
between change None to = None
between change (Some from) to = option_map (change from) to

abbrev pub time_of : Option Path → Option ℕ → Option Change
time_of None time = None
time_of (Some path) time = option_map (changes.SetTime path) time

-- the change that a word and the fields after it spell, if they spell one
unfoldable pub change_of : ChangeWord → List (List ℕ) → Option Change
change_of words.Mkdir (path ∷ []) = option_map (λ p. changes.MakeDir p device) (path_of path)
change_of words.Put (path ∷ time ∷ content ∷ []) = file_of (path_of path) (number_of time) (content_of content)
change_of words.Link (path ∷ target ∷ []) = between changes.PutLink (path_of path) (path_of target)
change_of words.Rename (from ∷ to ∷ []) = between changes.Rename (path_of from) (path_of to)
change_of words.Remove (path ∷ []) = option_map changes.Remove (path_of path)
change_of words.Time (path ∷ time ∷ []) = time_of (path_of path) (number_of time)
change_of word fields = None
