-- What the words of the command line ask for: folders and options, in any order.
use Rattle.std.specs.Prelude.{ℕ, ◌==◌, Bool, true, false, List, [], ◌∷◌, ◌++◌, codes, nat_eq, Option, Some, None, Result, Ok, Err, if◌then◌else◌}
use Rattle.std.specs.List.{before_first, after_first, starts_with}
use Rattle.odb_base.specs.Decimal.{number_of}
use Rattle.odb_base.specs.Path.{Path, same_name}
use Rattle.list_walk.specs.Folder.{folder_of}
use Rattle.list_walk.specs.Told.{told_of}
use Rattle.list_walk.specs.declared.misread.Misread.{Misread}
use Rattle.list_walk.specs.declared.misread.Misread.TheVariants.{NoFolderNamed, NoSuchOption, NoNumber}
use Rattle.list_walk.specs.declared.words.Asked.{Asked}
use Rattle.list_walk.specs.declared.words.Choices.{Choices}
use Rattle.list_walk.specs.declared.words.Count.{Count}
use Rattle.list_walk.specs.declared.words.Count.TheVariants.{MaxOpen, MinDepth, MaxDepth}
use Rattle.list_walk.specs.declared.words.Next.{Next}
use Rattle.list_walk.specs.declared.words.Next.TheVariants.{Any, Number, Folder}
use Rattle.list_walk.specs.declared.words.Words.{Words}

abbrev pub no_choices : Choices
no_choices = record {
  follow = false;
  sort = false;
  contents_first = false;
  same_file_system = false;
  nul = false;
  max_open = None;
  min_depth = None;
  max_depth = None;
}

-- ---- the choices with one more option

-- an option without a number
unfoldable pub flagged : Choices → List ℕ → Option Choices
flagged choices word =
    if same_name word (codes "--follow") then Some (record choices { follow = true })
    else if same_name word (codes "--sort") then Some (record choices { sort = true })
    else if same_name word (codes "--contents-first") then Some (record choices { contents_first = true })
    else if same_name word (codes "--same-file-system") then Some (record choices { same_file_system = true })
    else if same_name word (codes "-0") then Some (record choices { nul = true })
    else None

-- an option with a number
unfoldable pub count_of : List ℕ → Option Count
count_of word =
    if same_name word (codes "--max-open") then Some MaxOpen
    else if same_name word (codes "--min-depth") then Some MinDepth
    else if same_name word (codes "--max-depth") then Some MaxDepth
    else None

-- if an option is repeated the last one counts
abbrev pub counted : Choices → Count → ℕ → Choices
counted choices MaxOpen number = record choices { max_open = Some number }
counted choices MinDepth number = record choices { min_depth = Some number }
counted choices MaxDepth number = record choices { max_depth = Some number }

-- ---- the words with one more

abbrev pub no_words : Words
no_words = record { folders = []; choices = no_choices; next = Any }

abbrev pub with_folder : Words → Result Path Misread → Result Words Misread
with_folder words (Err why) = Err why
with_folder words (Ok path) = Ok (record words { folders = words.folders ++ path ∷ [] })

-- the number of an option, after which any word may follow again
abbrev pub with_number : Words → Count → Option ℕ → Result Words Misread
with_number words count None = Err (NoNumber count)
with_number words count (Some number) = Ok (record words { choices = counted words.choices count number; next = Any })

-- an option whose number follows `=`
abbrev pub with_value_of : Words → Option Count → List ℕ → Result Words Misread
with_value_of words None value = Err NoSuchOption
with_value_of words (Some count) value = with_number words count (number_of value)

abbrev pub with_value : Words → List ℕ → List ℕ → Result Words Misread
with_value words name value = with_value_of words (count_of name) value

-- an option whose number is the next word
abbrev pub with_count : Words → List ℕ → Option Count → Result Words Misread
with_count words word (Some count) = Ok (record words { next = Number count })
with_count words word None = with_value words (before_first (λ b. b == 61) word) (after_first (λ b. b == 61) word)

abbrev pub with_flag : Words → List ℕ → Option Choices → Result Words Misread
with_flag words word (Some choices) = Ok (record words { choices = choices })
with_flag words word None = with_count words word (count_of word)

-- after `--` each word is a folder
abbrev pub with_option : Words → List ℕ → Result Words Misread
with_option words word =
    if same_name word (codes "--") then Ok (record words { next = Folder }) else with_flag words word (flagged words.choices word)

-- whether a word is an option: it begins with `-`
abbrev pub is_option : List ℕ → Bool
is_option word = starts_with nat_eq word (codes "-")

abbrev pub with_any : Option Path → Words → List ℕ → Result Words Misread
with_any home words word = if is_option word then with_option words word else with_folder words (folder_of home word)

-- by what the word may be
abbrev pub with_word : Option Path → Next → Words → List ℕ → Result Words Misread
with_word home Any words word = with_any home words word
with_word home (Number count) words word = with_number words count (number_of word)
with_word home Folder words word = with_folder words (folder_of home word)

abbrev pub read_on : (Words → Result Words (List ℕ)) → List ℕ → Result Words Misread → Result Words (List ℕ)
read_on further word (Err why) = Err (told_of why word)
read_on further word (Ok words) = further words

-- words one after the other, up to the first that isn't understood, with the message on it
unfoldable pub words_of : Option Path → Words → List (List ℕ) → Result Words (List ℕ)
words_of home read [] = Ok read
words_of home read (word ∷ words) = read_on (λ more. words_of home more words) word (with_word home read.next read word)

-- ---- what they ask

-- no number may be missing
abbrev pub asked_by_next : Next → List Path → Choices → Result Asked Misread
asked_by_next Any folders choices = Ok (record { folders = folders; choices = choices })
asked_by_next Folder folders choices = Ok (record { folders = folders; choices = choices })
asked_by_next (Number count) folders choices = Err (NoNumber count)

-- and a folder has to be named
abbrev pub asked_with : Next → List Path → Choices → Result Asked Misread
asked_with next [] choices = Err NoFolderNamed
asked_with next (folder ∷ folders) choices = asked_by_next next (folder ∷ folders) choices

-- or the message on all words together
abbrev pub or_told : Result Asked Misread → Result Asked (List ℕ)
or_told (Err why) = Err (told_of why [])
or_told (Ok asked) = Ok asked

abbrev pub asked_by : Result Words (List ℕ) → Result Asked (List ℕ)
asked_by (Err told) = Err told
asked_by (Ok words) = or_told (asked_with words.next words.folders words.choices)

abbrev pub asked_of : Option Path → List (List ℕ) → Result Asked (List ℕ)
asked_of home words = asked_by (words_of home no_words words)
