-- Why words aren't understood, in the words on standard error.
use Rattle.std.specs.Prelude.{ℕ, List, [], ◌∷◌, ◌++◌, codes}
use Rattle.list_walk.specs.declared.misread.Misread.{Misread}
use Rattle.list_walk.specs.declared.misread.Misread.TheVariants.{NoWords, NoFolderNamed, UpBehindName, NoFolder, NoSuchOption, NoNumber}
use Rattle.list_walk.specs.declared.words.Count.{Count}
use Rattle.list_walk.specs.declared.words.Count.TheVariants.{MaxOpen, MinDepth, MaxDepth}

-- the name of an option that has a number
abbrev pub name_of : Count → List ℕ
name_of MaxOpen = codes "--max-open"
name_of MinDepth = codes "--min-depth"
name_of MaxDepth = codes "--max-depth"

-- a word, or a text for an empty one: each word is empty if one of them is no text
abbrev pub or_none : List ℕ → List ℕ
or_none [] = codes "(nothing, or no text)"
or_none (first ∷ rest) = first ∷ rest

-- a word after the message, if there is one
abbrev pub word_behind : List ℕ → List ℕ
word_behind [] = []
word_behind (first ∷ rest) = codes ": " ++ (first ∷ rest)

-- a word, and the hint at help
abbrev pub with_help : List ℕ → List ℕ
with_help word = word ++ codes ": list_walk --help tells which there are"

-- the message, with the first word that isn't understood, if it is one of them
abbrev pub told_of : Misread → List ℕ → List ℕ
told_of NoWords word = codes "no words: list_walk --help tells which there are"
told_of NoFolderNamed word = codes "no folder is named: list_walk --help tells how"
told_of UpBehindName word = codes "`..` behind a name isn't followed: a link may stand in its place"
told_of NoFolder word = codes "no folder: " ++ or_none word
told_of NoSuchOption word = codes "no such option: " ++ with_help word
told_of (NoNumber count) word = codes "no number behind " ++ (name_of count ++ word_behind word)
