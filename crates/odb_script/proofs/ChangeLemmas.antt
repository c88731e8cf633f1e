-- Laws of lines that change the disk: what is spelled is read.
use Rattle.std.proofs.Common.{◌≡◌, ℕ, ◌^◌, ◌<◌, true, List, [], ◌∷◌, codes, Some, refl, ◌∙◌}
use Rattle.std.specs.Fmt.{decimal}
use Rattle.std.specs.List.{list_all}
use Rattle.odb_base.proofs.DecimalLemmas.{number_of-decimal}
use Rattle.odb_base.specs.Path.{Path, is_name, text_of}
use Rattle.odb_base.specs.PathLaws.{path_of-text_of}
use Rattle.odb_disk.specs.declared.change.Change.TheVariants as changes
use Rattle.gix_odb_calls.specs.declared.step.Step.TheVariants as steps
use Rattle.gix_odb_calls.specs.declared.line.Line.TheVariants.{One}
use Rattle.odb_script.specs.declared.item.Item.TheVariants as items
use Rattle.odb_script.specs.Word.{word_of, change_word_of}
use Rattle.odb_script.specs.Content.{content_of}
use Rattle.odb_script.specs.Change.{change_of}
use Rattle.odb_script.specs.Line.{line_item, item_of}
use Rattle.odb_script.proofs.LineLemmas.{IsField, IsField-word, IsField-decimal, line_of, item_of-line_of}

-- ---- the setup

pub item_of-mkdir : (path : Path) → list_all is_name path ≡ true → IsField (text_of path) → item_of (line_of (codes "mkdir" ∷ text_of path ∷ [])) ≡ items.Setup (changes.MakeDir path 0)
unfolding word_of line_item change_of
item_of-mkdir path names field =
    item_of-line_of 109 (codes "kdir") (text_of path ∷ []) refl (IsField-word (codes "mkdir") refl refl, (field, tt))
    ∙ rw (path_of-text_of path names) refl

-- contents are put as they are
pub item_of-put : (path : Path) (time : ℕ) (content bytes : List ℕ) → list_all is_name path ≡ true → IsField (text_of path) → time < 2 ^ 64 → IsField content
    → content_of content ≡ Some bytes → item_of (line_of (codes "put" ∷ text_of path ∷ decimal time ∷ content ∷ [])) ≡ items.Setup (changes.PutFile path time bytes)
unfolding word_of line_item change_of
item_of-put path time content bytes names field small content_field spelled =
    item_of-line_of 112 (codes "ut") (text_of path ∷ decimal time ∷ content ∷ []) refl (IsField-word (codes "put") refl refl, (field, (IsField-decimal time small, (content_field, tt))))
    ∙ rw (path_of-text_of path names, number_of-decimal time small, spelled) refl

pub item_of-link : (path target : Path) → list_all is_name path ≡ true → list_all is_name target ≡ true → IsField (text_of path) → IsField (text_of target)
    → item_of (line_of (codes "link" ∷ text_of path ∷ text_of target ∷ [])) ≡ items.Setup (changes.PutLink path target)
unfolding word_of line_item change_of
item_of-link path target names others field other =
    item_of-line_of 108 (codes "ink") (text_of path ∷ text_of target ∷ []) refl (IsField-word (codes "link") refl refl, (field, (other, tt)))
    ∙ rw (path_of-text_of path names, path_of-text_of target others) refl

-- ---- changes of another program

pub item_of-remove : (path : Path) → list_all is_name path ≡ true → IsField (text_of path)
    → item_of (line_of (codes "do" ∷ codes "remove" ∷ text_of path ∷ [])) ≡ items.Play (One (steps.Disk (changes.Remove path)))
unfolding word_of change_word_of line_item change_of
item_of-remove path names field =
    item_of-line_of 100 (codes "o") (codes "remove" ∷ text_of path ∷ []) refl (IsField-word (codes "do") refl refl, (IsField-word (codes "remove") refl refl, (field, tt)))
    ∙ rw (path_of-text_of path names) refl

pub item_of-rename : (path to : Path) → list_all is_name path ≡ true → list_all is_name to ≡ true → IsField (text_of path) → IsField (text_of to)
    → item_of (line_of (codes "do" ∷ codes "rename" ∷ text_of path ∷ text_of to ∷ [])) ≡ items.Play (One (steps.Disk (changes.Rename path to)))
unfolding word_of change_word_of line_item change_of
item_of-rename path to names others field other =
    item_of-line_of 100 (codes "o") (codes "rename" ∷ text_of path ∷ text_of to ∷ []) refl (IsField-word (codes "do") refl refl, (IsField-word (codes "rename") refl refl, (field, (other, tt))))
    ∙ rw (path_of-text_of path names, path_of-text_of to others) refl

pub item_of-do_link : (path target : Path) → list_all is_name path ≡ true → list_all is_name target ≡ true → IsField (text_of path) → IsField (text_of target)
    → item_of (line_of (codes "do" ∷ codes "link" ∷ text_of path ∷ text_of target ∷ [])) ≡ items.Play (One (steps.Disk (changes.PutLink path target)))
unfolding word_of change_word_of line_item change_of
item_of-do_link path target names others field other =
    item_of-line_of 100 (codes "o") (codes "link" ∷ text_of path ∷ text_of target ∷ []) refl (IsField-word (codes "do") refl refl, (IsField-word (codes "link") refl refl, (field, (other, tt))))
    ∙ rw (path_of-text_of path names, path_of-text_of target others) refl

pub item_of-time : (path : Path) (time : ℕ) → list_all is_name path ≡ true → IsField (text_of path) → time < 2 ^ 64
    → item_of (line_of (codes "do" ∷ codes "time" ∷ text_of path ∷ decimal time ∷ [])) ≡ items.Play (One (steps.Disk (changes.SetTime path time)))
unfolding word_of change_word_of line_item change_of
item_of-time path time names field small =
    item_of-line_of 100 (codes "o") (codes "time" ∷ text_of path ∷ decimal time ∷ []) refl
    (IsField-word (codes "do") refl refl, (IsField-word (codes "time") refl refl, (field, (IsField-decimal time small, tt))))
    ∙ rw (path_of-text_of path names, number_of-decimal time small) refl
