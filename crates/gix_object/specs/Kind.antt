-- The kinds of objects, and the words for them.
use Rattle.std.specs.Prelude.{ℕ, List, codes, nat_eq, Option, Some, None, if◌then◌else◌}
use lib.Pointwise.{pointwise}
use Rattle.gix_object.specs.declared.kind.Kind.{Kind}
use Rattle.gix_object.specs.declared.kind.Kind.TheVariants.{Commit, Tree, Blob, Tag}

-- the word for a kind
abbrev pub kind_word : Kind → List ℕ
kind_word Commit = codes "commit"
kind_word Tree = codes "tree"
kind_word Blob = codes "blob"
kind_word Tag = codes "tag"

-- the kind that a word names
unfoldable pub kind_of_word : List ℕ → Option Kind
kind_of_word word =
    if pointwise nat_eq word (codes "commit") then Some Commit
    else if pointwise nat_eq word (codes "tree") then Some Tree
    else if pointwise nat_eq word (codes "blob") then Some Blob
    else if pointwise nat_eq word (codes "tag") then Some Tag
    else None
