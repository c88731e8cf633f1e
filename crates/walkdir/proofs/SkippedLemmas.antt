-- Laws of what is skipped on a stack.
use Rattle.std.proofs.Common.{◌≡◌, ℕ, inl, inr, true, false, List, [], ◌∷◌, ◌++◌, length, Some, refl, sym, subst, ◌∙◌, length-append}
use Rattle.odb_base.specs.Path.{Path}
use Rattle.walkdir.specs.Innermost.{IsSkippedAt, SkipsNone}
use Rattle.walkdir.specs.Directory.{is_skipped, stream_in}
use Rattle.walkdir.specs.declared.directory.DirList.{DirList}
use Rattle.walkdir.specs.declared.directory.Items.{Items}
use Rattle.walkdir.specs.declared.directory.Items.TheVariants.{Opened, Closed, Skipped}

-- a directory with a stream isn't skipped
pub stream_open : (items : Items) (dir : ℕ) → stream_in items ≡ Some dir → is_skipped items ≡ false
stream_open (Opened other) dir is = refl
stream_open (Closed held) dir is = refl
stream_open Skipped dir is = absurd cc

pub skips_same : (old new : List DirList) → new ≡ old → SkipsNone old new
skips_same old new same = λ path depth was. subst (λ (s : List DirList). IsSkippedAt path depth s) same was

pub skips_pushed : (list : DirList) (old new : List DirList) → new ≡ list ∷ old → is_skipped list.items ≡ false → SkipsNone old new
unfolding IsSkippedAt
skips_pushed list old new is unskipped = λ path depth was. elim (subst (λ (s : List DirList). IsSkippedAt path depth s) is was) [
  | inl here ↦ absurd (let no : true ≡ false = sym here.2 ∙ unskipped in cc)
  | inr there ↦ there
]

pub skips_popped : (list : DirList) (old new : List DirList) → old ≡ list ∷ new → SkipsNone old new
unfolding IsSkippedAt
skips_popped list old new was = λ path depth there. subst (λ (s : List DirList). IsSkippedAt path depth s) (sym was) (inr there)

put_skips : (path : Path) (depth : ℕ) (inner : List DirList) (list other : DirList) (outer : List DirList) → other.path ≡ list.path
    → (is_skipped other.items ≡ true → is_skipped list.items ≡ true) → IsSkippedAt path depth (inner ++ other ∷ outer)
    → IsSkippedAt path depth (inner ++ list ∷ outer)
unfolding IsSkippedAt
put_skips path depth [] list other outer same less (inl here) = inl (here.0, sym same ∙ here.1, less here.2)
put_skips path depth [] list other outer same less (inr there) = inr there
put_skips path depth (first ∷ inner) list other outer same less (inl here) =
    let long : length (inner ++ other ∷ outer) ≡ length (inner ++ list ∷ outer) = length-append inner (other ∷ outer)
    ∙ sym (length-append inner (list ∷ outer)) in
    inl (here.0 ∙ long, here.1, here.2)
put_skips path depth (first ∷ inner) list other outer same less (inr there) = inr (put_skips path depth inner list other outer same less there)

pub skips_put : (old new inner : List DirList) (list other : DirList) (outer : List DirList) → old ≡ inner ++ list ∷ outer
    → new ≡ inner ++ other ∷ outer → other.path ≡ list.path
    → (is_skipped other.items ≡ true → is_skipped list.items ≡ true) → SkipsNone old new
skips_put old new inner list other outer was is same less = λ path depth there.
    subst (λ (s : List DirList). IsSkippedAt path depth s) (sym was)
    (put_skips path depth inner list other outer same less (subst (λ (s : List DirList). IsSkippedAt path depth s) is there))

pub none_skipped : (path : Path) (depth : ℕ) (stack : List DirList) → stack ≡ [] → IsSkippedAt path depth stack → ⊥
unfolding IsSkippedAt
none_skipped path depth stack empty was = subst (λ (s : List DirList). IsSkippedAt path depth s) empty was
