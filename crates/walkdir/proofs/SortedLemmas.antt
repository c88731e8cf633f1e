-- Laws of children in order: their failures and their depths are those of the children.
use Rattle.std.proofs.Common.{◌≡◌, ℕ, List, [], ◌∷◌, ◌++◌, map, Ok, Err, refl, sym, ap, subst, arith}
use Rattle.std.specs.List.{All, filter_map}
use Rattle.std.specs.Result.{result_ok}
use Rattle.std.proofs.lemmas.List.Elements.{All-cons, All-head, All-nil, All-tail}
use Rattle.std.proofs.lemmas.List.Sorted.{All-permutation}
use Rattle.walkdir.specs.Failures.{failures_among}
use Rattle.odb_base.specs.Path.{Path}
use Rattle.walkdir.specs.Directory.{AreAt, IsAt}
use Rattle.walkdir.specs.Walk.Children.{IsInOrder, error_in}
use Rattle.walkdir.specs.Walk.{Item, Order}
use Rattle.walkdir.specs.declared.dent.DirEntry.{DirEntry}
use Rattle.walkdir.proofs.FailuresLaws.{failures-append}

errors_fail : (given : List Item) → failures_among (filter_map error_in given) ≡ failures_among given
errors_fail [] = refl
errors_fail (Ok entry ∷ given) = let rest = errors_fail given in omega arith
errors_fail (Err error ∷ given) = let rest = errors_fail given in omega arith

entries_fail : (entries : List DirEntry) → failures_among (map Ok entries) ≡ 0
entries_fail [] = refl
entries_fail (entry ∷ entries) = let rest = entries_fail entries in omega arith

pub ordered_failures : (order : Order) (given children : List Item) → IsInOrder order given children → failures_among children ≡ failures_among given
ordered_failures order given children ordered =
    let all : failures_among children ≡ failures_among (filter_map error_in given ++ map Ok ordered.entries) = ap failures_among ordered.is in
    let parts = failures-append (filter_map error_in given) (map Ok ordered.entries) in
    let errors = errors_fail given in
    let entries = entries_fail ordered.entries in
    omega arith

at-append : (path : Path) (depth : ℕ) (items more : List Item) → AreAt path depth items → AreAt path depth more → AreAt path depth (items ++ more)
at-append path depth [] more first second = second
at-append path depth (item ∷ items) more first second = (first.0, at-append path depth items more first.1 second)

errors_at : (path : Path) (depth : ℕ) (given : List Item) → AreAt path depth given → AreAt path depth (filter_map error_in given)
errors_at path depth [] all = tt
errors_at path depth (Ok entry ∷ given) all = errors_at path depth given all.1
errors_at path depth (Err error ∷ given) all = (all.0, errors_at path depth given all.1)

-- an entry is a child of the directory at this path
IsChildAt : Path → ℕ → DirEntry → Type 0
IsChildAt path depth entry = IsAt path depth (Ok entry)

entries_at : (path : Path) (depth : ℕ) (given : List Item) → AreAt path depth given → All (IsChildAt path depth) (filter_map result_ok given)
unfolding IsChildAt
entries_at path depth [] all = All-nil (IsChildAt path depth)
entries_at path depth (Ok entry ∷ given) all =
    All-cons (IsChildAt path depth) entry (filter_map result_ok given) all.0 (entries_at path depth given all.1)
entries_at path depth (Err error ∷ given) all = entries_at path depth given all.1

all_at : (path : Path) (depth : ℕ) (entries : List DirEntry) → All (IsChildAt path depth) entries → AreAt path depth (map Ok entries)
unfolding IsChildAt
all_at path depth [] all = tt
all_at path depth (entry ∷ entries) all =
    (All-head (IsChildAt path depth) entry entries all, all_at path depth entries (All-tail (IsChildAt path depth) entry entries all))

pub ordered_at : (path : Path) (depth : ℕ) (order : Order) (given children : List Item) → IsInOrder order given children → AreAt path depth given
    → AreAt path depth children
ordered_at path depth order given children ordered all =
    subst (AreAt path depth) (sym ordered.is)
    (at-append path depth (filter_map error_in given) (map Ok ordered.entries) (errors_at path depth given all)
    (all_at path depth ordered.entries (All-permutation (IsChildAt path depth) (filter_map result_ok given) ordered.entries ordered.sorted.same
    (entries_at path depth given all))))
