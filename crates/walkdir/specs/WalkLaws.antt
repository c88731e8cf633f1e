-- What holds of every walk: without failures it is one list, however many directories may be open.
use Rattle.std.specs.Prelude.{◌≡◌, ℕ, List, IfSome}
use Rattle.std.specs.Cmp.{IsTotalOrder}
use Rattle.walkdir.specs.Failures.{failures_among}
use Rattle.walkdir.specs.Walk.{Walking, Item, IsWalk}

-- the walk, with at most so many directories open
unfoldable pub with_most : Walking → ℕ → Walking
with_most walk most = record walk { options = record walk.options { max_open = most } }

-- Two lists that a walk gives, neither with a failure of the disk, are the same list.
abbrev pub GivesOneList : Walking → Type 0
GivesOneList walk =
    IfSome walk.order IsTotalOrder → (items others : List Item) → IsWalk walk items → IsWalk walk others → failures_among items ≡ 0
    → failures_among others ≡ 0 → items ≡ others

-- Two walks give the same list, if neither has a failure of the disk.
abbrev pub GiveOneList : Walking → Walking → Type 0
GiveOneList walk other =
    IfSome walk.order IsTotalOrder → (items others : List Item) → IsWalk walk items → IsWalk other others → failures_among items ≡ 0
    → failures_among others ≡ 0 → items ≡ others

-- A walk gives one list for any number of directories that may be open.
abbrev pub IsSameForAnyMost : Walking → Type 0
IsSameForAnyMost walk =
    IfSome walk.order IsTotalOrder → (most other : ℕ) (items others : List Item) → IsWalk (with_most walk most) items
    → IsWalk (with_most walk other) others → failures_among items ≡ 0
    → failures_among others ≡ 0 → items ≡ others
