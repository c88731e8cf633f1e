-- Laws of one directory of a stack that gets other contents: what the walk keeps, its failures and what it leaves to do.
use Rattle.std.proofs.Common.{◌≡◌, true, false, ℕ, ◌+◌, ◌*◌, ◌≤◌, List, [], ◌∷◌, ◌++◌, length, reverse, get_or, Option, Some, None, refl, sym, ap, subst, ◌∙◌, arith, length-append}
use lib.Seq.{get_or-append_seam}
use lib.ListN.{length-reverse}
use native.Mathlib.Nat.{mul-le-mul_right}
use Rattle.odb_disk.specs.Streams.{Streams, with_closed}
use Rattle.walkdir.specs.Failures.{Costs, failures_among, failures_left}
use Rattle.walkdir.specs.Progress.{Progress, Keeps}
use Rattle.walkdir.specs.Directory.{held, is_skipped, left_in, stream_in}
use Rattle.walkdir.specs.Stack.{own_streams, weight, work_in}
use Rattle.walkdir.specs.Turns.{GoesOn, TakesWork}
use Rattle.walkdir.specs.Turns.Drawn.{IsDrawn, left_of}
use Rattle.walkdir.specs.Turns.AtIndex.{Puts}
use Rattle.walkdir.specs.declared.directory.DirList.{DirList}
use Rattle.walkdir.specs.declared.directory.Items.{Items}
use Rattle.walkdir.specs.declared.directory.Items.TheVariants.{Opened, Closed, Skipped}
use Rattle.walkdir.proofs.StackLemmas.{reversed_at}
use Rattle.walkdir.proofs.StepLemmas.{Same, goes_put, keeps_closed, keeps_open, keeps_plain}
use Rattle.walkdir.proofs.WorkLemmas.{AllOpen, LeftLess, less_closed, less_same, open_behind, work_less}

pub left_held : (streams : Streams) (items : Items) → stream_in items ≡ None → left_in streams items ≡ length (held items)
left_held streams (Opened dir) none = absurd cc
left_held streams (Closed items) none = refl
left_held streams Skipped none = refl

pub left_stream : (streams : Streams) (items : Items) (dir : ℕ) → stream_in items ≡ Some dir → left_in streams items ≡ left_of streams dir + 1
left_stream streams (Opened other) dir is = ap (λ (o : Option ℕ). left_in streams (dir_of o other)) is
  where
    dir_of : Option ℕ → ℕ → Items
    dir_of None other = Opened other
    dir_of (Some dir) other = Opened dir
left_stream streams (Closed items) dir is = absurd cc
left_stream streams Skipped dir is = absurd cc

pub failures_held : (items : Items) → failures_left items ≡ failures_among (held items)
failures_held (Opened dir) = refl
failures_held (Closed items) = refl
failures_held Skipped = refl

-- the directory at an index is the one that is read there
put_list : (old new : List DirList) (index : ℕ) (items : Items) (list : DirList) (puts : Puts old new index items) → list ≡ get_or old index list
    → puts.list ≡ list
put_list old new index items list puts is =
    sym (is ∙ ap (λ l. get_or l index list) puts.was ∙ ap (λ n. get_or (puts.outer ++ puts.list ∷ puts.inner) n list) (sym puts.at)
    ∙ get_or-append_seam puts.outer puts.list puts.inner list)

-- ---- a child is taken from the innermost directory

weigh_less : (a b w x y : ℕ) → a + 1 ≤ b → x ≤ y → (a + 1) * w + x + w ≤ (b + 1) * w + y
weigh_less a b w x y le more = let p : (a + 1 + 1) * w ≤ (b + 1) * w = mul-le-mul_right w (omega arith) in omega arith

pub takes_work : (old new : Progress) (list other : DirList) (outer : List DirList) (index : ℕ) (streams : Streams) → Same old new
    → old.stack ≡ list ∷ outer → new.stack ≡ other ∷ outer
    → length outer ≡ index → Keeps streams old → LeftLess old.streams new.streams
    → left_in new.streams other.items + 1 ≤ left_in old.streams list.items → TakesWork old new index
unfolding work_in
takes_work old new list other outer index streams same was is at keeps less left =
    let opened : AllOpen (own_streams outer) old.streams.open_dirs =
    open_behind (stream_in list.items) (own_streams outer) old.streams.open_dirs (subst (λ s. AllOpen (own_streams s) old.streams.open_dirs) was
    (keeps_open streams old keeps)) in
    let le : work_in old.options.max_depth new.streams outer ≤ work_in old.options.max_depth old.streams outer =
    work_less old.options.max_depth old.streams new.streams outer opened less in
    let there : work_in old.options.max_depth old.streams old.stack
    ≡ (left_in old.streams list.items + 1) * weight old.options.max_depth (length outer) + work_in old.options.max_depth old.streams outer =
    ap (work_in old.options.max_depth old.streams) was in
    let here : work_in new.options.max_depth new.streams new.stack
    ≡ (left_in new.streams other.items + 1) * weight old.options.max_depth (length outer) + work_in old.options.max_depth new.streams outer =
    ap (λ o. work_in o.max_depth new.streams new.stack) same.options ∙ ap (work_in old.options.max_depth new.streams) is in
    let depth : weight old.options.max_depth (length outer) ≡ weight old.options.max_depth index = ap (weight old.options.max_depth) at in
    let p = weigh_less (left_in new.streams other.items) (left_in old.streams list.items) (weight old.options.max_depth (length outer))
    (work_in old.options.max_depth new.streams outer)
    (work_in old.options.max_depth old.streams outer) left le in
    omega arith

-- ---- one directory has other contents

no_more : (xs : List DirList) → length xs ≡ 0 → xs ≡ []
no_more [] is = refl
no_more (x ∷ xs) is = absurd (omega arith)

module _ (old new : Progress) (before_lists after_lists : List DirList) (index : ℕ) (items : Items) (list : DirList) (same : Same old new)
    (was : old.stack ≡ reverse before_lists)
    (is : new.stack ≡ reverse after_lists) (puts : Puts before_lists after_lists index items) (at : list ≡ get_or before_lists index list) where
  inner : List DirList
  inner = reverse puts.inner

  outer : List DirList
  outer = reverse puts.outer

  other : DirList
  other = record puts.list { items = items }

  was_at : old.stack ≡ inner ++ puts.list ∷ outer
  unfolding inner outer
  was_at = was ∙ ap reverse puts.was ∙ reversed_at puts.outer puts.list puts.inner

  is_at : new.stack ≡ inner ++ other ∷ outer
  unfolding inner outer other
  is_at = is ∙ ap reverse puts.is ∙ reversed_at puts.outer (record puts.list { items = items }) puts.inner

  same_items : puts.list.items ≡ list.items
  same_items = ap (λ (l : DirList). l.items) (put_list before_lists after_lists index items list puts at)

  -- its stream is read on and closed
  pub goes_closed : (dir : ℕ) (mid : Streams) (count given before now : ℕ) → stream_in list.items ≡ Some dir → stream_in items ≡ None
      → IsDrawn old.streams dir mid
      → new.streams ≡ with_closed mid dir → length (held items) ≤ left_of old.streams dir + 1 → given + failures_left items ≤ count
      → Costs count before now
      → is_skipped items ≡ false → GoesOn old before given 0 new now
  unfolding other
  goes_closed dir mid count given before now own none drawn closed few fails costs unskipped =
      let own_at : stream_in puts.list.items ≡ Some dir = ap stream_in same_items ∙ own in
      let left : left_in old.streams puts.list.items ≡ left_of old.streams dir + 1 = left_stream old.streams puts.list.items dir own_at in
      let now_left : left_in new.streams items ≡ length (held items) = left_held new.streams items none in
      goes_put old new inner puts.list other outer count given before now same was_at is_at
      (keeps_closed old new inner puts.list other outer dir mid same was_at is_at own_at none drawn closed)
      (subst (LeftLess old.streams) (sym closed) (less_closed old.streams dir mid drawn)) (omega arith) (omega arith) costs refl
      (λ skipped. absurd (let no : true ≡ false = sym skipped ∙ unskipped in cc))

  -- it has no stream
  pub goes_held : (given before now : ℕ) → stream_in list.items ≡ None → stream_in items ≡ None → new.streams ≡ old.streams
      → length (held items) ≤ length (held list.items)
      → given + failures_left items ≤ failures_left list.items → Costs 0 before now → is_skipped items ≡ is_skipped list.items
      → GoesOn old before given 0 new now
  unfolding other
  goes_held given before now own none streams few fails costs skips =
      let own_at : stream_in puts.list.items ≡ None = ap stream_in same_items ∙ own in
      let left : left_in old.streams puts.list.items ≡ length (held puts.list.items) = left_held old.streams puts.list.items own_at in
      let held_at : length (held puts.list.items) ≡ length (held list.items) = ap (λ i. length (held i)) same_items in
      let failed_at : failures_left puts.list.items ≡ failures_left list.items = ap failures_left same_items in
      let now_left : left_in new.streams items ≡ length (held items) = left_held new.streams items none in
      goes_put old new inner puts.list other outer 0 given before now same was_at is_at
      (keeps_plain old new inner puts.list other outer same was_at is_at own_at none streams)
      (less_same old.streams new.streams (ap (λ (s : Streams). s.open_dirs) streams)) (omega arith) (omega arith) costs refl
      (λ skipped. ap is_skipped same_items ∙ sym skips ∙ skipped)

  -- it is the innermost one, and has one less left
  pub put_takes : (streams : Streams) → index + 1 ≡ length before_lists → Keeps streams old → LeftLess old.streams new.streams
      → left_in new.streams items + 1 ≤ left_in old.streams list.items
      → TakesWork old new index
  unfolding inner outer other
  put_takes streams last keeps less left =
      let long : length before_lists ≡ length puts.outer + length (puts.list ∷ puts.inner) = ap length puts.was
      ∙ length-append puts.outer (puts.list ∷ puts.inner) in
      let front : length puts.outer ≡ index = puts.at in
      let none : reverse puts.inner ≡ [] = ap reverse (no_more puts.inner (omega arith)) in
      let same_left : left_in old.streams puts.list.items ≡ left_in old.streams list.items = ap (left_in old.streams) same_items in
      takes_work old new puts.list other outer index streams same (was_at ∙ ap (λ i. i ++ puts.list ∷ outer) none)
      (is_at ∙ ap (λ i. i ++ other ∷ outer) none)
      (length-reverse puts.outer ∙ puts.at) keeps less (omega arith)
