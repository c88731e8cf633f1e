-- What always holds of a stack, and the test of it.
use Rattle.std.proofs.Common.{◌≡◌, ℕ, ◌+◌, ◌<◌, ◌≤◌, true, false, ◌&&◌, ◌||◌, not, List, [], ◌∷◌, length, reverse, take, Option, Some, None, Ok, Err, IfSome, is_some, refl, ap, ◌∙◌, arith}
use Rattle.std.specs.Prelude.{◌==◌, nat_lt}
use Rattle.std.proofs.lemmas.Bool.Decides.{nat_tests}
use Rattle.odb_base.specs.Path.{Path}
use Rattle.walkdir.specs.Entry.{is_dir}
use Rattle.walkdir.specs.Error.{is_stream_refusal}
use Rattle.walkdir.specs.Directory.{AreAt, HasNothing, IsAt, IsOfDirectory, held, stream_in}
use Rattle.walkdir.specs.Sound.{Fits, FitsAt, IsSound, all_fit, are_at, fits_at, has_nothing, is_after, is_at, is_nested, is_of_directory, is_sound, same_path}
use Rattle.walkdir.specs.Stack.{own_streams}
use Rattle.walkdir.specs.Walk.{Item}
use Rattle.walkdir.specs.declared.builder.Options.{Options}
use Rattle.walkdir.specs.declared.dent.DirEntry.{DirEntry}
use Rattle.walkdir.specs.Within.{is_child}
use Rattle.walkdir.specs.declared.error.ErrorInner.{ErrorInner}
use Rattle.walkdir.specs.declared.error.ErrorInner.TheVariants.{Io, Loop, NoMemory}
use Rattle.walkdir.specs.declared.directory.DirList.{DirList}
use Rattle.walkdir.specs.declared.directory.Items.{Items}
use Rattle.walkdir.proofs.ProgressLemmas.{both, joined}
use Rattle.walkdir.proofs.WithinLemmas.{child_of_test, child_tested, nested_of_test, nested_tested, path_of_test, path_tested}

eq_true : (a b : ℕ) → (a == b) ≡ true → a ≡ b
eq_true a b is = grind (arith, nat_tests)

true_eq : (a b : ℕ) → a ≡ b → (a == b) ≡ true
true_eq a b is = grind (arith, nat_tests)

lt_true : (a b : ℕ) → nat_lt a b ≡ true → a < b
lt_true a b is = grind (arith, nat_tests)

true_lt : (a b : ℕ) → a < b → nat_lt a b ≡ true
true_lt a b is = grind (arith, nat_tests)

false_lt : (a b : ℕ) → nat_lt a b ≡ false → b ≤ a
false_lt a b is = grind (arith, nat_tests)

no_items : {A : Type 0} (xs : List A) → length xs ≡ 0 → xs ≡ []
no_items [] is = refl
no_items (x ∷ xs) is = absurd (omega arith)

empty_length : {A : Type 0} (xs : List A) → xs ≡ [] → length xs ≡ 0
empty_length xs is = ap length is

-- ---- depths

directory_of : (path : Path) (depth own : ℕ) (inner : ErrorInner) → is_of_directory path depth own inner ≡ true → IsOfDirectory path depth own inner
directory_of path depth own (Io (Some at) error) is =
    let parts = both (same_path at path) (own + 1 == depth) is in
    (path_of_test at path parts.0, eq_true (own + 1) depth parts.1)
directory_of path depth own (Io None error) is = let parts = both (own == depth) (is_stream_refusal error) is in (eq_true own depth parts.0, parts.1)
directory_of path depth own (Loop ancestor child) is = absurd cc
directory_of path depth own NoMemory is = tt

of_directory : (path : Path) (depth own : ℕ) (inner : ErrorInner) → IsOfDirectory path depth own inner → is_of_directory path depth own inner ≡ true
of_directory path depth own (Io (Some at) error) is =
    joined (same_path at path) (own + 1 == depth) (path_tested at path is.0) (true_eq (own + 1) depth is.1)
of_directory path depth own (Io None error) is = joined (own == depth) (is_stream_refusal error) (true_eq own depth is.0) is.1
of_directory path depth own (Loop ancestor child) is = absurd is
of_directory path depth own NoMemory is = refl

at_of : (path : Path) (depth : ℕ) (item : Item) → is_at path depth item ≡ true → IsAt path depth item
at_of path depth (Ok entry) is =
    let parts = both (entry.depth == depth) (is_child path entry.path) is in
    (eq_true entry.depth depth parts.0, child_of_test path entry.path parts.1)
at_of path depth (Err error) is = directory_of path depth error.depth error.inner is

of_at : (path : Path) (depth : ℕ) (item : Item) → IsAt path depth item → is_at path depth item ≡ true
of_at path depth (Ok entry) is =
    joined (entry.depth == depth) (is_child path entry.path) (true_eq entry.depth depth is.0) (child_tested path entry.path is.1)
of_at path depth (Err error) is = of_directory path depth error.depth error.inner is

all_at_of : (path : Path) (depth : ℕ) (items : List Item) → are_at path depth items ≡ true → AreAt path depth items
unfolding are_at
all_at_of path depth [] is = tt
all_at_of path depth (item ∷ items) is =
    let parts = both (is_at path depth item) (are_at path depth items) is in
    (at_of path depth item parts.0, all_at_of path depth items parts.1)

of_all_at : (path : Path) (depth : ℕ) (items : List Item) → AreAt path depth items → are_at path depth items ≡ true
unfolding are_at
of_all_at path depth [] all = refl
of_all_at path depth (item ∷ items) all =
    joined (is_at path depth item) (are_at path depth items) (of_at path depth item all.0) (of_all_at path depth items all.1)

after_of : (options : Options) (depth : ℕ) (after : Option DirEntry) → is_after options depth after ≡ true
    → IfSome after (λ entry. (entry.depth ≡ depth) × (is_dir entry ≡ true) × (options.contents_first ≡ true))
after_of options depth None is = tt
after_of options depth (Some entry) is =
    let parts = both (entry.depth == depth) (is_dir entry && options.contents_first) is in
    let more = both (is_dir entry) options.contents_first parts.1 in
    (eq_true entry.depth depth parts.0, more.0, more.1)

of_after : (options : Options) (depth : ℕ) (after : Option DirEntry)
    → IfSome after (λ entry. (entry.depth ≡ depth) × (is_dir entry ≡ true) × (options.contents_first ≡ true)) → is_after options depth after ≡ true
of_after options depth None is = refl
of_after options depth (Some entry) is =
    joined (entry.depth == depth) (is_dir entry && options.contents_first) (true_eq entry.depth depth is.0)
    (joined (is_dir entry) options.contents_first is.1 is.2)

no_stream : (o : Option ℕ) → not (is_some o) ≡ true → o ≡ None
no_stream None is = refl
no_stream (Some dir) is = absurd cc

nothing_of : (items : Items) → has_nothing items ≡ true → HasNothing items
nothing_of items is =
    let parts = both (not (is_some (stream_in items))) (length (held items) == 0) is in
    record { no_stream = no_stream (stream_in items) parts.0; nothing = no_items (held items) (eq_true (length (held items)) 0 parts.1) }

of_nothing : (items : Items) → HasNothing items → has_nothing items ≡ true
of_nothing items nothing =
    joined (not (is_some (stream_in items))) (length (held items) == 0) (ap (λ o. not (is_some o)) nothing.no_stream)
    (true_eq (length (held items)) 0 (empty_length (held items) nothing.nothing))

deepest_of : (most depth : ℕ) (items : Items) → (nat_lt depth most || has_nothing items) ≡ true → most ≤ depth → HasNothing items
deepest_of most depth items is deep = elim (nat_lt depth most) as (λ b. nat_lt depth most ≡ b → (b || has_nothing items) ≡ true → HasNothing items) [
  | true ↦ λ less _. let below : depth < most = lt_true depth most less in absurd (omega arith)
  | false ↦ λ _ nothing. nothing_of items nothing
] refl is

of_deepest : (most depth : ℕ) (items : Items) → (most ≤ depth → HasNothing items) → (nat_lt depth most || has_nothing items) ≡ true
of_deepest most depth items deepest = elim (nat_lt depth most) as (λ b. nat_lt depth most ≡ b → (b || has_nothing items) ≡ true) [
  | true ↦ λ _. refl
  | false ↦ λ deep. of_nothing items (deepest (false_lt depth most deep))
] refl

fit_of : (options : Options) (depth : ℕ) (list : DirList) → fits_at options depth list ≡ true → FitsAt options depth list
fit_of options depth list is =
    let after = both (is_after options depth list.after)
    (are_at list.path (depth + 1) (held list.items) && (nat_lt depth options.max_depth || has_nothing list.items)) is in
    let children = both (are_at list.path (depth + 1) (held list.items)) (nat_lt depth options.max_depth || has_nothing list.items) after.1 in
    record {
      after = after_of options depth list.after after.0;
      children = all_at_of list.path (depth + 1) (held list.items) children.0;
      deepest = deepest_of options.max_depth depth list.items children.1;
    }

of_fit : (options : Options) (depth : ℕ) (list : DirList) → FitsAt options depth list → fits_at options depth list ≡ true
of_fit options depth list fit =
    joined (is_after options depth list.after)
    (are_at list.path (depth + 1) (held list.items) && (nat_lt depth options.max_depth || has_nothing list.items))
    (of_after options depth list.after fit.after)
    (joined (are_at list.path (depth + 1) (held list.items)) (nat_lt depth options.max_depth || has_nothing list.items)
    (of_all_at list.path (depth + 1) (held list.items) fit.children) (of_deepest options.max_depth depth list.items fit.deepest))

all_fits_of : (options : Options) (stack : List DirList) → all_fit options stack ≡ true → Fits options stack
unfolding all_fit Fits
all_fits_of options [] is = tt
all_fits_of options (list ∷ outer) is =
    let parts = both (fits_at options (length outer) list) (is_nested list outer && all_fit options outer) is in
    let more = both (is_nested list outer) (all_fit options outer) parts.1 in
    (fit_of options (length outer) list parts.0, nested_of_test list outer more.0, all_fits_of options outer more.1)

of_all_fits : (options : Options) (stack : List DirList) → Fits options stack → all_fit options stack ≡ true
unfolding all_fit Fits
of_all_fits options [] fits = refl
of_all_fits options (list ∷ outer) fits =
    joined (fits_at options (length outer) list) (is_nested list outer && all_fit options outer) (of_fit options (length outer) list fits.0)
    (joined (is_nested list outer) (all_fit options outer) (nested_tested list outer fits.1) (of_all_fits options outer fits.2))

-- ---- a stack

begun_of : (start : Option Path) (lists : List DirList) → (not (is_some start) || (length lists == 0)) ≡ true → IfSome start (λ _. lists ≡ [])
begun_of None lists is = tt
begun_of (Some root) lists is = no_items lists (eq_true (length lists) 0 is)

of_begun : (start : Option Path) (lists : List DirList) → IfSome start (λ _. lists ≡ []) → (not (is_some start) || (length lists == 0)) ≡ true
of_begun None lists is = refl
of_begun (Some root) lists is = true_eq (length lists) 0 (empty_length lists is)

pub sound_of : (options : Options) (start : Option Path) (lists : List DirList) (first_open : ℕ) → 1 ≤ options.max_open → first_open ≤ length lists
    → length lists ≤ first_open + options.max_open
    → is_sound options start lists first_open ≡ true → IsSound options start lists first_open
unfolding is_sound
sound_of options start lists first_open some in_range few is =
    let parts = both (not (is_some start) || (length lists == 0))
    ((length (own_streams (take first_open lists)) == 0) && all_fit options (reverse lists)) is in
    let more = both (length (own_streams (take first_open lists)) == 0) (all_fit options (reverse lists)) parts.1 in
    record {
      begun = begun_of start lists parts.0;
      some_open = some;
      in_range = in_range;
      few = few;
      closed = no_items (own_streams (take first_open lists)) (eq_true (length (own_streams (take first_open lists))) 0 more.0);
      fits = all_fits_of options (reverse lists) more.1;
    }

pub is_sound_of : (options : Options) (start : Option Path) (lists : List DirList) (first_open : ℕ) → IsSound options start lists first_open
    → is_sound options start lists first_open ≡ true
unfolding is_sound
is_sound_of options start lists first_open sound =
    joined (not (is_some start) || (length lists == 0)) ((length (own_streams (take first_open lists)) == 0) && all_fit options (reverse lists))
    (of_begun start lists sound.begun)
    (joined (length (own_streams (take first_open lists)) == 0) (all_fit options (reverse lists))
    (true_eq (length (own_streams (take first_open lists))) 0 (empty_length (own_streams (take first_open lists)) sound.closed))
    (of_all_fits options (reverse lists) sound.fits))

-- a walk that has begun
pub is_sound_begun : (options : Options) (start begun : Option Path) (lists : List DirList) (first_open : ℕ) → begun ≡ None → 1 ≤ options.max_open
    → first_open ≤ length lists
    → length lists ≤ first_open + options.max_open → is_sound options start lists first_open ≡ true → is_sound options begun lists first_open ≡ true
is_sound_begun options start begun lists first_open none some in_range few is =
    let sound = sound_of options start lists first_open some in_range few is in
    ap (λ s. is_sound options s lists first_open) none
    ∙ is_sound_of options None lists first_open (record {
      begun = tt;
      some_open = some;
      in_range = in_range;
      few = few;
      closed = sound.closed;
      fits = sound.fits;
    })

-- nothing is on the stack before a walk begins
pub nothing_before : (options : Options) (start : Option Path) (root : Path) (lists : List DirList) (first_open : ℕ) → start ≡ Some root
    → 1 ≤ options.max_open → first_open ≤ length lists
    → length lists ≤ first_open + options.max_open → is_sound options start lists first_open ≡ true → lists ≡ []
nothing_before options start root lists first_open at some in_range few is =
    let sound = sound_of options start lists first_open some in_range few is in
    begun_at start at sound.begun
  where
    begun_at : (s : Option Path) → s ≡ Some root → IfSome s (λ _. lists ≡ []) → lists ≡ []
    begun_at None absent begun = cc
    begun_at (Some other) present begun = begun
