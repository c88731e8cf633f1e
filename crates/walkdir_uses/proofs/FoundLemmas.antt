-- Laws of what entries say of a folder: what one more entry adds.
use Rattle.std.proofs.Common.{◌≡◌, ℕ, ◌+◌, ◌-◌, ◌^◌, min, max, Bool, true, false, not, cond, ◌==◌, List, [], ◌∷◌, ◌++◌, map, Option}
use Rattle.std.proofs.Common.{Some, None, Result, Ok, Err, length, ◌⊎◌, inl, inr, refl, sym, ap, subst, ◌∙◌, append-nil, arith}
use Rattle.std.specs.List.{Contains, filter, slice_index, sum_by}
use Rattle.std.specs.Iterator.{Yields}
use Rattle.std.specs.Option.{MatchOption, option_map}
use Rattle.std.specs.Result.{IfErr, IfOk, IsErrAnd, result_ok}
use Rattle.std.proofs.lemmas.List.{map-append}
use Rattle.std.proofs.lemmas.List.Elements.{Contains-append_right, filter-append}
use Rattle.std.proofs.lemmas.List.Sums.{sum_by_push}
use Rattle.odb_base.specs.Path.{Name, Path, name_cmp}
use Rattle.odb_disk.specs.Tree.{Tree}
use Rattle.odb_disk.specs.Tree.Follow.{Refusal, looked}
use Rattle.odb_disk.specs.declared.meta.Meta.{Meta}
use Rattle.walkdir.specs.Entry.{file_name_of}
use Rattle.walkdir.specs.BuiltWalk.{walking}
use Rattle.walkdir.specs.Options.{Built, default_options}
use Rattle.walkdir.specs.Sorted.{by_key}
use Rattle.walkdir.specs.Error.{is_no_memory}
use Rattle.walkdir.specs.OwnStreams.{AreBack}
use Rattle.walkdir.specs.FilteredWalk.{BeginsFiltered, HasNotBegun, NoneLost}
use Rattle.walkdir.specs.Progress.{Progress, begun}
use Rattle.walkdir.specs.Walk.{Item, Order, Walking, told_at}
use Rattle.walkdir.specs.declared.error.Error.{Error}
use Rattle.odb_disk.specs.Streams.{Streams}
use Rattle.walkdir.specs.declared.builder.Options.{Options}
use Rattle.walkdir.specs.declared.dent.DirEntry.{DirEntry}
use Rattle.walkdir_uses.specs.Found.{ComesFirst, EndsWith, IsStoppedIn, below, inside, is_file, is_hidden, length_of, size_at, total_size, visible_names}

-- one more item is given
pub yields_more : {S A : Type 0} (steps : S → Option A → S → Type 0) (s : S) (xs : List A) (t : S) (x : A) (u : S) → Yields steps s xs t → steps t (Some x) u → Yields steps s (xs ++ x ∷ []) u
yields_more steps s [] t x u is step = (u, subst (λ y. steps y (Some x) u) (sym is) step, refl)
yields_more steps s (y ∷ xs) t x u along step = (along.0, along.1, yields_more steps along.0 xs t x u along.2 step)

-- what holds of the error of a result holds at its error
pub if_err : {A E : Type 0} (result : Result A E) (error : E) (Holds : E → Type 0) → IsErrAnd result (λ e. e ≡ error) → Holds error → IfErr result Holds
if_err (Ok x) error Holds is holds = absurd is
if_err (Err e) error Holds is holds = subst Holds (sym is) holds

pub if_ok_then : {A E : Type 0} (result : Result A E) (First Second : A → Type 0) → IfOk result First → ((x : A) → First x → Second x) → IfOk result Second
if_ok_then (Ok x) First Second first further = further x first
if_ok_then (Err e) First Second first further = tt

pub if_err_then : {A E : Type 0} (result : Result A E) (First Second : E → Type 0) → IfErr result First → ((e : E) → First e → Second e) → IfErr result Second
if_err_then (Ok x) First Second first further = tt
if_err_then (Err e) First Second first further = further e first

pub lost_or_first : (walk : Walking) (error : Error) (lost : Bool) → is_no_memory error ≡ lost → (is_no_memory error ≡ false → ComesFirst walk error)
    → (is_no_memory error ≡ true) ⊎ ComesFirst walk error
lost_or_first walk error true is first = inl is
lost_or_first walk error false is first = inr (first is)

-- ---- what stops a filtered walk

none_lost : (entries : List DirEntry) (error : Error) → is_no_memory error ≡ false → NoneLost (map Ok entries ++ Err error ∷ [])
none_lost [] error some = (some, tt)
none_lost (entry ∷ entries) error some = (refl, none_lost entries error some)

pub stopped_in : (walk : Walking) (accepts : DirEntry → Bool) (error : Error) (lost : Bool) → is_no_memory error ≡ lost → (items : List Item)
    → (is_no_memory error ≡ true) ⊎ EndsWith items error → (NoneLost items → BeginsFiltered walk accepts items) → IsStoppedIn walk accepts error
stopped_in walk accepts error true is items ends begins = inl is
stopped_in walk accepts error false is items (inl gone) begins = inl gone
stopped_in walk accepts error false is items (inr ends) begins =
    inr (ends.0, subst (λ (l : List Item). BeginsFiltered walk accepts l) ends.1 (begins (subst NoneLost (sym ends.1) (none_lost ends.0 error is))))

pub begun_unbegun : {S : Type 0} (order : S → Order) (built : Built S) (before : Streams) (tree : Tree) (at : Progress) → at ≡ begun order built before → HasNotBegun (walking order tree built) at
begun_unbegun order built before tree at is = subst (HasNotBegun (walking order tree built)) (sym is) (record { options = refl; order = refl; start = refl; stack = refl })

-- a walk with the default options
pub back_default : (before now : Streams) (options : Options) → options ≡ default_options → AreBack before options.max_open now → AreBack before default_options.max_open now
back_default before now options is back = subst (λ (o : Options). AreBack before o.max_open now) is back

filter_one : {A : Type 0} (test : A → Bool) (xs : List A) (x : A) (passes : Bool) → test x ≡ passes → filter test (xs ++ x ∷ []) ≡ filter test xs ++ cond passes (x ∷ []) []
filter_one test xs x passes is = filter-append test xs (x ∷ []) ∙ ap (λ b. filter test xs ++ cond b (x ∷ []) []) is

-- a loop over a list has taken its elements from the front
pub all_taken : {S A : Type 0} (rest : S → List A) (len : S → ℕ) (s : S) (xs : List A) (t : S)
    → Yields (λ from item to. MatchOption item ((len from ≡ 0) × (len to ≡ 0)) (λ x. (rest from ≡ x ∷ rest to) × (len to + 1 ≡ len from))) s xs t → rest s ≡ xs ++ rest t
all_taken rest len s [] t is = ap rest is
all_taken rest len s (x ∷ xs) t along = along.1.0 ∙ ap (λ more. x ∷ more) (all_taken rest len along.0 xs t along.2)

pub none_left : {A : Type 0} (xs : List A) → length xs ≡ 0 → xs ≡ []
none_left [] is = refl
none_left (x ∷ xs) is = absurd (omega arith)

-- what passes a test is among the elements that do
pub passes_among : {A : Type 0} (test : A → Bool) (front : List A) (x : A) (back : List A) → test x ≡ true → Contains (filter test (front ++ x ∷ back)) x
passes_among test front x back is =
    let kept : filter test (front ++ x ∷ back) ≡ filter test front ++ x ∷ filter test back =
    filter-append test front (x ∷ back) ∙ ap (λ b. filter test front ++ cond b (x ∷ filter test back) (filter test back)) is in
    subst (λ xs. Contains xs x) (sym kept) (Contains-append_right (filter test front) (x ∷ filter test back) x (0, omega arith, refl))

-- ---- sizes

told_length : (depth : ℕ) (path : Path) (told : Result Meta Refusal) (meta : Meta) → told_at depth path told ≡ Ok meta → length_of (result_ok told) ≡ meta.len
told_length depth path (Ok found) meta is = let same : found ≡ meta = cc in ap (λ (m : Meta). m.len) same
told_length depth path (Err refusal) meta is = absurd cc

add_capped : (total more size : ℕ) → size ≡ min total (2 ^ 64 - 1) → min (size + more) (2 ^ 64 - 1) ≡ min (total + more) (2 ^ 64 - 1)
add_capped total more size is = omega arith

-- a file adds its length
pub size_file : (tree : Tree) (entries : List DirEntry) (entry : DirEntry) (meta : Meta) (size : ℕ) → is_file entry ≡ true
    → told_at entry.depth entry.path (looked tree entry.path entry.followed) ≡ Ok meta
    → size ≡ total_size tree entries → min (size + meta.len) (2 ^ 64 - 1) ≡ total_size tree (entries ++ entry ∷ [])
size_file tree entries entry meta size file tells is =
    let files : sum_by (size_at tree) (filter is_file (entries ++ entry ∷ [])) ≡ sum_by (size_at tree) (filter is_file entries) + size_at tree entry =
    ap (sum_by (size_at tree)) (filter_one is_file entries entry true file) ∙ sum_by_push (size_at tree) (filter is_file entries) entry in
    let more : size_at tree entry ≡ meta.len = told_length entry.depth entry.path (looked tree entry.path entry.followed) meta tells in
    add_capped (sum_by (size_at tree) (filter is_file entries)) meta.len size is
    ∙ ap (λ n. min n (2 ^ 64 - 1)) (ap (λ n. sum_by (size_at tree) (filter is_file entries) + n) (sym more) ∙ sym files)

-- anything else adds nothing
pub size_other : (tree : Tree) (entries : List DirEntry) (entry : DirEntry) (size : ℕ) → is_file entry ≡ false → size ≡ total_size tree entries → size ≡ total_size tree (entries ++ entry ∷ [])
size_other tree entries entry size other is =
    is ∙ ap (λ files. min (sum_by (size_at tree) files) (2 ^ 64 - 1)) (sym (append-nil (filter is_file entries)) ∙ sym (filter_one is_file entries entry false other))

-- ---- names

pub hidden_by : (name : Name) → is_hidden name ≡ (slice_index name 0 == 46)
hidden_by [] = refl
hidden_by (byte ∷ name) = refl

names_one : (entries : List DirEntry) (entry : DirEntry) (shown : Bool) → not (is_hidden (file_name_of entry)) ≡ shown
    → visible_names (entries ++ entry ∷ []) ≡ visible_names entries ++ cond shown (file_name_of entry ∷ []) []
names_one entries entry shown is =
    ap (filter (λ name. not (is_hidden name))) (map-append file_name_of entries (entry ∷ []))
    ∙ filter_one (λ name. not (is_hidden name)) (map file_name_of entries) (file_name_of entry) shown is

-- a name that doesn't begin with a dot comes after the others
pub name_shown : (entries : List DirEntry) (entry : DirEntry) (names : List Name) (dotted : Bool) → dotted ≡ (slice_index (file_name_of entry) 0 == 46) → dotted ≡ false → names ≡ visible_names entries
    → names ++ file_name_of entry ∷ [] ≡ visible_names (entries ++ entry ∷ [])
name_shown entries entry names dotted by no_dot is =
    ap (λ n. n ++ file_name_of entry ∷ []) is ∙ sym (names_one entries entry true (ap not (hidden_by (file_name_of entry) ∙ sym by ∙ no_dot)))

-- one that does is left out
pub name_hidden : (entries : List DirEntry) (entry : DirEntry) (names : List Name) (dotted : Bool) → dotted ≡ (slice_index (file_name_of entry) 0 == 46) → dotted ≡ true → names ≡ visible_names entries
    → names ≡ visible_names (entries ++ entry ∷ [])
name_hidden entries entry names dotted by dot is =
    is ∙ sym (names_one entries entry false (ap not (hidden_by (file_name_of entry) ∙ sym by ∙ dot)) ∙ append-nil (visible_names entries))

-- ---- the walk of all below a folder

pub walks_below : {S : Type 0} (order : S → Order) (built : Built S) (folder : Path) (tree : Tree) → built.root ≡ folder → built.options ≡ default_options → built.sorter ≡ None
    → walking order tree built ≡ below tree folder
walks_below order built folder tree root options sorter =
    let same : option_map order built.sorter ≡ None = ap (option_map order) sorter in
    λ i. record { tree = tree; root = root i; options = options i; order = same i }

-- ---- the walk of the entries of a folder itself

abbrev pub by_names : {T : Type 0} → T → Order
by_names sorter = by_key name_cmp file_name_of

-- how it is built
module _ {S T : Type 0} (new deepest shallowest : Built S) (sorted : Built T) (sorter : T) (folder : Path) (root : new.root ≡ folder) (options : new.options ≡ default_options)
    (at_most : deepest ≡ record new { options = record new.options { max_depth = max 1 new.options.min_depth } })
    (at_least : shallowest ≡ record deepest { options = record deepest.options { min_depth = min 1 deepest.options.max_depth } })
    (is : sorted ≡ record { root = shallowest.root; options = shallowest.options; sorter = Some sorter }) where
  same_root : sorted.root ≡ folder
  same_root = ap (λ (b : Built T). b.root) is ∙ ap (λ (b : Built S). b.root) at_least ∙ ap (λ (b : Built S). b.root) at_most ∙ root

  same_options : sorted.options ≡ record default_options { min_depth = 1; max_depth = 1 }
  same_options =
      ap (λ (b : Built T). b.options) is ∙ ap (λ (b : Built S). b.options) at_least
      ∙ ap (λ (o : Options). record o { min_depth = min 1 o.max_depth })
      (ap (λ (b : Built S). b.options) at_most ∙ ap (λ (o : Options). record o { max_depth = max 1 o.min_depth }) options)

  same_order : option_map by_names sorted.sorter ≡ Some (by_key name_cmp file_name_of)
  same_order = ap (λ (b : Built T). option_map by_names b.sorter) is

  pub walks_inside : (tree : Tree) → walking by_names tree sorted ≡ inside tree folder
  walks_inside tree = λ i. record { tree = tree; root = same_root i; options = same_options i; order = same_order i }
