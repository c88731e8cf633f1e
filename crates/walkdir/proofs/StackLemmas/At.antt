-- The directory at an index of a stack, and the innermost one.
use Rattle.std.proofs.Common.{◌≡◌, ℕ, suc, ◌+◌, ◌<◌, ◌≤◌, List, [], ◌∷◌, ◌++◌, length, reverse, take, drop, Option, Some, None}
use Rattle.std.proofs.Common.{IfSome, refl, sym, ap, subst, ◌∙◌, arith, length-append, drop_of_length-le, drop-cons}
use Rattle.std.specs.Prelude.{Bool, true, false, nat_lt}
use Rattle.std.proofs.lemmas.Bool.Decides.{nat_tests}
use Rattle.walkdir.specs.Walk.{Ancestor, Item}
use lib.ListN.{length-reverse}
use lib.ListN.{get_or, set}
use lib.Seq.{append_snoc, get_or-append_seam, length-take-le, set_split, split_at, take-append_seam}
use Rattle.odb_base.specs.Path.{Path}
use Rattle.walkdir.specs.Entry.{is_dir}
use Rattle.walkdir.specs.Directory.{AreAt, is_skipped, held, stream_in}
use Rattle.walkdir.specs.Sound.{FitsAt, Fits, IsNested, IsSound}
use Rattle.walkdir.specs.Stack.{ancestors, own_streams}
use Rattle.walkdir.specs.Turns.AtIndex.{AllSkipped, Puts, Unskips}
use Rattle.walkdir.specs.Turns.{given_if}
use Rattle.walkdir.specs.Within.{LiesIn}
use Rattle.walkdir.specs.declared.dent.DirEntry.{DirEntry}
use Rattle.walkdir.specs.declared.builder.Options.{Options}
use Rattle.walkdir.specs.declared.directory.DirList.{DirList}
use Rattle.walkdir.specs.declared.directory.Items.{Items}
use Rattle.walkdir.proofs.StackLemmas.{own_past, reversed_at, reversed_last}
use Rattle.walkdir.proofs.StackLemmas.Sound.{fits_at}

-- ---- what always holds

pub cut_at : (lists : List DirList) (index : ℕ) (list : DirList) → index < length lists → list ≡ get_or lists index list
    → lists ≡ take index lists ++ list ∷ drop (suc index) lists
cut_at lists index list within is = split_at lists index list within ∙ ap (λ l. take index lists ++ l ∷ drop (suc index) lists) (sym is)

pub cut_length : (lists : List DirList) (index : ℕ) → index < length lists → length (take index lists) ≡ index
cut_length lists index within = length-take-le index lists (omega arith)

unfoldable pub puts_set : (lists : List DirList) (index : ℕ) (list : DirList) (items : Items) → index < length lists → list ≡ get_or lists index list
    → Puts lists (set lists index (record list { items = items })) index items
puts_set lists index list items within is = record {
  outer = take index lists;
  inner = drop (suc index) lists;
  list = list;
  at = length-take-le index lists (omega arith);
  was = split_at lists index list within ∙ ap (λ l. take index lists ++ l ∷ drop (suc index) lists) (sym is);
  is = set_split lists index (record list { items = items }) within;
}

ancestors_put : (inner : List DirList) (list : DirList) (items : Items) (outer : List DirList)
    → ancestors (inner ++ (record list { items = items }) ∷ outer) ≡ ancestors (inner ++ list ∷ outer)
ancestors_put [] list items outer = refl
ancestors_put (first ∷ inner) list items outer =
    ap (λ (a : List Ancestor). (record { path = first.path; place = first.place }) ∷ a) (ancestors_put inner list items outer)

-- the directories stay if one gets other contents
pub puts_above : (old new : List DirList) (index : ℕ) (items : Items) → Puts old new index items → ancestors (reverse new) ≡ ancestors (reverse old)
puts_above old new index items puts =
    ap (λ (l : List DirList). ancestors (reverse l)) puts.is ∙ ap ancestors (reversed_at puts.outer (record puts.list { items = items }) puts.inner)
    ∙ ancestors_put (reverse puts.inner) puts.list items (reverse puts.outer)
    ∙ sym (ap (λ (l : List DirList). ancestors (reverse l)) puts.was ∙ ap ancestors (reversed_at puts.outer puts.list puts.inner))

-- ---- the directory at an index has no stream any longer

pub closed_past : (outer : List DirList) (list : DirList) (inner lists : List DirList) (index : ℕ) → length outer ≡ index
    → lists ≡ outer ++ list ∷ inner
    → stream_in list.items ≡ None → own_streams (take index lists) ≡ [] → own_streams (take (index + 1) lists) ≡ []
closed_past outer list inner lists index at is none closed =
    let cut : take (length outer + 1) (outer ++ list ∷ inner) ≡ outer ++ list ∷ [] =
    ap (take (length outer + 1)) (sym (append_snoc outer list inner))
    ∙ ap (λ n. take n ((outer ++ list ∷ []) ++ inner)) (sym (length-append outer (list ∷ [])))
    ∙ take-append_seam (outer ++ list ∷ []) inner in
    let front : take (length outer) (outer ++ list ∷ inner) ≡ outer = take-append_seam outer (list ∷ inner) in
    let empty : own_streams outer ≡ [] = ap own_streams (sym front)
    ∙ subst (λ l. own_streams (take (length outer) l) ≡ []) is (subst (λ n. own_streams (take n lists) ≡ []) (sym at) closed) in
    subst (λ n. own_streams (take (n + 1) lists) ≡ []) at
    (ap (λ l. own_streams (take (length outer + 1) l)) is ∙ ap own_streams cut ∙ own_past outer list [] none ∙ ap (λ o. o ++ []) empty)

-- ---- a directory at the greatest depth has no stream

pub no_deep_stream : (options : Options) (start : Option Path) (lists : List DirList) (first_open index : ℕ) (list : DirList) (dir : ℕ)
    → IsSound options start lists first_open
    → index < length lists → list ≡ get_or lists index list → stream_in list.items ≡ Some dir → options.max_depth ≤ index → ⊥
no_deep_stream options start lists first_open index list dir sound within at own deep =
    let outer = take index lists in
    let inner = drop (suc index) lists in
    let depth : length (reverse outer) ≡ index = length-reverse outer ∙ cut_length lists index within in
    let fits : Fits options (reverse inner ++ list ∷ reverse outer) =
    subst (Fits options) (ap reverse (cut_at lists index list within at) ∙ reversed_at outer list inner) sound.fits in
    let fit : FitsAt options (length (reverse outer)) list = fits_at options (reverse inner) list (reverse outer) fits in
    let none : stream_in list.items ≡ None = (fit.deepest (subst (λ n. options.max_depth ≤ n) (sym depth) deep)).no_stream in
    let no : Some dir ≡ None = sym own ∙ none in
    cc

pub top_cut : (lists : List DirList) (index : ℕ) (list : DirList) → index + 1 ≡ length lists → list ≡ get_or lists index list
    → reverse lists ≡ list ∷ reverse (take index lists)
top_cut lists index list last at =
    let behind : drop (suc index) lists ≡ [] = drop_of_length-le lists {i = suc index} (omega arith) in
    ap reverse (cut_at lists index list (omega arith) at) ∙ reversed_at (take index lists) list (drop (suc index) lists)
    ∙ ap (λ i. reverse i ++ list ∷ reverse (take index lists)) behind

pub fit_at : (options : Options) (start : Option Path) (lists : List DirList) (first_open index : ℕ) (list : DirList)
    → IsSound options start lists first_open
    → index < length lists → list ≡ get_or lists index list → FitsAt options index list
fit_at options start lists first_open index list sound within at =
    let outer = take index lists in
    let inner = drop (suc index) lists in
    let depth : length (reverse outer) ≡ index = length-reverse outer ∙ cut_length lists index within in
    let fits : Fits options (reverse inner ++ list ∷ reverse outer) =
    subst (Fits options) (ap reverse (cut_at lists index list within at) ∙ reversed_at outer list inner) sound.fits in
    subst (λ n. FitsAt options n list) depth (fits_at options (reverse inner) list (reverse outer) fits)

lt_true : (a b : ℕ) → nat_lt a b ≡ true → a < b
lt_true a b is = grind (arith, nat_tests)

false_lt : (a b : ℕ) → nat_lt a b ≡ false → b ≤ a
false_lt a b is = grind (arith, nat_tests)

-- a directory that has a stream, or something that was read, isn't at the greatest depth
pub shallow_stream : (options : Options) (start : Option Path) (lists : List DirList) (first_open index : ℕ) (list : DirList) (dir : ℕ)
    → IsSound options start lists first_open
    → index < length lists → list ≡ get_or lists index list → stream_in list.items ≡ Some dir → index < options.max_depth
shallow_stream options start lists first_open index list dir sound within at own =
    elim (nat_lt index options.max_depth) as (λ b. nat_lt index options.max_depth ≡ b → index < options.max_depth) [
      | true ↦ λ less. lt_true index options.max_depth less
      | false ↦ λ deep. absurd (no_deep_stream options start lists first_open index list dir sound within at own
          (false_lt index options.max_depth deep))
    ] refl

pub shallow_held : (options : Options) (start : Option Path) (lists : List DirList) (first_open index : ℕ) (list : DirList) (item : Item)
    (items : List Item) → IsSound options start lists first_open
    → index < length lists → list ≡ get_or lists index list → held list.items ≡ item ∷ items → index < options.max_depth
shallow_held options start lists first_open index list item items sound within at is =
    elim (nat_lt index options.max_depth) as (λ b. nat_lt index options.max_depth ≡ b → index < options.max_depth) [
      | true ↦ λ less. lt_true index options.max_depth less
      | false ↦ λ deep.
          let fit : FitsAt options index list = fit_at options start lists first_open index list sound within at in
          let none : held list.items ≡ [] = (fit.deepest (false_lt index options.max_depth deep)).nothing in
          let no : item ∷ items ≡ [] = sym is ∙ none in
          cc
    ] refl

-- what was read of a directory is one deeper
pub held_at : (options : Options) (start : Option Path) (lists : List DirList) (first_open index : ℕ) (list : DirList)
    → IsSound options start lists first_open
    → index < length lists → list ≡ get_or lists index list → AreAt list.path (index + 1) (held list.items)
held_at options start lists first_open index list sound within at = (fit_at options start lists first_open index list sound within at).children

pub top_fit : (options : Options) (start : Option Path) (old new : List DirList) (list : DirList) (first_open : ℕ)
    → IsSound options start old first_open → old ≡ new ++ list ∷ []
    → FitsAt options (length new) list
unfolding Fits
top_fit options start old new list first_open sound was =
    let fits : Fits options (list ∷ reverse new) = subst (Fits options) (ap reverse was ∙ reversed_last new list) sound.fits in
    subst (λ n. FitsAt options n list) (length-reverse new) fits.0

-- the directory above the innermost one holds it
top_nested : (options : Options) (start : Option Path) (old new : List DirList) (list : DirList) (first_open : ℕ)
    → IsSound options start old first_open → old ≡ new ++ list ∷ []
    → IsNested list (reverse new)
unfolding Fits
top_nested options start old new list first_open sound was =
    let fits : Fits options (list ∷ reverse new) = subst (Fits options) (ap reverse was ∙ reversed_last new list) sound.fits in
    fits.1

after_fits : (options : Options) (after : Option DirEntry) (entry : DirEntry) (n : ℕ) → after ≡ Some entry
    → IfSome after (λ e. (e.depth ≡ n) × (is_dir e ≡ true) × (options.contents_first ≡ true)) → (entry.depth ≡ n) × (is_dir entry ≡ true)
    × (options.contents_first ≡ true)
after_fits options after entry n is fits =
    subst (λ (o : Option DirEntry). IfSome o (λ e. (e.depth ≡ n) × (is_dir e ≡ true) × (options.contents_first ≡ true))) is fits

given_depth : (b : Bool) (entry : DirEntry) (n : ℕ) → entry.depth ≡ n → IfSome (given_if b entry) (λ e. e.depth ≡ n)
given_depth true entry n is = is
given_depth false entry n is = tt

-- the entry of a directory that is left is as deep as it was
pub left_depth : (options : Options) (start : Option Path) (old new : List DirList) (list : DirList) (first_open : ℕ) (entry : DirEntry)
    (result : Option DirEntry) (b : Bool)
    → IsSound options start old first_open → old ≡ new ++ list ∷ [] → list.after ≡ Some entry → result ≡ given_if b entry
    → IfSome result (λ e. e.depth ≡ length new)
left_depth options start old new list first_open entry result b sound was is given =
    subst (λ (o : Option DirEntry). IfSome o (λ e. e.depth ≡ length new)) (sym given)
    (given_depth b entry (length new) (after_fits options list.after entry (length new) is
    (top_fit options start old new list first_open sound was).after).0)

-- a directory that has its own entry still to come gives it after its contents
pub left_first : (options : Options) (start : Option Path) (old new : List DirList) (list : DirList) (first_open : ℕ) (entry : DirEntry)
    → IsSound options start old first_open → old ≡ new ++ list ∷ []
    → list.after ≡ Some entry → options.contents_first ≡ true
left_first options start old new list first_open entry sound was is =
    (after_fits options list.after entry (length new) is (top_fit options start old new list first_open sound was).after).2

given_own : (b : Bool) (entry : DirEntry) (outer : List DirList) → is_dir entry ≡ true → LiesIn entry.path outer
    → IfSome (given_if b entry) (λ e. (is_dir e ≡ true) × LiesIn e.path outer)
given_own true entry outer dir lies = (dir, lies)
given_own false entry outer dir lies = tt

-- the entry of a directory that is left is a directory, in the one that is innermost then
pub left_own : (options : Options) (start : Option Path) (old new : List DirList) (list : DirList) (first_open : ℕ) (entry : DirEntry)
    (result : Option DirEntry) (b : Bool)
    → IsSound options start old first_open → old ≡ new ++ list ∷ [] → list.after ≡ Some entry → result ≡ given_if b entry
    → IfSome result (λ e. (is_dir e ≡ true) × LiesIn e.path (reverse new))
left_own options start old new list first_open entry result b sound was is given =
    let own = after_fits options list.after entry (length new) is (top_fit options start old new list first_open sound was).after in
    let nested = top_nested options start old new list first_open sound was in
    subst (λ (o : Option DirEntry). IfSome o (λ e. (is_dir e ≡ true) × LiesIn e.path (reverse new))) (sym given)
    (given_own b entry (reverse new) own.1 (subst (λ (o : Option DirEntry). IfSome o (λ e. LiesIn e.path (reverse new))) is nested.1))

-- an element is the one at its index
pub one_at : (lists : List DirList) (index : ℕ) (a b : DirList) → index < length lists → a ≡ get_or lists index a → b ≡ get_or lists index b → a ≡ b
one_at lists index a b within first second =
    first ∙ ap (λ l. get_or l index a) (cut_at lists index b within second) ∙ ap (λ n. get_or (take index lists ++ b ∷ drop (suc index) lists) n a)
    (sym (cut_length lists index within))
    ∙ get_or-append_seam (take index lists) b (drop (suc index) lists) a

-- ---- the innermost directory that isn't skipped yet

cut_drop : (lists : List DirList) (index : ℕ) (list : DirList) → index < length lists → list ≡ get_or lists index list
    → drop index lists ≡ list ∷ drop (index + 1) lists
cut_drop lists index list within is =
    drop-cons lists index list within ∙ ap (λ l. l ∷ drop (suc index) lists) (sym is) ∙ ap (λ n. list ∷ drop n lists)
    (let e : suc index ≡ index + 1 = omega arith in e)

pub one_skipped : (lists : List DirList) (index next : ℕ) (list : DirList) → index < length lists → next ≡ index + 1 → list ≡ get_or lists index list
    → is_skipped list.items ≡ true
    → AllSkipped (drop next lists) → AllSkipped (drop index lists)
one_skipped lists index next list within is at skipped others =
    subst AllSkipped (sym (cut_drop lists index list within at)) (skipped, subst (λ n. AllSkipped (drop n lists)) is others)

pub one_unskipped : (lists : List DirList) (index next : ℕ) (list : DirList) → index < length lists → next ≡ index + 1
    → list ≡ get_or lists index list → is_skipped list.items ≡ false
    → AllSkipped (drop next lists) → Unskips lists index
one_unskipped lists index next list within is at own others = record {
  outer = take index lists;
  list = list;
  inner = drop (suc index) lists;
  at = cut_length lists index within;
  is = cut_at lists index list within at;
  own = own;
  others = subst (λ n. AllSkipped (drop n lists)) (let e : next ≡ suc index = omega arith in e) others;
}
