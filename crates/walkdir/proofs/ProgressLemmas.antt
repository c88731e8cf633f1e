-- Laws of a walk in progress: its own streams, and how much it leaves to do.
use Rattle.std.proofs.Common.{◌≡◌, ℕ, suc, ◌+◌, ◌-◌, ◌*◌, ◌^◌, ◌<◌, ◌≤◌, Bool, true, false, ◌&&◌, List, [], ◌∷◌, length, reverse, Option, Some, None, Result, Ok, Err, refl, sym, ap, ◌∙◌, arith}
use Rattle.std.specs.Prelude.{◌==◌, nat_le, IfSome}
use lib.ListN.{length-reverse}
use Rattle.odb_base.specs.Path.{Path}
use Rattle.walkdir.specs.Entry.{is_dir}
use Rattle.std.proofs.lemmas.Bool.Decides.{nat_tests}
use Rattle.std.specs.FinMap as finite
use native.Mathlib.Nat.{pow-suc}
use Rattle.odb_disk.specs.Streams.{Streams}
use Rattle.walkdir.specs.OwnStreams.{OpenDirs, AreBeside, are_apart}
use Rattle.walkdir.specs.Progress.{Progress, Keeps, has_its_streams, is_innermost, work_left, work_of}
use Rattle.walkdir.specs.Directory.{many}
use Rattle.walkdir.specs.Stack.{own_streams, weight, work_in}
use Rattle.walkdir.specs.Turns.{EndsWell, LeavesLess, TakesWork, fresh, handed, item_of, turn_given, turn_of}
use Rattle.walkdir.specs.declared.dent.DirEntry.{DirEntry}
use Rattle.walkdir.specs.declared.error.Error.{Error}
use Rattle.walkdir.proofs.StepLemmas.Pushed.{weight_some}
use Rattle.walkdir.specs.declared.directory.DirList.{DirList}

-- ---- own streams

pub both : (a b : Bool) → (a && b) ≡ true → (a ≡ true) × (b ≡ true)
both true b is = (refl, is)
both false b is = (cc, cc)

pub joined : (a b : Bool) → a ≡ true → b ≡ true → (a && b) ≡ true
joined a b first second = ap (λ x. x && b) first ∙ second

apart_beside : (own : List ℕ) (now : OpenDirs) → are_apart own now ≡ true → (others : OpenDirs) × AreBeside others own now
unfolding are_apart AreBeside
apart_beside [] now apart = (now, refl)
apart_beside (dir ∷ own) now apart =
    let parts = both (finite.contains_key now dir) (are_apart own (finite.remove now dir)) apart in
    let rest = apart_beside own (finite.remove now dir) parts.1 in
    (rest.0, (parts.0, rest.1))

beside_apart : (others : OpenDirs) (own : List ℕ) (now : OpenDirs) → AreBeside others own now → are_apart own now ≡ true
unfolding are_apart AreBeside
beside_apart others [] now beside = refl
beside_apart others (dir ∷ own) now beside =
    joined (finite.contains_key now dir) (are_apart own (finite.remove now dir)) beside.0 (beside_apart others own (finite.remove now dir) beside.1)

le_true : (a b : ℕ) → nat_le a b ≡ true → a ≤ b
le_true a b is = grind (arith, nat_tests)

true_le : (a b : ℕ) → a ≤ b → nat_le a b ≡ true
true_le a b le = grind (arith, nat_tests)

-- a walk that has its streams began at some time
pub begun_with : (at : Progress) → has_its_streams at ≡ true → (before : Streams) × Keeps before at
unfolding has_its_streams
begun_with at own =
    let parts = both (nat_le (length (own_streams at.stack)) at.options.max_open) (are_apart (own_streams at.stack) at.streams.open_dirs) own in
    let beside = apart_beside (own_streams at.stack) at.streams.open_dirs parts.1 in (
      record { open_dirs = beside.0; peak = at.streams.peak },
      record { beside = beside.1; few = le_true (length (own_streams at.stack)) at.options.max_open parts.0; peak = omega arith },
    )

pub has_streams : (before : Streams) (at : Progress) → Keeps before at → has_its_streams at ≡ true
unfolding has_its_streams
has_streams before at keeps =
    joined (nat_le (length (own_streams at.stack)) at.options.max_open) (are_apart (own_streams at.stack) at.streams.open_dirs)
    (true_le (length (own_streams at.stack)) at.options.max_open keeps.few)
    (beside_apart before.open_dirs (own_streams at.stack) at.streams.open_dirs keeps.beside)

pub still_has_streams : (old new : Progress) → has_its_streams old ≡ true → ((before : Streams) → Keeps before old → Keeps before new)
    → has_its_streams new ≡ true
still_has_streams old new own keeps = let begun = begun_with old own in has_streams begun.0 new (keeps begun.0 begun.1)

-- ---- weights

pub weight-less : (most depth : ℕ) → depth < most → weight most depth ≡ weight most (depth + 1) * many
unfolding weight
weight-less most depth less =
    let e : most - depth ≡ suc (most - (depth + 1)) = omega arith in
    ap (λ n. many ^ n) e ∙ pow-suc many (most - (depth + 1))

-- a child that is taken outweighs the directory that it may be
pub outweighs : (most depth old mid new : ℕ) → depth < most → mid + weight most depth ≤ old → new ≤ mid + fresh most (depth + 1)
    → 1 ≤ weight most (depth + 1) → new < old
outweighs most depth old mid new less taken put some = let e = weight-less most depth less in omega arith

-- ---- turns

pub work_started : (at : Progress) → at.start ≡ None → work_left at ≡ work_in at.options.max_depth at.streams at.stack
unfolding work_left
work_started at none = ap (work_of at) none

pub ends_less : (old new : Progress) (r : Result (Option DirEntry) Error) → work_left new < work_left old → EndsWell old (turn_of r) new
ends_less old new (Ok None) less = less
ends_less old new (Ok (Some entry)) less = less
ends_less old new (Err error) less = less

pub item_turn : (r : Result (Option DirEntry) Error) → item_of (turn_of r) ≡ handed r
item_turn (Ok None) = refl
item_turn (Ok (Some entry)) = refl
item_turn (Err error) = refl

-- a child that is taken from a directory, and then handled, leaves less to do
pub handled_less : (old mid new : Progress) (index deep before now : ℕ) → old.start ≡ None → new.start ≡ None → mid.options ≡ old.options
    → new.options ≡ mid.options → index < old.options.max_depth
    → deep ≡ index + 1 → TakesWork old mid index
    → work_in new.options.max_depth new.streams new.stack ≤ work_in mid.options.max_depth mid.streams mid.stack + fresh mid.options.max_depth deep
    → work_left new < work_left old
handled_less old mid new index deep before now first last same also within at takes put =
    let was = work_started old first in
    let is = work_started new last in
    let e : fresh mid.options.max_depth deep ≡ fresh old.options.max_depth (index + 1) = ap (λ o. fresh o.max_depth deep) same
    ∙ ap (fresh old.options.max_depth) at in
    let less = outweighs old.options.max_depth index (work_in old.options.max_depth old.streams old.stack)
    (work_in mid.options.max_depth mid.streams mid.stack) (work_in new.options.max_depth new.streams new.stack)
    within takes (omega arith) (weight_some old.options.max_depth (index + 1)) in
    omega arith

pub taken_less : (old new : Progress) (index : ℕ) → old.start ≡ None → new.start ≡ None → TakesWork old new index → work_left new < work_left old
taken_less old new index first last takes =
    let was = work_started old first in
    let is = work_started new last in
    let some = weight_some old.options.max_depth index in
    omega arith

pub left_less : (old mid new : Progress) → old.start ≡ None → new.start ≡ None → LeavesLess mid new
    → work_in mid.options.max_depth mid.streams mid.stack ≤ work_in old.options.max_depth old.streams old.stack + 0 → work_left new < work_left old
left_less old mid new first last less put =
    let was = work_started old first in
    let is = work_started new last in
    omega arith

-- the root leaves less to do
pub begun_less : (old mid new : Progress) (root : Path) → old.start ≡ Some root → new.start ≡ None → mid.options ≡ old.options → mid.stack ≡ []
    → work_in new.options.max_depth new.streams new.stack ≤ work_in mid.options.max_depth mid.streams mid.stack + fresh mid.options.max_depth 0
    → work_left new < work_left old
unfolding work_left work_in
begun_less old mid new root first last same empty put =
    let was : work_left old ≡ many * weight old.options.max_depth 0 = ap (work_of old) first in
    let is = work_started new last in
    let none : work_in mid.options.max_depth mid.streams mid.stack ≡ 0 = ap (work_in mid.options.max_depth mid.streams) empty in
    let e : fresh mid.options.max_depth 0 ≡ fresh old.options.max_depth 0 = ap (λ o. fresh o.max_depth 0) same in
    let some = weight_some old.options.max_depth 0 in
    omega arith

apart : (a b : ℕ) → a ≡ b → (a + 1 == b) ≡ false
apart a b is = grind (arith, nat_tests)

and_false : (a b : Bool) → b ≡ false → (a && b) ≡ false
and_false true b is = is
and_false false b is = refl

pub not_innermost : (lists : List DirList) (entry : Option DirEntry) → IfSome entry (λ e. e.depth ≡ length lists) → is_innermost (reverse lists)
    (item_of (turn_given entry)) ≡ false
not_innermost lists None at = refl
not_innermost lists (Some entry) at = and_false (is_dir entry) (entry.depth + 1 == length (reverse lists))
    (apart entry.depth (length (reverse lists)) (at ∙ sym (length-reverse lists)))
