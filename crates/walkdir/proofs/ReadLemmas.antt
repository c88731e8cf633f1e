-- Laws of what the calls of a disk return to a walk.
use Rattle.std.proofs.Common.{◌≡◌, ℕ, suc, ◌+◌, ◌^◌, ◌<◌, ◌≤◌, max, cond, inl, inr, Bool, true, List, [], ◌∷◌, ◌++◌, length, Option}
use Rattle.std.proofs.Common.{Some, None, Result, Ok, Err, IfSome, is_some, unwrap_or, refl, sym, ap, subst, ◌∙◌, arith}
use Rattle.std.specs.Option.{option_map}
use Rattle.std.specs.FinMap as finite
use Rattle.odb_base.specs.Path.{Path}
use Rattle.odb_disk.specs.Disk.{FailsOnlyByFault}
use Rattle.odb_disk.specs.Answers.{Answers}
use Rattle.std.specs.FinMap.{len-insert}
use Rattle.std.specs.Cmp.{nat_cmp_total}
use Rattle.odb_disk.specs.Streams.{Streams, Opens, open_count, Gives, GivesFirst, is_open, with_stream}
use Rattle.odb_disk.specs.Tree.{State, tree_of}
use Rattle.odb_disk.specs.Tree.Follow.{Refusal, looked}
use Rattle.odb_disk.specs.declared.meta.Meta.{Meta}
use Rattle.odb_disk.specs.declared.disk_error.DiskError.{DiskError}
use Rattle.odb_disk.specs.declared.disk_error.DiskError.TheVariants as refusals
use Rattle.odb_disk.specs.declared.entry.Entry.{Entry}
use Rattle.walkdir.specs.Error.{IsFromPath, IsOnPath, failures, io_error, no_memory, stream_failed}
use Rattle.walkdir.specs.Failures.{Costs, failures_among, failures_of}
use Rattle.walkdir.specs.OwnStreams.{OpenDirs}
use Rattle.walkdir.specs.Directory.{AreAt, IsAt}
use Rattle.walkdir.specs.Turns.Drawn.{Draws, DrawsEntry, IsDrawn, OpensAtMost, left_of}
use Rattle.walkdir.specs.Walk.{Item, Tells, told_at}
use Rattle.walkdir.specs.Walk.Children.{child_of}
use Rattle.walkdir.specs.declared.dent.DirEntry.{DirEntry}
use Rattle.walkdir.specs.declared.error.Error.{Error}
use Rattle.walkdir.proofs.FailuresLaws.{costs_none}
use Rattle.walkdir.proofs.OwnStreamsLemmas.{has_inserted, insert_again, remove_again, remove_new}

-- ---- stats

pub tells_refused : {A : Type 0} (depth : ℕ) (path : Path) (refusal : DiskError) (error : Error) (told : Result A Refusal)
    → Answers (Err refusal) told
    → IsFromPath depth path refusal error → Tells depth path (Err error) (told_at depth path told)
tells_refused depth path refusals.Absent error told answer (inl is) = inr (inr (ap (told_at depth path) answer ∙ ap Err (sym is)))
tells_refused depth path refusals.Absent error told answer (inr lost) = inl lost
tells_refused depth path refusals.WrongKind error told answer (inl is) = inr (inr (ap (told_at depth path) answer ∙ ap Err (sym is)))
tells_refused depth path refusals.WrongKind error told answer (inr lost) = inl lost
tells_refused depth path refusals.LinkLoop error told answer (inl is) = inr (inr (ap (told_at depth path) answer ∙ ap Err (sym is)))
tells_refused depth path refusals.LinkLoop error told answer (inr lost) = inl lost
tells_refused depth path refusals.Exists error told answer from = absurd answer
tells_refused depth path refusals.NotEmpty error told answer from = absurd answer
tells_refused depth path refusals.Failed error told answer (inl is) = inr (inl is)
tells_refused depth path refusals.Failed error told answer (inr lost) = inl lost
tells_refused depth path refusals.NoMemory error told answer from = inl from

no_cost : (error other : Error) (before now : ℕ) → error ≡ other → failures other ≡ 0 → before ≤ now → Costs (failures error) before now
no_cost error other before now is none later = subst (λ n. Costs n before now) (sym (ap failures is ∙ none)) (costs_none before now later)

pub costs_refused : {A : Type 0} (depth : ℕ) (path : Path) (refusal : DiskError) (error : Error) (before now : ℕ)
    → FailsOnlyByFault {A = A} before now (Err refusal)
    → IsFromPath depth path refusal error → Costs (failures error) before now
costs_refused depth path refusals.Absent error before now cause (inl is) =
    no_cost error (io_error depth path refusals.Absent) before now is refl cause.later
costs_refused depth path refusals.Absent error before now cause (inr lost) = no_cost error no_memory before now lost refl cause.later
costs_refused depth path refusals.WrongKind error before now cause (inl is) =
    no_cost error (io_error depth path refusals.WrongKind) before now is refl cause.later
costs_refused depth path refusals.WrongKind error before now cause (inr lost) = no_cost error no_memory before now lost refl cause.later
costs_refused depth path refusals.LinkLoop error before now cause (inl is) =
    no_cost error (io_error depth path refusals.LinkLoop) before now is refl cause.later
costs_refused depth path refusals.LinkLoop error before now cause (inr lost) = no_cost error no_memory before now lost refl cause.later
costs_refused depth path refusals.Exists error before now cause (inl is) =
    no_cost error (io_error depth path refusals.Exists) before now is refl cause.later
costs_refused depth path refusals.Exists error before now cause (inr lost) = no_cost error no_memory before now lost refl cause.later
costs_refused depth path refusals.NotEmpty error before now cause (inl is) =
    no_cost error (io_error depth path refusals.NotEmpty) before now is refl cause.later
costs_refused depth path refusals.NotEmpty error before now cause (inr lost) = no_cost error no_memory before now lost refl cause.later
costs_refused depth path refusals.Failed error before now cause (inl is) =
    subst (λ n. Costs n before now) (sym (ap failures is)) (record { later = cause.later; rose = cause.failed refl })
costs_refused depth path refusals.Failed error before now cause (inr lost) = no_cost error no_memory before now lost refl cause.later
costs_refused depth path refusals.NoMemory error before now cause from = no_cost error no_memory before now from refl cause.later

pub told_found : (state : Option State) (depth : ℕ) (path : Path) (follow : Bool) (meta : Meta)
    → IfSome state (λ s. Answers (Ok meta) (looked (tree_of s) path follow))
    → IfSome state (λ s. Tells depth path (Ok meta) (told_at depth path (looked (tree_of s) path follow)))
told_found None depth path follow meta answer = tt
told_found (Some s) depth path follow meta answer = ap (told_at depth path) answer

pub told_refused : (state : Option State) (depth : ℕ) (path : Path) (follow : Bool) (refusal : DiskError) (error : Error)
    → IfSome state (λ s. Answers {A = Meta} (Err refusal) (looked (tree_of s) path follow)) → IsFromPath depth path refusal error
    → IfSome state (λ s. Tells {A = Meta} depth path (Err error) (told_at depth path (looked (tree_of s) path follow)))
told_refused None depth path follow refusal error answer from = tt
told_refused (Some s) depth path follow refusal error answer from =
    tells_refused depth path refusal error (looked (tree_of s) path follow) answer from

-- ---- streams

pub costs_broken : {A : Type 0} (depth : ℕ) (refusal : DiskError) (before now : ℕ) → FailsOnlyByFault {A = A} before now (Err refusal)
    → Costs (failures (stream_failed depth refusal)) before now
costs_broken depth refusals.Absent before now cause = costs_none before now cause.later
costs_broken depth refusals.WrongKind before now cause = costs_none before now cause.later
costs_broken depth refusals.LinkLoop before now cause = costs_none before now cause.later
costs_broken depth refusals.Exists before now cause = costs_none before now cause.later
costs_broken depth refusals.NotEmpty before now cause = costs_none before now cause.later
costs_broken depth refusals.Failed before now cause = record { later = cause.later; rose = cause.failed refl }
costs_broken depth refusals.NoMemory before now cause = costs_none before now cause.later

pub draws_broken : (depth : ℕ) (path : Path) (old new : Streams) (dir : ℕ) (refusal : DiskError) → Gives old new dir (Err refusal)
    → Draws depth path old dir (Some (Err (stream_failed depth refusal))) new
draws_broken depth path old new dir refusals.Absent gives = (inr (inr gives.closed), inl gives.same)
draws_broken depth path old new dir refusals.WrongKind gives = absurd gives
draws_broken depth path old new dir refusals.LinkLoop gives = absurd gives
draws_broken depth path old new dir refusals.Exists gives = absurd gives
draws_broken depth path old new dir refusals.NotEmpty gives = absurd gives
draws_broken depth path old new dir refusals.Failed gives = (inr (inl refl), inl gives)
draws_broken depth path old new dir refusals.NoMemory gives = (inl refl, inl gives)

still_left : (streams : Streams) (dir : ℕ) (entries : List Entry) → finite.get streams.open_dirs dir ≡ Some entries
    → left_of streams dir ≡ length entries
still_left streams dir entries is = ap (λ (o : Option (List Entry)). unwrap_or (option_map length o) 0) is

pub draws_first : (depth : ℕ) (path : Path) (old new : Streams) (dir : ℕ) (entry : Entry) (child : DirEntry) → GivesFirst old new dir entry
    → child ≡ child_of path depth entry
    → Draws depth path old dir (Some (Ok child)) new
draws_first depth path old new dir entry child gives is =
    record { entry = entry; rest = gives.rest; gave = gives.first; child_is = is; streams = gives.left }

-- memory ran out for the child: the entry is gone
pub draws_lost : (depth : ℕ) (path : Path) (old new : Streams) (dir : ℕ) (entry : Entry) (error : Error) → GivesFirst old new dir entry
    → error ≡ no_memory
    → Draws depth path old dir (Some (Err error)) new
draws_lost depth path old new dir entry error gives lost =
    let left : left_of old dir ≡ suc (length gives.rest) = still_left old dir (entry ∷ gives.rest) gives.first in
    let opened : is_open old dir ≡ true = ap is_some gives.first in
    let few : length gives.rest ≤ left_of old dir = omega arith in
    (inl lost, inr (gives.rest, opened, few, gives.left))

-- ---- a stream that is read on

with_left : (old : Streams) (dir : ℕ) (rest : List Entry) → left_of (with_stream old dir rest) dir ≡ length rest
with_left old dir rest = still_left (with_stream old dir rest) dir rest (has_inserted old.open_dirs dir rest)

pub drawn_left : (old : Streams) (dir : ℕ) (new : Streams) → IsDrawn old dir new → left_of new dir ≤ left_of old dir
drawn_left old dir new (inl same) = let e : left_of new dir ≡ left_of old dir = ap (λ (s : Streams). left_of s dir) same in omega arith
drawn_left old dir new (inr drawn) =
    let e : left_of new dir ≡ length drawn.0 = ap (λ (s : Streams). left_of s dir) drawn.3 ∙ with_left old dir drawn.0 in
    let few : length drawn.0 ≤ left_of old dir = drawn.2 in
    omega arith

pub entry_left : (depth : ℕ) (path : Path) (old : Streams) (dir : ℕ) (child : DirEntry) (new : Streams) → DrawsEntry depth path old dir child new
    → left_of old dir ≡ left_of new dir + 1
entry_left depth path old dir child new draws =
    let was : left_of old dir ≡ suc (length draws.rest) = still_left old dir (draws.entry ∷ draws.rest) draws.gave in
    let is : left_of new dir ≡ length draws.rest = ap (λ (s : Streams). left_of s dir) draws.streams ∙ with_left old dir draws.rest in
    omega arith

entry_drawn : (old : Streams) (dir : ℕ) (entry : Entry) (rest : List Entry) (new : Streams) → finite.get old.open_dirs dir ≡ Some (entry ∷ rest)
    → new ≡ with_stream old dir rest
    → IsDrawn old dir new
entry_drawn old dir entry rest new gave is =
    let left : left_of old dir ≡ suc (length rest) = still_left old dir (entry ∷ rest) gave in
    let few : length rest ≤ left_of old dir = omega arith in
    inr (rest, ap is_some gave, few, is)

pub drawn_on : (old : Streams) (dir : ℕ) (mid new : Streams) → IsDrawn old dir mid → IsDrawn mid dir new → IsDrawn old dir new
drawn_on old dir mid new (inl same) more = subst (λ s. IsDrawn s dir new) same more
drawn_on old dir mid new (inr drawn) (inl same) = inr (drawn.0, drawn.1, drawn.2, same ∙ drawn.3)
drawn_on old dir mid new (inr drawn) (inr more) =
    let there : left_of mid dir ≡ length drawn.0 = ap (λ (s : Streams). left_of s dir) drawn.3 ∙ with_left old dir drawn.0 in
    let was : length drawn.0 ≤ left_of old dir = drawn.2 in
    let fewer : length more.0 ≤ left_of mid dir = more.2 in
    let few : length more.0 ≤ left_of old dir = omega arith in
    inr (
      more.0,
      drawn.1,
      few,
      more.3 ∙ ap (λ (s : Streams). with_stream s dir more.0) drawn.3 ∙ ap (λ (m : OpenDirs). record old { open_dirs = m })
          (insert_again old.open_dirs dir drawn.0 more.0),
    )

pub draws_drawn : (depth : ℕ) (path : Path) (old : Streams) (dir : ℕ) (child : DirEntry) (new : Streams) → DrawsEntry depth path old dir child new
    → IsDrawn old dir new
draws_drawn depth path old dir child new draws = entry_drawn old dir draws.entry draws.rest new draws.gave draws.streams

pub child_at : (depth : ℕ) (path : Path) (old : Streams) (dir : ℕ) (child : DirEntry) (new : Streams) → DrawsEntry depth path old dir child new
    → IsAt path depth (Ok child)
child_at depth path old dir child new draws =
    (ap (λ (entry : DirEntry). entry.depth) draws.child_is, (draws.entry.name, ap (λ (entry : DirEntry). entry.path) draws.child_is))

pub at-push : (path : Path) (depth : ℕ) (items : List Item) (item : Item) → AreAt path depth items → IsAt path depth item
    → AreAt path depth (items ++ item ∷ [])
at-push path depth [] item all last = (last, tt)
at-push path depth (first ∷ items) item all last = (all.0, at-push path depth items item all.1 last)

-- what a call on a path is refused by
pub refused_on : (depth : ℕ) (path : Path) (refusal : DiskError) (error : Error) → IsFromPath depth path refusal error → IsOnPath path depth error
refused_on depth path refusals.Absent error (inl is) = subst (λ (e : Error). IsOnPath path depth e) (sym is) (refl, refl)
refused_on depth path refusals.Absent error (inr lost) = subst (λ (e : Error). IsOnPath path depth e) (sym lost) tt
refused_on depth path refusals.WrongKind error (inl is) = subst (λ (e : Error). IsOnPath path depth e) (sym is) (refl, refl)
refused_on depth path refusals.WrongKind error (inr lost) = subst (λ (e : Error). IsOnPath path depth e) (sym lost) tt
refused_on depth path refusals.LinkLoop error (inl is) = subst (λ (e : Error). IsOnPath path depth e) (sym is) (refl, refl)
refused_on depth path refusals.LinkLoop error (inr lost) = subst (λ (e : Error). IsOnPath path depth e) (sym lost) tt
refused_on depth path refusals.Exists error (inl is) = subst (λ (e : Error). IsOnPath path depth e) (sym is) (refl, refl)
refused_on depth path refusals.Exists error (inr lost) = subst (λ (e : Error). IsOnPath path depth e) (sym lost) tt
refused_on depth path refusals.NotEmpty error (inl is) = subst (λ (e : Error). IsOnPath path depth e) (sym is) (refl, refl)
refused_on depth path refusals.NotEmpty error (inr lost) = subst (λ (e : Error). IsOnPath path depth e) (sym lost) tt
refused_on depth path refusals.Failed error (inl is) = subst (λ (e : Error). IsOnPath path depth e) (sym is) (refl, refl)
refused_on depth path refusals.Failed error (inr lost) = subst (λ (e : Error). IsOnPath path depth e) (sym lost) tt
refused_on depth path refusals.NoMemory error is = subst (λ (e : Error). IsOnPath path depth e) (sym is) tt

-- ---- a directory that is opened

pub opens_one : (state : Option State) (path : Path) (old new : Streams) (dir : ℕ) → Opens state path old new dir → OpensAtMost old (Some dir) new
opens_one state path old new dir opens =
    let count : finite.len (finite.insert old.open_dirs dir opens.entries) ≡ open_count old + 1 =
    len-insert nat_cmp_total old.open_dirs dir opens.entries ∙ ap (λ b. cond b (open_count old) (open_count old + 1)) (ap is_some opens.was_free) in
    let peak : new.peak ≡ max old.peak (finite.len (finite.insert old.open_dirs dir opens.entries)) = ap (λ (s : Streams). s.peak) opens.streams in
    record { dirs = (opens.entries, opens.was_free, opens.few, ap (λ (s : Streams). s.open_dirs) opens.streams); peak = omega arith }

pub opens_bounded : (state : Option State) (path : Path) (old new : Streams) (dir : ℕ) → Opens state path old new dir → left_of new dir + 1 ≤ 2 ^ 64
opens_bounded state path old new dir opens =
    let is : left_of new dir ≡ length opens.entries =
    still_left new dir opens.entries (ap (λ (s : Streams). finite.get s.open_dirs dir) opens.streams
    ∙ has_inserted old.open_dirs dir opens.entries) in
    let few : length opens.entries < 2 ^ 64 = opens.few in
    omega arith

-- it was read and closed again
pub opens_closed : (state : Option State) (path : Path) (old mid new : Streams) (dir : ℕ) → Opens state path old mid dir
    → new.open_dirs ≡ finite.remove mid.open_dirs dir
    → new.peak ≡ mid.peak → OpensAtMost old None new
opens_closed state path old mid new dir opens closed same =
    let one = opens_one state path old mid dir opens in
    let le : mid.peak ≤ max old.peak (open_count old + 1) = one.peak in
    record {
      dirs = closed ∙ ap (λ (m : OpenDirs). finite.remove m dir) one.dirs.3 ∙ remove_new old.open_dirs dir one.dirs.0 one.dirs.1;
      peak = omega arith;
    }

-- ---- whatever a stream gives

pub draws_moved : (depth : ℕ) (path : Path) (old : Streams) (dir : ℕ) (item : Option Item) (new : Streams) → Draws depth path old dir item new
    → IsDrawn old dir new
draws_moved depth path old dir None new draws = inl draws.1
draws_moved depth path old dir (Some (Ok child)) new draws = draws_drawn depth path old dir child new draws
draws_moved depth path old dir (Some (Err error)) new draws = draws.1

pub drawn_removed : (old : Streams) (dir : ℕ) (mid : Streams) → IsDrawn old dir mid
    → finite.remove mid.open_dirs dir ≡ finite.remove old.open_dirs dir
drawn_removed old dir mid (inl same) = ap (λ (s : Streams). finite.remove s.open_dirs dir) same
drawn_removed old dir mid (inr drawn) = ap (λ (s : Streams). finite.remove s.open_dirs dir) drawn.3 ∙ remove_again old.open_dirs dir drawn.0
