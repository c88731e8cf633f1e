-- Laws of a disk in memory: its state after a call and after a change of another program.
use Rattle.std.proofs.Common.{◌≡◌, ℕ, ◌<◌, ◌^◌, true, List, length, Some, Result, Ok, Err, OnOk, OnErr, IsOk, is_ok, refl, sym, ap, ◌∙◌, subst}
use Rattle.std.specs.Ordering.{nat_cmp}
use Rattle.std.specs.FinSet as set
use Rattle.odb_base.specs.Path.{Path}
use Rattle.odb_disk.specs.Tree.{Tree, State, IsTree, tree_of, state_of, bare_tree}
use Rattle.odb_disk.specs.Tree.Change.{changed, is_possible_in, after_change}
use Rattle.odb_disk.specs.Answers.{Answers}
use Rattle.odb_base.specs.Calls as calls
use Rattle.odb_base.specs.Calls.{Calls, no_calls}
use Rattle.odb_disk.specs.Streams.{Streams, IsLeastClosed, Opens, no_streams, with_opened}
use Rattle.odb_disk.specs.Entries.{opened}
use Rattle.odb_disk.specs.MemDisk.{Volume, after_call, after_outside_change, next_fails, new_volume}
use Rattle.odb_disk.specs.declared.change.Change.{Change}
use Rattle.odb_disk.specs.declared.change.Impossible.{Impossible}
use Rattle.odb_disk.specs.declared.entry.Entry.{Entry}
use Rattle.odb_disk.specs.declared.disk_error.DiskError.{DiskError}
use Rattle.odb_disk.proofs.StreamsLemmas.{free_number}
use Rattle.odb_disk.proofs.TreeLemmas.{tree_of-state_of}
use Rattle.odb_disk.proofs.TreeLemmas.Changed.{IsTree-changed}

-- a tree stays a tree, whether it made a change or refused one
pub IsTree-after : (r : Result (Unit {0}) Impossible) (t u : Tree) (change : Change) → IsTree t → OnOk r (u ≡ changed t change) → OnOk r (is_possible_in t change ≡ true) → OnErr r (u ≡ t) → IsTree u
IsTree-after (Ok x) t u change is_tree made possible kept = subst IsTree (sym made) (IsTree-changed t change is_tree possible)
IsTree-after (Err e) t u change is_tree made possible kept = subst IsTree (sym kept) is_tree

-- ---- a call

pub after_call-state : (v : Volume) → (after_call v).state ≡ v.state
unfolding after_call
after_call-state v = refl

pub after_call-calls : (v : Volume) → (after_call v).calls ≡ calls.after_call (next_fails v) v.calls
unfolding after_call
after_call-calls v = refl

pub after_call-streams : (v : Volume) → (after_call v).streams ≡ v.streams
unfolding after_call
after_call-streams v = refl

pub counted_call : (v : Volume) (made : Calls) → made ≡ calls.after_call (next_fails v) v.calls → record v { calls = made } ≡ after_call v
unfolding after_call
counted_call v made is = ap (λ c. record v { calls = c }) is

-- ---- a change of another program

pub outside_change : (v : Volume) (t : Tree) (change : Change) → v.state ≡ state_of t → record v { state = state_of (changed t change) } ≡ after_outside_change v change
unfolding after_outside_change after_change
outside_change v t change is = ap (λ u. record v { state = state_of (changed u change) }) (sym (tree_of-state_of t) ∙ ap tree_of (sym is))

pub new_disk : (t : Tree) (listed : set.FinSet nat_cmp) (streams : Streams) (made : Calls) → t ≡ bare_tree → streams ≡ no_streams → made ≡ no_calls listed
    → ◌≡◌ {A = Volume} (record { state = state_of t; streams = streams; calls = made }) (new_volume listed)
unfolding new_volume
new_disk t listed streams made bare none same = λ i. record { state = state_of (bare i); streams = none i; calls = same i }

-- ---- a directory that is opened, by what its tree says

module _ (t : Tree) (s : State) (path : Path) (same : state_of t ≡ s) where
  opened-state_of : opened t path ≡ opened (tree_of s) path
  opened-state_of = ap (λ u. opened u path) (sym (tree_of-state_of t) ∙ ap tree_of same)

  pub open_refused : (e : DiskError) → Answers {A = List Entry} (Err e) (opened t path) → Answers {A = List Entry} (Err e) (opened (tree_of s) path)
  open_refused e told = subst (Answers {A = List Entry} (Err e)) opened-state_of told

  module _ (entries : List Entry) (told : opened t path ≡ Ok entries) where
    pub open_answers : IsOk (opened (tree_of s) path)
    open_answers = ap is_ok (sym opened-state_of ∙ told)

    pub Opens-from : (seen old new : Streams) (dir : ℕ) → seen ≡ old → new ≡ with_opened seen dir entries → IsLeastClosed seen.open_dirs dir → length entries < 2 ^ 64 → Opens (Some s) path old new dir
    Opens-from seen old new dir is put least few = record {
      entries = entries;
      was_free = free_number old.open_dirs dir (subst (λ q. IsLeastClosed q.open_dirs dir) is least);
      few = few;
      streams = put ∙ ap (λ q. with_opened q dir entries) is;
      fixed = sym opened-state_of ∙ told;
    }
