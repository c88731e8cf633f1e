-- What a writer changes in a turn, and what lies at the path of its temporary file when it has made it.
pub mod AtWrite
use Rattle.std.proofs.Common.{◌≡◌, ℕ, ◌+◌, List, [], take, Option, Some, None, Result, Ok, Err, sym, ap, ◌∙◌, subst}
use Rattle.std.specs.Result.{result_ok}
use Rattle.odb_base.specs.Path.{Path}
use Rattle.odb_disk.specs.Ask.{change_of_ask, fails_now, op_of}
use Rattle.odb_disk.specs.MemDisk.{Volume, next_fails}
use Rattle.odb_disk.specs.Tree.{IsTree, Tree, tree_of}
use Rattle.odb_disk.specs.Tree.Change.{changed}
use Rattle.odb_disk.specs.Tree.Write as writing
use Rattle.odb_disk.specs.Tree.Write.{change_of_append, change_of_make_dir, change_of_new_file, change_of_remove, change_of_rename, vacant}
use Rattle.odb_disk.specs.declared.ask.DiskAnswer.TheVariants as answers
use Rattle.odb_disk.specs.declared.ask.DiskAsk.{DiskAsk}
use Rattle.odb_disk.specs.declared.ask.DiskAsk.TheVariants as asks
use Rattle.odb_disk.specs.declared.ask.Op.TheVariants as ops
use Rattle.odb_disk.specs.declared.change.Change.{Change}
use Rattle.odb_disk.specs.declared.change.Change.TheVariants.{PutFile, MakeDir, Rename, Append, Remove}
use Rattle.odb_disk.proofs.OwnWayLaws.{Cut, IsOwnChange, OwnSpot, cut_no_append, cut_no_dir, cut_no_remove, cut_no_rename, own_append, own_dir_change, own_new, own_new_change, own_remove, own_rename}
use Rattle.odb_disk.proofs.TreeLemmas.Write.{replaceable_at}
use Rattle.odb_disk.proofs.WayWriteLaws.{append_change, make_dir_change, new_file_change, remove_change}
use Rattle.gix_hash.specs.declared.object_id.ObjectId.{ObjectId}
use Rattle.gix_odb_loose.specs.LooseFile.{loose_path}
use Rattle.gix_odb_loose.specs.WriteOrder.{number_made, prefix_path, temp_path}
use Rattle.gix_odb_loose.specs.declared.write_order.WriteStage.{WriteStage}
use Rattle.gix_odb_loose.specs.declared.write_order.WriteStage.TheVariants as stages
use Rattle.gix_odb_loose.proofs.NameLaws.{IsTemporary, object_spot, prefix_path-is, temp_path-is}
use Rattle.gix_odb_world.specs.Recorded.{opened_in}
use Rattle.gix_odb_history.specs.PathRecorded.{path_recorded}
use Rattle.gix_odb_history.specs.declared.record.Did.TheVariants.{Disk}
use Rattle.gix_odb_history.specs.Event.{Event}
use Rattle.gix_odb_history.specs.Run.{change_by, disk_after, tree_at, NoCall}
use Rattle.gix_odb_history.specs.Writing.{AskedAt, ToWrite}
use Rattle.gix_odb_world.proofs.LawfulRun.{LawfulRun}
use Rattle.gix_odb_world.proofs.RunSteps.{IsLeft, Made, Quiet, Turned, change_by_some, is_tree_at, kind_at, left_at}
use Rattle.gix_odb_history.proofs.WriteAsk.{Told, done_made, told_append, told_make_dir, told_new_file, told_remove, told_rename}
use Rattle.gix_odb_world.proofs.WriteTurn.{ask_at_stage}

abbrev pub NotTemporary : Path → Type 0
NotTemporary path = ¬ (IsTemporary path)

-- ---- the change of a writer at a stage

from_ok : {A B : Type 0} (told : Result A B) (x : A) → result_ok told ≡ Some x → told ≡ Ok x
from_ok (Ok y) x is = cc
from_ok (Err e) x is = absurd (cc)

-- it is that of the call which the stage makes
abbrev pub WriterMoves : Tree → Path → WriteStage → Change → Type 0
WriterMoves t objects (stages.Making number) c = change_of_new_file t (temp_path objects number) ≡ Ok c
WriterMoves t objects (stages.Heading number) c = (more : List ℕ) × (change_of_append t (temp_path objects number) more ≡ Ok c)
WriterMoves t objects (stages.Filling number written) c = (more : List ℕ) × (change_of_append t (temp_path objects number) more ≡ Ok c)
WriterMoves t objects (stages.Foldering number id) c = change_of_make_dir t (prefix_path objects id) ≡ Ok c
WriterMoves t objects (stages.Moving number id) c = change_of_rename t (temp_path objects number) (loose_path objects id) ≡ Ok c
WriterMoves t objects (stages.Removing number refusal) c = change_of_remove t (temp_path objects number) ≡ Ok c

told_change : (t : Tree) (ask : DiskAsk) (told : Result Change writing.Refusal) (c : Change) → Told t ask told → change_of_ask t ask ≡ Some c
    → told ≡ Ok c
told_change t ask told c tells is = from_ok told c (sym tells.change ∙ is)

pub writer_moves : (disk : Volume) (w : ToWrite) (stage : WriteStage) (c : Change) → change_by disk (ask_at_stage w stage) ≡ Some c
    → WriterMoves (tree_of disk.state) w.objects stage c
writer_moves disk w (stages.Making number) c is = told_change _ _ _ c (told_new_file _ _) (change_by_some disk _ c is)
writer_moves disk w (stages.Heading number) c is = (_, told_change _ _ _ c (told_append _ _ _) (change_by_some disk _ c is))
writer_moves disk w (stages.Filling number written) c is = (_, told_change _ _ _ c (told_append _ _ _) (change_by_some disk _ c is))
writer_moves disk w (stages.Foldering number id) c is = told_change _ _ _ c (told_make_dir _ _) (change_by_some disk _ c is)
writer_moves disk w (stages.Moving number id) c is = told_change _ _ _ c (told_rename _ _ _) (change_by_some disk _ c is)
writer_moves disk w (stages.Removing number refusal) c is = told_change _ _ _ c (told_remove _ _) (change_by_some disk _ c is)

-- a change of a writer whose file is at s; if it moves the file, the target is no place of a temporary file
pub record Does (t : Tree) (s : Path) (c : Change) : Type 0 where
  pub own : IsOwnChange t s c
  pub onto : (p : Path) → c ≡ Rename s p → NotTemporary p

module _ (t : Tree) (is_tree : IsTree t) (objects : Path) (c : Change) where
  does_new : (path s : Path) → change_of_new_file t path ≡ Ok c → Does t s c
  does_new path s is = record {
    own = own_new_change t is_tree path c s is;
    onto = λ p renames. let n = new_file_change t path c is in let both : PutFile n.0 0 []
        ≡ Rename s p = sym n.2 ∙ renames in absurd (cc both);
  }

  does_dir : (path s : Path) → change_of_make_dir t path ≡ Ok c → Does t s c
  does_dir path s is = record {
    own = own_dir_change t is_tree path c s is;
    onto = λ p renames. let n = make_dir_change t path c is in let both : MakeDir n.0 _
        ≡ Rename s p = sym n.2 ∙ renames in absurd (cc both);
  }

  module _ (path s : Path) (own : OwnSpot t path s) where
    does_append : (more : List ℕ) → change_of_append t path more ≡ Ok c → Does t s c
    does_append more is = record {
      own = own_append t is_tree path c s own more is;
      onto = λ p renames. let n = append_change t path c more is in let both : Append n.0 more ≡ Rename s p = sym n.2 ∙ renames in absurd (cc both);
    }

    does_remove : change_of_remove t path ≡ Ok c → Does t s c
    does_remove is = record {
      own = own_remove t is_tree path c s own is;
      onto = λ p renames. let n = remove_change t path c is in let both : Remove n.0 ≡ Rename s p = sym n.2
          ∙ renames in absurd (cc both);
    }

    does_rename : (id : ObjectId) → change_of_rename t path (loose_path objects id) ≡ Ok c → Does t s c
    does_rename id is =
        let r = own_rename t is_tree path c s own (loose_path objects id) is in
        record {
          own = r.3;
          onto = λ p renames.
              let both : Rename s r.0 ≡ Rename s p = sym r.1 ∙ renames in
              let same : r.0 ≡ p = cc both in
              object_spot t objects id p (subst (λ q. writing.spot t (loose_path objects id) ≡ Ok q) same (replaceable_at t (loose_path objects id) r.0 r.2).is);
        }

  -- a writer that has made its file
  pub does : (stage : WriteStage) (number : ℕ) (s : Path) → number_made stage ≡ Some number → OwnSpot t (temp_path objects number) s
      → WriterMoves t objects stage c → Does t s c
  does (stages.Making n) number s made own moves = absurd (cc made)
  does (stages.Heading n) number s made own moves = let same : number ≡ n = cc made in does_append (temp_path objects n) s (subst (λ m. OwnSpot t (temp_path objects m) s) same own) moves.0 moves.1
  does (stages.Filling n written) number s made own moves = let same : number ≡ n = cc made in does_append (temp_path objects n) s
      (subst (λ m. OwnSpot t (temp_path objects m) s) same own) moves.0 moves.1
  does (stages.Foldering n id) number s made own moves = does_dir (prefix_path objects id) s moves
  does (stages.Moving n id) number s made own moves = let same : number ≡ n = cc made in does_rename (temp_path objects n) s (subst (λ m. OwnSpot t (temp_path objects m) s) same own) id moves
  does (stages.Removing n refusal) number s made own moves = let same : number ≡ n = cc made in does_remove (temp_path objects n) s (subst (λ m. OwnSpot t (temp_path objects m) s) same own) moves

  -- a writer that has none yet makes it
  pub does_first : (stage : WriteStage) (s : Path) → number_made stage ≡ None → WriterMoves t objects stage c → Does t s c
  does_first (stages.Making n) s none moves = does_new (temp_path objects n) s moves
  does_first (stages.Heading n) s none moves = absurd (cc none)
  does_first (stages.Filling n written) s none moves = absurd (cc none)
  does_first (stages.Foldering n id) s none moves = absurd (cc none)
  does_first (stages.Moving n id) s none moves = absurd (cc none)
  does_first (stages.Removing n refusal) s none moves = absurd (cc none)

  -- a writer that was cut off changes nothing
  pub does_nothing : (stage : WriteStage) (number : ℕ) → number_made stage ≡ Some number → Cut NotTemporary t objects
      → ¬ (WriterMoves t objects stage c)
  does_nothing (stages.Making n) number made cut moves = cc made
  does_nothing (stages.Heading n) number made cut moves = cut_no_append NotTemporary t is_tree objects _ cut c moves.0 (ap (λ p. change_of_append t p moves.0) (sym (temp_path-is objects n)) ∙ moves.1)
  does_nothing (stages.Filling n written) number made cut moves = cut_no_append NotTemporary t is_tree objects _ cut c moves.0
      (ap (λ p. change_of_append t p moves.0) (sym (temp_path-is objects n)) ∙ moves.1)
  does_nothing (stages.Foldering n id) number made cut moves = cut_no_dir NotTemporary t is_tree objects _ cut c (ap (change_of_make_dir t) (sym (prefix_path-is objects id)) ∙ moves)
  does_nothing (stages.Moving n id) number made cut moves = cut_no_rename NotTemporary t is_tree objects _ cut c (loose_path objects id)
      (ap (λ p. change_of_rename t p (loose_path objects id)) (sym (temp_path-is objects n)) ∙ moves)
  does_nothing (stages.Removing n refusal) number made cut moves = cut_no_remove NotTemporary t is_tree objects _ cut c (ap (change_of_remove t) (sym (temp_path-is objects n)) ∙ moves)

-- ---- the making of a temporary file

new_file_ask : (opened : Option Path) (ask : DiskAsk) (path : Path) → op_of ask ≡ ops.NewFile → path_recorded opened ask ≡ path → ask ≡ asks.NewFile path
new_file_ask opened (asks.Look p follow) path op is = absurd (cc)
new_file_ask opened (asks.Read p) path op is = absurd (cc)
new_file_ask opened (asks.OpenDir p) path op is = absurd (cc)
new_file_ask opened (asks.NextEntry dir) path op is = absurd (cc)
new_file_ask opened (asks.CloseDir dir) path op is = absurd (cc)
new_file_ask opened (asks.MakeDir p) path op is = absurd (cc)
new_file_ask opened (asks.NewFile p) path op is = ap asks.NewFile is
new_file_ask opened (asks.Append p bytes) path op is = absurd (cc)
new_file_ask opened (asks.Rename from to) path op is = absurd (cc)
new_file_ask opened (asks.Remove p) path op is = absurd (cc)

-- where a temporary file was made, at a spot where nothing was
pub record IsNewAt (first : Volume) (events : List Event) (made : ℕ) (e : Event) (path : Path) : Type 0 where
  pub spot : Path
  pub put : e.entry.change ≡ Some (PutFile spot 0 [])
  pub free : vacant (tree_at first events made) path ≡ Ok spot
  pub own : OwnSpot (tree_at first events (made + 1)) path spot

module _ (run : LawfulRun) where
  open run use {first, events}

  pub new_at : (handle made : ℕ) (path : Path) (a : AskedAt first events handle made (asks.NewFile path) answers.Done)
      → IsNewAt first events made a.event path
  new_at handle made path a = elim (kind_at run made a.event a.there) [
    | Quiet q ↦ absurd (subst NoCall a.did.1 q.did)
    | Made m ↦ absurd (subst NoCall a.did.1 m.did)
    | Turned t ↦
        let disk = disk_after first (take made events) in
        let before = tree_at first events made in
        let opened = opened_in t.running.work in
        let both : Disk (op_of t.works.ask) (path_recorded opened t.works.ask) (fails_now disk t.works.ask) ≡ Disk ops.NewFile path (next_fails disk) =
        sym t.works.asked ∙ a.did.1 in
        let ask = new_file_ask opened t.works.ask path (cc both) (cc both) in
        let m = done_made disk (asks.NewFile path) (change_of_new_file before path) (told_new_file before path) a.given in
        let makes : a.event.entry.change ≡ Some m.change = t.works.changed ∙ (ap (change_by disk) ask ∙ m.made) in
        let n = own_new before (is_tree_at run made) path m.change m.is in
        let after : tree_at first events (made + 1) ≡ changed before m.change = subst (IsLeft before (tree_at first events (made + 1))) makes
        (left_at run made a.event a.there) in
        record { spot = n.0; put = makes ∙ ap Some n.1; free = n.2; own = subst (λ u. OwnSpot u path n.0) (sym after) n.3 }
  ]
