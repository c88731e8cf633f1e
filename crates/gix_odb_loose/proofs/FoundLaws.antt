-- An object that was written is found, for callers: what a find returns from the file that a write leaves.
use Rattle.std.specs.Prelude.{◌≡◌, ℕ, ◌^◌, ◌<◌, List, [], ◌∷◌, ◌++◌, take, drop, length, Option, Some, Result, Ok}
use Rattle.std.proofs.Common.{sym, ap, ◌∙◌, subst, append_assoc}
use Rattle.odb_base.specs.Path.{Path}
use Rattle.odb_disk.specs.Tree.{State, Tree, tree_of}
use Rattle.odb_disk.specs.Tree.Follow.{read_of}
use Rattle.odb_disk.specs.Tree.Way.{crosses}
use Rattle.odb_disk.specs.Tree.Write.{spot, replaceable, written}
use Rattle.odb_disk.specs.declared.change.Change.TheVariants.{Rename}
use Rattle.gix_hash.specs.ObjectId.{hex_of}
use Rattle.gix_odb_loose.specs.WriteOrder.{prefix_path, temp_path}
use Rattle.odb_disk.proofs.CrossesLaws.{StandsPlain, crosses_plain, replaceable_spot}
use Rattle.odb_disk.proofs.WayWriteLaws.{rename_change}
use Rattle.gix_hash.specs.declared.object_id.ObjectId.{ObjectId}
use Rattle.gix_object.specs.Loose.{header_of}
use Rattle.gix_object.proofs.LooseLaws.{IsLoose-header_of}
use Rattle.gix_object.specs.declared.kind.Kind.{Kind}
use Rattle.gix_odb_loose.specs.LooseFile.{Gives, HoldsObject, IsWithin, loose_path}
use Rattle.gix_hash.specs.declared.kind.Kind.{Kind as HashKind}
use Rattle.gix_object.specs.Data.{Object}
use Rattle.gix_odb_loose.specs.Answers.{ComesTo, Finds}
use Rattle.gix_odb_loose.specs.Exchanges.{Exchange, left_by}
use Rattle.gix_odb_loose.specs.Store.{store_path, store_limit}
use Rattle.gix_odb_loose.specs.WriteRuns.{Writes, write_head}
use Rattle.gix_odb_loose.specs.WriteRuns.ReadBack.{ReadsBack}
use Rattle.gix_odb_loose.specs.declared.find.Error.{Error}
use Rattle.gix_odb_loose.specs.declared.store.Store.{Store}
use Rattle.gix_odb_loose.specs.declared.write_order.WriteHead.{WriteHead}

-- ---- what is read back

module _ (head : WriteHead) (number : ℕ) (id : ObjectId) (bytes : List ℕ) (before left : Option State) (back : ReadsBack head number id bytes before left) where
  -- where no link is on the way to the object's directory, nothing else is assumed
  pub reads_back_own : StandsPlain (tree_of back.state) (prefix_path head.objects id)
      → read_of (tree_of (written back.state (Some (Rename back.source back.target)))) (loose_path head.objects id) ≡ Ok (header_of head.kind head.size ++ bytes, 0)
  unfolding loose_path prefix_path
  reads_back_own plain =
      let name = drop 2 (hex_of id) in
      let path_is : loose_path head.objects id ≡ prefix_path head.objects id ++ name ∷ [] = sym (append_assoc head.objects (take 2 (hex_of id) ∷ []) (name ∷ [])) in
      let change = rename_change (tree_of back.state) (temp_path head.objects number) (Rename back.source back.target) (loose_path head.objects id) back.renames in
      let target : change.1 ≡ back.target = cc change.4 in
      let there = replaceable_spot (tree_of back.state) (loose_path head.objects id) back.target
      (subst (λ (p : Path). replaceable (tree_of back.state) (loose_path head.objects id) ≡ Ok p) target change.3) in
      back.reads
      (ap (λ (p : Path). crosses (tree_of back.state) p back.target) path_is
      ∙ crosses_plain (tree_of back.state) (prefix_path head.objects id) plain name back.target (ap (spot (tree_of back.state)) (sym path_is) ∙ there))

-- a file of a header and as many data as it says holds the object, for each limit that allows them
pub holds_object : (limit : Option ℕ) (kind : Kind) (bytes : List ℕ) → length bytes < 2 ^ 64 → IsWithin limit (length bytes) → HoldsObject limit (header_of kind (length bytes) ++ bytes) kind bytes
holds_object limit kind bytes fits within = record { spelled = IsLoose-header_of kind (length bytes) bytes fits; within = within }

-- so a read of the path that gives this file gives the object, which is what a find returns
pub gives_object : (limit : Option ℕ) (tree : Tree) (head : WriteHead) (id : ObjectId) (bytes : List ℕ) (time : ℕ) → length bytes ≡ head.size → length bytes < 2 ^ 64 → IsWithin limit (length bytes)
    → read_of tree (loose_path head.objects id) ≡ Ok (header_of head.kind head.size ++ bytes, time) → Gives (read_of tree (loose_path head.objects id)) (λ file. HoldsObject limit file head.kind bytes)
gives_object limit tree head id bytes time size fits within read =
    record {
      bytes = header_of head.kind head.size ++ bytes;
      time = time;
      given = read;
      holds = subst (λ (n : ℕ). HoldsObject limit (header_of head.kind n ++ bytes) head.kind bytes) size (holds_object limit head.kind bytes fits within);
    }

-- An object that was written is found: where no link was on the way to its directory before the rename, a find in the state
-- that the write left returns it, whatever else is there.
pub written_is_found : (store : Store) (kind : Kind) (size : ℕ) (hash : HashKind) (known : Option ObjectId) (source : Option (List ℕ)) (s : State) (new : Option State) (exchanges : List Exchange)
    (id : ObjectId)
    → (writes : Writes (write_head store kind size) hash known source (Some s) new exchanges id) → size < 2 ^ 64 → IsWithin (store_limit store) size
    → ((at_rename : State) → left_by (Some s) writes.moved.before ≡ Some at_rename → StandsPlain (tree_of at_rename) (prefix_path (store_path store) id))
    → (after : State) → new ≡ Some after → (Failed : Type 0) (result : Result (Option Object) Error) → Finds store id after Failed result
    → ComesTo Failed result (Some (record { kind = kind; bytes = writes.bytes }))
written_is_found store kind size hash known source s new exchanges id writes fits within plain after is Failed result finds =
    let back = writes.read_back in
    let head = write_head store kind size in
    let same : after ≡ written back.state (Some (Rename back.source back.target)) = cc (sym is ∙ back.leaves) in
    let read = subst (λ (now : State). read_of (tree_of now) (loose_path (store_path store) id) ≡ Ok (header_of kind size ++ writes.bytes, 0)) (sym same)
    (reads_back_own head writes.number id writes.bytes (left_by (Some s) writes.moved.before) new back (plain back.state back.reached)) in
    finds.finds (record { kind = kind; bytes = writes.bytes })
    (gives_object (store_limit store) (tree_of after) head id writes.bytes 0 writes.size (subst (λ (n : ℕ). n < 2 ^ 64) (sym writes.size) fits)
    (subst (λ (n : ℕ). IsWithin (store_limit store) n) (sym writes.size) within) read)
