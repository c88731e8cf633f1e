-- What a write leaves where the disk reports its states: the object's path reads as the header and the data.
use Rattle.std.specs.Prelude.{◌≡◌, ℕ, zero, suc, List, [], ◌∷◌, ◌++◌, map, Option, Some, Result, Ok, Err, refl}
use Rattle.std.proofs.Common.{sym, ap, ◌∙◌, subst, append-nil, append_assoc}
use Rattle.std.specs.List.{concat}
use Rattle.std.specs.Result.{result_ok}
use Rattle.odb_base.specs.Path.{Path}
use Rattle.odb_disk.specs.Ask.{answer_of, change_of_ask, state_told_after, write_answer}
use Rattle.odb_disk.specs.Tree.{State, Tree, IsTree, tree_of}
use Rattle.odb_disk.specs.Tree.Change.{changed}
use Rattle.odb_disk.specs.Tree.Follow.{read_of}
use Rattle.odb_disk.specs.Tree.Write.{Refusal, written, change_of_make_dir, change_of_new_file, change_of_append, change_of_rename}
use Rattle.odb_disk.specs.declared.ask.DiskAsk.{DiskAsk}
use Rattle.odb_disk.specs.declared.ask.DiskAsk.TheVariants as asks
use Rattle.odb_disk.specs.declared.ask.DiskAnswer.{DiskAnswer}
use Rattle.odb_disk.specs.declared.ask.DiskAnswer.TheVariants as answers
use Rattle.odb_disk.specs.declared.disk_error.DiskError.TheVariants as disk_errors
use Rattle.odb_disk.specs.declared.change.Change.{Change}
use Rattle.odb_disk.specs.declared.change.Change.TheVariants.{MakeDir, Rename}
use Rattle.odb_disk.specs.OwnFile.{HasFile}
use Rattle.odb_disk.proofs.OwnFileLaws.{has_new_file, has_file_kept, has_more, moves_file, moved_reads, kept_by_make_dir}
use Rattle.odb_disk.proofs.TreeLemmas.Changed.{IsTree-changed}
use Rattle.odb_disk.proofs.TreeLemmas.Write.{new_file_possible, append_possible, make_dir_possible}
use Rattle.odb_disk.proofs.WayWriteLaws.{make_dir_change}
use Rattle.odb_disk.proofs.WriteLaws.{tree_of-written}
use Rattle.gix_hash.specs.declared.object_id.ObjectId.{ObjectId}
use Rattle.gix_object.specs.Loose.{header_of}
use Rattle.gix_odb_loose.specs.Exchanges.{Exchange, exchanged, left_by, IsGiven, AreGiven}
use Rattle.gix_odb_loose.proofs.ExchangeLaws.{left_by-push, left_by-append, AreGiven-append}
use Rattle.gix_odb_loose.specs.LooseFile.{loose_path}
use Rattle.gix_odb_loose.specs.WriteHistory.WentWell.{tried, made, headed, IsFilled, IsFoldered, IsMoved, IsThere}
use Rattle.gix_odb_loose.specs.WriteOrder.{temp_path, prefix_path}
use Rattle.gix_odb_loose.specs.declared.write_order.WriteHead.{WriteHead}
use Rattle.gix_odb_loose.specs.WriteRuns.ReadBack.{ReadsBack}

-- ---- one exchange that was done

pub record Stepped (s : State) (ask : DiskAsk) (made' : Result Change Refusal) : Type 0 where
  pub change : Change
  pub is : made' ≡ Ok change
  pub leaves : state_told_after (Some s) ask answers.Done ≡ Some (written s (Some change))

done_is : (made' : Result Change Refusal) → answers.Done ≡ write_answer made' → (change : Change) × (made' ≡ Ok change)
done_is (Ok change) e = (change, refl)
done_is (Err refusal) e = absurd (cc e)

stepped : (s : State) (ask : DiskAsk) (made' : Result Change Refusal) → answer_of (tree_of s) ask ≡ write_answer made' → change_of_ask (tree_of s) ask ≡ result_ok made'
    → answers.Done ≡ answer_of (tree_of s) ask → Stepped s ask made'
stepped s ask made' answer change given =
    let d = done_is made' (given ∙ answer) in
    record { change = d.0; is = d.1; leaves = ap (λ (c : Option Change). Some (written s c)) (change ∙ ap (λ (r : Result Change Refusal). result_ok r) d.1) }

new_file_stepped : (s : State) (path : Path) → IsGiven (Some s) (exchanged (asks.NewFile path) answers.Done) → Stepped s (asks.NewFile path) (change_of_new_file (tree_of s) path)
unfolding answer_of change_of_ask
new_file_stepped s path given = stepped s (asks.NewFile path) (change_of_new_file (tree_of s) path) refl refl given

append_stepped : (s : State) (path : Path) (bytes : List ℕ) → IsGiven (Some s) (exchanged (asks.Append path bytes) answers.Done)
    → Stepped s (asks.Append path bytes) (change_of_append (tree_of s) path bytes)
unfolding answer_of change_of_ask
append_stepped s path bytes given = stepped s (asks.Append path bytes) (change_of_append (tree_of s) path bytes) refl refl given

make_dir_stepped : (s : State) (path : Path) → IsGiven (Some s) (exchanged (asks.MakeDir path) answers.Done) → Stepped s (asks.MakeDir path) (change_of_make_dir (tree_of s) path)
unfolding answer_of change_of_ask
make_dir_stepped s path given = stepped s (asks.MakeDir path) (change_of_make_dir (tree_of s) path) refl refl given

rename_stepped : (s : State) (from to : Path) → IsGiven (Some s) (exchanged (asks.Rename from to) answers.Done) → Stepped s (asks.Rename from to) (change_of_rename (tree_of s) from to)
unfolding answer_of change_of_ask
rename_stepped s from to given = stepped s (asks.Rename from to) (change_of_rename (tree_of s) from to) refl refl given

-- ---- the temporary file

-- after some exchanges the file is there, with these bytes
record Holds (path : Path) (bytes : List ℕ) (left : Option State) : Type 0 where
  state : State
  is : left ≡ Some state
  tree : IsTree (tree_of state)
  spot : Path
  file : HasFile (tree_of state) path spot bytes 0

-- a tree after a change of a state, in a variable
to_tree : (s : State) (change : Change) (path spot : Path) (bytes : List ℕ) → IsTree (changed (tree_of s) change) → HasFile (changed (tree_of s) change) path spot bytes 0 → (left : Option State)
    → left ≡ Some (written s (Some change)) → Holds path bytes left
to_tree s change path spot bytes tree file left is =
    record {
      state = written s (Some change);
      is = is;
      tree = subst IsTree (sym (tree_of-written s change)) tree;
      spot = spot;
      file = subst (λ (t : Tree). HasFile t path spot bytes 0) (sym (tree_of-written s change)) file;
    }

-- it is made
holds_new : (s : State) → IsTree (tree_of s) → (path : Path) → IsGiven (Some s) (exchanged (asks.NewFile path) answers.Done)
    → Holds path [] (state_told_after (Some s) (asks.NewFile path) answers.Done)
holds_new s tree path given =
    let step = new_file_stepped s path given in
    let file = has_new_file (tree_of s) tree path step.change step.is in
    to_tree s step.change path file.0 [] (IsTree-changed (tree_of s) step.change tree (new_file_possible (tree_of s) tree path step.change step.is)) file.1 _ step.leaves

-- a piece is appended
holds_more : (path : Path) (bytes more : List ℕ) (left : Option State) → Holds path bytes left → IsGiven left (exchanged (asks.Append path more) answers.Done)
    → Holds path (bytes ++ more) (state_told_after left (asks.Append path more) answers.Done)
holds_more path bytes more left h given =
    let step = append_stepped h.state path more (subst (λ (o : Option State). IsGiven o (exchanged (asks.Append path more) answers.Done)) h.is given) in
    to_tree h.state step.change path h.spot (bytes ++ more) (IsTree-changed (tree_of h.state) step.change h.tree (append_possible (tree_of h.state) h.tree path step.change more step.is))
    (has_more (tree_of h.state) h.tree path h.spot bytes 0 h.file more step.change step.is) _ (ap (λ (o : Option State). state_told_after o (asks.Append path more) answers.Done) h.is ∙ step.leaves)

-- pieces are appended
holds_pieces : (path : Path) (pieces : List (List ℕ)) (bytes : List ℕ) (left : Option State) → Holds path bytes left
    → AreGiven left (map (λ piece. exchanged (asks.Append path piece) answers.Done) pieces)
    → Holds path (bytes ++ concat pieces) (left_by left (map (λ piece. exchanged (asks.Append path piece) answers.Done) pieces))
unfolding AreGiven left_by
holds_pieces path [] bytes left h given = subst (λ (b : List ℕ). Holds path b left) (sym (append-nil bytes)) h
holds_pieces path (piece ∷ pieces) bytes left h given =
    subst (λ (b : List ℕ). Holds path b (left_by (state_told_after left (asks.Append path piece) answers.Done) (map (λ p. exchanged (asks.Append path p) answers.Done) pieces)))
    (append_assoc bytes piece (concat pieces))
    (holds_pieces path pieces (bytes ++ piece) (state_told_after left (asks.Append path piece) answers.Done) (holds_more path bytes piece left h given.0) given.1)

-- a directory is made, or was there
holds_there : (path folder : Path) (bytes : List ℕ) (left : Option State) (answer : DiskAnswer) → IsThere answer → Holds path bytes left → IsGiven left (exchanged (asks.MakeDir folder) answer)
    → Holds path bytes (state_told_after left (asks.MakeDir folder) answer)
holds_there path folder bytes left answers.Done there h given =
    let step = make_dir_stepped h.state folder (subst (λ (o : Option State). IsGiven o (exchanged (asks.MakeDir folder) answers.Done)) h.is given) in
    let change = make_dir_change (tree_of h.state) folder step.change step.is in
    let kept = subst (λ (c : Change). HasFile (changed (tree_of h.state) c) path h.spot bytes 0) (sym change.2)
    (has_file_kept (tree_of h.state) (changed (tree_of h.state) (MakeDir change.0 _)) path h.spot bytes 0
    (kept_by_make_dir (tree_of h.state) h.tree path h.spot bytes 0 h.file folder change.0 _ change.1) h.file) in
    to_tree h.state step.change path h.spot bytes (IsTree-changed (tree_of h.state) step.change h.tree (make_dir_possible (tree_of h.state) h.tree folder step.change step.is)) kept _
    (ap (λ (o : Option State). state_told_after o (asks.MakeDir folder) answers.Done) h.is ∙ step.leaves)
holds_there path folder bytes left (answers.Refused disk_errors.Exists) there h given =
    record { state = h.state; is = ap (λ (o : Option State). state_told_after o (asks.MakeDir folder) (answers.Refused disk_errors.Exists)) h.is; tree = h.tree; spot = h.spot; file = h.file }
holds_there path folder bytes left (answers.Refused disk_errors.Absent) there h given = absurd there
holds_there path folder bytes left (answers.Refused disk_errors.WrongKind) there h given = absurd there
holds_there path folder bytes left (answers.Refused disk_errors.LinkLoop) there h given = absurd there
holds_there path folder bytes left (answers.Refused disk_errors.NotEmpty) there h given = absurd there
holds_there path folder bytes left (answers.Refused disk_errors.Failed) there h given = absurd there
holds_there path folder bytes left (answers.Refused disk_errors.NoMemory) there h given = absurd there
holds_there path folder bytes left (answers.Meta meta) there h given = absurd there
holds_there path folder bytes left (answers.Dir dir) there h given = absurd there
holds_there path folder bytes left (answers.Entry entry) there h given = absurd there
holds_there path folder bytes left answers.End there h given = absurd there
holds_there path folder bytes left (answers.File found time) there h given = absurd there

-- ---- the exchanges of a write

module _ (head : WriteHead) (number : ℕ) (id : ObjectId) (bytes : List ℕ) (s : State) (tree : IsTree (tree_of s)) where
  abbrev temporary : Path
  temporary = temp_path head.objects number

  -- names that were taken leave the state
  tried_left : (n : ℕ) → left_by (Some s) (tried head n) ≡ Some s
  unfolding tried left_by
  tried_left zero = refl
  tried_left (suc n) =
      left_by-push (Some s) (tried head n) (exchanged (asks.NewFile (temp_path head.objects n)) (answers.Refused disk_errors.Exists))
      ∙ ap (λ (o : Option State). state_told_after o (asks.NewFile (temp_path head.objects n)) (answers.Refused disk_errors.Exists)) (tried_left n)

  -- an exchange at the end
  module _ (xs : List Exchange) (x : Exchange) (given : AreGiven (Some s) (xs ++ x ∷ [])) where
    before_given : AreGiven (Some s) xs
    before_given = (AreGiven-append (Some s) xs (x ∷ []) given).0

    last_given : IsGiven (left_by (Some s) xs) x
    unfolding AreGiven
    last_given = (AreGiven-append (Some s) xs (x ∷ []) given).1.0

  holds_made : AreGiven (Some s) (made head number) → Holds temporary [] (left_by (Some s) (made head number))
  holds_made given =
      let x = exchanged (asks.NewFile temporary) answers.Done in
      let last = subst (λ (o : Option State). IsGiven o x) (tried_left number) (last_given (tried head number) x given) in
      subst (Holds temporary []) (sym (left_by-push (Some s) (tried head number) x ∙ ap (λ (o : Option State). state_told_after o (asks.NewFile temporary) answers.Done) (tried_left number)))
      (holds_new s tree temporary last)

  holds_headed : AreGiven (Some s) (headed head number) → Holds temporary (header_of head.kind head.size) (left_by (Some s) (headed head number))
  holds_headed given =
      let x = exchanged (asks.Append temporary (header_of head.kind head.size)) answers.Done in
      subst (Holds temporary (header_of head.kind head.size)) (sym (left_by-push (Some s) (made head number) x))
      (holds_more temporary [] (header_of head.kind head.size) _ (holds_made (before_given (made head number) x given)) (last_given (made head number) x given))

  holds_filled : (past : List Exchange) → IsFilled head number bytes past → AreGiven (Some s) past → Holds temporary (header_of head.kind head.size ++ bytes) (left_by (Some s) past)
  holds_filled past is given =
      let xs = map (λ (piece : List ℕ). exchanged (asks.Append temporary piece) answers.Done) is.pieces in
      let parts = AreGiven-append (Some s) (headed head number) xs (subst (AreGiven (Some s)) is.is given) in
      let holds = holds_pieces temporary is.pieces (header_of head.kind head.size) (left_by (Some s) (headed head number)) (holds_headed parts.0) parts.1 in
      subst (λ (o : Option State). Holds temporary (header_of head.kind head.size ++ bytes) o) (sym (ap (left_by (Some s)) is.is ∙ left_by-append (Some s) (headed head number) xs))
      (subst (λ (b : List ℕ). Holds temporary (header_of head.kind head.size ++ b) (left_by (left_by (Some s) (headed head number)) xs)) is.whole holds)

  holds_foldered : (past : List Exchange) → IsFoldered head number id bytes past → AreGiven (Some s) past → Holds temporary (header_of head.kind head.size ++ bytes) (left_by (Some s) past)
  holds_foldered past is given =
      let x = exchanged (asks.MakeDir (prefix_path head.objects id)) is.answer in
      let all = subst (AreGiven (Some s)) is.is given in
      subst (Holds temporary (header_of head.kind head.size ++ bytes)) (sym (ap (left_by (Some s)) is.is ∙ left_by-push (Some s) is.before x))
      (holds_there temporary (prefix_path head.objects id) (header_of head.kind head.size ++ bytes) _ is.answer is.there
      (holds_filled is.before is.filled (before_given is.before x all)) (last_given is.before x all))

  -- an object that got its name is read back
  pub moved_reads_back : (past : List Exchange) → (is : IsMoved head number id bytes past) → AreGiven (Some s) past
      → ReadsBack head number id bytes (left_by (Some s) is.before) (left_by (Some s) past)
  moved_reads_back past is given =
      let to = loose_path head.objects id in
      let x = exchanged (asks.Rename temporary to) answers.Done in
      let all = subst (AreGiven (Some s)) is.is given in
      let h = holds_foldered is.before is.foldered (before_given is.before x all) in
      let step = rename_stepped h.state temporary to (subst (λ (o : Option State). IsGiven o x) h.is (last_given is.before x all)) in
      let move = moves_file (tree_of h.state) h.tree temporary h.spot (header_of head.kind head.size ++ bytes) 0 h.file to step.change step.is in
      let renames : change_of_rename (tree_of h.state) temporary to ≡ Ok (Rename h.spot move.0) = step.is ∙ ap (λ (c : Change). Ok c) move.2 in
      record {
        state = h.state;
        reached = h.is;
        source = h.spot;
        target = move.0;
        renames = renames;
        leaves =
            ap (left_by (Some s)) is.is ∙ left_by-push (Some s) is.before x ∙ ap (λ (o : Option State). state_told_after o (asks.Rename temporary to) answers.Done) h.is
            ∙ step.leaves ∙ ap (λ (c : Change). Some (written h.state (Some c))) move.2;
        reads =
            λ free.
            ap (λ (t : Tree). read_of t to) (tree_of-written h.state (Rename h.spot move.0))
            ∙ moved_reads (tree_of h.state) h.tree temporary h.spot (header_of head.kind head.size ++ bytes) 0 h.file to move.0 renames free;
      }
