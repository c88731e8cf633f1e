-- What the disk answers while an object lies in a pack: the calls that stat or read its index, the multi-pack index, its pack or their folder find them.
use Rattle.std.proofs.Common.{◌≡◌, ℕ, Bool, true, false, List, Option, Result, Ok, Err, refl, sym, ap, ◌∙◌, subst}
use Rattle.std.specs.Prelude.{if◌then◌else◌}
use Rattle.odb_base.specs.Path.{Path}
use Rattle.odb_disk.specs.Entries.{opened}
use Rattle.odb_disk.specs.Tree.{Tree, tree_of}
use Rattle.odb_disk.specs.Tree.Follow.{Absent, LinkLoop, Refusal, WrongKind, looked, read_of}
use Rattle.odb_disk.specs.declared.disk_error.DiskError.TheVariants as errors
use Rattle.odb_disk.specs.declared.entry.Entry.{Entry}
use Rattle.odb_disk.specs.declared.meta.Meta.{Meta}
use Rattle.odb_disk.specs.Ask.{answer_in, answer_now, answer_of, dir_answer, fails_now, file_answer, meta_answer}
use Rattle.odb_disk.specs.MemDisk.{Volume}
use Rattle.odb_disk.specs.StreamAsks.{least_closed}
use Rattle.odb_disk.specs.declared.ask.DiskAsk.{DiskAsk}
use Rattle.odb_disk.specs.declared.ask.DiskAsk.TheVariants as asks
use Rattle.odb_disk.specs.declared.ask.DiskAnswer.{DiskAnswer}
use Rattle.odb_disk.specs.declared.ask.DiskAnswer.TheVariants as answers
use Rattle.gix_hash.specs.declared.object_id.ObjectId.{ObjectId}
use Rattle.gix_odb_search.specs.PackFolder.{pack_folder}
use Rattle.gix_odb.specs.LookExchanges.{Exchange}
use Rattle.gix_odb.specs.Fair.{Carrier, IsDir, IsDiskFair, IsFile, IsFileMeta, IsIndexBy, IsItsIndex, IsMultiFair, IsSoundFile, ItsIndex, PackedPlace, TheMulti}
use Rattle.gix_odb.specs.Fair.{carrier_name, index_at, multi_at, pack_at}
use Rattle.gix_odb.specs.Store.{listed_for}
use Rattle.gix_odb_calls.specs.declared.store_parts.StoreParts.{StoreParts}
use Rattle.gix_odb_search.specs.declared.multi_pack.MultiUse.{MultiUse}
use Rattle.gix_odb_world.specs.Running.PackedStill.{LiesBy, LiesPacked}
use Rattle.gix_odb_world.proofs.PackedStill.Contents.{carrier_itself}
use Rattle.gix_odb_world.proofs.PackedStill.Directory.{folder_of_a_name_opens, read_file_is_looked_at}

-- a call that doesn't fail is answered by the tree and the streams
answers_as_it_is : (disk : Volume) (ask : DiskAsk) → fails_now disk ask ≡ false → answer_now disk ask ≡ answer_in (tree_of disk.state) disk.streams ask
answers_as_it_is disk ask works =
    ap (λ (b : Bool). if b then answers.Refused errors.Failed else answer_in (tree_of disk.state) disk.streams ask) works

module _ (store : StoreParts) (id : ObjectId) (place : PackedPlace) (tree : Tree) (lies : LiesPacked store tree id place) where
  abbrev multi : Option MultiUse
  multi = (listed_for store).multi

  -- ---- what the tree says

  index_is_read : (path : Path) → IsItsIndex place path → IsSoundFile multi store.object_hash id place (file_answer (read_of tree path))
  index_is_read path here = by place.carrier lies.by_carrier here
    where
      by : (carrier : Carrier) → LiesBy carrier store tree id place → IsIndexBy carrier (index_at place) path
          → IsSoundFile multi store.object_hash id place (file_answer (read_of tree path))
      by ItsIndex own here =
          subst (λ (r : Result (List ℕ × ℕ) Refusal). IsSoundFile multi store.object_hash id place (file_answer r))
          (sym (ap (read_of tree) here ∙ own.shows_index.1)) own.gives
      by TheMulti own here = absurd here

  multi_is_read : (path : Path) → path ≡ multi_at place → IsMultiFair multi store.object_hash id place place.carrier (file_answer (read_of tree path))
  multi_is_read path here = by place.carrier lies.by_carrier
    where
      agrees : (own : LiesBy ItsIndex store tree id place) (r : Result (List ℕ × ℕ) Refusal) → read_of tree (multi_at place) ≡ r
          → IsMultiFair multi store.object_hash id place ItsIndex (file_answer r)
      agrees own (Ok (bytes, time)) is = own.agrees bytes (time, is)
      agrees own (Err Absent) is = tt
      agrees own (Err WrongKind) is = tt
      agrees own (Err LinkLoop) is = tt

      by : (carrier : Carrier) → LiesBy carrier store tree id place → IsMultiFair multi store.object_hash id place carrier (file_answer (read_of tree path))
      by ItsIndex own = agrees own (read_of tree path) (ap (read_of tree) (sym here))
      by TheMulti own =
          subst (λ (r : Result (List ℕ × ℕ) Refusal). IsMultiFair multi store.object_hash id place TheMulti (file_answer r))
          (sym (ap (read_of tree) here ∙ own.shows_multi.1)) own.gives

  pack_is_read : (path : Path) → path ≡ pack_at place → IsFile (file_answer (read_of tree path))
  pack_is_read path here =
      subst (λ (r : Result (List ℕ × ℕ) Refusal). IsFile (file_answer r)) (sym (ap (read_of tree) here ∙ lies.shows_pack.1)) tt

  finds_file : (path : Path) (follow : Bool) (meta : Meta) → looked tree path follow ≡ Ok meta → IsFileMeta (answers.Meta meta) → IsFileMeta (meta_answer (looked tree path follow))
  finds_file path follow meta is file = subst (λ (r : Result Meta Refusal). IsFileMeta (meta_answer r)) (sym is) file

  index_is_looked_at : (path : Path) (follow : Bool) → IsItsIndex place path → IsFileMeta (meta_answer (looked tree path follow))
  index_is_looked_at path follow here = by place.carrier lies.by_carrier here follow
    where
      by : (carrier : Carrier) → LiesBy carrier store tree id place → IsIndexBy carrier (index_at place) path → (follow : Bool) → IsFileMeta (meta_answer (looked tree path follow))
      by ItsIndex own here false =
          finds_file path false own.itself.meta (ap (λ p. looked tree p false) here ∙ own.itself.looks) own.itself.is_file
      by ItsIndex own here true =
          let found = read_file_is_looked_at tree (index_at place) (own.index, own.shows_index.0) own.shows_index.1 in
          finds_file path true found.0 (ap (λ p. looked tree p true) here ∙ found.1) found.2
      by TheMulti own here follow = absurd here

  pack_is_looked_at : (path : Path) (follow : Bool) → path ≡ pack_at place → follow ≡ true → IsFileMeta (meta_answer (looked tree path follow))
  pack_is_looked_at path false here follows = absurd (cc follows)
  pack_is_looked_at path true here follows =
      let found = read_file_is_looked_at tree (pack_at place) (lies.pack, lies.shows_pack.0) lies.shows_pack.1 in
      finds_file path true found.0 (ap (λ p. looked tree p true) here ∙ found.1) found.2

  folder_is_opened : (dir : ℕ) (path : Path) → path ≡ pack_folder place.folder → IsDir (dir_answer dir (opened tree path))
  folder_is_opened dir path here =
      let itself = carrier_itself store tree id place lies in
      let opens = folder_of_a_name_opens tree (pack_folder place.folder) (carrier_name place) itself.meta itself.looks in
      subst (λ (r : Result (List Entry) Refusal). IsDir (dir_answer dir r)) (sym (ap (opened tree) here ∙ opens.1)) tt

-- ---- what the disk answers

module _ (store : StoreParts) (id : ObjectId) (place : PackedPlace) (disk : Volume) (lies : LiesPacked store (tree_of disk.state) id place) (past : List Exchange) where
  abbrev tree : Tree
  tree = tree_of disk.state

  abbrev IsFairFor : DiskAsk → DiskAnswer → Type 0
  IsFairFor ask answer = IsDiskFair (listed_for store).multi store.object_hash id place past ask answer

  -- each call that doesn't fail is fair, where that for the next entry of a stream is
  pub calls_are_fair : (ask : DiskAsk) → fails_now disk ask ≡ false
      → ((dir : ℕ) → ask ≡ asks.NextEntry dir → IsFairFor (asks.NextEntry dir) (answer_now disk (asks.NextEntry dir)))
      → IsFairFor ask (answer_now disk ask)
  unfolding answer_of
  calls_are_fair (asks.Read path) works next =
      subst (IsFairFor (asks.Read path)) (sym (answers_as_it_is disk (asks.Read path) works))
      (index_is_read store id place tree lies path, multi_is_read store id place tree lies path, pack_is_read store id place tree lies path)
  calls_are_fair (asks.Look path follow) works next =
      subst (IsFairFor (asks.Look path follow)) (sym (answers_as_it_is disk (asks.Look path follow) works))
      (index_is_looked_at store id place tree lies path follow, pack_is_looked_at store id place tree lies path follow)
  calls_are_fair (asks.OpenDir path) works next =
      subst (IsFairFor (asks.OpenDir path)) (sym (answers_as_it_is disk (asks.OpenDir path) works))
      (folder_is_opened store id place tree lies (least_closed disk.streams) path)
  calls_are_fair (asks.NextEntry dir) works next = next dir refl
  calls_are_fair (asks.CloseDir dir) works next = tt
  calls_are_fair (asks.MakeDir path) works next = tt
  calls_are_fair (asks.NewFile path) works next = tt
  calls_are_fair (asks.Append path bytes) works next = tt
  calls_are_fair (asks.Rename from to) works next = tt
  calls_are_fair (asks.Remove path) works next = tt
