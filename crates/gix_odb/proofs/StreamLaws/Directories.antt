-- Laws of a stream of a directory: it gives what the directory listed when it was opened, each entry once, whatever happens to
-- the tree.
use Rattle.std.proofs.Common.{◌≡◌, ℕ, ◌≤◌, false, List, [], ◌∷◌, ◌++◌, length, map, Contains, Some, Ok}
use Rattle.std.proofs.Common.{refl, sym, ap, ◌∙◌, subst, append_assoc, append-nil, length-append, arith}
use Rattle.std.proofs.lemmas.List.{length-map}
use Rattle.std.proofs.lemmas.List.Elements.{Contains-append_left, Contains-append_right}
use Rattle.odb_base.specs.Path.{Name, Path}
use Rattle.odb_disk.specs.Entries.{entry_of, opened}
use Rattle.odb_disk.specs.Tree.{State, Tree, node_at, tree_of}
use Rattle.odb_disk.specs.Tree.Follow.{listed, looked, meta_of}
use Rattle.odb_disk.specs.declared.change.Change.{Change}
use Rattle.odb_disk.specs.declared.disk_error.DiskError.TheVariants as errors
use Rattle.odb_disk.specs.declared.entry.Entry.{Entry}
use Rattle.odb_disk.specs.declared.meta.Kind.TheVariants as kinds
use Rattle.odb_disk.specs.declared.meta.Meta.{Meta}
use Rattle.odb_disk.specs.Ask.{after_ask, answer_now}
use Rattle.odb_disk.specs.MemDisk.{Volume, after_outside_change}
use Rattle.odb_disk.specs.declared.ask.DiskAnswer.{DiskAnswer}
use Rattle.odb_disk.specs.declared.ask.DiskAnswer.TheVariants as answers
use Rattle.odb_disk.specs.declared.ask.DiskAsk.{DiskAsk}
use Rattle.odb_disk.specs.declared.ask.DiskAsk.TheVariants as asks
use Rattle.gix_odb.proofs.StreamLaws.Calls.{stream_gives_what_is_coming, stream_is_opened}
use Rattle.gix_odb.proofs.StreamLaws.Calls.{stream_is_kept_by_another_state, stream_is_kept_by_other_calls, stream_is_kept_by_outside_changes}
use Rattle.gix_odb.proofs.StreamLaws.Entries.{node_is_opened, opened_entry_is_of_a_node, opened_names_are_listed, opens_at}
use Rattle.gix_odb.proofs.StreamLaws.Looks.{entry_of-meta, name_is_looked_at, node_is_looked_at}
use Rattle.gix_odb.specs.OpenStream.{entry_from}
use Rattle.gix_odb.specs.OpenStream.{GivesNext, IsListed, IsOnStream, IsReadOf, IsStreamOf, ListsFile, given_by}

-- ---- what a directory lists

-- opening a folder lists an entry for each of its names, in their order
pub entries_are_of_the_names : (tree : Tree) (folder : Path) (entries : List Entry) → opened tree folder ≡ Ok entries
    → listed tree folder ≡ Ok (map (λ (entry : Entry). entry.name) entries)
entries_are_of_the_names tree folder entries opens = opened_names_are_listed tree folder entries opens

-- no two entries of a directory have one name
pub entry_is_told_by_its_name : (tree : Tree) (folder : Path) (entry other : Entry) → IsListed tree folder entry → IsListed tree folder other
    → entry.name ≡ other.name → entry ≡ other
entry_is_told_by_its_name tree folder entry other is twin named =
    let entries : is.entries ≡ twin.entries = cc (is.opens, twin.opens) in
    let here = opened_entry_is_of_a_node tree folder twin.entries twin.opens entry (subst (λ es. Contains es entry) entries is.among) in
    let there = opened_entry_is_of_a_node tree folder twin.entries twin.opens other twin.among in
    let directory = (opens_at tree folder twin.entries twin.opens).place.path in
    let both : Some here.node ≡ Some there.node = sym here.at ∙ ap (λ name. node_at tree (directory ++ name ∷ [])) named ∙ there.at in
    let node : here.node ≡ there.node = cc both in
    here.is ∙ (ap (entry_of here.node) named ∙ (ap (λ n. entry_of n other.name) node ∙ sym there.is))

-- what a stat finds under a name of a folder that opens, where no link in the last place is followed, is listed
pub looked_name_is_listed : (tree : Tree) (folder : Path) (entries : List Entry) (name : Name) (meta : Meta) → opened tree folder ≡ Ok entries
    → looked tree (folder ++ name ∷ []) false ≡ Ok meta → IsListed tree folder (entry_from name meta)
looked_name_is_listed tree folder entries name meta opens is =
    let at = opens_at tree folder entries opens in
    let looks = name_is_looked_at tree folder name at.place meta at.leads at.directory is in
    let has = node_is_opened tree folder entries opens name looks.node looks.at in
    record { entries = entries; opens = opens; among = subst (Contains entries) (entry_of-meta looks.node name meta looks.is) has }

-- an entry that is listed is found by the stat of its name, as a node of its kind
pub listed_entry_is_looked_at : (tree : Tree) (folder : Path) (entry : Entry) → IsListed tree folder entry
    → (meta : Meta) × (looked tree (folder ++ entry.name ∷ []) false ≡ Ok meta) × (meta.kind ≡ entry.kind)
listed_entry_is_looked_at tree folder entry is =
    let at = opens_at tree folder is.entries is.opens in
    let here = opened_entry_is_of_a_node tree folder is.entries is.opens entry is.among in
    let same : entry ≡ entry_from entry.name (meta_of here.node) = here.is ∙ entry_of-meta here.node entry.name (meta_of here.node) refl in
    (meta_of here.node, node_is_looked_at tree folder entry.name at.place here.node at.leads at.directory here.at, sym (ap (λ (e : Entry). e.kind) same))

-- so where it finds a file, the directory lists a file of that name
pub looked_file_is_listed : (tree : Tree) (folder : Path) (entries : List Entry) (name : Name) (meta : Meta) → opened tree folder ≡ Ok entries
    → looked tree (folder ++ name ∷ []) false ≡ Ok meta → meta.kind ≡ kinds.File → ListsFile tree folder name
looked_file_is_listed tree folder entries name meta opens is file =
    let among = looked_name_is_listed tree folder entries name meta opens is in
    record { entry = entry_from name meta; among = among; named = refl; file = file }

-- ---- the beginning of a stream

-- a stream that is opened has given nothing yet
pub stream_of_a_directory_begins : (disk : Volume) (folder : Path) (dir : ℕ) → answer_now disk (asks.OpenDir folder) ≡ answers.Dir dir
    → (entries : List Entry) × IsStreamOf (tree_of disk.state) folder (after_ask disk (asks.OpenDir folder)) dir [] entries
stream_of_a_directory_begins disk folder dir is =
    let opened = stream_is_opened disk folder dir is in
    (opened.entries, record { fixed = opened.fixed; now = opened.after })

module _ (tree : Tree) (folder : Path) (disk : Volume) (dir : ℕ) (given coming : List Entry) (stream : IsStreamOf tree folder disk dir given coming) where
  -- ---- what others do to it

  pub stream_of_a_directory_is_kept_by_other_calls : (ask : DiskAsk) → (IsOnStream dir ask → ⊥) → IsStreamOf tree folder (after_ask disk ask) dir given coming
  stream_of_a_directory_is_kept_by_other_calls ask other =
      record { fixed = stream.fixed; now = stream_is_kept_by_other_calls disk dir coming stream.now ask other }

  pub stream_of_a_directory_is_kept_by_another_state : (state : State) → IsStreamOf tree folder (record disk { state = state }) dir given coming
  stream_of_a_directory_is_kept_by_another_state state = record { fixed = stream.fixed; now = stream_is_kept_by_another_state disk dir coming stream.now state }

  pub stream_of_a_directory_is_kept_by_outside_changes : (change : Change) → IsStreamOf tree folder (after_outside_change disk change) dir given coming
  stream_of_a_directory_is_kept_by_outside_changes change =
      record { fixed = stream.fixed; now = stream_is_kept_by_outside_changes disk dir coming stream.now change }

  -- ---- the next call on it

  moved : (answer : DiskAnswer) (left : List Entry) → GivesNext coming answer left → given ++ coming ≡ given_by given answer ++ left
  moved (answers.Entry entry) left next = ap (λ es. given ++ es) next ∙ sym (append_assoc given (entry ∷ []) left)
  moved answers.End left next = ap (λ es. given ++ es) (next.0 ∙ sym next.1)
  moved (answers.Refused errors.Failed) left next = ap (λ es. given ++ es) (sym next)
  moved (answers.Refused errors.Absent) left next = absurd next
  moved (answers.Refused errors.WrongKind) left next = absurd next
  moved (answers.Refused errors.LinkLoop) left next = absurd next
  moved (answers.Refused errors.Exists) left next = absurd next
  moved (answers.Refused errors.NotEmpty) left next = absurd next
  moved (answers.Refused errors.NoMemory) left next = absurd next
  moved (answers.Meta meta) left next = absurd next
  moved (answers.File bytes time) left next = absurd next
  moved (answers.Dir other) left next = absurd next
  moved answers.Done left next = absurd next

  pub stream_of_a_directory_goes_on : IsReadOf tree folder disk dir given coming
  stream_of_a_directory_goes_on =
      let read = stream_gives_what_is_coming disk dir coming stream.now in
      record {
        left = read.left;
        next = read.next;
        after = record { fixed = stream.fixed ∙ ap Ok (moved (answer_now disk (asks.NextEntry dir)) read.left read.next); now = read.after };
      }

  -- ---- what it has given, and gives next

  -- at most as many entries as the directory had names when it was opened
  pub stream_gives_few_entries : (names : List Name) → listed tree folder ≡ Ok names → length given ≤ length names
  stream_gives_few_entries names is =
      let same : map (λ (entry : Entry). entry.name) (given ++ coming) ≡ names = cc (entries_are_of_the_names tree folder (given ++ coming) stream.fixed, is) in
      let long : length (given ++ coming) ≡ length names = sym (length-map (given ++ coming) (λ (entry : Entry). entry.name)) ∙ ap length same in
      omega (arith, length-append given coming)

  -- each is one that the directory listed then
  pub given_entry_is_listed : (entry : Entry) → Contains given entry → IsListed tree folder entry
  given_entry_is_listed entry among = record { entries = given ++ coming; opens = stream.fixed; among = Contains-append_left given coming entry among }

  pub next_entry_is_listed : (entry : Entry) → answer_now disk (asks.NextEntry dir) ≡ answers.Entry entry → IsListed tree folder entry
  next_entry_is_listed entry is =
      let read = stream_of_a_directory_goes_on in
      let first : coming ≡ entry ∷ read.left = subst (λ (a : DiskAnswer). GivesNext coming a read.left) is read.next in
      let own : Contains (entry ∷ read.left) entry = (0, omega arith, refl) in
      record {
        entries = given ++ coming;
        opens = stream.fixed;
        among = Contains-append_right given coming entry (subst (λ es. Contains es entry) (sym first) own);
      }

  -- at its end it has given all
  pub ended_stream_has_given_all : answer_now disk (asks.NextEntry dir) ≡ answers.End → opened tree folder ≡ Ok given
  ended_stream_has_given_all is =
      let read = stream_of_a_directory_goes_on in
      let none = subst (λ (a : DiskAnswer). GivesNext coming a read.left) is read.next in
      stream.fixed ∙ ap Ok (ap (λ es. given ++ es) none.0 ∙ append-nil given)

  pub ended_stream_has_given_each : answer_now disk (asks.NextEntry dir) ≡ answers.End → (entry : Entry) → IsListed tree folder entry → Contains given entry
  ended_stream_has_given_each is entry among =
      let all : among.entries ≡ given = cc (among.opens, ended_stream_has_given_all is) in subst (λ es. Contains es entry) all among.among

  -- ---- a file that the directory had when it was opened

  module _ (name : Name) (lists : ListsFile tree folder name) where
    kind_of_the_file : (entry : Entry) → IsListed tree folder entry → entry.name ≡ name → entry.kind ≡ kinds.File
    kind_of_the_file entry among named =
        let same = entry_is_told_by_its_name tree folder entry lists.entry among lists.among (named ∙ sym lists.named) in
        ap (λ (e : Entry). e.kind) same ∙ lists.file

    -- what is given under its name is a file
    pub given_entry_of_the_name_is_a_file : (entry : Entry) → Contains given entry → entry.name ≡ name → entry.kind ≡ kinds.File
    given_entry_of_the_name_is_a_file entry among named = kind_of_the_file entry (given_entry_is_listed entry among) named

    pub next_entry_of_the_name_is_a_file : (entry : Entry) → answer_now disk (asks.NextEntry dir) ≡ answers.Entry entry
        → entry.name ≡ name → entry.kind ≡ kinds.File
    next_entry_of_the_name_is_a_file entry is named = kind_of_the_file entry (next_entry_is_listed entry is) named

    -- and its name was given before the end
    pub name_is_given_before_the_end : answer_now disk (asks.NextEntry dir) ≡ answers.End → (entry : Entry) × Contains given entry × (entry.name ≡ name)
    name_is_given_before_the_end is = (lists.entry, ended_stream_has_given_each is lists.entry lists.among, lists.named)
