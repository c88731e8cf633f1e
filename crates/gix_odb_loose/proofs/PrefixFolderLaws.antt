-- The candidates of a prefix are the files in its directory, and the links in it that lead to files.
use Rattle.std.proofs.Common.{◌≡◌, ◌≢◌, ◌⊎◌, inl, inr, ℕ, zero, suc, ◌+◌, ◌≤◌, ◌==◌, Bool, true, false, cond, List, [], ◌∷◌, ◌++◌, length, take, drop, Contains, Option, Some, None}
use Rattle.std.proofs.Common.{Result, Ok, Err, T, refl, sym, ap, ◌∙◌, subst, arith, append_assoc}
use Rattle.std.specs.FinMap.{find, is_sorted}
use Rattle.std.specs.List.{cons_option, filter_map}
use Rattle.std.specs.Option.{option_map}
use Rattle.std.specs.Ordering.{eq_by_cmp, is_eq}
use Rattle.std.specs.declared.cmp.Ordering.{Ordering}
use Rattle.std.specs.declared.cmp.Ordering.TheVariants.{Less, Equal, Greater}
use Rattle.std.proofs.lemmas.Grind.{common_steps}
use Rattle.std.proofs.lemmas.List.{length-drop, take-append-drop}
use Rattle.odb_base.specs.Path.{Name, Path, path_cmp}
use Rattle.odb_disk.specs.Entries.{entries_at, entries_at_place, entries_in, entry_in, entry_of, kind_of, opened}
use Rattle.odb_disk.specs.Tree.{Tree, name_in, node_at}
use Rattle.odb_disk.specs.Tree.Follow.{Place, Refusal, arrives, at_last, ending, file_of, file_of_place, followed, looked, meta_of, meta_of_place, meta_with, most_links, read_of}
use Rattle.odb_disk.specs.Tree.Nodes.{entries_of, entries_of-sorted, node_at-entries_of}
use Rattle.odb_disk.specs.Tree.Way.{is_link_content}
use Rattle.odb_disk.specs.declared.entry.Entry.{Entry}
use Rattle.odb_disk.specs.declared.meta.Kind.TheVariants as kinds
use Rattle.odb_disk.specs.declared.meta.Meta.{Meta}
use Rattle.odb_disk.specs.declared.node.Content.{Content}
use Rattle.odb_disk.specs.declared.node.Content.TheVariants.{File, Dir, Link}
use Rattle.odb_disk.specs.declared.node.Node.{Node}
use Rattle.odb_disk.proofs.TreeLemmas.{find_later, find_own, same_path, second}
use Rattle.odb_disk.proofs.TreeLemmas.Change.{name_in-path, name_in-push}
use Rattle.gix_hash.specs.Kind.{digits_in}
use Rattle.gix_hash.specs.ObjectId.{IsId, hex_of, id_of, kind_of as hash_of}
use Rattle.gix_hash.specs.Prefix.{HasPrefix, IsPrefix, PrefixOf, prefix_cmp}
use Rattle.gix_hash.specs.declared.object_id.ObjectId.{ObjectId}
use Rattle.gix_hash.proofs.ObjectIdLemmas.{IsId-id_of, hex_of-id_of, id_of-hex_of, length-hex_of}
use Rattle.gix_hash.proofs.PrefixLaws.{Equal-from_HasPrefix, HasPrefix-from_Equal}
use Rattle.gix_odb_loose.specs.LooseFile.{LeadsToFile, loose_path}
use Rattle.gix_odb_loose.specs.PrefixNames.{IsCandidate, id_named, with_prefix}
use Rattle.gix_odb_loose.specs.WriteOrder.{prefix_path}
use Rattle.gix_odb_loose.proofs.LoosePathLemmas.{long_hex}
use Rattle.gix_odb_loose.proofs.PrefixListLemmas.{first_or_later, has_first, none_in, put_later}
use Rattle.gix_odb_loose.proofs.PrefixWayLaws.{followed_too, led_into, led_out, shown_unfollowed}

-- ---- the entries of a directory

module _ (directory : Path) where
  -- an entry is that of the node under its name
  record IsEntryAmong (es : List (Path × Node)) (entry : Entry) : Type 0 where
    node : Node
    found : find path_cmp (directory ++ entry.name ∷ []) es ≡ Some node
    is : entry ≡ entry_of node entry.name

  later : (e : Path × Node) (es : List (Path × Node)) → T (is_sorted path_cmp (e ∷ es)) → (entry : Entry) → IsEntryAmong es entry → IsEntryAmong (e ∷ es) entry
  later e es sorted entry among = record { node = among.node; found = find_later e es (directory ++ entry.name ∷ []) among.node sorted among.found; is = among.is }

  own : (e : Path × Node) (es : List (Path × Node)) (name : Name) → name_in directory e.0 ≡ Some name → (entry : Entry) → entry_of e.1 name ≡ entry → IsEntryAmong (e ∷ es) entry
  own e es name is entry same =
      subst (IsEntryAmong (e ∷ es)) same
      (record { node = e.1; found = ap (λ path. find path_cmp path (e ∷ es)) (sym (name_in-path directory e.0 name is)) ∙ find_own e es; is = refl })

  among_by : (e : Path × Node) (es : List (Path × Node)) → T (is_sorted path_cmp (e ∷ es)) → (entry : Entry) → (Contains (filter_map (entry_in directory) es) entry → IsEntryAmong es entry)
      → (o : Option Name) → name_in directory e.0 ≡ o → Contains (cons_option (option_map (entry_of e.1) o) (filter_map (entry_in directory) es)) entry → IsEntryAmong (e ∷ es) entry
  among_by e es sorted entry more None is has = later e es sorted entry (more has)
  among_by e es sorted entry more (Some name) is has =
      elim (first_or_later (entry_of e.1 name) (filter_map (entry_in directory) es) entry has) [
        | inl same ↦ own e es name is entry same
        | inr others ↦ later e es sorted entry (more others)
      ]

  among_entries : (es : List (Path × Node)) → T (is_sorted path_cmp es) → (entry : Entry) → Contains (filter_map (entry_in directory) es) entry → IsEntryAmong es entry
  among_entries [] sorted entry has = absurd (none_in entry has)
  among_entries (e ∷ es) sorted entry has = among_by e es sorted entry (λ more. among_entries es (second _ _ sorted) entry more) (name_in directory e.0) refl has

  found_by : (e : Path × Node) (es : List (Path × Node)) (name : Name) (node : Node)
      → (find path_cmp (directory ++ name ∷ []) es ≡ Some node → Contains (filter_map (entry_in directory) es) (entry_of node name)) → (tied : Bool)
      → eq_by_cmp path_cmp (directory ++ name ∷ []) e.0 ≡ tied → cond tied (Some e.1) (find path_cmp (directory ++ name ∷ []) es) ≡ Some node
      → Contains (filter_map (entry_in directory) (e ∷ es)) (entry_of node name)
  found_by e es name node more true tied is =
      let named : name_in directory e.0 ≡ Some name = ap (name_in directory) (sym (same_path (directory ++ name ∷ []) e.0 tied)) ∙ name_in-push directory name in
      let same : e.1 ≡ node = cc is in
      let first : entry_in directory e ≡ Some (entry_of node name) = ap (option_map (entry_of e.1)) named ∙ ap (λ n. Some (entry_of n name)) same in
      subst (λ o. Contains (cons_option o (filter_map (entry_in directory) es)) (entry_of node name)) (sym first) (has_first (entry_of node name) (filter_map (entry_in directory) es))
  found_by e es name node more false tied is = put_later (entry_in directory e) (filter_map (entry_in directory) es) (entry_of node name) (more is)

  entry_found : (es : List (Path × Node)) (name : Name) (node : Node) → find path_cmp (directory ++ name ∷ []) es ≡ Some node
      → Contains (filter_map (entry_in directory) es) (entry_of node name)
  entry_found [] name node found = absurd (cc found)
  entry_found (e ∷ es) name node found =
      found_by e es name node (λ more. entry_found es name node more) (eq_by_cmp path_cmp (directory ++ name ∷ []) e.0) refl found

-- a directory of a tree that opens: the place, and its entries
pub record OpensAt (tree : Tree) (folder : Path) (entries : List Entry) : Type 0 where
  pub place : Place
  pub leads : followed tree true folder ≡ Ok place
  pub directory : place.node.content ≡ Dir
  pub lists : entries_in tree place.path ≡ entries

opens_at_content : (tree : Tree) (place : Place) (content : Content) (entries : List Entry) → entries_at tree place.path content ≡ Ok entries → (content ≡ Dir) × (entries_in tree place.path ≡ entries)
opens_at_content tree place (File bytes time) entries is = absurd (cc is)
opens_at_content tree place Dir entries is = (refl, cc is)
opens_at_content tree place (Link target) entries is = absurd (cc is)

opens_at_place : (tree : Tree) (folder : Path) (told : Result Place Refusal) (entries : List Entry) → followed tree true folder ≡ told → entries_at_place tree told ≡ Ok entries → OpensAt tree folder entries
opens_at_place tree folder (Ok place) entries leads is =
    let opens = opens_at_content tree place place.node.content entries is in record { place = place; leads = leads; directory = opens.0; lists = opens.1 }
opens_at_place tree folder (Err refusal) entries leads is = absurd (cc is)

pub opens_at : (tree : Tree) (folder : Path) (entries : List Entry) → opened tree folder ≡ Ok entries → OpensAt tree folder entries
unfolding opened
opens_at tree folder entries is = opens_at_place tree folder (followed tree true folder) entries refl is

opens_from : (tree : Tree) (folder : Path) (place : Place) → followed tree true folder ≡ Ok place → place.node.content ≡ Dir → opened tree folder ≡ Ok (entries_in tree place.path)
unfolding opened
opens_from tree folder place leads directory = ap (entries_at_place tree) leads ∙ ap (entries_at tree place.path) directory

entry_node : (tree : Tree) (directory : Path) (entry : Entry) → Contains (entries_in tree directory) entry → (node : Node) × (node_at tree (directory ++ entry.name ∷ []) ≡ Some node) × (entry ≡ entry_of node entry.name)
unfolding entries_in
entry_node tree directory entry among =
    let own = among_entries directory (entries_of tree) (entries_of-sorted tree) entry among in
    (own.node, node_at-entries_of tree (directory ++ entry.name ∷ []) ∙ own.found, own.is)

node_entry : (tree : Tree) (directory : Path) (name : Name) (node : Node) → node_at tree (directory ++ name ∷ []) ≡ Some node → Contains (entries_in tree directory) (entry_of node name)
unfolding entries_in
node_entry tree directory name node at = entry_found directory (entries_of tree) name node (sym (node_at-entries_of tree (directory ++ name ∷ [])) ∙ at)

-- ---- files in a directory

file_content : (content : Content) → kind_of content ≡ kinds.File → (bytes : List ℕ) × (time : ℕ) × (content ≡ File bytes time)
file_content (File bytes time) is = (bytes, time, refl)
file_content Dir is = absurd (cc is)
file_content (Link target) is = absurd (cc is)

-- an entry that is a file: its path leads to it
pub file_entry_leads : (tree : Tree) (folder : Path) (entries : List Entry) → opened tree folder ≡ Ok entries → (entry : Entry) → Contains entries entry → entry.kind ≡ kinds.File
    → LeadsToFile tree (folder ++ entry.name ∷ [])
unfolding read_of
file_entry_leads tree folder entries opens entry among file =
    let at = opens_at tree folder entries opens in
    let own = entry_node tree at.place.path entry (subst (λ (es : List Entry). Contains es entry) (sym at.lists) among) in
    let kind : kind_of own.0.content ≡ kinds.File = sym (ap (λ (e : Entry). e.kind) own.2) ∙ file in
    let content = file_content own.0.content kind in
    let place : Place = record { path = at.place.path ++ entry.name ∷ []; node = own.0 } in
    let says : (further : Path → Result Place Refusal) → arrives further (ending true (at.place.path ++ entry.name ∷ []) (node_at tree (at.place.path ++ entry.name ∷ []))) ≡ Ok place =
    λ further. ap (λ (o : Option Node). arrives further (ending true (at.place.path ++ entry.name ∷ []) o)) own.1 ∙ reaches further place.path own.0 own.0.content content.0 content.1 content.2 refl in
    let led = led_into tree entry.name at.place (Ok place) at.directory says most_links folder at.leads in
    record { bytes = content.0; time = content.1; given = ap file_of_place led ∙ ap file_of content.2; holds = tt }
  where
    reaches : (further : Path → Result Place Refusal) (path : Path) (node : Node) (content : Content) (bytes : List ℕ) (time : ℕ) → content ≡ File bytes time → node.content ≡ content
        → arrives further (ending true path (Some node)) ≡ Ok (record { path = path; node = node })
    reaches further path node content bytes time is same =
        ap (λ (c : Content). arrives further (at_last true path node c)) (same ∙ is)

-- a path in a directory that leads to a file: the directory opens, and the name stands for a file or a link in it
pub record IsListed (tree : Tree) (folder : Path) (name : Name) : Type 0 where
  pub place : Place
  pub leads : followed tree true folder ≡ Ok place
  pub directory : place.node.content ≡ Dir
  pub entry : Entry
  pub named : entry.name ≡ name
  pub kind : (entry.kind ≡ kinds.File) ⊎ (entry.kind ≡ kinds.Link)
  pub among : (entries : List Entry) → opened tree folder ≡ Ok entries → Contains entries entry
  pub opens : opened tree folder ≡ Ok (entries_in tree place.path)

link_kind : (content : Content) → is_link_content content ≡ true → kind_of content ≡ kinds.Link
link_kind (File bytes time) is = absurd (cc is)
link_kind Dir is = absurd (cc is)
link_kind (Link target) is = refl

read_kind : (content : Content) (bytes : List ℕ) (time : ℕ) → file_of content ≡ Ok (bytes, time) → kind_of content ≡ kinds.File
read_kind (File own at) bytes time is = refl
read_kind Dir bytes time is = absurd (cc is)
read_kind (Link target) bytes time is = absurd (cc is)

read_place : (led : Result Place Refusal) (bytes : List ℕ) (time : ℕ) → file_of_place led ≡ Ok (bytes, time) → (place : Place) × (led ≡ Ok place) × (kind_of place.node.content ≡ kinds.File)
read_place (Ok place) bytes time is = (place, refl, read_kind place.node.content bytes time is)
read_place (Err refusal) bytes time is = absurd (cc is)

pub file_is_listed : (tree : Tree) (folder : Path) (name : Name) → LeadsToFile tree (folder ++ name ∷ []) → IsListed tree folder name
unfolding read_of
file_is_listed tree folder name file =
    let found = read_place (followed tree true (folder ++ name ∷ [])) file.bytes file.time file.given in
    let own = led_out tree name found.0 most_links folder found.1 in
    let entry = entry_of own.node name in
    record {
      place = own.place;
      leads = own.leads;
      directory = own.directory;
      entry = entry;
      named = refl;
      kind =
          elim own.kind [
            | inl same ↦ inl (ap (λ (n : Node). kind_of n.content) same ∙ found.2)
            | inr link ↦ inr (link_kind own.node.content link)
          ];
      among =
          λ entries opens.
          let same : entries_in tree own.place.path ≡ entries =
          let both : ◌≡◌ {A = Result (List Entry) Refusal} (Ok (entries_in tree own.place.path)) (Ok entries) = sym (opens_from tree folder own.place own.leads own.directory) ∙ opens in cc both in
          subst (λ (es : List Entry). Contains es entry) same (node_entry tree own.place.path name own.node own.at);
      opens = opens_from tree folder own.place own.leads own.directory;
    }

-- ---- the names of candidates

-- an id that stands for a name has the prefix, and the name is the rest of its digits
pub record IsNamed (prefix : PrefixOf) (name : Name) (id : ObjectId) : Type 0 where
  pub is : IsId id
  pub has : HasPrefix prefix id
  pub hex : hex_of id ≡ take 2 (hex_of prefix.id) ++ name

is_Equal : (order : Ordering) → is_eq order ≡ true → order ≡ Equal
is_Equal Less is = absurd (cc is)
is_Equal Equal is = refl
is_Equal Greater is = absurd (cc is)

named_by : (prefix : PrefixOf) (name : Name) (id : ObjectId) (o : Option ObjectId) → id_of (take 2 (hex_of prefix.id) ++ name) ≡ o → with_prefix prefix o ≡ Some id → IsNamed prefix name id
named_by prefix name id None is named = absurd (cc named)
named_by prefix name id (Some own) is named =
    elim (is_eq (prefix_cmp prefix own)) as (λ b. is_eq (prefix_cmp prefix own) ≡ b → cond b (Some own) None ≡ Some id → IsNamed prefix name id) [
      | true ↦ λ has same.
          subst (IsNamed prefix name) (let e : own ≡ id = cc same in e)
          (record { is = IsId-id_of _ own is; has = HasPrefix-from_Equal prefix own (is_Equal (prefix_cmp prefix own) has); hex = hex_of-id_of _ own is })
      | false ↦ λ _ none. absurd (cc none)
    ] refl named

pub named_is : (prefix : PrefixOf) (name : Name) (id : ObjectId) → id_named prefix name ≡ Some id → IsNamed prefix name id
unfolding id_named
named_is prefix name id named =
    elim (length name + 2 == digits_in (hash_of prefix.id)) as (λ b. cond b (with_prefix prefix (id_of (take 2 (hex_of prefix.id) ++ name))) None ≡ Some id → IsNamed prefix name id) [
      | true ↦ λ own. named_by prefix name id (id_of (take 2 (hex_of prefix.id) ++ name)) refl own
      | false ↦ λ none. absurd (cc none)
    ] named

take_two : (n : ℕ) (digits : List ℕ) → 2 ≤ n → take 2 (take n digits) ≡ take 2 digits
take_two zero digits long = absurd (omega arith)
take_two (suc zero) digits long = absurd (omega arith)
take_two (suc (suc n)) [] long = refl
take_two (suc (suc n)) (x ∷ []) long = refl
take_two (suc (suc n)) (x ∷ y ∷ digits) long = refl

cut_two : (digits name : List ℕ) → 2 ≤ length digits → (take 2 (take 2 digits ++ name) ≡ take 2 digits) × (drop 2 (take 2 digits ++ name) ≡ name)
cut_two [] name long = absurd (omega arith)
cut_two (x ∷ []) name long = absurd (omega arith)
cut_two (x ∷ y ∷ digits) name long = (refl, refl)

module _ (prefix : PrefixOf) (is : IsPrefix prefix) where
  -- an id that has the prefix begins with its first two digits
  same_front : (id : ObjectId) → HasPrefix prefix id → take 2 (hex_of id) ≡ take 2 (hex_of prefix.id)
  same_front id has =
      let long : 2 ≤ prefix.hex_len = omega (arith, is.not_short) in
      sym (take_two prefix.hex_len (hex_of id) long) ∙ ap (take 2) has.digits ∙ take_two prefix.hex_len (hex_of prefix.id) long

  -- its file is in the directory of the prefix
  pub path_is : (objects : Path) (id : ObjectId) → HasPrefix prefix id → loose_path objects id ≡ prefix_path objects prefix.id ++ drop 2 (hex_of id) ∷ []
  unfolding loose_path prefix_path
  path_is objects id has =
      ap (λ (front : List ℕ). objects ++ front ∷ drop 2 (hex_of id) ∷ []) (same_front id has)
      ∙ sym (append_assoc objects (take 2 (hex_of prefix.id) ∷ []) (drop 2 (hex_of id) ∷ []))

  -- under the name of the other digits
  pub name_of_id : (id : ObjectId) → IsId id → HasPrefix prefix id → id_named prefix (drop 2 (hex_of id)) ≡ Some id
  unfolding id_named
  name_of_id id own has =
      let text : take 2 (hex_of prefix.id) ++ drop 2 (hex_of id) ≡ hex_of id =
      ap (λ (front : List ℕ). front ++ drop 2 (hex_of id)) (sym (same_front id has)) ∙ take-append-drop 2 (hex_of id) in
      let found : id_of (take 2 (hex_of prefix.id) ++ drop 2 (hex_of id)) ≡ Some id = ap id_of text ∙ id_of-hex_of id own in
      let long : (length (drop 2 (hex_of id)) + 2 == digits_in (hash_of prefix.id)) ≡ true = has_length id own has in
      ap (λ b. cond b (with_prefix prefix (id_of (take 2 (hex_of prefix.id) ++ drop 2 (hex_of id)))) None) long
      ∙ ap (with_prefix prefix) found
      ∙ ap (λ (order : Ordering). cond (is_eq order) (Some id) None) (Equal-from_HasPrefix prefix id has)
    where
      has_length : (id : ObjectId) → IsId id → HasPrefix prefix id → (length (drop 2 (hex_of id)) + 2 == digits_in (hash_of prefix.id)) ≡ true
      has_length id own has =
          let whole : length (hex_of id) ≡ digits_in (hash_of prefix.id) = length-hex_of id own ∙ ap digits_in has.kind in
          let least : 2 ≤ length (hex_of id) = omega (arith, long_hex id own) in
          grind (arith, common_steps, length-drop 2 (hex_of id), whole, least)

  -- the name that stands for an id is that of the file of an object with the prefix
  pub named_rest : (name : Name) (id : ObjectId) → IsNamed prefix name id → drop 2 (hex_of id) ≡ name
  named_rest name id named = ap (drop 2) named.hex ∙ (cut_two (hex_of prefix.id) name (omega (arith, long_hex prefix.id is.id))).1

-- ---- the candidates

directory_kind : (node : Node) (content : Content) → node.content ≡ content → content ≡ Dir → (meta_of node).kind ≡ kinds.Dir
directory_kind node content is directory = ap (λ (c : Content). (meta_with node.dev node.ino c).kind) (is ∙ directory)

link_meta : (node : Node) (content : Content) → node.content ≡ content → is_link_content content ≡ true → (meta_of node).kind ≡ kinds.Link
link_meta node (File bytes time) is link = absurd (cc link)
link_meta node Dir is link = absurd (cc link)
link_meta node (Link target) is link = ap (λ (c : Content). (meta_with node.dev node.ino c).kind) is

looked_at : (led : Result Place Refusal) (meta : Meta) → meta_of_place led ≡ Ok meta → (place : Place) × (led ≡ Ok place) × (meta_of place.node ≡ meta)
looked_at (Ok place) meta is = (place, refl, let same : meta_of place.node ≡ meta = cc is in same)
looked_at (Err refusal) meta is = absurd (cc is)

directory_content : (node : Node) (content : Content) → node.content ≡ content → (meta_of node).kind ≡ kinds.Dir → content ≡ Dir
directory_content node (File bytes time) is kind =
    let both : kinds.File ≡ kinds.Dir = sym (ap (λ (c : Content). (meta_with node.dev node.ino c).kind) is) ∙ kind in absurd (cc both)
directory_content node Dir is kind = refl
directory_content node (Link target) is kind =
    let both : kinds.Link ≡ kinds.Dir = sym (ap (λ (c : Content). (meta_with node.dev node.ino c).kind) is) ∙ kind in absurd (cc both)

module _ (tree : Tree) (objects : Path) (prefix : PrefixOf) (is : IsPrefix prefix) where
  abbrev pub folder : Path
  folder = prefix_path objects prefix.id

  -- the directory of a candidate's file opens, and has its name
  pub candidate_is_listed : (id : ObjectId) → IsCandidate tree objects prefix id → IsListed tree folder (drop 2 (hex_of id))
  candidate_is_listed id candidate = file_is_listed tree folder (drop 2 (hex_of id)) (subst (LeadsToFile tree) (path_is prefix is objects id candidate.has) candidate.file)

  -- an id that stands for a name under which there is a file is a candidate
  pub named_is_candidate : (name : Name) (id : ObjectId) → id_named prefix name ≡ Some id → LeadsToFile tree (folder ++ name ∷ []) → IsCandidate tree objects prefix id
  named_is_candidate name id named file =
      let own = named_is prefix name id named in
      record {
        is = own.is;
        has = own.has;
        file = subst (LeadsToFile tree) (ap (λ (rest : Name). folder ++ rest ∷ []) (sym (named_rest prefix is name id own)) ∙ sym (path_is prefix is objects id own.has)) file;
      }

  -- ---- where the directory can't be read, there is none

  pub none_unless_followed : (refusal : Refusal) → looked tree folder true ≡ Err refusal → (id : ObjectId) → ¬ (IsCandidate tree objects prefix id)
  unfolding looked
  none_unless_followed refusal refused id candidate =
      let listed = candidate_is_listed id candidate in
      let shown = ap meta_of_place (sym listed.leads) in
      let both : ◌≡◌ {A = Result Meta Refusal} (Ok (meta_of listed.place.node)) (Err refusal) = shown ∙ refused in
      cc both

  pub none_unless_directory : (meta : Meta) → looked tree folder true ≡ Ok meta → meta.kind ≢ kinds.Dir → (id : ObjectId) → ¬ (IsCandidate tree objects prefix id)
  unfolding looked
  none_unless_directory meta shown other id candidate =
      let listed = candidate_is_listed id candidate in
      let both : ◌≡◌ {A = Result Meta Refusal} (Ok (meta_of listed.place.node)) (Ok meta) = ap meta_of_place (sym listed.leads) ∙ shown in
      let same : meta_of listed.place.node ≡ meta = cc both in
      other (sym (ap (λ (m : Meta). m.kind) same) ∙ directory_kind listed.place.node listed.place.node.content refl listed.directory)

  pub none_unless_there : (refusal : Refusal) → looked tree folder false ≡ Err refusal → (id : ObjectId) → ¬ (IsCandidate tree objects prefix id)
  unfolding looked
  none_unless_there refusal refused id candidate =
      let listed = candidate_is_listed id candidate in
      elim (shown_unfollowed tree listed.place most_links folder listed.leads) [
        | inl same ↦ let both : ◌≡◌ {A = Result Meta Refusal} (Ok (meta_of listed.place.node)) (Err refusal) = ap meta_of_place (sym same) ∙ refused in absurd (cc both)
        | inr at ↦ let both : ◌≡◌ {A = Result Meta Refusal} (Ok (meta_of at.0.node)) (Err refusal) = ap meta_of_place (sym at.1) ∙ refused in absurd (cc both)
      ]

  pub none_at_file : (meta : Meta) → looked tree folder false ≡ Ok meta → meta.kind ≡ kinds.File → (id : ObjectId) → ¬ (IsCandidate tree objects prefix id)
  unfolding looked
  none_at_file meta shown file id candidate =
      let listed = candidate_is_listed id candidate in
      elim (shown_unfollowed tree listed.place most_links folder listed.leads) [
        | inl same ↦
            let both : ◌≡◌ {A = Result Meta Refusal} (Ok (meta_of listed.place.node)) (Ok meta) = ap meta_of_place (sym same) ∙ shown in
            let own : meta_of listed.place.node ≡ meta = cc both in
            let kind : kinds.Dir ≡ kinds.File = sym (directory_kind listed.place.node listed.place.node.content refl listed.directory) ∙ ap (λ (m : Meta). m.kind) own ∙ file in
            absurd (cc kind)
        | inr at ↦
            let both : ◌≡◌ {A = Result Meta Refusal} (Ok (meta_of at.0.node)) (Ok meta) = ap meta_of_place (sym at.1) ∙ shown in
            let own : meta_of at.0.node ≡ meta = cc both in
            let kind : kinds.Link ≡ kinds.File = sym (link_meta at.0.node at.0.node.content refl at.2) ∙ ap (λ (m : Meta). m.kind) own ∙ file in
            absurd (cc kind)
      ]

  -- ---- a directory opens

  leads_anyway : (follow : Bool) (place : Place) → place.node.content ≡ Dir → followed tree follow folder ≡ Ok place → followed tree true folder ≡ Ok place
  leads_anyway true place directory led = led
  leads_anyway false place directory led = followed_too tree place (ap is_link_content directory) most_links folder led

  pub opens_if_directory : (follow : Bool) (meta : Meta) → looked tree folder follow ≡ Ok meta → meta.kind ≡ kinds.Dir → (entries : List Entry) × (opened tree folder ≡ Ok entries)
  unfolding looked
  opens_if_directory follow meta shown kind =
      let at = looked_at (followed tree follow folder) meta shown in
      let directory = directory_content at.0.node at.0.node.content refl (ap (λ (m : Meta). m.kind) at.2 ∙ kind) in
      (entries_in tree at.0.path, opens_from tree folder at.0 (leads_anyway follow at.0 directory at.1) directory)
