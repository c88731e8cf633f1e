-- When a tree shows a second content, and what is kept after a tree was noted.
use Rattle.std.proofs.Common.{◌≡◌, Bool, true, false, ◌||◌, cond, List, [], ◌∷◌, ◌++◌, refl, sym, ap, ◌∙◌, ◌⊎◌, ◌↔◌, inl, inr, ℕ, Some, None, IsSome, is_some, Result, Ok, subst}
use Rattle.std.specs.List.{list_any}
use Rattle.std.specs.FinSet as set
use Rattle.std.specs.BTreeSet as tree_set
use Rattle.std.specs.BTreeSet.{BTreeSet}
use Rattle.std.specs.Ordering.{eq_by_cmp}
use Rattle.std.proofs.lemmas.Cmp.{eq_by_cmp_equiv}
use Rattle.std.proofs.lemmas.List.Folds.{list_any-append}
use Rattle.odb_base.specs.Path.{Path, path_cmp, same_name}
use Rattle.odb_base.specs.PathLaws.{one_place, path_order}
use Rattle.gix_odb_watch.specs.Revealed.{is_in, IsRevealed, IsSeen, Learns, Relinks, RevealsMore}
use Rattle.std.specs.FinMap as finite
use Rattle.std.specs.Cmp.Lexicographic.{bytes_decides}
use Rattle.std.proofs.lemmas.Bool.{false≢true, or_cases, cases_Bool}
use Rattle.odb_disk.specs.Tree.{IsTree, Tree}
use Rattle.odb_disk.specs.Tree.Follow.{Refusal}
use Rattle.odb_disk.proofs.TreeLemmas.{same_path}
use Rattle.gix_odb_watch.specs.Watched.{Shows, pack_directory}
use Rattle.gix_odb_watch.specs.Kept.{Kept, Contents, Folders, Key, key_cmp, ShowsInOne, IsSecond, Notes, LiesInOne, Fits, nothing_kept}
use Rattle.gix_odb_watch.specs.Files.{KeepsFiles, Reveals, differs}
use Rattle.gix_odb_watch.specs.declared.revealed.Revealed.{Revealed}
use Rattle.gix_odb_watch.specs.declared.shown_file.ShownFile.{ShownFile}
use Rattle.gix_odb_watch.proofs.ListLemmas.{is_in_one, one_passes, passes_one}
use Rattle.gix_odb_watch.proofs.RevealedLemmas.{folder_revealed, one_more}
use Rattle.gix_odb_watch.proofs.TouchedLemmas.{one_folder}
use Rattle.gix_odb_watch.proofs.FilesLemmas.{differs_from, from_other, some_of}

-- ---- one folder more or less

cond-or : (b c : Bool) → cond b true c ≡ (b || c)
cond-or true c = refl
cond-or false c = refl

eq_swap : (a b : Path) → eq_by_cmp path_cmp a b ≡ eq_by_cmp path_cmp b a
eq_swap a b = (eq_by_cmp_equiv path_order).symm a b

pub is_in_set : (keys : List Path) (folder : Path) → set.contains (set.from_list {R = path_cmp} keys) folder ≡ is_in keys folder
is_in_set keys folder = set.contains-from_list path_order keys folder

-- an insert adds a folder to the set of them
pub inserted_keys : (old new : BTreeSet Path) (folder : Path) → tree_set.Updates path_cmp old new folder true
    → set.from_list {R = path_cmp} new.keys ≡ set.insert (set.from_list old.keys) folder
inserted_keys old new folder updates =
    set.same_set path_order one_place _ _ (λ q.
    set.contains-from_list path_order new.keys q ∙ updates.0 q ∙ cond-or (eq_by_cmp path_cmp folder q) (tree_set.contains path_cmp old q)
    ∙ ap (λ b. b || tree_set.contains path_cmp old q) (eq_swap folder q)
    ∙ sym (set.contains-insert path_order (set.from_list old.keys) folder q ∙ ap (λ b. eq_by_cmp path_cmp q folder || b) (set.contains-from_list path_order old.keys q)))

-- folders one by one
pub adds_next : (yielded : List Path) (start : Bool) (old new : BTreeSet Path) (folder other : Path) → tree_set.Updates path_cmp old new folder true
    → is_in old.keys other ≡ (is_in yielded other || start) → is_in new.keys other ≡ (is_in (yielded ++ folder ∷ []) other || start)
adds_next yielded start old new folder other updates before =
    updates.0 other ∙ ap (λ b. cond b true (is_in old.keys other)) (eq_swap folder other) ∙ ap (λ b. cond (eq_by_cmp path_cmp other folder) true b) before
    ∙ join (eq_by_cmp path_cmp other folder) (is_in yielded other) ∙ ap (λ b. b || start) (sym (list_any-append (eq_by_cmp path_cmp other) yielded (folder ∷ [])))
  where
    join : (a b : Bool) → cond a true (b || start) ≡ ((b || (a || false)) || start)
    join true true = refl
    join true false = refl
    join false true = refl
    join false false = refl

-- ---- a path of one tree shows one content

pub one_content : (tree : Tree) (path : Path) (time : ℕ) (bytes other : List ℕ) (f g : Path) → Shows f tree path time bytes → Shows g tree path time other → bytes ≡ other
one_content tree path time bytes other f g s o =
    let both : ◌≡◌ {A = Result (List ℕ × ℕ) Refusal} (Ok (bytes, s.at)) (Ok (other, o.at)) = sym s.reads ∙ o.reads in
    let pair : ◌≡◌ {A = List ℕ × ℕ} (bytes, s.at) (other, o.at) = cc in ap (λ (p : List ℕ × ℕ). p.0) pair

-- ---- a second content among files

module _ (kept : Kept) (before after : Tree) (files : List ShownFile) (fits : Fits kept before) (r : Reveals kept.folders kept.folders before after files) where
  second_found : list_any (differs kept.contents) files ≡ true → IsSecond kept after
  second_found any =
      let o = one_passes (differs kept.contents) files any in
      let d = differs_from kept.contents o.0 o.2 in
      record { path = o.0.key.0; time = o.0.key.1; first = d.0; bytes = o.0.bytes; known = d.1; shows = r.shown o.0 o.1; differs = d.2 }

  second_there : IsSecond kept after → list_any (differs kept.contents) files ≡ true
  second_there s = elim (r.whole s.path s.time s.bytes s.shows) [
    | inl there ↦
        let both : Some s.first ≡ Some s.bytes = sym s.known ∙ fits.whole s.path s.time s.bytes there in
        let same : s.first ≡ s.bytes = cc in absurd (s.differs (sym same))
    | inr one ↦
        let file : ShownFile = record { key = (s.path, s.time); bytes = s.bytes } in
        passes_one (differs kept.contents) files file one (from_other kept.contents file s.first s.known s.differs)
  ]

  pub second_answered : (answer : Bool) → answer ≡ list_any (differs kept.contents) files → (answer ≡ true) ↔ IsSecond kept after
  second_answered answer is = (λ yes. second_found (sym is ∙ yes), λ s. is ∙ second_there s)

-- ---- what is kept of what is revealed

module _ (kept : Kept) (new : Folders) (before after : Tree) (fits : Fits kept before) (revealed : Revealed) (r : RevealsMore kept.folders new before after revealed) (told : Kept)
    (folders : told.folders ≡ new) (linked : Relinks kept.linked revealed told.linked) (keeps : KeepsFiles kept.contents revealed.files.items told.contents) where
  some_told : (path : Path) (time : ℕ) (bytes : List ℕ) → ShowsInOne new after path time bytes → IsSome (finite.get told.contents (path, time))
  some_told path time bytes s = elim (r.reveals.whole path time bytes s) [
    | inl there ↦ ap is_some (keeps.stays (path, time) bytes (fits.whole path time bytes there))
    | inr one ↦ keeps.there (record { key = (path, time); bytes = bytes }) one
  ]

  only_told : (path : Path) (time : ℕ) (bytes : List ℕ) → finite.get told.contents (path, time) ≡ Some bytes
      → (finite.get kept.contents (path, time) ≡ Some bytes) ⊎ ShowsInOne new after path time bytes
  only_told path time bytes known = elim (keeps.only (path, time) bytes known) [
    | inl was ↦ inl was
    | inr o ↦ inr (subst (λ (b : List ℕ). ShowsInOne new after path time b) o.3 (subst (λ (k : Key). ShowsInOne new after k.0 k.1 o.0.bytes) o.2 (r.reveals.shown o.0 o.1)))
  ]

  pub more_notes : Notes kept new after told
  more_notes = record {
    folders_are = folders;
    stays = λ path time bytes known. keeps.stays (path, time) bytes known;
    whole = some_told;
    only = only_told;
  }

  linked_among : (folder : Path) → set.contains told.linked folder ≡ true → set.contains new folder ≡ true
  linked_among folder is = elim (or_cases (is_in revealed.linked.items folder) (set.contains kept.linked folder) (sym (linked folder) ∙ is)) [
    | inl now ↦ r.linked folder (is_in_one revealed.linked.items folder now)
    | inr was ↦ r.stays folder (fits.linked folder was)
  ]

  lies_in : (path : Path) (time : ℕ) (bytes : List ℕ) → (finite.get kept.contents (path, time) ≡ Some bytes) ⊎ ShowsInOne new after path time bytes → LiesInOne new path
  lies_in path time bytes (inl was) = let l = fits.only path time bytes was in record { folder = l.folder; among = r.stays l.folder l.among; name = l.name; path_is = l.path_is }
  lies_in path time bytes (inr s) = record { folder = s.folder; among = s.among; name = s.shows.name; path_is = s.shows.path_is }

  among_told : (folder : Path) → set.contains told.folders folder ≡ set.contains new folder
  among_told folder = ap (λ (f : Folders). set.contains f folder) folders

  -- unless a path shows another content than it did
  pub more_fits : ((path : Path) (time : ℕ) (first bytes : List ℕ) → finite.get kept.contents (path, time) ≡ Some first → ShowsInOne new after path time bytes → first ≡ bytes) → Fits told after
  more_fits agree = record {
    is_tree = r.is_tree;
    whole = λ path time bytes s.
        let there = subst (λ (f : Folders). ShowsInOne f after path time bytes) folders s in
        let k = some_of (finite.get told.contents (path, time)) (some_told path time bytes there) in
        let same : k.0 ≡ bytes = elim (only_told path time k.0 k.1) [
          | inl was ↦ agree path time k.0 bytes was there
          | inr now ↦ one_content after path time k.0 bytes now.folder there.folder now.shows there.shows
        ] in
        k.1 ∙ ap (λ (b : List ℕ). Some b) same;
    only = λ path time bytes known. subst (λ (f : Folders). LiesInOne f path) (sym folders) (lies_in path time bytes (only_told path time bytes known));
    linked = λ folder is. among_told folder ∙ linked_among folder is;
    knows = λ folder among. r.knows folder (sym (among_told folder) ∙ among) kept.linked told.linked (fits.knows folder) linked;
  }

-- after a change that shows no second content
first_agrees : (kept : Kept) (tree : Tree) → (IsSecond kept tree → ⊥) → (path : Path) (time : ℕ) (first bytes : List ℕ) → finite.get kept.contents (path, time) ≡ Some first
    → ShowsInOne kept.folders tree path time bytes → first ≡ bytes
first_agrees kept tree first_only path time first bytes known shows = elim (cases_Bool (same_name bytes first)) [
  | inl same ↦ sym ((bytes_decides bytes first).0 same)
  | inr apart ↦
      absurd (first_only (record {
        path = path;
        time = time;
        first = first;
        bytes = bytes;
        known = known;
        shows = shows;
        differs = λ same. false≢true (sym apart ∙ (bytes_decides bytes first).1 same);
      }))
]

-- a tree that is fitted already adds nothing
pub still_notes : (kept : Kept) (tree : Tree) → Fits kept tree → Notes kept kept.folders tree kept
still_notes kept tree fits = record {
  folders_are = refl;
  stays = λ path time bytes known. known;
  whole = λ path time bytes s. ap is_some (fits.whole path time bytes s);
  only = λ path time bytes known. inl known;
}

-- ---- one more folder

module _ (old : Kept) (folder : Path) (tree : Tree) (fits : Fits old tree) where
  abbrev pub more : Folders
  more = one_more old.folders folder

  -- what was kept is of folders that were watched, so it is the same as what they show
  own_agrees : (path : Path) (time : ℕ) (first bytes : List ℕ) → finite.get old.contents (path, time) ≡ Some first → ShowsInOne more tree path time bytes → first ≡ bytes
  own_agrees path time first bytes known s =
      let l = fits.only path time first known in
      let same : l.folder ≡ s.folder = one_folder l.folder s.folder l.name s.shows.name (sym l.path_is ∙ s.shows.path_is) in
      let there = fits.whole path time bytes (record { folder = s.folder; among = ap (set.contains old.folders) (sym same) ∙ l.among; shows = s.shows }) in
      let both : Some first ≡ Some bytes = sym known ∙ there in cc

  -- a folder that is watched already
  module _ (among : set.contains old.folders folder ≡ true) where
    same_contains : (other : Path) → set.contains old.folders other ≡ set.contains more other
    same_contains other = by (eq_by_cmp path_cmp other folder) refl ∙ sym (set.contains-insert path_order old.folders folder other)
      where
        by : (b : Bool) → eq_by_cmp path_cmp other folder ≡ b → set.contains old.folders other ≡ (b || set.contains old.folders other)
        by true tied = ap (set.contains old.folders) (same_path other folder tied) ∙ among
        by false apart = refl

    same_folders : old.folders ≡ more
    same_folders = set.same_set path_order one_place old.folders more same_contains

    pub notes_again : Notes old more tree old
    notes_again = subst (λ (f : Folders). Notes old f tree old) same_folders (still_notes old tree fits)

-- ---- nothing kept

pub nothing_fits : (tree : Tree) → IsTree tree → Fits nothing_kept tree
nothing_fits tree is_tree = record {
  is_tree = is_tree;
  whole = λ path time bytes s. absurd (false≢true (sym (set.contains-empty path_cmp s.folder) ∙ s.among));
  only = λ path time bytes known. let both : None ≡ Some bytes = sym (finite.get-empty key_cmp (path, time)) ∙ known in absurd (cc);
  linked = λ folder is. absurd (false≢true (sym (set.contains-empty path_cmp folder) ∙ is));
  knows = λ folder among. absurd (false≢true (sym (set.contains-empty path_cmp folder) ∙ among));
}

-- ---- what the code asks

-- what is found out is kept
pub learnt : (kept : Kept) (folders : Folders) (was now : BTreeSet Path) (own contents : Contents) (revealed : Revealed)
    → ◌≡◌ {A = Kept} (record { folders = folders; linked = set.from_list was.keys; contents = own }) kept
    → ((folder : Path) → is_in now.keys folder ≡ (is_in revealed.linked.items folder || is_in was.keys folder)) → KeepsFiles own revealed.files.items contents
    → Learns kept revealed (record { folders = folders; linked = set.from_list now.keys; contents = contents })
learnt kept folders was now own contents revealed view added is = record {
  folders = ap (λ (k : Kept). k.folders) view;
  linked = λ folder.
      is_in_set now.keys folder ∙ added folder
      ∙ ap (λ b. is_in revealed.linked.items folder || b) (sym (is_in_set was.keys folder) ∙ ap (λ (k : Kept). set.contains k.linked folder) view);
  contents = subst (λ (k : Kept). KeepsFiles k.contents revealed.files.items contents) view is;
}

module _ (kept : Kept) (before after : Tree) (fits : Fits kept before) (revealed : Revealed) (r : IsRevealed kept.folders before after revealed) (told : Kept)
    (learns : Learns kept revealed told) where
  pub keep_notes : Notes kept kept.folders after told
  keep_notes = more_notes kept kept.folders before after fits revealed r told learns.folders learns.linked learns.contents

  pub keep_fits : (IsSecond kept after → ⊥) → Fits told after
  keep_fits first_only = more_fits kept kept.folders before after fits revealed r told learns.folders learns.linked learns.contents (first_agrees kept after first_only)

module _ (kept : Kept) (tree : Tree) (fits : Fits kept tree) (folder : Path) (old : BTreeSet Path) (linked : Folders) (contents : Contents)
    (view : ◌≡◌ {A = Kept} (record { folders = set.from_list old.keys; linked = linked; contents = contents }) kept) where
  pub watched_again : list_any (eq_by_cmp path_cmp folder) old.keys ≡ true → Notes kept (set.insert kept.folders folder) tree kept
  watched_again there =
      notes_again kept folder tree fits
      (sym (ap (λ (k : Kept). set.contains k.folders folder) view) ∙ set.contains-from_list path_order old.keys folder ∙ there)

  module _ (new : BTreeSet Path) (added : tree_set.Updates path_cmp old new folder true) (revealed : Revealed) (seen : IsSeen tree ((folder, pack_directory folder) ∷ []) revealed) (told : Kept)
      (learns : Learns (record { folders = set.from_list new.keys; linked = linked; contents = contents }) revealed told) where
    its_folders : told.folders ≡ set.insert kept.folders folder
    its_folders = learns.folders ∙ inserted_keys old new folder added ∙ ap (λ (k : Kept). set.insert k.folders folder) view

    its_links : Relinks kept.linked revealed told.linked
    its_links = subst (λ (k : Kept). Relinks k.linked revealed told.linked) view learns.linked

    its_contents : KeepsFiles kept.contents revealed.files.items told.contents
    its_contents = subst (λ (k : Kept). KeepsFiles k.contents revealed.files.items told.contents) view learns.contents

    pub watch_notes : Notes kept (set.insert kept.folders folder) tree told
    watch_notes = more_notes kept (set.insert kept.folders folder) tree tree fits revealed (folder_revealed kept.folders folder tree fits.is_tree revealed seen) told its_folders its_links its_contents

    pub watch_fits : Fits told tree
    watch_fits =
        more_fits kept (set.insert kept.folders folder) tree tree fits revealed (folder_revealed kept.folders folder tree fits.is_tree revealed seen) told its_folders its_links its_contents
        (own_agrees kept folder tree fits)
