-- The files that a tree shows in a pack directory, and what is kept after files: under a key the first bytes stay.
use Rattle.std.proofs.Common.{◌≡◌, inl, inr, ℕ, true, List, [], ◌∷◌, ◌++◌, Option, Some, None, is_some, Result, Ok, Err, refl, sym, ap, ◌∙◌, subst, ◌≢◌, Bool, false, not, cond, IsSome}
use Rattle.odb_base.specs.Path.{Name, Path, last_name, path_cmp, same_name}
use Rattle.odb_disk.specs.Tree.{Tree}
use Rattle.odb_disk.specs.Tree.Follow.{Refusal, read_of}
use Rattle.gix_odb_watch.specs.Watched.{Shows, counted, named_kind, pack_directory, watched_kind}
use Rattle.gix_odb_watch.specs.Files.{file_at, file_read, KeepsFiles, differs, is_other}
use Rattle.gix_odb_watch.specs.Kept.{IsIn, Contents, Key, key_cmp}
use Rattle.gix_odb_watch.specs.declared.watched.WatchedKind.{WatchedKind}
use Rattle.gix_odb_watch.specs.declared.shown_file.ShownFile.{ShownFile}
use Rattle.gix_odb_watch.proofs.EntryLemmas.{last_name-push}
use Rattle.std.specs.Ordering.{eq_by_cmp, nat_cmp, is_eq}
use Rattle.std.specs.Cmp.{IsTotalOrder, tied_itself, nat_cmp_total}
use Rattle.std.proofs.lemmas.Cmp.{on_total, then_total}
use Rattle.std.proofs.lemmas.Map.Lookups.{CmpEqualImpliesEq, exact_pairs, exact_unsigned}
use Rattle.std.proofs.lemmas.Map.Views.{tells_apart}
use Rattle.std.specs.Cmp.Lexicographic.{bytes_decides}
use Rattle.std.specs.FinMap as finite
use Rattle.std.specs.FinMap.{find, get-from_entries}
use Rattle.std.specs.Map.{lookup}
use Rattle.std.specs.BTreeMap.{is_at}
use Rattle.std.proofs.lemmas.Bool.{cases_Bool, false≢true}
use Rattle.odb_base.specs.PathLaws.{path_order, one_place}
use Rattle.gix_odb_watch.proofs.ListLemmas.{in_either, in_left, in_right}

module _ (folder : Path) (tree : Tree) where
  -- a file that is read is shown
  pub read_shows : (name : Name) (path : Path) → path ≡ pack_directory folder ++ name ∷ [] → (kind : Option WatchedKind) → watched_kind name ≡ kind
      → (told : Result (List ℕ × ℕ) Refusal) → read_of tree path ≡ told → (file : ShownFile) → IsIn (file_read path kind told) file → Shows folder tree file.key.0 file.key.1 file.bytes
  read_shows name path path_is None is told reads file one = absurd one
  read_shows name path path_is (Some kind) is (Err refusal) reads file one = absurd one
  read_shows name path path_is (Some kind) is (Ok found) reads file (inl same) =
      subst (λ (f : ShownFile). Shows folder tree f.key.0 f.key.1 f.bytes) same
      (record { name = name; path_is = path_is; kind = kind; is_watched = is; at = found.1; reads = reads; counts = refl })
  read_shows name path path_is (Some kind) is (Ok found) reads file (inr none) = absurd none

  kind_of_name : (name : Name) (path : Path) → path ≡ pack_directory folder ++ name ∷ [] → named_kind (last_name path) ≡ watched_kind name
  kind_of_name name path path_is = ap named_kind (ap last_name path_is ∙ last_name-push (pack_directory folder) name)

  pub at_shows : (name : Name) (path : Path) → path ≡ pack_directory folder ++ name ∷ [] → (file : ShownFile) → IsIn (file_at tree path) file
      → Shows folder tree file.key.0 file.key.1 file.bytes
  at_shows name path path_is file one =
      read_shows name path path_is (named_kind (last_name path)) (sym (kind_of_name name path path_is)) (read_of tree path) refl file one

  -- and what is shown is read
  pub shown_at : (path : Path) (time : ℕ) (bytes : List ℕ) → Shows folder tree path time bytes → IsIn (file_at tree path) (record { key = (path, time); bytes = bytes })
  shown_at path time bytes s =
      subst (λ (told : List ShownFile). IsIn told (record { key = (path, time); bytes = bytes })) (sym reading)
      (inl (ap (λ (t : ℕ). record { key = (path, t); bytes = bytes }) s.counts))
    where
      reading : file_at tree path ≡ record { key = (path, counted s.kind s.at); bytes = bytes } ∷ []
      reading =
          ap (λ kind. file_read path kind (read_of tree path)) (kind_of_name s.name path s.path_is ∙ s.is_watched)
          ∙ ap (λ told. file_read path (Some s.kind) told) s.reads

  -- what is read has a watched name
  pub read_watched : (path : Path) (kind : Option WatchedKind) (told : Result (List ℕ × ℕ) Refusal) (file : ShownFile) → IsIn (file_read path kind told) file → is_some kind ≡ true
  read_watched path None told file one = absurd one
  read_watched path (Some kind) told file one = refl

-- ---- keys

pub key_order : IsTotalOrder key_cmp
key_order = then_total (on_total (λ (k : Key). k.0) path_order) (on_total (λ (k : Key). k.1) nat_cmp_total)

pub one_key : CmpEqualImpliesEq key_cmp
one_key = exact_pairs path_cmp nat_cmp one_place exact_unsigned

pub same_key : (a b : Key) → eq_by_cmp key_cmp a b ≡ true → a ≡ b
same_key a b tied = tells_apart one_key a b tied

own_key : (a : Key) → eq_by_cmp key_cmp a a ≡ true
own_key a = ap is_eq (tied_itself key_order a)

-- ---- the map in the code

find_key : (es : List (Key × List ℕ)) (q : Key) → find key_cmp q es ≡ lookup (is_at (key_cmp q)) es
find_key [] q = refl
find_key (e ∷ es) q = ap (cond (is_at (key_cmp q) e.0) (Some e.1)) (find_key es q)

pub get_key : (es : List (Key × List ℕ)) (q : Key) → finite.get (finite.from_entries {R = key_cmp} es) q ≡ lookup (is_at (key_cmp q)) es
get_key es q = get-from_entries key_order es q ∙ find_key es q

-- ---- files are kept

pub some_of : {X : Type 0} (o : Option X) → IsSome o → (x : X) × (o ≡ Some x)
some_of None is = absurd (false≢true is)
some_of (Some x) is = (x, refl)

pub keeps_none : (c : Contents) → KeepsFiles c [] c
keeps_none c = record { stays = λ key bytes known. known; there = λ file none. absurd none; only = λ key bytes known. inl known }

pub keeps_next : (files : List ShownFile) (file : ShownFile) (old mid new : Contents) → KeepsFiles old files mid → KeepsFiles mid (file ∷ []) new → KeepsFiles old (files ++ file ∷ []) new
keeps_next files file old mid new so next = record {
  stays = λ key bytes known. next.stays key bytes (so.stays key bytes known);
  there = λ f one. elim (in_either files (file ∷ []) f one) [
    | inl before ↦ let s = some_of (finite.get mid f.key) (so.there f before) in ap is_some (next.stays f.key s.0 s.1)
    | inr last ↦ next.there f last
  ];
  only = λ key bytes known. elim (next.only key bytes known) [
    | inl before ↦ elim (so.only key bytes before) [ inl was ↦ inl was | inr o ↦ inr (o.0, in_left files (file ∷ []) o.0 o.1, o.2, o.3) ]
    | inr o ↦ inr (o.0, in_right files (file ∷ []) o.0 o.1, o.2, o.3)
  ];
}

-- ---- one file, by the map in the code

module _ (es : List (Key × List ℕ)) (c : Contents) (file : ShownFile) (is : finite.from_entries {R = key_cmp} es ≡ c) where
  get_is : (q : Key) → finite.get c q ≡ lookup (is_at (key_cmp q)) es
  get_is q = ap (λ d. finite.get d q) (sym is) ∙ get_key es q

  -- no other bytes are kept under the key where none are
  pub differs_absent : None ≡ lookup (is_at (key_cmp file.key)) es → false ≡ differs c file
  differs_absent none = sym (ap (λ (o : Option (List ℕ)). is_other o file.bytes) (get_is file.key ∙ sym none))

  pub differs_there : (first : List ℕ) (told : Bool) → Some first ≡ lookup (is_at (key_cmp file.key)) es → told ≡ not (same_name first file.bytes)
      → told ≡ differs c file
  differs_there first told there_is tells = tells ∙ sym (ap (λ (o : Option (List ℕ)). is_other o file.bytes) (get_is file.key ∙ sym there_is))

  pub keeps_there : is_some (lookup (is_at (key_cmp file.key)) es) ≡ true → KeepsFiles c (file ∷ []) c
  keeps_there found = record {
    stays = λ key bytes known. known;
    there = λ f one. elim one [ inl same ↦ ap (λ (g : ShownFile). is_some (finite.get c g.key)) (sym same) ∙ ap is_some (get_is file.key) ∙ found | inr none ↦ absurd none ];
    only = λ key bytes known. inl known;
  }

  module _ (fs : List (Key × List ℕ)) (absent : is_some (lookup (is_at (key_cmp file.key)) es) ≡ false)
      (inserts : (q : Key) → lookup (is_at (key_cmp q)) fs ≡ cond (is_at (key_cmp file.key) q) (Some file.bytes) (lookup (is_at (key_cmp q)) es)) where
    abbrev new : Contents
    new = finite.from_entries fs

    by_tie : (q : Key) (b : Bool) → eq_by_cmp key_cmp file.key q ≡ b → finite.get new q ≡ cond b (Some file.bytes) (finite.get c q)
    by_tie q b tied = get_key fs q ∙ inserts q ∙ ap (λ o. cond (is_at (key_cmp file.key) q) (Some file.bytes) o) (sym (get_is q)) ∙ ap (λ t. cond t (Some file.bytes) (finite.get c q)) tied

    pub keeps_new : KeepsFiles c (file ∷ []) new
    keeps_new = record {
      stays = λ key bytes known. elim (cases_Bool (eq_by_cmp key_cmp file.key key)) [
        | inl tied ↦
            absurd (false≢true (sym absent ∙ sym (ap is_some (get_is file.key)) ∙ ap (λ (k : Key). is_some (finite.get c k)) (same_key file.key key tied) ∙ ap is_some known))
        | inr apart ↦ by_tie key false apart ∙ known
      ];
      there = λ f one. elim one [
        | inl same ↦ ap (λ (g : ShownFile). is_some (finite.get new g.key)) (sym same) ∙ ap is_some (by_tie file.key true (own_key file.key))
        | inr none ↦ absurd none
      ];
      only = λ key bytes known. elim (cases_Bool (eq_by_cmp key_cmp file.key key)) [
        | inl tied ↦ let both : Some file.bytes ≡ Some bytes = sym (by_tie key true tied) ∙ known in inr (file, inl refl, same_key file.key key tied, cc)
        | inr apart ↦ inl (sym (by_tie key false apart) ∙ known)
      ];
    }

-- ---- other bytes

module _ (bytes : List ℕ) where
  other_is : (o : Option (List ℕ)) → is_other o bytes ≡ true → (first : List ℕ) × (o ≡ Some first) × (bytes ≢ first)
  other_is None other = absurd (false≢true other)
  other_is (Some first) other = (first, refl, λ same. false≢true (sym (ap not ((bytes_decides first bytes).1 (sym same))) ∙ other))

  is_one_other : (first : List ℕ) → bytes ≢ first → is_other (Some first) bytes ≡ true
  is_one_other first apart = elim (same_name first bytes) as (λ b. same_name first bytes ≡ b → not b ≡ true) [
    | true ↦ λ same. absurd (apart (sym ((bytes_decides first bytes).0 same)))
    | false ↦ λ _. refl
  ] refl

pub differs_from : (c : Contents) (file : ShownFile) → differs c file ≡ true → (first : List ℕ) × (finite.get c file.key ≡ Some first) × (file.bytes ≢ first)
differs_from c file other = other_is file.bytes (finite.get c file.key) other

pub from_other : (c : Contents) (file : ShownFile) (first : List ℕ) → finite.get c file.key ≡ Some first → file.bytes ≢ first → differs c file ≡ true
from_other c file first known apart = ap (λ o. is_other o file.bytes) known ∙ is_one_other file.bytes first apart
