-- The matches that a look-up of a prefix has left: those that were read of the directory, and fewer after each was taken.
use Rattle.std.proofs.Common.{◌≡◌, ◌⊎◌, inl, inr, ℕ, List, [], ◌∷◌, ◌++◌, Contains, Option, Some, None, Ok, refl, sym, ap, ◌∙◌, subst, append_assoc, append-nil}
use Rattle.std.specs.List.{filter_map}
use Rattle.std.proofs.lemmas.List.Elements.{Contains-append_cases, Contains-append_left, filter_map-append}
use Rattle.odb_disk.specs.Entries.{opened}
use Rattle.odb_disk.specs.Streams.{Streams, still_gives}
use Rattle.odb_disk.specs.Tree.{Tree}
use Rattle.odb_disk.specs.declared.entry.Entry.{Entry}
use Rattle.odb_disk.specs.declared.meta.Kind.{Kind as NodeKind}
use Rattle.odb_disk.specs.declared.meta.Kind.TheVariants as nodes
use Rattle.gix_hash.specs.Prefix.{IsPrefix}
use Rattle.gix_hash.specs.declared.object_id.ObjectId.{ObjectId}
use Rattle.gix_odb_loose.specs.NameSet.{taken}
use Rattle.gix_odb_loose.specs.PrefixNames.{id_named}
use Rattle.gix_odb_loose.specs.PrefixOrder.{match_by, match_of}
use Rattle.gix_odb_loose.specs.PrefixSearches.{AreLeft, AreNamed, Began, Counts, IsMatched, IsReadIn, folder_in, id_in}
use Rattle.gix_odb_loose.specs.declared.prefix_search.Match.{Match}
use Rattle.gix_odb_loose.specs.declared.prefix_search.Match.TheVariants.{File, Link}
use Rattle.gix_odb_loose.proofs.NameSetLemmas.{taken_cases, taken_has, taken_keeps}
use Rattle.gix_odb_loose.proofs.PrefixFolderLaws.{candidate_is_listed, file_entry_leads, name_of_id, named_is, named_is_candidate}
use Rattle.gix_odb_loose.proofs.PrefixListLemmas.{first_or_later, has_later, in_filter_map, none_in, of_filter_map}

-- ---- the match that an entry is

file_match : (kind : NodeKind) (named : Option ObjectId) (id : ObjectId) → match_by kind named ≡ Some (File id) → (kind ≡ nodes.File) × (named ≡ Some id)
file_match nodes.File None id is = absurd (cc is)
file_match nodes.File (Some own) id is = (refl, let same : own ≡ id = cc is in ap Some same)
file_match nodes.Link None id is = absurd (cc is)
file_match nodes.Link (Some own) id is = absurd (cc is)
file_match nodes.Dir None id is = absurd (cc is)
file_match nodes.Dir (Some own) id is = absurd (cc is)

any_match : (kind : NodeKind) (named : Option ObjectId) (m : Match) → match_by kind named ≡ Some m → named ≡ Some (id_in m)
any_match nodes.File None m is = absurd (cc is)
any_match nodes.File (Some own) m is = let same : File own ≡ m = cc is in ap (λ (x : Match). Some (id_in x)) same
any_match nodes.Link None m is = absurd (cc is)
any_match nodes.Link (Some own) m is = let same : Link own ≡ m = cc is in ap (λ (x : Match). Some (id_in x)) same
any_match nodes.Dir None m is = absurd (cc is)
any_match nodes.Dir (Some own) m is = absurd (cc is)

module _ (b : Began) where
  -- ---- their ids have the prefix

  pub none_named : AreNamed b []
  none_named = λ m has. absurd (none_in m has)

  pub later_named : (m : Match) (left : List Match) → AreNamed b (m ∷ left) → AreNamed b left
  later_named m left named = λ x has. named x (has_later m left x has)

  pub more_named : (matches : List Match) (entry : Entry) → AreNamed b matches → AreNamed b (matches ++ filter_map (match_of b.prefix) (entry ∷ []))
  more_named matches entry named =
      λ m has.
      elim (Contains-append_cases matches (filter_map (match_of b.prefix) (entry ∷ [])) m has) [
        | inl own ↦ named m own
        | inr new ↦
            let of = of_filter_map (match_of b.prefix) (entry ∷ []) m new in
            let own = named_is b.prefix of.item.name (id_in m) (any_match of.item.kind (id_named b.prefix of.item.name) m of.gives) in
            (own.is, own.has)
      ]

  -- ---- what was read of the directory

  -- one more entry was read
  pub read_more : (tree : Tree) (old new : Streams) (dir : ℕ) (matches : List Match) (entry : Entry) (rest : List Entry) (read : IsReadIn b tree old dir matches) → read.rest ≡ entry ∷ rest
      → still_gives new dir ≡ Some rest → IsReadIn b tree new dir (matches ++ filter_map (match_of b.prefix) (entry ∷ []))
  read_more tree old new dir matches entry rest read is gives =
      record {
        read = read.read ++ entry ∷ [];
        rest = rest;
        opens = read.opens ∙ ap (λ (es : List Entry). Ok (read.read ++ es)) is ∙ ap Ok (sym (append_assoc read.read (entry ∷ []) rest));
        gives = gives;
        matched = ap (λ (ms : List Match). ms ++ filter_map (match_of b.prefix) (entry ∷ [])) read.matched ∙ sym (filter_map-append (match_of b.prefix) read.read (entry ∷ []));
      }

  module _ (tree : Tree) (is : IsPrefix b.prefix) where
    matched : (now : Streams) (dir : ℕ) (matches : List Match) (read : IsReadIn b tree now dir matches) (entry : Entry) (m : Match) → Contains read.read entry → match_of b.prefix entry ≡ Some m → Contains matches m
    matched now dir matches read entry m among gives =
        subst (λ (ms : List Match). Contains ms m) (sym read.matched) (in_filter_map (match_of b.prefix) read.read entry m among gives)

    -- after the last entry all candidates are left
    pub whole_left : (now : Streams) (dir : ℕ) (names : List ObjectId) (matches : List Match) (read : IsReadIn b tree now dir matches) → read.rest ≡ [] → names ≡ [] → AreLeft b tree names matches
    whole_left now dir names matches read last none =
        record {
          found = λ id has. absurd (none_in id (subst (λ (ids : List ObjectId). Contains ids id) none has));
          files =
              λ id has.
              let of = of_filter_map (match_of b.prefix) read.read (File id) (subst (λ (ms : List Match). Contains ms (File id)) read.matched has) in
              let parts = file_match of.item.kind (id_named b.prefix of.item.name) id of.gives in
              named_is_candidate tree b.objects b.prefix is of.item.name id parts.1
              (file_entry_leads tree (folder_in b) (read.read ++ read.rest) read.opens of.item (Contains-append_left read.read read.rest of.item of.among) parts.0);
          each =
              λ id counts.
              let listed = candidate_is_listed tree b.objects b.prefix is id counts in
              let whole : opened tree (folder_in b) ≡ Ok read.read = read.opens ∙ ap (λ (rest : List Entry). Ok (read.read ++ rest)) last ∙ ap Ok (append-nil read.read) in
              let among = listed.among read.read whole in
              let named : id_named b.prefix listed.entry.name ≡ Some id = ap (id_named b.prefix) listed.named ∙ name_of_id b.prefix is id counts.is counts.has in
              inr (elim listed.kind [
                | inl file ↦ inl (matched now dir matches read listed.entry (File id) among (ap (λ (kind : NodeKind). match_by kind (id_named b.prefix listed.entry.name)) file ∙ ap (match_by nodes.File) named))
                | inr link ↦ inr (matched now dir matches read listed.entry (Link id) among (ap (λ (kind : NodeKind). match_by kind (id_named b.prefix listed.entry.name)) link ∙ ap (match_by nodes.Link) named))
              ]);
        }

  -- ---- one of them was taken, or is none

  module _ (tree : Tree) (m : Match) (left : List Match) (names : List ObjectId) (was : AreLeft b tree names (m ∷ left)) where
    rest_or_first : (x : ObjectId) → IsMatched (m ∷ left) x → IsMatched left x ⊎ (id_in m ≡ x)
    rest_or_first x (inl file) =
        elim (first_or_later m left (File x) file) [
          | inl same ↦ inr (ap id_in same)
          | inr later ↦ inl (inl later)
        ]
    rest_or_first x (inr link) =
        elim (first_or_later m left (Link x) link) [
          | inl same ↦ inr (ap id_in same)
          | inr later ↦ inl (inr later)
        ]

    -- each candidate was found, is among the others, or is this one
    split : (x : ObjectId) → Counts b tree x → (Contains names x ⊎ IsMatched left x) ⊎ (id_in m ≡ x)
    split x counts =
        elim (was.each x counts) [
          | inl found ↦ inl (inl found)
          | inr matched ↦ elim (rest_or_first x matched) [
            | inl later ↦ inl (inr later)
            | inr same ↦ inr same
          ]
        ]

    pub left_without : ¬ (Counts b tree (id_in m)) → AreLeft b tree names left
    left_without none =
        record {
          found = was.found;
          files = λ x has. was.files x (has_later m left (File x) has);
          each =
              λ x counts.
              elim (split x counts) [
                | inl other ↦ other
                | inr same ↦ absurd (none (subst (Counts b tree) (sym same) counts))
              ];
        }

    pub left_taken : Counts b tree (id_in m) → AreLeft b tree (taken names (id_in m)) left
    left_taken own =
        record {
          found =
              λ x has.
              elim (taken_cases names (id_in m) x has) [
                | inl found ↦ was.found x found
                | inr same ↦ subst (Counts b tree) same own
              ];
          files = λ x has. was.files x (has_later m left (File x) has);
          each =
              λ x counts.
              elim (split x counts) [
                | inl other ↦ kept x other
                | inr same ↦ inl (subst (λ (y : ObjectId). Contains (taken names (id_in m)) y) same (taken_has names (id_in m)))
              ];
        }
      where
        kept : (x : ObjectId) → Contains names x ⊎ IsMatched left x → Contains (taken names (id_in m)) x ⊎ IsMatched left x
        kept x (inl found) = inl (taken_keeps names (id_in m) x found)
        kept x (inr later) = inr later
