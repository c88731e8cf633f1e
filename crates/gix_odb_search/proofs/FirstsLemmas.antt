-- Entries by their names: each whose name isn't in a set yet, to which it is added then.
use Rattle.std.proofs.Common.{◌≡◌, Bool, true, false, cond, not, ◌||◌, List, [], ◌∷◌, map, Ordering, Less, Equal, Greater, ℕ, ◌+◌, ◌<◌, ◌++◌}
use Rattle.std.proofs.Common.{drop, get_or, length, append_assoc, inl, inr, refl, sym, ap, ◌∙◌}
use denote.Ref.{Bor}
use Rattle.std.specs.BTreeSet.{insert_key}
use Rattle.std.specs.List.{list_any}
use Rattle.std.specs.FinMap.{nat_cmp-IsAntisymmetric, slice_cmp-IsAntisymmetric}
use Rattle.std.specs.Ordering.{is_eq, match_ordering}
use Rattle.std.specs.Cmp.Lexicographic.{texts_ties}
use Rattle.std.proofs.lemmas.Bool.{cases_Bool, cond-true, cond-false, not-true, not-false}
use Rattle.std.proofs.lemmas.List.{drop_more, map-append}
use Rattle.odb_base.specs.Path.{Name, name_cmp, same_name}
use Rattle.odb_disk.specs.declared.entry.Entry.{Entry}
use Rattle.gix_odb_search.specs.PackFolder.{firsts_without}

abbrev names_of : List (Bor Name) → List Name
names_of keys = map (λ (name : Bor Name). name.now) keys

abbrev by_name : Bor Name → Bor Name → Ordering
by_name key other = name_cmp key.now other.now

-- ---- a set of names

known : (key : Bor Name) (keys : List (Bor Name)) → list_any (λ (other : Bor Name). is_eq (by_name key other)) keys ≡ list_any (same_name key.now) (names_of keys)
known key [] = refl
known key (other ∷ keys) =
    ap (λ (b : Bool). b || list_any (λ (other : Bor Name). is_eq (by_name key other)) keys) (sym (texts_ties key.now other.now))
    ∙ ap (λ (b : Bool). same_name key.now other.now || b) (known key keys)

or_twice : (a b : Bool) → (a || b) ≡ (a || (a || b))
or_twice true b = refl
or_twice false b = refl

or_swap : (a b c : Bool) → (b || (a || c)) ≡ (a || (b || c))
or_swap true true c = refl
or_swap true false c = refl
or_swap false true c = refl
or_swap false false c = refl

equal : (o : Ordering) → is_eq o ≡ true → o ≡ Equal
equal Less h = cc h
equal Equal h = refl
equal Greater h = cc h

equal_names : (a b : Name) → name_cmp a b ≡ Equal → a ≡ b
equal_names a b h = slice_cmp-IsAntisymmetric nat_cmp-IsAntisymmetric a b h

placed : (test : Name → Bool) (key x : Bor Name) (xs : List (Bor Name)) → list_any test (names_of (insert_key by_name xs key)) ≡ (test key.now || list_any test (names_of xs))
    → (o : Ordering) → by_name key x ≡ o
    → list_any test (names_of (match_ordering o (key ∷ x ∷ xs) (x ∷ xs) (x ∷ insert_key by_name xs key))) ≡ (test key.now || (test x.now || list_any test (names_of xs)))
placed test key x xs more Less h = refl
placed test key x xs more Equal h =
    or_twice (test x.now) (list_any test (names_of xs))
    ∙ ap (λ (name : Name). test name || (test x.now || list_any test (names_of xs))) (sym (equal_names key.now x.now h))
placed test key x xs more Greater h = ap (λ (b : Bool). test x.now || b) more ∙ or_swap (test key.now) (test x.now) (list_any test (names_of xs))

-- a set after a name was put into it has this name and those that it had
inserted : (test : Name → Bool) (key : Bor Name) (keys : List (Bor Name))
    → list_any test (names_of (insert_key by_name keys key)) ≡ (test key.now || list_any test (names_of keys))
inserted test key [] = refl
inserted test key (x ∷ xs) = placed test key x xs (inserted test key xs) (by_name key x) refl

-- ---- entries

-- only which names there are matters
same_firsts : (names others : List Name) (entries : List Entry) → ((name : Name) → list_any (same_name name) names ≡ list_any (same_name name) others)
    → firsts_without names entries ≡ firsts_without others entries
same_firsts names others [] same = refl
same_firsts names others (entry ∷ entries) same =
    ap (λ (b : Bool). cond b (firsts_without names entries) (entry ∷ firsts_without (entry.name ∷ names) entries)) (same entry.name)
    ∙ ap (λ (rest : List Entry). cond (list_any (same_name entry.name) others) rest (entry ∷ firsts_without (entry.name ∷ names) entries)) (same_firsts names others entries same)
    ∙ ap (λ (rest : List Entry). cond (list_any (same_name entry.name) others) (firsts_without others entries) (entry ∷ rest))
    (same_firsts (entry.name ∷ names) (entry.name ∷ others) entries (λ name. ap (λ (b : Bool). same_name name entry.name || b) (same name)))

-- a name that is among names adds nothing to them
absorbed : (names : List Name) (own name : Name) → list_any (same_name own) names ≡ true → list_any (same_name name) names ≡ list_any (same_name name) (own ∷ names)
absorbed names own name there =
    elim (cases_Bool (same_name name own)) [
      | inl same ↦
          let is : name ≡ own = equal_names name own (equal (name_cmp name own) (sym (texts_ties name own) ∙ same)) in
          ap (λ (n : Name). list_any (same_name n) names) is ∙ there ∙ ap (λ (b : Bool). b || list_any (same_name name) names) (sym same)
      | inr differs ↦ ap (λ (b : Bool). b || list_any (same_name name) names) (sym differs)
    ]

module _ (key : Bor Name) (keys : List (Bor Name)) (entry : Entry) (rest : List Entry) (own : key.now ≡ entry.name) where
  has_own : list_any (λ (other : Bor Name). is_eq (by_name key other)) keys ≡ list_any (same_name entry.name) (names_of keys)
  has_own = known key keys ∙ ap (λ (name : Name). list_any (same_name name) (names_of keys)) own

  with_own : (name : Name) → list_any (same_name name) (entry.name ∷ names_of keys) ≡ list_any (same_name name) (names_of (insert_key by_name keys key))
  with_own name = sym (inserted (same_name name) key keys ∙ ap (λ (other : Name). same_name name other || list_any (same_name name) (names_of keys)) own)

  pub first_new : not (list_any (λ (other : Bor Name). is_eq (by_name key other)) keys) ≡ true
      → firsts_without (names_of keys) (entry ∷ rest) ≡ entry ∷ firsts_without (names_of (insert_key by_name keys key)) rest
  first_new new =
      cond-false (list_any (same_name entry.name) (names_of keys)) (firsts_without (names_of keys) rest) (entry ∷ firsts_without (entry.name ∷ names_of keys) rest)
      (sym has_own ∙ not-true (list_any (λ (other : Bor Name). is_eq (by_name key other)) keys) new)
      ∙ ap (λ (more : List Entry). entry ∷ more) (same_firsts (entry.name ∷ names_of keys) (names_of (insert_key by_name keys key)) rest with_own)

  pub first_again : not (list_any (λ (other : Bor Name). is_eq (by_name key other)) keys) ≡ false
      → firsts_without (names_of keys) (entry ∷ rest) ≡ firsts_without (names_of (insert_key by_name keys key)) rest
  first_again again =
      let there : list_any (same_name entry.name) (names_of keys) ≡ true = sym has_own ∙ not-false (list_any (λ (other : Bor Name). is_eq (by_name key other)) keys) again in
      cond-true (list_any (same_name entry.name) (names_of keys)) (firsts_without (names_of keys) rest) (entry ∷ firsts_without (entry.name ∷ names_of keys) rest) there
      ∙ same_firsts (names_of keys) (names_of (insert_key by_name keys key)) rest (λ name. absorbed (names_of keys) entry.name name there ∙ with_own name)

-- ---- a loop over the entries

abbrev seen : List (Bor Entry) → List Entry
seen found = map (λ (entry : Bor Entry). entry.now) found

module _ (found : List (Bor Entry)) (key : Bor Name) (keys keys_then : List (Bor Name)) (entries : List Entry) (i : ℕ) (entry : Entry) (whole : List Entry)
    (within : i < length entries) (is : entry ≡ get_or entries i entry) (own : key.now ≡ entry.name) (then_is : keys_then ≡ insert_key by_name keys key)
    (so_far : seen found ++ firsts_without (names_of keys) (drop i entries) ≡ whole) where
  abbrev rest : List Entry
  rest = drop (i + 1) entries

  cut : drop i entries ≡ entry ∷ rest
  cut = drop_more entries i entry within ∙ ap (λ (first : Entry). first ∷ rest) (sym is)

  pub step_new : (found_then : List (Bor Entry)) (item : Bor Entry) (new : Bool) → found_then ≡ found ++ item ∷ [] → item.now ≡ entry
      → new ≡ not (list_any (λ (other : Bor Name). is_eq (by_name key other)) keys) → new ≡ true → seen found_then ++ firsts_without (names_of keys_then) rest ≡ whole
  step_new found_then item new found_is item_is new_is true_is =
      ap (λ (front : List Entry). front ++ firsts_without (names_of keys_then) rest)
      (ap seen found_is ∙ map-append (λ (e : Bor Entry). e.now) found (item ∷ []) ∙ ap (λ (e : Entry). seen found ++ e ∷ []) item_is)
      ∙ append_assoc (seen found) (entry ∷ []) (firsts_without (names_of keys_then) rest)
      ∙ ap (λ (ks : List (Bor Name)). seen found ++ entry ∷ firsts_without (names_of ks) rest) then_is
      ∙ ap (λ (more : List Entry). seen found ++ more) (sym (ap (firsts_without (names_of keys)) cut ∙ first_new key keys entry rest own (sym new_is ∙ true_is))) ∙ so_far

  pub step_again : (found_then : List (Bor Entry)) (new : Bool) → found_then ≡ found → new ≡ not (list_any (λ (other : Bor Name). is_eq (by_name key other)) keys)
      → new ≡ false → seen found_then ++ firsts_without (names_of keys_then) rest ≡ whole
  step_again found_then new found_is new_is false_is =
      ap (λ (items : List (Bor Entry)). seen items ++ firsts_without (names_of keys_then) rest) found_is
      ∙ ap (λ (ks : List (Bor Name)). seen found ++ firsts_without (names_of ks) rest) then_is
      ∙ ap (λ (more : List Entry). seen found ++ more) (sym (ap (firsts_without (names_of keys)) cut ∙ first_again key keys entry rest own (sym new_is ∙ false_is))) ∙ so_far
