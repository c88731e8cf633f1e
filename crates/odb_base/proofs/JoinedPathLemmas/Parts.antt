-- The parts of a text: its front and its last name, its names with slashes, and what follows another.
use Rattle.std.proofs.Common.{◌≡◌, ◌≢◌, inl, inr, ◌==◌, ℕ, suc, ◌+◌, ◌-◌, ◌<◌, true, false, cond, List, [], ◌∷◌, ◌++◌, length, get_or, take}
use Rattle.std.proofs.Common.{drop, map, append-nil, append_assoc, Some, None, refl, sym, ap, subst, ◌∙◌, lit<, arith, length-append}
use Rattle.std.specs.List.{All, slice_split, list_any, list_all, flat_map, starts_with}
use Rattle.std.specs.Str.Pattern.{RFindsChar, SplitsAroundMatch}
use Rattle.std.proofs.Math.Seq.{get_or-append_seam, drop-append-add}
use Rattle.std.proofs.lemmas.Bool.{cases_order, cases_Bool, false≢true, and_parts, or_parts, eq-eqb}
use Rattle.std.proofs.lemmas.List.{take_at, get_or-drop, get_or-append_right, length-drop, map-append, append_cancel_left}
use Rattle.std.proofs.lemmas.List.Folds.{list_all-append}
use Rattle.std.proofs.lemmas.List.Splits.{slice_split_at}
use Rattle.std.proofs.lemmas.Str.{len_utf8_ascii}
use Rattle.std.proofs.lemmas.Str.Pattern.{NoCharPasses-char}
use Rattle.odb_base.specs.Path.{Name, Path, is_name, same_name, text_of}
use Rattle.odb_base.specs.JoinedPath.{joined, names_joined, IsJoined, slashed, IsBehind}
use Rattle.odb_base.specs.PathLaws.{lies_below, goes_beyond, is_name-no_nul, All_not-list_any}
use Rattle.odb_base.proofs.PathLemmas.{text_of-slashed}
use Rattle.odb_base.proofs.JoinedPathLemmas.Names.{free-any, joined-push, joined-append, names_joined-joined, is_joined, joined_nil, whole_text, all_names}

-- ---- a text cut at its last NUL

-- the cut at the last byte c is the one after which there is no c
pub rsplit_after : (c : ℕ) (text front back before after : List ℕ) → SplitsAroundMatch (RFindsChar c) text before after → c < 128 → text ≡ front ++ c ∷ back
    → list_any (λ b. b == c) back ≡ false → (before ≡ front) × (after ≡ back)
rsplit_after c text front back before after (i, j, found, before_is, after_is, ordered, before_len, after_len) low is free =
    let ends : j ≡ i + 1 = omega (arith, found.1.ends, len_utf8_ascii c low) in
    let at : get_or text i 0 ≡ c = found.1.byte low in
    let long = ap length is ∙ length-append front (c ∷ back) in
    let not_before : i < length front → ⊥ = λ l.
    let seam : get_or (drop j text) (length front - j) 0 ≡ c =
    get_or-drop j text (length front - j) 0 ∙ ap (λ n. get_or text n 0) {x = j + (length front - j)} {y = length front} (omega arith) ∙ ap (λ t. get_or t (length front) 0) is
    ∙ get_or-append_seam front c back 0 in
    NoCharPasses-char c (drop j text) (length front - j) found.0 low (omega (arith, length-drop j text)) seam in
    let not_behind : length front < i → ⊥ = λ l.
    let deep : get_or back (i - length front - 1) 0 ≡ get_or text i 0 =
    ap (λ n. get_or (c ∷ back) n 0) {x = suc (i - length front - 1)} {y = i - length front} (omega arith)
    ∙ sym (get_or-append_right front (c ∷ back) (length front) i 0 refl (omega arith)) ∙ ap (λ t. get_or t i 0) (sym is) in
    false≢true (sym (All_not-list_any (λ b. b == c) back free (i - length front - 1) 0 (omega arith)) ∙ eq-eqb _ c (deep ∙ at)) in
    let here : length front ≡ i = elim (cases_order (length front) i) [ inl e ↦ e | inr o ↦ elim o [ inl l ↦ absurd (not_behind l) | inr l ↦ absurd (not_before l) ] ] in (
      before_is ∙ ap (take i) is ∙ take_at front (c ∷ back) i here,
      after_is ∙ ap (λ k. drop k text) {x = j} {y = length front + 1} (omega arith) ∙ ap (drop (length front + 1)) is
          ∙ drop-append-add front (c ∷ back) 1,
    )

-- a path with names has a last one
pub record HasLast (path : Path) : Type 0 where
  pub front : Path
  pub name : Name
  pub is : path ≡ front ++ name ∷ []

pub has_last : (first : Name) (names : Path) → HasLast (first ∷ names)
has_last first [] = record { front = []; name = first; is = refl }
has_last first (next ∷ names) =
    let last = has_last next names in record { front = first ∷ last.front; name = last.name; is = ap (λ ns. first ∷ ns) last.is }

-- what follows from the last NUL of a path's text, if it has one
pub record IsCut (path : Path) (before after : List ℕ) : Type 0 where
  pub front : Path
  pub before_is : before ≡ joined front
  pub is : path ≡ front ++ after ∷ []
  pub are_names : list_all is_name front ≡ true

pub no_cut : (path : Path) → RFindsChar 0 (joined path) None → path ≡ []
unfolding joined
no_cut [] none = refl
no_cut (name ∷ names) none = absurd (NoCharPasses-char 0 (0 ∷ name ++ flat_map (λ n. 0 ∷ n) names) 0 none (lit< tt) (omega arith) refl)

pub cut : (path : Path) (before after : List ℕ) → list_all is_name path ≡ true → SplitsAroundMatch (RFindsChar 0) (joined path) before after → IsCut path before after
unfolding joined
cut [] before after names (i, j, found, before_is, after_is, ordered, before_len, after_len) = absurd (omega (arith, found.1.ends, len_utf8_ascii 0 (lit< tt)))
cut (first ∷ rest) before after names splits =
    let last = has_last first rest in
    let parts = and_parts _ _ (sym (list_all-append is_name last.front (last.name ∷ [])) ∙ ap (list_all is_name) (sym last.is) ∙ names) in
    let at = rsplit_after 0 (joined (first ∷ rest)) (joined last.front) last.name before after splits (lit< tt) (ap joined last.is ∙ joined-push last.front last.name)
    (is_name-no_nul last.name (and_parts _ _ parts.1).0) in
    record { front = last.front; before_is = at.0; is = last.is ∙ ap (λ n. last.front ++ n ∷ []) (sym at.1); are_names = parts.0 }

-- what follows for a path that is seen in a text
module _ (text : List ℕ) (path : Path) (view : names_joined text ≡ path) (whole : IsJoined text) (read : List ℕ) (is : read ≡ text) where
  pub same : read ≡ joined path
  same = is ∙ whole_text text path view whole

  pub no_cut_at : RFindsChar 0 read None → path ≡ []
  no_cut_at none = no_cut path (subst (λ t. RFindsChar 0 t None) same none)

  pub cut_at : (before after : List ℕ) → SplitsAroundMatch (RFindsChar 0) read before after → IsCut path before after
  cut_at before after splits = cut path before after (all_names text path view whole) (subst (λ t. SplitsAroundMatch (RFindsChar 0) t before after) same splits)

-- ---- a text with slashes

slashed-append : (xs ys : List ℕ) → slashed (xs ++ ys) ≡ slashed xs ++ slashed ys
unfolding slashed
slashed-append xs ys = map-append (λ b. cond (b == 0) 47 b) xs ys

pub slashed-free : (xs : List ℕ) → list_any (λ b. b == 0) xs ≡ false → slashed xs ≡ xs
unfolding slashed
slashed-free [] free = refl
slashed-free (x ∷ xs) free =
    let parts = or_parts _ _ free in
    ap (λ t. cond t 47 x ∷ map (λ b. cond (b == 0) 47 b) xs) parts.0 ∙ ap (λ ys. x ∷ ys) (slashed-free xs parts.1)

-- the text of a path with slashes is the path's own
pub slashed-joined : (path : Path) → list_all is_name path ≡ true → slashed (joined path) ≡ flat_map (λ n. 47 ∷ n) path
unfolding joined slashed
slashed-joined [] names = slashed-free [] refl
slashed-joined (name ∷ rest) names =
    let parts = and_parts _ _ names in
    slashed-append (0 ∷ name) (joined rest) ∙ ap (λ t. slashed (0 ∷ name) ++ t) (slashed-joined rest parts.1)
    ∙ ap (λ t. (47 ∷ t) ++ flat_map (λ n. 47 ∷ n) rest) (slashed-free name (is_name-no_nul name parts.0))

-- a piece up to a NUL, and what is left
pub slashed-piece : (text name more : List ℕ) → text ≡ name ++ 0 ∷ more → ((i : ℕ) → i < length name → get_or name i 0 ≢ 0) → slashed text ≡ name ++ 47 ∷ slashed more
unfolding slashed
slashed-piece text name more is free =
    ap slashed is ∙ slashed-append name (0 ∷ more) ∙ ap (λ t. t ++ 47 ∷ slashed more) (slashed-free name (free-any name free))

pub slashed-rest : (text : List ℕ) → ((i : ℕ) → i < length text → get_or text i 0 ≢ 0) → slashed text ≡ text
slashed-rest text free = slashed-free text (free-any text free)

-- a step of writing a text piece by piece
pub slashed-further : (written text name more : List ℕ) → text ≡ name ++ 0 ∷ more → ((i : ℕ) → i < length name → get_or name i 0 ≢ 0)
    → ((written ++ name) ++ 47 ∷ []) ++ slashed more ≡ written ++ slashed text
slashed-further written text name more is free =
    append_assoc (written ++ name) (47 ∷ []) (slashed more) ∙ append_assoc written name (47 ∷ slashed more) ∙ ap (λ t. written ++ t) (sym (slashed-piece text name more is free))

-- the text of a path that isn't the root
pub slashed-text : (path : Path) → list_all is_name path ≡ true → path ≢ [] → slashed (joined path) ≡ text_of path
slashed-text [] names some = absurd (some refl)
slashed-text (name ∷ rest) names some = slashed-joined (name ∷ rest) names ∙ sym (text_of-slashed (name ∷ rest) (omega arith))

-- ---- a text after another

-- names, and then a NUL and any text
joined-split : (base : Path) (rest : List ℕ) → list_all is_name base ≡ true → names_joined (joined base ++ 0 ∷ rest) ≡ base ++ names_joined (0 ∷ rest)
unfolding joined names_joined
joined-split [] rest names = refl
joined-split (name ∷ base) rest names =
    let parts = and_parts _ _ names in
    ap (slice_split (λ b. b == 0)) (append_assoc name (flat_map (λ n. 0 ∷ n) base) (0 ∷ rest)) ∙ split_joined name base rest parts.0 parts.1
  where
    free : (n : Name) → is_name n ≡ true → All (λ b. (b == 0) ≡ false) n
    free n e = All_not-list_any (λ b. b == 0) n (is_name-no_nul n e)

    split_joined : (n : Name) (ns : Path) (r : List ℕ) → is_name n ≡ true → list_all is_name ns ≡ true
        → slice_split (λ b. b == 0) (n ++ (flat_map (λ m. 0 ∷ m) ns ++ 0 ∷ r)) ≡ n ∷ ns ++ slice_split (λ b. b == 0) r
    split_joined n [] r e all = slice_split_at (λ b. b == 0) n 0 r (free n e) refl
    split_joined n (m ∷ ns) r e all =
        let parts = and_parts _ _ all in
        slice_split_at (λ b. b == 0) n 0 ((m ++ flat_map (λ k. 0 ∷ k) ns) ++ 0 ∷ r) (free n e) refl
        ∙ ap (λ t. n ∷ slice_split (λ b. b == 0) t) (append_assoc m (flat_map (λ k. 0 ∷ k) ns) (0 ∷ r))
        ∙ ap (λ ps. n ∷ ps) (split_joined m ns r parts.0 parts.1)

-- the text of a path is that of another and what is left, as it was read
pub split_at : (path base : Path) (text front rest : List ℕ) (n : ℕ) → text ≡ joined path → front ≡ joined base → text ≡ front ++ drop n text → rest ≡ drop n text → joined path ≡ joined base ++ rest
split_at path base text front rest n own whole split is = sym own ∙ split ∙ ap (λ t. t ++ drop n text) whole ∙ ap (λ t. joined base ++ t) (sym is)

-- a path's text begins with NUL
goes_on : (x : ℕ) (rest : List ℕ) → x ≢ 0 → (path : Path) → joined path ≢ x ∷ rest
unfolding joined
goes_on x rest some [] e = cc
goes_on x rest some (name ∷ path) e = some (sym (ap (λ t. get_or t 0 0) e))

module _ (path base : Path) (names : list_all is_name path ≡ true) (base_names : list_all is_name base ≡ true) where
  -- the text doesn't begin with the other
  pub not_behind : ((rest : List ℕ) → joined path ≢ joined base ++ rest) → starts_with same_name path base ≡ false
  not_behind lacks = elim (cases_Bool (starts_with same_name path base)) [ inl holds ↦ absurd (lacks _ (ap joined (goes_beyond path base holds) ∙ joined-append base _)) | inr fails ↦ fails ]

  -- the text goes on within a name
  pub within_name : (x : ℕ) (rest : List ℕ) → joined path ≡ joined base ++ x ∷ rest → x ≢ 0 → starts_with same_name path base ≡ false
  within_name x rest is some = elim (cases_Bool (starts_with same_name path base)) [
    | inl holds ↦ absurd (goes_on x rest some (drop (length base) path)
        (append_cancel_left (joined base) _ _ (sym (joined-append base (drop (length base) path)) ∙ ap joined (sym (goes_beyond path base holds)) ∙ is)))
    | inr fails ↦ fails
  ]

  -- the two texts are the same
  pub all_behind : joined path ≡ joined base → IsBehind path base (Some [])
  unfolding names_joined
  all_behind is =
      let same : path ≡ base = sym (names_joined-joined path names) ∙ ap names_joined is ∙ names_joined-joined base base_names in
      (lies_below path base [] (same ∙ sym (append-nil base)), append-nil base ∙ sym same, is_joined [] [] (joined_nil) refl)

  -- the text goes on with a NUL
  pub more_behind : (rest : List ℕ) → joined path ≡ joined base ++ 0 ∷ rest → IsBehind path base (Some (0 ∷ rest))
  more_behind rest is =
      let parts : path ≡ base ++ names_joined (0 ∷ rest) = sym (names_joined-joined path names) ∙ ap names_joined is ∙ joined-split base rest base_names in
      let whole = append_cancel_left (joined base) _ _ (sym is ∙ ap joined parts ∙ joined-append base (names_joined (0 ∷ rest))) in (
        lies_below path base _ parts,
        sym parts,
        record {
          whole = whole;
          are_names =
              (and_parts _ _ (sym (list_all-append is_name base (names_joined (0 ∷ rest))) ∙ ap (list_all is_name) (sym parts) ∙ names)).1;
        },
      )

  -- what is left is empty, or goes on with NUL, or within a name
  pub goes_behind : (rest more : List ℕ) → joined path ≡ joined base ++ rest → rest ≡ 0 ∷ more → IsBehind path base (Some rest)
  goes_behind rest more is nul = subst (λ r. IsBehind path base (Some r)) (sym nul) (more_behind more (is ∙ ap (λ r. joined base ++ r) nul))

  pub ends_behind : (rest : List ℕ) → joined path ≡ joined base ++ rest → rest ≡ [] → IsBehind path base (Some rest)
  ends_behind rest is nil = subst (λ r. IsBehind path base (Some r)) (sym nil) (all_behind (is ∙ ap (λ r. joined base ++ r) nil ∙ append-nil (joined base)))

  pub goes_within : (rest : List ℕ) → joined path ≡ joined base ++ rest → 0 < length rest → ((more : List ℕ) → rest ≢ 0 ∷ more) → starts_with same_name path base ≡ false
  goes_within [] is some other = absurd (omega arith)
  goes_within (x ∷ rest) is some other = within_name x rest is (λ e. other rest (ap (λ y. y ∷ rest) e))
