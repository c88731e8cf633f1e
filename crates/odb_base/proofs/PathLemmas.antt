-- Laws of names, paths and their texts.
use Rattle.std.proofs.Common.{◌≡◌, ◌≢◌, ◌==◌, ℕ, zero, suc, ◌+◌, ◌-◌, ◌<◌, ◌≤◌, Bool, true, false, not, cond, List, [], ◌∷◌, ◌++◌}
use Rattle.std.proofs.Common.{length, get_or, drop, map, Bor, append-nil, Some, None, refl, sym, ap, subst, ◌∙◌, lit<, arith}
use Rattle.std.specs.List.{slice_split, list_any, list_all, flat_map, join_with_byte, onto_first, after_last}
use Rattle.std.proofs.lemmas.Bool.{false≢true, ne_eqb, eq-eqb}
use Rattle.std.proofs.lemmas.List.Splits.{length-slice_split, join_with_byte-slice_split}
use Rattle.std.proofs.lemmas.List.Folds.{list_any_none, list_any_at, list_all-map, list_all_at}
use Rattle.std.proofs.lemmas.List.Sums.{suffix_len_is}
use Rattle.std.specs.Str.Pattern.{RFindsChar, SplitsAroundMatch}
use Rattle.std.proofs.lemmas.Str.Pattern.{NoCharPasses-char}
use Rattle.std.proofs.lemmas.List.{get_or_default, get_or-drop, length-drop}
use Rattle.std.proofs.lemmas.Option.{none-some, same_Some, cond_some}
use Rattle.std.proofs.Math.Nat.{add-sub_cancel}
use Rattle.odb_base.specs.Path.{Name, Path, is_name, text_of, path_of, named, rooted, last_name, has_extension, extension_of}

abbrev is_slash : ℕ → Bool
is_slash b = b == 47

abbrev is_dot : ℕ → Bool
is_dot b = b == 46

-- one text that is no name
pub names-refused : (texts : List (Bor (List ℕ))) (i : ℕ) (d : Bor (List ℕ)) → i < length texts → is_name (get_or texts i d).now ≡ false → list_all is_name (map (λ t. t.now) texts) ≡ false
names-refused texts i d h e =
    list_all-map is_name (λ t. t.now) texts ∙ list_all_at (λ t. is_name t.now) texts i d h e

-- ---- the last name

pub last_name-root : last_name [] ≡ None
unfolding last_name
last_name-root = refl

pub last_name-push : (path : Path) (name : Name) → last_name (path ++ name ∷ []) ≡ Some name
unfolding last_name
last_name-push [] name = refl
last_name-push (first ∷ []) name = refl
last_name-push (first ∷ other ∷ path) name = last_name-push (other ∷ path) name

-- ---- extensions

-- after the last dot, at index k
after_last-at : (xs : List ℕ) (k : ℕ) → k < length xs → get_or xs k 0 ≡ 46 → ((i : ℕ) → k < i → i < length xs → get_or xs i 0 ≢ 46) → after_last is_dot xs ≡ drop (k + 1) xs
after_last-at xs k h at after =
    let behind : (i : ℕ) → k + 1 ≤ i → i < length xs → not (is_dot (get_or xs i 0)) ≡ true = λ i l m. ap not (ne_eqb _ _ (after i (omega arith) m)) in
    let here : not (is_dot (get_or xs (k + 1 - 1) 0)) ≡ false = ap not (ap (λ j. is_dot (get_or xs j 0)) (add-sub_cancel k 1) ∙ eq-eqb _ _ at) in
    let n = suffix_len_is (λ x. not (is_dot x)) xs (k + 1) 0 (omega arith) behind (λ _. here) in
    ap (λ j. drop j xs) (omega arith)

-- there is no dot after the first byte
has_extension-none : (first : ℕ) (rest : List ℕ) → ((i : ℕ) → 0 < i → i < length (first ∷ rest) → get_or (first ∷ rest) i 0 ≢ 46) → list_any is_dot rest ≡ false
has_extension-none first rest none =
    list_any_none is_dot rest (λ k d h. ne_eqb _ _ (λ e. none (suc k) (omega arith) (omega arith) (get_or_default rest k 0 d h ∙ e)))

-- the only dot comes first
extension_of-first : (name : Name) → ((i : ℕ) → 0 < i → i < length name → get_or name i 0 ≢ 46) → extension_of name ≡ None
unfolding extension_of has_extension
extension_of-first [] none = refl
extension_of-first (first ∷ rest) none =
    ap (λ t. cond t (Some (after_last is_dot (first ∷ rest))) None) (has_extension-none first rest none)

-- the last dot of a name is at a later index
extension_of-later : (name : Name) (k : ℕ) → 0 < k → k < length name → get_or name k 0 ≡ 46 → ((i : ℕ) → k < i → i < length name → get_or name i 0 ≢ 46) → extension_of name ≡ Some (drop (k + 1) name)
unfolding extension_of has_extension
extension_of-later [] k low h at after = absurd (omega arith)
extension_of-later (first ∷ rest) zero low h at after = absurd (omega arith)
extension_of-later (first ∷ rest) (suc k) low h at after =
    let found = list_any_at is_dot rest k 0 (omega arith) (eq-eqb _ _ at) in
    ap (λ t. cond t (Some (after_last is_dot (first ∷ rest))) None) found ∙ ap Some (after_last-at (first ∷ rest) (suc k) h at after)

-- no dot was found
pub extension_of-not_found : (name : Name) → RFindsChar 46 name None → extension_of name ≡ None
extension_of-not_found name none = extension_of-first name (λ i l h. NoCharPasses-char 46 name i none (lit< tt) h)

-- what is known of a dot that was found last
record IsLastDot (name front back : List ℕ) : Type 0 where
  within : length front < length name
  dot : get_or name (length front) 0 ≡ 46
  after : (i : ℕ) → length front < i → i < length name → get_or name i 0 ≢ 46
  back_is : back ≡ drop (length front + 1) name

last_dot : (name front back : List ℕ) → SplitsAroundMatch (RFindsChar 46) name front back → IsLastDot name front back
last_dot name front back (i, j, found, front_is, back_is, ordered, front_len, back_len) =
    let ends : j ≡ i + 1 = found.1.ends in
    record {
      within = omega arith;
      dot = ap (λ n. get_or name n 0) front_len ∙ found.1.byte (lit< tt);
      after = λ m l h e.
          let here : get_or (drop j name) (m - j) 0 ≡ get_or name m 0 = get_or-drop j name (m - j) 0 ∙ ap (λ n. get_or name n 0) (omega arith) in
          NoCharPasses-char 46 (drop j name) (m - j) found.0 (lit< tt) (omega (arith, length-drop j name)) (here ∙ e);
      back_is = back_is ∙ ap (λ n. drop n name) (omega arith);
    }

pub extension_of-found_first : (name front back : List ℕ) → SplitsAroundMatch (RFindsChar 46) name front back → length front ≡ 0 → extension_of name ≡ None
extension_of-found_first name front back h e =
    let last = last_dot name front back h in extension_of-first name (λ i l. last.after i (omega arith))

pub extension_of-found_later : (name front back : List ℕ) → SplitsAroundMatch (RFindsChar 46) name front back → 0 < length front → extension_of name ≡ Some back
extension_of-found_later name front back h l =
    let last = last_dot name front back h in
    extension_of-later name (length front) l last.within last.dot last.after ∙ ap Some (sym last.back_is)

-- ---- texts

-- the text of names, each after a slash
abbrev slashed : Path → List ℕ
slashed = flat_map (λ n. 47 ∷ n)

pub text_of-slashed : (path : Path) → 0 < length path → text_of path ≡ flat_map (λ n. 47 ∷ n) path
unfolding text_of
text_of-slashed [] h = absurd (omega arith)
text_of-slashed (name ∷ names) h = refl

join-slashed : (name : Name) (names : Path) → join_with_byte 47 (name ∷ names) ≡ name ++ slashed names
join-slashed name [] = sym (append-nil name)
join-slashed name (next ∷ names) = ap (λ t. name ++ 47 ∷ t) (join-slashed next names)

text_of-joined : (name : Name) (names : Path) → text_of (name ∷ names) ≡ 47 ∷ join_with_byte 47 (name ∷ names)
unfolding text_of
text_of-joined name names = ap (λ t. 47 ∷ t) (sym (join-slashed name names))

-- a path that parts between slashes make
record IsMade (parts path : Path) : Type 0 where
  text : text_of path ≡ 47 ∷ join_with_byte 47 parts
  are_names : list_all is_name path ≡ true

made-all : (parts path : Path) → 0 < length parts → cond (list_all is_name parts) (Some parts) None ≡ Some path → IsMade parts path
made-all [] path h e = absurd (omega arith)
made-all (name ∷ names) path h e =
    let k = cond_some (list_all is_name (name ∷ names)) (name ∷ names) path e in
    subst (IsMade (name ∷ names)) k.1 (record { text = text_of-joined name names; are_names = k.0 })

made-named : (parts path : Path) → named parts ≡ Some path → IsMade parts path
unfolding named text_of
made-named [] path e = absurd (none-some _ e)
made-named ([] ∷ []) path e = subst (IsMade ([] ∷ [])) (same_Some _ _ e) (record { text = refl; are_names = refl })
made-named ([] ∷ other ∷ names) path e = made-all ([] ∷ other ∷ names) path (omega arith) e
made-named ((b ∷ bytes) ∷ names) path e = made-all ((b ∷ bytes) ∷ names) path (omega arith) e

-- a path that the parts of a whole text make
record IsSpelled (parts path : Path) : Type 0 where
  text : text_of path ≡ join_with_byte 47 parts
  are_names : list_all is_name path ≡ true

spelled-rooted : (parts path : Path) → rooted parts ≡ Some path → IsSpelled parts path
unfolding rooted named
spelled-rooted [] path e = absurd (none-some _ e)
spelled-rooted ([] ∷ []) path e = absurd (none-some _ e)
spelled-rooted ([] ∷ name ∷ names) path e =
    let made = made-named (name ∷ names) path e in record { text = made.text; are_names = made.are_names }
spelled-rooted ((b ∷ bytes) ∷ names) path e = absurd (none-some _ e)

spelled-path_of : (text : List ℕ) (path : Path) → path_of text ≡ Some path → IsSpelled (slice_split is_slash text) path
unfolding path_of
spelled-path_of text path e = spelled-rooted (slice_split is_slash text) path e

-- a text that spells a path is the text of that path
pub text_of-path_of : (text : List ℕ) (path : Path) → path_of text ≡ Some path → text_of path ≡ text
text_of-path_of text path e = (spelled-path_of text path e).text ∙ join_with_byte-slice_split 47 text

-- what a text spells has names alone
pub names-path_of : (text : List ℕ) (path : Path) → path_of text ≡ Some path → list_all is_name path ≡ true
names-path_of text path e = (spelled-path_of text path e).are_names

-- ---- the parts of a text

rooted-cut : (cut : Bool) (b : ℕ) (parts : Path) → cut ≡ false → rooted (cond cut ([] ∷ parts) (onto_first b parts)) ≡ None
unfolding rooted
rooted-cut true b parts e = absurd (false≢true (sym e))
rooted-cut false b [] e = refl
rooted-cut false b (part ∷ parts) e = refl

pub path_of-no_slash : (text : List ℕ) → ((rest : List ℕ) → text ≢ 47 ∷ rest) → path_of text ≡ None
unfolding path_of rooted named
path_of-no_slash [] none = refl
path_of-no_slash (b ∷ bytes) none =
    rooted-cut (is_slash b) b (slice_split is_slash bytes) (ne_eqb b 47 (λ e. none bytes (ap (λ c. c ∷ bytes) e)))

pub path_of-root : path_of (47 ∷ []) ≡ Some []
unfolding path_of rooted named
path_of-root = refl

named-cut : (cut : Bool) (b : ℕ) (parts : Path) → 0 < length parts → let all = cond cut ([] ∷ parts) (onto_first b parts) in named all ≡ cond (list_all is_name all) (Some all) None
unfolding named
named-cut true b [] h = absurd (omega arith)
named-cut true b (part ∷ parts) h = refl
named-cut false b [] h = refl
named-cut false b (part ∷ parts) h = refl

-- what a text spells whose parts after the first slash are these
pub path_of-parts : (text rest : List ℕ) → text ≡ 47 ∷ rest → 0 < length rest → let parts = slice_split is_slash rest in path_of text ≡ cond (list_all is_name parts) (Some parts) None
unfolding path_of rooted
path_of-parts text [] e h = absurd (omega arith)
path_of-parts text (b ∷ bytes) e h =
    let n = length-slice_split is_slash bytes in
    ap path_of e ∙ named-cut (is_slash b) b (slice_split is_slash bytes) (omega arith)

-- the parts after the first slash are the names of the path that a text spells, if they are names
pub path_of-are_names : (text rest : List ℕ) (parts path : Path) → text ≡ 47 ∷ rest → 0 < length rest → parts ≡ slice_split (λ b. b == 47) rest → path ≡ parts
    → list_all is_name path ≡ true → path_of text ≡ Some path
path_of-are_names text rest parts path e h parts_is path_is names =
    let all = path_is ∙ parts_is in
    path_of-parts text rest e h ∙ ap (λ ps. cond (list_all is_name ps) (Some ps) None) (sym all) ∙ ap (λ t. cond t (Some path) None) names

pub path_of-no_names : (text rest : List ℕ) (parts : Path) → text ≡ 47 ∷ rest → 0 < length rest → parts ≡ slice_split (λ b. b == 47) rest → list_all is_name parts ≡ false → path_of text ≡ None
path_of-no_names text rest parts e h parts_is names =
    path_of-parts text rest e h ∙ ap (λ ps. cond (list_all is_name ps) (Some ps) None) (sym parts_is) ∙ ap (λ t. cond t (Some parts) None) names

pub text_of-root : text_of [] ≡ 47 ∷ []
unfolding text_of
text_of-root = refl
