-- The names of a multi-pack index, one after another.
use Rattle.std.proofs.Common.{◌≡◌, ℕ, zero, suc, ◌+◌, ◌-◌, ◌<◌, ◌≤◌, ◌==◌, ◌&&◌, not, nat_lt, Bool, true, false, List, [], ◌∷◌, ◌++◌}
use Rattle.std.proofs.Common.{length, take, drop, Some, None, refl, sym, ap, ◌∙◌, arith, append_assoc, length-append, cond}
use Rattle.std.specs.List.{list_all, onto_first, position, position_or_len, slice_split}
use Rattle.std.specs.Ordering.{is_lt}
use Rattle.std.specs.Str.{IsUtf8, is_utf8}
use Rattle.std.proofs.lemmas.Bool.{and_parts}
use Rattle.std.proofs.lemmas.List.{drop-drop}
use Rattle.std.proofs.lemmas.Str.{IsUtf8-from_is_utf8, is_utf8-from_IsUtf8}
use Rattle.std.proofs.lemmas.Bool.Decides.{nat_tests}
use Rattle.std.proofs.lemmas.Option.{cond_some}
use Rattle.std.proofs.lemmas.List.Splits.{length-slice_split, slice_split_first}
use Rattle.odb_base.specs.Path.{name_cmp}
use Rattle.gix_pack_read.specs.MultiIndex.Held.{are_names, holds_names, is_index_name, name_parts, names_rise}
use Rattle.gix_pack_read.specs.MultiIndexNames.{go_on, rise_from}

-- ---- n names, from the first on

false_after : (b : Bool) → (b && false) ≡ false
false_after true = refl
false_after false = refl

long_enough : (name : List ℕ) → is_index_name name ≡ true → nat_lt 4 (length name) ≡ true
unfolding is_index_name
long_enough name named = (and_parts _ _ (and_parts _ _ (and_parts _ _ named).1).0).1

-- a name isn't empty, so it is above the empty one
above_nothing : (name : List ℕ) → is_index_name name ≡ true → is_lt (name_cmp [] name) ≡ true
above_nothing [] named = cc (long_enough [] named)
above_nothing (b ∷ name) named = refl

rise_behind : (name : List ℕ) (names : List (List ℕ)) → rise_from name names ≡ names_rise (name ∷ names)
unfolding names_rise
rise_behind name [] = refl
rise_behind name (next ∷ names) = ap (λ (b : Bool). is_lt (name_cmp name next) && b) (rise_behind next names)

named_and_rise : (first named : Bool) (more : List (List ℕ)) (name : List ℕ) → first ≡ is_index_name name → is_lt (name_cmp [] name) ≡ named → (first ≡ true → named ≡ true)
    → (first && list_all is_index_name more && (named && rise_from name more)) ≡ (first && list_all is_index_name more && names_rise (name ∷ more))
named_and_rise true true more name is above all = ap (λ (b : Bool). list_all is_index_name more && b) (rise_behind name more)
named_and_rise true false more name is above all = absurd (cc (all refl))
named_and_rise false named more name is above all = refl

-- names that rise from the empty one rise
rise_at_first : (names : List (List ℕ)) → (list_all is_index_name names && rise_from [] names) ≡ are_names names
unfolding names_rise
rise_at_first [] = refl
rise_at_first (name ∷ names) = named_and_rise (is_index_name name) (is_lt (name_cmp [] name)) names name refl refl (above_nothing name)

pub all_names : (packs : ℕ) (chunk : List ℕ) → go_on [] packs chunk ≡ holds_names packs chunk
unfolding go_on holds_names
all_names packs chunk =
    ap (λ (b : Bool). nat_lt packs (length (name_parts chunk)) && b && list_all (λ part. length part == 0) (drop packs (name_parts chunk))) (rise_at_first (take packs (name_parts chunk)))

-- ---- one more name

room_less : (left room : ℕ) → nat_lt (suc left) (suc room) ≡ nat_lt left room
room_less left room = grind (arith, nat_tests)

turned : (room named above rise end : Bool) → (room && (named && (above && rise)) && end) ≡ (above && (room && (named && rise) && end))
turned true true true rise end = refl
turned true true false rise end = refl
turned true false true rise end = refl
turned true false false rise end = refl
turned false named true rise end = refl
turned false named false rise end = refl

go_on_parts : List ℕ → ℕ → List (List ℕ) → Bool
go_on_parts last left parts =
    nat_lt left (length parts) && (list_all is_index_name (take left parts) && rise_from last (take left parts)) && list_all (λ part. length part == 0) (drop left parts)

go_on_is : (last : List ℕ) (left : ℕ) (rest : List ℕ) → go_on last left rest ≡ go_on_parts last left (name_parts rest)
unfolding go_on go_on_parts
go_on_is last left rest = refl

one_name : (last name : List ℕ) (left : ℕ) (parts : List (List ℕ)) → is_index_name name ≡ true
    → go_on_parts last (suc left) (name ∷ parts) ≡ (is_lt (name_cmp last name) && go_on_parts name left parts)
unfolding go_on_parts
one_name last name left parts named =
    ap (λ (b : Bool). nat_lt (suc left) (length (name ∷ parts)) &&
    (b && list_all is_index_name (take left parts) && (is_lt (name_cmp last name) && rise_from name (take left parts))) && list_all (λ part. length part == 0)
    (drop left parts)) named
    ∙ ap (λ (b : Bool). b && (list_all is_index_name (take left parts) && (is_lt (name_cmp last name) && rise_from name (take left parts))) && list_all (λ part. length part == 0)
    (drop left parts)) (room_less left (length parts))
    ∙ turned (nat_lt left (length parts)) (list_all is_index_name (take left parts)) (is_lt (name_cmp last name)) (rise_from name (take left parts))
    (list_all (λ part. length part == 0) (drop left parts))

not_named : (last name : List ℕ) (left : ℕ) (parts : List (List ℕ)) → is_index_name name ≡ false → go_on_parts last (suc left) (name ∷ parts) ≡ false
unfolding go_on_parts
not_named last name left parts other =
    ap (λ (b : Bool). nat_lt (suc left) (length (name ∷ parts)) &&
    (b && list_all is_index_name (take left parts) && (is_lt (name_cmp last name) && rise_from name (take left parts))) && list_all (λ part. length part == 0)
    (drop left parts)) other
    ∙ ap (λ (b : Bool). b && list_all (λ part. length part == 0) (drop left parts)) (false_after (nat_lt (suc left) (length (name ∷ parts))))

too_few : (last : List ℕ) (left : ℕ) (parts : List (List ℕ)) → length parts ≤ left → go_on_parts last left parts ≡ false
unfolding go_on_parts
too_few last left parts short =
    let no : nat_lt left (length parts) ≡ false = grind (arith, nat_tests) in
    ap (λ (b : Bool). b && (list_all is_index_name (take left parts) && rise_from last (take left parts)) && list_all (λ part. length part == 0) (drop left parts)) no

-- ---- only NULs

first_has_bytes : (b : ℕ) (parts : List (List ℕ)) → list_all (λ part. length part == 0) (onto_first b parts) ≡ false
first_has_bytes b [] = refl
first_has_bytes b (part ∷ parts) =
    let some : (length (b ∷ part) == 0) ≡ false = grind (arith, nat_tests) in
    ap (λ (x : Bool). x && list_all (λ part. length part == 0) parts) some

by_first : (b : ℕ) (bytes : List ℕ) (is : Bool) → list_all (λ part. length part == 0) (slice_split (λ b. b == 0) bytes) ≡ list_all (λ b. b == 0) bytes
    → list_all (λ part. length part == 0) (cond is ([] ∷ slice_split (λ b. b == 0) bytes) (onto_first b (slice_split (λ b. b == 0) bytes))) ≡ (is && list_all (λ b. b == 0) bytes)
by_first b bytes true behind = behind
by_first b bytes false behind = first_has_bytes b (slice_split (λ b. b == 0) bytes)

all_empty : (bytes : List ℕ) → list_all (λ part. length part == 0) (name_parts bytes) ≡ list_all (λ b. b == 0) bytes
all_empty [] = refl
all_empty (b ∷ bytes) = by_first b bytes (b == 0) (all_empty bytes)

empty_parts : (last rest : List ℕ) → go_on_parts last 0 (name_parts rest) ≡ list_all (λ b. b == 0) rest
unfolding go_on_parts
empty_parts last rest =
    let some : nat_lt 0 (length (name_parts rest)) ≡ true = let more = length-slice_split (λ b. b == 0) rest in grind (arith, nat_tests) in
    ap (λ (b : Bool). b && (true && true) && list_all (λ part. length part == 0) (name_parts rest)) some ∙ all_empty rest

pub name_more : (last name : List ℕ) (left : ℕ) (rest behind : List ℕ) → 0 < left → name_parts rest ≡ name ∷ name_parts behind → is_index_name name ≡ true
    → go_on last left rest ≡ (is_lt (name_cmp last name) && go_on name (left - 1) behind)
name_more last name zero rest behind h parts named = absurd (omega arith)
name_more last name (suc left) rest behind h parts named =
    let less : suc left - 1 ≡ left = omega arith in
    rw less (go_on_is last (suc left) rest ∙ ap (go_on_parts last (suc left)) parts ∙ one_name last name left (name_parts behind) named
    ∙ ap (λ (b : Bool). is_lt (name_cmp last name) && b) (sym (go_on_is name left behind)))

-- a name that is not above the last one
pub name_refused : (last name : List ℕ) (left : ℕ) (rest behind : List ℕ) → 0 < left → name_parts rest ≡ name ∷ name_parts behind → is_index_name name ≡ true
    → is_lt (name_cmp last name) ≡ false → go_on last left rest ≡ false
name_refused last name left rest behind some parts named below = name_more last name left rest behind some parts named ∙ ap (λ (b : Bool). b && go_on name (left - 1) behind) below

-- one that does
pub name_taken : (last name : List ℕ) (left : ℕ) (rest behind : List ℕ) → 0 < left → name_parts rest ≡ name ∷ name_parts behind → is_index_name name ≡ true → is_lt (name_cmp last name) ≡ true
    → go_on last left rest ≡ go_on name (left - 1) behind
name_taken last name left rest behind some parts named above = name_more last name left rest behind some parts named ∙ ap (λ (b : Bool). b && go_on name (left - 1) behind) above

-- a part that is no name
pub no_name : (last name : List ℕ) (left : ℕ) (rest : List ℕ) (parts : List (List ℕ)) → 0 < left → name_parts rest ≡ name ∷ parts → is_index_name name ≡ false → go_on last left rest ≡ false
no_name last name zero rest parts h is other = absurd (omega arith)
no_name last name (suc left) rest parts h is other = go_on_is last (suc left) rest ∙ ap (go_on_parts last (suc left)) is ∙ not_named last name left parts other

-- bytes without NUL are no terminated name
pub no_end : (last : List ℕ) (left : ℕ) (rest : List ℕ) → 0 < left → length (name_parts rest) ≤ 1 → go_on last left rest ≡ false
no_end last left rest h short = go_on_is last left rest ∙ too_few last left (name_parts rest) (omega arith)

-- after the last name there are only NULs
pub nuls_behind : (last rest : List ℕ) → go_on last 0 rest ≡ list_all (λ b. b == 0) rest
nuls_behind last rest = go_on_is last 0 rest ∙ empty_parts last rest

-- the names so far, and those after them
names_more : (names : List (List ℕ)) (name : List ℕ) (left : ℕ) (parts : List (List ℕ)) → 0 < left → names ++ take left (name ∷ parts) ≡ (names ++ name ∷ []) ++ take (left - 1) parts
names_more names name zero parts h = absurd (omega arith)
names_more names name (suc left) parts h =
    let less : suc left - 1 ≡ left = omega arith in
    rw less (sym (append_assoc names (name ∷ []) (take left parts)))

pub names_step : (whole names pushed : List (List ℕ)) (name : List ℕ) (left : ℕ) (rest behind : List ℕ) → 0 < left → name_parts rest ≡ name ∷ name_parts behind
    → whole ≡ names ++ take left (name_parts rest) → pushed ≡ names ++ name ∷ [] → whole ≡ pushed ++ take (left - 1) (name_parts behind)
names_step whole names pushed name left rest behind some parts so_far added =
    so_far ∙ ap (λ (its : List (List ℕ)). names ++ take left its) parts ∙ names_more names name left (name_parts behind) some
    ∙ ap (λ (its : List (List ℕ)). its ++ take (left - 1) (name_parts behind)) (sym added)

pub length_pushed : (names pushed : List (List ℕ)) (name : List ℕ) → pushed ≡ names ++ name ∷ [] → length pushed ≡ length names + 1
length_pushed names pushed name added = ap (λ (its : List (List ℕ)). length its) added ∙ length-append names (name ∷ [])

-- ---- where a name ends

pub at_nul : (bytes : List ℕ) (end : ℕ) → position (λ b. b == 0) bytes ≡ Some end → (name_parts bytes ≡ take end bytes ∷ name_parts (drop (end + 1) bytes)) × (end < length bytes)
at_nul bytes end is =
    let found = cond_some (nat_lt (position_or_len (λ b. b == 0) bytes) (length bytes)) (position_or_len (λ b. b == 0) bytes) end is in
    let below : position_or_len (λ b. b == 0) bytes < length bytes = grind (arith, nat_tests) in
    let place : position_or_len (λ b. b == 0) bytes ≡ end = found.1 in
    (slice_split_first (λ b. b == 0) bytes 0 below ∙ ap (λ (place : ℕ). take place bytes ∷ name_parts (drop (place + 1) bytes)) place, omega arith)

onto_one : (b : ℕ) (parts : List (List ℕ)) → length parts ≤ 1 → length (onto_first b parts) ≤ 1
onto_one b [] short = omega arith
onto_one b (part ∷ parts) short = short

one_part : (b : ℕ) (bytes : List ℕ) (is : Bool) → (length bytes ≤ position_or_len (λ b. b == 0) bytes → length (name_parts bytes) ≤ 1)
    → length (b ∷ bytes) ≤ cond (not is) (1 + position_or_len (λ b. b == 0) bytes) 0 → length (cond is ([] ∷ name_parts bytes) (onto_first b (name_parts bytes))) ≤ 1
one_part b bytes true behind past = absurd (omega arith)
one_part b bytes false behind past = onto_one b (name_parts bytes) (behind (omega arith))

one_part_in : (bytes : List ℕ) → length bytes ≤ position_or_len (λ b. b == 0) bytes → length (name_parts bytes) ≤ 1
one_part_in [] past = omega arith
one_part_in (b ∷ bytes) past = one_part b bytes (b == 0) (one_part_in bytes) past

no_place : (found : Bool) (end : ℕ) → cond found (Some end) None ≡ None → found ≡ false
no_place true end h = cc (h)
no_place false end h = refl

pub without_nul : (bytes : List ℕ) → position (λ b. b == 0) bytes ≡ None → length (name_parts bytes) ≤ 1
without_nul bytes is =
    let no = no_place (nat_lt (position_or_len (λ b. b == 0) bytes) (length bytes)) (position_or_len (λ b. b == 0) bytes) is in
    let past : length bytes ≤ position_or_len (λ b. b == 0) bytes = grind (arith, nat_tests) in
    one_part_in bytes past

-- the first name, by where it ends
pub first_taken : (bytes name behind : List ℕ) (end : ℕ) → position (λ b. b == 0) bytes ≡ Some end → name ≡ take end bytes → behind ≡ drop 1 (drop end bytes)
    → name_parts bytes ≡ name ∷ name_parts behind
first_taken bytes name behind end is name_is behind_is =
    (at_nul bytes end is).0 ∙ ap (λ (own : List ℕ). own ∷ name_parts (drop (end + 1) bytes)) (sym name_is)
    ∙ ap (λ (rest : List ℕ). name ∷ name_parts rest) (sym (behind_is ∙ drop-drop 1 end bytes))

-- bytes that end as the first name does, and are no name
pub first_refused : (bytes name : List ℕ) (end : ℕ) → position (λ b. b == 0) bytes ≡ Some end → name ≡ take end bytes → is_index_name name ≡ false → (last : List ℕ) (left : ℕ)
    → 0 < left → go_on last left bytes ≡ false
first_refused bytes name end is name_is other last left some =
    no_name last (take end bytes) left bytes (name_parts (drop (end + 1) bytes)) some (at_nul bytes end is).0 (ap is_index_name (sym name_is) ∙ other)

-- ---- text

by_test : (bytes : List ℕ) (test : Bool) → is_utf8 bytes ≡ test → (IsUtf8 bytes → ⊥) → test ≡ false
by_test bytes true is other = absurd (other (IsUtf8-from_is_utf8 bytes is))
by_test bytes false is other = refl

pub not_utf8 : (bytes : List ℕ) → (IsUtf8 bytes → ⊥) → is_utf8 bytes ≡ false
not_utf8 bytes other = by_test bytes (is_utf8 bytes) refl other

pub utf8 : (bytes : List ℕ) → IsUtf8 bytes → is_utf8 bytes ≡ true
utf8 bytes is = is_utf8-from_IsUtf8 bytes is
