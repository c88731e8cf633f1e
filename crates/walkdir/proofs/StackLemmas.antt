-- Laws of the stack of a walk: its order, and the streams of its directories.
pub mod Sound
pub mod At
use Rattle.std.proofs.Common.{◌≡◌, ℕ, zero, suc, ◌+◌, ◌-◌, ◌≤◌, List, [], ◌∷◌, ◌++◌, length, reverse, take, drop, Option}
use Rattle.std.proofs.Common.{Some, None, refl, sym, ap, ◌∙◌, arith, length-append, length-drop, take-append-drop}
use Rattle.std.specs.List.{cons_option}
use Rattle.std.proofs.lemmas.List.{reverse-append}
use Rattle.std.proofs.lemmas.List.Elements.{filter_map-append}
use lib.Seq.{append_snoc}
use mathlib.Core.List.{reverse-cons}
use Rattle.odb_base.specs.Path.{Path}
use Rattle.walkdir.specs.Sound.{IsSound}
use Rattle.walkdir.specs.Stack.{own_streams}
use Rattle.walkdir.specs.Directory.{stream_in}
use Rattle.walkdir.specs.declared.builder.Options.{Options}
use Rattle.walkdir.specs.declared.directory.DirList.{DirList}
use Rattle.walkdir.specs.declared.directory.Items.{Items}

-- ---- the innermost first

pub reversed_at : (outer : List DirList) (list : DirList) (inner : List DirList) → reverse (outer ++ list ∷ inner) ≡ reverse inner ++ list
    ∷ reverse outer
reversed_at outer list inner =
    reverse-append outer (list ∷ inner) ∙ ap (λ r. r ++ reverse outer) (reverse-cons list inner) ∙ append_snoc (reverse inner) list (reverse outer)

pub reversed_last : (lists : List DirList) (list : DirList) → reverse (lists ++ list ∷ []) ≡ list ∷ reverse lists
reversed_last lists list = reverse-append lists (list ∷ [])

-- ---- the streams of a stack

pub own-append : (inner outer : List DirList) → own_streams (inner ++ outer) ≡ own_streams inner ++ own_streams outer
own-append inner outer = filter_map-append (λ (list : DirList). stream_in list.items) inner outer

pub own_at : (inner : List DirList) (list : DirList) (outer : List DirList) (dir : ℕ) → stream_in list.items ≡ Some dir
    → own_streams (inner ++ list ∷ outer) ≡ own_streams inner ++ dir ∷ own_streams outer
own_at inner list outer dir is = own-append inner (list ∷ outer) ∙ ap (λ o. own_streams inner ++ cons_option o (own_streams outer)) is

pub own_past : (inner : List DirList) (list : DirList) (outer : List DirList) → stream_in list.items ≡ None
    → own_streams (inner ++ list ∷ outer) ≡ own_streams inner ++ own_streams outer
own_past inner list outer is = own-append inner (list ∷ outer) ∙ ap (λ o. own_streams inner ++ cons_option o (own_streams outer)) is

none_before : (o : Option ℕ) (own : List ℕ) → cons_option o own ≡ [] → o ≡ None
none_before None own is = refl
none_before (Some dir) own is = cc

none_behind : (o : Option ℕ) (own : List ℕ) → cons_option o own ≡ [] → own ≡ []
none_behind None own is = is
none_behind (Some dir) own is = cc

none_in : (o : Option ℕ) (own : List ℕ) → o ≡ None → own ≡ [] → cons_option o own ≡ []
none_in o own none empty = ap (λ n. cons_option n own) none ∙ empty

one_more : (o : Option ℕ) (own : List ℕ) (n : ℕ) → length own ≤ n → length (cons_option o own) ≤ suc n
one_more None own n le = omega arith
one_more (Some dir) own n le = omega arith

own_few : (lists : List DirList) → length (own_streams lists) ≤ length lists
own_few [] = omega arith
own_few (list ∷ lists) = one_more (stream_in list.items) (own_streams lists) (length lists) (own_few lists)

length-cons_option : (o : Option ℕ) (own : List ℕ) → length (cons_option o own) ≡ length own + length (cons_option o [])
length-cons_option None own = omega arith
length-cons_option (Some dir) own = omega arith

own-reverse : (lists : List DirList) → length (own_streams (reverse lists)) ≡ length (own_streams lists)
own-reverse [] = refl
own-reverse (list ∷ lists) =
    ap (λ r. length (own_streams r)) (reverse-cons list lists) ∙ ap length (own-append (reverse lists) (list ∷ []))
    ∙ length-append (own_streams (reverse lists)) (own_streams (list ∷ [])) ∙ ap (λ n. n + length (own_streams (list ∷ []))) (own-reverse lists)
    ∙ sym (length-cons_option (stream_in list.items) (own_streams lists))

-- the directories without a stream leave room for the others
pub own_within : (options : Options) (start : Option Path) (lists : List DirList) (first_open : ℕ) → IsSound options start lists first_open
    → length (own_streams (reverse lists)) + first_open ≤ length lists
own_within options start lists first_open sound =
    let split : own_streams lists ≡ own_streams (take first_open lists) ++ own_streams (drop first_open lists) =
    ap own_streams (sym (take-append-drop first_open lists)) ∙ own-append (take first_open lists) (drop first_open lists) in
    let alone : own_streams lists ≡ own_streams (drop first_open lists) = split ∙ ap (λ o. o ++ own_streams (drop first_open lists)) sound.closed in
    let all : length (own_streams (reverse lists)) ≡ length (own_streams (drop first_open lists)) = own-reverse lists ∙ ap length alone in
    let few : length (own_streams (drop first_open lists)) ≤ length (drop first_open lists) = own_few (drop first_open lists) in
    let long : length (drop first_open lists) ≡ length lists - first_open = length-drop first_open lists in
    let in_range : first_open ≤ length lists = sound.in_range in
    omega arith

-- ---- no stream below an index

pub closed_put : (count : ℕ) (outer : List DirList) (list : DirList) (inner : List DirList) (items : Items) → stream_in items ≡ None
    → own_streams (take count (outer ++ list ∷ inner)) ≡ [] → own_streams (take count (outer ++ (record list { items = items }) ∷ inner)) ≡ []
closed_put zero outer list inner items none is = refl
closed_put (suc count) [] list inner items none is =
    none_in (stream_in items) (own_streams (take count inner)) none (none_behind (stream_in list.items) (own_streams (take count inner)) is)
closed_put (suc count) (first ∷ outer) list inner items none is =
    none_in (stream_in first.items) (own_streams (take count (outer ++ (record list { items = items }) ∷ inner)))
    (none_before (stream_in first.items) (own_streams (take count (outer ++ list ∷ inner))) is)
    (closed_put count outer list inner items none (none_behind (stream_in first.items) (own_streams (take count (outer ++ list ∷ inner))) is))

pub closed_less : (count fewer : ℕ) (lists more : List DirList) → fewer ≤ count → fewer ≤ length lists → own_streams (take count (lists ++ more)) ≡ []
    → own_streams (take fewer lists) ≡ []
closed_less count zero lists more le within is = refl
closed_less count (suc fewer) [] more le within is = refl
closed_less zero (suc fewer) (first ∷ lists) more le within is = absurd (omega arith)
closed_less (suc count) (suc fewer) (first ∷ lists) more le within is =
    none_in (stream_in first.items) (own_streams (take fewer lists))
    (none_before (stream_in first.items) (own_streams (take count (lists ++ more))) is)
    (closed_less count fewer lists more (omega arith) (omega arith)
    (none_behind (stream_in first.items) (own_streams (take count (lists ++ more))) is))
