-- Laws of how much a walk has left to do, while its streams are read.
use Rattle.std.proofs.Common.{◌≡◌, ℕ, ◌+◌, ◌*◌, ◌≤◌, inl, inr, Bool, true, false, cond, List, [], ◌∷◌, ◌++◌, length, Option}
use Rattle.std.proofs.Common.{Some, None, is_some, unwrap_or, refl, sym, ap, subst, ◌∙◌, arith, length-append}
use Rattle.std.specs.Option.{option_map}
use Rattle.std.specs.List.{cons_option}
use Rattle.std.specs.FinMap as finite
use native.Mathlib.Nat.{mul-le-mul_right}
use lib.Seq.{append_snoc}
use Rattle.odb_disk.specs.declared.entry.Entry.{Entry}
use Rattle.odb_disk.specs.Streams.{Streams, is_open, with_closed, with_stream}
use Rattle.walkdir.specs.OwnStreams.{OpenDirs, AreBeside}
use Rattle.walkdir.specs.Directory.{left_in, stream_in, without_stream}
use Rattle.walkdir.specs.Stack.{own_streams, weight, work_in}
use Rattle.walkdir.specs.Turns.Drawn.{IsDrawn, OpensAtMost, left_of}
use Rattle.walkdir.specs.declared.directory.DirList.{DirList}
use Rattle.walkdir.specs.declared.directory.Items.{Items}
use Rattle.walkdir.specs.declared.directory.Items.TheVariants.{Opened, Closed, Skipped}
use Rattle.walkdir.proofs.OwnStreamsLemmas.{tied, same_number, at_insert, at_remove, own_is_open}

-- ---- streams that have no more left than before

pub LeftLess : Streams → Streams → Type 0
LeftLess old new = (dir : ℕ) → is_open old dir ≡ true → left_of new dir ≤ left_of old dir

pub less_same : (old new : Streams) → new.open_dirs ≡ old.open_dirs → LeftLess old new
unfolding LeftLess
less_same old new is dir opened =
    let e : left_of new dir ≡ left_of old dir = ap (λ (m : OpenDirs). unwrap_or (option_map length (finite.get m dir)) 0) is in omega arith

left_put : (b : Bool) (rest : List Entry) (o : Option (List Entry)) (n : ℕ) → length rest ≤ n → unwrap_or (option_map length o) 0 ≡ n
    → unwrap_or (option_map length (cond b (Some rest) o)) 0 ≤ n
left_put true rest o n le is = le
left_put false rest o n le is = omega arith

drawn_less : (old : Streams) (dir : ℕ) (rest : List Entry) → length rest ≤ left_of old dir → LeftLess old (with_stream old dir rest)
unfolding LeftLess
drawn_less old dir rest few q opened =
    subst (λ o. unwrap_or (option_map length o) 0 ≤ left_of old q) (sym (at_insert old.open_dirs dir rest q))
    (elim (tied q dir) as (λ b. tied q dir ≡ b → unwrap_or (option_map length (cond b (Some rest) (finite.get old.open_dirs q))) 0 ≤ left_of old q) [
      | true ↦ λ t. let n : left_of old q ≡ left_of old dir = ap (left_of old) (same_number q dir t) in omega arith
      | false ↦ λ _. omega arith
    ] refl)

pub less_drawn : (old : Streams) (dir : ℕ) (new : Streams) → IsDrawn old dir new → LeftLess old new
less_drawn old dir new (inl same) = less_same old new (ap (λ (s : Streams). s.open_dirs) same)
less_drawn old dir new (inr drawn) = subst (LeftLess old) (sym drawn.3) (drawn_less old dir drawn.0 drawn.2)

closed_less : (old : Streams) (dir q : ℕ) → left_of (with_closed old dir) q ≤ left_of old q
closed_less old dir q =
    subst (λ o. unwrap_or (option_map length o) 0 ≤ left_of old q) (sym (at_remove old.open_dirs dir q))
    (gone (tied q dir) (finite.get old.open_dirs q))
  where
    gone : (b : Bool) (o : Option (List Entry)) → unwrap_or (option_map length (cond b None o)) 0 ≤ unwrap_or (option_map length o) 0
    gone true o = omega arith
    gone false o = omega arith

pub less_closed : (old : Streams) (dir : ℕ) (mid : Streams) → IsDrawn old dir mid → LeftLess old (with_closed mid dir)
unfolding LeftLess
less_closed old dir mid drawn q opened = let a = closed_less mid dir q in let b = less_drawn old dir mid drawn q opened in omega arith

pub less_without : (old : Streams) (dir : Option ℕ) → LeftLess old (without_stream dir old)
unfolding LeftLess
less_without old None q opened = omega arith
less_without old (Some dir) q opened = closed_less old dir q

opened_less : (old new : Streams) (dir : ℕ) (entries : List Entry) → finite.get old.open_dirs dir ≡ None
    → new.open_dirs ≡ finite.insert old.open_dirs dir entries → LeftLess old new
unfolding LeftLess
opened_less old new dir entries free is q opened =
    subst (λ (m : OpenDirs). unwrap_or (option_map length (finite.get m q)) 0 ≤ left_of old q) (sym is)
    (subst (λ o. unwrap_or (option_map length o) 0 ≤ left_of old q) (sym (at_insert old.open_dirs dir entries q))
    (elim (tied q dir) as (λ b. tied q dir ≡ b
    → unwrap_or (option_map length (cond b (Some entries) (finite.get old.open_dirs q))) 0 ≤ left_of old q) [
      | true ↦ λ t.
          let none : is_open old q ≡ false = ap is_some (ap (finite.get old.open_dirs) (same_number q dir t) ∙ free) in
          let no : false ≡ true = sym none ∙ opened in
          cc
      | false ↦ λ _. omega arith
    ] refl))

pub less_opened : (old : Streams) (dir : Option ℕ) (new : Streams) → OpensAtMost old dir new → LeftLess old new
less_opened old None new opens = less_same old new opens.dirs
less_opened old (Some dir) new opens = opened_less old new dir opens.dirs.0 opens.dirs.1 opens.dirs.3

-- ---- how much is left to do

unfoldable pub AllOpen : List ℕ → OpenDirs → Type 0
AllOpen [] now = Unit {0}
AllOpen (dir ∷ own) now = (finite.contains_key now dir ≡ true) × AllOpen own now

pub all_open : (others : OpenDirs) (inner outer : List ℕ) (now : OpenDirs) → AreBeside others (inner ++ outer) now → AllOpen outer now
unfolding AllOpen
all_open others inner [] now beside = tt
all_open others inner (dir ∷ outer) now beside = (
  own_is_open others inner dir outer now beside,
  all_open others (inner ++ dir ∷ []) outer now (subst (λ own. AreBeside others own now) (sym (append_snoc inner dir outer)) beside),
)

pub open_behind : (o : Option ℕ) (own : List ℕ) (now : OpenDirs) → AllOpen (cons_option o own) now → AllOpen own now
unfolding AllOpen
open_behind None own now opened = opened
open_behind (Some dir) own now opened = opened.1

-- none of these streams has more left
pub NoneMore : List ℕ → Streams → Streams → Type 0
NoneMore [] old new = Unit {0}
NoneMore (dir ∷ own) old new = (left_of new dir ≤ left_of old dir) × NoneMore own old new

pub none_more : (own : List ℕ) (old new : Streams) → AllOpen own old.open_dirs → LeftLess old new → NoneMore own old new
unfolding AllOpen LeftLess NoneMore
none_more [] old new opened less = tt
none_more (dir ∷ own) old new opened less = (less dir opened.0, none_more own old new opened.1 less)

pub none_without : (own : List ℕ) (old : Streams) (dir : Option ℕ) → NoneMore own old (without_stream dir old)
unfolding NoneMore
none_without [] old dir = tt
none_without (first ∷ own) old None = (omega arith, none_without own old None)
none_without (first ∷ own) old (Some dir) = (closed_less old dir first, none_without own old (Some dir))

more_behind : (o : Option ℕ) (own : List ℕ) (old new : Streams) → NoneMore (cons_option o own) old new → NoneMore own old new
unfolding NoneMore
more_behind None own old new none = none
more_behind (Some dir) own old new none = none.1

left_less : (old new : Streams) (items : Items) (own : List ℕ) → NoneMore (cons_option (stream_in items) own) old new
    → left_in new items ≤ left_in old items
unfolding NoneMore
left_less old new (Opened dir) own none = let le : left_of new dir ≤ left_of old dir = none.0 in omega arith
left_less old new (Closed items) own none = omega arith
left_less old new Skipped own none = omega arith

weigh : (a b w x y : ℕ) → a ≤ b → x ≤ y → (a + 1) * w + x ≤ (b + 1) * w + y
weigh a b w x y le more = let p : (a + 1) * w ≤ (b + 1) * w = mul-le-mul_right w (omega arith) in omega arith

pub work_none_more : (most : ℕ) (old new : Streams) (stack : List DirList) → NoneMore (own_streams stack) old new
    → work_in most new stack ≤ work_in most old stack
unfolding work_in
work_none_more most old new [] none = omega arith
work_none_more most old new (list ∷ outer) none =
    weigh (left_in new list.items) (left_in old list.items) (weight most (length outer)) (work_in most new outer) (work_in most old outer)
    (left_less old new list.items (own_streams outer) none)
    (work_none_more most old new outer (more_behind (stream_in list.items) (own_streams outer) old new none))

pub work_less : (most : ℕ) (old new : Streams) (stack : List DirList) → AllOpen (own_streams stack) old.open_dirs → LeftLess old new
    → work_in most new stack ≤ work_in most old stack
work_less most old new stack opened less = work_none_more most old new stack (none_more (own_streams stack) old new opened less)

pub work_put : (most : ℕ) (old new : Streams) (inner : List DirList) (list other : DirList) (outer : List DirList)
    → NoneMore (own_streams (inner ++ list ∷ outer)) old new
    → left_in new other.items ≤ left_in old list.items → work_in most new (inner ++ other ∷ outer) ≤ work_in most old (inner ++ list ∷ outer)
unfolding work_in
work_put most old new [] list other outer none le =
    weigh (left_in new other.items) (left_in old list.items) (weight most (length outer)) (work_in most new outer) (work_in most old outer)
    le (work_none_more most old new outer (more_behind (stream_in list.items) (own_streams outer) old new none))
work_put most old new (first ∷ inner) list other outer none le =
    let same : length (inner ++ list ∷ outer) ≡ length (inner ++ other ∷ outer) = length-append inner (list ∷ outer)
    ∙ sym (length-append inner (other ∷ outer)) in
    subst (λ n. (left_in new first.items + 1) * weight most n + work_in most new (inner ++ other ∷ outer) ≤
    (left_in old first.items + 1) * weight most (length (inner ++ list ∷ outer)) + work_in most old (inner ++ list ∷ outer))
    same
    (weigh (left_in new first.items) (left_in old first.items) (weight most (length (inner ++ list ∷ outer)))
    (work_in most new (inner ++ other ∷ outer)) (work_in most old (inner ++ list ∷ outer))
    (left_less old new first.items (own_streams (inner ++ list ∷ outer)) none)
    (work_put most old new inner list other outer (more_behind (stream_in first.items) (own_streams (inner ++ list ∷ outer)) old new none) le))
