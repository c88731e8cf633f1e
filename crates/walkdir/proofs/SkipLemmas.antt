-- Laws of a skip: the innermost directory that isn't skipped yet has nothing left.
use Rattle.std.proofs.Common.{◌≡◌, ℕ, ◌+◌, ◌<◌, ◌≤◌, false, inl, List, [], ◌∷◌, ◌++◌, length, reverse, get_or, Option, Some, None, refl, sym, ap, subst, ◌∙◌, arith, length-append}
use Rattle.std.specs.Prelude.{if◌then◌else◌}
use lib.Seq.{get_or-append_seam}
use mathlib.Core.List.{reverse-cons}
use Rattle.odb_base.specs.Path.{Path}
use Rattle.odb_disk.specs.Streams.{Streams}
use Rattle.walkdir.specs.Progress.{Progress, Keeps, work_left, work_of}
use Rattle.walkdir.specs.Skips.{Skips, skipped, skipped_stream}
use Rattle.walkdir.specs.Directory.{is_skipped, stream_in, without_stream}
use Rattle.walkdir.specs.Stack.{own_streams, work_in}
use Rattle.walkdir.specs.Turns.AtIndex.{AllSkipped, Puts, Unskips}
use Rattle.walkdir.specs.declared.directory.DirList.{DirList}
use Rattle.walkdir.specs.declared.directory.Items.TheVariants.{Skipped}
use Rattle.walkdir.proofs.StackLemmas.{reversed_at}
use Rattle.walkdir.proofs.StepLemmas.{Same, keeps_closed, keeps_plain}
use Rattle.walkdir.proofs.WorkLemmas.{none_without, work_put}

-- ---- directories that are skipped

all-append : (front back : List DirList) → AllSkipped front → AllSkipped back → AllSkipped (front ++ back)
all-append [] back first second = second
all-append (list ∷ front) back first second = (first.0, all-append front back first.1 second)

all-reverse : (lists : List DirList) → AllSkipped lists → AllSkipped (reverse lists)
all-reverse [] all = tt
all-reverse (list ∷ lists) all =
    subst AllSkipped (sym (reverse-cons list lists)) (all-append (reverse lists) (list ∷ []) (all-reverse lists all.1) (all.0, tt))

pub skipped_all : (stack : List DirList) → AllSkipped stack → skipped stack ≡ stack
skipped_all [] all = refl
skipped_all (list ∷ outer) all =
    ap (λ b. if b then list ∷ skipped outer else (record list { items = Skipped }) ∷ outer) all.0 ∙ ap (λ l. list ∷ l) (skipped_all outer all.1)

skipped_at : (inner : List DirList) (list : DirList) (outer : List DirList) → AllSkipped inner → is_skipped list.items ≡ false
    → skipped (inner ++ list ∷ outer) ≡ inner ++ (record list { items = Skipped }) ∷ outer
skipped_at [] list outer all own = ap (λ b. if b then list ∷ skipped outer else (record list { items = Skipped }) ∷ outer) own
skipped_at (first ∷ inner) list outer all own =
    ap (λ b. if b then first ∷ skipped (inner ++ list ∷ outer) else (record first { items = Skipped }) ∷ (inner ++ list ∷ outer)) all.0
    ∙ ap (λ l. first ∷ l) (skipped_at inner list outer all.1 own)

stream_all : (stack : List DirList) → AllSkipped stack → skipped_stream stack ≡ None
stream_all [] all = refl
stream_all (list ∷ outer) all = ap (λ b. if b then skipped_stream outer else stream_in list.items) all.0 ∙ stream_all outer all.1

stream_at : (inner : List DirList) (list : DirList) (outer : List DirList) → AllSkipped inner → is_skipped list.items ≡ false
    → skipped_stream (inner ++ list ∷ outer) ≡ stream_in list.items
stream_at [] list outer all own = ap (λ b. if b then skipped_stream outer else stream_in list.items) own
stream_at (first ∷ inner) list outer all own =
    ap (λ b. if b then skipped_stream (inner ++ list ∷ outer) else stream_in first.items) all.0 ∙ stream_at inner list outer all.1 own

-- a list is cut at one place in one way
pub record SameCut (a : List DirList) (x : DirList) (c b : List DirList) (y : DirList) (d : List DirList) : Type 0 where
  pub outer : a ≡ b
  pub at : x ≡ y
  pub inner : c ≡ d

same_cut : (a : List DirList) (x : DirList) (c b : List DirList) (y : DirList) (d : List DirList) → length a ≡ length b → a ++ x ∷ c ≡ b ++ y ∷ d
    → SameCut a x c b y d
same_cut [] x c [] y d long is = record { outer = refl; at = cc; inner = cc }
same_cut [] x c (first ∷ b) y d long is = absurd (omega arith)
same_cut (first ∷ a) x c [] y d long is = absurd (omega arith)
same_cut (first ∷ a) x c (other ∷ b) y d long is =
    let rest : a ++ x ∷ c ≡ b ++ y ∷ d = cc in
    let one : first ≡ other = cc in
    let more = same_cut a x c b y d (omega arith) rest in
    let front : a ≡ b = more.outer in
    record { outer = cc; at = more.at; inner = more.inner }

-- ---- what a skip leaves

-- what stays of a walk
pub record Stays (old new : Progress) : Type 0 where
  pub options : new.options ≡ old.options
  pub order : new.order ≡ old.order
  pub start : new.start ≡ old.start
  pub device : new.device ≡ old.device
  pub entered : new.entered ≡ false

work_less_of : (old new : Progress) (start : Option Path) → new.options ≡ old.options
    → work_in old.options.max_depth new.streams new.stack ≤ work_in old.options.max_depth old.streams old.stack
    → work_of new start ≤ work_of old start
work_less_of old new None options le =
    subst (λ o. work_in o.max_depth new.streams new.stack ≤ work_in old.options.max_depth old.streams old.stack) (sym options) le
work_less_of old new (Some root) options le =
    let same : work_of new (Some root) ≡ work_of old (Some root) = ap (λ o. work_of (record new { options = o }) (Some root)) options in
    omega arith

work_left_less : (old new : Progress) → new.options ≡ old.options → new.start ≡ old.start
    → work_in old.options.max_depth new.streams new.stack ≤ work_in old.options.max_depth old.streams old.stack
    → work_left new ≤ work_left old
unfolding work_left
work_left_less old new options start le = subst (λ s. work_of new s ≤ work_of old old.start) (sym start) (work_less_of old new old.start options le)

-- all directories are skipped already
pub skips_none : (old new : Progress) (lists : List DirList) → Stays old new → old.stack ≡ reverse lists → new.stack ≡ old.stack
    → new.streams ≡ old.streams → AllSkipped lists → Skips old new
skips_none old new lists stays was stack streams all = record {
  stack = stack ∙ was ∙ sym (skipped_all (reverse lists) (all-reverse lists all)) ∙ ap skipped (sym was);
  streams = streams ∙ ap (λ o. without_stream o old.streams) (sym (ap skipped_stream was ∙ stream_all (reverse lists) (all-reverse lists all)));
  entered = stays.entered;
  options = stays.options;
  order = stays.order;
  start = stays.start;
  device = stays.device;
  keeps = λ before keeps.
      subst (λ o. Keeps before (record new { options = o })) (sym stays.options)
      (subst (λ s. Keeps before (record new { options = old.options; stack = s })) (sym stack) (subst (λ s. Keeps before (record old { streams = s }))
      (sym streams) keeps));
  less = work_left_less old new stays.options stays.start
      (subst (λ s. work_in old.options.max_depth new.streams s ≤ work_in old.options.max_depth old.streams old.stack) (sym stack)
      (subst (λ s. work_in old.options.max_depth s old.stack ≤ work_in old.options.max_depth old.streams old.stack) (sym streams)
      (let le : work_in old.options.max_depth old.streams old.stack ≤ work_in old.options.max_depth old.streams old.stack = omega arith in le)));
}

keeps_one : (o : Option ℕ) (old new : Progress) (inner : List DirList) (list other : DirList) (outer : List DirList) → stream_in list.items ≡ o
    → Same old new → old.stack ≡ inner ++ list ∷ outer
    → new.stack ≡ inner ++ other ∷ outer → stream_in other.items ≡ None → new.streams ≡ without_stream o old.streams → (before : Streams)
    → Keeps before old → Keeps before new
keeps_one None old new inner list other outer own same was is none streams = keeps_plain old new inner list other outer same was is own none streams
keeps_one (Some dir) old new inner list other outer own same was is none streams =
    keeps_closed old new inner list other outer dir old.streams same was is own none (inl refl) streams

one_skip : (old new : Progress) (inner : List DirList) (list : DirList) (outer : List DirList) → Stays old new → old.stack ≡ inner ++ list ∷ outer
    → new.stack ≡ inner ++ (record list { items = Skipped }) ∷ outer → AllSkipped inner → is_skipped list.items ≡ false
    → new.streams ≡ without_stream (stream_in list.items) old.streams → Skips old new
one_skip old new inner list outer stays was is all own streams =
    let other : DirList = record list { items = Skipped } in
    record {
      stack = is ∙ sym (skipped_at inner list outer all own) ∙ ap skipped (sym was);
      streams = streams ∙ ap (λ o. without_stream o old.streams) (sym (ap skipped_stream was ∙ stream_at inner list outer all own));
      entered = stays.entered;
      options = stays.options;
      order = stays.order;
      start = stays.start;
      device = stays.device;
      keeps = keeps_one (stream_in list.items) old new inner list other outer refl (record {
        options = stays.options;
        order = stays.order;
        start = stays.start;
      }) was is refl streams;
      less = work_left_less old new stays.options stays.start
          (subst (λ s. work_in old.options.max_depth new.streams s ≤ work_in old.options.max_depth old.streams old.stack) (sym is)
          (subst (λ s. work_in old.options.max_depth new.streams (inner ++ other ∷ outer) ≤ work_in old.options.max_depth old.streams s) (sym was)
          (subst (λ s. work_in old.options.max_depth s (inner ++ other ∷ outer) ≤ work_in old.options.max_depth old.streams (inner ++ list ∷ outer))
          (sym streams)
          (work_put old.options.max_depth old.streams (without_stream (stream_in list.items) old.streams) inner list other outer
          (none_without (own_streams (inner ++ list ∷ outer)) old.streams (stream_in list.items)) (omega arith)))));
    }

pub skips_one : (old new : Progress) (before_lists after_lists : List DirList) (index : ℕ) (list : DirList) → Stays old new
    → old.stack ≡ reverse before_lists → new.stack ≡ reverse after_lists
    → Unskips before_lists index → Puts before_lists after_lists index Skipped → list ≡ get_or before_lists index list
    → new.streams ≡ without_stream (stream_in list.items) old.streams → Skips old new
skips_one old new before_lists after_lists index list stays was is unskips puts at streams =
    let cut = same_cut puts.outer puts.list puts.inner unskips.outer unskips.list unskips.inner (puts.at ∙ sym unskips.at)
    (sym puts.was ∙ unskips.is) in
    let same : puts.list ≡ list =
    sym (at ∙ ap (λ l. get_or l index list) puts.was ∙ ap (λ n. get_or (puts.outer ++ puts.list ∷ puts.inner) n list) (sym puts.at)
    ∙ get_or-append_seam puts.outer puts.list puts.inner list) in
    one_skip old new (reverse puts.inner) puts.list (reverse puts.outer) stays (was ∙ ap reverse puts.was
    ∙ reversed_at puts.outer puts.list puts.inner)
    (is ∙ ap reverse puts.is ∙ reversed_at puts.outer (record puts.list { items = Skipped }) puts.inner)
    (all-reverse puts.inner (subst AllSkipped (sym cut.inner) unskips.others)) (ap (λ (l : DirList). is_skipped l.items) cut.at ∙ unskips.own)
    (streams ∙ ap (λ (l : DirList). without_stream (stream_in l.items) old.streams) (sym same))

pub unskipped_within : (lists : List DirList) (index : ℕ) → Unskips lists index → index < length lists
unskipped_within lists index unskips =
    let long : length lists ≡ length unskips.outer + length (unskips.list ∷ unskips.inner) = ap length unskips.is
    ∙ length-append unskips.outer (unskips.list ∷ unskips.inner) in
    let front : length unskips.outer ≡ index = unskips.at in
    omega arith
