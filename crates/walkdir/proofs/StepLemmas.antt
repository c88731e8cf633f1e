-- Laws of the steps of a walk: what a step keeps, how often it fails, and how much it leaves to do.
pub mod Pushed
use Rattle.std.proofs.Common.{◌≡◌, ℕ, ◌+◌, ◌≤◌, inl, inr, true, List, [], ◌∷◌, ◌++◌, length, Some, None, refl, sym, ap, subst, ◌∙◌, arith, length-append}
use Rattle.odb_disk.specs.Streams.{Streams, with_closed}
use Rattle.walkdir.specs.Failures.{Costs, RoseBy, failures_left, waiting}
use Rattle.walkdir.specs.OwnStreams.{Owns}
use Rattle.walkdir.specs.Progress.{Progress, Keeps, FailsByFault}
use Rattle.walkdir.specs.Directory.{is_skipped, left_in, stream_in}
use Rattle.walkdir.specs.Stack.{own_streams, work_in}
use Rattle.walkdir.specs.Turns.{GoesOn}
use Rattle.walkdir.specs.Turns.Drawn.{IsDrawn}
use Rattle.walkdir.specs.declared.directory.DirList.{DirList}
use Rattle.walkdir.proofs.OwnStreamsLemmas.{owns_closed, owns_drawn}
use Rattle.walkdir.proofs.SkippedLemmas.{skips_put, skips_same}
use Rattle.walkdir.proofs.StackLemmas.{own_at, own_past}
use Rattle.walkdir.proofs.WorkLemmas.{AllOpen, LeftLess, all_open, less_same, none_more, work_less, work_put}
use Rattle.walkdir.proofs.FailuresLaws.{waiting-append}

-- ---- its streams

pub keeps_open : (streams : Streams) (at : Progress) → Keeps streams at → AllOpen (own_streams at.stack) at.streams.open_dirs
keeps_open streams at keeps = all_open streams.open_dirs [] (own_streams at.stack) at.streams.open_dirs keeps.beside

-- ---- failures

pub fails_by : (old new : Progress) (count given before now : ℕ) → Costs count before now → given + waiting new.stack ≤ count + waiting old.stack
    → FailsByFault old before given new now
fails_by old new count given before now costs le =
    let later : before ≤ now = costs.later in
    let rose : RoseBy count before now = costs.rose in
    record { later = later; rose = λ begun passed was. omega arith }

-- ---- steps

pub record Same (old new : Progress) : Type 0 where
  pub options : new.options ≡ old.options
  pub order : new.order ≡ old.order
  pub start : new.start ≡ old.start

pub owns_as : (before : Streams) (m n : ℕ) (own more : List ℕ) (now new : Streams) → m ≡ n → own ≡ more → now ≡ new → Owns before m own now
    → Owns before n more new
owns_as before m n own more now new most is same owns =
    subst (λ s. Owns before n more s) same (subst (λ o. Owns before n o now) is (subst (λ k. Owns before k own now) most owns))

pub most_of : (old new : Progress) → Same old new → old.options.max_open ≡ new.options.max_open
most_of old new same = ap (λ o. o.max_open) (sym same.options)

pub work_as : (old new : Progress) (more : ℕ) → Same old new
    → work_in old.options.max_depth new.streams new.stack ≤ work_in old.options.max_depth old.streams old.stack + more
    → work_in new.options.max_depth new.streams new.stack ≤ work_in old.options.max_depth old.streams old.stack + more
work_as old new more same le =
    subst (λ o. work_in o.max_depth new.streams new.stack ≤ work_in old.options.max_depth old.streams old.stack + more) (sym same.options) le

-- streams have no more left, and the stack stays
pub goes_drawn : (old new : Progress) (given before now : ℕ) → Same old new → new.stack ≡ old.stack → LeftLess old.streams new.streams
    → ((streams : Streams) → Keeps streams old → Keeps streams new) → Costs given before now → GoesOn old before given 0 new now
goes_drawn old new given before now same stack less keeps costs =
    let still : waiting new.stack ≡ waiting old.stack = ap waiting stack in
    record {
      options = same.options;
      order = same.order;
      start = same.start;
      keeps = keeps;
      faults = fails_by old new given given before now costs (omega arith);
      skips = skips_same old.stack new.stack stack;
      work = λ streams k. work_as old new 0 same
          (subst (λ s. work_in old.options.max_depth new.streams s ≤ work_in old.options.max_depth old.streams old.stack + 0) (sym stack)
          (let le = work_less old.options.max_depth old.streams new.streams old.stack (keeps_open streams old k) less in omega arith));
    }

pub goes_alike : (old new : Progress) (given before now : ℕ) → Same old new → new.stack ≡ old.stack → new.streams ≡ old.streams
    → Costs given before now → GoesOn old before given 0 new now
goes_alike old new given before now same stack streams costs =
    goes_drawn old new given before now same stack (less_same old.streams new.streams (ap (λ (s : Streams). s.open_dirs) streams))
    (λ s k. owns_as s old.options.max_open new.options.max_open (own_streams old.stack) (own_streams new.stack) old.streams new.streams
    (most_of old new same) (ap own_streams (sym stack)) (sym streams) k)
    costs

-- one stream of the stack has less left
drawn_owns : (before : Streams) (most : ℕ) (inner : List ℕ) (dir : ℕ) (outer : List ℕ) (now new : Streams)
    → Owns before most (inner ++ dir ∷ outer) now → IsDrawn now dir new
    → Owns before most (inner ++ dir ∷ outer) new
drawn_owns before most inner dir outer now new owns (inl same) = subst (Owns before most (inner ++ dir ∷ outer)) (sym same) owns
drawn_owns before most inner dir outer now new owns (inr drawn) =
    subst (Owns before most (inner ++ dir ∷ outer)) (sym drawn.3) (owns_drawn before most inner dir outer now drawn.0 owns)

pub keeps_drawn : (old new : Progress) (inner : List DirList) (list : DirList) (outer : List DirList) (dir : ℕ) → Same old new
    → old.stack ≡ inner ++ list ∷ outer
    → stream_in list.items ≡ Some dir → new.stack ≡ old.stack → IsDrawn old.streams dir new.streams → (streams : Streams) → Keeps streams old
    → Keeps streams new
keeps_drawn old new inner list outer dir same was own stack drawn streams keeps =
    let parts : own_streams old.stack ≡ own_streams inner ++ dir ∷ own_streams outer = ap own_streams was ∙ own_at inner list outer dir own in
    let cut : Owns streams old.options.max_open (own_streams inner ++ dir ∷ own_streams outer) old.streams =
    subst (λ o. Owns streams old.options.max_open o old.streams) parts keeps in
    owns_as streams old.options.max_open new.options.max_open (own_streams inner ++ dir ∷ own_streams outer)
    (own_streams new.stack) new.streams new.streams (most_of old new same)
    (sym parts ∙ ap own_streams (sym stack)) refl (drawn_owns streams old.options.max_open (own_streams inner) dir
    (own_streams outer) old.streams new.streams cut drawn)

-- a directory of the stack loses its stream
pub keeps_closed : (old new : Progress) (inner : List DirList) (list other : DirList) (outer : List DirList) (dir : ℕ) (mid : Streams) → Same old new
    → old.stack ≡ inner ++ list ∷ outer → new.stack ≡ inner ++ other ∷ outer → stream_in list.items ≡ Some dir → stream_in other.items ≡ None
    → IsDrawn old.streams dir mid → new.streams ≡ with_closed mid dir → (streams : Streams) → Keeps streams old → Keeps streams new
keeps_closed old new inner list other outer dir mid same was is own none drawn closed streams keeps =
    let parts : own_streams old.stack ≡ own_streams inner ++ dir ∷ own_streams outer = ap own_streams was ∙ own_at inner list outer dir own in
    let cut : Owns streams old.options.max_open (own_streams inner ++ dir ∷ own_streams outer) old.streams =
    subst (λ o. Owns streams old.options.max_open o old.streams) parts keeps in
    let read : Owns streams old.options.max_open (own_streams inner ++ dir ∷ own_streams outer) mid =
    drawn_owns streams old.options.max_open (own_streams inner) dir (own_streams outer) old.streams mid cut drawn in
    let long : length (own_streams inner ++ dir ∷ own_streams outer) ≤ old.options.max_open = read.few in
    let more : length (own_streams inner ++ dir ∷ own_streams outer) ≡ length (own_streams inner) + length (dir ∷ own_streams outer) =
    length-append (own_streams inner) (dir ∷ own_streams outer) in
    let fewer : length (own_streams inner ++ own_streams outer) ≡ length (own_streams inner) + length (own_streams outer) =
    length-append (own_streams inner) (own_streams outer) in
    owns_as streams old.options.max_open new.options.max_open (own_streams inner ++ own_streams outer) (own_streams new.stack)
    (with_closed mid dir) new.streams (most_of old new same)
    (sym (ap own_streams is ∙ own_past inner other outer none)) (sym closed)
    (owns_closed streams old.options.max_open (own_streams inner) dir (own_streams outer) mid read (omega arith))

-- a directory of the stack without a stream has other contents
pub keeps_plain : (old new : Progress) (inner : List DirList) (list other : DirList) (outer : List DirList) → Same old new
    → old.stack ≡ inner ++ list ∷ outer
    → new.stack ≡ inner ++ other ∷ outer → stream_in list.items ≡ None → stream_in other.items ≡ None → new.streams ≡ old.streams
    → (streams : Streams) → Keeps streams old → Keeps streams new
keeps_plain old new inner list other outer same was is none still streams_are streams keeps =
    owns_as streams old.options.max_open new.options.max_open (own_streams old.stack) (own_streams new.stack) old.streams new.streams
    (most_of old new same)
    (ap own_streams was ∙ own_past inner list outer none ∙ sym (ap own_streams is ∙ own_past inner other outer still)) (sym streams_are) keeps

pub goes_put : (old new : Progress) (inner : List DirList) (list other : DirList) (outer : List DirList) (count given before now : ℕ) → Same old new
    → old.stack ≡ inner ++ list ∷ outer → new.stack ≡ inner ++ other ∷ outer → ((streams : Streams) → Keeps streams old → Keeps streams new)
    → LeftLess old.streams new.streams → left_in new.streams other.items ≤ left_in old.streams list.items
    → given + failures_left other.items ≤ count + failures_left list.items → Costs count before now → other.path ≡ list.path
    → (is_skipped other.items ≡ true → is_skipped list.items ≡ true) → GoesOn old before given 0 new now
goes_put old new inner list other outer count given before now same was is keeps less left fails costs same_path skipped =
    let there : waiting old.stack ≡ waiting inner + waiting (list ∷ outer) = ap waiting was ∙ waiting-append inner (list ∷ outer) in
    let here : waiting new.stack ≡ waiting inner + waiting (other ∷ outer) = ap waiting is ∙ waiting-append inner (other ∷ outer) in
    record {
      options = same.options;
      order = same.order;
      start = same.start;
      keeps = keeps;
      faults = fails_by old new count given before now costs (omega arith);
      skips = skips_put old.stack new.stack inner list other outer was is same_path skipped;
      work = λ streams k.
          let opened : AllOpen (own_streams (inner ++ list ∷ outer)) old.streams.open_dirs =
          subst (λ s. AllOpen (own_streams s) old.streams.open_dirs) was (keeps_open streams old k) in
          let le : work_in old.options.max_depth new.streams (inner ++ other ∷ outer) ≤ work_in old.options.max_depth old.streams
          (inner ++ list ∷ outer) =
          work_put old.options.max_depth old.streams new.streams inner list other outer
          (none_more (own_streams (inner ++ list ∷ outer)) old.streams new.streams opened less) left in
          let before_is : work_in old.options.max_depth old.streams old.stack ≡ work_in old.options.max_depth old.streams (inner ++ list ∷ outer) =
          ap (work_in old.options.max_depth old.streams) was in
          let now_is : work_in old.options.max_depth new.streams new.stack ≡ work_in old.options.max_depth new.streams (inner ++ other ∷ outer) =
          ap (work_in old.options.max_depth new.streams) is in
          work_as old new 0 same (omega arith);
    }

-- one step and then another
pub goes_then : (a b c : Progress) (x y z g h k d e f : ℕ) → k ≡ g + h → f ≡ d + e → GoesOn a x g d b y → GoesOn b y h e c z → GoesOn a x k f c z
goes_then a b c x y z g h k d e f given more first second = record {
  options = second.options ∙ first.options;
  order = second.order ∙ first.order;
  start = second.start ∙ first.start;
  keeps = λ streams keeps. second.keeps streams (first.keeps streams keeps);
  faults = record {
    later = (let p : x ≤ y = first.faults.later in let q : y ≤ z = second.faults.later in omega arith);
    rose = λ begun count was.
        let p : RoseBy (count + g + waiting b.stack) begun y = first.faults.rose begun count was in
        let q : RoseBy (count + g + h + waiting c.stack) begun z = second.faults.rose begun (count + g) p in
        subst (λ n. RoseBy (n + waiting c.stack) begun z) (let s : count + g + h ≡ count + k = omega arith in s) q;
  };
  skips = λ path depth was. first.skips path depth (second.skips path depth was);
  work = λ streams keeps.
      let p = first.work streams keeps in
      let q = second.work streams (first.keeps streams keeps) in
      omega arith;
}
