-- The calls of streams as values: the least free number, what a call answers, and the streams after it.
use Rattle.std.proofs.Common.{◌≡◌, ◌⊎◌, ℕ, ◌+◌, ◌<◌, ◌≤◌, ◌==◌, ◌||◌, unwrap_or, true, false, not, List, [], ◌∷◌, Option, Some}
use Rattle.std.proofs.Common.{None, Result, Ok, Err, IfOk, IfSome, OnErr, refl, sym, ap, ◌∙◌, subst, inl, inr, arith}
use Rattle.std.proofs.lemmas.Bool.{cases_eq, cases_lt}
use Rattle.std.specs.Cmp.{eq_by_cmp_equiv, nat_cmp_total, unsigned_tied}
use Rattle.std.specs.FinMap as finite
use Rattle.std.specs.FinMap.{contains_key-keys}
use Rattle.std.specs.List.{list_any}
use Rattle.std.specs.Ordering.{eq_by_cmp, nat_cmp}
use Rattle.odb_base.specs.Path.{Path}
use Rattle.odb_disk.specs.Tree.{Tree, State, tree_of}
use Rattle.odb_disk.specs.Streams.{Streams, IsLeastClosed, AnswersOpen, Opens, Gives, still_gives, is_open, with_opened, with_closed}
use Rattle.odb_disk.specs.Entries.{opened}
use Rattle.odb_disk.specs.Told.{told_open, told_next}
use Rattle.odb_disk.specs.Ask.{TakesLeast, AnswersAsk, answer_of, answer_in, dir_answer, entry_answer, streams_left, state_told_after, change_of_ask}
use Rattle.odb_disk.specs.StreamAsks.{is_of_streams, AnswersStreams, ClosesAs, OpensAs, GivesAs, greatest_open, least_closed, after_opening, after_taking, streams_after}
use Rattle.odb_disk.specs.declared.entry.Entry.{Entry}
use Rattle.odb_disk.specs.declared.disk_error.DiskError.{DiskError}
use Rattle.odb_disk.specs.declared.disk_error.DiskError.TheVariants as errors
use Rattle.odb_disk.specs.declared.ask.DiskAsk.{DiskAsk}
use Rattle.odb_disk.specs.declared.ask.DiskAsk.TheVariants as asks
use Rattle.odb_disk.specs.declared.ask.DiskAnswer.{DiskAnswer}
use Rattle.odb_disk.specs.declared.ask.DiskAnswer.TheVariants as answers
use Rattle.odb_disk.proofs.TreeLemmas.Numbers.{find_in_range, none_in_range, fold_max-le}

-- ---- the least number that no open stream has

tied_numbers : (ns : List ℕ) (n : ℕ) → list_any (eq_by_cmp nat_cmp n) ns ≡ list_any (λ m. m == n) ns
tied_numbers [] n = refl
tied_numbers (m ∷ ns) n =
    ap (λ b. b || list_any (eq_by_cmp nat_cmp n) ns) ((eq_by_cmp_equiv nat_cmp_total).symm n m ∙ unsigned_tied m n) ∙ ap (λ b. (m == n) || b) (tied_numbers ns n)

at_most_greatest : (s : Streams) (n : ℕ) → finite.contains_key s.open_dirs n ≡ true → n ≤ greatest_open s
at_most_greatest s n is = fold_max-le 0 (finite.keys s.open_dirs) n (sym (tied_numbers (finite.keys s.open_dirs) n) ∙ sym (contains_key-keys s.open_dirs n) ∙ is)

pub least_closed_is : (s : Streams) (f : ℕ) → IsLeastClosed s.open_dirs f → least_closed s ≡ f
unfolding least_closed
least_closed_is s f is =
    let g = greatest_open s in
    elim (cases_le f g) [
      | inl inside ↦ ap (λ o. unwrap_or o (g + 1)) (find_in_range (λ n. not (is_open s n)) (g + 1) 0 f (omega arith) (omega arith) (ap not is.free) (λ n above below. ap not (is.least n below)))
      | inr past ↦
          ap (λ o. unwrap_or o (g + 1)) (none_in_range (λ n. not (is_open s n)) (g + 1) 0 (λ n above below. ap not (is.least n (omega arith))))
          ∙ elim (cases_eq (g + 1) f) [
            | inl same ↦ same
            | inr other ↦ absurd (let over = at_most_greatest s (g + 1) (is.least (g + 1) (omega arith)) in omega arith)
          ]
    ]
  where
    cases_le : (a b : ℕ) → (a ≤ b) ⊎ (b < a)
    cases_le a b = elim (cases_lt b a) [ inl lt ↦ inr lt | inr le ↦ inl le ]

-- ---- on any disk

module _ (state : Option State) (old new : Streams) {ask : DiskAsk} {answer : DiskAnswer} where
  pub carried_open : {path : Path} → ask ≡ asks.OpenDir path → (r : Result ℕ DiskError) → answer ≡ told_open r → IfSome state (λ s. AnswersOpen r (opened (tree_of s) path))
      → IfOk r (λ dir. Opens state path old new dir) → OnErr r (new ≡ old) → AnswersStreams state old new ask answer
  carried_open {path = path} is r told answered opens kept =
      subst (λ a. AnswersStreams state old new a answer) (sym is) (subst (λ a. OpensAs state path old new a) (sym told) (by_result r answered opens kept))
    where
      by_result : (q : Result ℕ DiskError) → IfSome state (λ s. AnswersOpen q (opened (tree_of s) path))
          → IfOk q (λ dir. Opens state path old new dir) → OnErr q (new ≡ old) → OpensAs state path old new (told_open q)
      by_result (Ok dir) answered opens kept = opens
      by_result (Err error) answered opens kept = (kept, answered)

  pub carried_next : {dir : ℕ} → ask ≡ asks.NextEntry dir → (r : Result (Option Entry) DiskError) → answer ≡ told_next r → Gives old new dir r → AnswersStreams state old new ask answer
  carried_next {dir = dir} is r told gives = subst (λ a. AnswersStreams state old new a answer) (sym is) (subst (λ a. GivesAs old new dir a) (sym told) (by_result r gives))
    where
      by_result : (q : Result (Option Entry) DiskError) → Gives old new dir q → GivesAs old new dir (told_next q)
      by_result (Ok (Some entry)) gives = gives
      by_result (Ok None) gives = gives
      by_result (Err error) gives = gives

-- a call of streams leaves the state as it was
module _ (ask : DiskAsk) (o new : Option State) (same : new ≡ o) where
  pub opened_state : (answer : DiskAnswer) (r : Result ℕ DiskError) → answer ≡ told_open r → new ≡ state_told_after o ask answer
  opened_state answer r is = same ∙ by_state o r ∙ ap (state_told_after o ask) (sym is)
    where
      by_state : (p : Option State) (q : Result ℕ DiskError) → p ≡ state_told_after p ask (told_open q)
      by_state None q = refl
      by_state (Some s) (Ok dir) = refl
      by_state (Some s) (Err e) = refl

  pub taken_state : (answer : DiskAnswer) (r : Result (Option Entry) DiskError) → answer ≡ told_next r → new ≡ state_told_after o ask answer
  taken_state answer r is = same ∙ by_state o r ∙ ap (state_told_after o ask) (sym is)
    where
      by_state : (p : Option State) (q : Result (Option Entry) DiskError) → p ≡ state_told_after p ask (told_next q)
      by_state None q = refl
      by_state (Some s) (Ok None) = refl
      by_state (Some s) (Ok (Some entry)) = refl
      by_state (Some s) (Err e) = refl

  pub closed_state : (dir : ℕ) → ask ≡ asks.CloseDir dir → new ≡ state_told_after o ask answers.Done
  unfolding change_of_ask
  closed_state dir is = same ∙ by_state o ∙ ap (λ a. state_told_after o a answers.Done) (sym is)
    where
      by_state : (p : Option State) → p ≡ state_told_after p (asks.CloseDir dir) answers.Done
      by_state None = refl
      by_state (Some s) = refl

-- ---- on a disk in memory

-- what a call that isn't on a stream is answered, and that it changes no stream
module _ (t : Tree) (s : Streams) where
  pub answer_in-still : (ask : DiskAsk) → is_of_streams ask ≡ false → answer_in t s ask ≡ answer_of t ask
  answer_in-still (asks.Look path follow) still = refl
  answer_in-still (asks.Read path) still = refl
  answer_in-still (asks.OpenDir path) still = absurd (cc)
  answer_in-still (asks.NextEntry dir) still = absurd (cc)
  answer_in-still (asks.CloseDir dir) still = absurd (cc)
  answer_in-still (asks.MakeDir path) still = refl
  answer_in-still (asks.NewFile path) still = refl
  answer_in-still (asks.Append path bytes) still = refl
  answer_in-still (asks.Rename from to) still = refl
  answer_in-still (asks.Remove path) still = refl

  pub streams_after-still : (ask : DiskAsk) → is_of_streams ask ≡ false → streams_after t s ask ≡ s
  streams_after-still (asks.Look path follow) still = refl
  streams_after-still (asks.Read path) still = refl
  streams_after-still (asks.OpenDir path) still = absurd (cc)
  streams_after-still (asks.NextEntry dir) still = absurd (cc)
  streams_after-still (asks.CloseDir dir) still = absurd (cc)
  streams_after-still (asks.MakeDir path) still = refl
  streams_after-still (asks.NewFile path) still = refl
  streams_after-still (asks.Append path bytes) still = refl
  streams_after-still (asks.Rename from to) still = refl
  streams_after-still (asks.Remove path) still = refl

  streams_left-by : (ask : DiskAsk) (answer : DiskAnswer) → streams_after t s ask ≡ s → s ≡ streams_left t s ask answer
  streams_left-by ask (answers.Meta found) same = sym same
  streams_left-by ask (answers.File bytes time) same = sym same
  streams_left-by ask (answers.Dir dir) same = sym same
  streams_left-by ask (answers.Entry entry) same = sym same
  streams_left-by ask answers.End same = sym same
  streams_left-by ask answers.Done same = sym same
  streams_left-by ask (answers.Refused error) same = refl

  pub streams_left-still : (ask : DiskAsk) (answer : DiskAnswer) → is_of_streams ask ≡ false → s ≡ streams_left t s ask answer
  streams_left-still ask answer still = streams_left-by ask answer (streams_after-still ask still)

module _ (s : State) (old new : Streams) where
  -- an opening
  open_told : (path : Path) (answer : DiskAnswer) → OpensAs (Some s) path old new answer → TakesLeast old answer → AnswersAsk answer (dir_answer (least_closed old) (opened (tree_of s) path))
  open_told path (answers.Dir dir) opens least = sym (ap (dir_answer (least_closed old)) opens.fixed ∙ ap (λ n. answers.Dir n) (least_closed_is old dir least))
  open_told path (answers.Refused errors.Absent) refused least = ap (dir_answer (least_closed old)) (sym refused.1)
  open_told path (answers.Refused errors.WrongKind) refused least = ap (dir_answer (least_closed old)) (sym refused.1)
  open_told path (answers.Refused errors.LinkLoop) refused least = ap (dir_answer (least_closed old)) (sym refused.1)
  open_told path (answers.Refused errors.Exists) refused least = absurd refused.1
  open_told path (answers.Refused errors.NotEmpty) refused least = absurd refused.1
  open_told path (answers.Refused errors.Failed) refused least = tt
  open_told path (answers.Refused errors.NoMemory) refused least = tt
  open_told path (answers.Meta found) opens least = absurd opens
  open_told path (answers.File bytes time) opens least = absurd opens
  open_told path (answers.Entry entry) opens least = absurd opens
  open_told path answers.End opens least = absurd opens
  open_told path answers.Done opens least = absurd opens

  open_left : (path : Path) (answer : DiskAnswer) → OpensAs (Some s) path old new answer → TakesLeast old answer → new ≡ streams_left (tree_of s) old (asks.OpenDir path) answer
  open_left path (answers.Dir dir) opens least = opens.streams ∙ ap (λ n. with_opened old n opens.entries) (sym (least_closed_is old dir least)) ∙ ap (after_opening old) (sym opens.fixed)
  open_left path (answers.Refused error) refused least = refused.0
  open_left path (answers.Meta found) opens least = absurd opens
  open_left path (answers.File bytes time) opens least = absurd opens
  open_left path (answers.Entry entry) opens least = absurd opens
  open_left path answers.End opens least = absurd opens
  open_left path answers.Done opens least = absurd opens

  -- the next entry
  next_told : (dir : ℕ) (answer : DiskAnswer) → GivesAs old new dir answer → AnswersAsk answer (entry_answer (still_gives old dir))
  next_told dir (answers.Entry entry) gives = ap entry_answer (sym gives.first)
  next_told dir answers.End gives = ap entry_answer (sym gives.ended)
  next_told dir (answers.Refused errors.Absent) gives = ap entry_answer (sym gives.closed)
  next_told dir (answers.Refused errors.WrongKind) gives = absurd gives
  next_told dir (answers.Refused errors.LinkLoop) gives = absurd gives
  next_told dir (answers.Refused errors.Exists) gives = absurd gives
  next_told dir (answers.Refused errors.NotEmpty) gives = absurd gives
  next_told dir (answers.Refused errors.Failed) gives = tt
  next_told dir (answers.Refused errors.NoMemory) gives = tt
  next_told dir (answers.Meta found) gives = absurd gives
  next_told dir (answers.File bytes time) gives = absurd gives
  next_told dir (answers.Dir opened) gives = absurd gives
  next_told dir answers.Done gives = absurd gives

  next_left : (dir : ℕ) (answer : DiskAnswer) → GivesAs old new dir answer → new ≡ streams_left (tree_of s) old (asks.NextEntry dir) answer
  next_left dir (answers.Entry entry) gives = gives.left ∙ ap (after_taking old dir) (sym gives.first)
  next_left dir answers.End gives = gives.same ∙ ap (after_taking old dir) (sym gives.ended)
  next_left dir (answers.Refused errors.Absent) gives = gives.same
  next_left dir (answers.Refused errors.WrongKind) gives = absurd gives
  next_left dir (answers.Refused errors.LinkLoop) gives = absurd gives
  next_left dir (answers.Refused errors.Exists) gives = absurd gives
  next_left dir (answers.Refused errors.NotEmpty) gives = absurd gives
  next_left dir (answers.Refused errors.Failed) gives = gives
  next_left dir (answers.Refused errors.NoMemory) gives = gives
  next_left dir (answers.Meta found) gives = absurd gives
  next_left dir (answers.File bytes time) gives = absurd gives
  next_left dir (answers.Dir opened) gives = absurd gives
  next_left dir answers.Done gives = absurd gives

  -- a close
  closes : (dir : ℕ) (answer : DiskAnswer) → ClosesAs old new dir answer → (answer ≡ answers.Done) × (new ≡ with_closed old dir)
  closes dir answers.Done closed = (refl, closed)
  closes dir (answers.Meta found) closed = absurd closed
  closes dir (answers.File bytes time) closed = absurd closed
  closes dir (answers.Dir opened) closed = absurd closed
  closes dir (answers.Entry entry) closed = absurd closed
  closes dir answers.End closed = absurd closed
  closes dir (answers.Refused error) closed = absurd closed

  -- ---- every call

  pub told_in : (ask : DiskAsk) (answer : DiskAnswer) → (is_of_streams ask ≡ false → AnswersAsk answer (answer_of (tree_of s) ask)) → AnswersStreams (Some s) old new ask answer → TakesLeast old answer
      → AnswersAsk answer (answer_in (tree_of s) old ask)
  unfolding answer_of
  told_in (asks.Look path follow) answer still moved least = still refl
  told_in (asks.Read path) answer still moved least = still refl
  told_in (asks.OpenDir path) answer still moved least = open_told path answer moved least
  told_in (asks.NextEntry dir) answer still moved least = next_told dir answer moved
  told_in (asks.CloseDir dir) answer still moved least = subst (λ a. AnswersAsk a answers.Done) (sym (closes dir answer moved).0) refl
  told_in (asks.MakeDir path) answer still moved least = still refl
  told_in (asks.NewFile path) answer still moved least = still refl
  told_in (asks.Append path bytes) answer still moved least = still refl
  told_in (asks.Rename from to) answer still moved least = still refl
  told_in (asks.Remove path) answer still moved least = still refl

  pub left_in : (ask : DiskAsk) (answer : DiskAnswer) → (is_of_streams ask ≡ false → new ≡ old) → AnswersStreams (Some s) old new ask answer → TakesLeast old answer
      → new ≡ streams_left (tree_of s) old ask answer
  left_in (asks.Look path follow) answer still moved least = still refl ∙ streams_left-still (tree_of s) old (asks.Look path follow) answer refl
  left_in (asks.Read path) answer still moved least = still refl ∙ streams_left-still (tree_of s) old (asks.Read path) answer refl
  left_in (asks.OpenDir path) answer still moved least = open_left path answer moved least
  left_in (asks.NextEntry dir) answer still moved least = next_left dir answer moved
  left_in (asks.CloseDir dir) answer still moved least = let c = closes dir answer moved in c.1 ∙ ap (streams_left (tree_of s) old (asks.CloseDir dir)) (sym c.0)
  left_in (asks.MakeDir path) answer still moved least = still refl ∙ streams_left-still (tree_of s) old (asks.MakeDir path) answer refl
  left_in (asks.NewFile path) answer still moved least = still refl ∙ streams_left-still (tree_of s) old (asks.NewFile path) answer refl
  left_in (asks.Append path bytes) answer still moved least = still refl ∙ streams_left-still (tree_of s) old (asks.Append path bytes) answer refl
  left_in (asks.Rename from to) answer still moved least = still refl ∙ streams_left-still (tree_of s) old (asks.Rename from to) answer refl
  left_in (asks.Remove path) answer still moved least = still refl ∙ streams_left-still (tree_of s) old (asks.Remove path) answer refl
