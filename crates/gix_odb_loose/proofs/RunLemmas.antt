-- From the disk's one answer to the promises of the store's finding calls.
use Rattle.std.specs.Prelude.{◌≡◌, ◌↔◌, ⊤, ℕ, Bool, IsTrue, true, false, List, Option, Some, None, Result, Ok, Err, IfOk, IfErr, IfSome, refl}
use Rattle.std.proofs.Common.{sym, ap, ◌∙◌, subst}
use Rattle.odb_base.specs.Path.{Path}
use Rattle.odb_disk.specs.Ask.{AnswersAsk, answer_of, change_of_ask, meta_answer, file_answer, state_told_after}
use Rattle.odb_disk.specs.StreamAsks.{is_of_streams}
use Rattle.odb_disk.specs.Tree.{State, tree_of}
use Rattle.odb_disk.specs.Tree.Follow.{looked, read_of}
use Rattle.odb_disk.specs.declared.ask.DiskAsk.{DiskAsk}
use Rattle.odb_disk.specs.declared.ask.DiskAsk.TheVariants as asks
use Rattle.odb_disk.specs.declared.ask.DiskAnswer.{DiskAnswer}
use Rattle.odb_disk.specs.declared.ask.DiskAnswer.TheVariants as answers
use Rattle.odb_disk.specs.declared.disk_error.DiskError.TheVariants as disk_errors
use Rattle.gix_hash.specs.declared.object_id.ObjectId.{ObjectId}
use Rattle.gix_object.specs.Data.{Object}
use Rattle.gix_object.specs.declared.kind.Kind.{Kind}
use Rattle.gix_odb_loose.specs.Store.{store_limit}
use Rattle.gix_odb_loose.specs.LooseFile.{Reading, LeadsToFile, HoldsObject, HoldsHeader}
use Rattle.gix_odb_loose.specs.Causes.{FindCause, HeaderCause, TestCause}
use Rattle.gix_odb_loose.specs.Answers.{ComesTo, AnswersRead, GaveIn, path_in, Finds, TellsHeader, FindRefused, HeaderRefused, TestRefused}
use Rattle.gix_odb_loose.specs.Asked.{object_result}
use Rattle.gix_odb_loose.specs.LooseOrder.Answered.{tested_by, found_by, header_by}
use Rattle.gix_odb_loose.proofs.LooseOrderLaws.Read.{found_by-Err, found_by-Err_untold, header_by-Err, header_by-Err_untold, found_by-AnswersRead, header_by-AnswersRead}
use Rattle.gix_odb_loose.proofs.LooseOrderLaws.Look.{tested_by-Err, tested_by-Ok}
use Rattle.gix_odb_loose.specs.declared.find.Error.{Error}
use Rattle.gix_odb_loose.specs.declared.find.Error.TheVariants as errors
use Rattle.gix_odb_loose.specs.declared.store.Store.{Store}

-- ---- the answers of a tree that is reported

-- a stat or a read leaves the disk unchanged
abbrev IsReading : DiskAsk → Type 0
IsReading (asks.Look path follow) = Unit {0}
IsReading (asks.Read path) = Unit {0}
IsReading ask = ⊥

reading_state : (s : State) (ask : DiskAsk) (given : DiskAnswer) → IsReading ask → state_told_after (Some s) ask given ≡ Some s
unfolding change_of_ask
reading_state s (asks.Look path follow) answers.Done reading = refl
reading_state s (asks.Read path) answers.Done reading = refl
reading_state s ask (answers.Meta meta) reading = refl
reading_state s ask (answers.File bytes time) reading = refl
reading_state s ask (answers.Dir dir) reading = refl
reading_state s ask (answers.Entry entry) reading = refl
reading_state s ask answers.End reading = refl
reading_state s ask (answers.Refused error) reading = refl
reading_state s (asks.OpenDir path) answers.Done reading = absurd reading
reading_state s (asks.NextEntry dir) answers.Done reading = absurd reading
reading_state s (asks.CloseDir dir) answers.Done reading = absurd reading
reading_state s (asks.MakeDir path) answers.Done reading = absurd reading
reading_state s (asks.NewFile path) answers.Done reading = absurd reading
reading_state s (asks.Append path bytes) answers.Done reading = absurd reading
reading_state s (asks.Rename from to) answers.Done reading = absurd reading
reading_state s (asks.Remove path) answers.Done reading = absurd reading

reading_kept : (o : Option State) (ask : DiskAsk) (given : DiskAnswer) → IsReading ask → state_told_after o ask given ≡ o
reading_kept None ask given reading = refl
reading_kept (Some s) ask given reading = reading_state s ask given reading

pub look_still : (path : Path) (ask : DiskAsk) → ask ≡ asks.Look path true → is_of_streams ask ≡ false
look_still path ask is = ap is_of_streams is

pub look_kept : (state new : Option State) (path : Path) (ask : DiskAsk) (given : DiskAnswer) → ask ≡ asks.Look path true → new ≡ state_told_after state ask given → new ≡ state
look_kept state new path ask given is left = left ∙ ap (λ (a : DiskAsk). state_told_after state a given) is ∙ reading_kept state (asks.Look path true) given tt

pub look_told : (state : Option State) (path : Path) (ask : DiskAsk) (given : DiskAnswer) → ask ≡ asks.Look path true → IfSome state (λ s. AnswersAsk given (answer_of (tree_of s) ask))
    → IfSome state (λ s. AnswersAsk given (meta_answer (looked (tree_of s) path true)))
unfolding answer_of
look_told None path ask given is told = tt
look_told (Some s) path ask given is told = subst (λ a. AnswersAsk given (answer_of (tree_of s) a)) is told

pub read_still : (path : Path) (ask : DiskAsk) → ask ≡ asks.Read path → is_of_streams ask ≡ false
read_still path ask is = ap is_of_streams is

pub read_kept : (state new : Option State) (path : Path) (ask : DiskAsk) (given : DiskAnswer) → ask ≡ asks.Read path → new ≡ state_told_after state ask given → new ≡ state
read_kept state new path ask given is left = left ∙ ap (λ (a : DiskAsk). state_told_after state a given) is ∙ reading_kept state (asks.Read path) given tt

pub read_told : (state : Option State) (path : Path) (ask : DiskAsk) (given : DiskAnswer) → ask ≡ asks.Read path → IfSome state (λ s. AnswersAsk given (answer_of (tree_of s) ask))
    → IfSome state (λ s. AnswersAsk given (file_answer (read_of (tree_of s) path)))
unfolding answer_of
read_told None path ask given is told = tt
read_told (Some s) path ask given is told = subst (λ a. AnswersAsk given (answer_of (tree_of s) a)) is told

-- ---- results and their errors

weaker : {A : Type 0} (Failed Rises : Type 0) → (Failed → Rises) → (result : Result A Error) (answer : A) → ComesTo Failed result answer → ComesTo Rises result answer
weaker Failed Rises f (Ok x) answer h = h
weaker Failed Rises f (Err errors.NoMemory) answer h = tt
weaker Failed Rises f (Err (errors.Io action path)) answer h = f h
weaker Failed Rises f (Err errors.Decode) answer h = h
weaker Failed Rises f (Err (errors.OutOfMemory size)) answer h = h
weaker Failed Rises f (Err (errors.SizeMismatch actual expected path)) answer h = h

risen_answers : {A : Type 0} (read : Reading) (Holds : List ℕ → A → Type 0) (Failed Rises : Type 0) → (Failed → Rises) → (result : Result (Option A) Error) → AnswersRead read Holds Failed result
    → AnswersRead read Holds Rises result
risen_answers read Holds Failed Rises f result h =
    record { found = h.found; finds = λ x g. weaker Failed Rises f result (Some x) (h.finds x g); none = h.none; misses = λ e. weaker Failed Rises f result None (h.misses e) }

-- found objects as pairs
abbrev pair_result : Result (Option Object) Error → Result (Option (Kind × List ℕ)) Error
pair_result (Ok (Some object)) = Ok (Some (object.kind, object.bytes))
pair_result (Ok None) = Ok None
pair_result (Err error) = Err error

pair_object : (result : Result (Option (Kind × List ℕ)) Error) → pair_result (object_result result) ≡ result
pair_object (Ok (Some x)) = refl
pair_object (Ok None) = refl
pair_object (Err error) = refl

comes_object : (Failed : Type 0) (result : Result (Option (Kind × List ℕ)) Error) (answer : Option (Kind × List ℕ)) (object : Option Object) → object_result (Ok answer) ≡ Ok object
    → ComesTo Failed result answer
    → ComesTo Failed (object_result result) object
comes_object Failed (Ok (Some x)) answer object is h = let same : object_result (Ok (Some x)) ≡ Ok object = ap (λ a. object_result (Ok a)) h ∙ is in cc same
comes_object Failed (Ok None) answer object is h = let same : object_result (Ok None) ≡ Ok object = ap (λ a. object_result (Ok a)) h ∙ is in cc same
comes_object Failed (Err errors.NoMemory) answer object is h = tt
comes_object Failed (Err (errors.Io action path)) answer object is h = h
comes_object Failed (Err errors.Decode) answer object is h = h
comes_object Failed (Err (errors.OutOfMemory size)) answer object is h = h
comes_object Failed (Err (errors.SizeMismatch actual expected path)) answer object is h = h

object_answers : (read : Reading) (limit : Option ℕ) (Failed : Type 0) (result : Result (Option (Kind × List ℕ)) Error) → AnswersRead read (λ bytes x. HoldsObject limit bytes x.0 x.1) Failed result
    → AnswersRead read (λ bytes object. HoldsObject limit bytes object.kind object.bytes) Failed (object_result result)
object_answers read limit Failed result h =
    record {
      found = λ object e. h.found (object.kind, object.bytes) (sym (pair_object result) ∙ ap pair_result e);
      finds = λ object g. comes_object Failed result (Some (object.kind, object.bytes)) (Some object) refl
          (h.finds (object.kind, object.bytes) (record { bytes = g.bytes; time = g.time; given = g.given; holds = g.holds }));
      none = λ e. h.none (sym (pair_object result) ∙ ap pair_result e);
      misses = λ e. comes_object Failed result None None refl (h.misses e);
    }

-- ---- the replies of the three calls

find_told : (state : Option State) (path : Path) (limit : Option ℕ) (given : DiskAnswer) (Rises : Type 0) → (given ≡ answers.Refused disk_errors.Failed → Rises)
    → IfSome state (λ s. AnswersAsk given (file_answer (read_of (tree_of s) path)))
    → IfSome state (λ s. AnswersRead (read_of (tree_of s) path) (λ bytes object. HoldsObject limit bytes object.kind object.bytes) Rises (object_result (found_by path limit given)))
find_told None path limit given Rises f told = tt
find_told (Some s) path limit given Rises f told =
    object_answers (read_of (tree_of s) path) limit Rises (found_by path limit given)
    (risen_answers (read_of (tree_of s) path) (λ bytes x. HoldsObject limit bytes x.0 x.1) (given ≡ answers.Refused disk_errors.Failed) Rises f (found_by path limit given)
    (found_by-AnswersRead path limit (read_of (tree_of s) path) given told))

find_refused : (state : Option State) (path : Path) (limit : Option ℕ) (given : DiskAnswer) (Rises : Type 0) → (given ≡ answers.Refused disk_errors.Failed → Rises)
    → IfSome state (λ s. AnswersAsk given (file_answer (read_of (tree_of s) path)))
    → (error : Error) → found_by path limit given ≡ Err error → FindCause path limit (GaveIn state path) Rises ⊤ error
find_refused None path limit given Rises f told error e = found_by-Err_untold path (GaveIn None path) Rises ⊤ given f (λ _. tt) limit (λ _. tt) error e
find_refused (Some s) path limit given Rises f told error e =
    found_by-Err path (GaveIn (Some s) path) Rises ⊤ given f (λ _. tt) limit (read_of (tree_of s) path) refl told error e

header_told : (state : Option State) (path : Path) (given : DiskAnswer) (Rises : Type 0) → (given ≡ answers.Refused disk_errors.Failed → Rises)
    → IfSome state (λ s. AnswersAsk given (file_answer (read_of (tree_of s) path)))
    → IfSome state (λ s. AnswersRead (read_of (tree_of s) path) (λ bytes x. HoldsHeader bytes x.1 x.0) Rises (header_by path given))
header_told None path given Rises f told = tt
header_told (Some s) path given Rises f told =
    risen_answers (read_of (tree_of s) path) (λ bytes x. HoldsHeader bytes x.1 x.0) (given ≡ answers.Refused disk_errors.Failed) Rises f (header_by path given)
    (header_by-AnswersRead path (read_of (tree_of s) path) given told)

header_refused : (state : Option State) (path : Path) (given : DiskAnswer) (Rises : Type 0) → (given ≡ answers.Refused disk_errors.Failed → Rises)
    → IfSome state (λ s. AnswersAsk given (file_answer (read_of (tree_of s) path)))
    → (error : Error) → header_by path given ≡ Err error → HeaderCause path (GaveIn state path) Rises ⊤ error
header_refused None path given Rises f told error e = header_by-Err_untold path (GaveIn None path) Rises ⊤ given f (λ _. tt) (λ _. tt) error e
header_refused (Some s) path given Rises f told error e = header_by-Err path (GaveIn (Some s) path) Rises ⊤ given f (λ _. tt) (read_of (tree_of s) path) refl told error e

test_told : (state : Option State) (path : Path) (given : DiskAnswer) → IfSome state (λ s. AnswersAsk given (meta_answer (looked (tree_of s) path true))) → (result : Result Bool Error)
    → tested_by path given ≡ result
    → IfSome state (λ s. IfOk result (λ there. IsTrue there ↔ LeadsToFile (tree_of s) path))
test_told None path given told result e = tt
test_told (Some s) path given told (Ok there) e = tested_by-Ok (tree_of s) path given told there e
test_told (Some s) path given told (Err error) e = tt

-- ---- the results of a store's calls on the path of an object

module _ (state : Option State) (store : Store) (id : ObjectId) (at : Path) (given : DiskAnswer) (Failed : Type 0) (same : at ≡ path_in store id)
    (cause : given ≡ answers.Refused disk_errors.Failed → Failed) where
  -- a test of presence
  pub test_answers : IfSome state (λ s. AnswersAsk given (meta_answer (looked (tree_of s) at true))) → (result : Result Bool Error) → result ≡ tested_by at given
      → IfSome state (λ s. IfOk result (λ there. IsTrue there ↔ LeadsToFile (tree_of s) (path_in store id)))
  test_answers told result is = subst (λ (p : Path). IfSome state (λ s. IfOk result (λ there. IsTrue there ↔ LeadsToFile (tree_of s) p))) same (test_told state at given told result (sym is))

  pub test_cause : (result : Result Bool Error) → result ≡ tested_by at given → IfErr result (TestRefused store id Failed)
  test_cause (Ok there) is = tt
  test_cause (Err error) is = subst (λ (p : Path). TestCause p Failed ⊤ error) same (tested_by-Err at Failed ⊤ given cause (λ _. tt) error (sym is))

  module _ (told : IfSome state (λ s. AnswersAsk given (file_answer (read_of (tree_of s) at)))) where
    -- a find, where the object's path is this one
    abbrev FindsAt : Path → Result (Option (Kind × List ℕ)) Error → Type 0
    FindsAt path result =
        IfSome state (λ s. AnswersRead (read_of (tree_of s) path) (λ bytes object. HoldsObject (store_limit store) bytes object.kind object.bytes) Failed (object_result result))

    pub find_answers : (result : Result (Option (Kind × List ℕ)) Error) → result ≡ found_by at (store_limit store) given → IfSome state (λ s. Finds store id s Failed (object_result result))
    find_answers result is =
        subst (λ (p : Path). FindsAt p result) same
        (subst (FindsAt at) (sym is)
        (find_told state at (store_limit store) given Failed cause told))

    pub find_cause : (error : Error) → Err error ≡ found_by at (store_limit store) given → FindRefused store id state Failed error
    find_cause error is = subst (λ (p : Path). FindCause p (store_limit store) (GaveIn state p) Failed ⊤ error) same (find_refused state at (store_limit store) given Failed cause told error (sym is))

    -- a header look-up
    abbrev TellsAt : Path → Result (Option (ℕ × Kind)) Error → Type 0
    TellsAt path result = IfSome state (λ s. AnswersRead (read_of (tree_of s) path) (λ bytes x. HoldsHeader bytes x.1 x.0) Failed result)

    pub header_answers : (result : Result (Option (ℕ × Kind)) Error) → result ≡ header_by at given → IfSome state (λ s. TellsHeader store id s Failed result)
    header_answers result is =
        subst (λ (p : Path). TellsAt p result) same
        (subst (TellsAt at) (sym is) (header_told state at given Failed cause told))

    pub header_cause : (result : Result (Option (ℕ × Kind)) Error) → result ≡ header_by at given → IfErr result (HeaderRefused store id state Failed)
    header_cause (Ok found) is = tt
    header_cause (Err error) is = subst (λ (p : Path). HeaderCause p (GaveIn state p) Failed ⊤ error) same (header_refused state at given Failed cause told error (sym is))
