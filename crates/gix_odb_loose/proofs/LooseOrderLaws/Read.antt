-- The laws of finds and header look-ups: what a reply says of the answer to its read.
use Rattle.std.specs.Prelude.{◌≡◌, ◌≢◌, ◌⊎◌, ℕ, List, Option, Some, None, Result, Ok, Err, refl}
use Rattle.std.proofs.Common.{inl, inr, sym, ap, ◌∙◌, subst}
use Rattle.odb_base.specs.Path.{Path}
use Rattle.odb_disk.specs.Ask.{AnswersAsk, file_answer}
use Rattle.odb_disk.specs.Tree.Follow.{Absent, WrongKind, LinkLoop}
use Rattle.odb_disk.specs.declared.ask.DiskAnswer.{DiskAnswer}
use Rattle.odb_disk.specs.declared.ask.DiskAnswer.TheVariants as answers
use Rattle.odb_disk.specs.declared.disk_error.DiskError.TheVariants as disk_errors
use Rattle.gix_odb_loose.specs.LooseFile.{Reading, HoldsObject, HoldsHeader}
use Rattle.gix_odb_loose.specs.Causes.{Seen, IsUnreadable, FindCause, HeaderCause}
use Rattle.gix_odb_loose.specs.Answers.{ComesTo, AnswersRead}
use Rattle.gix_odb_loose.specs.LooseOrder.Answered.{unreadable, object_in, header_in, read_by, found_by, header_by}
use Rattle.gix_odb_loose.specs.declared.find.Error.{Error}
use Rattle.gix_odb_loose.specs.declared.find.Error.TheVariants as errors
use Rattle.gix_odb_loose.proofs.LooseOrderLaws.File.{object_in-Some, object_in-HoldsObject, object_in-None, object_in-Err, header_in-Some, header_in-HoldsHeader, header_in-None, header_in-Err}

-- ---- the answer to a read

-- what a call finds was in a file
pub read_by-Some : {A : Type 0} (from : List ℕ → Result (Option A) Error) (path : Path) (given : DiskAnswer) (x : A) → read_by from path given ≡ Ok (Some x)
    → (bytes : List ℕ) × (time : ℕ) × (given ≡ answers.File bytes time) × (from bytes ≡ Ok (Some x))
read_by-Some from path (answers.File bytes time) x e = (bytes, time, refl, e)
read_by-Some from path (answers.Refused disk_errors.Absent) x e = absurd (cc e)
read_by-Some from path given x e = absurd (cc e)

-- a not-found says that nothing was at the path
pub read_by-None : {A : Type 0} (from : List ℕ → Result (Option A) Error) (path : Path) (given : DiskAnswer) → ((bytes : List ℕ) → from bytes ≢ Ok None) → read_by from path given ≡ Ok None
    → given ≡ answers.Refused disk_errors.Absent
read_by-None from path (answers.File bytes time) never e = absurd (never bytes e)
read_by-None from path (answers.Refused disk_errors.Absent) never e = refl
read_by-None from path given never e = absurd (cc e)

-- what a tree answered to a read
pub file_given : (read : Reading) (bytes : List ℕ) (time : ℕ) → answers.File bytes time ≡ file_answer read → read ≡ Ok (bytes, time)
file_given (Ok file) bytes time e = let same : ◌≡◌ {A = List ℕ × ℕ} (bytes, time) (file.0, file.1) = cc e in ap Ok (sym same)
file_given (Err refusal) bytes time e = absurd (cc e)

-- An answer to an ask of a tree is a failed call, memory ran out, or the tree's.
pub told_or : (given told : DiskAnswer) → AnswersAsk given told → (given ≡ answers.Refused disk_errors.Failed) ⊎ ((given ≡ answers.Refused disk_errors.NoMemory) ⊎ (given ≡ told))
told_or (answers.Refused disk_errors.Failed) told is = inl refl
told_or (answers.Refused disk_errors.NoMemory) told is = inr (inl refl)
told_or (answers.Refused disk_errors.Absent) told is = inr (inr is)
told_or given told is = inr (inr is)

-- where a file was given, a tree's read gave it
pub file_told : (read : Reading) (given : DiskAnswer) (bytes : List ℕ) (time : ℕ) → AnswersAsk given (file_answer read) → given ≡ answers.File bytes time → read ≡ Ok (bytes, time)
file_told read given bytes time is e = file_given read bytes time (subst (λ a. AnswersAsk a (file_answer read)) e is)

pub absent_told : (read : Reading) (given : DiskAnswer) → AnswersAsk given (file_answer read) → given ≡ answers.Refused disk_errors.Absent → read ≡ Err Absent
absent_told read given is e = absent read (subst (λ a. AnswersAsk a (file_answer read)) e is)
  where
    absent : (read : Reading) → answers.Refused disk_errors.Absent ≡ file_answer read → read ≡ Err Absent
    absent (Ok file) same = absurd (cc same)
    absent (Err Absent) same = refl
    absent (Err WrongKind) same = absurd (cc same)
    absent (Err LinkLoop) same = absurd (cc same)

comes_ok : {A : Type 0} (Failed : Type 0) (result : Result A Error) (answer : A) → result ≡ Ok answer → ComesTo Failed result answer
comes_ok Failed (Ok x) answer e = cc e
comes_ok Failed (Err error) answer e = absurd (cc e)

-- a call returns its result for the tree's answer
pub read_by-comes : {A : Type 0} (from : List ℕ → Result (Option A) Error) (path : Path) (told given : DiskAnswer) (answer : Option A) → AnswersAsk given told → read_by from path told ≡ Ok answer
    → ComesTo (given ≡ answers.Refused disk_errors.Failed) (read_by from path given) answer
read_by-comes from path told (answers.Refused disk_errors.Failed) answer is e = refl
read_by-comes from path told (answers.Refused disk_errors.NoMemory) answer is e = tt
read_by-comes from path told (answers.Refused disk_errors.Absent) answer is e =
    comes_ok (answers.Refused disk_errors.Absent ≡ answers.Refused disk_errors.Failed) (read_by from path (answers.Refused disk_errors.Absent)) answer (ap (read_by from path) is ∙ e)
read_by-comes from path told given answer is e = comes_ok (given ≡ answers.Refused disk_errors.Failed) (read_by from path given) answer (ap (read_by from path) is ∙ e)

-- The result of a call, by what a tree's read gives, for any judgement of a file's bytes that holds both ways.
pub read_by-AnswersRead : {A : Type 0} (from : List ℕ → Result (Option A) Error) (Holds : List ℕ → A → Type 0) (path : Path)
    → ((bytes : List ℕ) (x : A) → from bytes ≡ Ok (Some x) → Holds bytes x) → ((bytes : List ℕ) (x : A) → Holds bytes x → from bytes ≡ Ok (Some x)) → ((bytes : List ℕ) → from bytes ≢ Ok None)
    → (read : Reading) (given : DiskAnswer) → AnswersAsk given (file_answer read) → AnswersRead read Holds (given ≡ answers.Refused disk_errors.Failed) (read_by from path given)
read_by-AnswersRead from Holds path there back never read given is =
    record {
      found = λ x e. let file = read_by-Some from path given x e in record { bytes = file.0; time = file.1; given = file_told read given file.0 file.1 is file.2; holds = there file.0 x file.3 };
      finds = λ x g. read_by-comes from path (file_answer read) given (Some x) is (ap (λ r. read_by from path (file_answer r)) g.given ∙ back g.bytes x g.holds);
      none = λ e. absent_told read given is (read_by-None from path given never e);
      misses = λ e. read_by-comes from path (file_answer read) given None is (ap (λ r. read_by from path (file_answer r)) e);
    }

pub found_by-AnswersRead : (path : Path) (limit : Option ℕ) (read : Reading) (given : DiskAnswer) → AnswersAsk given (file_answer read)
    → AnswersRead read (λ bytes x. HoldsObject limit bytes x.0 x.1) (given ≡ answers.Refused disk_errors.Failed) (found_by path limit given)
found_by-AnswersRead path limit read given is =
    read_by-AnswersRead (object_in path limit) (λ bytes x. HoldsObject limit bytes x.0 x.1) path (object_in-Some path limit) (object_in-HoldsObject path limit)
    (object_in-None path limit) read given is

pub header_by-AnswersRead : (path : Path) (read : Reading) (given : DiskAnswer) → AnswersAsk given (file_answer read)
    → AnswersRead read (λ bytes x. HoldsHeader bytes x.1 x.0) (given ≡ answers.Refused disk_errors.Failed) (header_by path given)
header_by-AnswersRead path read given is =
    read_by-AnswersRead (header_in path) (λ bytes x. HoldsHeader bytes x.1 x.0) path (header_in-Some path) (header_in-HoldsHeader path) (header_in-None path) read given is

-- ---- the causes of errors, by the answer to a read

-- a read that gave no file, and not a tree's not-found, was unreadable
unreadable_told : (read : Reading) (given : DiskAnswer) → given ≡ file_answer read → given ≢ answers.Refused disk_errors.Absent → ((bytes : List ℕ) (time : ℕ) → given ≢ answers.File bytes time)
    → IsUnreadable read
unreadable_told (Ok file) given e some none = absurd (none file.0 file.1 e)
unreadable_told (Err Absent) given e some none = absurd (some e)
unreadable_told (Err WrongKind) given e some none = inl refl
unreadable_told (Err LinkLoop) given e some none = inr (inl refl)

-- The cause of each error, for any property of errors that an unreadable path and running out of memory have. The disk's answer
-- is a tree's, or the disk reports no tree: `Gave` holds of what was given.
module _ {A : Type 0} (from : List ℕ → Result (Option A) Error) (path : Path) (Gave : Reading → Type 0) (Failed Wanting : Type 0) (Cause : Error → Type 0) (given : DiskAnswer)
    (unreadable_is : (Failed ⊎ Seen Gave IsUnreadable) → Cause (unreadable path)) (memory_is : Wanting → Cause errors.NoMemory)
    (failed : given ≡ answers.Refused disk_errors.Failed → Failed) (wanting : given ≡ answers.Refused disk_errors.NoMemory → Wanting)
    (file : (bytes : List ℕ) (time : ℕ) → given ≡ answers.File bytes time → (error : Error) → from bytes ≡ Err error → Cause error)
    (other : given ≢ answers.Refused disk_errors.Failed → given ≢ answers.Refused disk_errors.Absent → ((bytes : List ℕ) (time : ℕ) → given ≢ answers.File bytes time)
    → given ≢ answers.Refused disk_errors.NoMemory → Seen Gave IsUnreadable) where
  read_by-cause : (error : Error) (answer : DiskAnswer) → given ≡ answer → read_by from path answer ≡ Err error → Cause error
  read_by-cause error (answers.File bytes time) is e = file bytes time is error e
  read_by-cause error (answers.Refused disk_errors.Absent) is e = absurd (cc e)
  read_by-cause error (answers.Refused disk_errors.NoMemory) is e = let same : errors.NoMemory ≡ error = cc e in subst Cause same (memory_is (wanting is))
  read_by-cause error (answers.Refused disk_errors.Failed) is e = let same : unreadable path ≡ error = cc e in subst Cause same (unreadable_is (inl (failed is)))
  read_by-cause error answer is e =
      let same : unreadable path ≡ error = cc e in
      subst Cause same (unreadable_is (inr (other (λ f. cc (f, is)) (λ f. cc (f, is)) (λ bytes time f. cc (f, is)) (λ f. cc (f, is)))))

-- the tree's answer, where the call didn't fail and memory didn't run out
told_is : (given told : DiskAnswer) → AnswersAsk given told → given ≢ answers.Refused disk_errors.Failed → given ≢ answers.Refused disk_errors.NoMemory → given ≡ told
told_is given told asked some room = elim (told_or given told asked) [ inl f ↦ absurd (some f) | inr rest ↦ elim rest [ inl m ↦ absurd (room m) | inr is ↦ is ] ]

module _ (path : Path) (Gave : Reading → Type 0) (Failed Wanting : Type 0) (given : DiskAnswer)
    (failed : given ≡ answers.Refused disk_errors.Failed → Failed) (wanting : given ≡ answers.Refused disk_errors.NoMemory → Wanting) where
  -- the causes of a find's errors: the disk's answer is that of a tree's read
  pub found_by-Err : (limit : Option ℕ) (read : Reading) → Gave read → AnswersAsk given (file_answer read) → (error : Error) → found_by path limit given ≡ Err error
      → FindCause path limit Gave Failed Wanting error
  found_by-Err limit read gave asked error e =
      read_by-cause (object_in path limit) path Gave Failed Wanting (FindCause path limit Gave Failed Wanting) given (λ u. (refl, refl, u)) (λ w. w) failed wanting
      (λ bytes time is x h. object_in-Err path Gave Failed Wanting limit bytes time (subst Gave (file_told read given bytes time asked is) gave) x h)
      (λ some there no_file room. (read, gave, unreadable_told read given (told_is given (file_answer read) asked some room) there no_file))
      error given refl e

  -- and where nothing is known of what was read
  pub found_by-Err_untold : (limit : Option ℕ) → ((read : Reading) → Gave read) → (error : Error) → found_by path limit given ≡ Err error → FindCause path limit Gave Failed Wanting error
  found_by-Err_untold limit every error e =
      read_by-cause (object_in path limit) path Gave Failed Wanting (FindCause path limit Gave Failed Wanting) given (λ u. (refl, refl, u)) (λ w. w) failed wanting
      (λ bytes time is x h. object_in-Err path Gave Failed Wanting limit bytes time (every (Ok (bytes, time))) x h)
      (λ some there no_file room. (Err WrongKind, every (Err WrongKind), inl refl))
      error given refl e

  -- the causes of the errors of a header look-up, alike
  pub header_by-Err : (read : Reading) → Gave read → AnswersAsk given (file_answer read) → (error : Error) → header_by path given ≡ Err error → HeaderCause path Gave Failed Wanting error
  header_by-Err read gave asked error e =
      read_by-cause (header_in path) path Gave Failed Wanting (HeaderCause path Gave Failed Wanting) given (λ u. (refl, refl, u)) (λ w. w) failed wanting
      (λ bytes time is x h. header_in-Err path Gave Failed Wanting bytes time (subst Gave (file_told read given bytes time asked is) gave) x h)
      (λ some there no_file room. (read, gave, unreadable_told read given (told_is given (file_answer read) asked some room) there no_file))
      error given refl e

  pub header_by-Err_untold : ((read : Reading) → Gave read) → (error : Error) → header_by path given ≡ Err error → HeaderCause path Gave Failed Wanting error
  header_by-Err_untold every error e =
      read_by-cause (header_in path) path Gave Failed Wanting (HeaderCause path Gave Failed Wanting) given (λ u. (refl, refl, u)) (λ w. w) failed wanting
      (λ bytes time is x h. header_in-Err path Gave Failed Wanting bytes time (every (Ok (bytes, time))) x h)
      (λ some there no_file room. (Err WrongKind, every (Err WrongKind), inl refl))
      error given refl e
