-- A loose file that is sound for what is wanted gives it, where the call of the disk doesn't fail.
use Rattle.std.proofs.Common.{◌≡◌, ◌⊎◌, inl, inr, ℕ, Bool, true, false, List, [], ◌++◌, length, Option, Some, None, Result, Ok, Err, refl, sym, ap, ◌∙◌, subst}
use Rattle.std.proofs.lemmas.Bool.{false≢true}
use Rattle.std.proofs.lemmas.Option.{same_Some}
use Rattle.odb_base.specs.Path.{Path}
use Rattle.odb_disk.specs.Tree.{tree_of}
use Rattle.odb_disk.specs.Tree.Follow.{LinkLoop, Refusal, WrongKind, read_of}
use Rattle.odb_disk.specs.Ask.{answer_now, fails_now}
use Rattle.odb_disk.specs.MemDisk.{Volume, next_fails}
use Rattle.odb_disk.specs.declared.ask.DiskAnswer.{DiskAnswer}
use Rattle.odb_disk.specs.declared.ask.DiskAsk.{DiskAsk}
use Rattle.odb_disk.specs.declared.ask.DiskAsk.TheVariants as asks
use Rattle.gix_hash.specs.declared.object_id.ObjectId.{ObjectId}
use Rattle.odb_base.specs.Limit.{is_within}
use Rattle.gix_object.specs.Loose.{IsLoose, LooseObject, header_of}
use Rattle.gix_object.specs.declared.kind.Kind.{Kind}
use Rattle.gix_object.specs.declared.kind.Kind.TheVariants.{Blob, Commit, Tag, Tree as TreeKind}
use Rattle.gix_object.proofs.LooseLaws.{loose_of-IsLoose}
use Rattle.gix_odb_loose.specs.Causes.{FindCause, HeaderCause, IsUnreadable, Seen, TestCause}
use Rattle.gix_odb_loose.specs.LooseFile.{HoldsHeader, HoldsObject, LeadsToFile, Reading, loose_path}
use Rattle.gix_odb_loose.specs.LooseFile as loose_files
use Rattle.gix_odb_loose.specs.LooseOrder.{job_of}
use Rattle.gix_odb_loose.specs.LooseOrder.Answered.{found_by, header_by, tested_by}
use Rattle.gix_odb_loose.specs.Replies.{Says}
use Rattle.gix_odb_loose.proofs.ReplyLaws.{Says-now}
use Rattle.gix_odb_loose.specs.declared.call.LooseJob.{LooseJob}
use Rattle.gix_odb_loose.specs.declared.call.LooseJob.TheVariants as jobs
use Rattle.gix_odb_loose.specs.declared.call.LooseReply.{LooseReply}
use Rattle.gix_odb_loose.specs.declared.call.LooseReply.TheVariants as loose_replies
use Rattle.gix_odb_loose.specs.declared.find.Error.{Error}
use Rattle.gix_odb_loose.specs.declared.find.Error.TheVariants as errors
use Rattle.gix_odb_calls.specs.Verdict.{asking, folder_ask, folder_verdict, verdict_on_find, verdict_on_header, verdict_on_test}
use Rattle.gix_odb_calls.specs.declared.call.Reply.{Reply}
use Rattle.gix_odb_calls.specs.declared.call.Reply.TheVariants as replies
use Rattle.gix_odb_calls.specs.declared.find.Header.TheVariants as headers
use Rattle.gix_object.specs.declared.want.Want.{Want}
use Rattle.gix_object.specs.declared.want.Want.TheVariants.{Object, Header, Presence}
use Rattle.gix_odb_calls.specs.declared.verdict.Verdict.TheVariants as verdicts
use Rattle.gix_odb.specs.LookUpOrder.{Setting}
use Rattle.gix_odb.specs.Reply.{IsAnswer}
use Rattle.gix_odb_calls.specs.declared.store_parts.StoreParts.{StoreParts}
use Rattle.gix_odb.specs.Held.{InLooseFile, LiesAt}
use Rattle.gix_odb.specs.Moved.{HasLoose}
use Rattle.gix_odb_world.proofs.FolderLemmas.{loose_store}

-- ---- one file is spelled in one way

same_file : (bytes : List ℕ) (time : ℕ) (other : List ℕ) (further : ℕ) → ◌≡◌ {A = Reading} (Ok (bytes, time)) (Ok (other, further)) → bytes ≡ other
same_file bytes time other further is =
    let both : ◌≡◌ {A = List ℕ × ℕ} (bytes, time) (other, further) = cc is in ap (λ (file : List ℕ × ℕ). file.0) both

one_spelling : (bytes : List ℕ) (kind other : Kind) (size further : ℕ) (rest behind : List ℕ) → IsLoose bytes kind size rest → IsLoose bytes other further behind
    → (size ≡ further) × (rest ≡ behind)
one_spelling bytes kind other size further rest behind one two =
    let same =
    same_Some (record { kind = kind; size = size; rest = rest }) (record { kind = other; size = further; rest = behind })
    (sym (loose_of-IsLoose bytes kind size rest one) ∙ loose_of-IsLoose bytes other further behind two) in
    (ap (λ (o : LooseObject). o.size) same, ap (λ (o : LooseObject). o.rest) same)

header_is_some : (kind : Kind) (size : ℕ) (rest : List ℕ) → ¬ ([] ≡ header_of kind size ++ rest)
unfolding header_of
header_is_some Commit size rest is = cc is
header_is_some TreeKind size rest is = cc is
header_is_some Blob size rest is = cc is
header_is_some Tag size rest is = cc is

not_empty : (kind : Kind) (size : ℕ) (rest : List ℕ) → ¬ (IsLoose [] kind size rest)
not_empty kind size rest is = header_is_some kind size rest is.whole

module _ (limit : Option ℕ) (id : ObjectId) (folder : Path) (disk : Volume) (works : next_fails disk ≡ false) (bytes : List ℕ) (time : ℕ)
    (reads : read_of (tree_of disk.state) (loose_path folder id) ≡ Ok (bytes, time)) where
  abbrev at : Path
  at = loose_path folder id

  abbrev Failed : Type 0
  Failed = next_fails disk ≡ true

  abbrev Gave : Reading → Type 0
  Gave read = read ≡ read_of (tree_of disk.state) at

  unfailed : ¬ Failed
  unfailed failed = false≢true (sym works ∙ failed)

  same_bytes : (read : Reading) → Gave read → (other : List ℕ) (further : ℕ) → read ≡ Ok (other, further) → other ≡ bytes
  same_bytes read gave other further is = same_file other further bytes time (sym is ∙ gave ∙ reads)

  no_refusal : (read : Reading) → Gave read → (refusal : Refusal) → ¬ (read ≡ Err refusal)
  no_refusal read gave refusal is =
      let both : ◌≡◌ {A = Reading} (Err refusal) (Ok (bytes, time)) = sym is ∙ gave ∙ reads in cc both

  -- a file that begins with a header is read
  module _ (kind : Kind) (size : ℕ) (rest : List ℕ) (spelled : IsLoose bytes kind size rest) where
    has_header : (other : List ℕ) → other ≡ bytes → ¬ ((k : Kind) (s : ℕ) (r : List ℕ) → ¬ (IsLoose other k s r))
    has_header other same none = none kind size rest (subst (λ (bs : List ℕ). IsLoose bs kind size rest) (sym same) spelled)

    no_empty : ¬ ([] ≡ bytes)
    no_empty is = not_empty kind size rest (subst (λ (bs : List ℕ). IsLoose bs kind size rest) (sym is) spelled)

    readable : ¬ (Failed ⊎ Seen Gave IsUnreadable)
    readable (inl failed) = unfailed failed
    readable (inr seen) =
        elim seen.2 [
          | inl wrong ↦ no_refusal seen.0 seen.1 WrongKind wrong
          | inr rest ↦
              elim rest [
                | inl loop ↦ no_refusal seen.0 seen.1 LinkLoop loop
                | inr empty ↦ no_empty (same_bytes seen.0 seen.1 [] empty.0 empty.1)
              ]
        ]

  -- ---- no error has its cause

  find_sound : (kind : Kind) (found : List ℕ) → HoldsObject limit bytes kind found → (error : Error) → ¬ (FindCause at limit Gave Failed ⊥ error)
  find_sound kind found holds (errors.SizeMismatch actual expected path) cause =
      let seen = cause.1 in
      let h = seen.2 in
      let same = same_bytes seen.0 seen.1 h.bytes h.time h.given in
      let one =
      one_spelling bytes h.kind kind expected (length found) h.rest found (subst (λ (bs : List ℕ). IsLoose bs h.kind expected h.rest) same h.header) holds.spelled in
      h.differs (sym h.length_is ∙ ap length one.1 ∙ sym one.0)
  find_sound kind found holds errors.Decode cause =
      let h = cause.2 in
      has_header kind (length found) found holds.spelled h.bytes (same_bytes cause.0 cause.1 h.bytes h.time h.given) h.none
  find_sound kind found holds (errors.OutOfMemory size) cause =
      let h = cause.2 in
      let same = same_bytes cause.0 cause.1 h.bytes h.time h.given in
      let one =
      one_spelling bytes h.kind kind size (length found) h.rest found (subst (λ (bs : List ℕ). IsLoose bs h.kind size h.rest) same h.header) holds.spelled in
      false≢true (sym h.above ∙ ap (is_within limit) one.0 ∙ holds.within)
  find_sound kind found holds (errors.Io action path) cause = readable kind (length found) found holds.spelled cause.2
  find_sound kind found holds errors.NoMemory cause = cause

  header_sound : (kind : Kind) (size : ℕ) → HoldsHeader bytes kind size → (error : Error) → ¬ (HeaderCause at Gave Failed ⊥ error)
  header_sound kind size holds (errors.SizeMismatch actual expected path) cause = cause
  header_sound kind size holds errors.Decode cause =
      let h = cause.2 in has_header kind size holds.rest holds.spelled h.bytes (same_bytes cause.0 cause.1 h.bytes h.time h.given) h.none
  header_sound kind size holds (errors.OutOfMemory further) cause = cause
  header_sound kind size holds (errors.Io action path) cause = readable kind size holds.rest holds.spelled cause.2
  header_sound kind size holds errors.NoMemory cause = cause

  test_sound : (error : Error) → ¬ (TestCause at Failed ⊥ error)
  test_sound (errors.SizeMismatch actual expected path) cause = cause
  test_sound errors.Decode cause = cause
  test_sound (errors.OutOfMemory size) cause = cause
  test_sound (errors.Io action path) cause = unfailed cause.2
  test_sound errors.NoMemory cause = cause

  -- ---- the reply

  leads : LeadsToFile (tree_of disk.state) at
  leads = record { bytes = bytes; time = time; given = reads; holds = tt }

  module _ (setting : Setting) (limited : setting.parts.alloc_limit_bytes ≡ limit) where
    abbrev SaysOf : LooseJob → LooseReply → Type 0
    SaysOf job reply = Says at limit job (tree_of disk.state) Failed ⊥ reply

    -- by which a folder's loose objects have it
    has : (want : Want) (answer : DiskAnswer) (told : Reply) → folder_verdict (asking limit want id folder) answer ≡ verdicts.Ends told → IsAnswer told
        → HasLoose setting want id folder answer
    has want answer told says found =
        record {
          told = told;
          says = subst (λ (l : Option ℕ). folder_verdict (asking l want id folder) answer ≡ verdicts.Ends told) (sym limited) says;
          found = found;
        }

    find_has : (answer : DiskAnswer) (kind : Kind) (found : List ℕ) → HoldsObject limit bytes kind found
        → (result : Result (Option (Kind × List ℕ)) Error) → found_by at limit answer ≡ result → SaysOf (jobs.Find id) (loose_replies.Found result)
        → HasLoose setting Object id folder answer
    find_has answer kind found holds (Ok (Some x)) is says = has Object answer (replies.Found x.0 x.1) (ap verdict_on_find is) tt
    find_has answer kind found holds (Ok None) is says = absurd (says.missed tt leads)
    find_has answer kind found holds (Err error) is says = absurd (find_sound kind found holds error (says.refused error refl))

    header_has : (answer : DiskAnswer) (kind : Kind) (size : ℕ) → HoldsHeader bytes kind size
        → (result : Result (Option (ℕ × Kind)) Error) → header_by at answer ≡ result → SaysOf (jobs.Header id) (loose_replies.Header result)
        → HasLoose setting Header id folder answer
    header_has answer kind size holds (Ok (Some x)) is says = has Header answer (replies.Header (headers.Loose x.1 x.0)) (ap verdict_on_header is) tt
    header_has answer kind size holds (Ok None) is says = absurd (says.missed tt leads)
    header_has answer kind size holds (Err error) is says = absurd (header_sound kind size holds error (says.refused error refl))

    test_has : (answer : DiskAnswer) (result : Result Bool Error) → tested_by at answer ≡ result
        → SaysOf (jobs.Contains id) (loose_replies.Contains result) → HasLoose setting Presence id folder answer
    test_has answer (Ok true) is says = has Presence answer (replies.Tested true) (ap verdict_on_test is) tt
    test_has answer (Ok false) is says = absurd (says.missed tt leads)
    test_has answer (Err error) is says = absurd (test_sound error (says.refused error refl))

    -- the disk's answer to the one call by which a query asks for the object
    read_has : (want : Want) (own : loose_files.Answer) → loose_files.Holds limit (job_of want id) bytes own → (ask : DiskAsk)
        → folder_ask (asking limit want id folder) ≡ ask → HasLoose setting want id folder (answer_now disk ask)
    read_has Object (loose_files.Object kind found) holds ask is =
        let result = found_by at limit (answer_now disk (asks.Read at)) in
        subst (λ (a : DiskAsk). HasLoose setting Object id folder (answer_now disk a)) is
        (find_has (answer_now disk (asks.Read at)) kind found holds result refl
        (Says-now (loose_store limit id folder) (jobs.Find id) disk (asks.Read at) (loose_replies.Found result) refl refl))
    read_has Header (loose_files.HeaderOf kind size) holds ask is =
        let result = header_by at (answer_now disk (asks.Read at)) in
        subst (λ (a : DiskAsk). HasLoose setting Header id folder (answer_now disk a)) is
        (header_has (answer_now disk (asks.Read at)) kind size holds result refl
        (Says-now (loose_store limit id folder) (jobs.Header id) disk (asks.Read at) (loose_replies.Header result) refl refl))
    read_has Presence loose_files.Presence holds ask is =
        let result = tested_by at (answer_now disk (asks.Look at true)) in
        subst (λ (a : DiskAsk). HasLoose setting Presence id folder (answer_now disk a)) is
        (test_has (answer_now disk (asks.Look at true)) result refl
        (Says-now (loose_store limit id folder) (jobs.Contains id) disk (asks.Look at true) (loose_replies.Contains result) refl refl))
    read_has Object (loose_files.HeaderOf kind size) holds ask is = absurd holds
    read_has Object loose_files.Presence holds ask is = absurd holds
    read_has Header (loose_files.Object kind found) holds ask is = absurd holds
    read_has Header loose_files.Presence holds ask is = absurd holds
    read_has Presence (loose_files.Object kind found) holds ask is = absurd holds
    read_has Presence (loose_files.HeaderOf kind size) holds ask is = absurd holds

-- whether the one call of a query fails now
fails_as_next : (limit : Option ℕ) (want : Want) (id : ObjectId) (folder : Path) (disk : Volume) (ask : DiskAsk) → folder_ask (asking limit want id folder) ≡ ask
    → fails_now disk ask ≡ false → next_fails disk ≡ false
fails_as_next limit Object id folder disk ask is works =
    subst (λ (a : DiskAsk). fails_now disk a ≡ false) (sym is) works
fails_as_next limit Header id folder disk ask is works =
    subst (λ (a : DiskAsk). fails_now disk a ≡ false) (sym is) works
fails_as_next limit Presence id folder disk ask is works =
    subst (λ (a : DiskAsk). fails_now disk a ≡ false) (sym is) works

-- An object that lies in its loose file, sound for a query, is found by the disk's answer to the query, where that call doesn't fail.
pub sound_file_is_had : (store : StoreParts) (setting : Setting) → setting.parts.alloc_limit_bytes ≡ store.alloc_limit_bytes → (want : Want) (id : ObjectId) (folder : Path) (disk : Volume)
    → LiesAt store want (tree_of disk.state) folder id InLooseFile → (ask : DiskAsk) → folder_ask (asking store.alloc_limit_bytes want id folder) ≡ ask
    → fails_now disk ask ≡ false → HasLoose setting want id folder (answer_now disk ask)
sound_file_is_had store setting limited want id folder disk lies ask is works =
    let sound = lies.2.1 in
    read_has store.alloc_limit_bytes id folder disk (fails_as_next store.alloc_limit_bytes want id folder disk ask is works) lies.0 lies.1.0 lies.1.1 setting limited want sound.0 sound.2 ask is
