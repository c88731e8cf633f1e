-- The laws of replies: a call that is fed a tree's answer to its one ask is done, and its reply says what that tree shows.
use Rattle.std.specs.Prelude.{◌≡◌, ◌≢◌, if◌then◌else◌, ℕ, Bool, true, false, List, Option, Some, None, Result, Ok, Err, refl}
use Rattle.std.proofs.Common.{sym, ap, ◌∙◌, subst}
use Rattle.odb_base.specs.Path.{Path}
use Rattle.odb_disk.specs.Ask.{AnswersAsk, answer_of, answer_now, meta_answer, file_answer, write_answer}
use Rattle.odb_disk.specs.MemDisk.{Volume, next_fails}
use Rattle.odb_disk.specs.StreamAsks.{is_of_streams}
use Rattle.odb_disk.proofs.StillAskLaws.{answer_now-still}
use Rattle.odb_disk.specs.Tree.{Tree, tree_of}
use Rattle.odb_disk.specs.Tree.Follow.{Refusal, Absent, WrongKind, LinkLoop, looked, read_of}
use Rattle.odb_disk.specs.Tree.Write as writing
use Rattle.odb_disk.specs.Tree.Write.{change_of_new_file}
use Rattle.odb_disk.specs.declared.change.Change.{Change}
use Rattle.odb_disk.specs.declared.meta.Meta.{Meta}
use Rattle.odb_disk.specs.declared.disk_error.DiskError.{DiskError}
use Rattle.odb_disk.specs.declared.ask.DiskAsk.{DiskAsk}
use Rattle.odb_disk.specs.declared.ask.DiskAsk.TheVariants as asks
use Rattle.odb_disk.specs.declared.ask.DiskAnswer.{DiskAnswer}
use Rattle.odb_disk.specs.declared.ask.DiskAnswer.TheVariants as answers
use Rattle.odb_disk.specs.declared.disk_error.DiskError.TheVariants as disk_errors
use Rattle.gix_hash.specs.declared.object_id.ObjectId.{ObjectId}
use Rattle.gix_object.specs.declared.kind.Kind.{Kind}
use Rattle.gix_odb_loose.specs.Store.{store_path, store_hash, store_limit}
use Rattle.gix_odb_loose.specs.LooseFile.{Answer, Object, HeaderOf, Presence, Gives, Holds, LeadsToFile, id_asked, loose_path}
use Rattle.gix_odb_loose.specs.Causes.{Cause}
use Rattle.gix_odb_loose.specs.LooseOrder.{begun, started, fed, disk_ask_of, searched_to, stage_reply, written_to, reply_of}
use Rattle.gix_odb_loose.specs.LooseOrder.Answered.{tested_by, found_by, header_by}
use Rattle.gix_odb_loose.proofs.LooseOrderLaws.Read.{found_by-AnswersRead, found_by-Err, header_by-AnswersRead, header_by-Err}
use Rattle.gix_odb_loose.proofs.LooseOrderLaws.Look.{tested_by-Ok, tested_by-Err}
use Rattle.gix_odb_loose.specs.Replies.{answer_in, error_in, IsMiss, Says}
use Rattle.gix_odb_loose.specs.PrefixOrder as searches
use Rattle.gix_odb_loose.specs.WriteOrder.{prefix_path, temp_path}
use Rattle.gix_odb_loose.specs.WriteJobs.{advance_by}
use Rattle.gix_odb_loose.specs.declared.prefix_search.SearchStep.{SearchStep}
use Rattle.gix_odb_loose.specs.declared.prefix_search.SearchStep.TheVariants as search_steps
use Rattle.gix_odb_loose.specs.declared.write_at_hand.Advance.{Advance}
use Rattle.gix_odb_loose.specs.declared.write_at_hand.Advance.TheVariants as advances
use Rattle.gix_odb_loose.specs.declared.write_at_hand.WriteJob.{WriteJob}
use Rattle.gix_odb_loose.specs.declared.find.Error.{Error}
use Rattle.gix_odb_loose.specs.declared.store.Store.{Store}
use Rattle.gix_odb_loose.specs.declared.call.LooseJob.{LooseJob}
use Rattle.gix_odb_loose.specs.declared.call.LooseJob.TheVariants as jobs
use Rattle.gix_odb_loose.specs.declared.call.LooseReply.{LooseReply}
use Rattle.gix_odb_loose.specs.declared.call.LooseReply.TheVariants as replies

module _ (path : Path) (limit : Option ℕ) (id : ObjectId) (tree : Tree) (given : DiskAnswer) (Failed Wanting : Type 0)
    (failed : given ≡ answers.Refused disk_errors.Failed → Failed) (wanting : given ≡ answers.Refused disk_errors.NoMemory → Wanting) where
  -- ---- a find

  module _ (asked : AnswersAsk given (file_answer (read_of tree path))) where
    found_held : (result : Result (Option (Kind × List ℕ)) Error) → found_by path limit given ≡ result → (answer : Answer) → answer_in (replies.Found result) ≡ Some answer
        → Gives (read_of tree path) (λ bytes. Holds limit (jobs.Find id) bytes answer)
    found_held (Ok (Some x)) is answer e =
        let same : Object x.0 x.1 ≡ answer = cc e in
        subst (λ a. Gives (read_of tree path) (λ bytes. Holds limit (jobs.Find id) bytes a)) same ((found_by-AnswersRead path limit (read_of tree path) given asked).found x is)
    found_held (Ok None) is answer e = absurd (cc e)
    found_held (Err error) is answer e = absurd (cc e)

    found_missed : (result : Result (Option (Kind × List ℕ)) Error) → found_by path limit given ≡ result → IsMiss (replies.Found result) → ¬ (LeadsToFile tree path)
    found_missed (Ok (Some x)) is miss = absurd miss
    found_missed (Ok None) is miss = λ file. cc (file.given, (found_by-AnswersRead path limit (read_of tree path) given asked).none is)
    found_missed (Err error) is miss = absurd miss

    found_refused : (result : Result (Option (Kind × List ℕ)) Error) → found_by path limit given ≡ result → (error : Error) → error_in (replies.Found result) ≡ Some error
        → Cause (jobs.Find id) path limit (λ read. read ≡ read_of tree path) Failed Wanting error
    found_refused (Ok (Some x)) is error e = absurd (cc e)
    found_refused (Ok None) is error e = absurd (cc e)
    found_refused (Err other) is error e =
        let same : other ≡ error = cc e in
        found_by-Err path (λ read. read ≡ read_of tree path) Failed Wanting given failed wanting
        limit (read_of tree path) refl asked error (is ∙ ap Err same)

    pub Says-found : Says path limit (jobs.Find id) tree Failed Wanting (replies.Found (found_by path limit given))
    Says-found = record { held = found_held (found_by path limit given) refl; missed = found_missed (found_by path limit given) refl; refused = found_refused (found_by path limit given) refl }

    -- ---- a header look-up

    header_held : (result : Result (Option (ℕ × Kind)) Error) → header_by path given ≡ result → (answer : Answer) → answer_in (replies.Header result) ≡ Some answer
        → Gives (read_of tree path) (λ bytes. Holds limit (jobs.Header id) bytes answer)
    header_held (Ok (Some x)) is answer e =
        let same : HeaderOf x.1 x.0 ≡ answer = cc e in
        subst (λ a. Gives (read_of tree path) (λ bytes. Holds limit (jobs.Header id) bytes a)) same ((header_by-AnswersRead path (read_of tree path) given asked).found x is)
    header_held (Ok None) is answer e = absurd (cc e)
    header_held (Err error) is answer e = absurd (cc e)

    header_missed : (result : Result (Option (ℕ × Kind)) Error) → header_by path given ≡ result → IsMiss (replies.Header result) → ¬ (LeadsToFile tree path)
    header_missed (Ok (Some x)) is miss = absurd miss
    header_missed (Ok None) is miss = λ file. cc (file.given, (header_by-AnswersRead path (read_of tree path) given asked).none is)
    header_missed (Err error) is miss = absurd miss

    header_refused : (result : Result (Option (ℕ × Kind)) Error) → header_by path given ≡ result → (error : Error) → error_in (replies.Header result) ≡ Some error
        → Cause (jobs.Header id) path limit (λ read. read ≡ read_of tree path) Failed Wanting error
    header_refused (Ok (Some x)) is error e = absurd (cc e)
    header_refused (Ok None) is error e = absurd (cc e)
    header_refused (Err other) is error e =
        let same : other ≡ error = cc e in
        header_by-Err path (λ read. read ≡ read_of tree path) Failed Wanting given failed wanting
        (read_of tree path) refl asked error (is ∙ ap Err same)

    pub Says-header : Says path limit (jobs.Header id) tree Failed Wanting (replies.Header (header_by path given))
    Says-header = record { held = header_held (header_by path given) refl; missed = header_missed (header_by path given) refl; refused = header_refused (header_by path given) refl }

  -- ---- a test of presence

  module _ (asked : AnswersAsk given (meta_answer (looked tree path true))) where
    test_held : (result : Result Bool Error) → tested_by path given ≡ result → (answer : Answer) → answer_in (replies.Contains result) ≡ Some answer
        → Gives (read_of tree path) (λ bytes. Holds limit (jobs.Contains id) bytes answer)
    test_held (Ok true) is answer e =
        let same : Presence ≡ answer = cc e in
        subst (λ a. Gives (read_of tree path) (λ bytes. Holds limit (jobs.Contains id) bytes a)) same ((tested_by-Ok tree path given asked true is).0 refl)
    test_held (Ok false) is answer e = absurd (cc e)
    test_held (Err error) is answer e = absurd (cc e)

    test_missed : (result : Result Bool Error) → tested_by path given ≡ result → IsMiss (replies.Contains result) → ¬ (LeadsToFile tree path)
    test_missed (Ok true) is miss = absurd miss
    test_missed (Ok false) is miss = λ file. let there : false ≡ true = (tested_by-Ok tree path given asked false is).1 file in cc there
    test_missed (Err error) is miss = absurd miss

    test_refused : (result : Result Bool Error) → tested_by path given ≡ result → (error : Error) → error_in (replies.Contains result) ≡ Some error
        → Cause (jobs.Contains id) path limit (λ read. read ≡ read_of tree path) Failed Wanting error
    test_refused (Ok true) is error e = absurd (cc e)
    test_refused (Ok false) is error e = absurd (cc e)
    test_refused (Err other) is error e =
        let same : other ≡ error = cc e in
        tested_by-Err path Failed Wanting given failed wanting error (is ∙ ap Err same)

    pub Says-tested : Says path limit (jobs.Contains id) tree Failed Wanting (replies.Contains (tested_by path given))
    Says-tested = record { held = test_held (tested_by path given) refl; missed = test_missed (tested_by path given) refl; refused = test_refused (tested_by path given) refl }

-- ---- each call

asks_read : (path : Path) (ask : DiskAsk) (tree : Tree) (given : DiskAnswer) → Some (asks.Read path) ≡ Some ask → AnswersAsk given (answer_of tree ask)
    → AnswersAsk given (file_answer (read_of tree path))
unfolding answer_of
asks_read path ask tree given is asked = let same : asks.Read path ≡ ask = cc is in subst (λ a. AnswersAsk given (answer_of tree a)) (sym same) asked

asks_look : (path : Path) (ask : DiskAsk) (tree : Tree) (given : DiskAnswer) → Some (asks.Look path true) ≡ Some ask → AnswersAsk given (answer_of tree ask)
    → AnswersAsk given (meta_answer (looked tree path true))
unfolding answer_of
asks_look path ask tree given is asked = let same : asks.Look path true ≡ ask = cc is in subst (λ a. AnswersAsk given (answer_of tree a)) (sym same) asked

-- the reply of a write answers no find, and isn't its miss or its error
says_advance : (path : Path) (limit : Option ℕ) (job : LooseJob) (tree : Tree) (Failed Wanting : Type 0) (write : WriteJob) (advance : Advance) (reply : LooseReply)
    → stage_reply (written_to write advance) ≡ Some reply → Says path limit job tree Failed Wanting reply
says_advance path limit job tree Failed Wanting write (advances.Stage stage) reply r = absurd (cc r)
says_advance path limit job tree Failed Wanting write (advances.Reply answer) reply r =
    let same : replies.Wrote answer ≡ reply = cc r in
    subst (Says path limit job tree Failed Wanting) same (record { held = λ given e. absurd (cc e); missed = λ miss. absurd miss; refused = λ error e. absurd (cc e) })

-- nor does that of a look-up of a prefix
says_searched : (path : Path) (limit : Option ℕ) (job : LooseJob) (tree : Tree) (Failed Wanting : Type 0) (step : SearchStep) (reply : LooseReply) → stage_reply (searched_to step) ≡ Some reply
    → Says path limit job tree Failed Wanting reply
says_searched path limit job tree Failed Wanting (search_steps.More search) reply r = absurd (cc r)
says_searched path limit job tree Failed Wanting (search_steps.Done found) reply r =
    let same : replies.Prefix found.answer found.names ≡ reply = cc r in
    subst (Says path limit job tree Failed Wanting) same (record { held = λ given e. absurd (cc e); missed = λ miss. absurd miss; refused = λ error e. absurd (cc e) })

-- the reply says what the tree shows that answered the ask
pub Says-fed : (store : Store) (job : LooseJob) (tree : Tree) (ask : DiskAsk) (given : DiskAnswer) (reply : LooseReply) → disk_ask_of (started store job) ≡ Some ask
    → AnswersAsk given (answer_of tree ask)
    → (Failed Wanting : Type 0) → (given ≡ answers.Refused disk_errors.Failed → Failed) → (given ≡ answers.Refused disk_errors.NoMemory → Wanting)
    → reply_of (fed (started store job) given) ≡ Some reply
    → Says (loose_path (store_path store) (id_asked (store_hash store) job)) (store_limit store) job tree Failed Wanting reply
Says-fed store (jobs.Contains id) tree ask given reply is asked Failed Wanting failed wanting r =
    let path = loose_path (store_path store) id in
    let same : replies.Contains (tested_by path given) ≡ reply = cc r in
    subst (Says path (store_limit store) (jobs.Contains id) tree Failed Wanting) same
    (Says-tested path (store_limit store) id tree given Failed Wanting failed wanting (asks_look path ask tree given is asked))
Says-fed store (jobs.Find id) tree ask given reply is asked Failed Wanting failed wanting r =
    let path = loose_path (store_path store) id in
    let same : replies.Found (found_by path (store_limit store) given) ≡ reply = cc r in
    subst (Says path (store_limit store) (jobs.Find id) tree Failed Wanting) same
    (Says-found path (store_limit store) id tree given Failed Wanting failed wanting (asks_read path ask tree given is asked))
Says-fed store (jobs.Header id) tree ask given reply is asked Failed Wanting failed wanting r =
    let path = loose_path (store_path store) id in
    let same : replies.Header (header_by path given) ≡ reply = cc r in
    subst (Says path (store_limit store) (jobs.Header id) tree Failed Wanting) same
    (Says-header path (store_limit store) id tree given Failed Wanting failed wanting (asks_read path ask tree given is asked))
Says-fed store (jobs.Prefix prefix gather) tree ask given reply is asked Failed Wanting failed wanting r =
    says_searched (loose_path (store_path store) prefix.id) (store_limit store) (jobs.Prefix prefix gather) tree Failed Wanting (searches.fed (searches.begun (store_path store) prefix gather) given) reply r
Says-fed store (jobs.Write kind size bytes id) tree ask given reply is asked Failed Wanting failed wanting r =
    let write = begun store kind size bytes id in
    says_advance (loose_path (store_path store) (id_asked (store_hash store) (jobs.Write kind size bytes id))) (store_limit store) (jobs.Write kind size bytes id) tree Failed Wanting write
    (advance_by write given) reply r

-- ---- a disk in memory

own_answer : (given : DiskAnswer) → AnswersAsk given given
own_answer (answers.Meta meta) = refl
own_answer (answers.Dir dir) = refl
own_answer (answers.Entry entry) = refl
own_answer answers.End = refl
own_answer (answers.File bytes time) = refl
own_answer (answers.Refused disk_errors.Failed) = tt
own_answer (answers.Refused disk_errors.NoMemory) = tt
own_answer (answers.Refused disk_errors.Absent) = refl
own_answer given = refl

look_told : (told : Result Meta Refusal) (error : DiskError) → meta_answer told ≡ answers.Refused error → (error ≢ disk_errors.Failed) × (error ≢ disk_errors.NoMemory)
look_told (Ok meta) error e = absurd (cc e)
look_told (Err Absent) error e = (λ f. cc (e, f), λ f. cc (e, f))
look_told (Err WrongKind) error e = (λ f. cc (e, f), λ f. cc (e, f))
look_told (Err LinkLoop) error e = (λ f. cc (e, f), λ f. cc (e, f))

read_told : (told : Result (List ℕ × ℕ) Refusal) (error : DiskError) → file_answer told ≡ answers.Refused error → (error ≢ disk_errors.Failed) × (error ≢ disk_errors.NoMemory)
read_told (Ok file) error e = absurd (cc e)
read_told (Err Absent) error e = (λ f. cc (e, f), λ f. cc (e, f))
read_told (Err WrongKind) error e = (λ f. cc (e, f), λ f. cc (e, f))
read_told (Err LinkLoop) error e = (λ f. cc (e, f), λ f. cc (e, f))

write_told : (told : Result Change writing.Refusal) (error : DiskError) → write_answer told ≡ answers.Refused error → (error ≢ disk_errors.Failed) × (error ≢ disk_errors.NoMemory)
write_told (Ok change) error e = absurd (cc e)
write_told (Err writing.Absent) error e = (λ f. cc (e, f), λ f. cc (e, f))
write_told (Err writing.WrongKind) error e = (λ f. cc (e, f), λ f. cc (e, f))
write_told (Err writing.LinkLoop) error e = (λ f. cc (e, f), λ f. cc (e, f))
write_told (Err writing.Exists) error e = (λ f. cc (e, f), λ f. cc (e, f))
write_told (Err writing.NotEmpty) error e = (λ f. cc (e, f), λ f. cc (e, f))

-- the asks of these calls: a tree never answers that the call failed or memory ran out
tree_told : (store : Store) (job : LooseJob) (tree : Tree) (ask : DiskAsk) (error : DiskError) → disk_ask_of (started store job) ≡ Some ask → answer_of tree ask ≡ answers.Refused error
    → (error ≢ disk_errors.Failed) × (error ≢ disk_errors.NoMemory)
unfolding answer_of
tree_told store (jobs.Contains id) tree ask error is e =
    let path = loose_path (store_path store) id in
    let same : ask ≡ asks.Look path true = cc is in look_told (looked tree path true) error (ap (answer_of tree) (sym same) ∙ e)
tree_told store (jobs.Find id) tree ask error is e =
    let path = loose_path (store_path store) id in
    let same : ask ≡ asks.Read path = cc is in read_told (read_of tree path) error (ap (answer_of tree) (sym same) ∙ e)
tree_told store (jobs.Header id) tree ask error is e =
    let path = loose_path (store_path store) id in
    let same : ask ≡ asks.Read path = cc is in read_told (read_of tree path) error (ap (answer_of tree) (sym same) ∙ e)
tree_told store (jobs.Prefix prefix gather) tree ask error is e =
    let path = prefix_path (store_path store) prefix.id in
    let same : ask ≡ asks.Look path false = cc is in look_told (looked tree path false) error (ap (answer_of tree) (sym same) ∙ e)
tree_told store (jobs.Write kind size bytes id) tree ask error is e =
    let path = temp_path (store_path store) 0 in
    let same : ask ≡ asks.NewFile path = cc is in write_told (change_of_new_file tree path) error (ap (answer_of tree) (sym same) ∙ e)

-- none is a call on streams
asks_still : (store : Store) (job : LooseJob) (ask : DiskAsk) → disk_ask_of (started store job) ≡ Some ask → is_of_streams ask ≡ false
asks_still store (jobs.Contains id) ask is = let same : asks.Look (loose_path (store_path store) id) true ≡ ask = cc is in ap is_of_streams (sym same)
asks_still store (jobs.Find id) ask is = let same : asks.Read (loose_path (store_path store) id) ≡ ask = cc is in ap is_of_streams (sym same)
asks_still store (jobs.Header id) ask is = let same : asks.Read (loose_path (store_path store) id) ≡ ask = cc is in ap is_of_streams (sym same)
asks_still store (jobs.Prefix prefix gather) ask is = let same : asks.Look (prefix_path (store_path store) prefix.id) false ≡ ask = cc is in ap is_of_streams (sym same)
asks_still store (jobs.Write kind size bytes id) ask is = let same : asks.NewFile (temp_path (store_path store) 0) ≡ ask = cc is in ap is_of_streams (sym same)

-- The reply to the present answer of a disk in memory says what its tree shows; an error by a failed call has a listed number,
-- and none is because memory ran out.
pub Says-now : (store : Store) (job : LooseJob) (disk : Volume) (ask : DiskAsk) (reply : LooseReply) → disk_ask_of (started store job) ≡ Some ask
    → reply_of (fed (started store job) (answer_now disk ask)) ≡ Some reply
    → Says (loose_path (store_path store) (id_asked (store_hash store) job)) (store_limit store) job (tree_of disk.state) (next_fails disk ≡ true) ⊥ reply
Says-now store job disk ask reply is r =
    by_failing (next_fails disk) refl (subst (λ (a : DiskAnswer). reply_of (fed (started store job) a) ≡ Some reply) (answer_now-still disk ask (asks_still store job ask is)) r)
  where
    by_failing : (fails : Bool) → next_fails disk ≡ fails → reply_of (fed (started store job) (if fails then answers.Refused disk_errors.Failed else answer_of (tree_of disk.state) ask)) ≡ Some reply
        → Says (loose_path (store_path store) (id_asked (store_hash store) job)) (store_limit store) job (tree_of disk.state) (next_fails disk ≡ true) ⊥ reply
    by_failing true e h = Says-fed store job (tree_of disk.state) ask (answers.Refused disk_errors.Failed) reply is tt (next_fails disk ≡ true) ⊥ (λ f. e) (λ m. cc m) h
    by_failing false e h =
        Says-fed store job (tree_of disk.state) ask (answer_of (tree_of disk.state) ask) reply is (own_answer (answer_of (tree_of disk.state) ask)) (next_fails disk ≡ true) ⊥
        (λ f. absurd ((tree_told store job (tree_of disk.state) ask disk_errors.Failed is f).0 refl)) (λ m. (tree_told store job (tree_of disk.state) ask disk_errors.NoMemory is m).1 refl) h
