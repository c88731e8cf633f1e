-- What the verdict on a folder says of the moment at which the disk answered.
use Rattle.std.proofs.Common.{◌≡◌, ℕ, ◌≤◌, Bool, true, false, List, Contains, Option, Some, None, Result, Ok, Err, cond, refl, sym, subst, arith}
use Rattle.odb_base.specs.Path.{Path}
use Rattle.odb_disk.specs.Tree.{Tree, tree_of}
use Rattle.odb_disk.specs.Tree.Follow.{read_of}
use Rattle.odb_disk.specs.MemDisk.{Volume, next_fails}
use Rattle.odb_disk.specs.Ask.{answer_now, answer_of}
use Rattle.odb_disk.specs.StreamAsks.{is_of_streams}
use Rattle.odb_disk.specs.declared.ask.DiskAsk.TheVariants as asks
use Rattle.odb_disk.specs.declared.ask.DiskAnswer.{DiskAnswer}
use Rattle.odb_disk.specs.declared.ask.DiskAnswer.TheVariants as answers
use Rattle.odb_disk.specs.declared.disk_error.DiskError.TheVariants as disk_errors
use Rattle.gix_hash.specs.ObjectId.{kind_of}
use Rattle.gix_hash.specs.declared.object_id.ObjectId.{ObjectId}
use Rattle.gix_object.specs.declared.kind.Kind.{Kind}
use Rattle.gix_odb_loose.specs.Causes.{Cause}
use Rattle.gix_odb_loose.proofs.CauseLaws.{Cause-wider}
use Rattle.gix_odb_loose.specs.LooseFile.{LeadsToFile, Reading, loose_path}
use Rattle.gix_odb_loose.specs.LooseFile as loose_files
use Rattle.gix_odb_loose.specs.LooseOrder.{job_of}
use Rattle.gix_odb_loose.specs.LooseOrder.Answered.{tested_by, found_by, header_by}
use Rattle.gix_odb_loose.specs.Replies.{Says}
use Rattle.gix_odb_loose.proofs.ReplyLaws.{Says-now}
use Rattle.gix_odb_loose.specs.declared.call.LooseJob.TheVariants as jobs
use Rattle.gix_odb_loose.specs.declared.call.LooseReply.{LooseReply}
use Rattle.gix_odb_loose.specs.declared.call.LooseReply.TheVariants as loose_replies
use Rattle.gix_odb_loose.specs.declared.store.Store as loose
use Rattle.gix_odb_loose.specs.declared.find.Error.{Error}
use Rattle.gix_odb_loose.specs.declared.find.Error.TheVariants as errors
use Rattle.gix_object.specs.declared.want.Want.{Want}
use Rattle.gix_object.specs.declared.want.Want.TheVariants.{Object, Header, Presence}
use Rattle.gix_odb_calls.specs.declared.verdict.Verdict.{Verdict}
use Rattle.gix_odb_calls.specs.declared.verdict.Verdict.TheVariants as verdicts
use Rattle.gix_odb_calls.specs.Verdict.{asking, folder_ask, folder_verdict, verdict_on_find, verdict_on_header, verdict_on_test}
use Rattle.gix_odb_world.specs.Causes.{GaveSometime, LooseCause}
use Rattle.gix_odb.specs.Contents.{LooseFile, folder_list, of_loose}
use Rattle.gix_odb_world.specs.Status.{Store}
use Rattle.gix_odb_events.specs.declared.event.Refusal.{Refusal}
use Rattle.gix_odb.specs.LookExchanges.{Exchange}
use Rattle.gix_odb.specs.Held.{Held}
use Rattle.gix_odb.specs.declared.refresh_mode.RefreshMode.{RefreshMode}
use Rattle.gix_odb_world.specs.Promise.{Keeps, claim_of}

-- the loose objects of a folder, for ids of the hash of one
abbrev pub loose_store : (limit : Option ℕ) → ObjectId → Path → loose.Store
loose_store limit id folder = record { path = folder; object_hash = kind_of id; options = record { alloc_limit_bytes = limit } }

-- a folder that is asked opens no stream, takes from none and closes none
pub folder_asks_still : (limit : Option ℕ) (want : Want) (id : ObjectId) (folder : Path) → is_of_streams (folder_ask (asking limit want id folder)) ≡ false
folder_asks_still limit Object id folder = refl
folder_asks_still limit Header id folder = refl
folder_asks_still limit Presence id folder = refl

-- What a verdict on a folder says: an answer that was held or an error with its cause, a miss by a call of the disk that
-- didn't fail, or an error with its cause that is noted.
abbrev pub VerdictSays : (ℕ → Tree) → Type 0 → (Refused : Refusal → Type 0) → (told : List Exchange) → Store → RefreshMode → ℕ → ℕ → Want → ObjectId → Path → (fails : Bool) → Verdict → Type 0
VerdictSays trees Failed Refused told store mode begun now want id folder fails (verdicts.Ends reply) = Keeps trees Failed Refused told store mode begun now want id (claim_of want reply)
VerdictSays trees Failed Refused told store mode begun now want id folder fails verdicts.Misses = (fails ≡ false) × (¬ (LeadsToFile (trees now) (loose_path folder id)))
VerdictSays trees Failed Refused told store mode begun now want id folder fails (verdicts.Notes error) = LooseCause trees Failed store begun now want id error

-- the answer to a call of the disk: that it failed, or what the tree says
abbrev given_by : (fails : Bool) → (told : DiskAnswer) → DiskAnswer
given_by fails told = cond fails (answers.Refused disk_errors.Failed) told

-- a call that failed is no miss
sound_test : (at : Path) (fails : Bool) (told : DiskAnswer) → tested_by at (given_by fails told) ≡ Ok false → fails ≡ false
sound_test at true told e = absurd (cc e)
sound_test at false told e = refl

sound_find : (at : Path) (limit : Option ℕ) (fails : Bool) (told : DiskAnswer) → found_by at limit (given_by fails told) ≡ Ok None → fails ≡ false
sound_find at limit true told e = absurd (cc e)
sound_find at limit false told e = refl

sound_header : (at : Path) (fails : Bool) (told : DiskAnswer) → header_by at (given_by fails told) ≡ Ok None → fails ≡ false
sound_header at true told e = absurd (cc e)
sound_header at false told e = refl

module _ (trees : ℕ → Tree) (Failed : Type 0) (Refused : Refusal → Type 0) (told : List Exchange) (store : Store) (mode : RefreshMode) (begun now : ℕ) (later : begun ≤ now) (disk : Volume) (shown : trees now ≡ tree_of disk.state)
    (fails : next_fails disk ≡ true → Failed) (id : ObjectId) (folder : Path) (among : Contains (folder_list store.parts) folder) where
  abbrev at : Path
  at = loose_path folder id

  abbrev SaysNow : Want → LooseReply → Type 0
  SaysNow want reply = Says at store.parts.alloc_limit_bytes (job_of want id) (tree_of disk.state) (next_fails disk ≡ true) ⊥ reply

  abbrev SaysBy : Want → Verdict → Type 0
  SaysBy want verdict = VerdictSays trees Failed Refused told store mode begun now want id folder (next_fails disk) verdict

  -- what a read of the path gives now
  abbrev IsRead : Reading → Type 0
  IsRead read = read ≡ read_of (tree_of disk.state) at

  -- a cause of the last moment is one of the call
  cause_now : (want : Want) (error : Error) → Cause (job_of want id) at store.parts.alloc_limit_bytes IsRead (next_fails disk ≡ true) ⊥ error
      → LooseCause trees Failed store begun now want id error
  cause_now want error c =
      record {
        folder = folder;
        among = among;
        cause = Cause-wider IsRead (GaveSometime trees begun now at)
            (λ read is. record { moment = now; from = later; to = omega arith; was = subst (λ tree. read ≡ read_of tree at) (sym shown) is })
            (next_fails disk ≡ true) Failed ⊥ ⊥ fails (λ never. never) (job_of want id) at store.parts.alloc_limit_bytes error c;
      }

  -- what the file at the path holds now was held in the call
  held_now : (want : Want) (own : loose_files.Answer)
      → loose_files.Gives (read_of (tree_of disk.state) at) (λ bytes. loose_files.Holds store.parts.alloc_limit_bytes (job_of want id) bytes own)
      → Held trees store.parts store.opened begun now want id (of_loose want own)
  held_now want own gives =
      let read = subst (λ tree. read_of tree at ≡ Ok (gives.bytes, gives.time)) (sym shown) gives.given in
      record {
        folder = folder;
        among = among;
        contents = LooseFile gives.bytes;
        shown = record { moment = now; from = later; to = omega arith; was = (gives.time, read) };
        holds = (own, refl, gives.holds);
      }

  missed_now : ¬ (LeadsToFile (tree_of disk.state) at) → ¬ (LeadsToFile (trees now) at)
  missed_now missed = subst (λ tree. ¬ (LeadsToFile tree at)) (sym shown) missed

  find_says : (result : Result (Option (Kind × List ℕ)) Error) → SaysNow Object (loose_replies.Found result)
      → (result ≡ Ok None → next_fails disk ≡ false)
      → SaysBy Object (verdict_on_find result)
  find_says (Ok (Some x)) says sound =
      held_now Object (loose_files.Object x.0 x.1) (says.held (loose_files.Object x.0 x.1) refl)
  find_says (Ok None) says sound = (sound refl, missed_now (says.missed tt))
  find_says (Err error) says sound = cause_now Object error (says.refused error refl)

  header_says : (result : Result (Option (ℕ × Kind)) Error) → SaysNow Header (loose_replies.Header result)
      → (result ≡ Ok None → next_fails disk ≡ false)
      → SaysBy Header (verdict_on_header result)
  header_says (Ok (Some x)) says sound =
      held_now Header (loose_files.HeaderOf x.1 x.0) (says.held (loose_files.HeaderOf x.1 x.0) refl)
  header_says (Ok None) says sound = (sound refl, missed_now (says.missed tt))
  header_says (Err error) says sound = cause_now Header error (says.refused error refl)

  test_says : (result : Result Bool Error) → SaysNow Presence (loose_replies.Contains result)
      → (result ≡ Ok false → next_fails disk ≡ false)
      → SaysBy Presence (verdict_on_test result)
  test_says (Ok true) says sound = held_now Presence loose_files.Presence (says.held loose_files.Presence refl)
  test_says (Ok false) says sound = (sound refl, missed_now (says.missed tt))
  test_says (Err errors.NoMemory) says sound = cause_now Presence errors.NoMemory (says.refused errors.NoMemory refl)
  test_says (Err errors.Decode) says sound = cause_now Presence errors.Decode (says.refused errors.Decode refl)
  test_says (Err (errors.OutOfMemory size)) says sound = cause_now Presence (errors.OutOfMemory size) (says.refused (errors.OutOfMemory size) refl)
  test_says (Err (errors.Io action path)) says sound = cause_now Presence (errors.Io action path) (says.refused (errors.Io action path) refl)
  test_says (Err (errors.SizeMismatch actual expected path)) says sound =
      cause_now Presence (errors.SizeMismatch actual expected path) (says.refused (errors.SizeMismatch actual expected path) refl)

  -- the verdict on the disk's answer says so much
  pub folder_says : (want : Want)
      → SaysBy want (folder_verdict (asking store.parts.alloc_limit_bytes want id folder) (answer_now disk (folder_ask (asking store.parts.alloc_limit_bytes want id folder))))
  folder_says Object =
      let result = found_by at store.parts.alloc_limit_bytes (answer_now disk (asks.Read at)) in
      find_says result (Says-now (loose_store store.parts.alloc_limit_bytes id folder) (jobs.Find id) disk (asks.Read at) (loose_replies.Found result) refl refl)
      (sound_find at store.parts.alloc_limit_bytes (next_fails disk) (answer_of (tree_of disk.state) (asks.Read at)))
  folder_says Header =
      let result = header_by at (answer_now disk (asks.Read at)) in
      header_says result (Says-now (loose_store store.parts.alloc_limit_bytes id folder) (jobs.Header id) disk (asks.Read at) (loose_replies.Header result) refl refl)
      (sound_header at (next_fails disk) (answer_of (tree_of disk.state) (asks.Read at)))
  folder_says Presence =
      let result = tested_by at (answer_now disk (asks.Look at true)) in
      test_says result (Says-now (loose_store store.parts.alloc_limit_bytes id folder) (jobs.Contains id) disk (asks.Look at true) (loose_replies.Contains result) refl refl)
      (sound_test at (next_fails disk) (answer_of (tree_of disk.state) (asks.Look at true)))
