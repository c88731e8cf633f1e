-- Laws of one stream and one call of its disk, or one change of the disk's state: what the stream still gives afterwards.
use Rattle.std.proofs.Common.{◌≡◌, ◌≢◌, ℕ, Bool, true, false, cond, List, [], ◌∷◌}
use Rattle.std.proofs.Common.{Option, Some, None, Result, Ok, Err, refl, sym, ap, ◌∙◌, subst}
use Rattle.odb_base.specs.Path.{Path}
use Rattle.odb_disk.specs.Entries.{opened}
use Rattle.odb_disk.specs.Tree.{State, Tree, tree_of}
use Rattle.odb_disk.specs.Tree.Follow.{Refusal}
use Rattle.odb_disk.specs.declared.change.Change.{Change}
use Rattle.odb_disk.specs.declared.disk_error.DiskError.TheVariants as errors
use Rattle.odb_disk.specs.declared.entry.Entry.{Entry}
use Rattle.odb_disk.specs.Ask.{after_ask, answer_now, answer_of, dir_answer, entry_answer, fails_now}
use Rattle.odb_disk.specs.MemDisk.{Volume, after_outside_change}
use Rattle.odb_disk.specs.StreamAsks.{after_opening, after_taking, least_closed, streams_after}
use Rattle.odb_disk.specs.Streams.{Streams, still_gives, with_opened}
use Rattle.odb_disk.specs.declared.ask.DiskAnswer.{DiskAnswer}
use Rattle.odb_disk.specs.declared.ask.DiskAnswer.TheVariants as answers
use Rattle.odb_disk.specs.declared.ask.DiskAsk.{DiskAsk}
use Rattle.odb_disk.specs.declared.ask.DiskAsk.TheVariants as asks
use Rattle.gix_odb.proofs.StreamLaws.Numbers.{get-insert_other, get-insert_same, get-remove_other, get-remove_same, least_closed_is_free}
use Rattle.gix_odb.specs.OpenStream.{GivesNext, IsOnStream, IsOpenStream, IsOpened, IsRead}

-- ---- a stream and the calls that aren't on it

module _ (tree : Tree) (streams : Streams) (dir : ℕ) (coming : List Entry) (gives : still_gives streams dir ≡ Some coming) where
  -- the number of a new stream is another
  new_number : dir ≢ least_closed streams
  new_number same =
      let both : None ≡ Some coming = sym (least_closed_is_free streams) ∙ ap (still_gives streams) (sym same) ∙ gives in cc

  still_after_opening : (told : Result (List Entry) Refusal) → still_gives (after_opening streams told) dir ≡ Some coming
  still_after_opening (Ok entries) = get-insert_other streams.open_dirs dir (least_closed streams) new_number entries ∙ gives
  still_after_opening (Err refusal) = gives

  still_after_taking : (other : ℕ) → dir ≢ other → (has : Option (List Entry)) → still_gives (after_taking streams other has) dir ≡ Some coming
  still_after_taking other apart None = gives
  still_after_taking other apart (Some []) = gives
  still_after_taking other apart (Some (entry ∷ rest)) = get-insert_other streams.open_dirs dir other apart rest ∙ gives

  still_after : (ask : DiskAsk) → (IsOnStream dir ask → ⊥) → still_gives (streams_after tree streams ask) dir ≡ Some coming
  still_after (asks.Look path follow) other = gives
  still_after (asks.Read path) other = gives
  still_after (asks.OpenDir path) other = still_after_opening (opened tree path)
  still_after (asks.NextEntry number) other = still_after_taking number (λ same. other (sym same)) (still_gives streams number)
  still_after (asks.CloseDir number) other = get-remove_other streams.open_dirs dir number (λ same. other (sym same)) ∙ gives
  still_after (asks.MakeDir path) other = gives
  still_after (asks.NewFile path) other = gives
  still_after (asks.Append path bytes) other = gives
  still_after (asks.Rename from to) other = gives
  still_after (asks.Remove path) other = gives

-- what a disk's streams are after a call
left_by : (disk : Volume) (ask : DiskAsk)
    → (after_ask disk ask).streams ≡ cond (fails_now disk ask) disk.streams (streams_after (tree_of disk.state) disk.streams ask)
unfolding after_ask
left_by disk ask = refl

module _ (disk : Volume) (dir : ℕ) (coming : List Entry) (stream : IsOpenStream disk dir coming) where
  -- a call that isn't on a stream leaves it what it still gives
  pub stream_is_kept_by_other_calls : (ask : DiskAsk) → (IsOnStream dir ask → ⊥) → IsOpenStream (after_ask disk ask) dir coming
  stream_is_kept_by_other_calls ask other = record { gives = ap (λ (s : Streams). still_gives s dir) (left_by disk ask) ∙ by (fails_now disk ask) }
    where
      by : (b : Bool) → still_gives (cond b disk.streams (streams_after (tree_of disk.state) disk.streams ask)) dir ≡ Some coming
      by true = stream.gives
      by false = still_after (tree_of disk.state) disk.streams dir coming stream.gives ask other

  -- as does whatever changes only the state
  pub stream_is_kept_by_another_state : (state : State) → IsOpenStream (record disk { state = state }) dir coming
  stream_is_kept_by_another_state state = record { gives = stream.gives }

  pub stream_is_kept_by_outside_changes : (change : Change) → IsOpenStream (after_outside_change disk change) dir coming
  unfolding after_outside_change
  stream_is_kept_by_outside_changes change = record { gives = stream.gives }

-- ---- opening

-- a folder that leads to a directory is opened, unless the call fails
pub directory_is_opened : (disk : Volume) (folder : Path) (entries : List Entry) → opened (tree_of disk.state) folder ≡ Ok entries
    → fails_now disk (asks.OpenDir folder) ≡ false
    → answer_now disk (asks.OpenDir folder) ≡ answers.Dir (least_closed disk.streams)
directory_is_opened disk folder entries opens unfailed =
    ap (λ b. cond b (answers.Refused errors.Failed) (dir_answer (least_closed disk.streams) (opened (tree_of disk.state) folder))) unfailed
    ∙ ap (dir_answer (least_closed disk.streams)) opens

-- an opening that gave a stream didn't fail, and its folder led to a directory
record Opening (fails : Bool) (number : ℕ) (told : Result (List Entry) Refusal) (dir : ℕ) : Type 0 where
  entries : List Entry
  unfailed : fails ≡ false
  fixed : told ≡ Ok entries
  least : number ≡ dir

opening_by : (fails : Bool) (number : ℕ) (told : Result (List Entry) Refusal) (dir : ℕ)
    → cond fails (answers.Refused errors.Failed) (dir_answer number told) ≡ answers.Dir dir → Opening fails number told dir
opening_by true number told dir is = absurd (cc)
opening_by false number (Ok entries) dir is = record { entries = entries; unfailed = refl; fixed = refl; least = cc }
opening_by false number (Err refusal) dir is = absurd (cc)

module _ (disk : Volume) (folder : Path) (dir : ℕ) (is : answer_now disk (asks.OpenDir folder) ≡ answers.Dir dir) where
  opening : Opening (fails_now disk (asks.OpenDir folder)) (least_closed disk.streams) (opened (tree_of disk.state) folder) dir
  opening = opening_by (fails_now disk (asks.OpenDir folder)) (least_closed disk.streams) (opened (tree_of disk.state) folder) dir is

  streams_opened : (after_ask disk (asks.OpenDir folder)).streams ≡ with_opened disk.streams dir opening.entries
  streams_opened =
      left_by disk (asks.OpenDir folder)
      ∙ ap (λ b. cond b disk.streams (after_opening disk.streams (opened (tree_of disk.state) folder))) opening.unfailed
      ∙ ap (after_opening disk.streams) opening.fixed
      ∙ ap (λ n. with_opened disk.streams n opening.entries) opening.least

  pub stream_is_opened : IsOpened disk folder dir
  stream_is_opened = record {
    entries = opening.entries;
    fixed = opening.fixed;
    was_free = ap (still_gives disk.streams) (sym opening.least) ∙ least_closed_is_free disk.streams;
    after = record { gives = ap (λ (s : Streams). still_gives s dir) streams_opened ∙ get-insert_same disk.streams.open_dirs dir opening.entries };
  }

  -- a stream that is open already is another one
  pub new_stream_is_another : (other : ℕ) (coming : List Entry) → IsOpenStream disk other coming → dir ≢ other
  new_stream_is_another other coming stream same =
      let both : None ≡ Some coming = sym stream_is_opened.was_free ∙ ap (still_gives disk.streams) same ∙ stream.gives in cc

-- ---- reading and closing

module _ (disk : Volume) (dir : ℕ) (coming : List Entry) (stream : IsOpenStream disk dir coming) where
  reads : (fails : Bool) → fails_now disk (asks.NextEntry dir) ≡ fails → IsRead disk dir coming
  reads true fails = record {
    left = coming;
    next = subst (λ (a : DiskAnswer). GivesNext coming a coming) (sym (answered fails)) refl;
    after = record { gives = ap (λ (s : Streams). still_gives s dir) (left_by disk (asks.NextEntry dir) ∙ kept fails) ∙ stream.gives };
  }
    where
      answered : fails_now disk (asks.NextEntry dir) ≡ true → answer_now disk (asks.NextEntry dir) ≡ answers.Refused errors.Failed
      answered fails = ap (λ b. cond b (answers.Refused errors.Failed) (entry_answer (still_gives disk.streams dir))) fails

      kept : fails_now disk (asks.NextEntry dir) ≡ true
          → cond (fails_now disk (asks.NextEntry dir)) disk.streams (streams_after (tree_of disk.state) disk.streams (asks.NextEntry dir)) ≡ disk.streams
      kept fails = ap (λ b. cond b disk.streams (streams_after (tree_of disk.state) disk.streams (asks.NextEntry dir))) fails
  reads false unfailed = by coming refl
    where
      answered : answer_now disk (asks.NextEntry dir) ≡ entry_answer (Some coming)
      answered = ap (λ b. cond b (answers.Refused errors.Failed) (entry_answer (still_gives disk.streams dir))) unfailed ∙ ap entry_answer stream.gives

      taken : (after_ask disk (asks.NextEntry dir)).streams ≡ after_taking disk.streams dir (Some coming)
      taken =
          left_by disk (asks.NextEntry dir)
          ∙ ap (λ b. cond b disk.streams (after_taking disk.streams dir (still_gives disk.streams dir))) unfailed
          ∙ ap (after_taking disk.streams dir) stream.gives

      by : (entries : List Entry) → coming ≡ entries → IsRead disk dir coming
      by [] none = record {
        left = [];
        next = subst (λ (a : DiskAnswer). GivesNext coming a []) (sym (answered ∙ ap (λ es. entry_answer (Some es)) none)) (none, refl);
        after = record {
          gives = ap (λ (s : Streams). still_gives s dir) (taken ∙ ap (λ es. after_taking disk.streams dir (Some es)) none) ∙ stream.gives ∙ ap Some none;
        };
      }
      by (entry ∷ rest) more = record {
        left = rest;
        next = subst (λ (a : DiskAnswer). GivesNext coming a rest) (sym (answered ∙ ap (λ es. entry_answer (Some es)) more)) more;
        after = record {
          gives =
              ap (λ (s : Streams). still_gives s dir) (taken ∙ ap (λ es. after_taking disk.streams dir (Some es)) more)
              ∙ get-insert_same disk.streams.open_dirs dir rest;
        };
      }

  -- the next call on a stream is answered by what it still gives: its first entry, its end, or that the call failed
  pub stream_gives_what_is_coming : IsRead disk dir coming
  stream_gives_what_is_coming = reads (fails_now disk (asks.NextEntry dir)) refl

-- a close is never refused
pub close_is_done : (disk : Volume) (dir : ℕ) → answer_now disk (asks.CloseDir dir) ≡ answers.Done
unfolding answer_of
close_is_done disk dir = refl

-- a stream that was closed gives nothing: no stream has its number
pub closed_stream_is_gone : (disk : Volume) (dir : ℕ) → still_gives (after_ask disk (asks.CloseDir dir)).streams dir ≡ None
unfolding after_ask
closed_stream_is_gone disk dir = get-remove_same disk.streams.open_dirs dir
