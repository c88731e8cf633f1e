-- What a write has done stays done over the steps of others.
use Rattle.std.proofs.Common.{◌≡◌, ℕ, ◌+◌, ◌<◌, ◌≤◌, List, [], ◌∷◌, ◌++◌, length, take, Contains, Some, None, Option, refl, sym, ap, ◌∙◌, subst, arith, inl, inr}
use Rattle.std.specs.Prelude.{true}
use Rattle.std.proofs.lemmas.List.{take-append-le, length_push}
use Rattle.std.proofs.lemmas.Option.{slice_get_within}
use Rattle.std.proofs.Math.Seq.{take-append_seam}
use Rattle.odb_base.specs.Path.{Path}
use Rattle.odb_disk.specs.Ask.{answer_now}
use Rattle.odb_disk.specs.MemDisk.{Volume}
use Rattle.odb_disk.specs.Tree.{Tree}
use Rattle.odb_disk.specs.Tree.Way.{SameOnWay}
use Rattle.odb_disk.specs.declared.change.Change.{Change}
use Rattle.odb_disk.specs.declared.ask.DiskAnswer.{DiskAnswer}
use Rattle.odb_disk.specs.declared.ask.DiskAsk.{DiskAsk}
use Rattle.odb_disk.specs.OwnFile.{HasFile}
use Rattle.odb_disk.proofs.OwnFileLaws.{has_file_kept}
use Rattle.gix_odb_loose.specs.Exchanges.{Exchange}
use Rattle.gix_odb_loose.specs.WriteAsks.{write_of}
use Rattle.gix_odb_loose.specs.WriteOrder.{temp_path, number_made}
use Rattle.gix_odb_loose.proofs.AskLaws.{IsAlong-start}
use Rattle.gix_odb_loose.specs.declared.write_order.WriteStage.{WriteStage}
use Rattle.gix_odb_loose.specs.declared.write_order.WriteStage.TheVariants as write_stages
use Rattle.gix_odb_history.specs.Event.{OfDisk, Event}
use Rattle.gix_odb_history.specs.Run.{IsTurnOf, TellsCall, disk_after, tree_at}
use Rattle.gix_odb_world.specs.Running.Write.{HoldsFile, Holds, IsUntouched, StandsAt, content_at}
use Rattle.gix_odb_history.specs.Writing.{AskedAt, AskedSince, ChangedNothing, EachTurn, IsNewFile, IsRename, LeftAlone, ToWrite, head_to_write}
use Rattle.gix_odb_world.proofs.HistoryLemmas.{slice_get-push, slice_get-last, slice_get-kept, tree_at-before}

-- ---- one more event

module _ (first : Volume) (events : List Event) (e : Event) where
  abbrev whole : List Event
  whole = events ++ e ∷ []

  pub asked_at_kept : (handle place : ℕ) (ask : DiskAsk) (answer : DiskAnswer) → AskedAt first events handle place ask answer
      → AskedAt first whole handle place ask answer
  asked_at_kept handle place ask answer a =
      let within : place < length events = slice_get_within events place a.event a.there in
      let same : take place whole ≡ take place events = take-append-le place events (e ∷ []) (omega (arith, within)) in
      record {
        event = a.event;
        there = slice_get-kept events e place a.event a.there;
        turn = a.turn;
        did = subst (λ es. TellsCall (disk_after first es) ask a.event.entry.did) (sym same) a.did;
        asked = a.asked;
        given = a.given ∙ ap (λ es. answer_now (disk_after first es) ask) (sym same);
      }

  pub asked_kept : (handle begun : ℕ) (ask : DiskAsk) (answer : DiskAnswer) → AskedSince first events handle begun ask answer
      → AskedSince first whole handle begun ask answer
  asked_kept handle begun ask answer a = record { place = a.place; later = a.later; at = asked_at_kept handle a.place ask answer a.at }

  -- the last event's own call
  pub asked_now : (handle : ℕ) (ask : DiskAsk) (answer : DiskAnswer) → IsTurnOf handle e
      → TellsCall (disk_after first events) ask e.entry.did
      → e.asked ≡ OfDisk ask answer → answer ≡ answer_now (disk_after first events) ask → AskedAt first whole handle (length events) ask answer
  asked_now handle ask answer turn did asked given =
      let same : take (length events) whole ≡ events = take-append_seam events (e ∷ []) in
      record {
        event = e;
        there = slice_get-last events e;
        turn = turn;
        did = subst (λ es. TellsCall (disk_after first es) ask e.entry.did) (sym same) did;
        asked = asked;
        given = given ∙ ap (λ es. answer_now (disk_after first es) ask) (sym same);
      }

  -- the steps of others so far left a path alone
  pub alone_before : (handle : ℕ) (path : Path) (from to : ℕ) → length events ≤ to → LeftAlone first whole handle path from to
      → LeftAlone first events handle path from (length events)
  alone_before handle path from to long alone place x later within there other =
      let old : tree_at first whole place ≡ tree_at first events place = tree_at-before first events e place (omega (arith, within)) in
      let new : tree_at first whole (place + 1) ≡ tree_at first events (place + 1) = tree_at-before first events e (place + 1) (omega (arith, within)) in
      subst (λ (t : Tree). SameOnWay t (tree_at first events (place + 1)) true path) old
      (subst (λ (u : Tree). SameOnWay (tree_at first whole place) u true path) new
      (alone place x later (omega (arith, within, long)) (slice_get-kept events e place x there) other))

  -- as did the last one
  pub alone_now : (handle : ℕ) (path : Path) (from : ℕ) → from ≤ length events → ¬ (IsTurnOf handle e)
      → LeftAlone first whole handle path from (length whole)
      → SameOnWay (tree_at first events (length events)) (tree_at first whole (length events + 1)) true path
  alone_now handle path from soon other alone =
      subst (λ (t : Tree). SameOnWay t (tree_at first whole (length events + 1)) true path) (tree_at-before first events e (length events) (omega arith))
      (alone (length events) e soon (omega (arith, length_push events e)) (slice_get-last events e) other)

  -- a file that nobody touched is still there
  holds_kept : (handle begun : ℕ) (path : Path) (bytes : List ℕ) → ¬ (IsTurnOf handle e) → HoldsFile first events handle begun path bytes
      → HoldsFile first whole handle begun path bytes
  holds_kept handle begun path bytes other h =
      let within : h.made < length events = slice_get_within events h.made h.makes.event h.makes.there in
      record {
        made = h.made;
        later = h.later;
        makes = asked_at_kept handle h.made _ _ h.makes;
        holds = λ alone.
            let before = h.holds (alone_before handle path (h.made + 1) (length whole) (omega (arith, length_push events e)) alone) in
            let after : HasFile (tree_at first whole (length events + 1)) path before.0 bytes 0 =
            has_file_kept (tree_at first events (length events)) (tree_at first whole (length events + 1)) path before.0 bytes 0
            (alone_now handle path (h.made + 1) (omega (arith, within)) other alone) before.1 in
            (before.0, subst (λ n. HasFile (tree_at first whole n) path before.0 bytes 0) (sym (length_push events e)) after);
      }

  holds_push : (handle begun : ℕ) (objects : Path) (number : Option ℕ) (bytes : Option (List ℕ)) → ¬ (IsTurnOf handle e)
      → Holds first events handle begun objects number bytes → Holds first whole handle begun objects number bytes
  holds_push handle begun objects (Some number) (Some bytes) other h = holds_kept handle begun (temp_path objects number) bytes other h
  holds_push handle begun objects (Some number) None other h = tt
  holds_push handle begun objects None bytes other h = tt

-- each turn so far, and the last event where it is one
pub each_turn_push : (events : List Event) (e : Event) (handle begun : ℕ) (Q : Event → Type 0) → EachTurn events handle begun Q
    → (IsTurnOf handle e → Q e) → EachTurn (events ++ e ∷ []) handle begun Q
each_turn_push events e handle begun Q each here place x later there turn =
    elim (slice_get-push events e place x there) [
      | inl old ↦ each place x later old.1 turn
      | inr last ↦ subst Q last.1 (here (subst (λ (y : Event). IsTurnOf handle y) (sym last.1) turn))
    ]

-- there is no turn yet in a call that begins with the last event
pub each_turn_none : (events : List Event) (handle begun : ℕ) (Q : Event → Type 0) → length events ≤ begun → EachTurn events handle begun Q
each_turn_none events handle begun Q short place x later there turn = absurd (omega (arith, short, later, slice_get_within events place x there))

untouched_push : (events : List Event) (e : Event) (handle begun : ℕ) (number : Option ℕ) → ¬ (IsTurnOf handle e)
    → IsUntouched events handle begun number → IsUntouched (events ++ e ∷ []) handle begun number
untouched_push events e handle begun None other each = each_turn_push events e handle begun _ each (λ turn. absurd (other turn))
untouched_push events e handle begun (Some number) other each = tt

-- ---- a running write

nothing_among : (x : Exchange) → ¬ (Contains [] x)
nothing_among x (k, within, is) = omega (arith, within)

-- a write whose handle has changed nothing yet has done nothing
pub stands_at_first : (first : Volume) (events : List Event) (handle begun : ℕ) (w : ToWrite) → ChangedNothing events handle begun
    → StandsAt first events handle begun 0 w (write_stages.Making 0)
stands_at_first first events handle begun w unchanged = record {
  past = [];
  along = IsAlong-start (write_of (head_to_write w) w.hash w.known w.bytes);
  had = refl;
  asked = λ x among. absurd (nothing_among x among);
  unnamed = λ place x later there turn. subst (λ (change : Option Change). ¬ (IsRename change)) (sym (unchanged place x later there turn)) (λ never. never);
  made = λ place x later there turn new. absurd (subst IsNewFile (unchanged place x later there turn) new);
  untouched = unchanged;
  holds = tt;
}

-- nothing was changed where the last event changed nothing
pub unchanged_push : (events : List Event) (e : Event) (handle begun : ℕ) → ChangedNothing events handle begun → (IsTurnOf handle e → e.entry.change ≡ None)
    → ChangedNothing (events ++ e ∷ []) handle begun
unchanged_push events e handle begun unchanged here = each_turn_push events e handle begun (λ x. x.entry.change ≡ None) unchanged here

-- what a write knows still holds after an event that isn't its turn, whatever came before it
pub stands_push : (first : Volume) (events : List Event) (e : Event) (handle begun own : ℕ) (w : ToWrite) (stage : WriteStage)
    → ¬ (IsTurnOf handle e)
    → StandsAt first events handle begun own w stage → StandsAt first (events ++ e ∷ []) handle begun own w stage
stands_push first events e handle begun own w stage other stands =
    record {
      past = stands.past;
      along = stands.along;
      had = stands.had;
      asked = λ x among. asked_kept first events e handle begun x.ask x.answer (stands.asked x among);
      unnamed = each_turn_push events e handle begun _ stands.unnamed (λ turn. absurd (other turn));
      made = each_turn_push events e handle begun _ stands.made (λ turn. absurd (other turn));
      untouched = untouched_push events e handle begun (number_made stage) other stands.untouched;
      holds = holds_push first events e handle begun w.objects (number_made stage) (content_at w stage) other stands.holds;
    }
