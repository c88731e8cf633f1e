-- How many calls of the disk a write from a source has left: fewer after each turn.
use Rattle.std.specs.Prelude.{◌≡◌, ◌≢◌, ℕ, ◌+◌, ◌-◌, ◌<◌, ◌≤◌, Bool, true, false, nat_le, List, [], ◌∷◌, length, Option, None, Result, Ok, Err, IfOk, if◌then◌else◌, refl}
use Rattle.std.proofs.Common.{sym, ap, ◌∙◌, subst, arith}
use Rattle.odb_disk.specs.Tree.{State}
use Rattle.odb_disk.specs.declared.ask.DiskAnswer.{DiskAnswer}
use Rattle.odb_disk.specs.declared.ask.DiskAnswer.TheVariants as answers
use Rattle.gix_hash.specs.declared.object_id.ObjectId.{ObjectId}
use Rattle.gix_odb_loose.specs.Exchanges.{Exchange}
use Rattle.gix_odb_loose.specs.StreamJobs.AtStage.{calls_left, most_of, written_at}
use Rattle.gix_odb_loose.specs.StreamJobs.Progress.{Begun}
use Rattle.gix_odb_loose.specs.StreamJobs.Standing.{StandsAt}
use Rattle.gix_odb_loose.specs.WriteJobs.{pieces_of, writes_left}
use Rattle.gix_odb_loose.specs.WriteOrder.{ended_with, filled_by, grown, next_write}
use Rattle.gix_odb_loose.specs.WritePieces.{piece_size, room_behind}
use Rattle.gix_odb_loose.specs.declared.write.Message.TheVariants as messages
use Rattle.gix_odb_loose.specs.declared.write_streamed.StreamJob.{StreamJob}
use Rattle.gix_odb_loose.specs.declared.write_order.Refusal.{Refusal}
use Rattle.gix_odb_loose.specs.declared.write_order.Refusal.TheVariants as refusals
use Rattle.gix_odb_loose.specs.declared.write_order.WriteAsk.{WriteAsk}
use Rattle.gix_odb_loose.specs.declared.write_order.WriteAsk.TheVariants as wants
use Rattle.gix_odb_loose.specs.declared.write_order.WriteHead.{WriteHead}
use Rattle.gix_odb_loose.specs.declared.write_order.WriteStage.{WriteStage}
use Rattle.gix_odb_loose.specs.declared.write_order.WriteStage.TheVariants as stages
use Rattle.gix_odb_loose.proofs.RoomLemmas.{room_within, whole_piece}
use Rattle.gix_odb_loose.proofs.WriteJobsLemmas.{LeavesFewer, fewer_left, ended_fewer}

-- ---- how many bytes there can be

open_most : (job : StreamJob) (written : ℕ) → job.has_ended ≡ false → most_of job written ≡ job.head.size + 1
open_most job written open' = ap (λ (b : Bool). if b then written + length job.piece else job.head.size + 1) open'

ended_most : (job : StreamJob) (written : ℕ) → job.has_ended ≡ true → most_of job written ≡ written + length job.piece
ended_most job written ended = ap (λ (b : Bool). if b then written + length job.piece else job.head.size + 1) ended

some_bytes : (piece : List ℕ) → piece ≢ [] → 1 ≤ length piece
some_bytes [] some = absurd (some refl)
some_bytes (b ∷ bs) some = omega arith

-- ---- a call of the disk

module _ (job fed : StreamJob) (head : fed.head ≡ job.head) (ended : fed.has_ended ≡ job.has_ended) (none : fed.piece ≡ []) where
  abbrev size : ℕ
  size = job.head.size

  size_is : fed.head.size ≡ size
  size_is = ap (λ (h : WriteHead). h.size) head

  -- while the source isn't at its end
  less_open : (stage : WriteStage) (len : ℕ) (answer : DiskAnswer) → job.has_ended ≡ false → LeavesFewer (size + 1) size stage len
      → calls_left fed (next_write size len stage answer) < calls_left job (wants.Disk stage)
  less_open stage len answer open' leaves =
      let wanted : WriteAsk = next_write size len stage answer in
      let fewer : writes_left (size + 1) wanted < writes_left (size + 1) (wants.Disk stage) = fewer_left (size + 1) size stage len answer leaves in
      subst (λ (n : ℕ). writes_left (most_of fed (written_at wanted)) wanted < writes_left n (wants.Disk stage)) (sym (open_most job (written_at (wants.Disk stage)) open'))
      (subst (λ (n : ℕ). writes_left n wanted < writes_left (size + 1) (wants.Disk stage)) (sym (open_most fed (written_at wanted) (ended ∙ open') ∙ ap (λ (n : ℕ). n + 1) size_is)) fewer)

  module _ (number written len : ℕ) (last : job.has_ended ≡ true) (len_is : len ≡ length job.piece) (some : 1 ≤ len) where
    -- the last piece
    most_last : most_of job written ≡ written + len
    most_last = ended_most job written last ∙ ap (λ (n : ℕ). written + n) (sym len_is)

    waits_last : calls_left fed (wants.Data number (written + len)) ≡ 4
    waits_last = ap (λ (n : ℕ). 4 + pieces_of (n - (written + len))) (ended_most fed (written + len) (ended ∙ last) ∙ ap (λ (xs : List ℕ). written + len + length xs) none) ∙ omega arith

    less_fits : (fits : Bool) → calls_left fed (if fits then wants.Data number (written + len) else wants.Disk (stages.Removing number (refusals.SizeMismatch (grown written len)))) ≤ 4
    less_fits true = omega (arith, waits_last)
    less_fits false = omega arith

    less_last : (answer : DiskAnswer) → calls_left fed (filled_by number written size len answer) ≤ 4
    less_last answers.Done = less_fits (nat_le (written + len) size)
    less_last (answers.Meta meta) = omega arith
    less_last (answers.Dir dir) = omega arith
    less_last (answers.Entry entry) = omega arith
    less_last answers.End = omega arith
    less_last (answers.File bytes time) = omega arith
    less_last (answers.Refused error) = omega arith

    less_ended : (answer : DiskAnswer) → calls_left fed (filled_by number written size len answer) < calls_left job (wants.Disk (stages.Filling number written))
    less_ended answer =
        let few = less_last answer in
        subst (λ (n : ℕ). calls_left fed (filled_by number written size len answer) < 4 + pieces_of (n - written)) (sym most_last) (omega (arith, few, some))

  -- once the data are appended
  settled_less : (stage : WriteStage) (len : ℕ) (answer : DiskAnswer) (left : ℕ) → ((n : ℕ) → writes_left n (wants.Disk stage) ≡ left)
      → LeavesFewer (most_of fed (written_at (next_write size len stage answer))) size stage len
      → calls_left fed (next_write size len stage answer) < calls_left job (wants.Disk stage)
  settled_less stage len answer left is leaves =
      let most : ℕ = most_of fed (written_at (next_write size len stage answer)) in
      let fewer : calls_left fed (next_write size len stage answer) < writes_left most (wants.Disk stage) = fewer_left most size stage len answer leaves in
      let here : writes_left most (wants.Disk stage) ≡ left = is most in
      let there : calls_left job (wants.Disk stage) ≡ left = is (most_of job (written_at (wants.Disk stage))) in
      omega (arith, fewer, here, there)

  -- a whole piece
  whole_fewer : (number written len : ℕ) → len ≡ room_behind size written → LeavesFewer (size + 1) size (stages.Filling number written) len
  whole_fewer number written len full = λ fits.
      let whole : len ≡ piece_size = whole_piece size written len full fits in
      omega (arith, whole, fits)

  by_end : (number written len : ℕ) (answer : DiskAnswer) → len ≡ length job.piece → 1 ≤ len → (job.has_ended ≡ false → len ≡ room_behind size written) → (b : Bool) → job.has_ended ≡ b
      → calls_left fed (filled_by number written size len answer) < calls_left job (wants.Disk (stages.Filling number written))
  by_end number written len answer len_is some full true last = less_ended number written len last len_is some answer
  by_end number written len answer len_is some full false open' = less_open (stages.Filling number written) len answer open' (whole_fewer number written len (full open'))

  module _ (w : Begun) (state : Option State) (now : ℕ) (past : List Exchange) (rest : Option (List ℕ)) (source_now : ℕ) (len : ℕ) (len_is : len ≡ length job.piece) (answer : DiskAnswer) where
    turn_less : (stage : WriteStage) → StandsAt w state now past rest source_now job stage → calls_left fed (next_write size len stage answer) < calls_left job (wants.Disk stage)
    turn_less (stages.Making number) at = less_open (stages.Making number) len answer at.holds.1 tt
    turn_less (stages.Heading number) at = less_open (stages.Heading number) len answer at.holds.1 tt
    turn_less (stages.Filling number written) at =
        by_end number written len answer len_is (let one = some_bytes job.piece at.holds.1.some in omega (arith, one, len_is))
        (λ open'. len_is ∙ at.holds.1.full open' ∙ ap (λ (h : WriteHead). room_behind h.size written) (sym at.head)) job.has_ended refl
    turn_less (stages.Foldering number id) at = settled_less (stages.Foldering number id) len answer 3 (λ n. refl) tt
    turn_less (stages.Moving number id) at = settled_less (stages.Moving number id) len answer 2 (λ n. refl) tt
    turn_less (stages.Removing number refusal) at = settled_less (stages.Removing number refusal) len answer 1 (λ n. refl) tt

-- in the form of the code
pub turn_fewer : (w : Begun) (state : Option State) (now : ℕ) (past : List Exchange) (rest : Option (List ℕ)) (source_now : ℕ) (job fed : StreamJob) (stage : WriteStage) (answer : DiskAnswer) (len : ℕ) (wanted : WriteAsk)
    → StandsAt w state now past rest source_now job stage
    → len ≡ length job.piece → fed ≡ record job { piece = [] } → wanted ≡ next_write fed.head.size len stage answer → calls_left fed wanted < calls_left job (wants.Disk stage)
turn_fewer w state now past rest source_now job fed stage answer len wanted at len_is same is =
    let head : fed.head ≡ job.head = ap (λ (j : StreamJob). j.head) same in
    subst (λ (a : WriteAsk). calls_left fed a < calls_left job (wants.Disk stage)) (sym (is ∙ ap (λ (h : WriteHead). next_write h.size len stage answer) head))
    (turn_less job fed head (ap (λ (j : StreamJob). j.has_ended) same) (ap (λ (j : StreamJob). j.piece) same) w state now past rest source_now len len_is answer stage at)

-- ---- the reading of data

module _ (job new : StreamJob) (number written : ℕ) where
  -- the end of the data, or a failure
  pub ended_less : (size : ℕ) (id : ObjectId) → new.stage ≡ ended_with size id number written → calls_left new (wants.Disk new.stage) ≤ calls_left job (wants.Data number written)
  ended_less size id is =
      let few = ended_fewer (most_of new (written_at (wants.Disk (ended_with size id number written)))) size id number written in
      subst (λ (s : WriteStage). calls_left new (wants.Disk s) ≤ calls_left job (wants.Data number written)) (sym is) (omega (arith, few))

  pub failed_less : new.stage ≡ stages.Removing number (refusals.Io messages.StreamData) → calls_left new (wants.Disk new.stage) ≤ calls_left job (wants.Data number written)
  failed_less is = subst (λ (s : WriteStage). calls_left new (wants.Disk s) ≤ calls_left job (wants.Data number written)) (sym is) (omega arith)

  most_by : (ended : Bool) → written + length new.piece ≤ job.head.size + 1 → new.head.size ≡ job.head.size → (if ended then written + length new.piece else new.head.size + 1) ≤ job.head.size + 1
  most_by true few same = few
  most_by false few same = omega (arith, same)

  -- a piece
  pub piece_less : (most : ℕ) → most ≡ room_behind job.head.size written → written ≤ job.head.size → job.has_ended ≡ false → new.head ≡ job.head → length new.piece ≤ most
      → new.stage ≡ stages.Filling number written
      → calls_left new (wants.Disk new.stage) ≤ calls_left job (wants.Data number written)
  piece_less most room within open' head few is =
      let whole = room_within job.head.size written within in
      let at_most : most_of new written ≤ most_of job written =
      subst (λ (n : ℕ). most_of new written ≤ n) (sym (open_most job written open')) (most_by new.has_ended (omega (arith, whole, room, few)) (ap (λ (h : WriteHead). h.size) head)) in
      subst (λ (s : WriteStage). calls_left new (wants.Disk s) ≤ calls_left job (wants.Data number written)) (sym is) (omega (arith, at_most))

-- a turn is a call of the disk, and what is read after its answer
pub fewer_on : {E : Type 0} (left wanted first : ℕ) (result : Result (Option (Result ObjectId Refusal)) E) → IfOk result (λ end. end ≡ None → left ≤ wanted) → wanted < first
    → IfOk result (λ end. end ≡ None → left < first)
fewer_on left wanted first (Ok end) least less = λ e. let few = least e in omega (arith, few, less)
fewer_on left wanted first (Err error) least less = tt
