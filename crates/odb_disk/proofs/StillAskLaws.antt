-- Laws of the calls that aren't on streams: a disk in memory counts them, its tree alone answers them, and they change no
-- stream. For callers.
use Rattle.std.specs.Prelude.{if◌then◌else◌, ◌&&◌}
use Rattle.std.proofs.Common.{◌≡◌, Bool, true, false, cond, refl, sym, ap, ◌∙◌}
use Rattle.odb_disk.specs.Tree.{tree_of}
use Rattle.odb_disk.specs.Tree.Write.{written}
use Rattle.odb_disk.specs.MemDisk.{Volume, after_call, next_fails}
use Rattle.odb_disk.specs.StreamAsks.{is_of_streams}
use Rattle.odb_disk.specs.Ask.{answer_in, answer_now, answer_of, change_of_ask, is_counted, fails_now, after_ask}
use Rattle.odb_disk.specs.declared.ask.DiskAsk.{DiskAsk}
use Rattle.odb_disk.specs.declared.ask.DiskAsk.TheVariants as asks
use Rattle.odb_disk.specs.declared.ask.DiskAnswer.{DiskAnswer}
use Rattle.odb_disk.specs.declared.ask.DiskAnswer.TheVariants as answers
use Rattle.odb_disk.specs.declared.disk_error.DiskError.TheVariants as errors
use Rattle.odb_disk.proofs.MemDiskLemmas.{after_call-streams}
use Rattle.odb_disk.proofs.StreamAsksLemmas.{answer_in-still, streams_after-still}

pub counted-still : (ask : DiskAsk) → is_of_streams ask ≡ false → is_counted ask ≡ true
counted-still (asks.Look path follow) still = refl
counted-still (asks.Read path) still = refl
counted-still (asks.OpenDir path) still = refl
counted-still (asks.NextEntry dir) still = refl
counted-still (asks.CloseDir dir) still = absurd (cc)
counted-still (asks.MakeDir path) still = refl
counted-still (asks.NewFile path) still = refl
counted-still (asks.Append path bytes) still = refl
counted-still (asks.Rename from to) still = refl
counted-still (asks.Remove path) still = refl

either_same : {A : Type 0} (b : Bool) (x : A) → cond b x x ≡ x
either_same true x = refl
either_same false x = refl

module _ (disk : Volume) (ask : DiskAsk) (still : is_of_streams ask ≡ false) where
  fails-still : fails_now disk ask ≡ next_fails disk
  fails-still = ap (λ b. b && next_fails disk) (counted-still ask still)

  pub answer_now-still : answer_now disk ask ≡ (if next_fails disk then answers.Refused errors.Failed else answer_of (tree_of disk.state) ask)
  answer_now-still =
      ap (λ b. cond b (answers.Refused errors.Failed) (answer_in (tree_of disk.state) disk.streams ask)) fails-still
      ∙ ap (λ (a : DiskAnswer). cond (next_fails disk) (answers.Refused errors.Failed) a) (answer_in-still (tree_of disk.state) disk.streams ask still)

  pub after_ask-still : after_ask disk ask ≡ record (after_call disk) { state = if next_fails disk then disk.state else written disk.state (change_of_ask (tree_of disk.state) ask) }
  unfolding after_ask
  after_ask-still =
      let fails = fails-still in
      let counts = ap (λ b. cond b (after_call disk) disk) (counted-still ask still) in
      let left = ap (cond (fails_now disk ask) disk.streams) (streams_after-still (tree_of disk.state) disk.streams ask still)
      ∙ either_same (fails_now disk ask) disk.streams ∙ sym (after_call-streams disk) in
      λ i. record { state = cond (fails i) disk.state (written disk.state (change_of_ask (tree_of disk.state) ask)); streams = left i; calls = (counts i).calls }
