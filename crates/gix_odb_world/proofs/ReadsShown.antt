-- Files that were shown, at their times or at any time; and what a handle read since its task was set was shown.
use Rattle.std.proofs.Common.{ℕ, ◌≤◌, List, length, take, Contains, sym, subst, arith}
use Rattle.std.proofs.Math.Seq.{take-length}
use Rattle.odb_base.specs.Path.{Path}
use Rattle.odb_disk.specs.MemDisk.{Volume}
use Rattle.odb_disk.specs.Tree.{Tree}
use Rattle.odb_disk.specs.declared.ask.DiskAnswer.{DiskAnswer}
use Rattle.odb_disk.specs.declared.ask.DiskAnswer.TheVariants as answers
use Rattle.odb_disk.specs.declared.ask.DiskAsk.{DiskAsk}
use Rattle.odb_disk.specs.declared.ask.DiskAsk.TheVariants as asks
use Rattle.gix_odb_events.specs.declared.answer.Answer.{Answer}
use Rattle.gix_odb_events.specs.declared.answer.Answer.TheVariants as told
use Rattle.gix_odb_events.specs.declared.answer.Ask.{Ask}
use Rattle.gix_odb_events.specs.declared.answer.Ask.TheVariants as parts
use Rattle.gix_odb.specs.Held.{WasShownAt, WasShownWith}
use Rattle.gix_odb.specs.LookExchanges.{Exchange, WasTold}
use Rattle.gix_odb.specs.Shown.{ShowedBytes}
use Rattle.gix_odb.specs.True.{IsReadShown, ShowsRead}
use Rattle.gix_odb_history.specs.Event.{Event}
use Rattle.gix_odb_history.specs.Run.{disk_after, tree_at}
use Rattle.gix_odb_world.specs.Headline.{IsLawful}
use Rattle.gix_odb_world.specs.Told.{told_since}
use Rattle.gix_odb_world.proofs.DiskTold.{read_is}
use Rattle.gix_odb_world.proofs.RunLaws.JustRead.{answered_by_law, asked_of}
use Rattle.gix_odb_world.proofs.RunLaws.ToldThen.{ToldBy, told_by_turn}

-- what was shown at one of its times was shown
pub shown_at : (trees : ℕ → Tree) (from now : ℕ) (path : Path) (bytes : List ℕ) → ShowedBytes (WasShownWith trees from now) path bytes → WasShownAt trees from now path bytes
shown_at trees from now path bytes (time, shown) = record { moment = shown.moment; from = shown.from; to = shown.to; was = (time, shown.was) }

module _ (first : Volume) (events : List Event) (lawful : IsLawful first events) (handle begun opened : ℕ) (early : opened ≤ begun) where
  abbrev Shown : Path → ℕ → List ℕ → Type 0
  Shown path time bytes = WasShownWith (tree_at first events) opened (length events) path time bytes

  read_was_shown : (ask : DiskAsk) (answer : DiskAnswer) → WasTold (told_since events handle begun) (parts.Disk ask) (told.Disk answer) → ShowsRead Shown ask answer
  read_was_shown (asks.Read path) (answers.File bytes time) among =
      let exchange : Exchange = record { ask = parts.Disk (asks.Read path); answer = told.Disk (answers.File bytes time) } in
      let turn : ToldBy events begun (length events) handle exchange =
      told_by_turn events begun (length events) handle exchange
      (subst (λ (es : List Event). Contains (told_since es handle begun) exchange) (sym (take-length events)) among) in
      let from = turn.from in
      let before = turn.before in
      record {
        moment = turn.place;
        from = omega (arith, early, from);
        to = omega (arith, before);
        was =
            read_is (disk_after first (take turn.place events)) path bytes time
            (answered_by_law first (take turn.place events) turn.event (lawful turn.place turn.event turn.there) (asks.Read path) (answers.File bytes time)
            (asked_of turn.event.asked (asks.Read path) (answers.File bytes time) turn.gave));
      }
  read_was_shown ask answer among = tt

  by : (ask : Ask) (answer : Answer) → WasTold (told_since events handle begun) ask answer → IsReadShown Shown ask answer
  by (parts.Disk ask) (told.Disk answer) among = read_was_shown ask answer among
  by ask answer among = tt

  -- what a handle read since its task was set was shown since its store was opened
  pub reads_were_shown : (exchange : Exchange) → Contains (told_since events handle begun) exchange → IsReadShown Shown exchange.ask exchange.answer
  reads_were_shown exchange among = by exchange.ask exchange.answer among
