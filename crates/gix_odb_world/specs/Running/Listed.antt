-- What the disk answered a handle since it began to list folders of packs: each answer at some moment, and while the tree stayed the same, all by
-- that tree. No public clause needs more of it than its name.
use Rattle.std.specs.Prelude.{◌≡◌, ℕ, List, [], ◌∷◌, length}
use Rattle.odb_disk.specs.MemDisk.{Volume}
use Rattle.odb_disk.specs.declared.ask.DiskAnswer.{DiskAnswer}
use Rattle.odb_disk.specs.declared.ask.DiskAsk.{DiskAsk}
use Rattle.odb_disk.specs.Tree.{Tree}
use Rattle.odb_disk.specs.declared.entry.Entry.{Entry}
use Rattle.gix_odb_events.specs.declared.answer.Answer.TheVariants as told
use Rattle.gix_odb_events.specs.declared.answer.Ask.TheVariants as asks
use Rattle.gix_odb.specs.LookExchanges.{Exchange, WasTold}
use Rattle.gix_odb.specs.ListedFiles.{IsToldOfTree}
use Rattle.gix_odb.specs.Moments.{Throughout}
use Rattle.gix_odb_history.specs.Event.{Event}
use Rattle.gix_odb_history.specs.Run.{tree_at}
use Rattle.gix_odb_world.specs.Running.Query.{IsGiven}
use Rattle.gix_odb_world.specs.Told.{told_since}

-- One tree answers the calls of exchanges. At first these entries are to come from the open stream, and those are left in the end.
abbrev pub AreOfTreeTo : Tree → (coming : List Entry) → List Exchange → (left : List Entry) → Type 0
AreOfTreeTo tree coming [] left = left ≡ coming
AreOfTreeTo tree coming (exchange ∷ exchanges) left =
    (between : List Entry) × IsToldOfTree tree coming exchange.ask exchange.answer between × AreOfTreeTo tree between exchanges left

-- the disk gave each answer since the handle began, and a tree that was there at every moment gave them all
pub record AreGiven (first : Volume) (events : List Event) (handle begun : ℕ) : Type 0 where
  pub given : (ask : DiskAsk) (answer : DiskAnswer) → WasTold (told_since events handle begun) (asks.Disk ask) (told.Disk answer)
      → IsGiven first events handle begun ask answer
  pub of_tree : (tree : Tree) → Throughout begun (length events) (λ moment. tree_at first events moment ≡ tree)
      → (left : List Entry) × AreOfTreeTo tree [] (told_since events handle begun) left
