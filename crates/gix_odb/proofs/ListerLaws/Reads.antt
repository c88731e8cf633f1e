-- A listing changes nothing, and its calls on streams are on its own.
use Rattle.std.proofs.Common.{◌≡◌, List, None, refl}
use Rattle.odb_base.specs.Path.{Path}
use Rattle.odb_disk.specs.Ask.{change_of_ask}
use Rattle.odb_disk.specs.declared.ask.DiskAsk.TheVariants as disk_asks
use Rattle.odb_disk.specs.Tree.{Tree}
use Rattle.gix_odb_events.specs.declared.answer.Ask.{Ask}
use Rattle.gix_odb_events.specs.declared.answer.Ask.TheVariants as asks
use Rattle.gix_odb_search.specs.ListOrder as lists
use Rattle.gix_odb_search.specs.declared.lister.ListStage.{ListStage}
use Rattle.gix_odb_search.specs.declared.lister.ListStage.TheVariants as list_stages
use Rattle.gix_odb.specs.Exchange.{Exchange}
use Rattle.gix_odb.specs.Stream.{stream_from}
use Rattle.gix_odb.proofs.ListerLaws.Streams.{HasNone, IsOpen, StreamAt, Told, open_from, opened_from}

-- ---- a call of the disk that changes nothing

abbrev pub ChangesNothing : Ask → Type 0
ChangesNothing (asks.Disk ask) = (tree : Tree) → change_of_ask tree ask ≡ None
ChangesNothing ask = Unit {0}

pub lister_reads : (folder : Path) (stage : ListStage) → ChangesNothing (asks.Disk (lists.ask_at folder stage))
unfolding change_of_ask
lister_reads folder list_stages.Opening tree = refl
lister_reads folder (list_stages.Reading dir entries) tree = refl
lister_reads folder (list_stages.Closing dir entries) tree = refl
lister_reads folder (list_stages.Breaking dir) tree = refl
lister_reads folder (list_stages.Index path left) tree = refl
lister_reads folder (list_stages.Pack row left) tree = refl
lister_reads folder (list_stages.Multi left) tree = refl

-- ---- what is known of streams

-- what is known of streams after exchanges, and before any
abbrev pub told_from : Told → List Exchange → Told
told_from before exchanges =
    record { last = opened_from before.last exchanges; left = open_from before.left exchanges; stream = stream_from before.stream exchanges }

abbrev pub none_told : Told
none_told = record { last = None; left = None; stream = None }

-- ---- which stream is asked

-- the stream that a call reads or closes is open, and none is open where one is to be opened
abbrev pub AsksOwn : Told → Ask → Type 0
AsksOwn now (asks.Disk (disk_asks.OpenDir path)) = HasNone now
AsksOwn now (asks.Disk (disk_asks.NextEntry dir)) = (folder : Path) × IsOpen now folder dir
AsksOwn now (asks.Disk (disk_asks.CloseDir dir)) = (folder : Path) × IsOpen now folder dir
AsksOwn now ask = Unit {0}

pub lister_own : (now : Told) (folder : Path) (stage : ListStage) → StreamAt now folder stage → AsksOwn now (asks.Disk (lists.ask_at folder stage))
lister_own now folder list_stages.Opening own = own
lister_own now folder (list_stages.Reading dir entries) own = (folder, own)
lister_own now folder (list_stages.Closing dir entries) own = (folder, own)
lister_own now folder (list_stages.Breaking dir) own = (folder, own)
lister_own now folder (list_stages.Index path left) own = tt
lister_own now folder (list_stages.Pack row left) own = tt
lister_own now folder (list_stages.Multi left) own = tt
