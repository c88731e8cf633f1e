-- What is asked for while the indices of a list are tried.
use Rattle.gix_pack_read.specs.FileBytes.{FileBytes}
use Rattle.gix_odb_events.specs.declared.event.Event.TheVariants as events
use Rattle.gix_odb_events.specs.declared.event.PassWhy.TheVariants as whys
use Rattle.gix_odb_events.specs.declared.answer.Ask.{Ask}
use Rattle.gix_odb_events.specs.declared.answer.Ask.TheVariants as asks
use Rattle.gix_odb_search.specs.LoadOrder as load
use Rattle.gix_odb_search.specs.LoadOrder.{pass_of, read_of}
use Rattle.gix_odb_search.specs.declared.search.WantedPack.{WantedPack}
use Rattle.gix_odb_search.specs.declared.trier.Stage.{Stage}
use Rattle.gix_odb_search.specs.declared.trier.Stage.TheVariants as stages
use Rattle.gix_odb_search.specs.declared.trier.Trier.{Trier}

abbrev pub put_pack : WantedPack → FileBytes → Ask
put_pack pack file = asks.Core (events.PutPack (record { index = pack.slot; multipack_index = pack.place }) pack.path file)

-- an index is loaded; a pack is read, and then stored if it is one, or passed over if it is absent
abbrev pub ask_at : Stage → Ask
ask_at (stages.Loading loader) = load.ask_of loader
ask_at (stages.ReadingPack pack) = read_of pack.path
ask_at (stages.StoringPack pack file) = put_pack pack file
ask_at (stages.PassingPack pack) = pass_of pack.slot pack.path whys.Absent

abbrev pub ask_of : Trier → Ask
ask_of trier = ask_at trier.stage
