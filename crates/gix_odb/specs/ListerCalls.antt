-- A listing by itself: the calls of its lister, and what it found of each row.
use Rattle.std.specs.Prelude.{◌≡◌, ℕ, List, [], ◌∷◌, Contains, true, false, Option, Some, None}
use Rattle.odb_disk.specs.Tree.{Tree}
use Rattle.odb_disk.specs.declared.entry.Entry.{Entry}
use Rattle.odb_disk.specs.declared.meta.Kind.TheVariants as kinds
use Rattle.odb_disk.specs.declared.meta.Meta.{Meta}
use Rattle.odb_disk.specs.declared.ask.DiskAnswer.{DiskAnswer}
use Rattle.odb_disk.specs.declared.ask.DiskAnswer.TheVariants as answers
use Rattle.odb_disk.specs.declared.ask.DiskAsk.{DiskAsk}
use Rattle.odb_disk.specs.declared.ask.DiskAsk.TheVariants as asks
use Rattle.gix_odb_events.specs.PackPath.{pack_path}
use Rattle.gix_odb_events.specs.declared.listing.ListingRow.{ListingRow}
use Rattle.gix_odb_search.specs.ListedStore.{ListedStore}
use Rattle.gix_odb_search.specs.ListOrder.{ask_of, fed, multi_row}
use Rattle.gix_odb_search.specs.declared.lister.ListStep.{ListStep}
use Rattle.gix_odb_search.specs.declared.lister.ListStep.TheVariants as steps
use Rattle.gix_odb.specs.ListedFiles.{IsOfTree}

-- a call of the disk and its answer
pub record Call : Type 0 where
  pub ask : DiskAsk
  pub answer : DiskAnswer

-- the result of a listing after calls. One that has ended stays as it is
abbrev pub behind_calls : ListedStore → ListStep → List Call → ListStep
behind_calls store step [] = step
behind_calls store (steps.More lister) (call ∷ calls) = behind_calls store (fed store lister call.answer) calls
behind_calls store step (call ∷ calls) = step

-- each call is the one that the lister asks for then
abbrev pub AreCalls : ListedStore → ListStep → List Call → Type 0
AreCalls store step [] = Unit {0}
AreCalls store (steps.More lister) (call ∷ calls) = (ask_of lister ≡ call.ask) × AreCalls store (fed store lister call.answer) calls
AreCalls store step (call ∷ calls) = ⊥

-- a call was made, with this answer
abbrev pub WasCalled : List Call → DiskAsk → DiskAnswer → Type 0
WasCalled calls ask answer = Contains calls (record { ask = ask; answer = answer })

-- one tree answers the calls
abbrev pub AreCallsOfTree : Tree → (coming : List Entry) → List Call → Type 0
AreCallsOfTree tree coming [] = Unit {0}
AreCallsOfTree tree coming (call ∷ calls) = (left : List Entry) × IsOfTree tree coming call.ask call.answer left × AreCallsOfTree tree left calls

-- Here `Told ask answer` says that a call was made, with this answer.
module _ (Told : DiskAsk → DiskAnswer → Type 0) where
  -- a multi-pack index was read, with the time of its row
  abbrev pub IsMultiSeen : ListingRow → List ℕ → Type 0
  IsMultiSeen row bytes = (row ≡ multi_row row.path bytes row.time) × Told (asks.Read row.path) (answers.File bytes row.time)

  -- an index was itself a file, of the time and length of its row
  pub record IsIndexSeen (row : ListingRow) : Type 0 where
    pub meta : Meta
    pub told : Told (asks.Look row.path false) (answers.Meta meta)
    pub file : meta.kind ≡ kinds.File
    pub time : row.time ≡ meta.time
    pub len : row.len ≡ meta.len

  -- and its pack's path showed a file
  pub record IsSingleSeen (row : ListingRow) : Type 0 where
    pub index : IsIndexSeen row
    pub meta : Meta
    pub told : Told (asks.Look (pack_path row.path) true) (answers.Meta meta)
    pub file : meta.kind ≡ kinds.File

  abbrev pub IsSeenAs : ListingRow → Option (List ℕ) → Type 0
  IsSeenAs row None = IsSingleSeen row
  IsSeenAs row (Some bytes) = IsMultiSeen row bytes

  -- what a listing found of a row
  abbrev pub IsRowSeen : ListingRow → Type 0
  IsRowSeen row = IsSeenAs row row.multi
