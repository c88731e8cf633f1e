-- What a listing found of its rows was shown, where the disk gave each answer to it at a moment of a call.
use Rattle.std.proofs.Common.{◌≡◌, ℕ, Bool, true, false, List, Option, Some, None, Result, Ok, Err, refl, ap, ◌∙◌}
use Rattle.std.specs.Prelude.{if◌then◌else◌}
use Rattle.odb_base.specs.Path.{Path}
use Rattle.odb_disk.specs.Ask.{answer_now, answer_of, fails_now, meta_answer}
use Rattle.odb_disk.specs.MemDisk.{Volume}
use Rattle.odb_disk.specs.declared.ask.DiskAnswer.{DiskAnswer}
use Rattle.odb_disk.specs.declared.ask.DiskAnswer.TheVariants as answers
use Rattle.odb_disk.specs.declared.ask.DiskAsk.{DiskAsk}
use Rattle.odb_disk.specs.declared.ask.DiskAsk.TheVariants as asks
use Rattle.odb_disk.specs.Tree.{Tree, tree_of}
use Rattle.odb_disk.specs.Tree.Follow.{Place, Refusal, file_of, file_of_place, followed, looked, meta_of, meta_of_place, meta_with, read_of}
use Rattle.odb_disk.specs.declared.disk_error.DiskError.TheVariants as errors
use Rattle.odb_disk.specs.declared.meta.Kind.TheVariants as kinds
use Rattle.odb_disk.specs.declared.meta.Meta.{Meta}
use Rattle.odb_disk.specs.declared.node.Content.{Content}
use Rattle.odb_disk.specs.declared.node.Content.TheVariants.{File, Dir, Link}
use Rattle.gix_odb_events.specs.PackPath.{pack_path}
use Rattle.gix_odb_events.specs.declared.listing.ListingRow.{ListingRow}
use Rattle.gix_odb.specs.Contents.{ShowsFile}
use Rattle.gix_odb.specs.ListedRows.{WasIndexListed, WasListed, WasListedAs, WasMultiListed}
use Rattle.gix_odb.specs.ListerCalls.{IsMultiSeen, IsRowSeen, IsSeenAs, IsSingleSeen}
use Rattle.gix_odb.specs.Moments.{Sometime}
use Rattle.gix_odb_world.proofs.DiskTold.{read_is}

-- ---- what an answered stat shows

look_so : (b : Bool) (found : Result Meta Refusal) (meta : Meta) → (if b then answers.Refused errors.Failed else meta_answer found) ≡ answers.Meta meta
    → found ≡ Ok meta
look_so true found meta is = absurd (cc is)
look_so false (Ok own) meta is = let same : own ≡ meta = cc is in ap (λ (m : Meta). Ok m) same
look_so false (Err refusal) meta is = absurd (cc is)

look_is : (disk : Volume) (path : Path) (follow : Bool) (meta : Meta) → answer_now disk (asks.Look path follow) ≡ answers.Meta meta
    → looked (tree_of disk.state) path follow ≡ Ok meta
unfolding answer_of
look_is disk path follow meta is = look_so (fails_now disk (asks.Look path follow)) (looked (tree_of disk.state) path follow) meta is

file_by_kind : (dev ino : ℕ) (content : Content) → (meta_with dev ino content).kind ≡ kinds.File
    → (bytes : List ℕ) × (time : ℕ) × (file_of content ≡ Ok (bytes, time))
file_by_kind dev ino (File bytes time) is = (bytes, time, refl)
file_by_kind dev ino Dir is = absurd (cc is)
file_by_kind dev ino (Link target) is = absurd (cc is)

file_by_meta : (led : Result Place Refusal) (meta : Meta) → meta_of_place led ≡ Ok meta → meta.kind ≡ kinds.File
    → (bytes : List ℕ) × (time : ℕ) × (file_of_place led ≡ Ok (bytes, time))
file_by_meta (Ok place) meta is file =
    let same : meta_of place.node ≡ meta = cc is in
    file_by_kind place.node.dev place.node.ino place.node.content (ap (λ (m : Meta). m.kind) same ∙ file)
file_by_meta (Err refusal) meta is file = absurd (cc is)

-- a path at which a stat finds a file shows one, a link in the last place followed
looked_file_is_shown : (tree : Tree) (path : Path) (meta : Meta) → looked tree path true ≡ Ok meta → meta.kind ≡ kinds.File
    → (bytes : List ℕ) × ShowsFile tree path bytes
unfolding looked read_of
looked_file_is_shown tree path meta is file = let found = file_by_meta (followed tree true path) meta is file in (found.0, (found.1, found.2))

-- ---- rows

-- a disk that has this tree gives this answer
pub record IsOfDisk (tree : Tree) (ask : DiskAsk) (answer : DiskAnswer) : Type 0 where
  pub disk : Volume
  pub shown : tree ≡ tree_of disk.state
  pub is : answer_now disk ask ≡ answer

module _ (Told : DiskAsk → DiskAnswer → Type 0) (trees : ℕ → Tree) (begun now : ℕ)
    (given : (ask : DiskAsk) (answer : DiskAnswer) → Told ask answer → Sometime begun now (λ moment. IsOfDisk (trees moment) ask answer)) where
  looked_then : (path : Path) (follow : Bool) (meta : Meta) → Told (asks.Look path follow) (answers.Meta meta)
      → Sometime begun now (λ moment. looked (trees moment) path follow ≡ Ok meta)
  looked_then path follow meta was =
      let at = given (asks.Look path follow) (answers.Meta meta) was in
      let by : IsOfDisk (trees at.moment) (asks.Look path follow) (answers.Meta meta) = at.was in
      record {
        moment = at.moment;
        from = at.from;
        to = at.to;
        was = ap (λ (t : Tree). looked t path follow) by.shown ∙ look_is by.disk path follow meta by.is;
      }

  index_listed : (row : ListingRow) → IsSingleSeen Told row → WasIndexListed trees begun now row
  index_listed row seen =
      let index = looked_then row.path false seen.index.meta seen.index.told in
      let pack = looked_then (pack_path row.path) true seen.meta seen.told in
      record {
        index = record {
          moment = index.moment;
          from = index.from;
          to = index.to;
          was = record {
            itself = record { meta = seen.index.meta; looks = index.was; is_file = seen.index.file };
            time = seen.index.time;
            len = seen.index.len;
          };
        };
        pack = record {
          moment = pack.moment;
          from = pack.from;
          to = pack.to;
          was = looked_file_is_shown (trees pack.moment) (pack_path row.path) seen.meta pack.was seen.file;
        };
      }

  multi_listed : (row : ListingRow) (bytes : List ℕ) → IsMultiSeen Told row bytes → WasMultiListed trees begun now row bytes
  multi_listed row bytes seen =
      let at = given (asks.Read row.path) (answers.File bytes row.time) seen.1 in
      let by : IsOfDisk (trees at.moment) (asks.Read row.path) (answers.File bytes row.time) = at.was in
      record {
        is = seen.0;
        shown = record {
          moment = at.moment;
          from = at.from;
          to = at.to;
          was = ap (λ (t : Tree). read_of t row.path) by.shown ∙ read_is by.disk row.path bytes row.time by.is;
        };
      }

  listed_as : (row : ListingRow) (multi : Option (List ℕ)) → IsSeenAs Told row multi → WasListedAs trees begun now row multi
  listed_as row None seen = index_listed row seen
  listed_as row (Some bytes) seen = multi_listed row bytes seen

  -- a row that was seen was shown then
  pub row_was_listed : (row : ListingRow) → IsRowSeen Told row → WasListed trees begun now row
  row_was_listed row seen = listed_as row row.multi seen
