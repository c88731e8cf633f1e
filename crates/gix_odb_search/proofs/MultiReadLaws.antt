-- What a listing does after the read of a multi-pack index: a law for each property of its next step.
use Rattle.std.proofs.Common.{◌≡◌, ℕ, ◌<◌, Bool, true, false, cond, nat_le, List, refl, sym, ap, ◌∙◌}
use Rattle.std.proofs.lemmas.Bool.{and_from, leb-false}
use Rattle.odb_base.specs.Path.{Path}
use Rattle.odb_disk.specs.declared.ask.DiskAnswer.{DiskAnswer}
use Rattle.odb_disk.specs.declared.ask.DiskAnswer.TheVariants as answers
use Rattle.odb_disk.specs.declared.disk_error.DiskError.TheVariants as disk_errors
use Rattle.gix_odb_search.specs.ListedStore.{ListedStore}
use Rattle.gix_odb_search.specs.ListOrder.{at_paths, by_multi, multi_row, with_row}
use Rattle.gix_odb_search.specs.MultiPack.{is_multi_index, is_usable, most_packs, packs_named}
use Rattle.gix_odb_search.specs.PackFolder.{multi_index_path}
use Rattle.gix_odb_search.specs.declared.folders.IndexPath.{IndexPath}
use Rattle.gix_odb_search.specs.declared.lister.ListHead.{ListHead}
use Rattle.gix_odb_search.specs.declared.lister.ListStep.{ListStep}
use Rattle.gix_odb_search.specs.declared.lister.ListStep.TheVariants as ends

module _ (P : ListStep → Type 0) (store : ListedStore) (head : ListHead) (left : List IndexPath) where
  -- the path that was read
  abbrev pub path_read : Path
  path_read = multi_index_path head.folder

  -- one that can be used has its row
  abbrev pub RowLeads : DiskAnswer → Type 0
  RowLeads answer =
      (bytes : List ℕ) (time : ℕ) → answer ≡ answers.File bytes time → is_usable store.multi bytes ≡ true
      → P (at_paths store (with_row head (multi_row path_read bytes time)) left)

  -- one that names too many packs ends the listing
  abbrev pub ManyLead : DiskAnswer → Type 0
  ManyLead answer =
      (bytes : List ℕ) (time : ℕ) → answer ≡ answers.File bytes time → is_multi_index store.multi bytes ≡ true → most_packs < packs_named bytes
      → P (ends.TooManyPacks (packs_named bytes) path_read)

  -- bytes that aren't a multi-pack index of the store, and anything else than a file
  abbrev pub NoneLeads : DiskAnswer → Type 0
  NoneLeads answer =
      ((bytes : List ℕ) (time : ℕ) → answer ≡ answers.File bytes time → ¬ (is_multi_index store.multi bytes ≡ true)) → P (at_paths store head left)

  module _ (bytes : List ℕ) (time : ℕ) (row : RowLeads (answers.File bytes time)) (many : ManyLead (answers.File bytes time))
      (none : NoneLeads (answers.File bytes time)) where
    by_count : is_multi_index store.multi bytes ≡ true → (few : Bool) → nat_le (packs_named bytes) most_packs ≡ few
        → P (cond few (at_paths store (with_row head (multi_row path_read bytes time)) left) (ends.TooManyPacks (packs_named bytes) path_read))
    by_count read true few = row bytes time refl (and_from (is_multi_index store.multi bytes) (nat_le (packs_named bytes) most_packs) read few)
    by_count read false many_named = many bytes time refl read (leb-false (packs_named bytes) most_packs many_named)

    by_content : (read : Bool) → is_multi_index store.multi bytes ≡ read
        → P (cond read (cond (nat_le (packs_named bytes) most_packs) (at_paths store (with_row head (multi_row path_read bytes time)) left)
        (ends.TooManyPacks (packs_named bytes) path_read)) (at_paths store head left))
    by_content true read = by_count read (nat_le (packs_named bytes) most_packs) refl
    by_content false other =
        none (λ own at is read.
        let same : bytes ≡ own = cc is in
        let both : true ≡ false = sym read ∙ ap (is_multi_index store.multi) (sym same) ∙ other in
        cc both)

  -- what holds of each step that may follow holds of the one that follows; no row follows only where no multi-pack index of the store was read
  pub multi_leads_as_read : (answer : DiskAnswer) → RowLeads answer → ManyLead answer → NoneLeads answer
      → (answer ≡ answers.Refused disk_errors.Failed → P ends.Broken) → P (by_multi store head left answer)
  multi_leads_as_read (answers.File bytes time) row many none broken = by_content bytes time row many none (is_multi_index store.multi bytes) refl
  multi_leads_as_read (answers.Refused disk_errors.Failed) row many none broken = broken refl
  multi_leads_as_read answer row many none broken = none (λ bytes time is read. cc is)

  pub multi_leads : (answer : DiskAnswer) → RowLeads answer → ManyLead answer → P (at_paths store head left)
      → (answer ≡ answers.Refused disk_errors.Failed → P ends.Broken) → P (by_multi store head left answer)
  multi_leads answer row many none broken = multi_leads_as_read answer row many (λ other. none) broken
