-- A filled slot after settling, and that it remains the slot of the same row.
use Rattle.std.proofs.Common.{◌≡◌, Bool, true, false, List, cond, Some, None, ◌⊎◌, inl, inr, refl, sym, ap, ◌∙◌}
use Rattle.gix_odb_core.specs.Publish.{is_kept, settled}
use Rattle.gix_odb_events.specs.Slots.{filled_put_back, filled_trashed, holds}
use Rattle.gix_odb_events.specs.declared.listing.ListingRow.{ListingRow}
use Rattle.gix_odb_events.specs.declared.slot.Filled.{Filled}
use Rattle.gix_odb_core.proofs.SlotLemmas.{holds-put_back, holds-trashed}

module _ (stable : Bool) (rows : List ListingRow) where
  -- a slot that stays filled is put back or trashed
  pub settled_cases : (before after : Filled) → settled stable rows (Some before) ≡ Some after
      → ((is_kept rows (Some before) ≡ true) × (filled_put_back before ≡ after)) ⊎ ((is_kept rows (Some before) ≡ false) × (filled_trashed before ≡ after))
  settled_cases before after is = by (is_kept rows (Some before)) stable refl is
    where
      by : (k s : Bool) → is_kept rows (Some before) ≡ k → cond k (Some (filled_put_back before)) (cond s (Some (filled_trashed before)) None) ≡ Some after
          → ((is_kept rows (Some before) ≡ true) × (filled_put_back before ≡ after)) ⊎ ((is_kept rows (Some before) ≡ false) × (filled_trashed before ≡ after))
      by true s kept is = inl (kept, cc)
      by false true kept is = inr (kept, cc)
      by false false kept is = absurd cc

  pub holds-settled : (before after : Filled) → settled stable rows (Some before) ≡ Some after → (row : ListingRow) → holds row (Some after) ≡ holds row (Some before)
  holds-settled before after is row = by (settled_cases before after is)
    where
      by : ((is_kept rows (Some before) ≡ true) × (filled_put_back before ≡ after)) ⊎ ((is_kept rows (Some before) ≡ false) × (filled_trashed before ≡ after))
          → holds row (Some after) ≡ holds row (Some before)
      by (inl (kept, put_back)) = ap (λ (f : Filled). holds row (Some f)) (sym put_back) ∙ holds-put_back row before
      by (inr (kept, trashed)) = ap (λ (f : Filled). holds row (Some f)) (sym trashed) ∙ holds-trashed row before
