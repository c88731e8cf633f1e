-- Laws of what a journal says: each filled slot is of a row that was published, and what was read of its files was stored by an entry.
use Rattle.std.proofs.Common.{◌≡◌, ℕ, Bool, true, false, ◌&&◌, nat_eq, List, [], ◌∷◌, ◌++◌, map, Option, Some, None, ◌⊎◌, inl, inr, refl, sym, subst, ◌∙◌, append_assoc, append-nil}
use Rattle.std.specs.List.{AllZip}
use Rattle.std.proofs.lemmas.List.Elements.{Contains-append_left, Contains-push}
use Rattle.odb_base.specs.Path.{Path}
use Rattle.gix_pack_read.specs.FileBytes.{FileBytes}
use Rattle.gix_odb_events.specs.OnDiskFile.{loaded}
use Rattle.gix_odb_core.specs.Origins.{ArePacksTold, IsIndexTold, IsMultiOf, IsOfRow, IsTold, Lists, PassesOver, PutsIndex, PutsPack, Tells, TellsListing, TellsPut, is_stored}
use Rattle.gix_odb_core.specs.Possible.{IsOpened}
use Rattle.gix_odb_events.specs.Slots.{slot_at, Slot, is_index_of, new_filled, new_index}
use Rattle.gix_odb_core.specs.Quiet.{has_no_effect}
use Rattle.gix_odb_core.specs.Replay.{AreNext, IsLegal, IsNext, after_entry, is_refresh, replay}
use Rattle.gix_odb_events.specs.Answers.{Answer}
use Rattle.gix_odb_events.specs.PackFiles.{PackFile, same_path, new_pack, new_packs}
use Rattle.gix_odb_events.specs.declared.event.Event.{Event}
use Rattle.gix_odb_core.specs.declared.journal.Entry.{Entry}
use Rattle.gix_odb_events.specs.declared.listing.ListingRow.{ListingRow}
use Rattle.gix_odb_events.specs.declared.on_disk_file.OnDiskFile.{OnDiskFile}
use Rattle.gix_odb_core.specs.declared.shape.Shape.{Shape}
use Rattle.gix_odb_events.specs.declared.slot.Filled.{Filled}
use Rattle.gix_odb_events.specs.declared.slot.IndexFile.{IndexFile}
use Rattle.gix_odb_events.specs.declared.slot.IndexFile.TheVariants.{Single, Multi}
use Rattle.gix_odb_core.proofs.EffectLemmas.{Succeeds, succeeds-entry}
use Rattle.gix_odb_core.proofs.OrderLaws.{entry_without_effect_changes_nothing}
use Rattle.gix_odb_core.proofs.ReplayLemmas.{next_first, next_rest, replay-push}
use Rattle.gix_odb_core.proofs.ShapeLaws.{opened_slots_are_empty}
use Rattle.gix_odb_core.proofs.SlotLemmas.{holds-new}
use Rattle.gix_odb_core.proofs.SlotTurnLemmas.{CameFrom, entry_gives, filled_came_from}
use Rattle.gix_odb_core.proofs.FileStepLemmas.{FileStep, FilledStep, IndexStep}

-- ---- journals

tells_more : (past : List Entry) (entry : Entry) (is_so : Answer → Bool) (P : Event → Type 0) → Tells past is_so P → Tells (past ++ entry ∷ []) is_so P
tells_more past entry is_so P (first, has, so, is) = (first, Contains-append_left past (entry ∷ []) first has, so, is)

stored_more : (past : List Entry) (entry : Entry) (P : Event → Type 0) → TellsPut past P → TellsPut (past ++ entry ∷ []) P
stored_more past entry P = tells_more past entry is_stored P

listed_more : (past : List Entry) (entry : Entry) (row : ListingRow) → TellsListing past row → TellsListing (past ++ entry ∷ []) row
listed_more past entry row = tells_more past entry is_refresh (λ happens. Lists happens row)

-- ---- a slot that takes a step is of the same row

of_row-step : (happens : Event) (place : ℕ) (row : ListingRow) (before now : Filled) → FilledStep happens place before now → IsOfRow row before → IsOfRow row now
of_row-step happens place row before now step is =
    record {
      holds_it = holds_it row.multi before.index now.index before.time now.time step.index step.time ∙ is.holds_it;
      multi = multi before.index now.index step.index is.multi;
      packs = paths before.packs now.packs step.packs ∙ is.packs;
    }
  where
    holds_it : (m : Option (List ℕ)) (b a : IndexFile) (then time : ℕ) → IndexStep happens place b a → time ≡ then → is_index_of row m a time ≡ is_index_of row m b then
    holds_it None (Single b) (Single a) then time s t = λ i. same_path (s.path i) row.path
    holds_it (Some m) (Single b) (Single a) then time s t = refl
    holds_it None (Multi b) (Multi a) then time s t = refl
    holds_it (Some m) (Multi b) (Multi a) then time s t = λ i. same_path (s.path i) row.path && nat_eq (t i) row.time
    holds_it m (Single b) (Multi a) then time s t = absurd s
    holds_it m (Multi b) (Single a) then time s t = absurd s

    multi : (b a : IndexFile) → IndexStep happens place b a → IsMultiOf row b → IsMultiOf row a
    multi (Single b) (Single a) s of = tt
    multi (Multi b) (Multi a) s of = λ bytes read. by bytes (s.state.brought bytes read)
      where
        by : (bytes : List ℕ) → (loaded b.state ≡ Some bytes) ⊎ ⊥ → row.multi ≡ Some bytes
        by bytes (inl had) = of bytes had
        by bytes (inr never) = absurd never
    multi (Single b) (Multi a) s of = absurd s
    multi (Multi b) (Single a) s of = absurd s

    paths : (b a : List PackFile) → AllZip (FileStep (PutsPack happens place) (PassesOver happens place)) b a → map (λ (pack : PackFile). pack.path) a ≡ map (λ (pack : PackFile). pack.path) b
    paths [] [] steps = refl
    paths (one ∷ b) (two ∷ a) steps = (let rest = paths b a steps.1 in λ i. steps.0.path i ∷ rest i)
    paths [] (two ∷ a) steps = absurd steps
    paths (one ∷ b) [] steps = absurd steps

-- ---- one entry more

module _ (past : List Entry) (entry : Entry) (place : ℕ) where
  told_more : (filled : Filled) → IsTold past place filled → IsTold (past ++ entry ∷ []) place filled
  told_more filled is =
      record { row = is.row; listed = listed_more past entry is.row is.listed; of_row = is.of_row; index = index filled.index is.index; packs = packs filled.packs is.packs }
    where
      index : (i : IndexFile) → IsIndexTold past place i → IsIndexTold (past ++ entry ∷ []) place i
      index (Single file) told = λ bytes read. stored_more past entry (λ happens. PutsIndex happens place file.path bytes) (told bytes read)
      index (Multi file) told = tt

      packs : (l : List PackFile) → ArePacksTold past place l
          → ArePacksTold (past ++ entry ∷ []) place l
      packs [] told = tt
      packs (pack ∷ l) told = ((λ bytes read. stored_more past entry (λ happens. PutsPack happens place pack.path bytes) (told.0 bytes read)), packs l told.1)

  module _ (succeeds : Succeeds entry.event entry.answer) where
    tells_this : (is_so : Answer → Bool) (P : Event → Type 0) → is_so entry.answer ≡ true → P entry.event → Tells (past ++ entry ∷ []) is_so P
    tells_this is_so P so is = (entry, Contains-push past entry, so, is)

    -- an index or a pack that the event carries was stored
    stored_index : (path : Path) (bytes : FileBytes) → PutsIndex entry.event place path bytes → is_stored entry.answer ≡ true
    stored_index path bytes is = subst (λ (e : Event). Succeeds e entry.answer) is succeeds

    stored_pack : (path : Path) (bytes : FileBytes) → PutsPack entry.event place path bytes → is_stored entry.answer ≡ true
    stored_pack path bytes (pack, is, there) = subst (λ (e : Event). Succeeds e entry.answer) is succeeds

    -- a file that takes a step
    told-file : {A : Type 0} (puts : Event → Path → A → Type 0) (passes : Path → Type 0) (before now : OnDiskFile A)
        → ((path : Path) (bytes : A) → puts entry.event path bytes → is_stored entry.answer ≡ true)
        → FileStep (puts entry.event) passes before now
        → ((bytes : A) → loaded before.state ≡ Some bytes → TellsPut past (λ happens. puts happens before.path bytes))
        → (bytes : A) → loaded now.state ≡ Some bytes → TellsPut (past ++ entry ∷ []) (λ happens. puts happens now.path bytes)
    told-file {A = A} puts passes before now stores step told bytes read = by (step.state.brought bytes read)
      where
        by : (loaded before.state ≡ Some bytes) ⊎ puts entry.event now.path bytes → TellsPut (past ++ entry ∷ []) (λ happens. puts happens now.path bytes)
        by (inl had) =
            subst (λ (p : Path). TellsPut (past ++ entry ∷ []) (λ happens. puts happens p bytes)) (sym step.path)
            (stored_more past entry (λ happens. puts happens before.path bytes) (told bytes had))
        by (inr carries) = tells_this is_stored (λ happens. puts happens now.path bytes) (stores now.path bytes carries) carries

    told-step : (before now : Filled) → FilledStep entry.event place before now → IsTold past place before → IsTold (past ++ entry ∷ []) place now
    told-step before now step is =
        record {
          row = is.row;
          listed = listed_more past entry is.row is.listed;
          of_row = of_row-step entry.event place is.row before now step is.of_row;
          index = index before.index now.index step.index is.index;
          packs = packs before.packs now.packs step.packs is.packs;
        }
      where
        index : (b a : IndexFile) → IndexStep entry.event place b a → IsIndexTold past place b → IsIndexTold (past ++ entry ∷ []) place a
        index (Single b) (Single a) s told = told-file (λ happens. PutsIndex happens place) (PassesOver entry.event place) b a stored_index s told
        index (Multi b) (Multi a) s told = tt
        index (Single b) (Multi a) s told = absurd s
        index (Multi b) (Single a) s told = absurd s

        packs : (b a : List PackFile) → AllZip (FileStep (PutsPack entry.event place) (PassesOver entry.event place)) b a
            → ArePacksTold past place b
            → ArePacksTold (past ++ entry ∷ []) place a
        packs [] [] steps told = tt
        packs (one ∷ b) (two ∷ a) steps told = (told-file (λ happens. PutsPack happens place) (PassesOver entry.event place) one two stored_pack steps.0 told.0, packs b a steps.1 told.1)
        packs [] (two ∷ a) steps told = absurd steps
        packs (one ∷ b) [] steps told = absurd steps

    -- a slot that a row takes: nothing was read of it but a multi-index
    told-new : (row : ListingRow) → Lists entry.event row → IsTold (past ++ entry ∷ []) place (new_filled row)
    told-new row lists =
        record {
          row = row;
          listed = tells_this is_refresh (λ happens. Lists happens row) (subst (λ (e : Event). Succeeds e entry.answer) lists.1 succeeds) lists;
          of_row = record { holds_it = holds-new row; multi = multi row.multi refl; packs = refl };
          index = index row.multi;
          packs = packs row.multi;
        }
      where
        multi : (m : Option (List ℕ)) → row.multi ≡ m → IsMultiOf row (new_index row.path m)
        multi None is = tt
        multi (Some bytes) is = λ other read. is ∙ read

        index : (m : Option (List ℕ)) → IsIndexTold (past ++ entry ∷ []) place (new_index row.path m)
        index None = λ bytes read. absurd cc
        index (Some bytes) = tt

        each : (folder : Path) (names : List (List ℕ))
            → ArePacksTold (past ++ entry ∷ []) place (map (new_pack folder) names)
        each folder [] = tt
        each folder (name ∷ names) = ((λ bytes read. absurd cc), each folder names)

        packs : (m : Option (List ℕ))
            → ArePacksTold (past ++ entry ∷ []) place (new_packs row.path m)
        packs None = ((λ bytes read. absurd cc), tt)
        packs (Some bytes) = each _ _

-- ---- the laws

-- each filled slot of a shape has its origin in the entries
abbrev pub IsShapeTold : List Entry → Shape → Type 0
IsShapeTold entries shape = (place : ℕ) (filled : Filled) → slot_at shape.slots place ≡ Some filled → IsTold entries place filled

-- after one more entry, each slot has its origin
pub entry_tells_each_slot : (opening : Shape) (past : List Entry) (entry : Entry) → IsNext opening past entry → IsShapeTold past (replay opening past)
    → IsShapeTold (past ++ entry ∷ []) (replay opening (past ++ entry ∷ []))
entry_tells_each_slot opening past entry next told = subst (IsShapeTold (past ++ entry ∷ [])) (sym (replay-push opening past entry)) (by (has_no_effect entry) refl)
  where
    present : Shape
    present = replay opening past

    unchanged : IsShapeTold (past ++ entry ∷ []) present
    unchanged place filled is = told_more past entry place filled (told place filled is)

    from : Succeeds entry.event entry.answer → (place : ℕ) (filled : Filled) → CameFrom present entry.event place filled → IsTold (past ++ entry ∷ []) place filled
    from succeeds place filled (inl taken) =
        let same : new_filled taken.row ≡ filled = (let h = taken.holds_it in cc) in
        subst (IsTold (past ++ entry ∷ []) place) same (told-new past entry place succeeds taken.row (taken.listing, taken.publishes, taken.listed))
    from succeeds place filled (inr (old, was, step)) = told-step past entry place succeeds old filled step (told place old was)

    by : (b : Bool) → has_no_effect entry ≡ b → IsShapeTold (past ++ entry ∷ []) (after_entry present entry)
    by true quiet = subst (IsShapeTold (past ++ entry ∷ [])) (sym (entry_without_effect_changes_nothing opening past entry next quiet)) unchanged
    by false busy =
        entry_gives (IsShapeTold (past ++ entry ∷ [])) present entry unchanged
        (λ place filled is. from (succeeds-entry opening past entry next busy) place filled (filled_came_from present entry.seat entry.event place filled is))

pub entries_tell_each_slot : (opening : Shape) (later past : List Entry) → AreNext opening past later → IsShapeTold past (replay opening past)
    → IsShapeTold (past ++ later) (replay opening (past ++ later))
entries_tell_each_slot opening [] past next told = subst (λ (l : List Entry). IsShapeTold l (replay opening l)) (sym (append-nil past)) told
entries_tell_each_slot opening (entry ∷ later) past next told =
    subst (λ (l : List Entry). IsShapeTold l (replay opening l)) (append_assoc past (entry ∷ []) later)
    (entries_tell_each_slot opening later (past ++ entry ∷ []) (next_rest opening past entry later next)
    (entry_tells_each_slot opening past entry (next_first opening past entry later next) told))

-- each filled slot of the shape that a legal journal replays to is of a row that an entry published, and what was read of its files was stored by entries
pub journal_tells_each_slot : (opening : Shape) → IsOpened opening → (entries : List Entry) → IsLegal opening entries → IsShapeTold entries (replay opening entries)
journal_tells_each_slot opening opened entries legal =
    entries_tell_each_slot opening entries [] legal
    (λ place filled is. let wrong : ◌≡◌ {A = Slot} None (Some filled) = sym (opened_slots_are_empty opening opened place) ∙ is in absurd cc)
