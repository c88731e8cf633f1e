-- The search in an index that gives an id an offset in a pack: it ends, or wants the pack.
use Rattle.std.proofs.Common.{◌≡◌, ◌⊎◌, inl, inr, ℕ, zero, suc, Bool, true, false, ◌||◌, ◌&&◌, ◌==◌, List, [], ◌∷◌, map, slice_get, Contains, Option}
use Rattle.std.proofs.Common.{Some, None, option_map, Result, Ok, Err}
use Rattle.std.proofs.Common.{Ordering, Less, Equal, Greater, refl, sym, ap, ◌∙◌, subst, arith}
use Rattle.std.specs.List.{All, find}
use Rattle.std.specs.Ordering.{is_eq, ordering_reverse}
use Rattle.std.proofs.lemmas.Bool.{and_parts, cases_Bool, cond-true, cond-false, false_from_ne_true}
use Rattle.std.proofs.lemmas.List.Elements.{All-head, All-tail}
use Rattle.std.proofs.lemmas.List.Folds.{list_any-append}
use Rattle.std.proofs.lemmas.Option.{same_Some, slice_get-map}
use Rattle.odb_base.specs.Path.{Path}
use Rattle.gix_hash.proofs.IdOrderLaws.{id_order}
use Rattle.gix_hash.specs.ObjectId.{id_cmp}
use Rattle.gix_hash.specs.declared.kind.Kind.{Kind}
use Rattle.gix_hash.specs.declared.object_id.ObjectId.{ObjectId}
use Rattle.gix_pack_read.specs.FileBytes.{FileBytes}
use Rattle.gix_pack_read.specs.Index.{index_rows}
use Rattle.gix_pack_read.specs.MultiIndex.{multi_index_of, told}
use Rattle.gix_pack_read.specs.Rows.{PackRow, Row}
use Rattle.gix_odb_events.specs.OnDiskFile.{loaded}
use Rattle.gix_odb_events.specs.PackFiles.{PackFile, same_path}
use Rattle.gix_odb_events.proofs.SamePathLaws.{same_path-true}
use Rattle.gix_odb_events.specs.declared.loaded.LoadedIndex.{LoadedIndex}
use Rattle.gix_odb_events.specs.declared.loaded.LoadedIndex.TheVariants.{Single, Multi}
use Rattle.gix_odb_events.specs.declared.loaded.SnapshotIndex.{SnapshotIndex}
use Rattle.gix_odb_search.specs.Goal.{given_by}
use Rattle.gix_odb_search.specs.Search.{at_spot, given_or_not, in_file, in_packs, place_in, tried, was_absent, with_absent}
use Rattle.gix_odb_search.specs.Spot.{in_single, spot_in}
use Rattle.gix_odb_search.specs.declared.goal.Error.{Error}
use Rattle.gix_odb_search.specs.declared.goal.Found.{Found}
use Rattle.gix_odb_search.specs.declared.goal.Goal.{Goal}
use Rattle.gix_object.specs.declared.want.Want.{Want}
use Rattle.gix_object.specs.declared.want.Want.TheVariants.{Object, Header, Presence}
use Rattle.gix_odb_search.specs.declared.search.AbsentFile.{AbsentFile}
use Rattle.gix_odb_search.specs.declared.search.Notes.{Notes}
use Rattle.gix_odb_search.specs.declared.search.Sought.{Sought}
use Rattle.gix_odb_search.specs.declared.search.Sought.TheVariants.{Nowhere, Finds, Fails, Wants}
use Rattle.gix_odb_search.specs.declared.spot.Spot.{Spot}
use Rattle.gix_odb_search.proofs.MultiSpotLemmas.{row_spot, spot_of}

-- ---- elements of lists

pub first_or_later : {A : Type 0} (x : A) (xs : List A) (y : A) → Contains (x ∷ xs) y → (x ≡ y) ⊎ Contains xs y
first_or_later x xs y (zero, within, is) = inl is
first_or_later x xs y (suc k, within, is) = inr (k, omega (arith, within), is)

pub none_in : {A : Type 0} (y : A) → ¬ (Contains [] y)
none_in y (k, within, is) = omega (arith, within)

-- a search finds something where an element passes
pub found : {A : Type 0} (test : A → Bool) (xs : List A) (x : A) → Contains xs x → test x ≡ true → (y : A) × (find test xs ≡ Some y)
found test [] x among own = absurd (none_in x among)
found test (y ∷ xs) x among own =
    elim (cases_Bool (test y)) [
      | inl passes ↦ (y, cond-true (test y) (Some y) (find test xs) passes)
      | inr fails ↦ elim (first_or_later y xs x among) [
        | inl is ↦ let wrong : true ≡ false = sym own ∙ ap test (sym is) ∙ fails in absurd (cc wrong)
        | inr more ↦ let rest = found test xs x more own in (rest.0, cond-false (test y) (Some y) (find test xs) fails ∙ rest.1)
      ]
    ]

-- what a search finds passes the test, and has what each element has
pub found_is : {A : Type 0} (P : A → Type 0) (test : A → Bool) (xs : List A) → All P xs → (x : A) → find test xs ≡ Some x → P x × (test x ≡ true)
found_is P test [] all x e = absurd (cc e)
found_is {A = A} P test (y ∷ xs) all x e =
    elim (cases_Bool (test y)) [
      | inl passes ↦
          let is : y ≡ x = same_Some y x (sym (cond-true (test y) (Some y) (find test xs) passes) ∙ e) in
          (subst P is (All-head P y xs all), ap test (sym is) ∙ passes)
      | inr fails ↦ found_is P test xs (All-tail P y xs all) x (sym (cond-false (test y) (Some y) (find test xs) fails) ∙ e)
    ]

-- ---- the row of an id

reversed : (o : Ordering) → o ≡ ordering_reverse o → is_eq o ≡ true
reversed Less h = cc h
reversed Equal h = refl
reversed Greater h = cc h

itself : (id : ObjectId) → is_eq (id_cmp id id) ≡ true
itself id = reversed (id_cmp id id) (id_order.antisymm id id)

abbrev is_of : ObjectId → Row → Bool
is_of id row = is_eq (id_cmp row.id id)

-- an index that gives an id an offset has a row of it
has_spot : (file : FileBytes) (id : ObjectId) (row : Row) → Contains (index_rows file.kind file.bytes) row → row.id ≡ id
    → (offset : ℕ) × (in_single file id ≡ Some (record { place = 0; offset = offset }))
has_spot file id row among own =
    let first = found (is_of id) (index_rows file.kind file.bytes) row among (ap (λ (other : ObjectId). is_eq (id_cmp other id)) own ∙ itself id) in
    (first.0.offset, ap (option_map (λ (r : Row). record { place = 0; offset = r.offset })) first.1)

-- ---- packs that were absent

-- the pack was never noted as absent
abbrev pub IsPresent : Path → List AbsentFile → Type 0
IsPresent pack absent = (slot : ℕ) → was_absent absent slot pack ≡ false

pub present_at_first : (pack : Path) → IsPresent pack []
present_at_first pack slot = refl

-- another pack may be noted
pub present-noted : (pack : Path) (notes : Notes) (slot : ℕ) (path : Path) → ¬ (path ≡ pack) → IsPresent pack notes.absent
    → IsPresent pack (with_absent notes slot path).absent
present-noted pack notes slot path other present at =
    let test = λ (file : AbsentFile). file.slot == at && same_path file.path pack in
    let last : (slot == at && same_path path pack) ≡ false =
    false_from_ne_true (slot == at && same_path path pack)
    (λ h. other (same_path-true path pack (and_parts (slot == at) (same_path path pack) h).1)) in
    list_any-append test notes.absent (record { slot = slot; path = path } ∷ [])
    ∙ ap (λ (b : Bool). b || ((slot == at && same_path path pack) || false)) (present at)
    ∙ ap (λ (b : Bool). b || false) last

-- ---- the search in an index

module _ (pack : Path) where
  -- a search that reaches the pack ends there, or wants it
  abbrev pub Reaches : Sought → Type 0
  Reaches Nowhere = ⊥
  Reaches (Finds what) = Unit {0}
  Reaches (Fails error) = Unit {0}
  Reaches (Wants wanted) = wanted.path ≡ pack

  -- an index gives an id an offset, and the pack is its one pack
  pub record SingleLeads (hash : Kind) (id : ObjectId) (index : SnapshotIndex) : Type 0 where
    pub file : FileBytes
    pub single : index.index ≡ Single file
    pub kind : file.kind ≡ hash
    pub row : Row
    pub among : Contains (index_rows hash file.bytes) row
    pub of_id : row.id ≡ id
    pub one : map (λ (file : PackFile). file.path) index.packs ≡ pack ∷ []

  -- a multi-pack index gives an id an offset in the pack, which is one of its packs
  pub record MultiLeads (id : ObjectId) (index : SnapshotIndex) : Type 0 where
    pub bytes : List ℕ
    pub multi : index.index ≡ Multi bytes
    pub whole : multi_index_of bytes ≡ Some (told bytes)
    pub row : PackRow
    pub among : Contains (told bytes).rows row
    pub of_id : row.id ≡ id
    pub at : slice_get (map (λ (file : PackFile). file.path) index.packs) row.pack ≡ Some pack

  -- an index of either kind gives an id an offset in the pack
  abbrev pub Leads : Kind → ObjectId → SnapshotIndex → Type 0
  Leads hash id index = SingleLeads hash id index ⊎ MultiLeads id index

  module _ (goal : Goal) (absent : List AbsentFile) (present : IsPresent pack absent) (index : SnapshotIndex) where
    reaches-given : (given : Result Found Error) → Reaches (given_or_not given)
    reaches-given (Ok what) = tt
    reaches-given (Err error) = tt

    reaches-file : (spot : Spot) (path : Path) → path ≡ pack → (file : Option FileBytes) → Reaches (in_file goal absent index spot path file)
    reaches-file spot path is (Some file) = reaches-given (given_by goal.want goal.limit file spot.offset)
    reaches-file spot path is None =
        subst Reaches
        (sym (cond-false (was_absent absent index.slot path) Nowhere
        (Wants (record { slot = index.slot; place = place_in index.index spot; path = path; offset = spot.offset }))
        (ap (was_absent absent index.slot) is ∙ present index.slot)))
        is

    reaches-packs : (spot : Spot) (packs : List PackFile) → map (λ (file : PackFile). file.path) packs ≡ pack ∷ []
        → Reaches (in_packs goal absent index spot (slice_get packs 0))
    reaches-packs spot [] one = absurd (cc one)
    reaches-packs spot (file ∷ packs) one = let is : file.path ≡ pack = cc one in reaches-file spot file.path is (loaded file.state)

    reaches-spot : (wanted : Want) (offset : ℕ) → map (λ (file : PackFile). file.path) index.packs ≡ pack ∷ []
        → Reaches (at_spot wanted goal absent index (Some (record { place = 0; offset = offset })))
    reaches-spot Presence offset one = tt
    reaches-spot Object offset one = reaches-packs (record { place = 0; offset = offset }) index.packs one
    reaches-spot Header offset one = reaches-packs (record { place = 0; offset = offset }) index.packs one

    reaches-single : (hash : Kind) → SingleLeads hash goal.id index → Reaches (tried goal absent index)
    reaches-single hash leads =
        let row = leads.row in
        let among = subst (λ (kind : Kind). Contains (index_rows kind leads.file.bytes) row) (sym leads.kind) leads.among in
        let spot = has_spot leads.file goal.id row among leads.of_id in
        let is : spot_in index.index goal.id ≡ Some (record { place = 0; offset = spot.0 }) = ap (λ (i : _). spot_in i goal.id) leads.single ∙ spot.1 in
        subst (λ (s : Option Spot). Reaches (at_spot goal.want goal absent index s)) (sym is) (reaches-spot goal.want spot.0 leads.one)

    reaches-named : (spot : Spot) (found : Option PackFile) → option_map (λ (file : PackFile). file.path) found ≡ Some pack
        → Reaches (in_packs goal absent index spot found)
    reaches-named spot None at = absurd (cc at)
    reaches-named spot (Some file) at = reaches-file spot file.path (same_Some file.path pack at) (loaded file.state)

    reaches-place : (wanted : Want) (spot : Spot) → option_map (λ (file : PackFile). file.path) (slice_get index.packs spot.place) ≡ Some pack
        → Reaches (at_spot wanted goal absent index (Some spot))
    reaches-place Presence spot at = tt
    reaches-place Object spot at = reaches-named spot (slice_get index.packs spot.place) at
    reaches-place Header spot at = reaches-named spot (slice_get index.packs spot.place) at

    reaches-multi : MultiLeads goal.id index → Reaches (tried goal absent index)
    reaches-multi leads =
        let is : spot_in index.index goal.id ≡ Some (spot_of leads.row) =
        ap (λ (i : LoadedIndex). spot_in i goal.id) leads.multi ∙ row_spot leads.bytes goal.id leads.row leads.whole leads.among leads.of_id in
        subst (λ (s : Option Spot). Reaches (at_spot goal.want goal absent index s)) (sym is)
        (reaches-place goal.want (spot_of leads.row)
        (sym (slice_get-map (λ (file : PackFile). file.path) index.packs leads.row.pack) ∙ leads.at))

    pub reaches-index : (hash : Kind) → Leads hash goal.id index → Reaches (tried goal absent index)
    reaches-index hash (inl leads) = reaches-single hash leads
    reaches-index hash (inr leads) = reaches-multi leads
