-- What the conditions of opening say of the store of each handle of a lawful run: its folders are distinct, and what replaces ids is of its
-- hash.
use Rattle.std.proofs.Common.{◌≡◌, ℕ, ◌≤◌, Bool, true, false, cond, nat_le, List, [], ◌∷◌, length, take, Some, None, refl, sym, ◌∙◌, ap, subst, arith}
use Rattle.std.specs.Prelude.{◌&&◌}
use Rattle.std.specs.List.{AllByRecursion, IsDistinct, list_all}
use Rattle.std.specs.FinMap.{find, from_entries, get, get-from_entries}
use Rattle.std.specs.Map.{keys_of}
use Rattle.std.specs.Ordering.{eq_by_cmp}
use Rattle.std.proofs.lemmas.Bool.{and_parts}
use Rattle.std.proofs.lemmas.Cmp.{eq_by_cmp_equiv}
use Rattle.std.proofs.lemmas.Option.{slice_get_within}
use Rattle.odb_base.specs.Path.{Path, path_cmp}
use Rattle.odb_base.specs.PathLaws.{path_order}
use Rattle.odb_disk.specs.MemDisk.{Volume}
use Rattle.gix_hash.specs.ObjectId.{id_cmp, kind_of}
use Rattle.gix_hash.proofs.IdOrderLaws.{id_order}
use Rattle.gix_hash.specs.declared.kind.Kind.{Kind as HashKind}
use Rattle.gix_hash.specs.declared.kind.Kind.TheVariants.{Sha1, Sha256}
use Rattle.gix_hash.specs.declared.object_id.ObjectId.{ObjectId}
use Rattle.gix_odb_events.specs.PackFiles.{same_path}
use Rattle.gix_odb_events.proofs.SamePathLaws.{same_path-true}
use Rattle.gix_odb_calls.specs.Hashes.{is_id_of, is_pair_of, is_same_hash}
use Rattle.gix_odb.specs.Contents.{folder_list, replacement_in}
use Rattle.gix_odb_calls.specs.declared.store_parts.StoreParts.{StoreParts}
use Rattle.gix_odb_world.specs.AtWork.{Modes, Store}
use Rattle.gix_odb_world.specs.Begun.{FromClone, FromOpen, Holds, OpenedBy}
use Rattle.gix_odb_world.specs.Bound.{most_changes}
use Rattle.gix_odb_history.specs.Event.{Event}
use Rattle.gix_odb_world.specs.Headline.{IsLawful, Law}
use Rattle.gix_odb_world.specs.Valid.{Phase, NoneThere, Idle, Running, are_distinct, are_good_folders, are_good_replacements, is_openable, misuse_of, most_folders, phase_after}
use Rattle.gix_odb_world.specs.Valid.{why_not_after, why_not_open}
use Rattle.gix_odb_world.proofs.DistinctLemmas.{IsDistinct-by_count}
use Rattle.gix_odb_world.proofs.RunSteps.{front_of_front, length_take, there_in_whole}
use Rattle.gix_odb_world.proofs.ValidLaws.{valid_if_sound}

-- two hashes that are compared as equal
pub same_is : (one other : HashKind) → is_same_hash one other ≡ true → one ≡ other
same_is Sha1 Sha1 is = refl
same_is Sha1 Sha256 is = absurd (cc is)
same_is Sha256 Sha1 is = absurd (cc is)
same_is Sha256 Sha256 is = refl

-- ---- paths that differ

differ_by : (path other : Path) (b : Bool) → same_path path other ≡ b → eq_by_cmp path_cmp path other ≡ false → b ≡ false
differ_by path other true is apart =
    let laws = eq_by_cmp_equiv path_order in
    let own : eq_by_cmp path_cmp path path ≡ true = laws.refl path in
    let same : path ≡ other = same_path-true path other is in
    let here : eq_by_cmp path_cmp path other ≡ true = ap (eq_by_cmp path_cmp path) (sym same) ∙ own in
    absurd (cc (sym here ∙ apart))
differ_by path other false is apart = refl

all_differ : (path : Path) (paths : List Path) → AllByRecursion (λ other. eq_by_cmp path_cmp path other ≡ false) paths
    → AllByRecursion (λ other. same_path path other ≡ false) paths
all_differ path [] apart = tt
all_differ path (other ∷ paths) apart = (differ_by path other (same_path path other) refl apart.0, all_differ path paths apart.1)

IsDistinct-same_path : (paths : List Path) → IsDistinct (eq_by_cmp path_cmp) paths → IsDistinct same_path paths
unfolding IsDistinct
IsDistinct-same_path [] distinct = tt
IsDistinct-same_path (path ∷ paths) distinct = (all_differ path paths distinct.0, IsDistinct-same_path paths distinct.1)

-- ---- what replaces an id

found_of_hash : (hash : HashKind) (id other : ObjectId) (pairs : List (ObjectId × ObjectId)) → list_all (is_pair_of hash) pairs ≡ true
    → find id_cmp id pairs ≡ Some other → kind_of other ≡ hash
found_of_hash hash id other [] all found = absurd (cc found)
found_of_hash hash id other (pair ∷ pairs) all found =
    by (eq_by_cmp id_cmp id pair.0) refl found (found_of_hash hash id other pairs both.1)
  where
    both : (is_pair_of hash pair ≡ true) × (list_all (is_pair_of hash) pairs ≡ true)
    both = and_parts (is_pair_of hash pair) (list_all (is_pair_of hash) pairs) all

    by : (b : Bool) → eq_by_cmp id_cmp id pair.0 ≡ b → find id_cmp id (pair ∷ pairs) ≡ Some other
        → (find id_cmp id pairs ≡ Some other → kind_of other ≡ hash) → kind_of other ≡ hash
    by true is found later =
        let here : Some pair.1 ≡ Some other = subst (λ (b : Bool). cond b (Some pair.1) (find id_cmp id pairs) ≡ Some other) is found in
        let same : other ≡ pair.1 = cc here in
        let ids = and_parts (is_id_of hash pair.0) (is_id_of hash pair.1) both.0 in
        ap kind_of same ∙ same_is (kind_of pair.1) hash ids.1
    by false is found later =
        later (subst (λ (b : Bool). cond b (Some pair.1) (find id_cmp id pairs) ≡ Some other) is found)

replaced_by : (hash : HashKind) (id other : ObjectId) (pairs : List (ObjectId × ObjectId)) → list_all (is_pair_of hash) pairs ≡ true
    → get (from_entries {R = id_cmp} pairs) id ≡ Some other → kind_of other ≡ hash
replaced_by hash id other pairs all is = found_of_hash hash id other pairs all (sym (get-from_entries id_order pairs id) ∙ is)

-- ---- the store of a handle

-- what holds of a store that one of the events opened
pub record IsOpenable (events : List Event) (store : Store) : Type 0 where
  pub opened : store.opened ≤ length events
  pub distinct : IsDistinct same_path (folder_list store.parts)
  pub replaced : (id other : ObjectId) → replacement_in store.parts id ≡ Some other → kind_of other ≡ store.parts.object_hash

openable_by : (phase : Phase) (openable : Bool) → None ≡ why_not_open phase openable → openable ≡ true
openable_by NoneThere true valid = refl
openable_by NoneThere false valid = absurd (cc valid)
openable_by (Idle hash) openable valid = absurd (cc valid)
openable_by Running openable valid = absurd (cc valid)

module _ (first : Volume) where
  of_open : (events : List Event) (handle : ℕ) (store : Store) → IsLawful first events → OpenedBy events handle store.opened store → IsOpenable events store
  of_open events handle store lawful opened =
      let law : Law first (take opened.place events) opened.event = lawful opened.place opened.event opened.there in
      let past = take opened.place events in
      let valid : None ≡ why_not_open (phase_after past handle) (is_openable opened.path opened.folders opened.hash opened.replacements opened.options.max_changes) =
      valid_if_sound first past opened.event law (ap misuse_of opened.applied) ∙ ap (why_not_after first past) opened.opens in
      let good = openable_by (phase_after past handle) _ valid in
      let parts = and_parts (are_good_folders opened.path opened.folders)
      (are_good_replacements opened.hash opened.replacements && nat_le opened.options.max_changes most_changes) good in
      let folders = and_parts (nat_le (length opened.folders) most_folders) (are_distinct path_cmp (opened.path ∷ opened.folders)) parts.0 in
      let others = and_parts (are_good_replacements opened.hash opened.replacements) (nat_le opened.options.max_changes most_changes) parts.1 in
      let ids = and_parts (are_distinct id_cmp (keys_of opened.replacements)) (list_all (is_pair_of opened.hash) opened.replacements) others.0 in
      let at = opened.number in
      let within = slice_get_within events opened.place opened.event opened.there in
      record {
        opened = omega (arith, at, within);
        distinct =
            subst (λ paths. IsDistinct same_path paths) (sym (ap folder_list opened.parts))
            (IsDistinct-same_path (opened.path ∷ opened.folders) (IsDistinct-by_count (eq_by_cmp_equiv path_order) (opened.path ∷ opened.folders) folders.1));
        replaced = λ id other is.
            replaced_by opened.hash id other opened.replacements ids.1 (ap (λ (p : StoreParts). replacement_in p id) (sym opened.parts) ∙ is)
            ∙ ap (λ (p : StoreParts). p.object_hash) (sym opened.parts);
      }

  -- each prefix of a lawful run is lawful
  pub lawful_front : (events : List Event) (place : ℕ) → IsLawful first events → IsLawful first (take place events)
  lawful_front events place lawful at e there =
      let whole = there_in_whole events at place e there in
      let within = whole.0 in
      subst (λ past. Law first past e) (sym (front_of_front events at place (omega (arith, within)))) (lawful at e whole.1)

  pub openable : (store : Store) (events : List Event) (handle : ℕ) (modes : Modes) → IsLawful first events → Holds store events handle modes → IsOpenable events store
  openable store events handle modes lawful (FromOpen step latest frozen ignoring) = of_open events handle store lawful step
  openable store events handle modes lawful (FromClone from place event parent there applied clones held latest frozen ignoring) =
      let front = openable store (take place events) from parent (lawful_front events place lawful) held in
      let early = front.opened in
      let few = length_take events place event there in
      let within = slice_get_within events place event there in
      record { opened = omega (arith, early, few, within); distinct = front.distinct; replaced = front.replaced }
