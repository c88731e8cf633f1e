-- Lemmas on fields without a fault: they are what they have to be, and so a change is.
use Rattle.std.proofs.Common.{◌≡◌, ◌≢◌, ℕ, ◌+◌, Bool, true, false, List, [], ◌∷◌, Option, Some, None, is_some, refl}
use Rattle.std.specs.List.{AllZip}
use Rattle.odb_base.specs.Decimal.{number_of}
use Rattle.odb_base.specs.Path.{Path, path_of}
use Rattle.odb_disk.specs.declared.change.Change.{Change}
use Rattle.odb_disk.specs.declared.change.Change.TheVariants as made
use Rattle.odb_script.specs.Change.{change_of, device}
use Rattle.odb_script.specs.Content.{content_of}
use Rattle.odb_script.specs.Line.{outside_item, setup_item}
use Rattle.odb_script.specs.Split.{Fields}
use Rattle.odb_script.specs.declared.item.Item.TheVariants as items
use Rattle.odb_script.specs.declared.word.ChangeWord.{ChangeWord}
use Rattle.odb_script.specs.declared.word.ChangeWord.TheVariants as changes
use Rattle.odb_script.specs.Expected.{expected_of_change, is_spelled}
use Rattle.odb_script.specs.Fault.{first_wrong}
use Rattle.odb_script.specs.declared.expected.Expected.{Expected}

-- ---- fields without a fault

abbrev pub AllSpelled : List Expected → Fields → Type 0
AllSpelled kinds fields = AllZip (λ kind field. is_spelled kind field ≡ true) kinds fields

pub some_is : {A : Type 0} (o : Option A) → is_some o ≡ true → (x : A) × (o ≡ Some x)
some_is (Some x) e = (x, refl)
some_is None e = absurd (cc e)

-- fields without a fault are what they have to be
pub all_spelled : (kinds : List Expected) (fields : Fields) (number : ℕ) → first_wrong None kinds fields number ≡ None → AllSpelled kinds fields
unfolding first_wrong
all_spelled [] [] number h = tt
all_spelled (_ ∷ kinds) [] number h = absurd (cc h)
all_spelled [] (field ∷ fields) number h = absurd (cc h)
all_spelled (kind ∷ kinds) (field ∷ fields) number h = by_test (all_spelled kinds fields (number + 1)) (is_spelled kind field) refl
  where
    by_test : (first_wrong None kinds fields (number + 1) ≡ None → AllSpelled kinds fields) → (b : Bool) → is_spelled kind field ≡ b → (is_spelled kind field ≡ true) × AllSpelled kinds fields
    by_test rest true e = (e, rest (rw e at h))
    by_test rest false e = absurd (cc (rw e at h))

-- ---- changes

module _ (path : List ℕ) (p : Path) (path_is : path_of path ≡ Some p) where
  mkdir_is : change_of changes.Mkdir (path ∷ []) ≡ Some (made.MakeDir p device)
  unfolding change_of
  mkdir_is = rw path_is refl

  remove_is : change_of changes.Remove (path ∷ []) ≡ Some (made.Remove p)
  unfolding change_of
  remove_is = rw path_is refl

  put_is : (time content : List ℕ) (t : ℕ) (c : List ℕ) → number_of time ≡ Some t → content_of content ≡ Some c → change_of changes.Put (path ∷ time ∷ content ∷ []) ≡ Some (made.PutFile p t c)
  unfolding change_of
  put_is time content t c time_is content_is = rw (path_is, time_is, content_is) refl

  time_is : (time : List ℕ) (t : ℕ) → number_of time ≡ Some t → change_of changes.Time (path ∷ time ∷ []) ≡ Some (made.SetTime p t)
  unfolding change_of
  time_is time t number_is = rw (path_is, number_is) refl

  link_is : (to : List ℕ) (t : Path) → path_of to ≡ Some t → change_of changes.Link (path ∷ to ∷ []) ≡ Some (made.PutLink p t)
  unfolding change_of
  link_is to t to_is = rw (path_is, to_is) refl

  rename_is : (to : List ℕ) (t : Path) → path_of to ≡ Some t → change_of changes.Rename (path ∷ to ∷ []) ≡ Some (made.Rename p t)
  unfolding change_of
  rename_is to t to_is = rw (path_is, to_is) refl

change_some : (word : ChangeWord) (fields : Fields) → AllSpelled (expected_of_change word) fields → (change : Change) × (change_of word fields ≡ Some change)
change_some changes.Mkdir [] all = absurd all
change_some changes.Mkdir (path ∷ []) all = let p = some_is (path_of path) all.0 in (made.MakeDir p.0 device, mkdir_is path p.0 p.1)
change_some changes.Mkdir (path ∷ more ∷ rest) all = absurd all.1
change_some changes.Put [] all = absurd all
change_some changes.Put (path ∷ []) all = absurd all.1
change_some changes.Put (path ∷ time ∷ []) all = absurd all.1.1
change_some changes.Put (path ∷ time ∷ content ∷ []) all =
    let p = some_is (path_of path) all.0 in let t = some_is (number_of time) all.1.0 in let c = some_is (content_of content) all.1.1.0 in
    (made.PutFile p.0 t.0 c.0, put_is path p.0 p.1 time content t.0 c.0 t.1 c.1)
change_some changes.Put (path ∷ time ∷ content ∷ more ∷ rest) all = absurd all.1.1.1
change_some changes.Link [] all = absurd all
change_some changes.Link (path ∷ []) all = absurd all.1
change_some changes.Link (path ∷ target ∷ []) all = let p = some_is (path_of path) all.0 in let t = some_is (path_of target) all.1.0 in (made.PutLink p.0 t.0, link_is path p.0 p.1 target t.0 t.1)
change_some changes.Link (path ∷ target ∷ more ∷ rest) all = absurd all.1.1
change_some changes.Rename [] all = absurd all
change_some changes.Rename (from ∷ []) all = absurd all.1
change_some changes.Rename (from ∷ to ∷ []) all = let f = some_is (path_of from) all.0 in let t = some_is (path_of to) all.1.0 in (made.Rename f.0 t.0, rename_is from f.0 f.1 to t.0 t.1)
change_some changes.Rename (from ∷ to ∷ more ∷ rest) all = absurd all.1.1
change_some changes.Remove [] all = absurd all
change_some changes.Remove (path ∷ []) all = let p = some_is (path_of path) all.0 in (made.Remove p.0, remove_is path p.0 p.1)
change_some changes.Remove (path ∷ more ∷ rest) all = absurd all.1
change_some changes.Time [] all = absurd all
change_some changes.Time (path ∷ []) all = absurd all.1
change_some changes.Time (path ∷ time ∷ []) all = let p = some_is (path_of path) all.0 in let t = some_is (number_of time) all.1.0 in (made.SetTime p.0 t.0, time_is path p.0 p.1 time t.0 t.1)
change_some changes.Time (path ∷ time ∷ more ∷ rest) all = absurd all.1.1

pub set_up : (word : ChangeWord) (fields : Fields) → AllSpelled (expected_of_change word) fields → setup_item (change_of word fields) ≢ items.Refused
set_up word fields all h = let c = change_some word fields all in cc (rw c.1 at h)

pub outside : (word : ChangeWord) (fields : Fields) → AllSpelled (expected_of_change word) fields → outside_item (change_of word fields) ≢ items.Refused
outside word fields all h = let c = change_some word fields all in cc (rw c.1 at h)
