-- Lemmas on openings whose fields and options are what they have to be: they are read.
use Rattle.std.proofs.Common.{◌≡◌, ◌≢◌, ℕ, ◌+◌, Bool, true, false, List, [], ◌∷◌, Some, None, is_some, refl, ap, ◌∙◌}
use Rattle.std.specs.List.{AllByRecursion}
use Rattle.odb_base.specs.Path.{path_of}
use Rattle.odb_script.specs.Opening.{choice_of, chosen_by, handle_of, nothing_chosen, open_of, with_choice, with_next}
use Rattle.odb_script.specs.Split.{Fields}
use Rattle.odb_script.specs.declared.choice.Chosen.{Chosen}
use Rattle.odb_script.specs.declared.item.Item.TheVariants as items
use Rattle.odb_script.specs.Fault.{first_wrong}
use Rattle.odb_script.specs.declared.expected.Expected.TheVariants.{Choice as Choice_, Handle, Path}
use Rattle.odb_script.proofs.SpelledLemmas.{some_is}

-- ---- an opening

abbrev AllOptions : Fields → Type 0
AllOptions options = AllByRecursion (λ option. is_some (choice_of option) ≡ true) options

chosen_some : (options : Fields) (chosen : Chosen) → AllOptions options → (all : Chosen) × (chosen_by options chosen ≡ Some all)
unfolding chosen_by
chosen_some [] chosen spelled = (chosen, refl)
chosen_some (option ∷ options) chosen spelled =
    let choice = some_is (choice_of option) spelled.0 in
    let rest = chosen_some options (with_choice chosen choice.0) spelled.1 in
    (rest.0, ap (with_next (chosen_by options) chosen) choice.1 ∙ rest.1)

-- the options after a handle and a path are what they have to be
options_spelled : (options : Fields) (number : ℕ) → first_wrong (Some Choice_) [] options number ≡ None → AllOptions options
unfolding first_wrong
options_spelled [] number h = tt
options_spelled (option ∷ options) number h = by_test (options_spelled options (number + 1)) (is_some (choice_of option)) refl
  where
    by_test : (first_wrong (Some Choice_) [] options (number + 1) ≡ None → AllOptions options) → (b : Bool) → is_some (choice_of option) ≡ b → (is_some (choice_of option) ≡ true) × AllOptions options
    by_test rest true e = (e, rest (rw e at h))
    by_test rest false e = absurd (cc (rw e at h))

pub record IsOpening (handle path : List ℕ) (options : Fields) : Type 0 where
  pub handle_is : is_some (handle_of handle) ≡ true
  pub path_is : is_some (path_of path) ≡ true
  pub options_are : AllOptions options

pub opening_spelled : (handle path : List ℕ) (options : Fields) → first_wrong (Some Choice_) (Handle ∷ Path ∷ []) (handle ∷ path ∷ options) 2 ≡ None → IsOpening handle path options
unfolding first_wrong
opening_spelled handle path options h = by_handle (is_some (handle_of handle)) refl
  where
    by_path : is_some (handle_of handle) ≡ true → (b : Bool) → is_some (path_of path) ≡ b → IsOpening handle path options
    by_path e true f = record { handle_is = e; path_is = f; options_are = options_spelled options 4 (rw (e, f) at h) }
    by_path e false f = absurd (cc (rw (e, f) at h))

    by_handle : (b : Bool) → is_some (handle_of handle) ≡ b → IsOpening handle path options
    by_handle true e = by_path e (is_some (path_of path)) refl
    by_handle false e = absurd (cc (rw e at h))

pub opens : (handle path : List ℕ) (options : Fields) → IsOpening handle path options → open_of handle path options ≢ items.Refused
unfolding open_of
opens handle path options is h =
    let hd = some_is (handle_of handle) is.handle_is in
    let p = some_is (path_of path) is.path_is in
    let all = chosen_some options nothing_chosen is.options_are in
    cc (rw (hd.1, p.1, all.1) at h)

pub no_path : (handle : List ℕ) → first_wrong (Some Choice_) (Handle ∷ Path ∷ []) (handle ∷ []) 2 ≢ None
unfolding first_wrong
no_path handle h = by_test (is_some (handle_of handle)) refl
  where
    by_test : (b : Bool) → is_some (handle_of handle) ≡ b → ⊥
    by_test true e = cc (rw e at h)
    by_test false e = cc (rw e at h)

pub no_handle : first_wrong (Some Choice_) (Handle ∷ Path ∷ []) [] 2 ≢ None
unfolding first_wrong
no_handle h = cc h
