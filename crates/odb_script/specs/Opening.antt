-- The opening of a store as fields, the last of which are options.
use Rattle.std.specs.Prelude.{ℕ, ◌^◌, ◌==◌, Bool, true, false, List, [], ◌∷◌, ◌++◌, codes, Option, Some, None, if◌then◌else◌}
use Rattle.std.specs.List.{list_any}
use Rattle.std.specs.Option.{option_map}
use Rattle.odb_base.specs.Decimal.{number_of, number_below}
use Rattle.odb_base.specs.Path.{Path, path_of, same_name}
use Rattle.gix_hash.specs.ObjectId.{id_of}
use Rattle.gix_hash.specs.declared.kind.Kind.TheVariants as hashes
use Rattle.gix_hash.specs.declared.object_id.ObjectId.{ObjectId}
use Rattle.gix_odb_calls.specs.Slots.{default_slots}
use Rattle.gix_odb_calls.specs.declared.init.Options.{Options}
use Rattle.gix_odb_calls.specs.declared.init.Slots.{Slots}
use Rattle.gix_odb_calls.specs.declared.init.Slots.TheVariants.{Given}
use Rattle.gix_odb_calls.specs.declared.step.Step.TheVariants as steps
use Rattle.gix_odb_calls.specs.declared.line.Line.TheVariants.{One}
use Rattle.odb_script.specs.declared.choice.Choice.{Choice}
use Rattle.odb_script.specs.declared.choice.Choice.TheVariants as choices
use Rattle.odb_script.specs.declared.choice.Chosen.{Chosen}
use Rattle.odb_script.specs.declared.item.Item.{Item}
use Rattle.odb_script.specs.declared.item.Item.TheVariants as items
use Rattle.odb_script.specs.Split.{equals, before_colon, after_colon, before_equals, after_equals}

abbrev pub handle_of : List ℕ → Option ℕ
handle_of text = number_below (2 ^ 32) text

-- an option is a name, `=` and a value
abbrev pub has_value : List ℕ → Bool
has_value option = list_any (λ b. b == equals) option

abbrev pub name_in : List ℕ → List ℕ
name_in option = before_equals option

abbrev pub value_in : List ℕ → List ℕ
value_in option = after_equals option

-- the two ids of a value, which `:` separates
abbrev pub first_id : List ℕ → Option ObjectId
first_id pair = id_of (before_colon pair)

abbrev pub second_id : List ℕ → Option ObjectId
second_id pair = id_of (after_colon pair)

-- ---- what is chosen

-- an id, and the one that is looked up instead
abbrev pub replacement : Option ObjectId → Option ObjectId → Option Choice
replacement None by = None
replacement (Some id) None = None
replacement (Some id) (Some by) = Some (choices.Replacement id by)

-- the one value by which multi-pack indices aren't used
abbrev pub midx_choice : List ℕ → Option Choice
midx_choice value = if same_name value (codes "no") then Some choices.NoMultiPackIndex else None

-- the one hash that is chosen by its name
abbrev pub hash_choice : List ℕ → Option Choice
hash_choice value = if same_name value (codes "sha256") then Some choices.Sha256 else None

-- what a name chooses with its value
abbrev pub named_choice : List ℕ → List ℕ → Option Choice
named_choice name value =
    if same_name name (codes "folder") then option_map choices.Folder (path_of value)
    else if same_name name (codes "replace") then replacement (first_id value) (second_id value)
    else if same_name name (codes "slots") then option_map choices.Slots (number_below (2 ^ 16) value)
    else if same_name name (codes "limit") then option_map choices.Limit (number_of value)
    else if same_name name (codes "changes") then option_map choices.Changes (number_below (2 ^ 32) value)
    else if same_name name (codes "midx") then midx_choice value
    else if same_name name (codes "hash") then hash_choice value
    else None

abbrev pub choice_of : List ℕ → Option Choice
choice_of option = if has_value option then named_choice (name_in option) (value_in option) else None

-- Each folder and each replacement adds one; of slots, of limits and of changes the last counts.
abbrev pub with_choice : Chosen → Choice → Chosen
with_choice chosen (choices.Folder path) = record chosen { folders = chosen.folders ++ path ∷ [] }
with_choice chosen (choices.Replacement id by) = record chosen { replacements = chosen.replacements ++ (id, by) ∷ [] }
with_choice chosen (choices.Slots slots) = record chosen { slots = Some slots }
with_choice chosen (choices.Limit bytes) = record chosen { limit = Some bytes }
with_choice chosen (choices.Changes changes) = record chosen { max_changes = changes }
with_choice chosen choices.NoMultiPackIndex = record chosen { use_multi_pack_index = false }
with_choice chosen choices.Sha256 = record chosen { hash = hashes.Sha256 }

-- the changes of the list of indices that a call tolerates by default
abbrev pub default_changes : ℕ
default_changes = 16

-- what is chosen before the first option
abbrev pub nothing_chosen : Chosen
nothing_chosen = record { folders = []; replacements = []; slots = None; use_multi_pack_index = true; limit = None; max_changes = default_changes; hash = hashes.Sha1 }

-- one option, and then what the others choose
abbrev pub with_next : (Chosen → Option Chosen) → Chosen → Option Choice → Option Chosen
with_next further chosen None = None
with_next further chosen (Some choice) = further (with_choice chosen choice)

-- what options choose one after the other; None if one chooses nothing
unfoldable pub chosen_by : List (List ℕ) → Chosen → Option Chosen
chosen_by [] chosen = Some chosen
chosen_by (option ∷ options) chosen = with_next (chosen_by options) chosen (choice_of option)

-- ---- the line

-- the number of slots that was chosen, or as many as the store needs
abbrev pub slots_of : Option ℕ → Slots
slots_of None = default_slots
slots_of (Some slots) = Given slots

abbrev pub options_of : Chosen → Options
options_of chosen = record { slots = slots_of chosen.slots; use_multi_pack_index = chosen.use_multi_pack_index; alloc_limit_bytes = chosen.limit; max_changes = chosen.max_changes }

-- an opening by what is chosen
abbrev pub opening_at : ℕ → Path → Chosen → Item
opening_at handle path chosen = items.Play (One (steps.Open handle path chosen.folders chosen.hash chosen.replacements (options_of chosen)))

abbrev pub open_with : Option ℕ → Option Path → Option Chosen → Item
open_with None path chosen = items.Refused
open_with (Some handle) None chosen = items.Refused
open_with (Some handle) (Some path) None = items.Refused
open_with (Some handle) (Some path) (Some chosen) = opening_at handle path chosen

-- an opening by its fields
unfoldable pub open_of : List ℕ → List ℕ → List (List ℕ) → Item
open_of handle path options = open_with (handle_of handle) (path_of path) (chosen_by options nothing_chosen)
