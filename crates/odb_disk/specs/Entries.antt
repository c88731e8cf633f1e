-- What a directory lists: its entries, in the order of their names.
use Rattle.std.specs.Prelude.{◌≡◌, ◌⊎◌, ℕ, true, List, Option, Result, Ok, Err, refl}
use Rattle.std.specs.Option.{option_map}
use Rattle.std.specs.List.{filter_map, list_all}
use Rattle.std.specs.Coded.{Coded, code_by, coded×, coded⊎, coded_ℕ, coded_list}
use Rattle.std.proofs.Common.{inl, inr}
use base.Stored.{coded_unit}
use Rattle.odb_base.specs.Path.{Path, Name, is_name}
use Rattle.odb_disk.specs.Tree.{Tree, name_in}
use Rattle.odb_disk.specs.Tree.Nodes.{entries_of}
use Rattle.odb_disk.specs.Tree.Follow.{Place, Refusal, WrongKind, followed}
use Rattle.odb_disk.specs.declared.node.Node.{Node}
use Rattle.odb_disk.specs.declared.node.Content.{Content}
use Rattle.odb_disk.specs.declared.node.Content.TheVariants as contents
use Rattle.odb_disk.specs.declared.entry.Entry.{Entry}
use Rattle.odb_disk.specs.declared.meta.Kind.{Kind}
use Rattle.odb_disk.specs.declared.meta.Kind.TheVariants.{File, Dir, Link}

abbrev pub kind_of : Content → Kind
kind_of (contents.File bytes time) = File
kind_of contents.Dir = Dir
kind_of (contents.Link target) = Link

abbrev pub entry_of : Node → Name → Entry
entry_of node name = record { name = name; kind = kind_of node.content; ino = node.ino }

-- the entry of a node that is directly in a directory; of another, None
abbrev pub entry_in : Path → Path × Node → Option Entry
entry_in directory at = option_map (entry_of at.1) (name_in directory at.0)

-- the entries of a directory, in the order of the bytes of their names
unfoldable pub entries_in : Tree → Path → List Entry
entries_in tree directory = filter_map (entry_in directory) (entries_of tree)

abbrev pub entries_at : Tree → Path → Content → Result (List Entry) Refusal
entries_at tree path contents.Dir = Ok (entries_in tree path)
entries_at tree path (contents.File bytes time) = Err WrongKind
entries_at tree path (contents.Link target) = Err WrongKind

abbrev pub entries_at_place : Tree → Result Place Refusal → Result (List Entry) Refusal
entries_at_place tree (Ok place) = entries_at tree place.path place.node.content
entries_at_place tree (Err refusal) = Err refusal

-- the entries of the directory that a path leads to, following links; anything else is of the wrong kind
unfoldable pub opened : Tree → Path → Result (List Entry) Refusal
opened tree path = entries_at_place tree (followed tree true path)

-- whether each entry's name is a name
abbrev pub AreNamed : List Entry → Type 0
AreNamed entries = list_all (λ entry. is_name entry.name) entries ≡ true

-- ---- how entries are distinguished, for models that hold them

abbrev pub kind_parts : Kind → Unit {0} ⊎ (Unit {0} ⊎ Unit {0})
kind_parts File = inl tt
kind_parts Dir = inr (inl tt)
kind_parts Link = inr (inr tt)

abbrev pub kind_from : Unit {0} ⊎ (Unit {0} ⊎ Unit {0}) → Kind
kind_from (inl u) = File
kind_from (inr (inl u)) = Dir
kind_from (inr (inr u)) = Link

pub kind_from-parts : (kind : Kind) → kind_from (kind_parts kind) ≡ kind
kind_from-parts File = refl
kind_from-parts Dir = refl
kind_from-parts Link = refl

abbrev pub coded_kind : Coded Kind
coded_kind = code_by (Unit {0} ⊎ (Unit {0} ⊎ Unit {0})) (coded⊎ coded_unit (coded⊎ coded_unit coded_unit)) kind_parts kind_from kind_from-parts

abbrev pub coded_entry : Coded Entry
coded_entry =
    code_by (Name × (Kind × ℕ)) (coded× (coded_list coded_ℕ) (coded× coded_kind coded_ℕ)) (λ e. (e.name, (e.kind, e.ino))) (λ p. record { name = p.0; kind = p.1.0; ino = p.1.1 }) (λ _. refl)
