-- Laws of the names of a write, for callers: a temporary file is never where an object's path ends.
use Rattle.std.proofs.Common.{◌≡◌, ℕ, List, [], ◌∷◌, ◌++◌, get_or, drop, Ok, refl, sym, ap, ◌∙◌, append_assoc}
use Rattle.std.specs.Prelude.{take}
use Rattle.odb_base.specs.Path.{Name, Path}
use Rattle.odb_disk.specs.Tree.{Tree}
use Rattle.odb_disk.specs.Tree.Write.{spot}
use Rattle.odb_disk.proofs.OwnWayLaws.{spot_named}
use Rattle.gix_hash.specs.ObjectId.{hex_of}
use Rattle.gix_hash.proofs.HexDigitLaws.{no_t}
use Rattle.gix_hash.specs.declared.object_id.ObjectId.{ObjectId}
use Rattle.gix_odb_loose.specs.LooseFile.{loose_path}
use Rattle.gix_odb_loose.specs.WriteOrder.{prefix_path, temp_name, temp_path}

-- a path has the name of a temporary file
abbrev pub IsTemporary : Path → Type 0
IsTemporary path = (directory : Path) × (number : ℕ) × (path ≡ directory ++ temp_name number ∷ [])

pub temp_path-is : (objects : Path) (number : ℕ) → temp_path objects number ≡ objects ++ temp_name number ∷ []
unfolding temp_path
temp_path-is objects number = refl

pub prefix_path-is : (objects : Path) (id : ObjectId) → prefix_path objects id ≡ objects ++ take 2 (hex_of id) ∷ []
unfolding prefix_path
prefix_path-is objects id = refl

-- ---- hex digits are no prefix of a temporary name

behind_two : (text : List ℕ) → get_or (drop 2 text) 0 0 ≡ get_or text 2 0
behind_two [] = refl
behind_two (a ∷ []) = refl
behind_two (a ∷ b ∷ text) = refl

temp_first : (number : ℕ) → get_or (temp_name number) 0 0 ≡ 116
unfolding temp_name
temp_first number = refl

same_last : (d e : Path) (x y : Name) → d ++ x ∷ [] ≡ e ++ y ∷ [] → x ≡ y
same_last [] [] x y is = cc
same_last [] (b ∷ []) x y is = absurd (cc)
same_last [] (b ∷ c ∷ e) x y is = absurd (cc)
same_last (a ∷ []) [] x y is = absurd (cc)
same_last (a ∷ c ∷ d) [] x y is = absurd (cc)
same_last (a ∷ d) (b ∷ e) x y is = same_last d e x y (cc)

-- ---- where they are

pub temporary_spot : (t : Tree) (objects : Path) (number : ℕ) (s : Path) → spot t (temp_path objects number) ≡ Ok s → IsTemporary s
temporary_spot t objects number s is = let named = spot_named t objects (temp_name number) s (ap (spot t) (sym (temp_path-is objects number)) ∙ is) in (named.0, number, named.1)

loose_path-is : (objects : Path) (id : ObjectId) → loose_path objects id ≡ (objects ++ take 2 (hex_of id) ∷ []) ++ drop 2 (hex_of id) ∷ []
unfolding loose_path
loose_path-is objects id = sym (append_assoc objects (take 2 (hex_of id) ∷ []) (drop 2 (hex_of id) ∷ []))

pub object_spot : (t : Tree) (objects : Path) (id : ObjectId) (p : Path) → spot t (loose_path objects id) ≡ Ok p → ¬ (IsTemporary p)
object_spot t objects id p is temporary =
    let named = spot_named t (objects ++ take 2 (hex_of id) ∷ []) (drop 2 (hex_of id)) p (ap (spot t) (sym (loose_path-is objects id)) ∙ is) in
    let same = same_last named.0 temporary.0 (drop 2 (hex_of id)) (temp_name temporary.1) (sym named.1 ∙ temporary.2) in
    no_t id 2 (sym (behind_two (hex_of id)) ∙ ap (λ n. get_or n 0 0) same ∙ temp_first temporary.1)
