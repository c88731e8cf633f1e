-- When two paths are the same.
use Rattle.std.proofs.Common.{◌≡◌, Bool, true, false, refl, sym, ◌∙◌}
use Rattle.std.specs.Cmp.Lexicographic.{bytes_decides}
use lib.Pointwise.{pointwise_decides}
use Rattle.odb_base.specs.Path.{Path}
use Rattle.gix_odb_events.specs.PackFiles.{same_path}

pub same_path-true : (one other : Path) → same_path one other ≡ true → one ≡ other
same_path-true one other is = (pointwise_decides bytes_decides one other).0 is

pub same_path-self : (path : Path) → same_path path path ≡ true
same_path-self path = (pointwise_decides bytes_decides path path).1 refl

pub same_path_flip : (one other : Path) → same_path one other ≡ false → same_path other one ≡ false
same_path_flip one other is = by (same_path other one) refl
  where
    by : (b : Bool) → same_path other one ≡ b → b ≡ false
    by true found = let here : one ≡ other = sym (same_path-true other one found) in let no : true ≡ false = sym ((pointwise_decides bytes_decides one other).1 here) ∙ is in absurd cc
    by false differ = refl
