-- How the nodes of a tree are distinguished, for models that hold them.
use Rattle.std.specs.Prelude.{◌≡◌, ◌⊎◌, ℕ, List, refl}
use Rattle.std.specs.Coded.{Coded, code_by, coded×, coded⊎, coded_ℕ, coded_list}
use Rattle.std.proofs.Common.{inl, inr}
use base.Stored.{coded_unit}
use Rattle.odb_base.specs.Path.{Path}
use Rattle.odb_disk.specs.declared.node.Node.{Node}
use Rattle.odb_disk.specs.declared.node.Content.{Content}
use Rattle.odb_disk.specs.declared.node.Content.TheVariants.{File, Dir, Link}

abbrev pub Parts : Type 0
Parts = (List ℕ × ℕ) ⊎ (Unit {0} ⊎ Path)

abbrev pub parts_of : Content → Parts
parts_of (File bytes time) = inl (bytes, time)
parts_of Dir = inr (inl tt)
parts_of (Link target) = inr (inr target)

abbrev pub content_of : Parts → Content
content_of (inl file) = File file.0 file.1
content_of (inr (inl u)) = Dir
content_of (inr (inr target)) = Link target

pub content_of-parts_of : (c : Content) → content_of (parts_of c) ≡ c
content_of-parts_of (File bytes time) = refl
content_of-parts_of Dir = refl
content_of-parts_of (Link target) = refl

abbrev pub coded_content : Coded Content
coded_content =
    code_by Parts (coded⊎ (coded× (coded_list coded_ℕ) coded_ℕ) (coded⊎ coded_unit (coded_list (coded_list coded_ℕ)))) parts_of content_of content_of-parts_of

abbrev pub coded_node : Coded Node
coded_node =
    code_by (ℕ × (ℕ × Content)) (coded× coded_ℕ (coded× coded_ℕ coded_content)) (λ n. (n.dev, (n.ino, n.content))) (λ p. record { dev = p.0; ino = p.1.0; content = p.1.1 }) (λ _. refl)
