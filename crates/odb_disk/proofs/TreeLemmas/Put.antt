-- Laws of the node of a file or a link that is put: one that is already there keeps its node, else it is a new one.
use Rattle.std.proofs.Common.{◌≡◌, ℕ, true, false, List, Option, Some, None, refl, sym, ap, ◌∙◌}
use Rattle.std.proofs.lemmas.Bool.{false≢true}
use Rattle.odb_base.specs.Path.{Path}
use Rattle.odb_disk.specs.Tree.{Tree, node_at}
use Rattle.odb_disk.specs.Tree.Change.{put_node, put_over, new_node, link_node, link_over, is_file, is_file_content}
use Rattle.odb_disk.specs.Tree.Way.{is_link, is_link_content}
use Rattle.odb_disk.specs.declared.node.Node.{Node}
use Rattle.odb_disk.specs.declared.node.Content.{Content}
use Rattle.odb_disk.specs.declared.node.Content.TheVariants.{File, Dir, Link}

-- ---- a file

-- a file at a path
pub record IsFile (o : Option Node) : Type 0 where
  pub node : Node
  pub bytes : List ℕ
  pub time : ℕ
  pub at : o ≡ Some node
  pub content : node.content ≡ File bytes time

pub file_stands : (o : Option Node) → is_file o ≡ true → IsFile o
file_stands None is = absurd (false≢true is)
file_stands (Some node) is =
    elim node.content as (λ c. node.content ≡ c → is_file_content c ≡ true → IsFile (Some node)) [
      | File bytes time ↦ λ content _. record { node = node; bytes = bytes; time = time; at = refl; content = content }
      | Dir ↦ λ _ no. absurd (false≢true no)
      | Link target ↦ λ _ no. absurd (false≢true no)
    ] refl is

module _ (t : Tree) (p : Path) (content : Content) where
  pub put_node-file : (f : IsFile (node_at t p)) → put_node t p content (node_at t p) ≡ record f.node { content = content }
  put_node-file f = ap (put_node t p content) f.at ∙ ap (put_over t p content f.node) f.content

  pub put_node-other : (o : Option Node) → is_file o ≡ false → put_node t p content o ≡ new_node t p content
  put_node-other None other = refl
  put_node-other (Some node) other =
      elim node.content as (λ c. is_file_content c ≡ false → put_over t p content node c ≡ new_node t p content) [
        | File bytes time ↦ λ no. absurd (false≢true (sym no))
        | Dir ↦ λ _. refl
        | Link target ↦ λ _. refl
      ] other

-- ---- a link

-- a link at a path
pub record IsLink (o : Option Node) : Type 0 where
  pub node : Node
  pub target : Path
  pub at : o ≡ Some node
  pub content : node.content ≡ Link target

pub link_stands : (o : Option Node) → is_link o ≡ true → IsLink o
link_stands None is = absurd (false≢true is)
link_stands (Some node) is =
    elim node.content as (λ c. node.content ≡ c → is_link_content c ≡ true → IsLink (Some node)) [
      | File bytes time ↦ λ _ no. absurd (false≢true no)
      | Dir ↦ λ _ no. absurd (false≢true no)
      | Link target ↦ λ content _. record { node = node; target = target; at = refl; content = content }
    ] refl is

module _ (t : Tree) (p target : Path) where
  pub link_node-link : (l : IsLink (node_at t p)) → link_node t p target (node_at t p) ≡ record l.node { content = Link target }
  link_node-link l = ap (link_node t p target) l.at ∙ ap (link_over t p target l.node) l.content

  pub link_node-other : (o : Option Node) → is_link o ≡ false → link_node t p target o ≡ new_node t p (Link target)
  link_node-other None other = refl
  link_node-other (Some node) other =
      elim node.content as (λ c. is_link_content c ≡ false → link_over t p target node c ≡ new_node t p (Link target)) [
        | File bytes time ↦ λ _. refl
        | Dir ↦ λ _. refl
        | Link old ↦ λ no. absurd (false≢true (sym no))
      ] other
