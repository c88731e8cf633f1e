-- The model of a pack or an index.
use Rattle.std.specs.Prelude.{ℕ, List}
use Rattle.gix_hash.specs.declared.kind.Kind.{Kind}

-- its bytes, and the hash of its ids
pub record FileBytes : Type 0 where
  pub kind : Kind
  pub bytes : List ℕ
