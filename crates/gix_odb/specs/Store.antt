-- A store as one handle on it sees it.
use Rattle.std.specs.Prelude.{ℕ, Bool, true, false, Option, Some, None}
use Rattle.gix_odb_search.specs.ListedStore.{ListedStore}
use Rattle.gix_odb_search.specs.declared.multi_pack.MultiUse.{MultiUse}
use Rattle.gix_odb_calls.specs.declared.store_parts.StoreParts.{StoreParts}

-- the parts of a store, and the most changes of its list of indices that a call of the handle tolerates
pub record Setting : Type 0 where
  pub parts : StoreParts
  pub most : ℕ

-- how a store uses multi-pack indices, if it does
abbrev pub multi_use : StoreParts → (uses : Bool) → Option MultiUse
multi_use parts true = Some (record { hash = parts.object_hash; limit = parts.alloc_limit_bytes })
multi_use parts false = None

-- what a listing is told of a store
abbrev pub listed_for : StoreParts → ListedStore
listed_for parts = record { folders = parts.folders; multi = multi_use parts parts.use_multi_pack_index }
