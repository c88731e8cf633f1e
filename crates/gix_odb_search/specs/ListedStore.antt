-- What a listing is told of its store.
use Rattle.std.specs.Prelude.{List, Option}
use Rattle.odb_base.specs.Path.{Path}
use Rattle.gix_odb_search.specs.declared.lister.ListedStore as declared
use Rattle.gix_odb_search.specs.declared.multi_pack.MultiUse.{MultiUse}

-- the folders besides the objects directory, and how multi-pack indices are used, if they are
pub record ListedStore : Type 0 where
  pub folders : List Path
  pub multi : Option MultiUse

abbrev pub listed_store : declared.ListedStore → ListedStore
listed_store store = record { folders = store.folders.now; multi = store.multi }
