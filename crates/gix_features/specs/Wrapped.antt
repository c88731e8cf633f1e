-- Items of a walk, each entry wrapped.
use Rattle.std.specs.Prelude.{Bool, Option, Some, None, Result, Ok, Err}
use Rattle.walkdir.specs.declared.dent.DirEntry.{DirEntry as Inner}
use Rattle.walkdir.specs.declared.error.Error.{Error}
use Rattle.gix_features.specs.declared.fs.entry.DirEntry.{DirEntry}

abbrev pub wrapped_item : Bool → Option (Result Inner Error) → Option (Result (DirEntry Inner) Error)
wrapped_item precompose None = None
wrapped_item precompose (Some (Ok entry)) = Some (Ok (record { inner = entry; precompose_unicode = precompose }))
wrapped_item precompose (Some (Err error)) = Some (Err error)
