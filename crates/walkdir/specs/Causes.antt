-- Why an error of a walk comes, whatever the disk reports.
use Rattle.std.specs.Prelude.{◌≡◌, true, List, Contains, Some, None}
use Rattle.walkdir.specs.Error.{is_stream_refusal}
use Rattle.walkdir.specs.Walk.{Ancestor}
use Rattle.walkdir.specs.declared.builder.Options.{Options}
use Rattle.walkdir.specs.declared.error.Error.{Error}
use Rattle.walkdir.specs.declared.error.ErrorInner.{ErrorInner}
use Rattle.walkdir.specs.declared.error.ErrorInner.TheVariants.{Io, Loop, NoMemory}

-- why an error comes: a call on a path was refused; a stream failed, or isn't open; a link that is followed leads to one
-- of these directories; or memory ran out
abbrev pub IsCausedIn : Options → List Ancestor → ErrorInner → Type 0
IsCausedIn options above (Io (Some path) error) = Unit {0}
IsCausedIn options above (Io None error) = is_stream_refusal error ≡ true
IsCausedIn options above (Loop path child) =
    (options.follow_links ≡ true) × ((ancestor : Ancestor) × Contains above ancestor × (ancestor.path ≡ path))
IsCausedIn options above NoMemory = Unit {0}

abbrev pub IsCausedAmong : Options → List Ancestor → Error → Type 0
IsCausedAmong options above error = IsCausedIn options above error.inner
