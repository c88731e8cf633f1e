-- What the reply of a call says of the tree that answered the call's ask. Over a changing tree, a call cites this for the tree
-- of that moment.
use Rattle.std.specs.Prelude.{◌≡◌, ℕ, true, false, Option, Some, None, Ok, Err}
use Rattle.odb_base.specs.Path.{Path}
use Rattle.odb_disk.specs.Tree.{Tree}
use Rattle.odb_disk.specs.Tree.Follow.{read_of}
use Rattle.gix_odb_loose.specs.LooseFile.{Answer, Object, HeaderOf, Presence, Gives, Holds, LeadsToFile}
use Rattle.gix_odb_loose.specs.Causes.{Cause}
use Rattle.gix_odb_loose.specs.declared.find.Error.{Error}
use Rattle.gix_odb_loose.specs.declared.call.LooseJob.{LooseJob}
use Rattle.gix_odb_loose.specs.declared.call.LooseReply.{LooseReply}
use Rattle.gix_odb_loose.specs.declared.call.LooseReply.TheVariants as replies

-- the answer in a reply, if it has one
abbrev pub answer_in : LooseReply → Option Answer
answer_in (replies.Contains (Ok true)) = Some Presence
answer_in (replies.Found (Ok (Some found))) = Some (Object found.0 found.1)
answer_in (replies.Header (Ok (Some found))) = Some (HeaderOf found.1 found.0)
answer_in reply = None

-- the error in a reply, if it has one
abbrev pub error_in : LooseReply → Option Error
error_in (replies.Contains (Err error)) = Some error
error_in (replies.Found (Err error)) = Some error
error_in (replies.Header (Err error)) = Some error
error_in reply = None

-- a reply that the object isn't there
abbrev pub IsMiss : LooseReply → Type 0
IsMiss (replies.Contains (Ok false)) = Unit {0}
IsMiss (replies.Found (Ok None)) = Unit {0}
IsMiss (replies.Header (Ok None)) = Unit {0}
IsMiss reply = ⊥

-- What a reply says of the tree, where `path` is that of the object. `Failed`: the call of the disk failed. `Wanting`: memory
-- ran out.
pub record Says (path : Path) (limit : Option ℕ) (job : LooseJob) (tree : Tree) (Failed Wanting : Type 0) (reply : LooseReply) : Type 0 where
  -- an answer is held by the file at the path
  pub held : (answer : Answer) → answer_in reply ≡ Some answer → Gives (read_of tree path) (λ bytes. Holds limit job bytes answer)
  -- a miss says that the path leads to no file
  pub missed : IsMiss reply → ¬ (LeadsToFile tree path)
  -- an error has its cause
  pub refused : (error : Error) → error_in reply ≡ Some error → Cause job path limit (λ read. read ≡ read_of tree path) Failed Wanting error
