-- A cause by narrower evidence is a cause by wider evidence: of one moment, of some moment of a call.
pub mod Write
use Rattle.std.specs.Prelude.{ℕ, ◌⊎◌, Option}
use Rattle.std.proofs.Common.{inl, inr}
use Rattle.odb_base.specs.Path.{Path}
use Rattle.gix_odb_loose.specs.LooseFile.{Reading}
use Rattle.gix_odb_loose.specs.Causes.{Seen, IsUnreadable, FindCause, HeaderCause, TestCause, Cause}
use Rattle.gix_odb_loose.specs.declared.find.Error.{Error}
use Rattle.gix_odb_loose.specs.declared.find.Error.TheVariants as errors
use Rattle.gix_odb_loose.specs.declared.call.LooseJob.{LooseJob}
use Rattle.gix_odb_loose.specs.declared.call.LooseJob.TheVariants as jobs

module _ (Gave Wider : Reading → Type 0) (wider : (read : Reading) → Gave read → Wider read) where
  seen_wider : (P : Reading → Type 0) → Seen Gave P → Seen Wider P
  seen_wider P s = (s.0, wider s.0 s.1, s.2)

  module _ (Failed Fails Wanting Wants : Type 0) (fails : Failed → Fails) (wants : Wanting → Wants) where
    unreadable_wider : (Failed ⊎ Seen Gave IsUnreadable) → (Fails ⊎ Seen Wider IsUnreadable)
    unreadable_wider h = elim h [ inl f ↦ inl (fails f) | inr s ↦ inr (seen_wider IsUnreadable s) ]

    pub FindCause-wider : (path : Path) (limit : Option ℕ) (error : Error) → FindCause path limit Gave Failed Wanting error → FindCause path limit Wider Fails Wants error
    FindCause-wider path limit (errors.SizeMismatch actual expected at) h = (h.0, seen_wider _ h.1)
    FindCause-wider path limit errors.Decode h = seen_wider _ h
    FindCause-wider path limit (errors.OutOfMemory size) h = seen_wider _ h
    FindCause-wider path limit (errors.Io action at) h = (h.0, h.1, unreadable_wider h.2)
    FindCause-wider path limit errors.NoMemory h = wants h

    pub HeaderCause-wider : (path : Path) (error : Error) → HeaderCause path Gave Failed Wanting error → HeaderCause path Wider Fails Wants error
    HeaderCause-wider path (errors.SizeMismatch actual expected at) h = h
    HeaderCause-wider path errors.Decode h = seen_wider _ h
    HeaderCause-wider path (errors.OutOfMemory size) h = h
    HeaderCause-wider path (errors.Io action at) h = (h.0, h.1, unreadable_wider h.2)
    HeaderCause-wider path errors.NoMemory h = wants h

    pub TestCause-wider : (path : Path) (error : Error) → TestCause path Failed Wanting error → TestCause path Fails Wants error
    TestCause-wider path (errors.SizeMismatch actual expected at) h = h
    TestCause-wider path errors.Decode h = h
    TestCause-wider path (errors.OutOfMemory size) h = h
    TestCause-wider path (errors.Io action at) h = (h.0, h.1, fails h.2)
    TestCause-wider path errors.NoMemory h = wants h

    pub Cause-wider : (job : LooseJob) (path : Path) (limit : Option ℕ) (error : Error) → Cause job path limit Gave Failed Wanting error → Cause job path limit Wider Fails Wants error
    Cause-wider (jobs.Contains id) path limit error h = TestCause-wider path error h
    Cause-wider (jobs.Find id) path limit error h = FindCause-wider path limit error h
    Cause-wider (jobs.Header id) path limit error h = HeaderCause-wider path error h
    Cause-wider (jobs.Prefix prefix gather) path limit error h = absurd h
    Cause-wider (jobs.Write kind size bytes id) path limit error h = absurd h
