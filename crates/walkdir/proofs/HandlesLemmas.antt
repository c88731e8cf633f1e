-- Laws of an entry that is handled: what a call reports, and what stays.
pub mod Followed
pub mod Entered
pub mod Handled
use Rattle.std.proofs.Common.{◌≡◌, ℕ, inl, inr, true, false, Result, Ok, Err, refl, sym, ap, subst, ◌∙◌}
use Rattle.std.specs.Result.{IsErrAnd}
use Rattle.std.proofs.lemmas.Result.{err_from_is_err_and}
use denote.Enum.Bare.{sameb}
use Rattle.odb_base.specs.Path.{Path}
use Rattle.odb_disk.specs.Streams.{Streams}
use Rattle.odb_disk.specs.Tree.Follow.{Refusal}
use Rattle.odb_disk.specs.declared.meta.Meta.{Meta}
use Rattle.odb_disk.specs.contracts.meta.Kind.{the_type}
use Rattle.odb_disk.specs.declared.meta.Kind.{Kind}
use Rattle.odb_disk.specs.declared.meta.Kind.TheVariants.{File, Dir, Link}
use Rattle.walkdir.specs.Entry.{is_dir_kind}
use Rattle.walkdir.specs.Error.{is_no_memory, no_memory}
use Rattle.walkdir.specs.OwnStreams.{Owns}
use Rattle.walkdir.specs.Progress.{Progress, Keeps}
use Rattle.walkdir.specs.Stack.{own_streams}
use Rattle.walkdir.specs.Walk.{Tells, told_at}
use Rattle.walkdir.specs.declared.builder.Options.{Options}
use Rattle.walkdir.specs.declared.error.Error.{Error}

-- an error that is passed on
pub err_is : {A : Type 0} (result : Result A Error) (error : Error) → IsErrAnd result (λ e. e ≡ error) → result ≡ Err error
err_is result error gives = let at = err_from_is_err_and result gives in at.1 ∙ ap Err at.2

pub kind_tested : (kind : Kind) → sameb the_type kind Dir ≡ is_dir_kind kind
kind_tested File = refl
kind_tested Dir = refl
kind_tested Link = refl

pub not_lost : {A : Type 0} (error : Error) → is_no_memory error ≡ false → error ≡ no_memory → A
not_lost error some lost = let no : true ≡ false = sym (ap is_no_memory lost) ∙ some in cc

-- ---- what a call reports

-- an error in place of one thing is the error in place of another
pub passed_on : {A B : Type 0} (depth : ℕ) (path : Path) (error : Error) (told : Result A Error) (more : Result B Error)
    → (told ≡ Err error → more ≡ Err error)
    → Tells depth path (Err error) told → Tells depth path (Err error) more
passed_on depth path error told more pass (inl lost) = inl lost
passed_on depth path error told more pass (inr (inl failed)) = inr (inl failed)
passed_on depth path error told more pass (inr (inr is)) = inr (inr (pass is))

pub told_is : (depth : ℕ) (path : Path) (meta : Meta) (told : Result Meta Refusal) → told_at depth path told ≡ Ok meta → told ≡ Ok meta
told_is depth path meta (Ok found) is = let same : found ≡ meta = cc in ap Ok same
told_is depth path meta (Err refusal) is = absurd cc

-- ---- streams that stay

pub keeps_alike : (old mid : Progress) → mid.options ≡ old.options → mid.stack ≡ old.stack → mid.streams ≡ old.streams → (before : Streams)
    → Keeps before old → Keeps before mid
keeps_alike old mid options stack streams before keeps =
    subst (λ (o : Options). Owns before o.max_open (own_streams mid.stack) mid.streams) (sym options)
    (subst (λ s. Owns before old.options.max_open (own_streams s) mid.streams) (sym stack)
    (subst (λ s. Owns before old.options.max_open (own_streams old.stack) s) (sym streams) keeps))
