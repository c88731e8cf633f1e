use Rattle.std.proofs.Common.{◌≡◌, ◌++◌, List, ℕ, length}
use denote.Shadow.{shadow}
use denote.Text.{Utf8}
use Rattle.std.specs.Fmt.{HasWritten, IsPlainFormatter}
use Rattle.odb_base.specs.JoinedPath.{joined, slashed}
use Rattle.odb_base.proofs.path.PathTextDisplay.fmt.Given as goal

abbrev pub invariant-loop-name : goal.invariant-loop-name
invariant-loop-name g l = record {
  text : shadow (Utf8 l.rest);
  written :
      IsPlainFormatter l.initial.f → (written : List ℕ) × (written ++ slashed l.rest ≡ slashed (joined l.self)) × HasWritten g.W.Write.write_str_gives l.initial.f written l.f;
}

abbrev pub decreases-loop-name : goal.decreases-loop-name
decreases-loop-name g l = length l.rest
