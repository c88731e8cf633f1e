use Rattle.std.proofs.Common.{◌≡◌, ◌+◌, ◌≤◌, length, []}
use Rattle.odb_script.specs.Script.{lines_in, items_in, reading_from}
use Rattle.odb_script.specs.declared.reader.Script.TheVariants.{Faults}
use Rattle.odb_script.proofs.reader.read_lines.Given as goal

abbrev pub invariant-loop-line : goal.invariant-loop-line
invariant-loop-line l = record {
  same : reading_from (items_in l.is_cut (lines_in l.rest)) l.number l.script ≡ reading_from (items_in l.is_cut (lines_in l.bytes)) 1 (Faults []);
  few : l.number + length l.rest ≤ length l.bytes + 1;
}

abbrev pub decreases-loop-line : goal.decreases-loop-line
decreases-loop-line l = length l.rest
