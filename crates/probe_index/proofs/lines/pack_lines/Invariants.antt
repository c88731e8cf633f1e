use Rattle.std.proofs.Common.{take}
use Rattle.gix_pack.specs.MultiIndex.{told}
use Rattle.probe_index.specs.Lines.{AreLines, IsPackLine}
use Rattle.probe_index.proofs.lines.pack_lines.Given as goal

-- the lines of the ids so far
abbrev pub invariant-loop-id : goal.invariant-loop-id
invariant-loop-id l = AreLines (IsPackLine (told l.index)) (take l.id-index l.ids) l.lines.items
