use Rattle.std.proofs.Common.{take}
use Rattle.gix_pack.specs.Index.{index_rows}
use Rattle.probe_index.specs.Lines.{AreLines, IsIndexLine}
use Rattle.probe_index.proofs.lines.index_lines.Given as goal

-- the lines of the ids so far
abbrev pub invariant-loop-id : goal.invariant-loop-id
invariant-loop-id l = AreLines (IsIndexLine (index_rows l.index.kind l.index.bytes)) (take l.id-index l.ids) l.lines.items
