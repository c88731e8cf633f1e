-- One more id has its line.
use Rattle.gix_pack.specs.Index.{index_rows}
use Rattle.probe_index.specs.Lines.{IsIndexLine}
use Rattle.probe_index.proofs.LinesLemmas.{AreLines-more}
use Rattle.probe_index.proofs.lines.index_lines.Goals as goal

pub loop-id-preserved : goal.loop-id-preserved
loop-id-preserved c =
    let line = c.in_ok-add_index_line.ensures.line in
    AreLines-more (IsIndexLine (index_rows c.args.index.now.kind c.args.index.now.bytes)) c.args.ids.now c.loop-id.id-index _ c.loop-id.lines.items line.0
    c.add_index_line.new.lines.items c.loop-id-test.true c.loop-id.invariant line.1 line.2
