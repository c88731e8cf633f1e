-- One more id has its line.
use Rattle.gix_pack.specs.MultiIndex.{told}
use Rattle.probe_index.specs.Lines.{IsPackLine}
use Rattle.probe_index.proofs.LinesLemmas.{AreLines-more}
use Rattle.probe_index.proofs.lines.pack_lines.Goals as goal

pub loop-id-preserved : goal.loop-id-preserved
loop-id-preserved c =
    let line = c.in_ok-add_pack_line.ensures.line in
    AreLines-more (IsPackLine (told c.args.index.now)) c.args.ids.now c.loop-id.id-index _ c.loop-id.lines.items line.0
    c.add_pack_line.new.lines.items c.loop-id-test.true c.loop-id.invariant line.1 line.2
