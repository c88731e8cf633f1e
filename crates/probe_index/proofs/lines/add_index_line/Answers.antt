-- The row that has the id is below the number of objects; its offset is the line's.
use Rattle.gix_pack.specs.Index.{index_rows}
use Rattle.probe_index.specs.Lines.{IsIndexLine, absent_line, offset_line}
use Rattle.probe_index.proofs.LinesLemmas.{IsIndexLine-absent, IsIndexLine-found, added-line, row_below}
use Rattle.probe_index.proofs.lines.add_index_line.Goals as goal

pub pack_offset_at_index-requires : goal.pack_offset_at_index-requires
pack_offset_at_index-requires c = record {
  row = row_below c.args.index.now.kind c.args.index.now.bytes c.args.id.now c.in-Some.row c.in-Some.ensures.row;
}

pub returns-in-Some : goal.returns-in-Some
returns-in-Some c =
    let index = c.args.index.now in
    let id = c.args.id.now in
    let line = IsIndexLine-found index.kind index.bytes id c.in-Some.row c.pack_offset_at_index.result c.in-Some.ensures.row c.pack_offset_at_index.ensures.offset in
    record {
      line = added-line c.add_offset.result (IsIndexLine (index_rows index.kind index.bytes) id) c.args.lines.now.items c.add_offset.new.lines.items
          (offset_line id c.pack_offset_at_index.result) line c.add_offset.ensures.ok;
    }

pub returns-in-None : goal.returns-in-None
returns-in-None c =
    let index = c.args.index.now in
    let id = c.args.id.now in
    let line = IsIndexLine-absent index.kind index.bytes id c.in-None.ensures.row in
    record {
      line = added-line c.add_absent.result (IsIndexLine (index_rows index.kind index.bytes) id) c.args.lines.now.items c.add_absent.new.lines.items (absent_line id) line c.add_absent.ensures.ok;
    }
