use Rattle.gix_pack_read.proofs.IndexLemmas.{narrow_offset, wide_below, wide_offset}
use Rattle.gix_pack_read.proofs.index.File.pack_offset_at_index.Goals as goal

pub returns-then-narrow-lt-HIGH_BIT : goal.returns-then-narrow-lt-HIGH_BIT
returns-then-narrow-lt-HIGH_BIT c =
    let file = c.args.self.now in
    record {
      offset = narrow_offset file.kind file.bytes c.args.n c.narrow_at-narrow.result c.narrow_at-narrow.ensures.offset c.if-narrow-lt-HIGH_BIT.true;
    }

pub wide_at-requires : goal.wide_at-requires
wide_at-requires c =
    let file = c.args.self.now in
    record {
      wide = wide_below file.kind file.bytes c.args.n c.narrow_at-narrow.result c.narrow_at-narrow.ensures.index c.narrow_at-narrow.ensures.offset c.if-narrow-lt-HIGH_BIT.false;
    }

pub returns : goal.returns
returns c =
    let file = c.args.self.now in
    record {
      offset = wide_offset file.kind file.bytes c.args.n c.narrow_at-narrow.result c.wide_at.result
          c.narrow_at-narrow.ensures.offset c.if-narrow-lt-HIGH_BIT.false c.wide_at.ensures.offset;
    }
