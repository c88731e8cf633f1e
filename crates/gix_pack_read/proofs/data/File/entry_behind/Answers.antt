use Rattle.std.proofs.Common.{◌≡◌, ◌+◌, length, true, ap, sym, ◌∙◌, arith}
use Rattle.gix_pack_read.specs.Bytes.{is_within, part}
use Rattle.gix_pack_read.specs.FileBytes.{FileBytes}
use Rattle.gix_pack_read.proofs.EntryLemmas.Objects.{header_ends, object_beyond, object_within}
use Rattle.gix_pack_read.proofs.data.File.entry_behind.Goals as goal

-- the header ends before the trailing hash
pub overflow_add-place : goal.overflow_add-place
overflow_add-place c =
    let file = c.args.self.now in
    let ends = header_ends file.kind file.bytes c.args.offset c.args.header c.requires.header in
    omega (arith, ends.1, c.entries_end-end.ensures.end)

pub overflow_sub-end : goal.overflow_sub-end
overflow_sub-end c =
    let file = c.args.self.now in
    let ends = header_ends file.kind file.bytes c.args.offset c.args.header c.requires.header in
    omega (arith, ends.1, c.entries_end-end.ensures.end)

pub returns-then-header-end : goal.returns-then-header-end
returns-then-header-end c =
    let file = c.args.self.now in
    let within : is_within c.args.limit c.args.header.size ≡ true = grind arith in
    record {
      entry = sym (object_beyond file.kind file.bytes c.args.offset c.args.limit c.args.header c.entries_end-end.result c.requires.header within
          c.entries_end-end.ensures.end c.if-header-end.true);
    }

pub part-requires : goal.part-requires
part-requires c =
    let file = c.args.self.now in
    let ends = header_ends file.kind file.bytes c.args.offset c.args.header c.requires.header in
    let long = ap (λ (seen : FileBytes). length seen.bytes) c.self.view_is in
    record { room = omega (arith, ends.1, long, c.entries_end-end.ensures.end, c.if-header-end.false) }

pub returns : goal.returns
returns c =
    let file = c.args.self.now in
    let header = c.args.header in
    let within : is_within c.args.limit header.size ≡ true = grind arith in
    let found = c.part.ensures.part ∙ ap (λ (seen : FileBytes). part (c.args.offset + header.header_len) header.size seen.bytes) c.self.view_is in
    record {
      entry = sym (object_within file.kind file.bytes c.args.offset c.args.limit header c.entries_end-end.result c.part.result.now c.requires.header within
          c.entries_end-end.ensures.end c.if-header-end.false found);
    }
