-- A wide offset is written as its row among the wide ones, and any other as it is.
use Rattle.std.proofs.Common.{ℕ, ◌++◌, sym, ap, ◌∙◌, arith}
use Rattle.std.specs.Int.{w32, to_be_bytes}
use Rattle.gix_pack_write.proofs.PlacedLemmas.Offsets.{narrow_end, narrow_on_low, narrow_on_wide}
use Rattle.gix_pack_write.proofs.index.put_narrow.Goals as goal
use Rattle.gix_pack_write.proofs.index.put_narrow.Goals.{then-is_wide, else-is_wide}

pub loop-row-preserved : goal.loop-row-preserved
loop-row-preserved c =
    let rows = c.args.rows.now in
    let i = c.loop-row.row-index in
    let wide = c.loop-row.wide in
    let list = c.loop-row.list in
    elim c.if-is_wide.branch [
      | then-is_wide w ↦
          let is = sym c.is_wide.ensures.wide ∙ w.if-is_wide.true in
          let put = c.in_ok-put_number.ensures.put ∙ ap (λ (n : ℕ). list ++ to_be_bytes w32 n) (c.narrow_of.ensures.wide is) in
          record {
            written = narrow_on_wide list c.put_number.new.list _ rows i wide c.if-is_wide.wide _ (omega arith) is put w.wide-is c.loop-row.invariant.written;
            few = omega (arith, w.wide-is, c.loop-row.invariant.few);
          }
      | else-is_wide w ↦
          let is = sym c.is_wide.ensures.wide ∙ w.if-is_wide.false in
          let put = c.in_ok-put_number.ensures.put ∙ ap (λ (n : ℕ). list ++ to_be_bytes w32 n) (c.narrow_of.ensures.low is) in
          record {
            written = narrow_on_low list c.put_number.new.list _ rows i wide c.if-is_wide.wide _ (omega arith) is put w.wide-is c.loop-row.invariant.written;
            few = omega (arith, w.wide-is, c.loop-row.invariant.few);
          }
    ]

pub returns : goal.returns
returns c = record {
  put = narrow_end c.loop-row.list _ c.args.rows.now c.loop-row.row-index c.loop-row.wide (omega arith) c.loop-row.invariant.written;
}
