use Rattle.std.proofs.Common.{◌≡◌, ◌-◌, ◌<◌, ◌≤◌, ◌↔◌, ℕ, Bool, true, false, nat_eq, IsTrue, sym, ◌∙◌, arith}
use Rattle.std.proofs.lemmas.Bool.{eq-eqb}
use Rattle.gix_pack_read.specs.Rows.{count_to, ids_of}
use Rattle.gix_pack_read.proofs.FirstByteLemmas.{count_within}
use Rattle.gix_pack_read.proofs.tables.is_count.Goals as goal
use Rattle.gix_pack_read.proofs.tables.is_count.Goals.{then-count-n+then-count-eq0, then-count-n+else-count-eq0, else-count-n}

all_counted : (count n total : ℕ) → total ≤ n → count ≡ n → count ≤ total → IsTrue (nat_eq count n) ↔ (count ≡ total)
all_counted count n total within all reached = (λ h. omega arith, λ h. eq-eqb count n all)

not_so : (value : Bool) (count total : ℕ) → value ≡ false → (count ≡ total → ⊥) → IsTrue value ↔ (count ≡ total)
not_so value count total is other = (λ h. absurd (differ value h is), λ h. absurd (other h))
  where
    differ : (b : Bool) → b ≡ true → b ≡ false → ⊥
    differ true h k = cc k
    differ false h k = cc h

both : (b : Bool) → b ≡ true → b ≡ false → ⊥
both true h k = cc k
both false h k = cc h

-- all are counted
pub returns-then-count-n-2 : goal.returns-then-count-n-2
returns-then-count-n-2 c =
    let total = count_to (ids_of c.args.kind c.args.n c.args.ids.now) c.args.first in
    let within : total ≤ c.args.n = count_within c.args.kind c.args.n c.args.ids.now c.args.first in
    record {
      count = elim c.if-count-n.branch [
        | then-count-n+then-count-eq0 w ↦ all_counted c.args.count c.args.n total within c.if-count-n-2.true (omega arith)
        | then-count-n+else-count-eq0 w ↦
            let less = w.is_counted.ensures.counted.0 (sym w.value-is ∙ c.if-is_counted.true) in
            all_counted c.args.count c.args.n total within c.if-count-n-2.true (omega arith)
        | else-count-n w ↦ absurd (omega arith)
      ];
    }

-- there are fewer, or the last isn't counted
pub returns-else-is_counted : goal.returns-else-is_counted
returns-else-is_counted c =
    let total = count_to (ids_of c.args.kind c.args.n c.args.ids.now) c.args.first in
    let within : total ≤ c.args.n = count_within c.args.kind c.args.n c.args.ids.now c.args.first in
    record {
      count = not_so c.if-count-n.value c.args.count total c.if-is_counted.false (λ h. elim c.if-count-n.branch [
        | then-count-n+then-count-eq0 w ↦ both c.if-count-n.value (w.value-is ∙ eq-eqb c.args.count 0 w.if-count-eq0.true) c.if-is_counted.false
        | then-count-n+else-count-eq0 w ↦ both c.if-count-n.value (w.value-is ∙ w.is_counted.ensures.counted.1 (omega arith)) c.if-is_counted.false
        | else-count-n w ↦ absurd (omega arith)
      ]);
    }
