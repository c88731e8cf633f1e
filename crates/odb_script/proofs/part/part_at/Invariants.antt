use Rattle.std.proofs.Common.{◌≡◌, ◌==◌, ◌-◌, [], get_or, length, nat_le}
use Rattle.std.specs.List.{slice_split}
use Rattle.odb_script.proofs.part.part_at.Given as goal

-- the part that is sought is, of those that are left, the one whose number is left
abbrev pub invariant-loop-part : goal.invariant-loop-part
invariant-loop-part l = record {
  same : get_or (slice_split (λ b. b == l.separator) l.rest) (l.left - 1) [] ≡ get_or (slice_split (λ b. b == l.separator) l.bytes) (l.number - 1) [];
  last : nat_le (length (slice_split (λ b. b == l.separator) l.rest)) l.left ≡ nat_le (length (slice_split (λ b. b == l.separator) l.bytes)) l.number;
}

abbrev pub decreases-loop-part : goal.decreases-loop-part
decreases-loop-part l = length l.rest
