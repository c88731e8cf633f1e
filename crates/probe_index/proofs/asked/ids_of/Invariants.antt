use Rattle.std.proofs.Common.{◌≡◌, length, map, []}
use Rattle.std.specs.String.{string_bytes}
use Rattle.probe_index.specs.Asked.{ids_of}
use Rattle.probe_index.proofs.asked.ids_of.Given as goal

-- the words that are left ask, after the ids so far, for what all ask
abbrev pub invariant-loop-rest : goal.invariant-loop-rest
invariant-loop-rest l = ids_of l.kind (map (λ word. string_bytes word) l.rest) l.ids ≡ ids_of l.kind (map (λ word. string_bytes word) l.initial.rest) []

abbrev pub decreases-loop-rest : goal.decreases-loop-rest
decreases-loop-rest l = length l.rest
