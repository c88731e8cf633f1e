use Rattle.std.proofs.Common.{refl}
use Rattle.gix_hash.proofs.CallLemmas.{IsBytes-zeros}
use Rattle.gix_hash.proofs.object_id.ObjectId.null.Goals as goal

-- thirty-two zeros
pub returns-in-Sha256-clause-id : goal.returns-in-Sha256-clause-id
returns-in-Sha256-clause-id c = record { bytes = IsBytes-zeros 32; size = refl }
