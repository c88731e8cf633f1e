use Rattle.std.proofs.Common.{arith, refl, Err, Ok}
use Rattle.gix_hash.specs.declared.object_id.HexError.TheVariants.{Length}
use Rattle.gix_hash.specs.declared.object_id.ObjectId.TheVariants.{Sha1, Sha256}
use Rattle.gix_hash.proofs.CallLemmas.{answer-is_id, answers_Sha1, answers_Sha256, answers_other_byte, answers_other_length, only_that_id}
use Rattle.gix_hash.proofs.object_id.ObjectId.from_hex.Goals as goal

-- forty digits were read
pub returns-in_ok-decoded-in-40-clause-exact : goal.returns-in_ok-decoded-in-40-clause-exact
returns-in_ok-decoded-in-40-clause-exact c =
    answers_Sha1 _ _ (c.in_ok-decoded-in-40.ensures.read.0 refl).1 c.in-40.is c.in_ok-decoded-in-40.ensures.value

pub returns-in_ok-decoded-in-40-clause-found : goal.returns-in_ok-decoded-in-40-clause-found
returns-in_ok-decoded-in-40-clause-found c = (answer-is_id _ (Ok (Sha1 c.in_ok-decoded-in-40.field-0)) (returns-in_ok-decoded-in-40-clause-exact c)).0

pub returns-in_ok-decoded-in-40-clause-id : goal.returns-in_ok-decoded-in-40-clause-id
returns-in_ok-decoded-in-40-clause-id c = (answer-is_id _ (Ok (Sha1 c.in_ok-decoded-in-40.field-0)) (returns-in_ok-decoded-in-40-clause-exact c)).1

pub returns-in_ok-decoded-in-40-clause-only : goal.returns-in_ok-decoded-in-40-clause-only
returns-in_ok-decoded-in-40-clause-only c = only_that_id _ _ (returns-in_ok-decoded-in-40-clause-exact c)

-- forty bytes were refused
pub returns-in_err-decoded-in-40-clause-exact : goal.returns-in_err-decoded-in-40-clause-exact
returns-in_err-decoded-in-40-clause-exact c =
    answers_other_byte _ _ 40 c.in-40.is c.in_err-decoded-in-40.ensures.read.1 c.from_residual.ensures.0

pub returns-in_err-decoded-in-40-clause-only : goal.returns-in_err-decoded-in-40-clause-only
returns-in_err-decoded-in-40-clause-only c = only_that_id _ _ (returns-in_err-decoded-in-40-clause-exact c)

-- sixty-four digits were read
pub returns-in_ok-decoded-in-64-clause-exact : goal.returns-in_ok-decoded-in-64-clause-exact
returns-in_ok-decoded-in-64-clause-exact c =
    answers_Sha256 _ _ (c.in_ok-decoded-in-64.ensures.read.0 refl).1 c.in-64.is c.in_ok-decoded-in-64.ensures.value

pub returns-in_ok-decoded-in-64-clause-found : goal.returns-in_ok-decoded-in-64-clause-found
returns-in_ok-decoded-in-64-clause-found c = (answer-is_id _ (Ok (Sha256 c.in_ok-decoded-in-64.field-0)) (returns-in_ok-decoded-in-64-clause-exact c)).0

pub returns-in_ok-decoded-in-64-clause-id : goal.returns-in_ok-decoded-in-64-clause-id
returns-in_ok-decoded-in-64-clause-id c = (answer-is_id _ (Ok (Sha256 c.in_ok-decoded-in-64.field-0)) (returns-in_ok-decoded-in-64-clause-exact c)).1

pub returns-in_ok-decoded-in-64-clause-only : goal.returns-in_ok-decoded-in-64-clause-only
returns-in_ok-decoded-in-64-clause-only c = only_that_id _ _ (returns-in_ok-decoded-in-64-clause-exact c)

-- sixty-four bytes were refused
pub returns-in_err-decoded-in-64-clause-exact : goal.returns-in_err-decoded-in-64-clause-exact
returns-in_err-decoded-in-64-clause-exact c =
    answers_other_byte _ _ 64 c.in-64.is c.in_err-decoded-in-64.ensures.read.1 c.from_residual-in_err-decoded-in-64.ensures.0

pub returns-in_err-decoded-in-64-clause-only : goal.returns-in_err-decoded-in-64-clause-only
returns-in_err-decoded-in-64-clause-only c = only_that_id _ _ (returns-in_err-decoded-in-64-clause-exact c)

-- another length was refused
pub returns-in_default-clause-exact : goal.returns-in_default-clause-exact
returns-in_default-clause-exact c = answers_other_length _ (Err Length) (omega arith) (omega arith) refl

pub returns-in_default-clause-only : goal.returns-in_default-clause-only
returns-in_default-clause-only c = only_that_id _ _ (returns-in_default-clause-exact c)
