-- The laws of the results of a test, a find and a header look-up by the answer to their ask.
pub mod File
pub mod Read
pub mod Look
use Rattle.std.specs.Prelude.{◌≡◌, refl}
use Rattle.gix_hash.specs.declared.kind.Kind.{Kind}
use Rattle.gix_hash.specs.declared.object_id.ObjectId.{ObjectId}
use Rattle.gix_object.specs.declared.want.Want.{Want}
use Rattle.gix_object.specs.declared.want.Want.TheVariants.{Object, Header, Presence}
use Rattle.gix_odb_loose.specs.LooseFile.{IsFinding, id_asked}
use Rattle.gix_odb_loose.specs.LooseOrder.{job_of, started, started_for}
use Rattle.gix_odb_loose.specs.declared.store.Store.{Store}

-- The call of a caller who wants this much of an object is that of its job, which writes nothing, for this id.
pub started_for-is : (store : Store) (want : Want) (id : ObjectId) → started store (job_of want id) ≡ started_for store want id
started_for-is store Object id = refl
started_for-is store Header id = refl
started_for-is store Presence id = refl

pub job_of-asks : (hash : Kind) (want : Want) (id : ObjectId) → id_asked hash (job_of want id) ≡ id
job_of-asks hash Object id = refl
job_of-asks hash Header id = refl
job_of-asks hash Presence id = refl

pub job_of-finds : (want : Want) (id : ObjectId) → IsFinding (job_of want id)
job_of-finds Object id = tt
job_of-finds Header id = tt
job_of-finds Presence id = tt
