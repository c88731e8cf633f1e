use Rattle.std.proofs.Common.{◌||◌, Bool, List, [], get_or, length, ap, arith}
use Rattle.gix_hash.specs.declared.object_id.ObjectId.{ObjectId}
use Rattle.gix_hash.specs.declared.object_id.ObjectId.TheVariants.{Sha1}
use Rattle.gix_odb_loose.specs.NameSet.{is_among}
use Rattle.gix_odb_loose.proofs.PrefixSetLemmas.{added_one}
use Rattle.gix_odb_loose.proofs.store_prefix.put_all.Goals as goal

pub loop-id-init : goal.loop-id-init
loop-id-init c =
    record {
      all = λ id. ap (λ (has : Bool). has || is_among c.args.names.now id) (c.reserve.ensures.keys.2 id);
      room = omega (arith, c.in_ok-reserve.ensures.ok, c.len.ensures.len);
    }

pub loop-id-preserved : goal.loop-id-preserved
loop-id-preserved c =
    record {
      all =
          added_one c.loop-id.set c.insert.new.self c.args.names.now c.loop-id.id-index _ (Sha1 []) _ (omega (arith, c.loop-id-test.true, ap length c.as_slice-id-items.ensures.value))
          (ap (λ (ids : List ObjectId). get_or ids c.loop-id.id-index (Sha1 [])) c.as_slice-id-items.ensures.value) (λ q. c.in_ok-insert.ensures.updates.0 q) c.loop-id.invariant.all;
      room = omega (arith, c.loop-id.invariant.room, c.insert.ensures.spare);
    }
