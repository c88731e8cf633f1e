use Rattle.std.proofs.Common.{◌≡◌, ◌++◌, ◌<◌, ◌^◌, ℕ, List, length, map, subst, ap, ◌∙◌, arith}
use Rattle.std.proofs.lemmas.List.{length-map}
use Rattle.gix_hash.specs.Hash.{hash_of}
use Rattle.gix_hash.specs.ObjectId.{bytes_of, IsId}
use Rattle.gix_pack_write.specs.WrittenPack.{object_seen}
use Rattle.gix_pack_write.proofs.ReadBackLemmas.{made_is_read}
use Rattle.gix_pack_write.proofs.data.encode.Goals as goal

pub returns-clause-read_back : goal.returns-clause-read_back
returns-clause-read_back c =
    let hash_is : c.hash_of_bytes-hash.result ≡ hash_of c.args.kind c.in_ok-pack.pack = c.hash_of_bytes-hash.ensures.hash ∙ ap (hash_of c.args.kind) c.as_slice.ensures.value in
    let written : c.extend_from_slice.new.self ≡ c.in_ok-pack.pack ++ bytes_of (hash_of c.args.kind c.in_ok-pack.pack) =
    c.in_ok-extend_from_slice.ensures.ok ∙ ap (λ (its : List ℕ). c.in_ok-pack.pack ++ its) (c.as_bytes.ensures.bytes ∙ ap bytes_of hash_is) in
    let fits : length c.in_ok-pack.pack < 2 ^ 63 = let same : length c.as_slice.result.now ≡ length c.in_ok-pack.pack = ap length c.as_slice.ensures.value in omega arith in
    let few : length (map object_seen c.args.objects.now) < 2 ^ 31 = omega (arith, length-map c.args.objects.now object_seen) in
    made_is_read c.args.kind (map object_seen c.args.objects.now) c.in_ok-pack.pack c.extend_from_slice.new.self c.in_ok-pack.ensures.front written (subst IsId hash_is c.as_bytes.ensures.id) fits few
