use Rattle.std.proofs.Common.{◌≡◌, true, false, codes, refl}
use Rattle.odb_base.specs.Path.{is_name}
use Rattle.gix_odb_search.proofs.folders.multi_index_path.Goals as goal

-- the name that is joined is one
is_multi_pack : is_name (codes "multi-pack-index") ≡ true
unfolding is_name
is_multi_pack = refl

pub returns-in-Err-Malformed : goal.returns-in-Err-Malformed
returns-in-Err-Malformed c =
    let refused = rw c.in-Err-Malformed.field-0-is at c.in-Err-Malformed.ensures.refused in
    let no_name : is_name (codes "multi-pack-index") ≡ false = refused.0 refl in
    let named = is_multi_pack in
    absurd cc
