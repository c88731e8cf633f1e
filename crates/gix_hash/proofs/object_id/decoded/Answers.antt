use Rattle.std.proofs.Common.{sym, ◌∙◌}
use Rattle.gix_hash.proofs.CallLemmas.{IsOk-decode_sized-lower}
use Rattle.gix_hash.proofs.object_id.decoded.Goals as goal

-- digits in lower case are read if there is just room for them
pub returns-clause-read : goal.returns-clause-read
returns-clause-read g c =
    let low = sym c.is_lower.ensures.lower ∙ c.if-not-is_lower.false in
    rw (c.map_err.ensures.variant, c.from_hex.ensures) (IsOk-decode_sized-lower c.args.text.now g.row.N low)
