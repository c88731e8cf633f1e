use Rattle.std.proofs.Common.{sym, ◌∙◌}
use Rattle.gix_hash.proofs.CallLemmas.{IsUtf8-encode_lower, on_ok_at_no_error}
use Rattle.gix_hash.proofs.object_id.ObjectId.write_hex.Goals as goal

-- hex digits are text
pub unreachable-requires-in-Err : goal.unreachable-requires-in-Err
unreachable-requires-in-Err c =
    let written = on_ok_at_no_error c.encode_to_slice.result _ (sym c.is_err.ensures.value ∙ c.if-is_err.false) c.encode_to_slice.ensures.written in
    c.in-Err.ensures.cases.0 (rw written (IsUtf8-encode_lower c.as_bytes-bytes.result.now))
