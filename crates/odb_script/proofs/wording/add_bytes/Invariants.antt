use Rattle.std.proofs.Common.{◌≡◌, ◌++◌, take}
use Rattle.odb_script.specs.Told.{shown_bytes}
use Rattle.odb_script.proofs.wording.add_bytes.Given as goal

-- the bytes so far are there as they are shown
abbrev pub invariant-loop-byte : goal.invariant-loop-byte
invariant-loop-byte l = l.out.items ≡ l.fn.out.items ++ shown_bytes (take l.byte-index l.bytes)
