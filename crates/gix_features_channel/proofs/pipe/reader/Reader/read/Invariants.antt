use Rattle.std.proofs.Common.{◌≡◌, ◌≤◌, false, length, map, take, drop}
use Rattle.gix_features_channel.specs.Pipe.{Reads, Byte}
use Rattle.gix_features_channel.proofs.pipe.reader.Reader.read.Given as goal

-- the front of the buffer has what was given so far, and the rest is as it was
abbrev pub invariant-filling : goal.invariant-filling
invariant-filling g l = record {
  within : l.filled ≤ length l.out;
  given : Reads l.fn.self l.self (map Byte (take l.filled l.out));
  rest : drop l.filled l.out ≡ drop l.filled l.initial.out;
  note : l.self.has_ended ≡ false;
}
