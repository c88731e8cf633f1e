use Rattle.std.proofs.Common.{◌≡◌, [], true}
use Rattle.gix_features_channel.specs.Pipe.{Reads, gives_something}
use Rattle.gix_features_channel.proofs.pipe.reader.Reader.reach.Given as goal

abbrev pub invariant-reaching : goal.invariant-reaching
invariant-reaching g l = record {
  nothing : Reads l.initial.self l.self [];
  same : gives_something l.initial.self.next ≡ true → l.self.next ≡ l.initial.self.next;
  note : l.self.has_ended ≡ l.initial.self.has_ended;
}
