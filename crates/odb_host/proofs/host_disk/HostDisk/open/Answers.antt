use Rattle.std.proofs.Common.{◌≡◌, ◌∙◌, ap, false, Option, Some, None, is_some, refl}
use Rattle.odb_disk.specs.Streams.{Streams, still_gives, with_opened}
use Rattle.odb_disk.proofs.StreamsLemmas.{gives_opened}
use Rattle.odb_host.proofs.host_disk.HostDisk.open.Goals as goal

-- a number that no open stream has gives nothing
nothing : {A : Type 0} (o : Option A) → is_some o ≡ false → o ≡ None
nothing None free = refl
nothing (Some x) free = cc

pub returns-clause-opened : goal.returns-clause-opened
returns-clause-opened g c = λ path.
    let streams : c.set_owing.new.self.streams ≡ with_opened c.args.self.now.streams c.in_ok-dir.dir c.args.listing.entries = c.set_owing.ensures.same.0 ∙ c.in_ok-dir.ensures.opened in
    record {
      entries = c.args.listing.entries;
      was_free = nothing _ c.in_ok-dir.ensures.least.free;
      few = c.in_ok-dir.ensures.few;
      streams = streams;
      fixed = tt;
    }

pub returns-clause-given : goal.returns-clause-given
returns-clause-given g c =
    let streams : c.set_owing.new.self.streams ≡ with_opened c.args.self.now.streams c.in_ok-dir.dir c.args.listing.entries = c.set_owing.ensures.same.0 ∙ c.in_ok-dir.ensures.opened in
    ap (λ (s : Streams). still_gives s c.in_ok-dir.dir) streams ∙ gives_opened c.args.self.now.streams c.in_ok-dir.dir c.args.listing.entries
