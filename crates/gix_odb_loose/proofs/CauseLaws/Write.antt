-- A cause of a write's error by narrower evidence is a cause by wider evidence.
use Rattle.std.specs.Prelude.{ℕ}
use Rattle.std.proofs.Common.{inl, inr}
use Rattle.odb_disk.specs.declared.ask.DiskAsk.{DiskAsk}
use Rattle.odb_disk.specs.declared.ask.DiskAsk.TheVariants as asks
use Rattle.gix_hash.specs.declared.object_id.ObjectId.{ObjectId}
use Rattle.gix_odb_loose.specs.Causes.{IoCause, WriteCause}
use Rattle.gix_odb_loose.specs.declared.write_order.WriteHead.{WriteHead}
use Rattle.gix_odb_loose.specs.declared.write.Error.{Error}
use Rattle.gix_odb_loose.specs.declared.write.Error.TheVariants as errors
use Rattle.gix_odb_loose.specs.declared.write.Message.{Message}
use Rattle.gix_odb_loose.specs.declared.write.Message.TheVariants as messages

-- the asks of a write whose refusals are causes
abbrev pub IsMaking : DiskAsk → Type 0
IsMaking (asks.NewFile path) = Unit {0}
IsMaking (asks.Append path bytes) = Unit {0}
IsMaking (asks.MakeDir path) = Unit {0}
IsMaking (asks.Rename from to) = Unit {0}
IsMaking (asks.Look path follow) = ⊥
IsMaking (asks.Read path) = ⊥
IsMaking (asks.OpenDir path) = ⊥
IsMaking (asks.NextEntry dir) = ⊥
IsMaking (asks.CloseDir dir) = ⊥
IsMaking (asks.Remove path) = ⊥

module _ (head : WriteHead) (Refuses Refuses' Exists Exists' Done Done' : DiskAsk → Type 0) (refuses : (ask : DiskAsk) → IsMaking ask → Refuses ask → Refuses' ask)
    (exists : (ask : DiskAsk) → Exists ask → Exists' ask)
    (done : (ask : DiskAsk) → Done ask → Done' ask) (SourceFailed SourceFailed' : Type 0) (source : SourceFailed → SourceFailed') where
  IoCause-wider : (message : Message) → IoCause head Refuses Exists Done SourceFailed message → IoCause head Refuses' Exists' Done' SourceFailed' message
  IoCause-wider messages.CreateTempFile h = elim h [ inl one ↦ inl (one.0, one.1, refuses _ tt one.2) | inr all ↦ inr (λ number below. exists _ (all number below)) ]
  IoCause-wider messages.WriteHeader h = (h.0, done _ h.1, refuses _ tt h.2)
  IoCause-wider messages.StreamData h = elim h [ inl failed ↦ inl (source failed) | inr one ↦ inr (one.0, one.1, done _ one.2, refuses _ tt one.3) ]

  pub WriteCause-wider : (Named Named' : ObjectId → Type 0) → ((id : ObjectId) → Named id → Named' id) → (Wanting Wanting' : Type 0) → (Wanting → Wanting') → (Counted Counted' : ℕ → Type 0)
      → ((n : ℕ) → Counted n → Counted' n)
      → (error : Error) → WriteCause head Named Refuses Exists Done SourceFailed Wanting Counted error → WriteCause head Named' Refuses' Exists' Done' SourceFailed' Wanting' Counted' error
  WriteCause-wider Named Named' named Wanting Wanting' wants Counted Counted' counted (errors.Io message at) h = (h.0, IoCause-wider message h.1)
  WriteCause-wider Named Named' named Wanting Wanting' wants Counted Counted' counted errors.IoRaw h = (h.0, named h.0 h.1, refuses _ tt h.2)
  WriteCause-wider Named Named' named Wanting Wanting' wants Counted Counted' counted (errors.Persist target) h =
      (h.0, named h.0 h.1, h.2, (h.3.0, done _ h.3.1, elim h.3.2 [ inl made ↦ inl (done _ made) | inr there ↦ inr (exists _ there) ], refuses _ tt h.3.3))
  WriteCause-wider Named Named' named Wanting Wanting' wants Counted Counted' counted (errors.SizeMismatch expected actual) h = (
    h.0,
    counted actual h.1,
    record { number = h.2.number; made = done _ h.2.made; pieces = h.2.pieces; each = λ k d less. done _ (h.2.each k d less); counted = h.2.counted },
  )
  WriteCause-wider Named Named' named Wanting Wanting' wants Counted Counted' counted errors.NoMemory h = wants h
