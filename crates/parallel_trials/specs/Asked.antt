-- What a trial may ask for.
use Rattle.std.specs.Prelude.{ℕ, ◌<◌, ◌≤◌}
use Rattle.parallel_trials.specs.declared.trial.Trial.{Trial}
use Rattle.parallel_trials.specs.declared.trial.Trial.TheVariants.{Hash, Pipe, Stop, Draw, Slice}

-- a number from 1 to 65,536
abbrev pub IsFew : ℕ → Type 0
IsFew n = (0 < n) × (n ≤ 65536)

-- each number of a trial is from 1 to 65,536
abbrev pub IsBounded : Trial → Type 0
IsBounded (Hash workers messages kib) = IsFew workers × IsFew messages × IsFew kib
IsBounded (Pipe pieces kib) = IsFew pieces × IsFew kib
IsBounded (Stop items workers) = IsFew items × IsFew workers
IsBounded (Draw items chunk_size) = IsFew items × IsFew chunk_size
IsBounded (Slice items workers) = IsFew items × IsFew workers
