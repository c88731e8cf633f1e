-- How many threads work, and how many items they take at a time.
use Rattle.std.specs.Prelude.{ℕ, zero, suc, ◌*◌, ◌/◌, ◌==◌, min, max, nat_le, Option, Some, None, if◌then◌else◌}

-- a limit, if there is one that isn't 0, else the number that there are
abbrev pub threads_of : Option ℕ → ℕ → ℕ
threads_of None there = there
threads_of (Some zero) there = there
threads_of (Some (suc n)) there = suc n

-- A chunk of unknown items is as large as desired if one thread works, else of 50 to 1000 items. Known items are cut so
-- that each thread has two chunks, but not into chunks of less than 1 or of more than 1000 items.
abbrev pub chunk_of : ℕ → Option ℕ → ℕ → ℕ
chunk_of desired None threads = if threads == 1 then desired else max 50 (min desired 1000)
chunk_of desired (Some items) threads = max 1 (min (items / (2 * threads)) 1000)

-- so many chunks occupy half as many threads, but at least one, if there is a thread for each; else all threads
abbrev pub limit_for_chunks : ℕ → ℕ → ℕ
limit_for_chunks chunks threads = if nat_le chunks threads then max (chunks / 2) 1 else threads

-- how many threads the chunks occupy
abbrev pub limit_of : Option ℕ → ℕ → ℕ → ℕ
limit_of None chunk threads = threads
limit_of (Some items) chunk threads = limit_for_chunks (items / chunk) threads
