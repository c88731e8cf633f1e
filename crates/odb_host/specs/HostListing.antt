-- How a real disk lists what it reads of a directory.
use Rattle.std.specs.Prelude.{◌≡◌, ◌≢◌, ◌<◌, ◌≤◌, ◌++◌, ◌||◌, ℕ, Bool, true, false, fold, length, List, [], Option, Some, Result, Ok, Err, OnOk, IfErr, MatchResult}
use Rattle.std.specs.Iterator.{Drains, Yields}
use Rattle.std.specs.List.{All, AllZip, cons_option}
use Rattle.std.specs.Fs.{dir_entry_name}
use Rattle.std.specs.declared.fs.DirEntry.{DirEntry}
use Rattle.std.specs.declared.io.Error.{Error}
use Rattle.odb_host.specs.HostDisk.{found_entry, is_odd}
use Rattle.odb_disk.specs.declared.entry.Entry.{Entry}
use Rattle.odb_disk.specs.declared.disk_error.DiskError.{DiskError}
use Rattle.odb_disk.specs.declared.disk_error.DiskError.TheVariants as errors
use Rattle.odb_host.specs.declared.host_listing.Found.{Found}
use Rattle.odb_host.specs.declared.host_listing.Unnamed.{Unnamed}
use Rattle.odb_host.specs.declared.host_listing.Unnamed.TheVariants.{NoMemory, Unreadable}
use Rattle.odb_host.specs.declared.host_listing.Listing.{Listing}

abbrev pub bare_listing : Listing
bare_listing = record { entries = []; passed_over = false }

-- A listing after something more was found: the entry of a name that was found there, or something that is skipped.
abbrev pub with_found : Listing → Result Found Unnamed → Listing
with_found listing (Ok found) =
    record {
      entries = listing.entries ++ cons_option (found_entry found.name found.seen) [];
      passed_over = listing.passed_over || is_odd found.name found.seen;
    }
with_found listing (Err Unreadable) = record listing { passed_over = true }
with_found listing (Err NoMemory) = listing

-- the listing of all that was found
abbrev pub listed : List (Result Found Unnamed) → Listing
listed found = fold with_found bare_listing found

-- a listing of all that was found: memory didn't run out for a name, and there aren't more entries than that
pub record IsListing (most : ℕ) (found : List (Result Found Unnamed)) (listing : Listing) : Type 0 where
  pub is : listing ≡ listed found
  pub none_lost : All (λ one. one ≢ Err NoMemory) found
  pub few : length listing.entries ≤ most

-- why a listing stays unfinished: it has more entries than that, or memory ran out
abbrev pub IsUnlisted : ℕ → Listing → DiskError → Type 0
IsUnlisted most listing errors.Failed = most < length listing.entries
IsUnlisted most listing errors.NoMemory = Unit {0}
IsUnlisted most listing error = ⊥

-- What is found of something that was read in a directory: its name; none if memory ran out, or if it can't be read.
abbrev pub IsFoundIn : {R A F D : Type 0} → Result (DirEntry R A F D) Error → Result Found Unnamed → Type 0
IsFoundIn (Ok entry) found = MatchResult found (λ f. f.name ≡ dir_entry_name entry) (λ why. why ≡ NoMemory)
IsFoundIn (Err error) found = found ≡ Err Unreadable

-- the listing of all that is read of an opened directory, in order
pub record ListsAll {S R A F D : Type 0} (next_gives : S → Option (Result (DirEntry R A F D) Error) → S → Type 0) (names : S) (most : ℕ) (listing : Listing) : Type 0 where
  pub read : List (Result (DirEntry R A F D) Error)
  pub found : List (Result Found Unnamed)
  pub all : Drains next_gives names read
  pub each : AllZip IsFoundIn read found
  pub is : IsListing most found listing

-- what a stream gives, and whether it must still fail: all that is read of an opened directory, and whether something was
-- skipped
pub record GivesAll {S R A F D : Type 0} (next_gives : S → Option (Result (DirEntry R A F D) Error) → S → Type 0) (names : S) (most : ℕ) (gives : Option (List Entry)) (owes : Bool) : Type 0 where
  pub listing : Listing
  pub lists : ListsAll next_gives names most listing
  pub entries : gives ≡ Some listing.entries
  pub owed : owes ≡ listing.passed_over

-- why an opened directory has none, after some of it was read
pub record ListsNone {S R A F D : Type 0} (next_gives : S → Option (Result (DirEntry R A F D) Error) → S → Type 0) (names : S) (most : ℕ) (error : DiskError) : Type 0 where
  pub read : List (Result (DirEntry R A F D) Error)
  pub found : List (Result Found Unnamed)
  pub left : S
  pub some : Yields next_gives names read left
  pub each : AllZip IsFoundIn read found
  pub why : IsUnlisted most (listed found) error

-- how one thing that is read in a directory changes a listing, which then has at most `most` entries
pub record Takes {R A F D : Type 0} (read : Result (DirEntry R A F D) Error) (most : ℕ) (old new : Listing) (result : Result (Unit {0}) DiskError) : Type 0 where
  pub found : Result Found Unnamed
  pub is : IsFoundIn read found
  pub added : OnOk result (new ≡ with_found old found)
  pub kept : OnOk result (found ≢ Err NoMemory)
  pub few : OnOk result (length new.entries ≤ most)
  pub refused : IfErr result (IsUnlisted most (with_found old found))
