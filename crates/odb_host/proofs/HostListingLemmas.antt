-- A listing of all that was found in a directory, one thing at a time.
use Rattle.std.proofs.Common.{◌≡◌, ◌≢◌, ◌≤◌, ℕ, Bool, ◌∷◌, ◌++◌, [], fold, length, List, Option, Some, Result, Ok, Err, IfOk, IfErr, refl, sym, ap, subst, ◌∙◌, arith}
use Rattle.std.specs.Iterator.{Yields}
use Rattle.std.specs.List.{AllZip}
use Rattle.std.specs.Result.{IsErrAnd}
use Rattle.std.specs.declared.fs.DirEntry.{DirEntry}
use Rattle.std.specs.declared.io.Error.{Error}
use Rattle.std.proofs.iter.Next.{Yields-more}
use Rattle.std.proofs.lemmas.List.Elements.{All-nil, All-push}
use Rattle.std.proofs.lemmas.Slice.Zip.{all_zipped_more}
use Rattle.odb_disk.specs.declared.disk_error.DiskError.{DiskError}
use Rattle.odb_disk.specs.declared.disk_error.DiskError.TheVariants as errors
use Rattle.odb_disk.specs.declared.entry.Entry.{Entry}
use Rattle.odb_host.specs.HostListing.{GivesAll, IsFoundIn, IsListing, IsUnlisted, ListsAll, ListsNone, Takes, bare_listing, listed, with_found}
use Rattle.odb_host.specs.declared.host_listing.Found.{Found}
use Rattle.odb_host.specs.declared.host_listing.Unnamed.{Unnamed}
use Rattle.odb_host.specs.declared.host_listing.Unnamed.TheVariants.{NoMemory}
use Rattle.odb_host.specs.declared.host_listing.Listing.{Listing}

folded_last : (listing : Listing) (reads : List (Result Found Unnamed)) (read : Result Found Unnamed) → fold with_found listing (reads ++ read ∷ []) ≡ with_found (fold with_found listing reads) read
folded_last listing [] read = refl
folded_last listing (first ∷ reads) read = folded_last (with_found listing first) reads read

pub listed_last : (reads : List (Result Found Unnamed)) (read : Result Found Unnamed) → listed (reads ++ read ∷ []) ≡ with_found (listed reads) read
listed_last reads read = folded_last bare_listing reads read

-- the listing of one more thing
pub lists_last : (most : ℕ) (reads : List (Result Found Unnamed)) (read : Result Found Unnamed) (listing more : Listing) → IsListing most reads listing
    → more ≡ with_found listing read → read ≢ Err NoMemory
    → length more.entries ≤ most → IsListing most (reads ++ read ∷ []) more
lists_last most reads read listing more lists added kept few =
    record { is = added ∙ ap (λ l. with_found l read) lists.is ∙ sym (listed_last reads read); none_lost = All-push (λ r. r ≢ Err NoMemory) reads read lists.none_lost kept; few = few }

-- the listing of no reads
pub lists_none : (most : ℕ) → IsListing most [] bare_listing
lists_none most = record { is = refl; none_lost = All-nil (λ r. r ≢ Err NoMemory); few = omega arith }

-- one more thing, and there is no listing
pub lists_no_more : {S R A F D : Type 0} (next_gives : S → Option (Result (DirEntry R A F D) Error) → S → Type 0) (names from left : S) (most : ℕ)
    (read : List (Result (DirEntry R A F D) Error)) (one : Result (DirEntry R A F D) Error) (found : List (Result Found Unnamed)) (listing more : Listing) (error : DiskError)
    → Yields next_gives names read from → next_gives from (Some one) left → AllZip IsFoundIn read found → IsListing most found listing → Takes one most listing more (Err error)
    → ListsNone next_gives names most error
lists_no_more next_gives names from left most read one found listing more error some next each lists took =
    record {
      read = read ++ one ∷ [];
      found = found ++ took.found ∷ [];
      left = left;
      some = Yields-more next_gives names read from one left some next;
      each = all_zipped_more IsFoundIn read found one took.found each took.is;
      why = subst (λ l. IsUnlisted most l error) (ap (λ l. with_found l took.found) lists.is ∙ sym (listed_last found took.found)) took.refused;
    }

-- the stream of the listing of an opened directory
pub gives_listing : {S R A F D : Type 0} (next_gives : S → Option (Result (DirEntry R A F D) Error) → S → Type 0) (most : ℕ) (opened : Result S Error)
    (listed : Result Listing DiskError) (listing : Listing) (gives : Option (List Entry)) (owes : Bool)
    → IfOk opened (λ names. IfOk listed (λ l. ListsAll next_gives names most l)) → listed ≡ Ok listing → gives ≡ Some listing.entries → owes ≡ listing.passed_over
    → IfOk opened (λ names. GivesAll next_gives names most gives owes)
gives_listing next_gives most (Ok names) listed listing gives owes lists is given owed =
    record { listing = listing; lists = subst (λ r. IfOk r (λ l. ListsAll next_gives names most l)) is lists; entries = given; owed = owed }
gives_listing next_gives most (Err e) listed listing gives owes lists is given owed = tt

-- what holds of the error of a result holds at its error
pub if_err : {A E : Type 0} (result : Result A E) (error : E) (Holds : E → Type 0) → IsErrAnd result (λ e. e ≡ error) → Holds error → IfErr result Holds
if_err (Ok x) error Holds is holds = absurd is
if_err (Err e) error Holds is holds = subst Holds (sym is) holds

-- why an opened directory has no stream: the error of its listing, or memory ran out
module _ {S R A F D B : Type 0} (next_gives : S → Option (Result (DirEntry R A F D) Error) → S → Type 0) (most : ℕ) (listed : Result Listing DiskError) (result : Result B DiskError) where
  pub unlisted_error : (directory : Result S Error) (error : DiskError) → IfOk directory (λ names. IfErr listed (λ e. ListsNone next_gives names most e)) → listed ≡ Err error
      → IsErrAnd result (λ e. e ≡ error)
      → IfOk directory (λ names. IfErr result (λ e. ListsNone next_gives names most e))
  unlisted_error (Ok names) error why is failed = if_err result error (λ e. ListsNone next_gives names most e) failed (subst (λ r. IfErr r (λ e. ListsNone next_gives names most e)) is why)
  unlisted_error (Err e) error why is failed = tt

  pub unlisted_memory : (directory : Result S Error) (listing : Listing) → IfOk directory (λ names. IfOk listed (λ l. ListsAll next_gives names most l)) → listed ≡ Ok listing
      → IsErrAnd result (λ e. e ≡ errors.NoMemory)
      → IfOk directory (λ names. IfErr result (λ e. ListsNone next_gives names most e))
  unlisted_memory (Ok names) listing lists is failed =
      let l = subst (λ r. IfOk r (λ l. ListsAll next_gives names most l)) is lists in
      if_err result errors.NoMemory (λ e. ListsNone next_gives names most e) failed (record { read = l.read; found = l.found; left = l.all.1.0; some = l.all.1.1; each = l.each; why = tt })
  unlisted_memory (Err e) listing lists is failed = tt
