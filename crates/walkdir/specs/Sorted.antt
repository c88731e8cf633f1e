-- Orders of entries, and the laws of the orders that come with the crate.
use Rattle.std.specs.Prelude.{List, refl}
use Rattle.std.specs.Cmp.{IsTotalOrder}
use Rattle.std.specs.Cmp.Lexicographic.{nat_list_cmp_total}
use Rattle.std.specs.List.Sorted.{IsPermutation, IsSorted, IsStable}
use Rattle.std.specs.declared.cmp.Ordering.{Ordering}
use Rattle.std.specs.declared.cmp.Ordering.TheVariants.{Equal}
use Rattle.odb_base.specs.Path.{name_cmp}
use Rattle.walkdir.specs.Entry.{file_name_of}
use Rattle.walkdir.specs.declared.dent.DirEntry.{DirEntry}

-- all entries are equal
abbrev pub all_equal : DirEntry → DirEntry → Ordering
all_equal a b = Equal

pub all_equal_total : IsTotalOrder all_equal
all_equal_total = record { antisymm = λ a b. refl; trans = λ a b c p q. p; congr = λ a b c p. refl }

-- entries in the order of something that they have
abbrev pub by_key : {K : Type 0} → (K → K → Ordering) → (DirEntry → K) → DirEntry → DirEntry → Ordering
by_key cmp key a b = cmp (key a) (key b)

pub by_key_total : {K : Type 0} {cmp : K → K → Ordering} → IsTotalOrder cmp → (key : DirEntry → K) → IsTotalOrder (by_key cmp key)
by_key_total total key = record {
  antisymm = λ a b. total.antisymm (key a) (key b);
  trans = λ a b c. total.trans (key a) (key b) (key c);
  congr = λ a b c. total.congr (key a) (key b) (key c);
}

pub by_name_total : IsTotalOrder (by_key name_cmp file_name_of)
by_name_total = by_key_total nat_list_cmp_total file_name_of

-- the entries of a list, stably sorted
pub record IsSortedFrom (order : DirEntry → DirEntry → Ordering) (old new : List DirEntry) : Type 0 where
  pub same : IsPermutation old new
  pub rises : IsSorted order new
  pub stable : IsStable order old new
