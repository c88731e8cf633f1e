-- Headers and ids on examples, by computation.
use Rattle.std.proofs.Common.{◌≡◌, ◌^◌, ◌-◌, ℕ, List, [], ◌∷◌, ◌++◌, codes, replicate, Some, None, refl}
use Rattle.std.specs.Fmt.{digits}
use Rattle.odb_base.specs.Decimal.{number_of}
use Rattle.gix_object.specs.Kind.{kind_of_word}
use Rattle.gix_object.specs.Loose.{header_of, loose_of, spelled}
use Rattle.gix_object.specs.declared.kind.Kind.TheVariants.{Commit, Tree, Blob, Tag}

-- ---- what is written

blob_13 : header_of Blob 13 ≡ 98 ∷ 108 ∷ 111 ∷ 98 ∷ 32 ∷ 49 ∷ 51 ∷ 0 ∷ []
unfolding header_of digits
blob_13 = refl

empty_tree : header_of Tree 0 ≡ codes "tree 0" ++ 0 ∷ []
unfolding header_of digits
empty_tree = refl

longest : header_of Commit (2 ^ 64 - 1) ≡ codes "commit 18446744073709551615" ++ 0 ∷ []
unfolding header_of digits
longest = refl

-- ---- what is read

is_blob_13 : loose_of (codes "blob 13" ++ 0 ∷ codes "data") ≡ Some (record { kind = Blob; size = 13; rest = codes "data" })
unfolding loose_of spelled kind_of_word number_of
is_blob_13 = refl

is_tag_of_the_greatest_size : loose_of (codes "tag 18446744073709551615" ++ 0 ∷ []) ≡ Some (record { kind = Tag; size = 2 ^ 64 - 1; rest = [] })
unfolding loose_of spelled kind_of_word number_of
is_tag_of_the_greatest_size = refl

abbrev IsNoHeader : List ℕ → Type 0
IsNoHeader header = loose_of (header ++ 0 ∷ []) ≡ None

leading_zero : IsNoHeader (codes "blob 013")
unfolding loose_of spelled kind_of_word number_of
leading_zero = refl

no_size : IsNoHeader (codes "blob ")
unfolding loose_of spelled kind_of_word number_of
no_size = refl

two_spaces : IsNoHeader (codes "blob  13")
unfolding loose_of spelled kind_of_word number_of
two_spaces = refl

plus_sign : IsNoHeader (codes "blob +13")
unfolding loose_of spelled kind_of_word number_of
plus_sign = refl

other_word : IsNoHeader (codes "blobs 13")
unfolding loose_of spelled kind_of_word number_of
other_word = refl

past_64_bits : IsNoHeader (codes "blob 18446744073709551616")
unfolding loose_of spelled kind_of_word number_of
past_64_bits = refl

no_end : loose_of (codes "blob 13") ≡ None
unfolding loose_of spelled kind_of_word number_of
no_end = refl

late_end : IsNoHeader (codes "blob 1" ++ replicate 58 48)
unfolding loose_of spelled kind_of_word number_of
late_end = refl
