-- Paths, replies and what files hold, on examples, by computation.
use Rattle.std.proofs.Common.{◌≡◌, ℕ, List, [], ◌∷◌, ◌++◌, codes, true, false, Option, Some, None, Result, Ok, Err, refl}
use Rattle.odb_base.specs.Decimal.{number_of}
use Rattle.odb_base.specs.Path.{Path}
use Rattle.odb_disk.specs.declared.ask.DiskAnswer.TheVariants as answers
use Rattle.odb_disk.specs.declared.disk_error.DiskError.TheVariants as disk_errors
use Rattle.odb_disk.specs.declared.meta.Kind.TheVariants as nodes
use Rattle.gix_hash.specs.ObjectId.{hex_of}
use Rattle.gix_hash.specs.declared.object_id.ObjectId.{ObjectId}
use Rattle.gix_hash.specs.declared.object_id.ObjectId.TheVariants.{Sha1}
use Rattle.gix_object.specs.Kind.{kind_of_word}
use Rattle.gix_object.specs.Loose.{loose_of, spelled}
use Rattle.gix_object.specs.declared.kind.Kind.{Kind}
use Rattle.gix_object.specs.declared.kind.Kind.TheVariants.{Blob}
use Rattle.gix_odb_loose.specs.LooseFile.{loose_path, IsWithin, Holds, HeaderOf, Presence}
use Rattle.gix_odb_loose.specs.LooseOrder.Answered.{tested_by, found_by, header_by, unreadable}
use Rattle.gix_odb_loose.specs.declared.call.LooseJob.TheVariants as jobs
use Rattle.gix_odb_loose.specs.declared.find.Error.{Error}
use Rattle.gix_odb_loose.specs.declared.find.Error.TheVariants as errors

-- ---- the path of an object's file

behind_two_digits : (id : ObjectId) → hex_of id ≡ codes "abcdef" → loose_path (codes "o" ∷ []) id ≡ codes "o" ∷ codes "ab" ∷ codes "cdef" ∷ []
unfolding loose_path
behind_two_digits id is = rw is refl

-- ---- what a find replies to a file

abbrev at : Path
at = codes "o" ∷ codes "ab" ∷ codes "cd" ∷ []

abbrev found_in : Option ℕ → List ℕ → Result (Option (Kind × List ℕ)) Error
found_in limit bytes = found_by at limit (answers.File bytes 7)

abbrev hello : List ℕ
hello = codes "blob 5" ++ 0 ∷ codes "hello"

found_hello : found_in None hello ≡ Ok (Some (Blob, codes "hello"))
unfolding loose_of spelled kind_of_word number_of
found_hello = refl

found_at_the_limit : found_in (Some 5) hello ≡ Ok (Some (Blob, codes "hello"))
unfolding loose_of spelled kind_of_word number_of
found_at_the_limit = refl

above_the_limit : found_in (Some 4) hello ≡ Err (errors.OutOfMemory 5)
unfolding loose_of spelled kind_of_word number_of
above_the_limit = refl

-- the limit is tested before the length
damaged_above_the_limit : found_in (Some 4) (hello ++ 33 ∷ []) ≡ Err (errors.OutOfMemory 5)
unfolding loose_of spelled kind_of_word number_of
damaged_above_the_limit = refl

longer_data : found_in None (hello ++ 33 ∷ []) ≡ Err (errors.SizeMismatch 6 5 at)
unfolding loose_of spelled kind_of_word number_of
longer_data = refl

shorter_data : found_in None (codes "blob 5" ++ 0 ∷ codes "hell") ≡ Err (errors.SizeMismatch 4 5 at)
unfolding loose_of spelled kind_of_word number_of
shorter_data = refl

no_bytes : found_in None [] ≡ Err (unreadable at)
no_bytes = refl

no_header : found_in None (codes "hello") ≡ Err errors.Decode
unfolding loose_of spelled kind_of_word number_of
no_header = refl

-- ---- what a header look-up replies: the limit and the data don't count

header_of_hello : header_by at (answers.File (hello ++ 33 ∷ []) 7) ≡ Ok (Some (5, Blob))
unfolding loose_of spelled kind_of_word number_of
header_of_hello = refl

header_of_no_bytes : header_by at (answers.File [] 7) ≡ Err (unreadable at)
header_of_no_bytes = refl

-- ---- refusals

absent : found_by at None (answers.Refused disk_errors.Absent) ≡ Ok None
absent = refl

blocked : found_by at None (answers.Refused disk_errors.WrongKind) ≡ Err (unreadable at)
blocked = refl

failed : header_by at (answers.Refused disk_errors.Failed) ≡ Err (unreadable at)
failed = refl

no_memory : found_by at None (answers.Refused disk_errors.NoMemory) ≡ Err errors.NoMemory
no_memory = refl

-- ---- a test of presence

a_file : tested_by at (answers.Meta (record { kind = nodes.File; dev = 0; ino = 2; len = 0; time = 0 })) ≡ Ok true
a_file = refl

a_directory : tested_by at (answers.Meta (record { kind = nodes.Dir; dev = 0; ino = 2; len = 0; time = 0 })) ≡ Ok false
a_directory = refl

blocked_test : tested_by at (answers.Refused disk_errors.WrongKind) ≡ Ok false
blocked_test = refl

failed_test : tested_by at (answers.Refused disk_errors.Failed) ≡ Err (unreadable at)
failed_test = refl

-- ---- what files hold

any_file_is_present : Holds None (jobs.Contains (Sha1 [])) [] Presence
any_file_is_present = tt

a_header_is_no_object : ¬ (Holds None (jobs.Find (Sha1 [])) hello (HeaderOf Blob 5))
a_header_is_no_object = λ h. h

the_limit_is_within : IsWithin (Some 5) 5
the_limit_is_within = refl
