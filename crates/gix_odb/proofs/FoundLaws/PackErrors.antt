-- An entry of a pack is refused for what the entry is: that the bytes are no pack is reported before an entry is sought. No limit refuses a header.
use Rattle.std.proofs.Common.{◌≡◌, ℕ, Bool, true, false, cond, List, Option, Result, Ok, Err, refl, sym, subst}
use Rattle.gix_hash.specs.declared.kind.Kind.{Kind}
use Rattle.gix_object.specs.declared.kind.Kind.{Kind as ObjectKind}
use Rattle.gix_pack_read.specs.Pack.{Head, entry_at, head_at, header_at, kind_of_code, object_behind}
use Rattle.gix_pack_read.specs.declared.data.Error.{Error}
use Rattle.gix_pack_read.specs.declared.data.Error.TheVariants.{BadPack, OutOfMemory}
use Rattle.gix_pack_read.specs.declared.data.entry.Header.{Header}

-- an error that an entry has
abbrev pub IsOfEntry : Error → Type 0
IsOfEntry BadPack = ⊥
IsOfEntry error = Unit {0}

-- an error that the header of one has
abbrev pub IsOfHeader : Error → Type 0
IsOfHeader BadPack = ⊥
IsOfHeader (OutOfMemory size) = ⊥
IsOfHeader error = Unit {0}

abbrev Fits : {A : Type 0} → (Error → Type 0) → Result A Error → Type 0
Fits P (Ok read) = Unit {0}
Fits P (Err error) = P error

either : {A : Type 0} (P : Error → Type 0) (b : Bool) (x y : Result A Error) → Fits P x → Fits P y → Fits P (cond b x y)
either P true x y first other = first
either P false x y first other = other

of_entry : (error : Error) → IsOfHeader error → IsOfEntry error
of_entry BadPack fits = fits
of_entry error fits = tt

head_fits : (kind : Kind) (bytes : List ℕ) (offset : ℕ) → Fits IsOfHeader (head_at kind bytes offset)
unfolding head_at
head_fits kind bytes offset = search either

kind_fits : (code : ℕ) → Fits IsOfHeader (kind_of_code code)
unfolding kind_of_code
kind_fits code = search either depth 8

object_fits : (kind : Kind) (bytes : List ℕ) (offset : ℕ) (limit : Option ℕ) (header : Header) → Fits IsOfEntry (object_behind kind bytes offset limit header)
unfolding object_behind
object_fits kind bytes offset limit header = search either

header_fits : (kind : Kind) (bytes : List ℕ) (offset : ℕ) → Fits IsOfHeader (header_at kind bytes offset)
unfolding header_at
header_fits kind bytes offset = by_head (head_at kind bytes offset) refl
  where
    by_kind : (head : Head) → Ok head ≡ head_at kind bytes offset → (read : Result ObjectKind Error) → read ≡ kind_of_code head.code
        → Fits IsOfHeader (header_at kind bytes offset)
    by_kind head is (Err error) coded =
        let none : header_at kind bytes offset ≡ Err error = rw (sym is, sym coded) refl in
        subst (Fits IsOfHeader) (sym none) (subst (Fits IsOfHeader) (sym coded) (kind_fits head.code))
    by_kind head is (Ok object) coded =
        let own : header_at kind bytes offset ≡ Ok (record { kind = object; size = head.size; header_len = head.header_len }) = rw (sym is, sym coded) refl in
        subst (Fits IsOfHeader) (sym own) tt

    by_head : (read : Result Head Error) → read ≡ head_at kind bytes offset → Fits IsOfHeader (header_at kind bytes offset)
    by_head (Err error) is =
        let none : header_at kind bytes offset ≡ Err error = rw (sym is) refl in
        subst (Fits IsOfHeader) (sym none) (subst (Fits IsOfHeader) (sym is) (head_fits kind bytes offset))
    by_head (Ok head) is = by_kind head is (kind_of_code head.code) refl

entry_fits : (kind : Kind) (bytes : List ℕ) (offset : ℕ) (limit : Option ℕ) → Fits IsOfEntry (entry_at kind bytes offset limit)
unfolding entry_at
entry_fits kind bytes offset limit = by_header (header_at kind bytes offset) refl
  where
    by_header : (read : Result Header Error) → read ≡ header_at kind bytes offset → Fits IsOfEntry (entry_at kind bytes offset limit)
    by_header (Err error) is =
        let none : entry_at kind bytes offset limit ≡ Err error = rw (sym is) refl in
        subst (Fits IsOfEntry) (sym none) (of_entry error (subst (Fits IsOfHeader) (sym is) (header_fits kind bytes offset)))
    by_header (Ok header) is =
        let own : entry_at kind bytes offset limit ≡ object_behind kind bytes offset limit header = rw (sym is) refl in
        subst (Fits IsOfEntry) (sym own) (object_fits kind bytes offset limit header)

pub header_error : (kind : Kind) (bytes : List ℕ) (offset : ℕ) (error : Error) → header_at kind bytes offset ≡ Err error → IsOfHeader error
header_error kind bytes offset error is = subst (Fits IsOfHeader) is (header_fits kind bytes offset)

pub entry_error : (kind : Kind) (bytes : List ℕ) (offset : ℕ) (limit : Option ℕ) (error : Error) → entry_at kind bytes offset limit ≡ Err error
    → IsOfEntry error
entry_error kind bytes offset limit error is = subst (Fits IsOfEntry) is (entry_fits kind bytes offset limit)
