-- The laws of a loose file's bytes: the results of a find and a header look-up, and the causes of their refusals.
use Rattle.std.specs.Prelude.{◌≡◌, ◌≢◌, ℕ, ◌==◌, Bool, true, false, not, List, [], ◌∷◌, length, Option, Some, None, Result, Ok, Err, if◌then◌else◌, refl}
use Rattle.std.proofs.Common.{inr, sym, ap, ◌∙◌, subst, arith}
use Rattle.std.proofs.lemmas.Bool.{eqb-true, eqb-false}
use Rattle.odb_base.specs.Path.{Path}
use Rattle.gix_object.specs.Limit.{is_within}
use Rattle.gix_object.specs.Loose.{IsLoose, LooseObject, loose_of}
use Rattle.gix_object.proofs.LooseLaws.{IsLoose-loose_of, loose_of-IsLoose, none-loose_of}
use Rattle.gix_object.specs.declared.kind.Kind.{Kind}
use Rattle.gix_odb_loose.specs.LooseFile.{Reading, HoldsObject, HoldsHeader}
use Rattle.gix_odb_loose.specs.Causes.{FindCause, HeaderCause}
use Rattle.gix_odb_loose.specs.LooseOrder.Answered.{spelled_or, spelled_in, flaw_error, object_from, header_from, object_in, header_in}
use Rattle.gix_odb_loose.specs.declared.find.Error.{Error}
use Rattle.gix_odb_loose.specs.declared.find.Error.TheVariants as errors
use Rattle.gix_odb_loose.specs.declared.reply.Flaw.{Flaw}
use Rattle.gix_odb_loose.specs.declared.reply.Flaw.TheVariants as flaws

-- ---- a file's bytes

no_empty : (kind : Kind) (size : ℕ) (rest : List ℕ) → loose_of [] ≡ Some (record { kind = kind; size = size; rest = rest }) → ⊥
unfolding loose_of
no_empty kind size rest e = cc e

-- what is in the grammar is spelled
pub spelled_in-IsLoose : (bytes : List ℕ) (kind : Kind) (size : ℕ) (rest : List ℕ) → IsLoose bytes kind size rest → spelled_in bytes ≡ Ok (record { kind = kind; size = size; rest = rest })
spelled_in-IsLoose [] kind size rest is = absurd (no_empty kind size rest (loose_of-IsLoose [] kind size rest is))
spelled_in-IsLoose (byte ∷ bytes) kind size rest is = ap spelled_or (loose_of-IsLoose (byte ∷ bytes) kind size rest is)

spelled_or-Ok : (found : Option LooseObject) (object : LooseObject) → spelled_or found ≡ Ok object → found ≡ Some object
spelled_or-Ok None object e = cc e
spelled_or-Ok (Some other) object e = cc e

-- what is spelled is in the grammar
pub IsLoose-spelled_in : (bytes : List ℕ) (object : LooseObject) → spelled_in bytes ≡ Ok object → IsLoose bytes object.kind object.size object.rest
IsLoose-spelled_in [] object e = absurd (cc e)
IsLoose-spelled_in (byte ∷ bytes) object e = IsLoose-loose_of (byte ∷ bytes) object (spelled_or-Ok _ object e)

spelled_or-Err : (found : Option LooseObject) (flaw : Flaw) → spelled_or found ≡ Err flaw → (found ≡ None) × (flaw ≡ flaws.NoHeader)
spelled_or-Err None flaw e = (refl, cc e)
spelled_or-Err (Some object) flaw e = absurd (cc e)

-- an empty file lacks its bytes
pub spelled_in-Empty : (bytes : List ℕ) → spelled_in bytes ≡ Err flaws.Empty → bytes ≡ []
spelled_in-Empty [] e = refl
spelled_in-Empty (byte ∷ bytes) e = let parts = spelled_or-Err (loose_of (byte ∷ bytes)) flaws.Empty e in absurd (cc parts.1)

-- one without a header isn't empty
pub spelled_in-NoHeader : (bytes : List ℕ) → spelled_in bytes ≡ Err flaws.NoHeader → (bytes ≢ []) × ((kind : Kind) (size : ℕ) (rest : List ℕ) → ¬ (IsLoose bytes kind size rest))
spelled_in-NoHeader [] e = absurd (cc e)
spelled_in-NoHeader (byte ∷ bytes) e =
    let parts = spelled_or-Err (loose_of (byte ∷ bytes)) flaws.NoHeader e in
    (λ empty. cc empty, none-loose_of (byte ∷ bytes) parts.0)

-- ---- the limit and the length

-- the result of a find, by the tests of the limit and of the length
abbrev end_of : Path → LooseObject → Bool → Bool → Result (Option (Kind × List ℕ)) Error
end_of path object false same = Err (errors.OutOfMemory object.size)
end_of path object true true = Ok (Some (object.kind, object.rest))
end_of path object true false = Err (errors.SizeMismatch (length object.rest) object.size path)

end_of-tests : (path : Path) (object : LooseObject) (within same : Bool)
    → (let found : Result (Option (Kind × List ℕ)) Error = Ok (Some (object.kind, object.rest)) in if not within then Err
    (errors.OutOfMemory object.size) else if same then found else Err (errors.SizeMismatch (length object.rest) object.size path)) ≡ end_of path object within same
end_of-tests path object false same = refl
end_of-tests path object true true = refl
end_of-tests path object true false = refl

object_from-end : (path : Path) (limit : Option ℕ) (object : LooseObject) → object_from path limit (Ok object) ≡ end_of path object (is_within limit object.size) (length object.rest == object.size)
object_from-end path limit object = end_of-tests path object (is_within limit object.size) (length object.rest == object.size)

-- a found object
ends_found : (within same : Bool) (path : Path) (object : LooseObject) (x : Kind × List ℕ)
    → end_of path object within same ≡ Ok (Some x)
    → (within ≡ true) × (same ≡ true) × (object.kind ≡ x.0) × (object.rest ≡ x.1)
ends_found false same path object x e = absurd (cc e)
ends_found true true path object x e = (refl, refl, cc e, cc e)
ends_found true false path object x e = absurd (cc e)

object_from-Some : (path : Path) (limit : Option ℕ) (bytes : List ℕ) (spelled : Result LooseObject Flaw) (x : Kind × List ℕ) → spelled_in bytes ≡ spelled
    → object_from path limit spelled ≡ Ok (Some x) → HoldsObject limit bytes x.0 x.1
object_from-Some path limit bytes (Err flaw) x s e = absurd (cc e)
object_from-Some path limit bytes (Ok object) x s e =
    let ends = ends_found (is_within limit object.size) (length object.rest == object.size) path object x (sym (object_from-end path limit object) ∙ e) in
    let loose = IsLoose-spelled_in bytes object s in
    let size : length x.1 ≡ object.size = ap length (sym ends.3) ∙ eqb-true _ _ ends.1 in
    record {
      spelled = rw (size, ← ends.2, ← ends.3) loose;
      within = rw size (ends.0);
    }

-- what a find returns from a file's bytes is held by them
pub object_in-Some : (path : Path) (limit : Option ℕ) (bytes : List ℕ) (x : Kind × List ℕ) → object_in path limit bytes ≡ Ok (Some x) → HoldsObject limit bytes x.0 x.1
object_in-Some path limit bytes x e = object_from-Some path limit bytes (spelled_in bytes) x refl e

same_length : (n : ℕ) → (n == n) ≡ true
same_length n = grind arith

-- what they hold is what a find returns
pub object_in-HoldsObject : (path : Path) (limit : Option ℕ) (bytes : List ℕ) (x : Kind × List ℕ) → HoldsObject limit bytes x.0 x.1 → object_in path limit bytes ≡ Ok (Some x)
object_in-HoldsObject path limit bytes x holds =
    ap (object_from path limit) (spelled_in-IsLoose bytes x.0 (length x.1) x.1 holds.spelled)
    ∙ rw (holds.within, same_length (length x.1)) refl

object_from-None : (path : Path) (limit : Option ℕ) (spelled : Result LooseObject Flaw) → object_from path limit spelled ≢ Ok None
object_from-None path limit (Err flaw) e = cc e
object_from-None path limit (Ok object) e = by_tests (is_within limit object.size) (length object.rest == object.size) (sym (object_from-end path limit object) ∙ e)
  where
    by_tests : (within same : Bool) → end_of path object within same ≡ Ok None → ⊥
    by_tests false same h = cc h
    by_tests true true h = cc h
    by_tests true false h = cc h

header_from-Some : (path : Path) (bytes : List ℕ) (spelled : Result LooseObject Flaw) (x : ℕ × Kind) → spelled_in bytes ≡ spelled → header_from path spelled ≡ Ok (Some x) → HoldsHeader bytes x.1 x.0
header_from-Some path bytes (Err flaw) x s e = absurd (cc e)
header_from-Some path bytes (Ok object) x s e =
    let loose = IsLoose-spelled_in bytes object s in
    let size : object.size ≡ x.0 = cc e in
    let kind : object.kind ≡ x.1 = cc e in
    record { rest = object.rest; spelled = rw (← size, ← kind) loose }

-- the header that is returned is that of the bytes, and the one that they begin with is returned
pub header_in-Some : (path : Path) (bytes : List ℕ) (x : ℕ × Kind) → header_in path bytes ≡ Ok (Some x) → HoldsHeader bytes x.1 x.0
header_in-Some path bytes x e = header_from-Some path bytes (spelled_in bytes) x refl e

pub header_in-HoldsHeader : (path : Path) (bytes : List ℕ) (x : ℕ × Kind) → HoldsHeader bytes x.1 x.0 → header_in path bytes ≡ Ok (Some x)
header_in-HoldsHeader path bytes x holds = ap (header_from path) (spelled_in-IsLoose bytes x.1 x.0 holds.rest holds.spelled)

header_from-None : (path : Path) (spelled : Result LooseObject Flaw) → header_from path spelled ≢ Ok None
header_from-None path (Err flaw) e = cc e
header_from-None path (Ok object) e = cc e

-- no file gives the result of an absent one
pub object_in-None : (path : Path) (limit : Option ℕ) (bytes : List ℕ) → object_in path limit bytes ≢ Ok None
object_in-None path limit bytes = object_from-None path limit (spelled_in bytes)

pub header_in-None : (path : Path) (bytes : List ℕ) → header_in path bytes ≢ Ok None
header_in-None path bytes = header_from-None path (spelled_in bytes)

-- ---- why a file is refused

module _ (path : Path) (Gave : Reading → Type 0) (Failed Wanting : Type 0) where
  flaw_cause : (bytes : List ℕ) (time : ℕ) → Gave (Ok (bytes, time)) → (flaw : Flaw) → spelled_in bytes ≡ Err flaw → HeaderCause path Gave Failed Wanting (flaw_error path flaw)
  flaw_cause bytes time gave flaws.Empty s =
      (refl, refl, inr (Ok (bytes, time), gave, inr (inr (time, ap (λ (bs : List ℕ). Ok (bs, time)) (spelled_in-Empty bytes s)))))
  flaw_cause bytes time gave flaws.NoHeader s =
      let parts = spelled_in-NoHeader bytes s in
      (Ok (bytes, time), gave, record { bytes = bytes; time = time; given = refl; some = parts.0; none = parts.1 })

  header_from-Err : (bytes : List ℕ) (time : ℕ) → Gave (Ok (bytes, time)) → (spelled : Result LooseObject Flaw) → spelled_in bytes ≡ spelled → (error : Error) → header_from path spelled ≡ Err error
      → HeaderCause path Gave Failed Wanting error
  header_from-Err bytes time gave (Err flaw) s error e = let is : flaw_error path flaw ≡ error = cc e in subst (HeaderCause path Gave Failed Wanting) is (flaw_cause bytes time gave flaw s)
  header_from-Err bytes time gave (Ok object) s error e = absurd (cc e)

  -- the cause of a refusal of a file's bytes in a header look-up
  pub header_in-Err : (bytes : List ℕ) (time : ℕ) → Gave (Ok (bytes, time)) → (error : Error) → header_in path bytes ≡ Err error → HeaderCause path Gave Failed Wanting error
  header_in-Err bytes time gave error e = header_from-Err bytes time gave (spelled_in bytes) refl error e

  module _ (limit : Option ℕ) where
    -- a header's flaw is a find's too
    flaw_cause_found : (bytes : List ℕ) (time : ℕ) → Gave (Ok (bytes, time)) → (flaw : Flaw) → spelled_in bytes ≡ Err flaw → FindCause path limit Gave Failed Wanting (flaw_error path flaw)
    flaw_cause_found bytes time gave flaws.Empty s = flaw_cause bytes time gave flaws.Empty s
    flaw_cause_found bytes time gave flaws.NoHeader s = flaw_cause bytes time gave flaws.NoHeader s

    sizes_cause : (bytes : List ℕ) (time : ℕ) → Gave (Ok (bytes, time)) → (object : LooseObject) → IsLoose bytes object.kind object.size object.rest → (within same : Bool)
        → is_within limit object.size ≡ within
        → (length object.rest == object.size) ≡ same → (error : Error)
        → end_of path object within same ≡ Err error
        → FindCause path limit Gave Failed Wanting error
    sizes_cause bytes time gave object loose false same a l error e =
        let is : errors.OutOfMemory object.size ≡ error = cc e in
        subst (FindCause path limit Gave Failed Wanting) is
        (Ok (bytes, time), gave, record { bytes = bytes; time = time; kind = object.kind; rest = object.rest; given = refl; header = loose; above = a })
    sizes_cause bytes time gave object loose true true a l error e = absurd (cc e)
    sizes_cause bytes time gave object loose true false a l error e =
        let is : errors.SizeMismatch (length object.rest) object.size path ≡ error = cc e in
        subst (FindCause path limit Gave Failed Wanting) is (
          refl,
          (
            Ok (bytes, time),
            gave,
            record {
              bytes = bytes;
              time = time;
              kind = object.kind;
              rest = object.rest;
              given = refl;
              header = loose;
              within = a;
              length_is = refl;
              differs = eqb-false _ _ l;
            },
          ),
        )

    object_from-Err : (bytes : List ℕ) (time : ℕ) → Gave (Ok (bytes, time)) → (spelled : Result LooseObject Flaw) → spelled_in bytes ≡ spelled → (error : Error)
        → object_from path limit spelled ≡ Err error
        → FindCause path limit Gave Failed Wanting error
    object_from-Err bytes time gave (Err flaw) s error e =
        let is : flaw_error path flaw ≡ error = cc e in subst (FindCause path limit Gave Failed Wanting) is (flaw_cause_found bytes time gave flaw s)
    object_from-Err bytes time gave (Ok object) s error e =
        sizes_cause bytes time gave object (IsLoose-spelled_in bytes object s) (is_within limit object.size) (length object.rest == object.size) refl refl error
        (sym (object_from-end path limit object) ∙ e)

    -- the cause of a refusal of a file's bytes in a find
    pub object_in-Err : (bytes : List ℕ) (time : ℕ) → Gave (Ok (bytes, time)) → (error : Error) → object_in path limit bytes ≡ Err error → FindCause path limit Gave Failed Wanting error
    object_in-Err bytes time gave error e = object_from-Err bytes time gave (spelled_in bytes) refl error e
