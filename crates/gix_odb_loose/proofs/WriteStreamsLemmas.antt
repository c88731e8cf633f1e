-- What is taken from a source, read after read.
use Rattle.std.specs.Prelude.{◌≡◌, ℕ, ◌+◌, ◌≤◌, List, [], ◌++◌, length, take, Option, Some, None, Result, Ok, Err, IfSome, OnErr, refl}
use Rattle.std.proofs.Common.{sym, ap, ◌∙◌, arith, append-nil, append_assoc, take-append-drop}
use Rattle.std.proofs.lemmas.List.{length-append, length-take}
use Rattle.odb_base.specs.Source.{Reads}
use Rattle.gix_odb_loose.specs.StreamJobs.Reads.{Loses}
use Rattle.gix_odb_loose.specs.WriteStreams.{Draws, IsAtEnd}

pub Draws-none : (left : Option (List ℕ)) → Draws left left []
Draws-none None = refl
Draws-none (Some left) = refl

pub Draws-more : (left rest last : Option (List ℕ)) (bytes more : List ℕ) → Draws left rest bytes → Draws rest last more → Draws left last (bytes ++ more)
Draws-more None None last bytes more h k = k
Draws-more None (Some rest) last bytes more h k = absurd (cc h)
Draws-more (Some left) None last bytes more h k = absurd h
Draws-more (Some left) (Some rest) None bytes more h k = absurd k
Draws-more (Some left) (Some rest) (Some last) bytes more h k = append_assoc bytes more last ∙ ap (λ (xs : List ℕ). bytes ++ xs) k ∙ h

-- one read took these bytes
pub Draws-read : (left rest : Option (List ℕ)) (buffer : List ℕ) (n : ℕ) → Reads left rest buffer (Ok n) → Draws left rest (take n buffer)
Draws-read None rest buffer n r = r
Draws-read (Some left) None buffer n r = absurd r
Draws-read (Some left) (Some rest) buffer n r = rw (r.front, r.rest_is) (take-append-drop n left)

-- at the end all was taken
pub Draws-end : (left rest : Option (List ℕ)) (all : List ℕ) → Draws left rest all → IsAtEnd rest → IfSome left (λ bytes. bytes ≡ all)
Draws-end None rest all h e = tt
Draws-end (Some left) None all h e = absurd h
Draws-end (Some left) (Some rest) all h e = sym h ∙ ap (λ (xs : List ℕ). all ++ xs) e ∙ append-nil all

-- what was taken is not more than there was
pub Draws-length : (left rest : Option (List ℕ)) (all : List ℕ) → Draws left rest all → IfSome left (λ bytes. length all ≤ length bytes)
Draws-length None rest all h = tt
Draws-length (Some left) None all h = absurd h
Draws-length (Some left) (Some rest) all h = let long = ap length h in omega (arith, long, length-append all rest)

-- ---- a loop that reads a piece

pub refused_any : {A E : Type 0} (P : Type 0) (result : Result A E) → P → OnErr result P
refused_any P (Ok x) p = tt
refused_any P (Err error) p = p

-- a read that took some bytes, which are lost where there is no memory to keep them
pub loses_read : (most count faults middle now : ℕ) (left rest last : Option (List ℕ)) (kept buffer : List ℕ) → Draws left rest kept → length kept + count ≤ most → Reads rest last buffer (Ok count)
    → faults ≤ middle → middle ≤ now
    → Loses most left last faults now
loses_read most count faults middle now left rest last kept buffer drawn few r first second =
    record {
      lost = kept ++ take count buffer;
      drawn = Draws-more left rest last kept (take count buffer) drawn (Draws-read rest last buffer count r);
      few = omega (arith, few, length-append kept (take count buffer), length-take count buffer);
      later = omega (arith, first, second);
    }
