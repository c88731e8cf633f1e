-- The laws of the words for kinds: each kind has one word, and no other word names it.
use Rattle.std.specs.Prelude.{◌≡◌, ◌≢◌, ℕ, codes, nat_eq, Bool, true, false, List, Option, Some, None, cond, ◌⊎◌, refl}
use Rattle.std.proofs.Common.{inl, inr, sym}
use Rattle.std.proofs.lemmas.Slice.Eq.{bytes_eq-Decides}
use lib.Pointwise.{pointwise}
use Rattle.gix_object.specs.Kind.{kind_of_word, kind_word}
use Rattle.gix_object.specs.declared.kind.Kind.{Kind}
use Rattle.gix_object.specs.declared.kind.Kind.TheVariants.{Commit, Tree, Blob, Tag}

-- the word for a kind names it
pub kind_of_word-kind_word : (kind : Kind) → kind_of_word (kind_word kind) ≡ Some kind
unfolding kind_of_word
kind_of_word-kind_word Commit = refl
kind_of_word-kind_word Tree = refl
kind_of_word-kind_word Blob = refl
kind_of_word-kind_word Tag = refl

named : (word name : List ℕ) (kind : Kind) (others : Option Kind) (found : Kind) → cond (pointwise nat_eq word name) (Some kind) others ≡ Some found
    → ((word ≡ name) × (kind ≡ found)) ⊎ (others ≡ Some found)
named word name kind others found h = by_test (pointwise nat_eq word name) refl h
  where
    by_test : (same : Bool) → pointwise nat_eq word name ≡ same → cond same (Some kind) others ≡ Some found → ((word ≡ name) × (kind ≡ found)) ⊎ (others ≡ Some found)
    by_test true e h = inl ((bytes_eq-Decides word name).0 e, cc h)
    by_test false e h = inr h

pub kind_word-kind_of_word : (word : List ℕ) (kind : Kind) → kind_of_word word ≡ Some kind → kind_word kind ≡ word
unfolding kind_of_word
kind_word-kind_of_word word kind h =
    elim (named word (codes "commit") Commit _ kind h) [
      | inl is ↦ rw (← is.1) (sym is.0)
      | inr h1 ↦
          elim (named word (codes "tree") Tree _ kind h1) [
            | inl is ↦ rw (← is.1) (sym is.0)
            | inr h2 ↦
                elim (named word (codes "blob") Blob _ kind h2) [
                  | inl is ↦ rw (← is.1) (sym is.0)
                  | inr h3 ↦
                      elim (named word (codes "tag") Tag _ kind h3) [
                        | inl is ↦ rw (← is.1) (sym is.0)
                        | inr h4 ↦ cc h4
                      ]
                ]
          ]
    ]

-- no other word names a kind
pub kind_of_word-other : (word : List ℕ) → ((kind : Kind) → kind_word kind ≢ word) → kind_of_word word ≡ None
kind_of_word-other word other = by_found (kind_of_word word) refl
  where
    by_found : (found : Option Kind) → kind_of_word word ≡ found → kind_of_word word ≡ None
    by_found None e = e
    by_found (Some kind) e = absurd (other kind (kind_word-kind_of_word word kind e))
