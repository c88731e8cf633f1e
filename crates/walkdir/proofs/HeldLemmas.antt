-- Laws of what was already read of a directory, when the first is taken.
use Rattle.std.proofs.Common.{◌≡◌, ℕ, false, suc, ◌+◌, ◌≤◌, [], ◌∷◌, length, Option, Some, None, IfSome, sym, ap, subst, ◌∙◌, arith}
use Rattle.walkdir.specs.Failures.{failures_among, failures_given, failures_left, failures_of}
use Rattle.odb_base.specs.Path.{Path}
use Rattle.walkdir.specs.Directory.{AreAt, IsAt, TakesHeld, held, is_skipped, stream_in}
use Rattle.walkdir.specs.Walk.{Item}
use Rattle.walkdir.specs.declared.directory.Items.{Items}
use Rattle.walkdir.proofs.DirectoryLemmas.{failures_held}

pub held_closed : (old : Items) (item : Option Item) (new : Items) → TakesHeld old item new → stream_in new ≡ None
held_closed old None new takes = takes.1.no_stream
held_closed old (Some item) new takes = takes.1

pub held_rest_at : (path : Path) (depth : ℕ) (old : Items) (item : Option Item) (new : Items) → TakesHeld old item new → AreAt path depth (held old)
    → AreAt path depth (held new)
held_rest_at path depth old None new takes all = subst (AreAt path depth) (sym takes.1.nothing) tt
held_rest_at path depth old (Some item) new takes all = let both : AreAt path depth (item ∷ held new) = subst (AreAt path depth) takes.0 all in both.1

-- what is taken comes from a directory that isn't skipped
pub held_item_at : (path : Path) (depth : ℕ) (old : Items) (item : Option Item) (new : Items) → TakesHeld old item new → AreAt path depth (held old)
    → IfSome item (λ i. (is_skipped new ≡ false) × IsAt path depth i)
held_item_at path depth old None new takes all = tt
held_item_at path depth old (Some item) new takes all =
    let both : AreAt path depth (item ∷ held new) = subst (AreAt path depth) takes.0 all in (takes.3, both.0)

-- a closed list stays one
pub held_skips : (old : Items) (item : Option Item) (new : Items) → TakesHeld old item new → is_skipped new ≡ is_skipped old
held_skips old None new takes = takes.2
held_skips old (Some item) new takes = takes.3 ∙ sym takes.2

pub held_none : (old : Items) (item : Option Item) (new : Items) → TakesHeld old item new → held old ≡ [] → held new ≡ []
held_none old None new takes is = takes.1.nothing
held_none old (Some item) new takes is = let no : item ∷ held new ≡ [] = sym takes.0 ∙ is in cc

pub held_fails : (old : Items) (item : Option Item) (new : Items) → TakesHeld old item new
    → failures_given item + failures_left new ≤ failures_left old
held_fails old None new takes = let none : failures_left new ≡ 0 = failures_held new ∙ ap failures_among takes.1.nothing in omega arith
held_fails old (Some item) new takes =
    let was : failures_left old ≡ failures_of item + failures_among (held new) = failures_held old ∙ ap failures_among takes.0 in
    let is : failures_left new ≡ failures_among (held new) = failures_held new in
    omega arith

pub held_few : (old : Items) (item : Option Item) (new : Items) → TakesHeld old item new → length (held new) ≤ length (held old)
held_few old None new takes = let none : length (held new) ≡ 0 = ap length takes.1.nothing in omega arith
held_few old (Some item) new takes = let was : length (held old) ≡ suc (length (held new)) = ap length takes.0 in omega arith

-- what follows from a first item holds if one was taken
pub if_taken : (old : Items) (item : Option Item) (new : Items) (X : Type 0) → TakesHeld old item new → ((first : Item) → held old ≡ first ∷ held new
    → X) → IfSome item (λ _. X)
if_taken old None new X takes then_so = tt
if_taken old (Some item) new X takes then_so = then_so item takes.0
