-- Laws of paths that are in directories, and the tests of them.
use Rattle.std.proofs.Common.{◌≡◌, ℕ, suc, true, List, [], ◌∷◌, ◌++◌, length, Option, Some, None, IfSome, refl, sym, ap, subst, ◌∙◌, arith}
use Rattle.std.specs.Prelude.{◌==◌}
use Rattle.std.specs.Cmp.Lexicographic.{bytes_decides}
use Rattle.std.proofs.lemmas.Bool.Decides.{nat_tests}
use lib.Pointwise.{pointwise_decides}
use Rattle.odb_base.specs.Path.{Name, Path, same_name}
use Rattle.walkdir.specs.Sound.{IsNested, after_lies_in, is_nested, same_path}
use Rattle.walkdir.specs.Stack.{ancestors}
use Rattle.walkdir.specs.Walk.{Ancestor}
use Rattle.walkdir.specs.Within.{IsChild, LiesIn, is_child, lies_in}
use Rattle.walkdir.specs.declared.dent.DirEntry.{DirEntry}
use Rattle.walkdir.specs.declared.directory.DirList.{DirList}
use Rattle.walkdir.proofs.ProgressLemmas.{both, joined}

-- ---- paths

pub path_of_test : (a b : Path) → same_path a b ≡ true → a ≡ b
path_of_test a b is = (pointwise_decides bytes_decides a b).0 is

pub path_tested : (a b : Path) → a ≡ b → same_path a b ≡ true
path_tested a b is = (pointwise_decides bytes_decides a b).1 is

one_long : (n : ℕ) → (suc (suc n) == 1) ≡ true → ⊥
one_long n is = grind (arith, nat_tests)

pub child_of_test : (directory path : Path) → is_child directory path ≡ true → IsChild directory path
unfolding is_child
child_of_test [] [] is = absurd cc
child_of_test [] (name ∷ []) is = (name, refl)
child_of_test [] (name ∷ other ∷ more) is = absurd (one_long (length more) is)
child_of_test (name ∷ directory) [] is = absurd cc
child_of_test (name ∷ directory) (first ∷ path) is =
    let parts = both (same_name name first) (is_child directory path) is in
    let rest = child_of_test directory path parts.1 in
    let one : name ≡ first = (bytes_decides name first).0 parts.0 in
    (rest.0, ap (λ (p : Path). first ∷ p) rest.1 ∙ ap (λ (n : Name). n ∷ (directory ++ rest.0 ∷ [])) (sym one))

named : (directory : Path) (name : Name) → is_child directory (directory ++ name ∷ []) ≡ true
unfolding is_child
named [] name = refl
named (first ∷ directory) name =
    joined (same_name first first) (is_child directory (directory ++ name ∷ [])) ((bytes_decides first first).1 refl) (named directory name)

pub child_tested : (directory path : Path) → IsChild directory path → is_child directory path ≡ true
child_tested directory path child = subst (λ (p : Path). is_child directory p ≡ true) (sym child.1) (named directory child.0)

-- ---- the head of a stack

lies_of_test : (path : Path) (stack : List DirList) → lies_in path stack ≡ true → LiesIn path stack
lies_of_test path [] is = tt
lies_of_test path (list ∷ outer) is = child_of_test list.path path is

lies_tested : (path : Path) (stack : List DirList) → LiesIn path stack → lies_in path stack ≡ true
lies_tested path [] lies = refl
lies_tested path (list ∷ outer) lies = child_tested list.path path lies

after_of_test : (after : Option DirEntry) (outer : List DirList) → after_lies_in after outer ≡ true → IfSome after (λ entry. LiesIn entry.path outer)
after_of_test None outer is = tt
after_of_test (Some entry) outer is = lies_of_test entry.path outer is

after_tested : (after : Option DirEntry) (outer : List DirList) → IfSome after (λ entry. LiesIn entry.path outer) → after_lies_in after outer ≡ true
after_tested None outer lies = refl
after_tested (Some entry) outer lies = lies_tested entry.path outer lies

pub nested_of_test : (list : DirList) (outer : List DirList) → is_nested list outer ≡ true → IsNested list outer
nested_of_test list outer is =
    let parts = both (lies_in list.path outer) (after_lies_in list.after outer) is in
    (lies_of_test list.path outer parts.0, after_of_test list.after outer parts.1)

pub nested_tested : (list : DirList) (outer : List DirList) → IsNested list outer → is_nested list outer ≡ true
nested_tested list outer nested =
    joined (lies_in list.path outer) (after_lies_in list.after outer) (lies_tested list.path outer nested.0) (after_tested list.after outer nested.1)

-- ---- stacks whose directories have the same paths

pub lies_alike : (path : Path) (a b : List DirList) → ancestors a ≡ ancestors b → LiesIn path a → LiesIn path b
lies_alike path a [] same lies = tt
lies_alike path [] (list ∷ outer) same lies = absurd cc
lies_alike path (one ∷ more) (list ∷ outer) same lies =
    let head : (record { path = one.path; place = one.place }) ≡ (record { path = list.path; place = list.place }) = (cc) in
    subst (λ (p : Path). IsChild p path) (ap (λ (a : Ancestor). a.path) head) lies

-- the own entry of a directory that was put on the stack
pub own_lies : (after : Option DirEntry) (path : Path) (outer : List DirList) → IfSome after (λ entry. entry.path ≡ path) → LiesIn path outer
    → IfSome after (λ entry. LiesIn entry.path outer)
own_lies None path outer own lies = tt
own_lies (Some entry) path outer own lies = subst (λ (p : Path). LiesIn p outer) (sym own) lies
