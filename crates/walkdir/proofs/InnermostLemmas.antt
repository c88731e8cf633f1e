-- Laws of the innermost directory after an item, and of what is skipped.
use Rattle.std.proofs.Common.{◌≡◌, ◌≢◌, ℕ, ◌+◌, inl, inr, Bool, true, false, ◌&&◌, ◌||◌, List, [], ◌∷◌, length, Option, Some, None, Result, Ok, Err, IfSome, refl, sym, ap, subst, ◌∙◌, arith}
use Rattle.std.proofs.lemmas.Bool.Decides.{nat_tests}
use Rattle.odb_base.specs.Path.{Path}
use Rattle.walkdir.specs.Entry.{is_dir, is_link}
use Rattle.walkdir.specs.Error.{IsOfEntry, IsOfEntryIn, IsOnPath, IsOnPathIn, is_no_memory, is_no_memory_inner, is_of_call, is_of_call_in}
use Rattle.walkdir.specs.Innermost.{IsAfter, IsAfterError, IsAfterErrorIn, IsBeside, IsFromHead, IsHead, is_head_skipped, may_look}
use Rattle.walkdir.specs.Directory.{IsAt, IsOfDirectory, is_skipped}
use Rattle.walkdir.specs.Turns.Taken.{OnlyEnters}
use Rattle.walkdir.specs.Turns.{given_if, handed, item_of, turn_given, turn_of}
use Rattle.walkdir.specs.Walk.{Item}
use Rattle.walkdir.specs.Walk.Entries.{is_looked_at, is_root_link}
use Rattle.walkdir.specs.Within.{LiesIn}
use Rattle.walkdir.specs.declared.builder.Options.{Options}
use Rattle.walkdir.specs.declared.dent.DirEntry.{DirEntry}
use Rattle.walkdir.specs.declared.error.Error.{Error}
use Rattle.walkdir.specs.declared.error.ErrorInner.{ErrorInner}
use Rattle.walkdir.specs.declared.error.ErrorInner.TheVariants.{Io, Loop, NoMemory}
use Rattle.walkdir.specs.declared.directory.DirList.{DirList}
use Rattle.walkdir.specs.declared.directory.Entering.{Entering}
use Rattle.walkdir.specs.declared.directory.Entering.TheVariants.{Stays, Enters}
use Rattle.walkdir.proofs.ProgressLemmas.{item_turn}

-- ---- errors of one call

call_in : (path : Path) (depth own : ℕ) (inner : ErrorInner) → IsOfDirectory path depth own inner → is_of_call_in inner ≡ true
call_in path depth own (Io (Some at) error) is = refl
call_in path depth own (Io None error) is = is.1
call_in path depth own (Loop ancestor child) is = absurd is
call_in path depth own NoMemory is = refl

pub directory_call : (path : Path) (depth : ℕ) (error : Error) → IsAt path depth (Err error) → is_of_call error ≡ true
directory_call path depth error is = call_in path depth error.depth error.inner is

path_call_in : (path : Path) (depth own : ℕ) (inner : ErrorInner) → IsOnPathIn path depth own inner → is_of_call_in inner ≡ true
path_call_in path depth own (Io (Some at) error) is = refl
path_call_in path depth own (Io None error) is = absurd is
path_call_in path depth own (Loop ancestor child) is = absurd is
path_call_in path depth own NoMemory is = refl

pub path_call : (path : Path) (depth : ℕ) (error : Error) → IsOnPath path depth error → is_of_call error ≡ true
path_call path depth error is = path_call_in path depth error.depth error.inner is

on_entry_in : (path : Path) (depth own : ℕ) (inner : ErrorInner) → IsOnPathIn path depth own inner → IsOfEntryIn path depth own inner
on_entry_in path depth own (Io (Some at) error) is = is
on_entry_in path depth own (Io None error) is = absurd is
on_entry_in path depth own (Loop ancestor child) is = absurd is
on_entry_in path depth own NoMemory is = tt

pub on_entry : (path : Path) (depth : ℕ) (error : Error) → IsOnPath path depth error → IsOfEntry path depth error
on_entry path depth error is = on_entry_in path depth error.depth error.inner is

-- ---- an error in place of an entry

pub beside_as : (path at : Path) (depth own : ℕ) (stack : List DirList) → at ≡ path → own ≡ depth → IsBeside path depth stack → IsBeside at own stack
beside_as path at depth own stack same_path same_depth beside =
    subst (λ n. IsBeside at n stack) (sym same_depth) (subst (λ (p : Path). IsBeside p depth stack) (sym same_path) beside)

entry_error_in : (options : Options) (path : Path) (depth own : ℕ) (inner : ErrorInner) (stack : List DirList) → IsOfEntryIn path depth own inner
    → IsBeside path depth stack
    → is_head_skipped stack ≡ false → may_look options depth ≡ true → IsAfterErrorIn options own inner stack
entry_error_in options path depth own (Io (Some at) error) stack is beside unskipped looks =
    (unskipped, inr (beside_as path at depth own stack is.0 is.1 beside, ap (may_look options) is.1 ∙ looks))
entry_error_in options path depth own (Io None error) stack is beside unskipped looks = absurd is
entry_error_in options path depth own (Loop ancestor child) stack is beside unskipped looks =
    (beside_as path child depth own stack is.0 is.1 beside, unskipped)
entry_error_in options path depth own NoMemory stack is beside unskipped looks = tt

pub after_entry_error : (options : Options) (path : Path) (depth : ℕ) (error : Error) (stack : List DirList) → IsOfEntry path depth error
    → depth ≡ length stack → LiesIn path stack
    → is_head_skipped stack ≡ false → may_look options depth ≡ true → IsAfterError options error stack
after_entry_error options path depth error stack is long parent unskipped looks =
    entry_error_in options path depth error.depth error.inner stack is (record { long = sym long; parent = parent }) unskipped looks

pub link_looked : (options : Options) (entry : DirEntry) → (options.follow_links && is_link entry) ≡ true → may_look options entry.depth ≡ true
link_looked options entry is = grind (arith, nat_tests)

pub looked_at : (options : Options) (entry : DirEntry) → is_looked_at options entry ≡ true → may_look options entry.depth ≡ true
looked_at options entry is = grind (arith, nat_tests)

pub root_looked : (options : Options) → may_look options 0 ≡ true
root_looked options = refl

-- ---- the root

pub lies_nowhere : (path : Path) (stack : List DirList) → stack ≡ [] → LiesIn path stack
lies_nowhere path stack empty = subst (λ (s : List DirList). LiesIn path s) (sym empty) tt

pub open_nowhere : (stack : List DirList) → stack ≡ [] → is_head_skipped stack ≡ false
open_nowhere stack empty = ap is_head_skipped empty

pub after_root_error : (options : Options) (root : Path) (error : Error) (stack : List DirList) → stack ≡ [] → IsOnPath root 0 error
    → IsAfterError options error stack
after_root_error options root error stack empty is =
    after_entry_error options root 0 error stack (on_entry root 0 error is) (sym (ap length empty)) (lies_nowhere root stack empty)
    (open_nowhere stack empty) (root_looked options)

-- ---- an error of the innermost directory

head_error_in : (options : Options) (own : ℕ) (inner : ErrorInner) (list : DirList) (outer : List DirList) → is_skipped list.items ≡ false
    → IsOfDirectory list.path (length outer + 1) own inner → IsAfterErrorIn options own inner (list ∷ outer)
head_error_in options own (Io (Some at) error) list outer unskipped is =
    let own_depth : own ≡ length outer = omega arith in (unskipped, inl (own_depth, sym is.0))
head_error_in options own (Io None error) list outer unskipped is = (is.0, unskipped)
head_error_in options own (Loop ancestor child) list outer unskipped is = absurd is
head_error_in options own NoMemory list outer unskipped is = tt

pub after_head_error : (options : Options) (error : Error) (stack : List DirList) → IsFromHead stack (Err error) → IsAfterError options error stack
after_head_error options error [] from = absurd from
after_head_error options error (list ∷ outer) from = head_error_in options error.depth error.inner list outer from.0 from.1

lost_in : (options : Options) (own : ℕ) (inner : ErrorInner) (stack : List DirList) → is_no_memory_inner inner ≡ true
    → IsAfterErrorIn options own inner stack
lost_in options own (Io path error) stack is = absurd cc
lost_in options own (Loop ancestor child) stack is = absurd cc
lost_in options own NoMemory stack is = tt

pub after_lost : (options : Options) (error : Error) (stack : List DirList) → is_no_memory error ≡ true → IsAfterError options error stack
after_lost options error stack is = lost_in options error.depth error.inner stack is

-- ---- a child that was drawn

pub from_depth : (stack : List DirList) (entry : DirEntry) → IsFromHead stack (Ok entry) → entry.depth ≡ length stack
from_depth [] entry from = absurd from
from_depth (list ∷ outer) entry from = from.1.0 ∙ (let e : length outer + 1 ≡ length (list ∷ outer) = omega arith in e)

pub from_parent : (stack : List DirList) (entry : DirEntry) → IsFromHead stack (Ok entry) → LiesIn entry.path stack
from_parent [] entry from = absurd from
from_parent (list ∷ outer) entry from = from.1.1

pub from_call : (stack : List DirList) (error : Error) → IsFromHead stack (Err error) → is_of_call error ≡ true
from_call [] error from = absurd from
from_call (list ∷ outer) error from = directory_call list.path (length outer + 1) error from.1

pub from_some : (stack : List DirList) (item : Item) → IsFromHead stack item → stack ≢ []
from_some [] item from = absurd from
from_some (list ∷ outer) item from = λ none. cc

pub from_open : (stack : List DirList) (item : Item) → IsFromHead stack item → is_head_skipped stack ≡ false
from_open [] item from = absurd from
from_open (list ∷ outer) item from = from.0

pub from_top : (stack : List DirList) (list : DirList) (outer : List DirList) (index : ℕ) (item : Option Item) → stack ≡ list ∷ outer
    → length outer ≡ index
    → IfSome item (λ i. (is_skipped list.items ≡ false) × IsAt list.path (index + 1) i) → IfSome item (λ i. IsFromHead stack i)
from_top stack list outer index None is at from = tt
from_top stack list outer index (Some item) is at from =
    subst (λ (s : List DirList). IsFromHead s item) (sym is) (from.0, subst (λ (n : ℕ). IsAt list.path (n + 1) item) (sym at) from.1)

-- ---- an entry

-- one that wasn't entered
pub after_shown : (b : Bool) (options : Options) (entry : DirEntry) (given : Option DirEntry) (stack : List DirList) → given ≡ given_if b entry
    → entry.depth ≡ length stack
    → LiesIn entry.path stack → is_head_skipped stack ≡ false → IsAfter options (handed (Ok given)) stack
after_shown true options entry given stack is long parent unskipped =
    subst (λ (g : Option DirEntry). IsAfter options (handed (Ok g)) stack) (sym is)
    (inr (record { beside = record { long = sym long; parent = parent }; unskipped = λ _. unskipped }))
after_shown false options entry given stack is long parent unskipped =
    subst (λ (g : Option DirEntry). IsAfter options (handed (Ok g)) stack) (sym is) tt

pub head_pushed : (stack : List DirList) (list : DirList) (outer : List DirList) (depth : ℕ) → stack ≡ list ∷ outer → depth ≡ length outer
    → is_skipped list.items ≡ false
    → IsHead list.path depth stack × (is_head_skipped stack ≡ false)
head_pushed stack list outer depth is deep unskipped =
    subst (λ (s : List DirList). IsHead list.path depth s × (is_head_skipped s ≡ false)) (sym is) ((deep, refl), unskipped)

-- one that was
pub after_entered : (b : Bool) (options : Options) (entry : DirEntry) (given : Option DirEntry) (stack : List DirList) → given ≡ given_if b entry
    → IsHead entry.path entry.depth stack
    → is_head_skipped stack ≡ false → (is_dir entry || is_root_link entry) ≡ true → (options.contents_first && is_dir entry) ≡ false
    → IsAfter options (handed (Ok given)) stack
after_entered true options entry given stack is head unskipped kind first =
    subst (λ (g : Option DirEntry). IsAfter options (handed (Ok g)) stack) (sym is)
    (inl (record { head = head; unskipped = unskipped; kind = kind; first = first }))
after_entered false options entry given stack is head unskipped kind first =
    subst (λ (g : Option DirEntry). IsAfter options (handed (Ok g)) stack) (sym is) tt

-- a directory after its contents
pub after_left : (options : Options) (given : Option DirEntry) (stack : List DirList) → IfSome given (λ e. e.depth ≡ length stack)
    → IfSome given (λ e. (is_dir e ≡ true) × LiesIn e.path stack)
    → IfSome given (λ _. options.contents_first ≡ true) → IsAfter options (item_of (turn_given given)) stack
after_left options None stack long own first = tt
after_left options (Some entry) stack long own first = inr (record {
  beside = record { long = sym long; parent = own.1 };
  unskipped = λ before. absurd (let no : (options.contents_first && is_dir entry) ≡ true = ap (λ b. b && is_dir entry) first ∙ own.0 in
      let wrong : true ≡ false = sym no ∙ before in cc);
})

pub after_turn : (options : Options) (r : Result (Option DirEntry) Error) (stack : List DirList) → IsAfter options (handed r) stack
    → IsAfter options (item_of (turn_of r)) stack
after_turn options r stack after = subst (λ (i : Option Item). IsAfter options i stack) (sym (item_turn r)) after

-- ---- what is entered

pub only_dir : (entry : DirEntry) (result : Result Entering Error) → is_dir entry ≡ true → OnlyEnters entry result
only_dir entry (Ok (Enters place)) dir = ap (λ b. b || is_root_link entry) dir
only_dir entry (Ok Stays) dir = tt
only_dir entry (Err error) dir = tt
