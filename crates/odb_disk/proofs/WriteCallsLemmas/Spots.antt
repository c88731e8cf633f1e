-- From the steps of a call that writes to the place that it finds.
use Rattle.std.proofs.Common.{◌≡◌, ◌≢◌, ℕ, Bool, true, false, [], ◌∷◌, ◌++◌, length, drop, Option, Some, None, Result, Ok, Err, refl, sym, ap, ◌∙◌, cond, subst}
use Rattle.odb_base.specs.Path.{Path, parent_of}
use Rattle.odb_disk.specs.Tree.{Tree, node_at, names_in, is_directory}
use Rattle.odb_disk.specs.Tree.Follow as following
use Rattle.odb_disk.specs.Tree.Follow.{Place, pass, followed, followed_within, most_links}
use Rattle.odb_disk.specs.Tree.Change.{is_nil, is_file_content}
use Rattle.odb_disk.specs.Tree.Write.{Refusal, Absent, WrongKind, Exists, NotEmpty, from_followed, and_then, in_directory, spot_below, spot, vacant_spot}
use Rattle.odb_disk.specs.Tree.Write.{vacant, movable_spot, movable, replaceable, removable_spot, removable, file_path, file_spot}
use Rattle.odb_disk.specs.TreeCalls.{Ends, path_of_place}
use Rattle.odb_disk.specs.Answers.{Tells}
use Rattle.odb_disk.specs.declared.node.Node.{Node}
use Rattle.odb_disk.specs.declared.disk_error.DiskError.{DiskError}
use Rattle.odb_disk.specs.declared.disk_error.DiskError.TheVariants as errors
use Rattle.odb_disk.proofs.TreeLemmas.Follow.{followed_missing, followed_blocked, place_stands}
use Rattle.odb_disk.proofs.TreeLemmas.Moved.{behind-append}

-- ---- errors that are passed on

-- an error of a pass is the answer
pub Tells-from_end : (links : ℕ) (t : Tree) (path : Path) (e : DiskError) → Ends e (pass t true [] path) → Tells (Err e) (from_followed (path_of_place (followed_within links t true path)))
Tells-from_end links t path errors.Absent is = ap (λ r. from_followed (path_of_place r)) (followed_missing t true path links is)
Tells-from_end links t path errors.WrongKind is = ap (λ r. from_followed (path_of_place r)) (followed_blocked t true path links is)
Tells-from_end links t path errors.LinkLoop is = absurd is
Tells-from_end links t path errors.Exists is = absurd is
Tells-from_end links t path errors.NotEmpty is = absurd is
Tells-from_end links t path errors.Failed is = absurd is
Tells-from_end links t path errors.NoMemory is = tt

-- an error of a step is that of the word
pub refused_then : {A B : Type 0} (next : A → Result B Refusal) (told : Result A Refusal) (e : DiskError) → Tells {A = A} (Err e) told → Tells {A = B} (Err e) (and_then next told)
refused_then next told errors.Absent is = ap (and_then next) is
refused_then next told errors.WrongKind is = ap (and_then next) is
refused_then next told errors.LinkLoop is = ap (and_then next) is
refused_then next told errors.Exists is = ap (and_then next) is
refused_then next told errors.NotEmpty is = ap (and_then next) is
refused_then next told errors.Failed is = absurd is
refused_then next told errors.NoMemory is = tt

-- an error in place of something found is out of memory
found_refused : {A B : Type 0} (x : A) (word : Result B Refusal) (e : DiskError) → Tells {A = A} (Err e) (Ok x) → Tells {A = B} (Err e) word
found_refused x word errors.Absent is = absurd (cc)
found_refused x word errors.WrongKind is = absurd (cc)
found_refused x word errors.LinkLoop is = absurd (cc)
found_refused x word errors.Exists is = absurd (cc)
found_refused x word errors.NotEmpty is = absurd (cc)
found_refused x word errors.Failed is = absurd is
found_refused x word errors.NoMemory is = tt

pub place_refused : {B : Type 0} (next : Place → Result B Refusal) (told : Result Place following.Refusal) (e : DiskError) → Tells {A = Path} (Err e) (from_followed (path_of_place told))
    → Tells {A = B} (Err e) (and_then next (from_followed told))
place_refused next (Ok place) e is = found_refused place.path (next place) e is
place_refused next (Err refusal) e is = refused_then {A = Path} (λ _. Err Absent) (from_followed (Err refusal)) e is

-- ---- a place that is led to

pub record LedTo (t : Tree) (path p : Path) : Type 0 where
  pub place : Place
  pub is : followed t true path ≡ Ok place
  pub path_is : place.path ≡ p
  pub at : node_at t p ≡ Some place.node

pub led_to : (t : Tree) (path p : Path) → from_followed (path_of_place (followed t true path)) ≡ Ok p → LedTo t path p
led_to t path p is =
    elim (followed t true path) as (λ told. followed t true path ≡ told → from_followed (path_of_place told) ≡ Ok p → LedTo t path p) [
      | Ok place ↦ λ leads e. let same : place.path ≡ p = cc in record { place = place; is = leads; path_is = same; at = ap (node_at t) (sym same) ∙ place_stands t most_links true path place leads }
      | Err refusal ↦ λ _ e. absurd (cc)
    ] refl is

-- ---- the spot of a path

module _ (t : Tree) (path : Path) where
  pub spot_root : (parent : Option Path) → parent ≡ parent_of path → parent ≡ None → spot t path ≡ Ok []
  unfolding spot
  spot_root parent is none = ap (spot_below t path) (sym is ∙ none)

  module _ (parent : Option Path) (is : parent ≡ parent_of path) (front : Path) (some : parent ≡ Some front) where
    spot_front : spot t path ≡ and_then (in_directory (drop (length front) path)) (from_followed (followed t true front))
    unfolding spot
    spot_front = ap (spot_below t path) (sym is ∙ some)

    pub spot_refused : (e : DiskError) → Tells {A = Path} (Err e) (from_followed (path_of_place (followed t true front))) → Tells {A = Path} (Err e) (spot t path)
    spot_refused e refused = subst (Tells {A = Path} (Err e)) (sym spot_front) (place_refused (in_directory (drop (length front) path)) (followed t true front) e refused)

    module _ (p : Path) (found : from_followed (path_of_place (followed t true front)) ≡ Ok p) where
      in_there : (b : Bool) → is_directory (node_at t p) ≡ b → spot t path ≡ cond b (Ok (p ++ drop (length front) path)) (Err WrongKind)
      in_there b directory =
          let l = led_to t front p found in
          spot_front ∙ ap (λ r. and_then (in_directory (drop (length front) path)) (from_followed r)) l.is
          ∙ ap (λ k. cond k (Ok (l.place.path ++ drop (length front) path)) (Err WrongKind)) (sym (ap is_directory l.at) ∙ directory)
          ∙ ap (λ q. cond b (Ok (q ++ drop (length front) path)) (Err WrongKind)) l.path_is

      pub spot_nowhere : is_directory (node_at t p) ≡ false → spot t path ≡ Err WrongKind
      spot_nowhere other = in_there false other

      pub spot_there : is_directory (node_at t p) ≡ true → (last : Path) → front ++ last ≡ path → spot t path ≡ Ok (p ++ last)
      spot_there directory last whole = in_there true directory ∙ ap (λ r. Ok (p ++ r)) (ap (drop (length front)) (sym whole) ∙ behind-append front last)

-- ---- what is at the spot

module _ (t : Tree) (path s : Path) (is : spot t path ≡ Ok s) where
  pub vacant_here : node_at t s ≡ None → vacant t path ≡ Ok s
  unfolding vacant
  vacant_here none = ap (and_then (λ place. vacant_spot place (node_at t place))) is ∙ ap (vacant_spot s) none

  pub taken_here : (n : Node) → node_at t s ≡ Some n → vacant t path ≡ Err Exists
  unfolding vacant
  taken_here n at = ap (and_then (λ place. vacant_spot place (node_at t place))) is ∙ ap (vacant_spot s) at

  pub nothing_to_move : node_at t s ≡ None → movable t path ≡ Err Absent
  unfolding movable
  nothing_to_move none = ap (and_then (λ place. movable_spot place (node_at t place))) is ∙ ap (movable_spot s) none

  pub moves_or_not : (n : Node) (b : Bool) → node_at t s ≡ Some n → is_directory (Some n) ≡ b → movable t path ≡ cond b (Err WrongKind) (Ok s)
  unfolding movable
  moves_or_not n b at directory =
      ap (and_then (λ place. movable_spot place (node_at t place))) is ∙ ap (movable_spot s) at ∙ ap (λ k. cond k (Err WrongKind) (Ok s)) directory

  pub replaced_or_not : (b : Bool) → is_directory (node_at t s) ≡ b → replaceable t path ≡ cond b (Err WrongKind) (Ok s)
  unfolding replaceable
  replaced_or_not b directory = ap (and_then (λ place. cond (is_directory (node_at t place)) (Err WrongKind) (Ok place))) is ∙ ap (λ k. cond k (Err WrongKind) (Ok s)) directory

  pub nothing_to_remove : node_at t s ≡ None → removable t path ≡ Err Absent
  unfolding removable
  nothing_to_remove none = ap (and_then (λ place. removable_spot t place (node_at t place))) is ∙ ap (removable_spot t s) none

  pub removed_or_not : (n : Node) (nil root : Bool) → node_at t s ≡ Some n → is_nil (names_in t s) ≡ nil → is_nil s ≡ root
      → removable t path ≡ cond nil (cond root (Err WrongKind) (Ok s)) (Err NotEmpty)
  unfolding removable
  removed_or_not n nil root at names top =
      ap (and_then (λ place. removable_spot t place (node_at t place))) is ∙ ap (removable_spot t s) at
      ∙ ap (λ b. cond b (cond (is_nil s) (Err WrongKind) (Ok s)) (Err NotEmpty)) names ∙ ap (λ b. cond nil (cond b (Err WrongKind) (Ok s)) (Err NotEmpty)) top

module _ (t : Tree) (path : Path) where
  pub file_spot_refused : (e : DiskError) → Tells {A = Path} (Err e) (from_followed (path_of_place (followed t true path))) → Tells {A = Path} (Err e) (file_spot t path)
  unfolding file_spot
  file_spot_refused e refused = place_refused file_path (followed t true path) e refused

  pub file_or_not : (p : Path) → from_followed (path_of_place (followed t true path)) ≡ Ok p → (n : Node) (b : Bool) → node_at t p ≡ Some n → is_file_content n.content ≡ b
      → file_spot t path ≡ cond b (Ok p) (Err WrongKind)
  unfolding file_spot
  file_or_not p found n b at file =
      let l = led_to t path p found in
      let both : Some l.place.node ≡ Some n = sym l.at ∙ at in
      let same : l.place.node ≡ n = cc in
      ap (λ r. and_then file_path (from_followed r)) l.is ∙ ap (λ k. cond k (Ok l.place.path) (Err WrongKind)) (ap (λ (m : Node). is_file_content m.content) same ∙ file)
      ∙ ap (λ q. cond b (Ok q) (Err WrongKind)) l.path_is

  -- a path leads only to where a node is
  pub led_nowhere : (p : Path) → from_followed (path_of_place (followed t true path)) ≡ Ok p → node_at t p ≢ None
  led_nowhere p found none = let l = led_to t path p found in let both : None ≡ Some l.place.node = sym none ∙ l.at in cc

pub root_nil : (s : Path) → s ≡ [] → is_nil s ≡ true
root_nil s root = ap is_nil root

pub other_nil : (s : Path) → s ≢ [] → is_nil s ≡ false
other_nil [] other = absurd (other refl)
other_nil (name ∷ names) other = refl

-- ---- refusals of the steps and of the calls

module _ (t : Tree) (path : Path) (e : DiskError) where
  module _ (is : Tells {A = Path} (Err e) (spot t path)) where
    pub vacant_refused : Tells {A = Path} (Err e) (vacant t path)
    unfolding vacant
    vacant_refused = refused_then (λ place. vacant_spot place (node_at t place)) (spot t path) e is

    pub movable_refused : Tells {A = Path} (Err e) (movable t path)
    unfolding movable
    movable_refused = refused_then (λ place. movable_spot place (node_at t place)) (spot t path) e is

    pub replaceable_refused : Tells {A = Path} (Err e) (replaceable t path)
    unfolding replaceable
    replaceable_refused = refused_then (λ place. cond (is_directory (node_at t place)) (Err WrongKind) (Ok place)) (spot t path) e is

    pub removable_refused : Tells {A = Path} (Err e) (removable t path)
    unfolding removable
    removable_refused = refused_then (λ place. removable_spot t place (node_at t place)) (spot t path) e is
