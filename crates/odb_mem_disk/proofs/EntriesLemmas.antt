-- The entries of a directory, by the order of paths: what is below it comes right after it.
use Rattle.std.proofs.Common.{◌≡◌, ◌≢◌, ◌&&◌, ℕ, Bool, true, false, cond, List, [], ◌∷◌, ◌++◌, length, get_or, map, Bor, Some, None, Result, Ok, Err, refl, sym, ap, ◌∙◌, append-nil, arith}
use Rattle.std.specs.Option.{option_map}
use Rattle.std.specs.Ordering.{is_lt}
use Rattle.std.specs.declared.ops.Bound.TheVariants.{Excluded, Unbounded}
use Rattle.std.specs.Cmp.Lexicographic.{nat_list_eq_equiv}
use Rattle.std.specs.BTreeMap.Range.{entries_between}
use Rattle.std.specs.List.{cons_option, filter_map}
use Rattle.std.proofs.lemmas.Bool.{false≢true}
use Rattle.odb_base.specs.Path.{Name, Path, path_cmp}
use Rattle.odb_disk.specs.Tree.{Tree, node_at, name_in, is_directory, is_directory_content}
use Rattle.odb_disk.specs.Tree.Follow as following
use Rattle.odb_disk.specs.Tree.Follow.{Place, followed}
use Rattle.odb_disk.specs.Tree.Write as writing
use Rattle.odb_disk.specs.Tree.Write.{from_followed, refusal_from}
use Rattle.odb_disk.specs.TreeCalls.{path_of_place}
use Rattle.odb_disk.specs.Answers.{Tells, Answers}
use Rattle.odb_disk.specs.Entries.{kind_of, entry_of, entry_in, entries_in, entries_at, entries_at_place, opened}
use Rattle.odb_disk.specs.declared.entry.Entry.{Entry}
use Rattle.odb_disk.specs.declared.meta.Kind.{Kind}
use Rattle.odb_disk.specs.declared.disk_error.DiskError.{DiskError}
use Rattle.odb_disk.specs.declared.disk_error.DiskError.TheVariants as errors
use Rattle.odb_disk.specs.declared.node.Node.{Node}
use Rattle.odb_disk.specs.declared.node.Content.{Content}
use Rattle.odb_disk.specs.declared.node.Content.TheVariants.{File, Dir, Link}
use Rattle.odb_disk.proofs.TreeLemmas.Change.{name_in-path}
use Rattle.odb_mem_disk.proofs.NamesLemmas.{before_names}
use Rattle.odb_disk.proofs.WriteCallsLemmas.Spots.{led_to}

abbrev pub Nodes : Type 0
Nodes = List (Path × Node)

-- ---- what is directly in a directory

pub name_in-below : (directory rest : Path) → name_in directory (directory ++ rest) ≡ name_in [] rest
unfolding name_in
name_in-below [] rest = refl
name_in-below (step ∷ steps) rest = ap (λ b. cond b (name_in steps (steps ++ rest)) None) (nat_list_eq_equiv.refl step) ∙ name_in-below steps rest

-- a node has no entry if no name leads to its path
pub no_entry : (directory : Path) (at : Path × Node) → ((name : Name) → at.0 ≡ directory ++ name ∷ [] → ⊥) → entry_in directory at ≡ None
no_entry directory at none = elim (name_in directory at.0) as (λ o. name_in directory at.0 ≡ o → option_map (entry_of at.1) o ≡ None) [
  | None ↦ λ _. refl
  | Some name ↦ λ is. absurd (none name (name_in-path directory at.0 name is))
] refl

module _ (directory : Path) where
  -- the nodes after the directory
  abbrev pub behind : Nodes → Nodes
  behind es = entries_between path_cmp (Excluded directory) Unbounded es

  -- the entries of some nodes
  abbrev pub entries_among : Nodes → List Entry
  entries_among es = filter_map (entry_in directory) es

  pub entries_behind : (es : Nodes) → entries_among (behind es) ≡ entries_among es
  entries_behind [] = refl
  entries_behind (e ∷ es) =
      elim (is_lt (path_cmp directory e.0)) as (λ b. is_lt (path_cmp directory e.0) ≡ b → entries_among (cond (b && true) (e ∷ behind es) (behind es)) ≡ entries_among (e ∷ es)) [
        | true ↦ λ _. ap (cons_option (entry_in directory e)) (entries_behind es)
        | false ↦ λ before.
            let none = no_entry directory e (λ name is. false≢true (sym before ∙ ap is_lt (ap (path_cmp directory) is ∙ before_names directory name))) in
            entries_behind es ∙ sym (ap (λ o. cons_option o (entries_among es)) none)
      ] refl

-- ---- the names below a directory

unnamed : (names : List (Bor Name)) → length names ≢ 1 → name_in [] (map (λ n. n.now) names) ≡ None
unfolding name_in
unnamed [] other = refl
unnamed (name ∷ []) other = absurd (other refl)
unnamed (name ∷ next ∷ names) other = refl

named : (names : List (Bor Name)) (d : Bor Name) → length names ≡ 1 → name_in [] (map (λ n. n.now) names) ≡ Some (get_or names 0 d).now
unfolding name_in
named [] d one = absurd (omega arith)
named (name ∷ []) d one = refl
named (name ∷ next ∷ names) d one = absurd (omega arith)

abbrev entry_with : ℕ → Name → Kind → Entry
entry_with ino name kind = record { name = name; kind = kind; ino = ino }

-- no name, or more than one, adds nothing
pub none_added : (so_far : List Entry) (names : List (Bor Name)) (below : Path) (node : Node) → map (λ n. n.now) names ≡ below → length names ≢ 1
    → so_far ≡ so_far ++ filter_map (entry_in []) ((below, node) ∷ [])
none_added so_far names below node is other =
    let none : entry_in [] (below, node) ≡ None = ap (option_map (entry_of node)) (ap (name_in []) (sym is) ∙ unnamed names other) in
    sym (append-nil so_far) ∙ ap (λ o. so_far ++ cons_option o []) (sym none)

-- one name adds its entry
pub one_added : (names : List (Bor Name)) (below : Path) (node : Node) (d : Bor Name) (name : Name) (kind : Kind) → map (λ n. n.now) names ≡ below → length names ≡ 1
    → name ≡ (get_or names 0 d).now → kind ≡ kind_of node.content → entry_in [] (below, node) ≡ Some (entry_with node.ino name kind)
one_added names below node d name kind is one name_is kind_is =
    ap (option_map (entry_of node)) (ap (name_in []) (sym is) ∙ named names d one ∙ ap Some (sym name_is)) ∙ ap (λ k. Some (entry_with node.ino name k)) (sym kind_is)

-- ---- what opening a directory answers

entries_at-content : (t : Tree) (p : Path) (c : Content) → entries_at t p c ≡ cond (is_directory_content c) (Ok (entries_in t p)) (Err following.WrongKind)
entries_at-content t p (File bytes time) = refl
entries_at-content t p Dir = refl
entries_at-content t p (Link target) = refl

module _ (t : Tree) (path p : Path) (found : from_followed (path_of_place (followed t true path)) ≡ Ok p) where
  opened-place : (b : Bool) → is_directory (node_at t p) ≡ b → opened t path ≡ cond b (Ok (entries_in t p)) (Err following.WrongKind)
  unfolding opened
  opened-place b is =
      let l = led_to t path p found in
      ap (entries_at_place t) l.is ∙ entries_at-content t l.place.path l.place.node.content
      ∙ ap (λ k. cond k (Ok (entries_in t l.place.path)) (Err following.WrongKind)) (sym (ap is_directory l.at) ∙ is)
      ∙ ap (λ q. cond b (Ok (entries_in t q)) (Err following.WrongKind)) l.path_is

  pub opened_directory : is_directory (node_at t p) ≡ true → opened t path ≡ Ok (entries_in t p)
  opened_directory is = opened-place true is

  pub opened_other : is_directory (node_at t p) ≡ false → opened t path ≡ Err following.WrongKind
  opened_other is = opened-place false is

same_refusal : (refusal twin : following.Refusal) → refusal_from refusal ≡ refusal_from twin → refusal ≡ twin
same_refusal following.Absent following.Absent is = refl
same_refusal following.Absent following.WrongKind is = cc
same_refusal following.Absent following.LinkLoop is = cc
same_refusal following.WrongKind following.Absent is = cc
same_refusal following.WrongKind following.WrongKind is = refl
same_refusal following.WrongKind following.LinkLoop is = cc
same_refusal following.LinkLoop following.Absent is = cc
same_refusal following.LinkLoop following.WrongKind is = cc
same_refusal following.LinkLoop following.LinkLoop is = refl

never_exists : (refusal : following.Refusal) → refusal_from refusal ≡ writing.Exists → ⊥
never_exists following.Absent is = cc
never_exists following.WrongKind is = cc
never_exists following.LinkLoop is = cc

never_not_empty : (refusal : following.Refusal) → refusal_from refusal ≡ writing.NotEmpty → ⊥
never_not_empty following.Absent is = cc
never_not_empty following.WrongKind is = cc
never_not_empty following.LinkLoop is = cc

refused : (t : Tree) (told : Result Place following.Refusal) (e : DiskError) → Tells {A = Path} (Err e) (from_followed (path_of_place told))
    → Answers {A = List Entry} (Err e) (entries_at_place t told)
refused t (Ok place) errors.Absent is = absurd (cc)
refused t (Ok place) errors.WrongKind is = absurd (cc)
refused t (Ok place) errors.LinkLoop is = absurd (cc)
refused t (Ok place) errors.Exists is = absurd (cc)
refused t (Ok place) errors.NotEmpty is = absurd (cc)
refused t (Ok place) errors.Failed is = tt
refused t (Ok place) errors.NoMemory is = tt
refused t (Err refusal) errors.Absent is = ap Err (same_refusal refusal following.Absent (let e : refusal_from refusal ≡ writing.Absent = cc in e))
refused t (Err refusal) errors.WrongKind is = ap Err (same_refusal refusal following.WrongKind (let e : refusal_from refusal ≡ writing.WrongKind = cc in e))
refused t (Err refusal) errors.LinkLoop is = ap Err (same_refusal refusal following.LinkLoop (let e : refusal_from refusal ≡ writing.LinkLoop = cc in e))
refused t (Err refusal) errors.Exists is = never_exists refusal (let e : refusal_from refusal ≡ writing.Exists = cc in e)
refused t (Err refusal) errors.NotEmpty is = never_not_empty refusal (let e : refusal_from refusal ≡ writing.NotEmpty = cc in e)
refused t (Err refusal) errors.Failed is = tt
refused t (Err refusal) errors.NoMemory is = tt

pub opened_refused : (t : Tree) (path : Path) (e : DiskError) → Tells {A = Path} (Err e) (from_followed (path_of_place (followed t true path))) → Answers {A = List Entry} (Err e) (opened t path)
unfolding opened
opened_refused t path e is = refused t (followed t true path) e is
