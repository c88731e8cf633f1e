-- From the answers of finds and header look-ups to the calls built on them.
use Rattle.std.proofs.Common.{◌≡◌, ℕ, ◌+◌, ◌≤◌, ◌<◌, List, [], ◌∷◌, ◌++◌, length, take, get_or, Option, Some, None, Result, Ok, Err, refl, sym, ap, subst, arith}
use Rattle.std.specs.List.{AllZip, Contains}
use Rattle.std.specs.Option.{IfSome}
use Rattle.std.specs.Result.{IfErr, IsErrAnd}
use Rattle.std.proofs.lemmas.List.{take_more}
use Rattle.std.proofs.lemmas.Option.{same_Some}
use Rattle.std.proofs.lemmas.Slice.Zip.{all_zipped_more}
use Rattle.odb_base.specs.Faults.{Rose}
use Rattle.odb_disk.specs.Tree.{State}
use Rattle.gix_hash.specs.declared.object_id.ObjectId.{ObjectId}
use Rattle.gix_object.specs.Data.{Object}
use Rattle.gix_object.specs.declared.kind.Kind.{Kind}
use Rattle.gix_odb_loose.proofs.CauseLaws.{FindCause-wider, HeaderCause-wider}
use Rattle.gix_odb_loose.specs.Answers.{Finds, FindRefused, GaveIn, HeaderRefused, TellsHeader, path_in, put_in}
use Rattle.gix_odb_loose.specs.Store.{store_limit}
use Rattle.gix_odb_loose.specs.declared.find.Error.{Error}
use Rattle.gix_odb_loose.specs.declared.store.Store.{Store}
use Rattle.gix_odb_uses.specs.Objects.{IsAbsent, IsHeld, IsKindAt}

-- ---- what a disk reports, and results

-- a property of a value, if there is one
pub if_told : {A : Type 0} (told : Option A) (Holds : A → Type 0) → ((x : A) → told ≡ Some x → Holds x) → IfSome told Holds
if_told None Holds each = tt
if_told (Some x) Holds each = each x refl

-- a property of a value that is reported
pub at_told : {A : Type 0} (told : Option A) (Holds : A → Type 0) (x : A) → told ≡ Some x → IfSome told Holds → Holds x
at_told told Holds x is holds = subst (λ o. IfSome o Holds) is holds

-- a property of the error that a result was made of
pub if_err_made : {A E : Type 0} (result : Result A E) (error : E) (Holds : E → Type 0) → IsErrAnd result (λ e. e ≡ error) → Holds error → IfErr result Holds
if_err_made (Ok x) error Holds is holds = absurd is
if_err_made (Err e) error Holds is holds = subst Holds (sym is) holds

-- a count that rose in between rose from each earlier moment to each later one
pub rose_between : (earlier before now later : ℕ) → earlier ≤ before → now ≤ later → Rose before now → Rose earlier later
rose_between earlier before now later since until rose = omega arith

-- ---- what is found

module _ (store : Store) (id : ObjectId) (s : State) (Failed : Type 0) where
  -- an object that is found is held by its file
  pub held : (kind : Kind) (bytes : List ℕ) (result : Result (Option Kind) Error) → Finds store id s Failed (put_in result bytes) → result ≡ Ok (Some kind) → IsHeld store id s kind bytes
  held kind bytes result finds is = finds.found (record { kind = kind; bytes = bytes }) (ap (λ (r : Result (Option Kind) Error). put_in r bytes) is)

  -- where none is found, nothing is at the path
  pub absent : (bytes : List ℕ) (result : Result (Option Kind) Error) → Finds store id s Failed (put_in result bytes) → result ≡ Ok None → IsAbsent store id s
  absent bytes result finds is = finds.none (ap (λ (r : Result (Option Kind) Error). put_in r bytes) is)

  -- an object that is held is the one that is found
  pub same_found : (kind : Kind) (bytes : List ℕ) (found : Option Kind) (gave : List ℕ) → Finds store id s Failed (put_in (Ok found) gave) → IsHeld store id s kind bytes
      → (found ≡ Some kind) × (gave ≡ bytes)
  same_found kind bytes None gave finds is =
      let object : Object = record { kind = kind; bytes = bytes } in
      let differs : ◌≡◌ {A = Option Object} None (Some object) = finds.finds object is in
      cc differs
  same_found kind bytes (Some other) gave finds is =
      let object : Object = record { kind = kind; bytes = bytes } in
      let given : Object = record { kind = other; bytes = gave } in
      let same : given ≡ object = same_Some given object (finds.finds object is) in
      (ap (λ (o : Object). Some o.kind) same, ap (λ (o : Object). o.bytes) same)

  -- where something else is found, an object isn't held
  pub not_held : (kind : Kind) (bytes : List ℕ) (found : Option Kind) (gave : List ℕ) → (found ≡ Some kind → gave ≡ bytes → ⊥) → (result : Result (Option Kind) Error)
      → result ≡ Ok found → Finds store id s Failed (put_in result gave) → ¬ (IsHeld store id s kind bytes)
  not_held kind bytes found gave differs result is finds held =
      let same = same_found kind bytes found gave (subst (λ (r : Result (Option Kind) Error). Finds store id s Failed (put_in r gave)) is finds) held in
      differs same.0 same.1

  pub kind_told : (size : ℕ) (kind : Kind) (result : Result (Option (ℕ × Kind)) Error) → TellsHeader store id s Failed result → result ≡ Ok (Some (size, kind)) → IsKindAt store s id (Some kind)
  kind_told size kind result tells is =
      let given = tells.found (size, kind) is in
      record { bytes = given.bytes; time = given.time; given = given.given; holds = (size, given.holds) }

-- ---- errors of finds and header look-ups

module _ (store : Store) (id : ObjectId) (before after : Option State) (same : after ≡ before) (Failed Fails : Type 0) (fails : Failed → Fails) where
  -- a cause that is seen in a part of a call that leaves the state unchanged is one in the whole call
  pub find_refused : (error : Error) → FindRefused store id before Failed error → FindRefused store id after Fails error
  find_refused error refused =
      FindCause-wider (GaveIn before (path_in store id)) (GaveIn after (path_in store id)) (λ read gave. subst (λ (state : Option State). GaveIn state (path_in store id) read) (sym same) gave)
      Failed Fails (Unit {0}) (Unit {0}) fails (λ u. u) (path_in store id) (store_limit store) error refused

  pub header_refused : (error : Error) → HeaderRefused store id before Failed error → HeaderRefused store id after Fails error
  header_refused error refused =
      HeaderCause-wider (GaveIn before (path_in store id)) (GaveIn after (path_in store id)) (λ read gave. subst (λ (state : Option State). GaveIn state (path_in store id) read) (sym same) gave)
      Failed Fails (Unit {0}) (Unit {0}) fails (λ u. u) (path_in store id) error refused

-- ---- lists of ids

-- there is an id in a list that has a place
pub some_among : (ids : List ObjectId) (i : ℕ) → i < length ids → (id : ObjectId) × Contains ids id
some_among [] i within = absurd (omega arith)
some_among (id ∷ ids) i within = (id, (0, omega arith, refl))

-- one more id has its kind
pub kinds_more : (Is : ObjectId → Option Kind → Type 0) (ids : List ObjectId) (i : ℕ) (d : ObjectId) (kinds next : List (Option Kind)) (kind : Option Kind)
    → i < length ids → AllZip Is (take i ids) kinds → Is (get_or ids i d) kind → next ≡ kinds ++ kind ∷ [] → AllZip Is (take (i + 1) ids) next
kinds_more Is ids i d kinds next kind within each is added =
    subst (λ (front : List ObjectId). AllZip Is front next) (sym (take_more ids i d within))
    (subst (λ (all : List (Option Kind)). AllZip Is (take i ids ++ get_or ids i d ∷ []) all) (sym added) (all_zipped_more Is (take i ids) kinds (get_or ids i d) kind each is))
