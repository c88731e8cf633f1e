-- The stream of a look-up of a prefix next to all others: it is opened, read and closed.
use Rattle.std.proofs.Common.{◌≡◌, ℕ, ◌+◌, true, false, max, cond, Bool, List, length, Option, Some, None, is_some, unwrap_or, refl, sym, ap, subst, ◌∙◌, arith}
use Rattle.std.specs.FinMap as finite
use Rattle.std.specs.FinMap.{get-insert, get-remove, len-insert, nat_cmp-IsAntisymmetric, same_map}
use Rattle.std.specs.Option.{option_map}
use Rattle.std.specs.Ordering.{eq_by_cmp, nat_cmp}
use Rattle.std.specs.Cmp.{eq_by_cmp_equiv, nat_cmp_total}
use Rattle.std.proofs.lemmas.Map.Views.{tells_apart}
use Rattle.odb_base.specs.Path.{Path}
use Rattle.odb_disk.specs.Streams.{IsClosed, Opens, Streams, open_count, still_gives, with_closed, with_stream}
use Rattle.odb_disk.specs.Tree.{State}
use Rattle.odb_disk.specs.declared.entry.Entry.{Entry}
use Rattle.walkdir.specs.OwnStreams.{AreBack}
use Rattle.gix_odb_loose.specs.PrefixSearches.{Began, OwnsOne, left_of}

-- ---- a number that is put in, and taken out

abbrev OpenDirs : Type 0
OpenDirs = finite.FinMap nat_cmp (List Entry)

abbrev tied : ℕ → ℕ → Bool
tied = eq_by_cmp nat_cmp

alike : (a b : OpenDirs) → ((q : ℕ) → finite.get a q ≡ finite.get b q) → a ≡ b
alike a b is = same_map nat_cmp_total nat_cmp-IsAntisymmetric a b is

has_inserted : (m : OpenDirs) (d : ℕ) (es : List Entry) → finite.get (finite.insert m d es) d ≡ Some es
has_inserted m d es = get-insert nat_cmp_total m d es d ∙ ap (λ b. cond b (Some es) (finite.get m d)) ((eq_by_cmp_equiv nat_cmp_total).refl d)

hidden : (b : Bool) (es : List Entry) (o : Option (List Entry)) → cond b None (cond b (Some es) o) ≡ cond b None o
hidden true es o = refl
hidden false es o = refl

remove_again : (m : OpenDirs) (d : ℕ) (es : List Entry) → finite.remove (finite.insert m d es) d ≡ finite.remove m d
remove_again m d es = alike _ _ (λ q.
    get-remove nat_cmp_total (finite.insert m d es) d q ∙ ap (cond (tied q d) None) (get-insert nat_cmp_total m d es q) ∙ hidden (tied q d) es (finite.get m q)
    ∙ sym (get-remove nat_cmp_total m d q))

remove_none : (m : OpenDirs) (d : ℕ) → finite.get m d ≡ None → finite.remove m d ≡ m
remove_none m d free = alike _ _ (λ q.
    get-remove nat_cmp_total m d q ∙ elim (tied q d) as (λ b. tied q d ≡ b → cond b None (finite.get m q) ≡ finite.get m q) [
      | true ↦ λ t. sym (ap (finite.get m) (tells_apart nat_cmp-IsAntisymmetric q d t) ∙ free)
      | false ↦ λ _. refl
    ] refl)

-- ---- its own stream

module _ (b : Began) where
  pub own_opened : (state : Option State) (path : Path) (old new : Streams) (dir : ℕ) → Opens state path old new dir → OwnsOne b None old → OwnsOne b (Some dir) new
  own_opened state path old new dir opens own =
      let many : finite.len (finite.insert old.open_dirs dir opens.entries) ≡ open_count old + 1 =
      len-insert nat_cmp_total old.open_dirs dir opens.entries ∙ ap (λ some. cond some (open_count old) (open_count old + 1)) (ap is_some opens.was_free) in
      let few : open_count old ≡ open_count b.streams = ap finite.len own.beside in
      let peak : new.peak ≡ max old.peak (finite.len (finite.insert old.open_dirs dir opens.entries)) = ap (λ (s : Streams). s.peak) opens.streams in
      let now : new.open_dirs ≡ finite.insert old.open_dirs dir opens.entries = ap (λ (s : Streams). s.open_dirs) opens.streams in
      record {
        beside = (
          ap (λ (m : OpenDirs). is_some (finite.get m dir)) now ∙ ap is_some (has_inserted old.open_dirs dir opens.entries),
          ap (λ (m : OpenDirs). finite.remove m dir) now ∙ remove_again old.open_dirs dir opens.entries ∙ remove_none old.open_dirs dir opens.was_free ∙ own.beside,
        );
        peak = omega (arith, own.peak);
      }

  pub own_drawn : (old new : Streams) (dir : ℕ) (rest : List Entry) → new ≡ with_stream old dir rest → OwnsOne b (Some dir) old → OwnsOne b (Some dir) new
  own_drawn old new dir rest is own =
      subst (OwnsOne b (Some dir)) (sym is)
      (record { beside = (ap is_some (has_inserted old.open_dirs dir rest), remove_again old.open_dirs dir rest ∙ own.beside.1); peak = own.peak })

  pub own_closed : (old new : Streams) (dir : ℕ) → new ≡ with_closed old dir → OwnsOne b (Some dir) old → OwnsOne b None new
  own_closed old new dir is own = subst (OwnsOne b None) (sym is) (record { beside = own.beside.1; peak = own.peak })

  pub own_same : (own : Option ℕ) (old new : Streams) → new ≡ old → OwnsOne b own old → OwnsOne b own new
  own_same own old new is owns = subst (OwnsOne b own) (sym is) owns

  -- its own stream is open
  pub not_closed : (old new : Streams) (dir : ℕ) → OwnsOne b (Some dir) old → ¬ (IsClosed old new dir)
  not_closed old new dir own closed =
      let both : false ≡ true = sym (ap is_some closed.closed) ∙ own.beside.0 in
      cc both

  -- it has none
  pub own_back : (now : Streams) → OwnsOne b None now → AreBack b.streams 1 now
  own_back now own = record { same = own.beside; peak = own.peak }

-- ---- what a stream still gives

pub gives_drawn : (old new : Streams) (dir : ℕ) (rest : List Entry) → new ≡ with_stream old dir rest → still_gives new dir ≡ Some rest
gives_drawn old new dir rest is = ap (λ (s : Streams). still_gives s dir) is ∙ has_inserted old.open_dirs dir rest

pub gives_opened : (state : Option State) (path : Path) (old new : Streams) (dir : ℕ) (opens : Opens state path old new dir) → still_gives new dir ≡ Some opens.entries
gives_opened state path old new dir opens = ap (λ (s : Streams). finite.get s.open_dirs dir) opens.streams ∙ has_inserted old.open_dirs dir opens.entries

pub left_is : (now : Streams) (dir : ℕ) (entries : List Entry) → still_gives now dir ≡ Some entries → left_of now dir ≡ length entries
left_is now dir entries gives = ap (λ (o : Option (List Entry)). unwrap_or (option_map length o) 0) gives
