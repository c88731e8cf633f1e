-- Laws of what watched paths have shown, for callers: what is kept says what the trees so far showed, from moment to moment.
use Rattle.std.proofs.Common.{◌≡◌, ◌⊎◌, inl, inr, ℕ, ◌+◌, ◌≤◌, Bool, true, false, List, Option, Some, None, is_some, if◌then◌else◌, ◌||◌, refl, sym, ap, ◌∙◌, subst, arith}
use Rattle.std.specs.FinMap as finite
use Rattle.std.specs.FinSet as set
use Rattle.std.specs.Option.{option_or}
use Rattle.std.specs.Ordering.{eq_by_cmp}
use Rattle.std.proofs.lemmas.Bool.{cases_lt}
use Rattle.odb_base.specs.Path.{Path, path_cmp}
use Rattle.odb_base.specs.PathLaws.{path_order}
use Rattle.odb_disk.specs.Tree.{IsTree, Tree}
use Rattle.gix_odb_watch.specs.Watched.{Shows}
use Rattle.gix_odb_watch.specs.Kept.{Kept, Folders, key_cmp, ShowsInOne, IsSecond, Notes, Fits, nothing_kept}
use Rattle.gix_odb_watch.specs.HasShown.{Since, AreBegun, with_since, HasShown, ShowsSecond, Keeps}
use Rattle.gix_odb_watch.proofs.KeptLemmas.{nothing_fits, still_notes}
use Rattle.gix_odb_watch.proofs.FilesLemmas.{some_of}
use Rattle.gix_odb_watch.proofs.RevealedLemmas.{one_more}

-- nothing is watched, and nothing is kept
pub keeps_nothing : (trees : ℕ → Tree) (now : ℕ) → IsTree (trees now) → Keeps trees (λ folder. None) now nothing_kept
keeps_nothing trees now is_tree = record {
  folders = λ folder. set.contains-empty path_cmp folder;
  only = λ path time bytes known. let both : None ≡ Some bytes = sym (finite.get-empty key_cmp (path, time)) ∙ known in absurd (cc);
  whole = λ path time bytes h. absurd (let both : None ≡ Some h.begun = h.watched in cc);
  fits = nothing_fits (trees now) is_tree;
}

module _ (trees : ℕ → Tree) (since : Since) (now : ℕ) (kept : Kept) (k : Keeps trees since now kept) where
  -- ---- a second content by what is kept is one by what was shown

  pub second_shown : (tree : Tree) → IsSecond kept tree → ShowsSecond trees since now tree
  second_shown tree s =
      let w = some_of (since s.shows.folder) (sym (k.folders s.shows.folder) ∙ s.shows.among) in
      record {
        path = s.path;
        time = s.time;
        first = s.first;
        bytes = s.bytes;
        known = k.only s.path s.time s.first s.known;
        folder = s.shows.folder;
        begun = w.0;
        watched = w.1;
        shows = s.shows.shows;
        differs = s.differs;
      }

  pub shown_second : (tree : Tree) → ShowsSecond trees since now tree → IsSecond kept tree
  shown_second tree s =
      record {
        path = s.path;
        time = s.time;
        first = s.first;
        bytes = s.bytes;
        known = k.whole s.path s.time s.first s.known;
        shows = record { folder = s.folder; among = k.folders s.folder ∙ ap is_some s.watched; shows = s.shows };
        differs = s.differs;
      }

-- ---- from moment to moment

le_or_next : (m n : ℕ) → m ≤ n + 1 → (m ≤ n) ⊎ (m ≡ n + 1)
le_or_next m n le = elim (cases_lt n m) [ inl more ↦ inr (omega (arith, le, more)) | inr less ↦ inl less ]

module _ (trees : ℕ → Tree) (since : Since) (now : ℕ) (old new : Kept) (k : Keeps trees since now old) where
  longer : (path : Path) (time : ℕ) (bytes : List ℕ) → HasShown trees since now path time bytes → HasShown trees since (now + 1) path time bytes
  longer path time bytes h =
      record { folder = h.folder; begun = h.begun; watched = h.watched; moment = h.moment; from = h.from; to = omega (arith, h.to); shows = h.shows }

  -- what was shown up to the next moment was shown before it, or is shown at it
  split : (path : Path) (time : ℕ) (bytes : List ℕ) → HasShown trees since (now + 1) path time bytes
      → HasShown trees since now path time bytes ⊎ ShowsInOne old.folders (trees (now + 1)) path time bytes
  split path time bytes h = elim (le_or_next h.moment now h.to) [
    | inl before ↦ inl (record { folder = h.folder; begun = h.begun; watched = h.watched; moment = h.moment; from = h.from; to = before; shows = h.shows })
    | inr next ↦ inr (record { folder = h.folder; among = k.folders h.folder ∙ ap is_some h.watched; shows = subst (λ (m : ℕ). Shows h.folder (trees m) path time bytes) next h.shows })
  ]

  -- After a change that shows no second content, and that was noted, what is kept says what the trees up to the next moment showed.
  pub keeps_on : AreBegun since now → Notes old old.folders (trees (now + 1)) new → Fits new (trees (now + 1)) → Keeps trees since (now + 1) new
  keeps_on begun n fits = record {
    folders = λ folder. ap (λ (f : Folders). set.contains f folder) n.folders_are ∙ k.folders folder;
    only = λ path time bytes kept.
        elim (n.only path time bytes kept) [
          | inl before ↦ longer path time bytes (k.only path time bytes before)
          | inr now_shown ↦ shown_now path time bytes now_shown
        ];
    whole = λ path time bytes h.
        elim (split path time bytes h) [
          | inl before ↦ n.stays path time bytes (k.whole path time bytes before)
          | inr shown ↦ fits.whole path time bytes (subst (λ (f : Folders). ShowsInOne f (trees (now + 1)) path time bytes) (sym n.folders_are) shown)
        ];
    fits = fits;
  }
    where
      shown_now : (path : Path) (time : ℕ) (bytes : List ℕ) → ShowsInOne old.folders (trees (now + 1)) path time bytes → HasShown trees since (now + 1) path time bytes
      shown_now path time bytes s =
          let w = some_of (since s.folder) (sym (k.folders s.folder) ∙ s.among) in
          let early = begun s.folder w.0 w.1 in
          record { folder = s.folder; begun = w.0; watched = w.1; moment = now + 1; from = omega (arith, early); to = omega arith; shows = s.shows }

-- A moment at which nothing changes adds nothing.
pub keeps_still : (trees : ℕ → Tree) (since : Since) (now : ℕ) (kept : Kept) → Keeps trees since now kept → AreBegun since now → trees (now + 1) ≡ trees now → Keeps trees since (now + 1) kept
keeps_still trees since now kept k begun same =
    let fits = subst (λ (t : Tree). Fits kept t) (sym same) k.fits in keeps_on trees since now kept kept k begun (still_notes kept (trees (now + 1)) fits) fits

-- ---- one more folder

module _ (trees : ℕ → Tree) (since : Since) (now : ℕ) (folder : Path) (old new : Kept) (k : Keeps trees since now old) (n : Notes old (one_more old.folders folder) (trees now) new) (fits : Fits new (trees now))
  where
    abbrev later : Since
    later = with_since since now folder

    or_own : (o : Option ℕ) (b : Bool) → is_some (option_or o (if b then Some now else None)) ≡ (b || is_some o)
    or_own None true = refl
    or_own None false = refl
    or_own (Some begun) true = refl
    or_own (Some begun) false = refl

    folders_later : (other : Path) → set.contains new.folders other ≡ is_some (later other)
    folders_later other =
        ap (λ (f : Folders). set.contains f other) n.folders_are ∙ set.contains-insert path_order old.folders folder other
        ∙ ap (λ b. eq_by_cmp path_cmp other folder || b) (k.folders other) ∙ sym (or_own (since other) (eq_by_cmp path_cmp other folder))

    -- a folder that was watched stays watched, since the same moment
    was_watched : (other : Path) (begun : ℕ) → since other ≡ Some begun → later other ≡ Some begun
    was_watched other begun watched = ap (λ o. option_or o (if eq_by_cmp path_cmp other folder then Some now else None)) watched

    -- one that is watched has been since before, or since now
    is_watched : (other : Path) (o : Option ℕ) (b : Bool) (begun : ℕ) → since other ≡ o → option_or o (if b then Some now else None) ≡ Some begun → (since other ≡ Some begun) ⊎ (begun ≡ now)
    is_watched other None true begun is e = let same : now ≡ begun = cc in inr (sym same)
    is_watched other None false begun is e = absurd (cc)
    is_watched other (Some first) b begun is e = inl (is ∙ e)

    still : (path : Path) (time : ℕ) (bytes : List ℕ) → HasShown trees since now path time bytes → HasShown trees later now path time bytes
    still path time bytes h =
        record { folder = h.folder; begun = h.begun; watched = was_watched h.folder h.begun h.watched; moment = h.moment; from = h.from; to = h.to; shows = h.shows }

    no_later : AreBegun since now → (other : Path) (begun : ℕ) → (since other ≡ Some begun) ⊎ (begun ≡ now) → begun ≤ now
    no_later early other begun (inl before) = early other begun before
    no_later early other begun (inr same) = omega (arith, same)

    shown_since : AreBegun since now → (path : Path) (time : ℕ) (bytes : List ℕ) → ShowsInOne (one_more old.folders folder) (trees now) path time bytes → HasShown trees later now path time bytes
    shown_since begun path time bytes s =
        let w = some_of (later s.folder) (sym (folders_later s.folder) ∙ ap (λ (f : Folders). set.contains f s.folder) n.folders_are ∙ s.among) in
        record {
          folder = s.folder;
          begun = w.0;
          watched = w.1;
          moment = now;
          from = no_later begun s.folder w.0 (is_watched s.folder (since s.folder) (eq_by_cmp path_cmp s.folder folder) w.0 refl w.1);
          to = omega arith;
          shows = s.shows;
        }

    -- A folder is watched from now on, and the tree was noted for it: what is kept says what it showed too.
    pub keeps_watched : AreBegun since now → Keeps trees later now new
    keeps_watched begun = record {
      folders = folders_later;
      only = λ path time bytes kept.
          elim (n.only path time bytes kept) [
            | inl before ↦ still path time bytes (k.only path time bytes before)
            | inr shown ↦ shown_since begun path time bytes shown
          ];
      whole = λ path time bytes h. kept_of path time bytes h;
      fits = fits;
    }
      where
        -- what a folder showed that is watched since now it shows now
        kept_by : (path : Path) (time : ℕ) (bytes : List ℕ) (h : HasShown trees later now path time bytes) → (since h.folder ≡ Some h.begun) ⊎ (h.begun ≡ now)
            → finite.get new.contents (path, time) ≡ Some bytes
        kept_by path time bytes h (inl before) =
            n.stays path time bytes (k.whole path time bytes (record { folder = h.folder; begun = h.begun; watched = before; moment = h.moment; from = h.from; to = h.to; shows = h.shows }))
        kept_by path time bytes h (inr same) =
            let this : h.moment ≡ now = omega (arith, h.from, h.to, same) in
            fits.whole path time bytes (record { folder = h.folder; among = folders_later h.folder ∙ ap is_some h.watched; shows = subst (λ (m : ℕ). Shows h.folder (trees m) path time bytes) this h.shows })

        kept_of : (path : Path) (time : ℕ) (bytes : List ℕ) → HasShown trees later now path time bytes → finite.get new.contents (path, time) ≡ Some bytes
        kept_of path time bytes h = kept_by path time bytes h (is_watched h.folder (since h.folder) (eq_by_cmp path_cmp h.folder folder) h.begun refl h.watched)
