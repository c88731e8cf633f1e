-- Where a look-up of a prefix stands after the stream of the directory was read or closed.
use Rattle.std.proofs.Common.{◌≡◌, inl, inr, ℕ, ◌+◌, ◌<◌, ◌≤◌, List, [], ◌∷◌, ◌++◌, length, Option, Some, None, Result, Ok, Err}
use Rattle.std.proofs.Common.{refl, sym, ap, ◌∙◌, subst, arith, length-append}
use Rattle.std.specs.List.{IsDistinct, cons_option, filter_map}
use Rattle.std.specs.Option.{ForSome}
use Rattle.odb_base.specs.Faults.{Rose}
use Rattle.odb_disk.specs.StreamAsks.{ClosesAs, GivesAs}
use Rattle.odb_disk.specs.Streams.{Gives, GivesFirst, IsAtEnd, Streams, still_gives}
use Rattle.odb_disk.specs.Tree.{Tree, tree_of}
use Rattle.odb_disk.specs.declared.ask.DiskAnswer.{DiskAnswer}
use Rattle.odb_disk.specs.declared.ask.DiskAnswer.TheVariants as answers
use Rattle.odb_disk.specs.declared.disk_error.DiskError.{DiskError}
use Rattle.odb_disk.specs.declared.disk_error.DiskError.TheVariants as errors
use Rattle.odb_disk.specs.declared.entry.Entry.{Entry}
use Rattle.gix_hash.specs.Prefix.{IsPrefix}
use Rattle.gix_hash.specs.declared.object_id.ObjectId.{ObjectId}
use Rattle.gix_odb_loose.specs.PrefixNames.{same_id}
use Rattle.gix_odb_loose.specs.PrefixOrder.{closed, failed, match_of, more, read}
use Rattle.gix_odb_loose.specs.PrefixSearches.{AreNamed, Began, BreaksAt, IsAtIn, IsReadIn, OwnsOne, calls_at, folder_in, head_in, left_of, matches_at}
use Rattle.gix_odb_loose.specs.declared.prefix_search.Match.{Match}
use Rattle.gix_odb_loose.specs.declared.prefix_search.SearchStage.TheVariants as stages
use Rattle.gix_odb_loose.specs.declared.prefix_search.SearchStep.{SearchStep}
use Rattle.gix_odb_loose.proofs.PrefixSearchesLemmas.Ends.{Turned, fails, goes}
use Rattle.gix_odb_loose.proofs.PrefixSearchesLemmas.Links.{next_turns}
use Rattle.gix_odb_loose.proofs.PrefixSearchesLemmas.Matches.{more_named, none_named, read_more, whole_left}
use Rattle.gix_odb_loose.proofs.PrefixSearchesLemmas.Streams.{gives_drawn, left_is, not_closed, own_closed, own_drawn, own_same}

-- an entry is at most one match
few_more : (matches : List Match) (o : Option Match) → length (matches ++ cons_option o []) ≤ length matches + 1
few_more matches None = omega (arith, length-append matches [])
few_more matches (Some m) = omega (arith, length-append matches (m ∷ []))

module _ (b : Began) (is : IsPrefix b.prefix) (old new : Streams) (before now : ℕ) (first : b.faults ≤ before) (then : before ≤ now) where
  pub still_later : b.faults ≤ now
  still_later = omega (arith, first, then)

  pub rose_since : Rose before now → Rose b.faults now
  rose_since rose = omega (arith, first, rose)

  rose_before : Rose b.faults before → Rose b.faults now
  rose_before rose = omega (arith, then, rose)

  abbrev pub To : (calls : ℕ) → SearchStep → Type 0
  To calls step = Turned b new now calls step

  module _ (names : List ObjectId) (distinct : IsDistinct same_id names) (dir : ℕ) (matches : List Match) (named : AreNamed b matches) where
    -- ---- an entry of the stream

    module _ (entry : Entry) (g : GivesFirst old new dir entry) (own : OwnsOne b (Some dir) old) where
      gives_now : still_gives new dir ≡ Some g.rest
      gives_now = gives_drawn old new dir g.rest g.left

      less_left : left_of old dir ≡ left_of new dir + 1
      less_left =
          let was = left_is old dir (entry ∷ g.rest) g.first in
          let more_left = left_is new dir g.rest gives_now in
          omega (arith, was, more_left)

      abbrev pub with_entry : List Match
      with_entry = matches ++ filter_map (match_of b.prefix) (entry ∷ [])

      fewer : calls_at new (stages.Reading dir with_entry) < calls_at old (stages.Reading dir matches)
      unfolding calls_at
      fewer = omega (arith, less_left, few_more matches (match_of b.prefix entry))

      -- what was read, with the entry
      read_on : (tree : Tree) → IsReadIn b tree old dir matches → IsReadIn b tree new dir with_entry
      read_on tree was =
          let both : Some was.rest ≡ Some (entry ∷ g.rest) = sym was.gives ∙ g.first in
          let same : was.rest ≡ entry ∷ g.rest = cc both in
          read_more b tree old new dir matches entry g.rest was same gives_now

      entry_turns : ForSome b.state (λ s. (names ≡ []) × IsReadIn b (tree_of s) old dir matches) → To (calls_at old (stages.Reading dir matches)) (more (head_in b names) (stages.Reading dir with_entry))
      entry_turns at =
          goes b is new now still_later names distinct _ (stages.Reading dir with_entry) (more_named b matches entry named) (own_drawn b old new dir g.rest g.left own)
          (λ s here. let h = at s here in (h.0, read_on (tree_of s) h.1)) tt fewer

    -- the stream was read to its end
    end_turns : IsAtEnd old new dir → OwnsOne b (Some dir) old → ForSome b.state (λ s. (names ≡ []) × IsReadIn b (tree_of s) old dir matches)
        → To (calls_at old (stages.Reading dir matches)) (more (head_in b names) (stages.Closing dir (Ok matches)))
    unfolding calls_at
    end_turns ended own at =
        goes b is new now still_later names distinct _ (stages.Closing dir (Ok matches)) named (own_same b (Some dir) old new ended.same own)
        (λ s here. let h = at s here in
        let both : Some h.1.rest ≡ Some [] = sym h.1.gives ∙ ended.ended in
        let last : h.1.rest ≡ [] = cc both in
        whole_left b (tree_of s) is old dir names matches h.1 last h.0)
        tt (omega arith)

    -- it can't be read on
    break_turns : (error : DiskError) → BreaksAt b now (stages.Closing dir (Err error)) → new ≡ old → OwnsOne b (Some dir) old
        → To (calls_at old (stages.Reading dir matches)) (more (head_in b names) (stages.Closing dir (Err error)))
    unfolding calls_at
    break_turns error breaks same own =
        goes b is new now still_later names distinct _ (stages.Closing dir (Err error)) (none_named b) (own_same b (Some dir) old new same own) (λ s here. tt) breaks (omega arith)

    refused_turns : (error : DiskError) → (error ≡ errors.Failed → Rose before now) → Gives old new dir (Err error) → OwnsOne b (Some dir) old
        → To (calls_at old (stages.Reading dir matches)) (more (head_in b names) (stages.Closing dir (Err error)))
    refused_turns errors.Absent rose gives own = absurd (not_closed b old new dir own gives)
    refused_turns errors.WrongKind rose gives own = absurd gives
    refused_turns errors.LinkLoop rose gives own = absurd gives
    refused_turns errors.Exists rose gives own = absurd gives
    refused_turns errors.NotEmpty rose gives own = absurd gives
    refused_turns errors.Failed rose gives own = break_turns errors.Failed (inl (refl, rose_since (rose refl))) gives own
    refused_turns errors.NoMemory rose gives own = break_turns errors.NoMemory (inr refl) gives own

    pub read_turns : (answer : DiskAnswer) → (answer ≡ answers.Refused errors.Failed → Rose before now) → GivesAs old new dir answer → OwnsOne b (Some dir) old
        → ForSome b.state (λ s. (names ≡ []) × IsReadIn b (tree_of s) old dir matches) → To (calls_at old (stages.Reading dir matches)) (read (head_in b names) dir matches answer)
    read_turns (answers.Entry entry) failed gives own at = entry_turns entry gives own at
    read_turns answers.End failed gives own at = end_turns gives own at
    read_turns (answers.Refused error) failed gives own at = refused_turns error (λ same. failed (ap answers.Refused same)) gives own
    read_turns (answers.Meta meta) failed gives own at = absurd gives
    read_turns (answers.File bytes time) failed gives own at = absurd gives
    read_turns (answers.Dir other) failed gives own at = absurd gives
    read_turns answers.Done failed gives own at = absurd gives

  -- ---- the stream was closed

  pub own_none : (dir : ℕ) (answer : DiskAnswer) → ClosesAs old new dir answer → OwnsOne b (Some dir) old → OwnsOne b None new
  own_none dir answers.Done closes own = own_closed b old new dir closes own
  own_none dir (answers.Meta meta) closes own = absurd closes
  own_none dir (answers.File bytes time) closes own = absurd closes
  own_none dir (answers.Dir other) closes own = absurd closes
  own_none dir (answers.Entry entry) closes own = absurd closes
  own_none dir answers.End closes own = absurd closes
  own_none dir (answers.Refused error) closes own = absurd closes

  module _ (names : List ObjectId) (distinct : IsDistinct same_id names) (dir : ℕ) (own : OwnsOne b None new) where
    -- the look-up is broken off
    broken_turns : (error : DiskError) → BreaksAt b before (stages.Closing dir (Err error)) → To (calls_at old (stages.Closing dir (Err error))) (failed (head_in b names) 0 (folder_in b) error)
    unfolding calls_at
    broken_turns error (inl failed_now) =
        subst (λ (e : DiskError). To 1 (failed (head_in b names) 0 (folder_in b) e)) (sym failed_now.0)
        (fails b is new now still_later names distinct 1 0 (folder_in b) errors.Failed own (rose_before failed_now.1, inl refl) (omega arith))
    broken_turns error (inr lost) =
        subst (λ (e : DiskError). To 1 (failed (head_in b names) 0 (folder_in b) e)) (sym lost)
        (fails b is new now still_later names distinct 1 0 (folder_in b) errors.NoMemory own tt (omega arith))

    many_calls : (matches : List Match) → length matches < calls_at old (stages.Closing dir (Ok matches))
    unfolding calls_at
    many_calls matches = omega arith

    pub closed_turns : (read : Result (List Match) DiskError) → AreNamed b (matches_at (stages.Closing dir read)) → ForSome b.state (λ s. IsAtIn b (tree_of s) old names (stages.Closing dir read))
        → BreaksAt b before (stages.Closing dir read) → To (calls_at old (stages.Closing dir read)) (closed (head_in b names) read)
    closed_turns (Ok matches) named at breaks = next_turns b is new now still_later _ own matches names distinct named at (many_calls matches)
    closed_turns (Err error) named at breaks = broken_turns error breaks
