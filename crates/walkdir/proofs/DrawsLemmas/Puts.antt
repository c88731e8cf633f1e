-- A directory of the stack gets other contents.
use Rattle.std.proofs.Common.{◌≡◌, ℕ, ◌+◌, List, [], ◌∷◌, ◌++◌, length, map, reverse, get_or, Some, None, sym, ap, subst, ◌∙◌, arith, length-append}
use Rattle.std.specs.FinMap as finite
use lib.Seq.{get_or-append_seam}
use lib.ListN.{length-reverse}
use Rattle.odb_disk.specs.Streams.{Streams, with_closed}
use Rattle.walkdir.specs.Progress.{Progress}
use Rattle.walkdir.specs.Stack.{StandsFor, ancestors, own_streams}
use Rattle.walkdir.specs.Directory.{held, stream_in}
use Rattle.walkdir.specs.Turns.Drawn.{IsDrawn, StreamsAll}
use Rattle.walkdir.specs.Turns.AtIndex.{Puts}
use Rattle.walkdir.specs.Turns.Stands.{StandsAsBefore}
use Rattle.walkdir.specs.Walk.Children.{IsStreamed, child_of}
use Rattle.walkdir.specs.declared.directory.DirList.{DirList}
use Rattle.walkdir.specs.declared.directory.Items.{Items}
use Rattle.walkdir.proofs.OrderLemmas.{none_left}
use Rattle.walkdir.proofs.StackLemmas.{reversed_at}
use Rattle.walkdir.proofs.StandsForLemmas.{ancestors_put, same-closed, stands_put}
use Rattle.walkdir.proofs.DrawsLemmas.{closed_again, gives_some, held_left, left_opened, open_back, open_beside, open_front}

-- its stream was read to its end and closed
closed_stands : (old new : Progress) (inner : List DirList) (list : DirList) (items : Items) (outer : List DirList) (dir : ℕ) (mid : Streams)
    → old.stack ≡ inner ++ list ∷ outer
    → new.stack ≡ inner ++ (record list { items = items }) ∷ outer → stream_in list.items ≡ Some dir → stream_in items ≡ None
    → IsDrawn old.streams dir mid
    → new.streams ≡ with_closed mid dir → StreamsAll (length outer + 1) list.path old.streams dir (held items) → StandsAsBefore old new
closed_stands old new inner list items outer dir mid was is own none drawn closed all = (
  ap ancestors is ∙ ancestors_put inner list items outer ∙ sym (ap ancestors was),
  λ walk before keeps rest stands.
      let streams : new.streams ≡ with_closed old.streams dir = closed ∙ closed_again old.streams dir mid drawn in
      let opened = open_beside before old inner list outer dir was own keeps in
      let gives = gives_some before old inner list outer dir was own keeps in
      subst (λ s. StandsFor walk old.streams s rest) (sym was)
      (stands_put walk old.streams (with_closed old.streams dir) inner list items outer rest
      (same-closed (own_streams inner) old.streams dir (open_front (own_streams inner) (own_streams outer) (finite.remove old.streams.open_dirs dir)
      opened))
      (same-closed (own_streams outer) old.streams dir (open_back (own_streams inner) (own_streams outer) (finite.remove old.streams.open_dirs dir)
      opened))
      (λ children left. left_opened old.streams (length outer + 1) list.path list.items dir children gives.0 own gives.1
      (subst (IsStreamed (length outer + 1) (map (child_of list.path (length outer + 1)) gives.0))
      (sym (held_left (with_closed old.streams dir) (length outer + 1) list.path items children none left)) (all gives.0 gives.1)))
      (subst (λ s. StandsFor walk s (inner ++ (record list { items = items }) ∷ outer) rest) streams
      (subst (λ s. StandsFor walk new.streams s rest) is stands))),
)

pub stands_alike : (old new : Progress) → new.stack ≡ old.stack → new.streams ≡ old.streams → StandsAsBefore old new
stands_alike old new stack streams = (
  ap ancestors stack,
  λ walk before keeps rest stands. subst (λ s. StandsFor walk s old.stack rest) streams (subst (λ s. StandsFor walk new.streams s rest) stack stands),
)

module _ (old new : Progress) (before_lists after_lists : List DirList) (index : ℕ) (items : Items) (list : DirList)
    (was : old.stack ≡ reverse before_lists)
    (is : new.stack ≡ reverse after_lists) (puts : Puts before_lists after_lists index items) (at : list ≡ get_or before_lists index list) where
  -- the directory at the index is the one that is read there
  put_same : puts.list ≡ list
  put_same =
      sym (at ∙ ap (λ l. get_or l index list) puts.was ∙ ap (λ n. get_or (puts.outer ++ puts.list ∷ puts.inner) n list) (sym puts.at)
      ∙ get_or-append_seam puts.outer puts.list puts.inner list)

  was_cut : old.stack ≡ reverse puts.inner ++ puts.list ∷ reverse puts.outer
  was_cut = was ∙ ap reverse puts.was ∙ reversed_at puts.outer puts.list puts.inner

  is_cut : new.stack ≡ reverse puts.inner ++ (record puts.list { items = items }) ∷ reverse puts.outer
  is_cut = is ∙ ap reverse puts.is ∙ reversed_at puts.outer (record puts.list { items = items }) puts.inner

  depth_cut : length (reverse puts.outer) ≡ index
  depth_cut = length-reverse puts.outer ∙ puts.at

  pub close_stands : (dir : ℕ) (mid : Streams) → stream_in list.items ≡ Some dir → stream_in items ≡ None → IsDrawn old.streams dir mid
      → new.streams ≡ with_closed mid dir
      → StreamsAll (index + 1) list.path old.streams dir (held items) → StandsAsBefore old new
  close_stands dir mid own none drawn closed all =
      closed_stands old new (reverse puts.inner) puts.list items (reverse puts.outer) dir mid was_cut is_cut
      (ap (λ (l : DirList). stream_in l.items) put_same ∙ own) none drawn closed
      (subst (λ n. StreamsAll (n + 1) puts.list.path old.streams dir (held items)) (sym depth_cut)
      (subst (λ (l : DirList). StreamsAll (index + 1) l.path old.streams dir (held items)) (sym put_same) all))

  -- it is the innermost one
  none_inner : index + 1 ≡ length before_lists → reverse puts.inner ≡ []
  none_inner last =
      let long : length before_lists ≡ length puts.outer + length (puts.list ∷ puts.inner) = ap length puts.was
      ∙ length-append puts.outer (puts.list ∷ puts.inner) in
      let front : length puts.outer ≡ index = puts.at in
      ap reverse (none_left puts.inner (omega arith))

  pub was_top : index + 1 ≡ length before_lists → old.stack ≡ list ∷ reverse puts.outer
  was_top last = was_cut ∙ ap (λ i. i ++ puts.list ∷ reverse puts.outer) (none_inner last) ∙ ap (λ l. l ∷ reverse puts.outer) put_same

  pub is_top : index + 1 ≡ length before_lists → new.stack ≡ (record list { items = items }) ∷ reverse puts.outer
  is_top last =
      is_cut ∙ ap (λ i. i ++ (record puts.list { items = items }) ∷ reverse puts.outer) (none_inner last)
      ∙ ap (λ (l : DirList). (record l { items = items }) ∷ reverse puts.outer) put_same

  pub top_depth : length (reverse puts.outer) ≡ index
  top_depth = depth_cut
