-- A child is drawn from the innermost directory, or the directory is left.
use Rattle.std.proofs.Common.{◌≡◌, ℕ, ◌+◌, Bool, true, false, List, [], ◌∷◌, ◌++◌, length, map, Option, Some, None, Ok, Err, refl, sym, ap, subst, ◌∙◌, append_assoc}
use Rattle.std.specs.Prelude.{if◌then◌else◌}
use Rattle.std.specs.Option.{option_to_list}
use Rattle.odb_disk.specs.Streams.{Streams, still_gives, with_closed}
use Rattle.walkdir.specs.Error.{is_no_memory}
use Rattle.walkdir.specs.Options.{is_given}
use Rattle.walkdir.specs.OwnStreams.{AreBeside}
use Rattle.walkdir.specs.Progress.{Progress, Keeps}
use Rattle.walkdir.specs.Directory.{HasLeft, TakesHeld, held, stream_in, without_stream}
use Rattle.walkdir.specs.Stack.{StandsFor, Within, ancestors, own_entry, own_streams}
use Rattle.walkdir.specs.Turns.Drawn.{BreaksOff, DrawsEntry, IsDrawn}
use Rattle.walkdir.specs.Turns.Stands.{DrawsChild, IsOver, LeavesIt}
use Rattle.walkdir.specs.Turns.{given_if}
use Rattle.walkdir.specs.Walk.{Walking, Item, WalkOf, WalksOf, Child, Lost}
use Rattle.walkdir.specs.Walk.Children.{IsStreamed, Ended, Broken, Next, child_of}
use Rattle.walkdir.specs.declared.builder.Options.{Options}
use Rattle.walkdir.specs.declared.dent.DirEntry.{DirEntry}
use Rattle.walkdir.specs.declared.error.Error.{Error}
use Rattle.walkdir.specs.declared.directory.DirList.{DirList}
use Rattle.walkdir.specs.declared.directory.Items.{Items}
use Rattle.walkdir.proofs.OwnStreamsLemmas.{has_inserted}
use Rattle.walkdir.proofs.StandsForLemmas.{SameGiven, same-all, same-closed, same-drawn, stands_put, stands_same}
use Rattle.walkdir.proofs.DrawsLemmas.{broken_is, closed_again, gives_some, held_left, left_held, left_opened, open_beside, opened_left, same_without, some_same}

-- ---- a child is drawn from the innermost directory

entry_stands : (walk : Walking) (old new : Streams) (list : DirList) (items : Items) (outer : List DirList) (entry : DirEntry)
    (first rest : List Item) → SameGiven (own_streams outer) old new
    → ((children : List Item) → HasLeft new (length outer + 1) list.path items children
    → HasLeft old (length outer + 1) list.path list.items (Ok entry ∷ children))
    → WalkOf walk (ancestors (list ∷ outer)) entry first → StandsFor walk new ((record list { items = items }) ∷ outer) rest
    → StandsFor walk old (list ∷ outer) (first ++ rest)
entry_stands walk old new list items outer entry first rest same more walked (Within children here others left walks behind is) =
    Within (Ok entry ∷ children) (first ++ here) others (more children left) (Child first here walked walks refl)
    (stands_same walk old new outer others same behind)
    (ap (λ l. first ++ l) is ∙ sym (append_assoc first (here ++ own_entry walk.options list.after) others)
    ∙ ap (λ l. l ++ others) (sym (append_assoc first here (own_entry walk.options list.after))))

error_stands : (walk : Walking) (old new : Streams) (list : DirList) (items : Items) (outer : List DirList) (error : Error) (rest : List Item)
    → SameGiven (own_streams outer) old new
    → ((children : List Item) → HasLeft new (length outer + 1) list.path items children
    → HasLeft old (length outer + 1) list.path list.items (Err error ∷ children))
    → StandsFor walk new ((record list { items = items }) ∷ outer) rest → StandsFor walk old (list ∷ outer) (Err error ∷ rest)
error_stands walk old new list items outer error rest same more (Within children here others left walks behind is) =
    Within (Err error ∷ children) (Err error ∷ here) others (more children left) (Lost walks) (stands_same walk old new outer others same behind)
    (ap (λ l. Err error ∷ l) is)

module _ (old new : Progress) (list : DirList) (items : Items) (outer : List DirList) (was : old.stack ≡ list ∷ outer)
    (is : new.stack ≡ (record list { items = items }) ∷ outer) where
  draws_ok : (entry : DirEntry) → ((before : Streams) → Keeps before old → SameGiven (own_streams outer) old.streams new.streams)
      → ((children : List Item) → HasLeft new.streams (length outer + 1) list.path items children
      → HasLeft old.streams (length outer + 1) list.path list.items (Ok entry ∷ children))
      → DrawsChild old (Some (Ok entry)) new
  draws_ok entry same more = λ walk before keeps first rest walked stands.
      subst (λ s. StandsFor walk old.streams s (first ++ rest)) (sym was)
      (entry_stands walk old.streams new.streams list items outer entry first rest (same before keeps) more
      (subst (λ above. WalkOf walk above entry first) (ap ancestors is) walked) (subst (λ s. StandsFor walk new.streams s rest) is stands))

  draws_err : (error : Error) → ((before : Streams) → Keeps before old → SameGiven (own_streams outer) old.streams new.streams)
      → ((before : Streams) → Keeps before old → is_no_memory error ≡ false → (children : List Item)
      → HasLeft new.streams (length outer + 1) list.path items children
      → HasLeft old.streams (length outer + 1) list.path list.items (Err error ∷ children)) → DrawsChild old (Some (Err error)) new
  draws_err error same more = λ walk before keeps kept rest stands.
      subst (λ s. StandsFor walk old.streams s (Err error ∷ rest)) (sym was)
      (error_stands walk old.streams new.streams list items outer error rest (same before keeps) (more before keeps kept)
      (subst (λ s. StandsFor walk new.streams s rest) is stands))

  -- from what was already read of it
  pub draws_held : (item : Option Item) → TakesHeld list.items item items → stream_in list.items ≡ None → new.streams ≡ old.streams
      → DrawsChild old item new
  draws_held None takes none streams = λ before keeps. (
    subst (IsOver new.streams) (sym is) (left_held new.streams (length outer + 1) list.path items [] takes.1.no_stream (sym takes.1.nothing)),
    λ walk rest stands.
        subst (λ s. StandsFor walk old.streams s rest) (sym was)
        (stands_put walk old.streams old.streams [] list items outer rest (same-all (own_streams []) old.streams)
        (same-all (own_streams outer) old.streams)
        (λ children left. left_held old.streams (length outer + 1) list.path list.items children none
        (held_left old.streams (length outer + 1) list.path items children takes.1.no_stream left ∙ takes.1.nothing ∙ sym takes.0))
        (subst (λ s. StandsFor walk s ((record list { items = items }) ∷ outer) rest) streams
        (subst (λ s. StandsFor walk new.streams s rest) is stands))),
  )
  draws_held (Some (Ok entry)) takes none streams =
      draws_ok entry (λ before keeps. subst (SameGiven (own_streams outer) old.streams) (sym streams) (same-all (own_streams outer) old.streams))
      (λ children left. left_held old.streams (length outer + 1) list.path list.items (Ok entry ∷ children) none
      (ap (λ l. Ok entry ∷ l) (held_left new.streams (length outer + 1) list.path items children takes.1 left) ∙ sym takes.0))
  draws_held (Some (Err error)) takes none streams =
      draws_err error (λ before keeps. subst (SameGiven (own_streams outer) old.streams) (sym streams) (same-all (own_streams outer) old.streams))
      (λ before keeps kept children left. left_held old.streams (length outer + 1) list.path list.items (Err error ∷ children) none
      (ap (λ l. Err error ∷ l) (held_left new.streams (length outer + 1) list.path items children takes.1 left) ∙ sym takes.0))

  -- by its stream, which failed and was closed
  pub draws_broken_off : (dir : ℕ) (error : Error) (mid : Streams) → stream_in list.items ≡ Some dir → stream_in items ≡ None → held items ≡ []
      → BreaksOff (length outer + 1) old.streams dir error → IsDrawn old.streams dir mid → new.streams ≡ with_closed mid dir
      → DrawsChild old (Some (Err error)) new
  draws_broken_off dir error mid own none nothing breaks drawn closed =
      draws_err error
      (λ before keeps. subst (SameGiven (own_streams outer) old.streams) (sym (closed ∙ closed_again old.streams dir mid drawn))
      (same-closed (own_streams outer) old.streams dir (open_beside before old [] list outer dir was own keeps)))
      (λ before keeps kept children left.
      let gives = gives_some before old [] list outer dir was own keeps in
      let failed = broken_is (length outer + 1) old.streams dir error gives.0 breaks kept gives.1 in
      let alone : children ≡ [] = held_left new.streams (length outer + 1) list.path items children none left ∙ nothing in
      left_opened old.streams (length outer + 1) list.path list.items dir (Err error ∷ children) gives.0 own gives.1
      (subst (λ l. IsStreamed (length outer + 1) (map (child_of list.path (length outer + 1)) gives.0) (Err error ∷ l)) (sym alone)
      (subst (λ e. IsStreamed (length outer + 1) (map (child_of list.path (length outer + 1)) gives.0) (Err e ∷ [])) (sym failed) Broken)))

-- by its stream, which stays open
module _ (old new : Progress) (list : DirList) (outer : List DirList) (dir : ℕ) (was : old.stack ≡ list ∷ outer) (is : new.stack ≡ old.stack)
    (own : stream_in list.items ≡ Some dir) where
  pub draws_over : still_gives old.streams dir ≡ Some [] → new.streams ≡ old.streams → DrawsChild old None new
  draws_over gives streams = λ before keeps. (
    subst (IsOver new.streams) (sym (is ∙ was))
        (left_opened new.streams (length outer + 1) list.path list.items dir [] [] own (ap (λ s. still_gives s dir) streams ∙ gives) Ended),
    λ walk rest stands. subst (λ s. StandsFor walk s old.stack rest) streams (subst (λ s. StandsFor walk new.streams s rest) is stands),
  )

  pub draws_next : (child : DirEntry) → DrawsEntry (length outer + 1) list.path old.streams dir child new.streams
      → DrawsChild old (Some (Ok child)) new
  draws_next child draws =
      draws_ok old new list list.items outer was (is ∙ was) child
      (λ before keeps. subst (SameGiven (own_streams outer) old.streams) (sym draws.streams)
      (same-drawn (own_streams outer) old.streams dir draws.rest (open_beside before old [] list outer dir was own keeps)))
      (λ children left.
      let parts = opened_left new.streams (length outer + 1) list.path list.items dir children own left in
      let rest_is : parts.0 ≡ draws.rest = some_same parts.0 draws.rest (sym parts.1 ∙ ap (λ s. still_gives s dir) draws.streams
      ∙ has_inserted old.streams.open_dirs dir draws.rest) in
      let streamed : IsStreamed (length outer + 1) (map (child_of list.path (length outer + 1)) draws.rest) children =
      subst (λ es. IsStreamed (length outer + 1) (map (child_of list.path (length outer + 1)) es) children) rest_is parts.2 in
      let one : IsStreamed (length outer + 1) (map (child_of list.path (length outer + 1)) (draws.entry ∷ draws.rest))
      (Ok (child_of list.path (length outer + 1) draws.entry) ∷ children) =
      Next streamed in
      left_opened old.streams (length outer + 1) list.path list.items dir (Ok child ∷ children) (draws.entry ∷ draws.rest) own draws.gave
      (subst (λ c. IsStreamed (length outer + 1) (map (child_of list.path (length outer + 1)) (draws.entry ∷ draws.rest)) (Ok c ∷ children))
      (sym draws.child_is) one))

-- ---- a directory is left

over_stands : (walk : Walking) (old new : Streams) (list : DirList) (outer : List DirList) (own rest : List Item)
    → SameGiven (own_streams outer) old new
    → HasLeft old (length outer + 1) list.path list.items [] → own ≡ own_entry walk.options list.after → StandsFor walk new outer rest
    → StandsFor walk old (list ∷ outer) (own ++ rest)
over_stands walk old new list outer own rest same over is stands =
    Within [] [] rest over WalksOf.Nothing (stands_same walk old new outer rest same stands) (ap (λ l. l ++ rest) is)

pub leaves_it : (old new : Progress) (list : DirList) (entry : Option DirEntry) → old.stack ≡ list ∷ new.stack
    → new.streams ≡ without_stream (stream_in list.items) old.streams
    → map Ok (option_to_list entry) ≡ own_entry old.options list.after → LeavesIt old entry new
leaves_it old new list entry was closed given = λ walk before options keeps over rest stands.
    subst (λ s. StandsFor walk old.streams s (map Ok (option_to_list entry) ++ rest)) (sym was)
    (over_stands walk old.streams (without_stream (stream_in list.items) old.streams) list new.stack (map Ok (option_to_list entry)) rest
    (same_without (stream_in list.items) (own_streams new.stack) before.open_dirs old.streams
    (subst (λ s. AreBeside before.open_dirs (own_streams s) old.streams.open_dirs) was keeps.beside))
    (subst (IsOver old.streams) was over) (given ∙ ap (λ o. own_entry o list.after) (sym options))
    (subst (λ s. StandsFor walk s new.stack rest) closed stands))

given_shown : (b : Bool) (entry : DirEntry) → map {B = Item} Ok (option_to_list (given_if b entry)) ≡ (if b then Ok entry ∷ [] else [])
given_shown true entry = refl
given_shown false entry = refl

-- the entry of a directory that is given after its contents
pub own_given : (options : Options) (after entry : Option DirEntry) (own : DirEntry) → after ≡ Some own
    → entry ≡ given_if (is_given options own.depth) own
    → map Ok (option_to_list entry) ≡ own_entry options after
own_given options after entry own is given =
    ap (λ e. map Ok (option_to_list e)) given ∙ given_shown (is_given options own.depth) own ∙ ap (own_entry options) (sym is)

pub own_none : (options : Options) (after : Option DirEntry) → after ≡ None → map Ok (option_to_list None) ≡ own_entry options after
own_none options after is = ap (own_entry options) (sym is)
