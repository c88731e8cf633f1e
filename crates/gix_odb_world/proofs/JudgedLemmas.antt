-- What is judged of a turn that may change what watched paths show, and what is kept after it.
use Rattle.std.proofs.Common.{◌≡◌, true, Option, Some, None, Result, Ok, Err, OnOk, sym, subst}
use Rattle.odb_disk.specs.Ask.{change_of_ask}
use Rattle.odb_disk.specs.MemDisk.{Volume}
use Rattle.odb_disk.specs.declared.ask.DiskAsk.{DiskAsk}
use Rattle.odb_disk.proofs.AskedLaws.{asked_possible}
use Rattle.odb_disk.specs.Tree.{IsTree, Tree, tree_of}
use Rattle.odb_disk.specs.Tree.Change.{changed, is_possible_in}
use Rattle.odb_disk.specs.declared.change.Change.{Change}
use Rattle.gix_odb_watch.specs.Kept.{Fits, IsSecond, Kept, Notes}
use Rattle.gix_odb_watch.specs.Revealed.{IsRevealed}
use Rattle.gix_odb_watch.specs.declared.revealed.Revealed.{Revealed}
use Rattle.gix_odb_world.specs.Watch.{NotesMade, ShowsSecondBy, TellsChange}

-- the change of a call is possible in the tree of the disk
pub told_possible : (disk : Volume) (ask : DiskAsk) (told : Tree) → told ≡ tree_of disk.state → (change : Change) → Some change ≡ change_of_ask (tree_of disk.state) ask
    → IsTree (tree_of disk.state) → is_possible_in told change ≡ true
told_possible disk ask told shown change is is_tree =
    subst (λ t. is_possible_in t change ≡ true) (sym shown) (asked_possible (tree_of disk.state) is_tree ask change (sym is))

-- the change that was judged is noted
pub kept_made : {A E : Type 0} (old new : Kept) (told : Option Revealed) (revealed : Revealed) → told ≡ Some revealed → (change : Option Change) (made : Change) → change ≡ Some made
    → (answer : Result A E)
    → OnOk answer ((before after : Tree) → Fits old before → IsRevealed old.folders before after revealed → Notes old old.folders after new)
    → OnOk answer ((before after : Tree) → Fits old before → IsRevealed old.folders before after revealed → (IsSecond old after → ⊥) → Fits new after)
    → OnOk answer ((t : Tree) → Fits old t → TellsChange old.folders t change told → (ShowsSecondBy old t change → ⊥) → NotesMade old t change new)
kept_made old new None revealed told_is change made is answer notes fits = absurd (cc told_is)
kept_made old new (Some own) revealed told_is None made is answer notes fits = absurd (cc is)
kept_made old new (Some own) revealed told_is (Some change) made is (Ok done) notes fits =
    λ t here tells first.
    let same : own ≡ revealed = cc told_is in
    let shows : IsRevealed old.folders t (changed t change) revealed = subst (IsRevealed old.folders t (changed t change)) same tells in
    record { notes = notes t (changed t change) here shows; fits = fits t (changed t change) here shows first }
kept_made old new (Some own) revealed told_is (Some change) made is (Err error) notes fits = tt
