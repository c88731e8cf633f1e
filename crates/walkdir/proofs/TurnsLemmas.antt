-- Laws of turns that follow one another: what is still to come.
pub mod Passes
pub mod Turn
use Rattle.std.proofs.Common.{◌≡◌, List, ◌++◌, Option, Some, None, refl, sym, ap, subst, ◌∙◌}
use Rattle.std.specs.Prelude.{IfSome}
use Rattle.std.specs.Option.{option_to_list}
use Rattle.odb_base.specs.Path.{Path}
use Rattle.odb_disk.specs.Streams.{Streams}
use Rattle.odb_disk.specs.Tree.{State}
use Rattle.walkdir.specs.Progress.{Progress, GivesNext, Keeps, StillGives, still_to_come}
use Rattle.walkdir.specs.Stack.{StandsFor}
use Rattle.walkdir.specs.Walk.{Walking, Item}

-- ---- what is still to come

come_same : (walk : Walking) (old new : Progress) (start : Option Path) (items : List Item) → new.streams ≡ old.streams → new.stack ≡ old.stack
    → still_to_come walk new start items → still_to_come walk old start items
come_same walk old new (Some root) items streams stack left = left
come_same walk old new None items streams stack left =
    subst (λ s. StandsFor walk s old.stack items) streams (subst (λ s. StandsFor walk new.streams s items) stack left)

pub gives_same : (walk : Walking) (old new : Progress) (items : List Item) → new.start ≡ old.start → new.streams ≡ old.streams → new.stack ≡ old.stack
    → StillGives walk new items → StillGives walk old items
gives_same walk old new items start streams stack left =
    come_same walk old new old.start items streams stack (subst (λ s. still_to_come walk new s items) start left)

-- a walk that has begun stands for what its stack does
pub stands_for : (walk : Walking) (at : Progress) (items : List Item) → at.start ≡ None → StillGives walk at items
    → StandsFor walk at.streams at.stack items
stands_for walk at items none left = subst (λ s. still_to_come walk at s items) none left

pub still_gives : (walk : Walking) (at : Progress) (items : List Item) → at.start ≡ None → StandsFor walk at.streams at.stack items
    → StillGives walk at items
still_gives walk at items none left = subst (λ s. still_to_come walk at s items) (sym none) left

-- ---- what is given by one turn and then another

pub gives_then : (state : Option State) (old mid new : Progress) (item : Option Item) → GivesNext state old None mid
    → ((before : Streams) → Keeps before old → Keeps before mid)
    → GivesNext state mid item new → GivesNext state old item new
gives_then None old mid new item first keeps second = tt
gives_then (Some s) old mid new item first keeps second = λ walk before tree of kept lost.
    let one = first walk before tree of kept refl in
    let two = second walk before tree one.0 (keeps before kept) lost in
    (two.0, λ rest left. one.1 (option_to_list item ++ rest) (two.1 rest left))

pub gives_nothing : (state : Option State) (old new : Progress) → new.options ≡ old.options → new.order ≡ old.order → new.start ≡ old.start
    → new.device ≡ old.device
    → new.streams ≡ old.streams → new.stack ≡ old.stack → GivesNext state old None new
gives_nothing None old new options order start device streams stack = tt
gives_nothing (Some s) old new options order start device streams stack = λ walk before tree of kept lost. (
  record {
    options = options ∙ of.options;
    order = order ∙ of.order;
    start = subst (λ o. IfSome o (λ root. root ≡ walk.root)) (sym start) of.start;
    device = λ some same. of.device (λ empty. some (stack ∙ empty)) same ∙ ap Some (sym device);
  },
  λ rest left. gives_same walk old new rest start streams stack left,
)
