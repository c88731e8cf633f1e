-- Laws of a directory that is entered: it is given before its contents, or after them.
use Rattle.std.proofs.Common.{◌≡◌, ℕ, Bool, true, false, ◌&&◌, ◌||◌, not, cond, List, [], ◌∷◌, ◌++◌, Option, Some, None, Ok, refl, sym, ap, subst, ◌∙◌, append_assoc, append-nil}
use Rattle.std.specs.Option.{option_to_list}
use Rattle.odb_base.specs.Path.{Path}
use Rattle.odb_disk.specs.Tree.{State}
use Rattle.odb_disk.specs.declared.meta.Kind.{Kind}
use Rattle.odb_disk.specs.declared.meta.Kind.TheVariants.{File, Dir, Link}
use Rattle.walkdir.specs.Entry.{is_dir, is_dir_kind, is_link, is_link_kind}
use Rattle.walkdir.specs.Options.{is_given}
use Rattle.walkdir.specs.Progress.{Progress}
use Rattle.walkdir.specs.Stack.{ancestors}
use Rattle.walkdir.specs.Turns.Stands.{EntersDirectory, PushesDirectory}
use Rattle.walkdir.specs.Turns.{given_if, handed}
use Rattle.walkdir.specs.Walk.{Item, ContentsOf}
use Rattle.walkdir.specs.Walk.Entries.{comes_after, shown}
use Rattle.walkdir.specs.declared.builder.Options.{Options}
use Rattle.walkdir.specs.declared.dent.DirEntry.{DirEntry}
use Rattle.walkdir.specs.declared.directory.Place.{Place}

dir_no_link : (kind : Kind) → is_dir_kind kind ≡ true → is_link_kind kind ≡ false
dir_no_link File is = cc
dir_no_link Dir is = refl
dir_no_link Link is = cc

dir_or_link : (kind : Kind) → (is_dir_kind kind || is_link_kind kind) ≡ true → not (is_link_kind kind) ≡ is_dir_kind kind
dir_or_link File is = cc
dir_or_link Dir is = refl
dir_or_link Link is = refl

pub shown_as : (b : Bool) (entry : DirEntry) → option_to_list (handed (Ok (given_if b entry))) ≡ cond b (Ok entry ∷ []) []
shown_as true entry = refl
shown_as false entry = refl

-- it is given after its contents
pub entered_first : (state : Option State) (old new : Progress) (entry : DirEntry) (place : Option Place) (path : Path) (depth : ℕ)
    → path ≡ entry.path → depth ≡ entry.depth
    → old.options.contents_first ≡ true → is_dir entry ≡ true → PushesDirectory state old path depth place (Some entry) new
    → EntersDirectory state old entry place None new
entered_first None old new entry place path depth same_path same_depth first dir pushes = tt
entered_first (Some s) old new entry place path depth same_path same_depth first dir pushes =
    λ walk tree options order before keeps kind lost rest left.
    let pushed = pushes walk tree options order before keeps rest left in
    let after : comes_after walk.options entry ≡ true =
    ap (λ (o : Options). o.contents_first && not (is_link entry)) options ∙ ap (λ b. b && not (is_link entry)) first
    ∙ ap not (dir_no_link entry.kind dir) in
    record {
      contents = pushed.contents;
      others = pushed.others;
      contains = subst (λ p. ContentsOf walk ((record { path = p; place = place }) ∷ ancestors old.stack) entry pushed.contents) same_path
          (pushed.contains entry (sym same_path) (sym same_depth));
      behind = pushed.behind;
      is = pushed.is ∙ sym (ap (λ b. cond b (pushed.contents ++ shown walk.options entry) (shown walk.options entry ++ pushed.contents)
          ++ pushed.others) after);
    }

-- it is given before them
pub entered_now : (state : Option State) (old new : Progress) (entry : DirEntry) (place : Option Place) (path : Path) (depth : ℕ)
    (given : Option DirEntry) → path ≡ entry.path
    → depth ≡ entry.depth → (old.options.contents_first && is_dir entry) ≡ false → given ≡ given_if (is_given old.options entry.depth) entry
    → PushesDirectory state old path depth place None new → EntersDirectory state old entry place (handed (Ok given)) new
entered_now None old new entry place path depth given same_path same_depth first is pushes = tt
entered_now (Some s) old new entry place path depth given same_path same_depth first is pushes =
    λ walk tree options order before keeps kind lost rest left.
    let pushed = pushes walk tree options order before keeps rest left in
    let contents = pushed.contents in
    let after : comes_after walk.options entry ≡ false =
    ap (λ (o : Options). o.contents_first && not (is_link entry)) options ∙ ap (λ b. old.options.contents_first && b) (dir_or_link entry.kind kind)
    ∙ first in
    let one : option_to_list (handed (Ok given)) ≡ shown walk.options entry =
    ap (λ g. option_to_list (handed (Ok g))) is ∙ shown_as (is_given old.options entry.depth) entry
    ∙ ap {B = List Item} (λ (o : Options). cond (is_given o entry.depth) (Ok entry ∷ []) []) (sym options) in
    let behind : rest ≡ contents ++ pushed.others = pushed.is ∙ ap (λ l. l ++ pushed.others) (append-nil contents) in
    record {
      contents = contents;
      others = pushed.others;
      contains = subst (λ p. ContentsOf walk ((record { path = p; place = place }) ∷ ancestors old.stack) entry contents) same_path
          (pushed.contains entry (sym same_path) (sym same_depth));
      behind = pushed.behind;
      is = ap (λ l. l ++ rest) one ∙ ap (λ l. shown walk.options entry ++ l) behind
          ∙ sym (append_assoc (shown walk.options entry) contents pushed.others)
          ∙ sym (ap (λ b. cond b (contents ++ shown walk.options entry) (shown walk.options entry ++ contents) ++ pushed.others) after);
    }
