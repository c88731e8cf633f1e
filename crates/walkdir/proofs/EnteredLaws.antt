-- A failure inside a directory doesn't remove the directory's entry, if nothing stats it before.
use Rattle.std.proofs.Common.{◌≡◌, ◌&&◌, ◌||◌, Bool, true, false, cond, List, None, Ok, refl, ap, ◌∙◌}
use Rattle.std.specs.Prelude.{◌==◌}
use Rattle.odb_disk.specs.Tree.Follow.{looked}
use Rattle.odb_disk.specs.declared.meta.Kind.{Kind}
use Rattle.odb_disk.specs.declared.meta.Kind.TheVariants.{File, Dir, Link}
use Rattle.walkdir.specs.Entry.{is_dir, is_dir_kind, is_link, is_link_kind}
use Rattle.walkdir.specs.Walk.{Ancestor, Item, WalkOf, Walking}
use Rattle.walkdir.specs.Walk.Entries.{entering, enters_at, taken_for}
use Rattle.walkdir.specs.declared.dent.DirEntry.{DirEntry}
use Rattle.walkdir.specs.declared.directory.Entering.TheVariants.{Enters}
use Rattle.walkdir.proofs.HandlesLemmas.Entered.{dir_is}
use Rattle.walkdir.proofs.HandlesLemmas.Followed.{not_followed}
use Rattle.walkdir.proofs.WalkCases.{Within, as_unlooked}

neither : (a b : Bool) → (a || b) ≡ false → a ≡ false
neither true b off = cc
neither false b off = refl

not_a_link : (kind : Kind) → is_dir_kind kind ≡ true → is_link_kind kind ≡ false
not_a_link File dir = absurd cc
not_a_link Dir dir = refl
not_a_link Link dir = absurd cc

unlooked : (follow same link dir top root : Bool) → (follow || same) ≡ false → link ≡ false
    → ((follow && link) || (((follow || same) && dir) || ((link && top) && root))) ≡ false
unlooked true same link dir top root off plain = absurd cc
unlooked false true link dir top root off plain = absurd cc
unlooked false false true dir top root off plain = absurd cc
unlooked false false false dir top root off plain = refl

-- If devices and loops don't matter, a directory is given with its contents, whatever fails there.
pub directory_given : (walk : Walking) {above : List Ancestor} {entry : DirEntry} {items : List Item}
    → (walk.options.follow_links || walk.options.same_file_system) ≡ false → is_dir entry ≡ true
    → WalkOf walk above entry items → Within walk above entry None items
directory_given walk {above} {entry} off dir walked =
    let options = walk.options in
    let taken : taken_for walk above entry ≡ Ok entry =
    not_followed walk above entry (ap (λ b. b && is_link entry) (neither options.follow_links options.same_file_system off)) in
    let enters : entering walk entry ≡ Ok (Enters None) = dir_is walk entry dir
    ∙ ap (λ b. cond b (enters_at walk entry (looked walk.tree entry.path true)) (Ok (Enters None))) off in
    as_unlooked walk taken enters
    (unlooked options.follow_links options.same_file_system (is_link entry) (is_dir entry) (entry.depth == 0) options.follow_root_links off
    (not_a_link entry.kind dir)) walked
