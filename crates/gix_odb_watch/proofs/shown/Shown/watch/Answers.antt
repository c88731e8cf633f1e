use Rattle.std.proofs.Common.{◌∙◌, sym, subst, true}
use Rattle.std.specs.BTreeSet as tree_set
use Rattle.std.specs.FinSet as set
use Rattle.std.proofs.lemmas.Result.{on_ok_weaker}
use Rattle.odb_base.specs.Path.{Path, path_cmp}
use Rattle.gix_odb_watch.proofs.KeptLemmas.{watch_fits, watch_notes, watched_again}
use Rattle.gix_odb_watch.proofs.shown.Shown.watch.Goals as goal

pub seen_now-requires : goal.seen_now-requires
seen_now-requires c = record { is_tree = c.requires.fits.is_tree }

pub returns-then-contains-clause-notes : goal.returns-then-contains-clause-notes
returns-then-contains-clause-notes c =
    watched_again c.args.self.now c.args.tree.now c.requires.fits c.args.folder.now c.self.inside.folders (set.from_list c.self.inside.linked.keys) c.self.inside.contents c.self.view_is
    (sym c.contains.ensures ∙ c.if-contains.true)

pub returns-clause-notes : goal.returns-clause-notes
returns-clause-notes c =
    let added = subst (λ (key : Path). tree_set.Updates path_cmp c.self.inside.folders c.insert.new.self key true) c.in_ok-key.ensures.copy c.in_ok-insert.ensures.updates in
    on_ok_weaker c.learn.result
    (λ learns.
    watch_notes c.args.self.now c.args.tree.now c.requires.fits c.args.folder.now c.self.inside.folders (set.from_list c.self.inside.linked.keys) c.self.inside.contents c.self.view_is
    c.insert.new.self added c.in_ok-revealed.revealed c.in_ok-revealed.ensures.seen c.learn.new.self learns)
    c.learn.ensures.learns

pub returns-clause-fits : goal.returns-clause-fits
returns-clause-fits c =
    let added = subst (λ (key : Path). tree_set.Updates path_cmp c.self.inside.folders c.insert.new.self key true) c.in_ok-key.ensures.copy c.in_ok-insert.ensures.updates in
    on_ok_weaker c.learn.result
    (λ learns.
    watch_fits c.args.self.now c.args.tree.now c.requires.fits c.args.folder.now c.self.inside.folders (set.from_list c.self.inside.linked.keys) c.self.inside.contents c.self.view_is
    c.insert.new.self added c.in_ok-revealed.revealed c.in_ok-revealed.ensures.seen c.learn.new.self learns)
    c.learn.ensures.learns
