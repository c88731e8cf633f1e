use Rattle.std.proofs.Common.{◌≡◌, ◌∷◌, ◌+◌, ◌≤◌, ◌==◌, length, get_or, true, sym, ap, ◌∙◌, subst, arith}
use Rattle.std.specs.BTreeSet.{Updates, btree_set_len}
use Rattle.odb_base.specs.Path.{path_cmp}
use Rattle.gix_odb_world.specs.Valid.{most_folders}
use Rattle.gix_odb_world.proofs.DistinctLemmas.{Has, good_by_set, has_more, take_past}
use Rattle.gix_odb_world.proofs.opening.are_good_folders.Goals as goal

pub loop-folder-preserved : goal.loop-folder-preserved
loop-folder-preserved c =
    has_more c.args.path.now c.args.folders.now c.loop-folder.paths c.insert-in-loop-folder.new.self c.folder-item.result c.loop-folder.folder-index
    (omega (arith, c.loop-folder-test.true, ap length c.as_slice-folder-items.ensures.value))
    (subst (λ folders. c.folder-item.result ≡ get_or folders c.loop-folder.folder-index c.folder-item.result) c.as_slice-folder-items.ensures.value c.folder-item.is) c.loop-folder.invariant
    (subst (λ path. Updates path_cmp c.loop-folder.paths c.insert-in-loop-folder.new.self path true) c.in_ok-try_clone-2.ensures.copy c.in_ok-insert-2.ensures.updates)

-- all folders are in the set
pub returns : goal.returns
returns c =
    let past : length c.args.folders.now ≤ c.loop-folder.folder-index = omega (arith, c.loop-folder-test.false, ap length c.as_slice-folder-items.ensures.value) in
    let few : length c.args.folders.now ≤ most_folders = omega (arith, c.len.ensures.len, c.if-len-gt-MAX_FOLDERS.false) in
    let all : Has (c.args.path.now ∷ c.args.folders.now) c.loop-folder.paths =
    subst (λ folders. Has (c.args.path.now ∷ folders) c.loop-folder.paths) (take_past c.args.folders.now c.loop-folder.folder-index past) c.loop-folder.invariant in
    record {
      good = ap (λ n. n == c.len-3.result + 1) c.len-2.ensures.len
          ∙ (ap (λ n. btree_set_len c.loop-folder.paths == n + 1) c.len-3.ensures.len
          ∙ sym (good_by_set c.args.path.now c.args.folders.now c.loop-folder.paths few all c.len-2.ensures.ordered));
    }
