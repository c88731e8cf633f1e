use Rattle.std.proofs.Common.{◌≡◌, Bool, true, false, cond, ◌||◌, refl, sym, ap, ◌∙◌}
use Rattle.std.specs.Cmp.Lexicographic.{lists_ties, texts_ties}
use Rattle.std.specs.Ordering.{is_eq}
use Rattle.odb_base.specs.Path.{Path, name_cmp, path_cmp}
use Rattle.gix_odb_events.specs.PackFiles.{same_path}
use Rattle.gix_odb_search.proofs.absent.add.Goals as goal

either : (b c : Bool) → cond b true c ≡ (c || b)
either true true = refl
either true false = refl
either false true = refl
either false false = refl

-- one more path in a set of paths
path_more : (path place : Path) (had has : Bool) → has ≡ cond (is_eq (path_cmp path place)) true had → has ≡ (had || same_path path place)
path_more path place had has put =
    put
    ∙ ap (λ (b : Bool). cond b true had) (sym (lists_ties name_cmp texts_ties path place))
    ∙ either (same_path path place) had

pub returns-clause-added : goal.returns-clause-added
returns-clause-added c = λ place. path_more c.args.path place _ _ (c.in_ok-insert.ensures.updates.0 place)
