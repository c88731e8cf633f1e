-- A walk that begins has no streams.
use Rattle.std.proofs.Common.{◌≡◌, true, sym, subst}
use Rattle.odb_disk.specs.Streams.{Streams}
use Rattle.walkdir.specs.Options.{Built}
use Rattle.walkdir.specs.Progress.{Progress, begun, has_its_streams}
use Rattle.walkdir.specs.Sorted.{all_equal}
use Rattle.walkdir.specs.declared.sort.NoSort.{NoSort}
use Rattle.walkdir.proofs.WholeWalks.{begun_has}
use Rattle.walk_tests.proofs.streams.most_of.Goals as goal

has_none : (at : Progress) (built : Built NoSort) (streams : Streams) → at ≡ begun (λ _. all_equal) built streams → has_its_streams at ≡ true
has_none at built streams is = subst (λ x. has_its_streams x ≡ true) (sym is) (begun_has (λ _. all_equal) built streams)

pub most_open-requires : goal.most_open-requires
most_open-requires c = record { own = has_none _ _ _ (c.into_stack-walk.ensures.begun _) }
