-- The innermost directory that isn't skipped yet has nothing left, and its stream is closed.
use Rattle.std.proofs.Common.{false, ap, refl, reverse}
use Rattle.std.specs.Option.{option_map}
use Rattle.walkdir.specs.Progress.{Progress}
use Rattle.walkdir.specs.Skips.{Skips}
use Rattle.walkdir.specs.StackProgress.{progress}
use Rattle.walkdir.proofs.ProgressLemmas.{still_has_streams}
use Rattle.walkdir.proofs.SkipLemmas.{skips_none, skips_one}
use Rattle.walkdir.specs.declared.directory.Items.TheVariants.{Skipped}
use Rattle.walkdir.proofs.AnsweredLemmas.Steps.{tells_put, tells_still}
use Rattle.walkdir.proofs.stack.StackSteps.skip.Goals as goal

pub returns-in-Some-clause-skips : goal.returns-in-Some-clause-skips
returns-in-Some-clause-skips g c =
    let old = progress g.S.Sorter.order c.args.self.now (g.D.Disk.streams c.args.disk.now) in
    let new = progress g.S.Sorter.order c.put.new.self (g.D.Disk.streams c.close.new.disk) in
    let kept = c.put.ensures.kept in
    skips_one old new c.args.self.now.lists.items c.put.new.self.lists.items c.in-Some.index c.index.result.now
    (record {
      options = kept.options;
      order = ap (option_map g.S.Sorter.order) kept.sorter;
      start = kept.start;
      device = kept.device;
      entered = kept.entered;
    }) refl refl c.in-Some.ensures.found
    c.put.ensures.lists c.index.ensures c.close.ensures.streams

pub returns-in-Some-clause-own : goal.returns-in-Some-clause-own
returns-in-Some-clause-own g c own =
    let old = progress g.S.Sorter.order c.args.self.now (g.D.Disk.streams c.args.disk.now) in
    let new = progress g.S.Sorter.order c.put.new.self (g.D.Disk.streams c.close.new.disk) in
    let skips : Skips old new = returns-in-Some-clause-skips g c in
    still_has_streams old new own skips.keeps

pub returns-in_default-clause-skips : goal.returns-in_default-clause-skips
returns-in_default-clause-skips g c =
    let old = progress g.S.Sorter.order c.args.self.now (g.D.Disk.streams c.args.disk.now) in
    let new : Progress = record old { entered = false } in
    skips_none old new c.args.self.now.lists.items (record { options = refl; order = refl; start = refl; device = refl; entered = refl })
    refl refl refl c.in_default.ensures.found

pub returns-in_default-clause-own : goal.returns-in_default-clause-own
returns-in_default-clause-own g c own =
    let old = progress g.S.Sorter.order c.args.self.now (g.D.Disk.streams c.args.disk.now) in
    let new : Progress = record old { entered = false } in
    still_has_streams old new own (λ before keeps. keeps)

pub returns-in-Some-clause-answered : goal.returns-in-Some-clause-answered
returns-in-Some-clause-answered g c =
    tells_put g.D.Disk.answered c.args.disk.now c.close.new.disk c.args.self.now.lists.items c.put.new.self.lists.items c.in-Some.index Skipped
    c.put.ensures.lists c.close.ensures.answered refl

pub returns-in_default-clause-answered : goal.returns-in_default-clause-answered
returns-in_default-clause-answered g c =
    tells_still g.D.Disk.answered c.args.disk.now (reverse c.args.self.now.lists.items) (reverse c.args.self.now.lists.items) refl
