use Rattle.std.proofs.Common.{◌≡◌, ◌∙◌, suc, ◌-◌, true, ap, arith, Ok, sym}
use Rattle.odb_base.specs.Path.{Path}
use Rattle.odb_disk.proofs.TreeLemmas.Follow.{followed_onward, followed_reached}
use Rattle.gix_odb_watch.proofs.SightLemmas.{end_loop, end_nowhere}
use Rattle.gix_odb_watch.proofs.sight.Sight.+follow.Goals as goal

pub returns-in-At : goal.returns-in-At
returns-in-At t c =
    let end = rw c.in-At.is at c.in_ok-content.ensures.end in
    record {
      found = (
        end.0,
        followed_reached c.args.self.now true c.args.path.now c.args.links c.args.path.now end.0 end.1
            ∙ ap (λ (p : Path). Ok (record { path = p; node = end.0 })) (sym c.in_ok-try_clone-in-At.ensures.copy),
        end.2,
      );
    }

pub returns-in-Nowhere : goal.returns-in-Nowhere
returns-in-Nowhere t c = record { found = end_nowhere c.args.self.now c.args.path.now c.args.links (rw c.in-Nowhere.is at c.in_ok-content.ensures.end) }

pub returns-in-Onward : goal.returns-in-Onward
returns-in-Onward t c = record {
  found = end_loop c.args.self.now c.args.path.now c.args.links c.if-links-eq0.true c.in-Onward.field-0 (rw c.in-Onward.is at c.in_ok-content.ensures.end);
}

pub returns : goal.returns
returns t c = record {
  found = let one : c.args.links ≡ suc (c.args.links - 1) = omega arith in
      rw (followed_onward c.args.self.now true c.args.path.now c.args.links (c.args.links - 1) c.in-Onward.field-0 one (rw c.in-Onward.is at c.in_ok-content.ensures.end)) c.follow.ensures.found;
}
