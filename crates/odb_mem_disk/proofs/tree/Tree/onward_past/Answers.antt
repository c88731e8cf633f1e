use Rattle.std.proofs.Common.{◌≡◌, ◌++◌, ◌∙◌, sym, ap}
use Rattle.std.proofs.lemmas.List.{append_cancel_left}
use Rattle.odb_disk.specs.Tree.Follow.{Missing, Onward, past}
use Rattle.odb_mem_disk.proofs.tree.Tree.onward_past.Goals as goal

pub returns-in_ok-followed_by-in-Some : goal.returns-in_ok-followed_by-in-Some
returns-in_ok-followed_by-in-Some c = record {
  onward = λ rest e.
      let below : c.args.last.now ++ c.in-Some.rest ≡ c.args.path.now = rw c.in-Some.is at c.in_ok-rest-in-Link.ensures.below in
      let same : rest ≡ c.in-Some.rest = append_cancel_left c.args.last.now rest c.in-Some.rest (sym e ∙ sym below) in
      ap (λ k. past k rest Missing) c.in-Link.is ∙ ap (λ r. Onward (c.in-Link.target ++ r)) same ∙ ap Onward (sym c.in_ok-followed_by-in-Some.ensures.path);
}
