use Rattle.std.proofs.Common.{List, ℕ, Some, sym, ap, ◌∙◌}
use Rattle.odb_base.specs.Path.{parent_of}
use Rattle.odb_base.specs.PathLaws.{parent_of-push, parent_of-root}
use Rattle.odb_base.proofs.JoinedPathLemmas.{IsCut, cut_at, no_cut_at, names_in, is_joined}
use Rattle.odb_base.proofs.path.PathText.parent.Goals as goal
use Rattle.odb_base.proofs.path.PathText.parent.Goals.{In_ok-from_str-in-Some}

-- the last name is cut off
cut : (c : In_ok-from_str-in-Some) → (name : List ℕ) × IsCut c.args.self.now c.in-Some.before.now name
cut c = (_, cut_at _ _ c.self.view_is c.self.invariant.0 _ c.deref.ensures _ _ c.in-Some.ensures.cases)

pub of-requires : goal.of-requires
of-requires c = record { joined = let k = (cut c).1 in is_joined _ k.front (c.in_ok-from_str-in-Some.ensures.ok ∙ k.before_is) k.are_names }

pub returns-in-None : goal.returns-in-None
returns-in-None c = record { parent = sym (ap parent_of (no_cut_at _ _ c.self.view_is c.self.invariant.0 _ c.deref.ensures c.in-None.ensures.cases) ∙ parent_of-root) }

pub returns-in_ok-from_str-in-Some : goal.returns-in_ok-from_str-in-Some
returns-in_ok-from_str-in-Some c = record {
  parent = let k = (cut (goal.at.returns-in_ok-from_str-in-Some c).In_ok-from_str-in-Some).1 in
      ap Some (c.of.ensures.names ∙ names_in _ k.front (c.in_ok-from_str-in-Some.ensures.ok ∙ k.before_is) k.are_names) ∙ sym (ap parent_of k.is ∙ parent_of-push k.front _);
}
