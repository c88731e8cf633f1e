use Rattle.std.proofs.Common.{None, Some, map, sym, ap, ◌∙◌, lit<}
use Rattle.std.proofs.lemmas.Str.Pattern.{strip_prefix_char}
use Rattle.odb_base.proofs.JoinedPathLemmas.{whole_text, names_behind, names_none}
use Rattle.odb_base.proofs.path.PathText.names.Goals as goal

pub returns-in-None-clause-value : goal.returns-in-None-clause-value
returns-in-None-clause-value c =
    let none = strip_prefix_char 0 _ None c.in-None.ensures.cases (lit< tt) in
    let root = names_none c.args.self.now (λ rest e. none rest (c.deref.ensures ∙ whole_text _ _ c.self.view_is c.self.invariant.0 ∙ e)) in
    ap (map (λ name. name.now)) c.new.ensures.items ∙ sym root

pub returns-in_ok-names_in-in-Some-clause-value : goal.returns-in_ok-names_in-in-Some-clause-value
returns-in_ok-names_in-in-Some-clause-value c =
    let begun = strip_prefix_char 0 _ (Some c.in-Some.rest) c.in-Some.ensures.cases (lit< tt) in
    c.in_ok-names_in-in-Some.ensures.names ∙ names_behind _ _ (sym c.deref.ensures ∙ begun) ∙ c.self.view_is
