use Rattle.std.proofs.Common.{sym, ap, ◌∙◌}
use Rattle.odb_base.proofs.ParseLemmas.{is_plain, number_of-parse, number_of-not_plain, spelled, only}
use Rattle.odb_base.proofs.decimal.parse_decimal.Goals as goal

-- a plain text is what `parse` reads
pub returns-then-is_plain-clause-exact : goal.returns-then-is_plain-clause-exact
returns-then-is_plain-clause-exact c =
    c.ok.ensures.value ∙ number_of-parse c.args.text.now c.parse.result (ap is_plain (sym c.as_bytes.ensures.value) ∙ sym c.is_plain.ensures.plain ∙ c.if-is_plain.true) c.parse.ensures.value.0

pub returns-then-is_plain-clause-spelled : goal.returns-then-is_plain-clause-spelled
returns-then-is_plain-clause-spelled c = spelled _ _ (returns-then-is_plain-clause-exact c)

pub returns-then-is_plain-clause-only : goal.returns-then-is_plain-clause-only
returns-then-is_plain-clause-only c = only _ _ (returns-then-is_plain-clause-exact c)

-- no other text is a number
pub returns-else-is_plain-clause-exact : goal.returns-else-is_plain-clause-exact
returns-else-is_plain-clause-exact c =
    sym (number_of-not_plain c.args.text.now (ap is_plain (sym c.as_bytes.ensures.value) ∙ sym c.is_plain.ensures.plain ∙ c.if-is_plain.false))

pub returns-else-is_plain-clause-only : goal.returns-else-is_plain-clause-only
returns-else-is_plain-clause-only c = only _ _ (returns-else-is_plain-clause-exact c)
