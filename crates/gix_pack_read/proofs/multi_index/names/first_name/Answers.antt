use Rattle.std.proofs.Common.{ℕ, List, drop, ap, sym, ◌∙◌}
use Rattle.gix_pack_read.proofs.NameLemmas.{first_refused, first_taken}
use Rattle.gix_pack_read.proofs.multi_index.names.first_name.Goals as goal

-- what ends there is no name
pub returns-in_err-text-clause-none : goal.returns-in_err-text-clause-none
returns-in_err-text-clause-none c =
    rw c.from_residual-in_err-text.ensures (first_refused c.args.bytes.now c.split_at.result.0.now c.in_ok-end.end (sym c.in_ok-end.ensures.place) c.split_at.ensures.front
    (sym c.in_err-text.ensures.exact))

pub returns-clause-parts : goal.returns-clause-parts
returns-clause-parts c = first_taken c.args.bytes.now c.in_ok-text.text.now c.behind_first.result.now c.in_ok-end.end (sym c.in_ok-end.ensures.place)
    (c.in_ok-text.ensures.same ∙ c.split_at.ensures.front)
    (c.behind_first.ensures.rest ∙ ap (λ (rest : List ℕ). drop 1 rest) c.split_at.ensures.back)
