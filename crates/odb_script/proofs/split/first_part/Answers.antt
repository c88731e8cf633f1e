use Rattle.std.proofs.Common.{sym}
use Rattle.odb_script.proofs.SplitLemmas.{slice_split-first, slice_split-last}
use Rattle.odb_script.proofs.split.first_part.Goals as goal

pub returns-in-Some-clause-found : goal.returns-in-Some-clause-found
returns-in-Some-clause-found c = slice_split-first c.args.separator c.args.bytes.now c.in-Some.end (sym c.in-Some.ensures.place)

pub returns-in-None-clause-none : goal.returns-in-None-clause-none
returns-in-None-clause-none c = λ _. slice_split-last c.args.separator c.args.bytes.now (sym c.in-None.ensures.place)
