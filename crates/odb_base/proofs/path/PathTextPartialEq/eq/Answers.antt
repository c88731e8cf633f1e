use Rattle.odb_base.proofs.JoinedPathLemmas.{text_eq}
use Rattle.odb_base.proofs.PathHeadLemmas.{heads_eq}
use Rattle.odb_base.proofs.path.PathTextPartialEq.eq.Goals as goal

pub returns-then-self-other : goal.returns-then-self-other
returns-then-self-other c = rw (c.eq.ensures, c.as_str.ensures.value, c.as_str-then-self-other.ensures.value, ← c.self.view_is, ← c.other.view_is) (text_eq _ _ c.self.invariant.0 c.other.invariant.0)

pub returns-else-self-other : goal.returns-else-self-other
returns-else-self-other c = rw (← c.self.view_is, ← c.other.view_is) (heads_eq _ _ _ _ c.self.invariant c.other.invariant c.if-self-other.false)
