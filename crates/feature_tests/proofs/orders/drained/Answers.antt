use Rattle.feature_tests.proofs.OrdersLemmas.{collected_in_turn, collected_in_order}
use Rattle.feature_tests.proofs.orders.drained.Goals as goal

pub returns-clause-in_turn : goal.returns-clause-in_turn
returns-clause-in_turn g c = collected_in_turn _ _ _ c.from.ensures.inner c.from.ensures.begun c.collect.result c.collect.ensures.ran

pub returns-clause-in_order : goal.returns-clause-in_order
returns-clause-in_order g c = collected_in_order _ _ _ c.from.ensures.inner c.from.ensures.begun c.collect.result c.collect.ensures.ran
