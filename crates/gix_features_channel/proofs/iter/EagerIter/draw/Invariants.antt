use Rattle.std.proofs.Common.{◌≡◌, List}
use Rattle.gix_features_channel.specs.Eager.{IsReady, HasGiven, IsOver, has_worker}
use Rattle.gix_features_channel.proofs.iter.EagerIter.draw.Given as goal

-- what was given so far is what was given at the call
abbrev pub invariant-drawing : goal.invariant-drawing
invariant-drawing g l = record {
  ready : IsReady g.I.Iterator.can_next l.self;
  same : (first : _) (items : List _) → HasGiven g.I.Iterator.next_gives first l.initial.self items → HasGiven g.I.Iterator.next_gives first l.self items;
  over : IsOver l.initial.self → IsOver l.self;
  worker : has_worker l.self.source ≡ has_worker l.initial.self.source;
  turns : l.self.turns ≡ l.initial.self.turns;
}
