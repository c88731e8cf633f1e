-- One exchange that comes right after another.
use Rattle.std.specs.Prelude.{◌≡◌, List, [], ◌∷◌, ◌++◌}
use Rattle.gix_odb.specs.LookExchanges.{Exchange}

-- among exchanges, one came right after another
pub record ComesNext (exchanges : List Exchange) (first next : Exchange) : Type 0 where
  pub past : List Exchange
  pub rest : List Exchange
  pub is : exchanges ≡ (past ++ first ∷ []) ++ next ∷ rest
