-- Sources and sinks in memory, at one moment.
use Rattle.std.specs.Prelude.{ℕ, List, refl}
use Rattle.std.specs.Coded.{Coded, code_by, coded×, coded_ℕ, coded_list}
use Rattle.odb_base.specs.Calls.{Calls, coded_calls}

-- a source: the bytes that it has left, and its calls
pub record SourceState : Type 0 where
  pub left : List ℕ
  pub calls : Calls

abbrev pub coded_source : Coded SourceState
coded_source =
    code_by (List ℕ × Calls) (coded× (coded_list coded_ℕ) coded_calls) (λ s. (s.left, s.calls)) (λ p. record { left = p.0; calls = p.1 }) (λ _. refl)

-- a sink: the bytes that it holds, how many it has room for before it has to grow, and its calls
pub record SinkState : Type 0 where
  pub held : List ℕ
  pub room : ℕ
  pub calls : Calls

abbrev pub coded_sink : Coded SinkState
coded_sink =
    code_by (List ℕ × (ℕ × Calls)) (coded× (coded_list coded_ℕ) (coded× coded_ℕ coded_calls)) (λ s. (s.held, (s.room, s.calls))) (λ p. record { held = p.0; room = p.1.0; calls = p.1.1 }) (λ _. refl)
