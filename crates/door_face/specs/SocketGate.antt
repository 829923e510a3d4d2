-- As what contracts see a `SocketGate`.
use Rattle.std.specs.Prelude.{ℕ, Bool}

-- whether there is an address to listen on, the two doors, and the count of faults
pub record SocketGateState : Type 0 where
  pub has_address : Bool
  pub http_given : ℕ
  pub line_given : ℕ
  pub faults : ℕ
