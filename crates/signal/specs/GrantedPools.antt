-- Pools that are ready for real-time signals.
use Rattle.std.specs.Prelude.{ℕ}

pub record GrantedPoolsView : Type 0 where
  pub pools : ℕ  -- how many pools there are
  pub room : ℕ  -- for how many pools there is room
