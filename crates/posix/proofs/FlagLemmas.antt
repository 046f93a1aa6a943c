-- Sets of flags that are read from bits.
use Rattle.std.proofs.Common.{arith, ◌≡◌, ◌↔◌, ℕ, true, Option, is_some, bit_and, ◌==◌}
use Rattle.std.specs.Option.{IsSome}
use Rattle.std.proofs.lemmas.Bool.{eqb-true, eq-eqb}

-- bits are accepted where all are known
pub some_bits : {A : Type 0} → (o : Option A) (n all : ℕ) → IsSome o ↔ (bit_and n all ≡ n) → is_some o ≡ (bit_and n all == n)
some_bits o n all h = grind (arith, λ (t : is_some o ≡ true). h.0 t, λ (u : bit_and n all ≡ n). h.1 u, eqb-true (bit_and n all) n, eq-eqb (bit_and n all) n)
