-- Natural numbers of any size, by their limbs in base 10^18.
use Rattle.std.specs.Prelude.{ℕ, suc, ◌+◌, ◌-◌, ◌*◌, ◌^◌, ◌<◌, List, [], ◌∷◌, false, length, slice_index}
use Rattle.std.specs.Fmt.{digits_onto}
use Rattle.std.specs.List.{All}

-- Each limb is below this.
abbrev pub base : ℕ
base = 10 ^ 18

-- The number that has these limbs, the lowest first.
abbrev pub number_of : List ℕ → ℕ
number_of [] = 0
number_of (l ∷ ls) = l + base * number_of ls

-- Each limb is below the base.
abbrev pub AreBelowBase : List ℕ → Type 0
AreBelowBase ls = All (λ l. l < base) ls

-- These are the limbs of a number, the lowest first, without leading zeros; none for 0.
pub record AreLimbs (ls : List ℕ) : Type 0 where
  pub small : AreBelowBase ls
  pub top : 0 < length ls → 0 < slice_index ls (length ls - 1)

-- A number in decimal.
unfoldable pub in_decimal : ℕ → List ℕ
in_decimal n = digits_onto (suc n) 10 false n []
