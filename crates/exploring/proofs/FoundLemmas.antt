-- The first schedule with the first text that any schedule has is one of the family.
use Rattle.std.proofs.Common.{ℕ, suc, List, [], ◌∷◌, Option, Some, None, arith}
use Rattle.std.specs.Prelude.{IfSome}
use Rattle.std.specs.List.{All}
use Rattle.schedules.specs.Families.{IsSchedule, Spots}
use Rattle.counting.specs.Texts.{FindView}
use Rattle.exploring.specs.Reports.{IsFirstOf, first_found, if_none}

one_of_two : (P : Spots → Type 0) (first other : Option Spots) → IfSome first P → IfSome other P → IfSome (if_none first other) P
one_of_two P (Some ps) other h k = h
one_of_two P None other h k = k

pub found_is_of_family : (upto ticks loose : ℕ) (fs : List FindView) → All (λ f. IsFirstOf upto ticks loose f.tally) fs → IfSome (first_found fs) (IsSchedule upto ticks loose)
found_is_of_family upto ticks loose [] h = tt
found_is_of_family upto ticks loose (f ∷ fs) h =
    one_of_two (IsSchedule upto ticks loose) f.tally.first (first_found fs) (h 0 f (omega arith))
    (found_is_of_family upto ticks loose fs (λ k d l. h (suc k) d (omega (arith, l))))
