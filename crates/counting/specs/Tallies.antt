-- How many schedules have a property, and which is the first of these.
use Rattle.std.specs.Prelude.{ℕ, ◌+◌, ◌==◌, ◌&&◌, ◌||◌, nat_lt, Bool, true, false, List, [], ◌∷◌, length, Option, Some, None, if◌then◌else◌}
use Rattle.std.specs.List.{sum_by}
use Rattle.schedules.specs.Families.{Spots}
use Rattle.counting.specs.declared.outcomes.Outcome.{Outcome}

pub record TallyView : Type 0 where
  pub count : ℕ
  pub first : Option Spots

abbrev pub no_schedules : TallyView
no_schedules = record { count = 0; first = None }

-- How many schedules have these outcomes together.
abbrev pub total_of : List Outcome → ℕ
total_of outcomes = sum_by (λ o. o.count) outcomes

-- The first one, or this one if there is none.
abbrev pub or_else : Option Spots → Spots → Option Spots
or_else (Some first) ps = Some first
or_else None ps = Some ps

-- With one more schedule, which comes after those that were counted.
abbrev pub with_schedule : Spots → TallyView → TallyView
with_schedule ps t = record { count = t.count + 1; first = or_else t.first ps }

-- With one more schedule if it has the property.
abbrev pub with_schedule_if : Bool → Spots → TallyView → TallyView
with_schedule_if true ps t = with_schedule ps t
with_schedule_if false ps t = t

-- ---- which comes first

-- The first of two equally long lists has the earlier spot where they first differ.
abbrev pub is_earlier : Spots → Spots → Bool
is_earlier [] qs = false
is_earlier (p ∷ ps) [] = false
is_earlier (p ∷ ps) (q ∷ qs) = nat_lt p q || (p == q && is_earlier ps qs)

-- A schedule comes before another in the family.
abbrev pub is_before : Spots → Spots → Bool
is_before ps qs = nat_lt (length ps) (length qs) || (length ps == length qs && is_earlier ps qs)

abbrev pub first_of_two : Spots → Spots → Spots
first_of_two ps qs = if is_before qs ps then qs else ps

abbrev pub first_of : Option Spots → Option Spots → Option Spots
first_of None b = b
first_of (Some ps) None = Some ps
first_of (Some ps) (Some qs) = Some (first_of_two ps qs)

-- ---- of two tallies

-- The tally of the schedules of both.
abbrev pub both : TallyView → TallyView → TallyView
both a b = record { count = a.count + b.count; first = first_of a.first b.first }
