-- The way from each schedule of a family to the next.
use Rattle.std.specs.Prelude.{ℕ, suc, ◌+◌, ◌≤◌, ◌≡◌, Bool, true, false, List, [], ◌∷◌, ◌++◌, length, replicate, Option, Some, None, if◌then◌else◌, nat_lt}
use Rattle.schedules.specs.Families.{Spots}

-- p before the next places; if there are none, these other ones.
abbrev pub put_before : ℕ → Option Spots → Option Spots → Option Spots
put_before p otherwise (Some ps) = Some (p ∷ ps)
put_before p otherwise None = otherwise

-- k ticks at one place, if the place exists.
abbrev pub all_at : ℕ → ℕ → ℕ → Option Spots
all_at upto k p = if nat_lt p upto then Some (replicate k p) else None

-- The next schedule of equally many ticks: the last place that can moves to the next one, and those after it move with
-- it.
abbrev pub next_of_ticks : ℕ → Spots → Option Spots
next_of_ticks upto [] = None
next_of_ticks upto (p ∷ ps) = put_before p (all_at upto (suc (length ps)) (p + 1)) (next_of_ticks upto ps)

-- The next schedule of equally many ticks; if there is none, the first with one more tick, if one more is allowed.
abbrev pub or_one_more : ℕ → ℕ → ℕ → Option Spots → Option Spots
or_one_more upto ticks k (Some ps) = Some ps
or_one_more upto ticks k None = if nat_lt k ticks then all_at upto (k + 1) 0 else None

-- The next schedule of the family.
abbrev pub next_schedule : ℕ → ℕ → Spots → Option Spots
next_schedule upto ticks ps = or_one_more upto ticks (length ps) (next_of_ticks upto ps)

-- What a step to the next schedule found: the later schedules of the family begin with new, or there are none.
abbrev pub Comes : Bool → Spots → List Spots → Type 0
Comes true new late = (rest : List Spots) × (late ≡ new ∷ rest)
Comes false new late = late ≡ []

-- What a step to the next places does.
abbrev pub Advances : Bool → ℕ → Spots → Spots → Type 0
Advances true upto old new = (next_of_ticks upto old ≡ Some new) × (length new ≡ length old)
Advances false upto old new = (next_of_ticks upto old ≡ None) × (new ≡ old)

-- What a step to the next schedule does.
abbrev pub Goes : Bool → ℕ → ℕ → Spots → Spots → Type 0
Goes true upto ticks old new = (next_schedule upto ticks old ≡ Some new) × (length new ≤ ticks)
Goes false upto ticks old new = (next_schedule upto ticks old ≡ None) × (new ≡ old)

-- It is in the list, after the schedules `done` and before the schedules `late`.
pub record IsAmong (all : List Spots) (it : Spots) : Type 0 where
  pub done : List Spots
  pub late : List Spots
  pub whole : all ≡ done ++ it ∷ late

-- The view of a schedule: its places, and its family.
pub record ScheduleView : Type 0 where
  pub places : Spots
  pub upto : ℕ
  pub ticks : ℕ
