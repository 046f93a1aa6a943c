-- Lists of spots, kept as runs of equal spots.
use Rattle.std.specs.Prelude.{◌≢◌, ℕ, ◌<◌, Bool, false, List, [], ◌∷◌, ◌++◌, nat_lt, replicate}
use Rattle.merging.specs.declared.spot_list.SpotRun.{SpotRun}

-- The spots of runs.
abbrev pub spots_of : List SpotRun → List ℕ
spots_of [] = []
spots_of (r ∷ rs) = replicate r.times r.spot ++ spots_of rs

-- These runs don't begin with this spot.
abbrev pub BeginOtherwise : ℕ → List SpotRun → Type 0
BeginOtherwise q [] = Unit {0}
BeginOtherwise q (r ∷ rs) = q ≢ r.spot

-- No run is empty, and no two adjacent runs have the same spot.
abbrev pub AreRuns : List SpotRun → Type 0
AreRuns [] = Unit {0}
AreRuns (r ∷ rs) = (0 < r.times) × BeginOtherwise r.spot rs × AreRuns rs

-- The first spot of these runs is earlier than this one.
abbrev pub begin_below : List SpotRun → ℕ → Bool
begin_below [] q = false
begin_below (r ∷ rs) q = nat_lt r.spot q

-- The first spot of these runs is later than this one.
abbrev pub begin_above : List SpotRun → ℕ → Bool
begin_above [] q = false
begin_above (r ∷ rs) q = nat_lt q r.spot
