-- How runs end.
use Rattle.std.specs.Prelude.{Bool, true, false, Option, Some, None, if◌then◌else◌, ℕ}
use Rattle.posix.specs.Common.{State, current, has_alarms}
use Rattle.schedules.specs.Families.{Spots}
use Rattle.counting.specs.declared.ending.Ending.{Ending}
use Rattle.counting.specs.declared.ending.Ending.TheVariants.{Halted, AtRest, AwaitsAlarm, Going}
use Rattle.counting.specs.declared.ending.Endings.{Endings}
use Rattle.counting.specs.Tallies.{TallyView, both, no_schedules, with_schedule}

-- How a run ends that leaves a machine not halted, by whether an alarm is set, and by the current process.
abbrev pub going_or_at_rest : Bool → Option ℕ → Ending
going_or_at_rest alarms (Some p) = Going
going_or_at_rest alarms None = if alarms then AwaitsAlarm else AtRest

-- How a run ends that leaves a machine in this state.
abbrev pub ending_of : State → Ending
ending_of s = if s.halted then Halted else going_or_at_rest (has_alarms s) (current s)

abbrev pub is_halted : Ending → Bool
is_halted Halted = true
is_halted AtRest = false
is_halted AwaitsAlarm = false
is_halted Going = false

abbrev pub is_at_rest : Ending → Bool
is_at_rest Halted = false
is_at_rest AtRest = true
is_at_rest AwaitsAlarm = true
is_at_rest Going = false

abbrev pub is_alarmed : Ending → Bool
is_alarmed Halted = false
is_alarmed AtRest = false
is_alarmed AwaitsAlarm = true
is_alarmed Going = false

abbrev pub is_going : Ending → Bool
is_going Halted = false
is_going AtRest = false
is_going AwaitsAlarm = false
is_going Going = true

abbrev pub no_endings : Endings
no_endings = record { halted = no_schedules; at_rest = no_schedules; alarmed = no_schedules; going = no_schedules }

-- With one more schedule, which ends in this way.
abbrev pub with_ending : Ending → Spots → Endings → Endings
with_ending Halted ps e = record e { halted = with_schedule ps e.halted }
with_ending AtRest ps e = record e { at_rest = with_schedule ps e.at_rest }
with_ending AwaitsAlarm ps e = record e { at_rest = with_schedule ps e.at_rest; alarmed = with_schedule ps e.alarmed }
with_ending Going ps e = record e { going = with_schedule ps e.going }

-- With the schedules of t, which end in this way.
abbrev pub with_many_endings : Ending → TallyView → Endings → Endings
with_many_endings Halted t e = record e { halted = both e.halted t }
with_many_endings AtRest t e = record e { at_rest = both e.at_rest t }
with_many_endings AwaitsAlarm t e = record e { at_rest = both e.at_rest t; alarmed = both e.alarmed t }
with_many_endings Going t e = record e { going = both e.going t }
