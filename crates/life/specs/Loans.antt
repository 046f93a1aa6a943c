-- What a machine lends of a process, and what the machine's value is afterwards.
use Rattle.std.specs.Prelude.{ℕ}
use Rattle.posix.specs.Common.{change}
use Rattle.proctable.specs.declared.own_part.OwnPart.{OwnPart}
use Rattle.proctable.specs.Records.{give_own}
use Rattle.life.specs.Machines.{MachineView}
use Rattle.life.specs.Rechecks.{rechecking}

-- one more slot was read
abbrev pub looked : (ℕ → ℕ) → MachineView → MachineView
looked more m = record m { visits = more m.visits }

-- and the process has this own part, and is on the recheck list if it is not in the run queue
abbrev pub lent : (ℕ → ℕ) → MachineView → ℕ → OwnPart → MachineView
lent more m p o = record { state = change m.state p (give_own o); visits = more m.visits; to_recheck = rechecking p m.state.order m.to_recheck; groups_at_risk = m.groups_at_risk; foregrounds_unchecked = m.foregrounds_unchecked; readers = m.readers }
