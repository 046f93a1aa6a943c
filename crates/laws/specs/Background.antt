-- Calls that are restarted from the background.
use Rattle.std.specs.Prelude.{◌≡◌, ◌⊎◌}
use Rattle.posix.specs.Common.{TTIN, TTOU, Process, State, signalled_group}

-- From the first state to the second, SIGTTIN or SIGTTOU was generated for each member of the caller's process group,
-- and nothing else happened.
abbrev pub HasSignalledItsGroup : State → Process → State → Type 0
HasSignalledItsGroup s me t =
    (t ≡ record s { processes = signalled_group TTIN me.group s.processes }) ⊎ (t ≡ record s { processes = signalled_group TTOU me.group s.processes })
