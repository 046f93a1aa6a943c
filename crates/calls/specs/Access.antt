-- The access of a process to its terminal, XBD 11.1.4.
use Rattle.std.specs.Prelude.{not, ◌||◌, if◌then◌else◌}
use Rattle.posix.specs.Common.{TTIN, TTOU, Process, State, Console, is_orphaned, is_in_background, blocks_or_ignores}
use Rattle.calls.specs.declared.background.Access.{Access}
use Rattle.calls.specs.declared.background.Access.TheVariants.{Allowed, Refused, Signalled}

-- to change it or write to it
abbrev pub change_access_of : State → Process → Console → Access
change_access_of s me c =
    if not (is_in_background me c) || blocks_or_ignores me TTOU then Allowed
    else if is_orphaned me.group s.processes then Refused
    else Signalled

-- to read from it
abbrev pub read_access_of : State → Process → Console → Access
read_access_of s me c =
    if not (is_in_background me c) then Allowed
    else if blocks_or_ignores me TTIN || is_orphaned me.group s.processes then Refused
    else Signalled

-- to write to it: only if TOSTOP is set does it matter which process writes
abbrev pub write_access_of : State → Process → Console → Access
write_access_of s me c = if c.tostop then change_access_of s me c else Allowed
