-- Calls on the controlling terminal. These six calls are this project's own, modelled on tcgetpgrp(3), tcsetpgrp(3),
-- and XSH read and write. The rules for background process groups are those of XBD 11.1.4.
use Rattle.std.specs.Prelude.{ℕ, zero, suc, ◌+◌, Bool, true, false, not, ◌&&◌, ◌||◌, ◌==◌, if◌then◌else◌, List, [], ◌∷◌, length, take, is_some, Option, Some, None, ℤ, pos, negsuc, Result, Ok, Err, slice_get, slice_set}
use Rattle.posix.specs.declared.call.Call.{Call}
use Rattle.posix.specs.declared.call.Call.TheVariants.{Setctty, Tcgetpgrp, Tcsetpgrp, Settostop, Read, Write}
use Rattle.posix.specs.declared.entry.Entry.TheVariants.{Moved}
use Rattle.posix.specs.declared.errno.Errno.{Errno}
use Rattle.posix.specs.declared.errno.Errno.TheVariants.{EPERM, ENOENT, EIO, EINVAL, ENOTTY}
use Rattle.posix.specs.declared.process.Blocked.{Blocked}
use Rattle.posix.specs.declared.process.Blocked.TheVariants as blocked
use Rattle.posix.specs.declared.span.Span.{Span}
use Rattle.posix.specs.SignalNumbers.{TTIN, TTOU}
use Rattle.posix.specs.SignalSets.{has}
use Rattle.posix.specs.Processes.{Process, is_running, argument}
use Rattle.posix.specs.States.{State, change}
use Rattle.posix.specs.Consoles.{Console, console_of, changed_console, acquired, with_foreground, with_tostop, line_taken}
use Rattle.posix.specs.Transfers.{span_in, stored, bytes_in}
use Rattle.posix.specs.Outcomes.{Attempted, Done, Block, Again, finish_with, refused, finish}
use Rattle.posix.specs.Generation.{action, is_ignored}
use Rattle.posix.specs.Groups.{is_orphaned}
use Rattle.posix.specs.GroupCalls.{is_group_of}
use Rattle.posix.specs.Ends.{signalled_group}

-- Returns the controlling terminal of a process, XBD 3 Controlling Terminal. In Linux, processes created before the
-- setctty have none.
abbrev pub terminal : State → Process → Option Console
terminal s me = console_of me.session s.consoles

abbrev pub change_console : State → ℕ → (Console → Console) → State
change_console s session f = record s { consoles = changed_console session f s.consoles }

-- ---- background process groups

abbrev pub is_in_background : Process → Console → Bool
is_in_background me c = not (me.group == c.foreground)

-- Returns true if the process blocks or ignores signal n, XBD 11.1.4.
abbrev pub blocks_or_ignores : Process → ℕ → Bool
blocks_or_ignores me n = has me.signals.mask n || is_ignored (action me.signals n).handler

-- Generates a signal from the kernel for each member of the caller's process group. The call is then restarted,
-- whatever SA_RESTART says (own). In Linux, without SA_RESTART, the call fails with EINTR if the signal is caught.
abbrev pub signal_own_group : State → Process → ℕ → Attempted
signal_own_group s me n = Again (record s { processes = signalled_group n me.group s.processes })

-- Returns `allowed` if the caller may change the terminal or write to it, XBD 11.1.4: it is in the foreground process
-- group, or it blocks or ignores SIGTTOU. Otherwise the call fails with EIO if the caller's process group is
-- orphaned, and is restarted with SIGTTOU for the group if not. In Linux, tcsetpgrp fails with ENOTTY instead of EIO.
abbrev pub if_allowed : State → Process → Call → Console → Attempted → Attempted
if_allowed s me call c allowed =
    if not (is_in_background me c) || blocks_or_ignores me TTOU then allowed
    else if is_orphaned me.group s.processes then refused s me.pid call EIO
    else signal_own_group s me TTOU

-- ---- setctty

-- Returns the index of the console that a register names; consoles are numbered from 1.
abbrev pub console_named : ℤ → Option ℕ
console_named (pos zero) = None
console_named (pos (suc k)) = Some k
console_named (negsuc n) = None

-- Returns true if the caller leads a session that has no terminal, and the terminal has no session (own). In Linux,
-- the leader may also acquire the session's own terminal again.
abbrev pub may_acquire : State → Process → Console → Bool
may_acquire s me c = me.session == me.pid && (not (is_some (terminal s me)) && c.session == 0)

abbrev pub setctty_of : State → Process → ℕ → Option Console → Attempted
setctty_of s me k None = refused s me.pid Setctty ENOENT
setctty_of s me k (Some c) =
    if may_acquire s me c then finish_with (record s { consoles = slice_set s.consoles k (acquired me.session me.group c) }) me.pid Setctty (pos 0)
    else refused s me.pid Setctty EPERM

abbrev pub setctty_at : State → Process → Option ℕ → Attempted
setctty_at s me None = refused s me.pid Setctty ENOENT
setctty_at s me (Some k) = setctty_of s me k (slice_get s.consoles k)

-- Attempts setctty; the console number is in r1.
unfoldable pub setctty : State → Process → Attempted
setctty s me = setctty_at s me (console_named (argument me 1))

-- ---- tcgetpgrp

-- Returns the foreground process group or, if there is none, an ID above all others, XSH tcgetpgrp. Linux returns the
-- ID of the group that no longer exists.
abbrev pub foreground_told : ℕ → ℕ → ℕ
foreground_told pidmax group = if group == 0 then pidmax + 1 else group

abbrev pub tcgetpgrp_on : State → Process → Option Console → Attempted
tcgetpgrp_on s me None = refused s me.pid Tcgetpgrp ENOTTY
tcgetpgrp_on s me (Some c) = finish_with s me.pid Tcgetpgrp (pos (foreground_told s.world.pidmax c.foreground))

unfoldable pub tcgetpgrp : State → Process → Attempted
tcgetpgrp s me = tcgetpgrp_on s me (terminal s me)

-- ---- tcsetpgrp

-- Makes a process group with a member in the caller's session the foreground one, XSH tcsetpgrp. In Linux, the call
-- fails with ESRCH if the ID is not in use, and accepts the process ID of a session member that leads no group.
abbrev pub put_foreground : State → Process → ℤ → Attempted
put_foreground s me (negsuc n) = refused s me.pid Tcsetpgrp EINVAL
put_foreground s me (pos g) =
    if is_group_of me.session g s.processes then finish_with (change_console s me.session (with_foreground g)) me.pid Tcsetpgrp (pos 0)
    else refused s me.pid Tcsetpgrp EPERM

abbrev pub tcsetpgrp_on : State → Process → Option Console → Attempted
tcsetpgrp_on s me None = refused s me.pid Tcsetpgrp ENOTTY
tcsetpgrp_on s me (Some c) = if_allowed s me Tcsetpgrp c (put_foreground s me (argument me 1))

-- Attempts tcsetpgrp; the process group is in r1. The rule for background process groups is checked first.
unfoldable pub tcsetpgrp : State → Process → Attempted
tcsetpgrp s me = tcsetpgrp_on s me (terminal s me)

-- ---- settostop

abbrev pub is_nonzero : ℤ → Bool
is_nonzero (pos n) = not (n == 0)
is_nonzero (negsuc n) = true

abbrev pub settostop_on : State → Process → Option Console → Attempted
settostop_on s me None = refused s me.pid Settostop ENOTTY
settostop_on s me (Some c) =
    if_allowed s me Settostop c (finish_with (change_console s me.session (with_tostop (is_nonzero (argument me 1)))) me.pid Settostop (pos 0))

-- Attempts settostop: sets TOSTOP if r1 isn't 0, and otherwise clears it.
unfoldable pub settostop : State → Process → Attempted
settostop s me = settostop_on s me (terminal s me)

-- ---- read and write

-- Completes a call of p that moved these bytes.
abbrev pub finish_moved : State → ℕ → Call → List ℕ → Attempted
finish_moved s p call [] = finish_with s p call (pos 0)
finish_moved s p call (b ∷ bs) = Done (record {
  state = finish s p ((0, pos (length (b ∷ bs))) ∷ []);
  entries = Moved p call (b ∷ bs) ∷ [];
})

-- Stores bytes in the memory of a process from an address on, one per word.
unfoldable pub with_bytes : ℕ → List ℕ → Process → Process
with_bytes address bytes r = record r { cpu = record (r.cpu) { memory = stored address bytes r.cpu.memory } }

-- Reads from at most one line; the rest of that line stays, XBD 11.1.6. If there is no line, the process blocks.
abbrev pub read_from : State → Process → Span → List (List ℕ) → Attempted
read_from s me span [] = Block blocked.Read
read_from s me span (line ∷ rest) =
    finish_moved (change (change_console s me.session (line_taken span.count)) me.pid (with_bytes span.address (take span.count line))) me.pid Read (take span.count line)

-- A read of a hung-up terminal returns 0, end of file, XBD 11.1.10, even in the background (own). Any other read in
-- the background follows XBD 11.1.4. A count of 0 reads nothing.
abbrev pub read_in : State → Process → Console → Result Span Errno → Attempted
read_in s me c (Err why) = refused s me.pid Read why
read_in s me c (Ok span) =
    if c.hung_up then finish_with s me.pid Read (pos 0)
    else if is_in_background me c then (
    if blocks_or_ignores me TTIN || is_orphaned me.group s.processes then refused s me.pid Read EIO
    else signal_own_group s me TTIN)
    else if span.count == 0 then finish_with s me.pid Read (pos 0)
    else read_from s me span c.lines

abbrev pub read_on : State → Process → Option Console → Attempted
read_on s me None = refused s me.pid Read ENOTTY
read_on s me (Some c) = read_in s me c (span_in (argument me 1) (argument me 2))

-- Attempts read; the address is in r1, the count in r2.
unfoldable pub read : State → Process → Attempted
read s me = read_on s me (terminal s me)

abbrev pub waits_in : Process → Console → Result Span Errno → Bool
waits_in me c (Err why) = false
waits_in me c (Ok span) = not (is_in_background me c) && (not (span.count == 0) && (not c.hung_up && length c.lines == 0))

abbrev pub waits_on : Process → Option Console → Bool
waits_on me None = false
waits_on me (Some c) = waits_in me c (span_in (argument me 1) (argument me 2))

-- Returns true if a read by the process would block: its arguments are valid, the count isn't 0, the process is in
-- the foreground process group, its terminal is not hung up, and no line is finished.
unfoldable pub waits_to_read : List Console → Process → Bool
waits_to_read cs me = waits_on me (console_of me.session cs)

abbrev pub is_in_read : Option Blocked → Bool
is_in_read (Some blocked.Read) = true
is_in_read _ = false

-- Returns true if the process is blocked in a read of the session's terminal, and not stopped.
abbrev pub is_reader : ℕ → Process → Bool
is_reader session r = is_running r.life && (is_in_read r.blocked && r.session == session)

-- A write to a hung-up terminal fails with EIO, XSH write, before the rule for background process groups is checked
-- (own). That rule applies to writes only if TOSTOP is set, XBD 11.1.4.
abbrev pub write_in : State → Process → Console → Result Span Errno → Attempted
write_in s me c (Err why) = refused s me.pid Write why
write_in s me c (Ok span) =
    let written = finish_moved s me.pid Write (bytes_in span me.cpu.memory) in
    if c.hung_up then refused s me.pid Write EIO
    else if c.tostop then if_allowed s me Write c written else written

abbrev pub write_on : State → Process → Option Console → Attempted
write_on s me None = refused s me.pid Write ENOTTY
write_on s me (Some c) = write_in s me c (span_in (argument me 1) (argument me 2))

-- Attempts write; the address is in r1, the count in r2.
unfoldable pub write : State → Process → Attempted
write s me = write_on s me (terminal s me)
