-- Signal handlers: entering one and returning from it, XSH 2.4.3, sigaction(2), sigreturn(2).
use Rattle.std.specs.Prelude.{ℕ, ◌-◌, Bool, false, ◌||◌, not, if◌then◌else◌, ◌==◌, nat_le, [], ◌∷◌, ◌++◌, length, take, Option, Some, None, ℤ, pos, slice_get, slice_set, Result, Ok, Err}
use Rattle.posix.specs.declared.errno.Errno.{Errno}
use Rattle.posix.specs.declared.errno.Errno.TheVariants.{EINTR, EINVAL}
use Rattle.posix.specs.declared.how.How.{How}
use Rattle.posix.specs.declared.how.How.TheVariants as how
use Rattle.posix.specs.declared.process.Action.{Action}
use Rattle.posix.specs.declared.process.Blocked.{Blocked}
use Rattle.posix.specs.declared.process.Blocked.TheVariants as blocked
use Rattle.posix.specs.declared.process.Frame.{Frame}
use Rattle.posix.specs.declared.process.Handler.TheVariants as handler
use Rattle.posix.specs.declared.process.PendingSignal.{PendingSignal}
use Rattle.posix.specs.SignalNumbers.{KILL, STOP}
use Rattle.posix.specs.SignalSets.{just, union, except, maskable}
use Rattle.posix.specs.Processes.{Cpu, Process, Signals}
use Rattle.posix.specs.Execute.{set_register, move_on}
use Rattle.posix.specs.Outcomes.{refusal}
use Rattle.posix.specs.Generation.{has_flag, SA_SIGINFO, SA_RESTART, SA_NODEFER, SA_RESETHAND, action, does_nothing}
use Rattle.posix.specs.Choice.{discarded}

-- ---- the call that a process is blocked in when a handler is entered

-- Returns true if the call is restarted after the handler: a wait or a read, if the action has SA_RESTART.
abbrev pub is_restarted : Blocked → Action → Bool
is_restarted (blocked.Wait call) a = has_flag a SA_RESTART
is_restarted blocked.Read a = has_flag a SA_RESTART
is_restarted _ a = false

-- Returns true if the process is blocked in a call that is not restarted.
abbrev pub is_interrupted : Option Blocked → Action → Bool
is_interrupted None a = false
is_interrupted (Some b) a = not (is_restarted b a)

-- An interrupted call fails with EINTR, and the pc moves on. A restarted call leaves the pc at the call.
abbrev pub leave_call : Option Blocked → Action → Cpu → Cpu
leave_call b a c = if is_interrupted b a then move_on (set_register c 0 (refusal EINTR)) else c

-- Returns the mask to restore: for a process blocked in sigsuspend, the mask before that call.
abbrev pub mask_before : Option Blocked → ℕ → ℕ
mask_before (Some (blocked.Sigsuspend earlier)) mask = earlier
mask_before _ mask = mask

-- ---- entering a handler

-- The maximum number of handlers that haven't returned (own).
abbrev pub most_frames : ℕ
most_frames = 16

abbrev pub is_full : Signals → Bool
is_full g = nat_le most_frames (length g.frames)

abbrev pub frame_of : Cpu → ℕ → Frame
frame_of c mask = record { pc = c.pc; registers = c.registers; mask = mask }

-- Returns the mask during the handler: the current mask, the action's mask and, without SA_NODEFER, the signal itself.
abbrev pub handler_mask : ℕ → ℕ → Action → ℕ
handler_mask s mask a = maskable (union (union mask a.mask) (if has_flag a SA_NODEFER then 0 else just s))

-- Returns the action after its handler is entered. SA_RESETHAND resets the handler to the default; the mask and the
-- flags stay, even SA_SIGINFO (own).
abbrev pub after_entry : Action → Action
after_entry a = if has_flag a SA_RESETHAND then record a { handler = handler.Default } else a

-- Returns the signals of a process that enters the handler of s; the return from it restores the saved mask.
unfoldable pub entered : ℕ → Cpu → ℕ → Signals → Signals
entered s c saved g = record g {
  mask = handler_mask s g.mask (action g s);
  actions = slice_set g.actions (s - 1) (after_entry (action g s));
  frames = g.frames ++ frame_of c saved ∷ [];
}

-- Passes the signal in r1 and, with SA_SIGINFO, the value in r2 and the sender in r3.
abbrev pub handler_arguments : PendingSignal → Action → Cpu → Cpu
handler_arguments signal a c =
    let d = set_register c 1 (pos signal.sig) in
    if has_flag a SA_SIGINFO then set_register (set_register d 2 signal.carried.value) 3 (pos signal.carried.sender) else d

unfoldable pub at_handler : PendingSignal → Action → ℤ → Cpu → Cpu
at_handler signal a address c = record (handler_arguments signal a c) { pc = address }

-- The process leaves its call and, if there is room for a frame, enters the handler at an address.
unfoldable pub handles : PendingSignal → ℤ → Process → Process
handles signal address r =
    let a = action r.signals signal.sig in
    let c = leave_call r.blocked a r.cpu in
    if is_full r.signals then record r { cpu = c; blocked = None }
    else record r {
      signals = entered signal.sig c (mask_before r.blocked r.signals.mask) r.signals;
      cpu = at_handler signal a address c;
      blocked = None;
    }

-- ---- returning from a handler

abbrev pub newest_frame : Signals → Option Frame
newest_frame g = slice_get g.frames (length g.frames - 1)

abbrev pub restore : Frame → Cpu → Cpu
restore frame c = record c { pc = frame.pc; registers = frame.registers }

-- Restores the mask of the newest frame, and removes that frame.
abbrev pub left : Frame → Signals → Signals
left frame g = record g { mask = frame.mask; frames = take (length g.frames - 1) g.frames }

unfoldable pub returned : Frame → Process → Process
returned frame r = record r { signals = left frame r.signals; cpu = restore frame r.cpu }

-- ---- actions and masks, XSH sigaction and sigprocmask

-- Sets the action for signal s. If the action has no effect, the pending signals with this number are discarded,
-- blocked or not, with all queued ones.
abbrev pub give_action : ℕ → Action → Signals → Signals
give_action s a g =
    let h = record g { actions = slice_set g.actions (s - 1) (record a { mask = maskable a.mask }) } in
    if does_nothing a.handler s then discarded s h else h

-- Sets the action for signal s. Fails with EINVAL for SIGKILL and SIGSTOP, which can't be caught or ignored.
unfoldable pub set_action : ℕ → Action → Signals → Result Signals Errno
set_action s a g = if s == KILL || s == STOP then Err EINVAL else Ok (give_action s a g)

abbrev pub give_mask : ℕ → Signals → Signals
give_mask mask g = record g { mask = maskable mask }

-- Adds a set to the mask, removes it from the mask, or replaces the mask with it.
unfoldable pub set_mask : How → ℕ → Signals → Signals
set_mask how.Block set g = give_mask (union g.mask set) g
set_mask how.Unblock set g = give_mask (except g.mask set) g
set_mask how.Set set g = give_mask set g
