-- Calls on a process's own IDs, actions and signal mask: XSH setuid, seteuid, setgid, setegid, sigaction, sigprocmask
-- and sigpending.
use Rattle.std.specs.Prelude.{ℕ, zero, suc, ◌+◌, ◌*◌, ◌==◌, Bool, true, false, if◌then◌else◌, List, [], ◌∷◌, map, Option, Some, None, ℤ, pos, negsuc, bit_and, Result, Ok, Err}
use Rattle.std.specs.Int.{cast_signed, cast_unsigned, w64}
use Rattle.std.specs.List.{range_with_len}
use Rattle.posix.specs.declared.errno.Errno.{Errno}
use Rattle.posix.specs.declared.errno.Errno.TheVariants.{EINVAL}
use Rattle.posix.specs.declared.how.How.{How}
use Rattle.posix.specs.declared.how.How.TheVariants as how
use Rattle.posix.specs.declared.process.Action.{Action}
use Rattle.posix.specs.declared.process.Handler.{Handler}
use Rattle.posix.specs.declared.process.Handler.TheVariants as handler
use Rattle.posix.specs.SignalSets.{set_in, word_of}
use Rattle.posix.specs.Processes.{Process, Credentials, Signals, argument}
use Rattle.posix.specs.Outcomes.{Reply, refusing, written}
use Rattle.posix.specs.Generation.{action, is_pending, SA_NOCLDSTOP, SA_NOCLDWAIT, SA_SIGINFO, SA_RESTART, SA_NODEFER, SA_RESETHAND}
use Rattle.posix.specs.Handlers.{set_action, set_mask}
use Rattle.posix.specs.Sends.{signal_in}

-- ---- IDs

unfoldable pub give_credentials : Credentials → Process → Process
give_credentials c r = record r { credentials = c }

-- Sets the IDs and returns 0, or fails.
abbrev pub set_credentials : Result Credentials Errno → Reply
set_credentials (Ok c) = record { value = pos 0; changes = give_credentials c }
set_credentials (Err why) = refusing why

-- ---- actions

unfoldable pub give_signals : Signals → Process → Process
give_signals g r = record r { signals = g }

-- Returns a handler as a register holds it: 0 is the default, 1 ignores the signal, any other value is a code address.
abbrev pub handler_word : Handler → ℤ
handler_word handler.Default = pos 0
handler_word handler.Ignore = pos 1
handler_word (handler.At address) = address

abbrev pub handler_in : ℤ → Handler
handler_in (pos zero) = handler.Default
handler_in (pos (suc zero)) = handler.Ignore
handler_in (pos (suc (suc n))) = handler.At (pos (n + 2))
handler_in (negsuc n) = handler.At (negsuc n)

-- Returns true for -1, with which sigaction sets no action (own).
abbrev pub is_question : ℤ → Bool
is_question (pos n) = false
is_question (negsuc n) = n == 0

abbrev pub all_flags : ℕ
all_flags = SA_NOCLDSTOP + SA_NOCLDWAIT + SA_SIGINFO + SA_RESTART + SA_NODEFER + SA_RESETHAND

-- Returns true if all flags are known. Unknown flags are EINVAL (own); Linux accepts them.
abbrev pub are_flags : ℕ → Bool
are_flags n = bit_and n all_flags == n

-- Returns the action that a caller passes: the handler in r2, the mask in r3, the flags in r4.
abbrev pub action_in : Process → Action
action_in me = record { handler = handler_in (argument me 2); mask = set_in (argument me 3); flags = record { 0 = cast_unsigned w64 (argument me 4) } }

-- Writes an action to r2, r3 and r4.
abbrev pub holding : Action → Process → Process
holding a r = written 4 (cast_signed w64 a.flags.0) (written 3 (word_of a.mask) (written 2 (handler_word a.handler) r))

-- Sets the signals, and returns an action in r2, r3 and r4.
abbrev pub gives_action : Action → Signals → Reply
gives_action a g = record { value = pos 0; changes = λ r. holding a (give_signals g r) }

abbrev pub sigaction_with : Action → Result Signals Errno → Reply
sigaction_with old (Ok g) = gives_action old g
sigaction_with old (Err why) = refusing why

abbrev pub sigaction_of : Process → Option ℕ → Reply
sigaction_of me None = refusing EINVAL
sigaction_of me (Some n) =
    if is_question (argument me 2) then gives_action (action me.signals n) me.signals
    else if are_flags (cast_unsigned w64 (argument me 4)) then sigaction_with (action me.signals n) (set_action n (action_in me) me.signals)
    else refusing EINVAL

-- Attempts sigaction; the signal is in r1.
unfoldable pub sigaction : Process → Reply
sigaction me = sigaction_of me (signal_in (argument me 1))

-- ---- the signal mask

-- Returns how a mask changes, by a register: 0 is SIG_BLOCK, 1 SIG_UNBLOCK, 2 SIG_SETMASK.
abbrev pub how_in : ℤ → Option How
how_in (pos zero) = Some how.Block
how_in (pos (suc zero)) = Some how.Unblock
how_in (pos (suc (suc zero))) = Some how.Set
how_in _ = None

-- Changes the mask by the set in r2, and returns the old mask in r2.
abbrev pub sigprocmask_with : Process → Option How → Reply
sigprocmask_with me None = refusing EINVAL
sigprocmask_with me (Some what) = record {
  value = pos 0;
  changes = λ r. written 2 (word_of me.signals.mask) (give_signals (set_mask what (set_in (argument me 2)) me.signals) r);
}

-- Attempts sigprocmask; r1 says how the mask changes.
unfoldable pub sigprocmask : Process → Reply
sigprocmask me = sigprocmask_with me (how_in (argument me 1))

-- ---- pending signals

abbrev pub bit_of : Bool → ℕ
bit_of false = 0
bit_of true = 1

-- Returns a set as 64 bits; the first element is the lowest bit.
unfoldable pub set_of : List Bool → ℕ
set_of [] = 0
set_of (b ∷ bs) = 2 * set_of bs + bit_of b

-- Returns the set of pending signals; signal s is bit s - 1.
unfoldable pub pending_set : Signals → ℕ
pending_set g = set_of (map (is_pending g) (range_with_len 1 64))

-- Attempts sigpending; the set is returned in r1, which is negative if signal 64 is pending.
unfoldable pub sigpending : Process → Reply
sigpending me = record { value = pos 0; changes = written 1 (word_of (pending_set me.signals)) }
