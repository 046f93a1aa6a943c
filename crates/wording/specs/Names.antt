-- The table of names: signals (signal(7), x86), errors (errno(3), x86), wait options and ID types (waitid(2)), actions
-- and flags (sigaction(2)), and operations of sigprocmask(2).
use Rattle.std.specs.Prelude.{ℕ, ℤ, pos, ◌+◌, ◌-◌, ◌*◌, ◌==◌, ◌&&◌, nat_le, Bool, false, List, [], ◌∷◌, Option, None, Some, codes, drop, find, option_map, take, if◌then◌else◌}
use Rattle.std.specs.Borrow.{Bor}
use Rattle.std.specs.Char.{is_ascii_digit}
use Rattle.std.specs.Option.{option_or}
use Rattle.std.specs.Str.{bytes_eq}
use Rattle.wording.specs.declared.table.Kind.{Kind}
use Rattle.wording.specs.declared.table.Kind.TheVariants.{Signal, Errno, WaitOption, Children, Handler, Flag, How}

-- the kind of a name, the name, and its number
abbrev pub Entry : Type 0
Entry = Kind × List ℕ × ℤ

unfoldable pub names : List Entry
names =
    (Signal, codes "SIGHUP", pos 1) ∷ (Signal, codes "SIGINT", pos 2) ∷ (Signal, codes "SIGQUIT", pos 3) ∷ (Signal, codes "SIGILL", pos 4) ∷
    (Signal, codes "SIGTRAP", pos 5) ∷ (Signal, codes "SIGABRT", pos 6) ∷ (Signal, codes "SIGIOT", pos 6) ∷ (Signal, codes "SIGBUS", pos 7) ∷
    (Signal, codes "SIGFPE", pos 8) ∷ (Signal, codes "SIGKILL", pos 9) ∷ (Signal, codes "SIGUSR1", pos 10) ∷ (Signal, codes "SIGSEGV", pos 11) ∷
    (Signal, codes "SIGUSR2", pos 12) ∷ (Signal, codes "SIGPIPE", pos 13) ∷ (Signal, codes "SIGALRM", pos 14) ∷ (Signal, codes "SIGTERM", pos 15) ∷
    (Signal, codes "SIGSTKFLT", pos 16) ∷ (Signal, codes "SIGCHLD", pos 17) ∷ (Signal, codes "SIGCONT", pos 18) ∷ (Signal, codes "SIGSTOP", pos 19) ∷
    (Signal, codes "SIGTSTP", pos 20) ∷ (Signal, codes "SIGTTIN", pos 21) ∷ (Signal, codes "SIGTTOU", pos 22) ∷ (Signal, codes "SIGURG", pos 23) ∷
    (Signal, codes "SIGXCPU", pos 24) ∷ (Signal, codes "SIGXFSZ", pos 25) ∷ (Signal, codes "SIGVTALRM", pos 26) ∷ (Signal, codes "SIGPROF", pos 27) ∷
    (Signal, codes "SIGWINCH", pos 28) ∷ (Signal, codes "SIGIO", pos 29) ∷ (Signal, codes "SIGPOLL", pos 29) ∷ (Signal, codes "SIGPWR", pos 30) ∷
    (Signal, codes "SIGSYS", pos 31) ∷ (Signal, codes "SIGRTMIN", pos 34) ∷ (Signal, codes "SIGRTMAX", pos 64) ∷ (Errno, codes "EPERM", pos 1) ∷
    (Errno, codes "ENOENT", pos 2) ∷ (Errno, codes "ESRCH", pos 3) ∷ (Errno, codes "EINTR", pos 4) ∷ (Errno, codes "EIO", pos 5) ∷
    (Errno, codes "ECHILD", pos 10) ∷ (Errno, codes "EAGAIN", pos 11) ∷ (Errno, codes "EACCES", pos 13) ∷ (Errno, codes "EFAULT", pos 14) ∷
    (Errno, codes "EINVAL", pos 22) ∷ (Errno, codes "ENOTTY", pos 25) ∷ (WaitOption, codes "WNOHANG", pos 1) ∷
    (WaitOption, codes "WUNTRACED", pos 2) ∷ (WaitOption, codes "WSTOPPED", pos 2) ∷ (WaitOption, codes "WEXITED", pos 4) ∷
    (WaitOption, codes "WCONTINUED", pos 8) ∷ (WaitOption, codes "WNOWAIT", pos 16777216) ∷ (Children, codes "P_ALL", pos 0) ∷
    (Children, codes "P_PID", pos 1) ∷ (Children, codes "P_PGID", pos 2) ∷ (Handler, codes "SIG_DFL", pos 0) ∷ (Handler, codes "SIG_IGN", pos 1) ∷
    (Flag, codes "SA_NOCLDSTOP", pos 1) ∷ (Flag, codes "SA_NOCLDWAIT", pos 2) ∷ (Flag, codes "SA_SIGINFO", pos 4) ∷
    (Flag, codes "SA_RESTART", pos 268435456) ∷ (Flag, codes "SA_NODEFER", pos 1073741824) ∷ (Flag, codes "SA_RESETHAND", pos 2147483648) ∷
    (How, codes "SIG_BLOCK", pos 0) ∷ (How, codes "SIG_UNBLOCK", pos 1) ∷ (How, codes "SIG_SETMASK", pos 2) ∷ []

-- the kind and the number of the first entry with this name
abbrev pub named_among : List Entry → List ℕ → Option (Kind × ℤ)
named_among entries word = option_map (λ e. (e.0, e.2)) (find (λ e. bytes_eq e.1 word) entries)

abbrev pub said : Kind × Bor (List ℕ) × ℤ → Entry
said e = (e.0, e.1.now, e.2)

unfoldable pub named_as : List ℕ → Option (Kind × ℤ)
named_as word = named_among names word

-- ---- real-time signals

-- 0 to 30, without a leading zero
abbrev pub up_to_30 : List ℕ → Option ℕ
up_to_30 [] = None
up_to_30 (d ∷ []) = if is_ascii_digit d then Some (d - 48) else None
up_to_30 (t ∷ d ∷ []) = if (nat_le 49 t && nat_le t 50) && is_ascii_digit d then Some ((t - 48) * 10 + (d - 48)) else if (t == 51) && (d == 48) then Some 30 else None
up_to_30 (a ∷ b ∷ c ∷ more) = None

-- RTMIN+0 to RTMIN+30 are 34 to 64.
unfoldable pub realtime : List ℕ → Option ℤ
realtime short = if bytes_eq (take 6 short) (codes "RTMIN+") then option_map (λ n. pos (34 + n)) (up_to_30 (drop 6 short)) else None

-- ---- signals and errors; the `SIG` of a signal name may be left out

abbrev pub without_sig : List ℕ → List ℕ
without_sig (a ∷ b ∷ c ∷ name) = if bytes_eq (a ∷ b ∷ c ∷ []) (codes "SIG") then name else a ∷ b ∷ c ∷ name
without_sig name = name

abbrev pub is_called : List ℕ → Kind → List ℕ → Bool
is_called word Signal name = bytes_eq (without_sig name) (without_sig word)
is_called word Errno name = bytes_eq name word
is_called word WaitOption name = false
is_called word Children name = false
is_called word Handler name = false
is_called word Flag name = false
is_called word How name = false

-- the kind and the number of the first entry that a word names
abbrev pub called_among : List Entry → List ℕ → Option (Kind × ℤ)
called_among entries word = option_map (λ e. (e.0, e.2)) (find (λ e. is_called word e.0 e.1) entries)

-- the kind and the number of a signal or an error by its name
unfoldable pub number_named : List ℕ → Option (Kind × ℤ)
number_named word = option_or (called_among names word) (option_map (λ n. (Signal, n)) (realtime (without_sig word)))
