-- Signal numbers (signal(7), x86), and default actions.
use Rattle.std.specs.Prelude.{ℕ, Bool, ◌&&◌, ◌||◌, ◌==◌, if◌then◌else◌, nat_le}
use Rattle.posix.specs.declared.sig.DefaultAction.{DefaultAction}
use Rattle.posix.specs.declared.sig.DefaultAction.TheVariants as default

abbrev pub HUP : ℕ
HUP = 1

abbrev pub INT : ℕ
INT = 2

abbrev pub QUIT : ℕ
QUIT = 3

abbrev pub FPE : ℕ
FPE = 8

abbrev pub KILL : ℕ
KILL = 9

abbrev pub SEGV : ℕ
SEGV = 11

abbrev pub ALRM : ℕ
ALRM = 14

abbrev pub CHLD : ℕ
CHLD = 17

abbrev pub CONT : ℕ
CONT = 18

abbrev pub STOP : ℕ
STOP = 19

abbrev pub TSTP : ℕ
TSTP = 20

abbrev pub TTIN : ℕ
TTIN = 21

abbrev pub TTOU : ℕ
TTOU = 22

abbrev pub URG : ℕ
URG = 23

abbrev pub WINCH : ℕ
WINCH = 28

abbrev pub is_standard : ℕ → Bool
is_standard s = nat_le 1 s && nat_le s 31

abbrev pub is_realtime : ℕ → Bool
is_realtime s = nat_le 34 s && nat_le s 64

-- Returns true if s is a signal; 32 and 33 are not (own).
abbrev pub is_signal : ℕ → Bool
is_signal s = is_standard s || is_realtime s

-- Returns true for SIGSTOP, SIGTSTP, SIGTTIN and SIGTTOU.
abbrev pub is_stop_signal : ℕ → Bool
is_stop_signal s = nat_le STOP s && nat_le s TTOU

-- Returns the default action of a signal: signal(7), the table "Standard signals". Core terminates the process
-- without a core dump (own). A real-time signal terminates the process.
abbrev pub default_action : ℕ → DefaultAction
default_action s =
    if s == CHLD || s == URG || s == WINCH then default.Ignore
    else if s == CONT then default.Continue
    else if is_stop_signal s then default.Stop
    else default.Terminate
