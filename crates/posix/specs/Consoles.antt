-- Consoles: terminal input in canonical mode, XBD 11.1.6 and 11.1.9. Input is not echoed, and
-- output is not processed (own).
use Rattle.std.specs.Prelude.{ℕ, zero, suc, ◌+◌, ◌-◌, Bool, false, not, ◌&&◌, if◌then◌else◌, ◌==◌, nat_le, nat_lt, List, [], ◌∷◌, ◌++◌, length, take, drop, map, find, sum_by, slice_get, slice_set, Option, Some, None}
use Rattle.posix.specs.SignalNumbers.{INT, QUIT, TSTP}

-- A terminal, XBD 11.1 General Terminal Interface.
pub record Console : Type 0 where
  pub session : ℕ  -- the session whose controlling terminal it is, or 0
  pub foreground : ℕ  -- the foreground process group, or 0
  pub lines : List (List ℕ)  -- finished, and not yet read
  pub edited : List ℕ
  pub tostop : Bool  -- TOSTOP, XBD 11.2.5
  pub hung_up : Bool  -- after a modem disconnect, XBD 11.1.10

-- The maximum number of bytes in the edited line; more bytes are dropped (own). Linux drops bytes beyond 4,095.
abbrev pub most_edited : ℕ
most_edited = 255

-- The maximum number of finished lines to be read (own).
abbrev pub most_lines : ℕ
most_lines = 64

-- The maximum number of bytes in the finished lines (own).
abbrev pub most_waiting : ℕ
most_waiting = 1024

abbrev pub unused_console : Console
unused_console = record { session = 0; foreground = 0; lines = []; edited = []; tostop = false; hung_up = false }

-- ---- input

-- Returns the number of bytes in the finished lines.
unfoldable pub waiting : List (List ℕ) → ℕ
waiting lines = sum_by length lines

-- Returns true if there is room for another line.
unfoldable pub has_room : List ℕ → List (List ℕ) → Bool
has_room line lines = nat_lt (length lines) most_lines && nat_le (waiting lines + length line) most_waiting

-- Finishes a line. If there is no room, the whole line is dropped (own).
unfoldable pub finish_line : List ℕ → Console → Console
finish_line line c = record c { lines = if has_room line c.lines then c.lines ++ line ∷ [] else c.lines; edited = [] }

-- Erases the last byte.
unfoldable pub erased : List ℕ → List ℕ
erased bytes = take (length bytes - 1) bytes

-- Appends a byte that isn't special, unless the edited line is full.
unfoldable pub with_byte : ℕ → List ℕ → List ℕ
with_byte byte bytes = if nat_lt (length bytes) most_edited then bytes ++ byte ∷ [] else bytes

-- Edits the line by one byte: ERASE is 7F, KILL 15, EOF 04 and NL 0A (own). EOF finishes the line without being part
-- of it; an empty line reads as end of file.
unfoldable pub edit : ℕ → Console → Console
edit byte c =
    if byte == 127 then record c { edited = erased c.edited }
    else if byte == 21 then record c { edited = [] }
    else if byte == 10 then finish_line (c.edited ++ 10 ∷ []) c
    else if byte == 4 then finish_line c.edited c
    else record c { edited = with_byte byte c.edited }

-- Returns the signal of a signal key: INTR is 03, QUIT 1C and SUSP 1A (own).
unfoldable pub key_signal : ℕ → Option ℕ
key_signal byte =
    if byte == 3 then Some INT
    else if byte == 28 then Some QUIT
    else if byte == 26 then Some TSTP
    else None

-- A signal key discards all input, XBD 11.1.9.
unfoldable pub flushed : Console → Console
flushed c = record c { lines = []; edited = [] }

abbrev pub keyed_by : Option ℕ → ℕ → Console → Console
keyed_by None byte c = edit byte c
keyed_by (Some sig) byte c = flushed c

-- Returns the console after a byte is typed.
unfoldable pub keyed : ℕ → Console → Console
keyed byte c = if c.hung_up then c else keyed_by (key_signal byte) byte c

-- Returns the signal of a typed byte, if any; none while the console is hung up (own).
unfoldable pub signal_typed : ℕ → Console → Option ℕ
signal_typed byte c = if c.hung_up then None else key_signal byte

-- ---- modem disconnect

-- Returns true if a disconnect sends SIGHUP to the session leader, XBD 11.1.10: the console has a session, and is not
-- already hung up (own).
abbrev pub is_told : Console → Bool
is_told c = not c.hung_up && not (c.session == 0)

abbrev pub session_told : Console → Option ℕ
session_told c = if is_told c then Some c.session else None

-- Discards the input and, if the console has a session, hangs the console up (own). If the console is already hung
-- up, nothing happens (own).
unfoldable pub disconnected : Console → Console
disconnected c = if c.hung_up then c else record (flushed c) { hung_up = not (c.session == 0) }

-- ---- reading a line

-- Returns the lines that are left after n bytes of the first line are read; the rest of the first line stays.
abbrev pub lines_left : ℕ → List (List ℕ) → List (List ℕ)
lines_left n [] = []
lines_left n (line ∷ rest) = if nat_le (length line) n then rest else drop n line ∷ rest

-- Removes at most n bytes of the first line.
unfoldable pub line_taken : ℕ → Console → Console
line_taken n c = record c { lines = lines_left n c.lines }

-- ---- the session and the foreground process group

-- Makes the console the controlling terminal of a session, with a foreground process group. Earlier input stays, and
-- the console is no longer hung up (own).
unfoldable pub acquired : ℕ → ℕ → Console → Console
acquired session group c = record c { session = session; foreground = group; hung_up = false }

-- Releases the console: it has no session and no foreground process group.
unfoldable pub released : Console → Console
released c = record c { session = 0; foreground = 0 }

unfoldable pub with_foreground : ℕ → Console → Console
with_foreground group c = record c { foreground = group }

unfoldable pub with_tostop : Bool → Console → Console
with_tostop tostop c = record c { tostop = tostop }

-- ---- consoles of a machine

-- Returns the console with a number; consoles are numbered from 1.
abbrev pub console_at : ℕ → List Console → Option Console
console_at zero cs = None
console_at (suc k) cs = slice_get cs k

-- Replaces the console with this number.
abbrev pub with_console : ℕ → Console → List Console → List Console
with_console zero c cs = cs
with_console (suc k) c cs = slice_set cs k c

abbrev pub is_of_session : ℕ → Console → Bool
is_of_session session c = c.session == session

-- Returns the controlling terminal of a session, if any.
unfoldable pub console_of : ℕ → List Console → Option Console
console_of session cs = find (is_of_session session) cs

abbrev pub changed_at : ℕ → (Console → Console) → Console → Console
changed_at session f c = if c.session == session then f c else c

-- Changes the controlling terminal of a session by f.
unfoldable pub changed_console : ℕ → (Console → Console) → List Console → List Console
changed_console session f cs = map (changed_at session f) cs
