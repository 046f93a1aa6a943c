-- Consoles as a machine shows them, and the processes blocked in a read from one.
use Rattle.std.specs.Prelude.{◌≡◌, ◌==◌, ◌&&◌, ◌||◌, ◌⊎◌, ℕ, zero, suc, Bool, not, true, false, if◌then◌else◌, List, [], length, Option, Some, None, slice_get, slice_set, MatchOption}
use Rattle.posix.specs.Common.{Process, is_running, Console, console_of, console_at, key_signal, State, process, is_in, has_place, members_in, is_fresh, is_reader, is_in_read}
use Rattle.std.specs.Option.{option_map_or}
use Rattle.proctable.specs.Records.{snapshot_of}
use Rattle.proctable.specs.declared.snapshot.Snapshot.{Snapshot}
use Rattle.life.specs.declared.consoles.Terminal.{Terminal}
use Rattle.std.specs.Borrow.{MutBor}
use Rattle.std.specs.Fn.{Once, FnOnceReturnsAtMut}
use Rattle.life.specs.Foregrounds.{is_unchecked}
use Rattle.life.specs.Machines.{MachineView, with_consoles}

abbrev pub terminal_of : Console → Terminal
terminal_of c = record { foreground = c.foreground; tostop = c.tostop; has_line = not (length c.lines == 0); hung_up = c.hung_up }

-- a process other than process 1 that leads its session hangs up its terminal when it terminates
abbrev pub hangs_up : Snapshot → Bool
hangs_up f = not (f.pid == 1) && f.session == f.pid

-- the index of the console that is a session's terminal
abbrev pub IsTerminalIndex : ℕ → List Console → Option ℕ → Type 0
IsTerminalIndex session cs None = console_of session cs ≡ None
IsTerminalIndex session cs (Some k) = (c : Console) × (slice_get cs k ≡ Some c) × (console_of session cs ≡ Some c) × (c.session ≡ session)

-- each process that is blocked reading from the terminal of this session, and not in the run queue, is on the recheck
-- list
abbrev pub AreReaders : State → ℕ → List ℕ → Type 0
AreReaders s session to_recheck = (p : ℕ) (r : Process) → process s p ≡ Some r → is_reader session r ≡ true → has_place s p ≡ false → is_in p to_recheck ≡ true

-- it is the terminal of the same session, with the same foreground process group
abbrev pub IsSameTerminal : Console → Console → Type 0
IsSameTerminal c d = (d.session ≡ c.session) × (d.foreground ≡ c.foreground)

-- The console with this index can become another. The new one isn't the second terminal of a session. Each process
-- that it may make runnable is on the recheck list. Its foreground process group is unchecked, or has a member if there
-- is one.
pub record CanBecome (m : MachineView) (k : ℕ) (c d : Console) : Type 0 where
  pub session : (d.session ≡ c.session) ⊎ ((d.session ≡ 0) ⊎ ((c.session ≡ 0) × (console_of d.session m.state.consoles ≡ None)))
  pub readers : (IsSameTerminal c d × (d.hung_up ≡ c.hung_up) × (c.lines ≡ [] → d.lines ≡ [])) ⊎ AreReaders m.state c.session m.to_recheck
  pub foreground : IsSameTerminal c d ⊎ ((is_unchecked m.foregrounds_unchecked d || is_fresh m.state.processes d) ≡ true)

abbrev pub CanChange : {F T : Type 0} → Once F (MutBor Console × Unit {0}) (T × (MutBor Console × Unit {0})) → F → MachineView → ℕ → Type 0
CanChange {T = T} g change m k = (c d : Console) (r : T) → slice_get m.state.consoles k ≡ Some c → FnOnceReturnsAtMut g change c r d → CanBecome m k c d

-- if it exists, it became what the closure made of it
abbrev pub HasChanged : {F T : Type 0} → Once F (MutBor Console × Unit {0}) (T × (MutBor Console × Unit {0})) → F → State → State → ℕ → Option T → Type 0
HasChanged {T = T} g change old new k o = MatchOption (slice_get old.consoles k) ((o ≡ None) × (new ≡ old)) (λ c. (d : Console) × (r : T) × (o ≡ Some r) × FnOnceReturnsAtMut g change c r d × (new ≡ with_consoles old (slice_set old.consoles k d)))

-- the session from whose terminal p is blocked reading
abbrev pub reads_in : Option Process → Option ℕ
reads_in None = None
reads_in (Some r) = if is_running r.life && is_in_read r.blocked then Some r.session else None

abbrev pub reads : State → ℕ → Option ℕ
reads s p = if has_place s p then None else reads_in (process s p)

-- ---- how many slots are read

-- if a key or a hangup signals the foreground process group of a console: one for each member
abbrev pub slots_of_foreground : Option Console → List Process → ℕ
slots_of_foreground None rs = 0
slots_of_foreground (Some c) rs = length (members_in c.foreground rs)

-- if a byte generates this signal, or none
abbrev pub slots_of_signal_key : Option ℕ → Option Console → List Process → ℕ
slots_of_signal_key None c rs = 0
slots_of_signal_key (Some sig) c rs = slots_of_foreground c rs

-- a byte on the console with this number; numbers start at 1
abbrev pub slots_of_key : ℕ → ℕ → MachineView → ℕ
slots_of_key zero byte m = 0
slots_of_key (suc k) byte m = slots_of_signal_key (key_signal byte) (slice_get m.state.consoles k) m.state.processes

-- a process hangs up the terminal of the session that it leads
abbrev pub slots_of_hangup : Process → MachineView → ℕ
slots_of_hangup me m = if hangs_up (snapshot_of me) then slots_of_foreground (console_of me.session m.state.consoles) m.state.processes else 0

-- the members of the foreground process group of the console with this number, none if there is no such console
abbrev pub foreground_members : ℕ → State → List Process
foreground_members console s = option_map_or (λ c. members_in c.foreground s.processes) (console_at console s.consoles) []
