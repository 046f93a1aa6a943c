-- The parts of a machine as a state, and what holds of them.
use Rattle.std.specs.Prelude.{◌≡◌, ◌≢◌, ℕ, ◌+◌, ◌<◌, ◌≤◌, Bool, true, false, List, [], length, slice_get, Option, Some, IsSome, IfSome, option_map}
use Rattle.posix.specs.Common.{Process, lookup, children_in, World, State, boot, process, has_place, is_in, IsRegular, Console, console_at, Covers, is_reader}
use Rattle.life.specs.declared.consoles.Unchecked.{Unchecked}
use Rattle.life.specs.Foregrounds.{AreFreshBut}
use Rattle.pidalloc.specs.Rows.{Pids, IsPids, row, gone_from}
use Rattle.pidalloc.specs.Tallies.{IsTallied}
use Rattle.pidalloc.specs.Places.{Places}
use Rattle.pidset.specs.Rows.{HasRoom}
use Rattle.pidset.specs.Numbers.{PidSetView, Rises}
use Rattle.pidset.specs.declared.index.Pair.{Pair}
use Rattle.pidset.specs.Indexes.{HaveParents, IsKeyed, is_pair_in}
use Rattle.pidset.specs.Lists.{ListsView}

abbrev pub state_of : World → List Process → List Console → Pids → Places → ℕ → ℕ → ℕ → Bool → State
state_of world processes consoles pids places births ticks dropped halted = record (boot world) {
  processes = processes;
  consoles = consoles;
  last_pid = pids.last;
  births = births;
  ticks = ticks;
  order = places.pids;
  dropped = dropped;
  halted = halted;
}

-- The state of a machine; how many slots of its table have been read; the recheck list; the process groups noted as
-- those that a termination may orphan; which foreground process groups may have lost their members; and which processes
-- may be blocked in a read, by session.
pub record MachineView : Type 0 where
  pub state : State
  pub visits : ℕ
  pub to_recheck : List ℕ
  pub groups_at_risk : List ℕ
  pub foregrounds_unchecked : Unchecked
  pub readers : ListsView

-- only the number of slots that have been read has changed
pub record AreSame (old new : MachineView) : Type 0 where
  pub state : new.state ≡ old.state
  pub to_recheck : new.to_recheck ≡ old.to_recheck
  pub groups_at_risk : new.groups_at_risk ≡ old.groups_at_risk
  pub foregrounds_unchecked : new.foregrounds_unchecked ≡ old.foregrounds_unchecked
  pub readers : new.readers ≡ old.readers

-- A look changes nothing, and reads at most n slots. After each look it is known that the state is regular.
pub record Looks (n : ℕ) (old new : MachineView) : Type 0 where
  pub same : AreSame old new
  pub visits : new.visits ≤ old.visits + n
  pub no_fewer : old.visits ≤ new.visits
  pub regular : IsRegular old.state

-- A change that reads at most n slots, and notes no process group that may be orphaned. After each change it is known
-- that the state was regular.
pub record Costs (n : ℕ) (old new : MachineView) : Type 0 where
  pub visits : new.visits ≤ old.visits + n
  pub no_fewer : old.visits ≤ new.visits
  pub groups_at_risk : new.groups_at_risk ≡ old.groups_at_risk
  pub regular : IsRegular old.state

-- the result of a function that only looks
pub record Finds (n : ℕ) (old new : MachineView) (what : Type 0) : Type 0 where
  pub value : what
  pub looks : Looks n old new

-- the same, and if something is found, one more slot was counted
pub record FindsAndCounts {T : Type 0} (more : ℕ → ℕ) (old new : MachineView) (found : Option T) (what : Type 0) : Type 0 where
  pub value : what
  pub looks : Looks 1 old new
  pub counts : IfSome found (λ it. more old.visits ≤ new.visits)

-- Process groups that a termination may orphan are noted. Nothing else changes, and no slot is read.
pub record Notes (old new : MachineView) : Type 0 where
  pub state : new.state ≡ old.state
  pub to_recheck : new.to_recheck ≡ old.to_recheck
  pub foregrounds_unchecked : new.foregrounds_unchecked ≡ old.foregrounds_unchecked
  pub readers : new.readers ≡ old.readers
  pub visits : new.visits ≡ old.visits
  pub regular : IsRegular old.state

-- a change to this state and this recheck list; the unchecked foreground process groups are as before
pub record Changes (n : ℕ) (old new : MachineView) (s : State) (ns : List ℕ) : Type 0 where
  pub state : new.state ≡ s
  pub to_recheck : new.to_recheck ≡ ns
  pub foregrounds_unchecked : new.foregrounds_unchecked ≡ old.foregrounds_unchecked
  pub costs : Costs n old new

-- a change that may also remove a record: a foreground process group may then be unchecked
pub record Removes (n : ℕ) (old new : MachineView) (s : State) (ns : List ℕ) : Type 0 where
  pub state : new.state ≡ s
  pub to_recheck : new.to_recheck ≡ ns
  pub costs : Costs n old new

-- Instructions of p were run. The recheck list stays if p is in the run queue, and at most one slot is read.
pub record Runs (p : ℕ) (old new : MachineView) : Type 0 where
  pub to_recheck : has_place old.state p ≡ true → new.to_recheck ≡ old.to_recheck
  pub foregrounds_unchecked : new.foregrounds_unchecked ≡ old.foregrounds_unchecked
  pub costs : Costs 1 old new

-- p exists
abbrev pub IsThere : ℕ → MachineView → Type 0
IsThere p m = IsSome (process m.state p)

-- if p exists, this holds of its record
abbrev pub IfThere : ℕ → MachineView → (Process → Type 0) → Type 0
IfThere p m holds = (r : Process) → process m.state p ≡ Some r → holds r

-- this holds of the console with this index, if it exists
abbrev pub IfConsole : ℕ → MachineView → (Console → Type 0) → Type 0
IfConsole k m holds = (c : Console) → slice_get m.state.consoles k ≡ Some c → holds c

-- the state with these processes, and with these consoles
abbrev pub with_processes : State → List Process → State
with_processes s rs = record s { processes = rs }

abbrev pub with_consoles : State → List Console → State
with_consoles s cs = record s { consoles = cs }

-- The rows count which IDs the processes use, and the run queue has room for each process.
pub record IsKept (pidmax : ℕ) (rs : List Process) (pids : Pids) (places : Places) : Type 0 where
  pub greatest : pids.pidmax ≡ pidmax
  pub table : IsPids pids
  pub tallied : IsTallied pids rs
  pub room : (p : ℕ) → IsSome (lookup p rs) → HasRoom places.sizes p

-- each process other than process 1 has an existing parent
abbrev pub IsOther : ℕ → Process → Type 0
IsOther p r = p ≢ 1

pub record IsSound (s : State) (pids : Pids) (places : Places) : Type 0 where
  pub regular : IsRegular s
  pub parents : HaveParents IsOther s.processes
  pub counted : s.dropped + length s.processes ≤ s.births  -- each was born
  pub kept : IsKept s.world.pidmax s.processes pids places

-- only the number of slots that have been read has changed, and there may be other room for blocked readers
pub record AreSameButRoom (old new : MachineView) : Type 0 where
  pub state : new.state ≡ old.state
  pub to_recheck : new.to_recheck ≡ old.to_recheck
  pub groups_at_risk : new.groups_at_risk ≡ old.groups_at_risk
  pub foregrounds_unchecked : new.foregrounds_unchecked ≡ old.foregrounds_unchecked
  pub readers : new.readers.pairs ≡ old.readers.pairs

-- p, in this session, is blocked reading from its terminal: it is running, blocked in a read, and not in the run queue
pub record IsWaiting (s : State) (session p : ℕ) : Type 0 where
  pub reader : Process
  pub found : process s p ≡ Some reader
  pub reads : is_reader session reader ≡ true
  pub out : is_in p s.order ≡ false

-- Of the processes that are not on the recheck list, exactly the blocked readers are known, each under its session.
pub record IsWatched (s : State) (to_recheck : List ℕ) (readers : ListsView) : Type 0 where
  pub known : (session p : ℕ) (r : Process) → process s p ≡ Some r → is_reader session r ≡ true → is_in p s.order ≡ false → is_in p to_recheck ≡ false → is_pair_in session p readers.pairs ≡ true
  pub waits : (session p : ℕ) → is_pair_in session p readers.pairs ≡ true → is_in p to_recheck ≡ false → IsWaiting s session p

-- the blocked readers of a machine are known
abbrev pub AreWatched : MachineView → Type 0
AreWatched m = IsWatched m.state m.to_recheck m.readers

-- Each process that has to enter the run queue is on the recheck list. Each process on the list exists, and there is
-- room for all processes and one more. Each blocked reader is known.
pub record IsListed (s : State) (to_recheck : PidSetView) (readers : ListsView) : Type 0 where
  pub covers : Covers s to_recheck.pids
  pub rising : Rises to_recheck.pids
  pub there : (p : ℕ) → is_in p to_recheck.pids ≡ true → IsSome (process s p)
  pub room : length s.processes < to_recheck.room
  pub watched : IsWatched s to_recheck.pids readers

-- Groups are noted in rising order, and there is room for so many.
pub record IsNoted (count : ℕ) (groups_at_risk : PidSetView) : Type 0 where
  pub rising : Rises groups_at_risk.pids
  pub room : count ≤ groups_at_risk.room

-- Each console is listed under the session whose terminal it is, or under 0. Console numbers start at 1.
pub record AreTerminals (cs : List Console) (terminals : List Pair) : Type 0 where
  pub index : IsKeyed (λ n. option_map (λ c. c.session) (console_at n cs)) terminals
  pub few : length cs ≤ 64

-- what a machine keeps beside its consoles: which session's terminal each is; which processes may be blocked in a read,
-- by session; and which foreground process groups may have lost their members
pub record Terminals : Type 0 where
  pub readers : ListsView
  pub foregrounds_unchecked : Unchecked
  pub terminals : List Pair

-- p exists, and is in this session
abbrev pub IsInSession : ℕ → ℕ → List Process → Type 0
IsInSession session p rs = (r : Process) × (lookup p rs ≡ Some r) × (r.session ≡ session)

-- There is memory for the ID of each process, and for the list of its session. Each process on a list is in its
-- session.
pub record AreWithin (readers : ListsView) (rs : List Process) : Type 0 where
  pub room : (p : ℕ) (r : Process) → lookup p rs ≡ Some r → HasRoom readers.sizes p × HasRoom readers.sizes r.session
  pub own : (session p : ℕ) → is_pair_in session p readers.pairs ≡ true → IsInSession session p rs

-- the invariant of the type
pub record IsMachine (s : State) (pids : Pids) (places : Places) (to_recheck groups_at_risk : PidSetView) (terminals : Terminals) : Type 0 where
  pub sound : IsSound s pids places
  pub listed : IsListed s to_recheck terminals.readers
  pub noted : IsNoted to_recheck.room groups_at_risk
  pub fresh : AreFreshBut terminals.foregrounds_unchecked s.processes s.consoles
  pub indexed : AreTerminals s.consoles terminals.terminals
  pub within : AreWithin terminals.readers s.processes

-- ---- one record that is removed

-- the record of an existing process can be removed: it has no children, and the rows count its three IDs
pub record CanGo (rs : List Process) (pids : Pids) (pid : ℕ) : Type 0 where
  pub what : Process
  pub found : lookup pid rs ≡ Some what
  pub childless : children_in pid rs ≡ []
  pub pid_range : pid ≤ pids.pidmax
  pub group_range : what.group ≤ pids.pidmax
  pub session_range : what.session ≤ pids.pidmax
  pub pid_count : 1 ≤ (row pids.rows pid).process
  pub group_count : 1 ≤ (row pids.rows what.group).group
  pub session_count : 1 ≤ (row pids.rows what.session).session

-- the counts after it was removed
pub record IsGone (old new : Pids) (pid : ℕ) (it : Process) : Type 0 where
  pub rows : new ≡ gone_from old pid it.group it.session
  pub greatest : new.pidmax ≡ old.pidmax
  pub last : new.last ≡ old.last
  pub table : IsPids new
