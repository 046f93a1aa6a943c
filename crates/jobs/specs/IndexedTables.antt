-- The model of a table of jobs.
use Rattle.std.specs.Prelude.{◌≡◌, Bool, is_some, true, ℕ, ◌+◌, ◌<◌, ◌≤◌, ◌⊎◌, List, [], length, Some, None, ◌≢◌}
use Rattle.std.specs.List.{list_any}
use Rattle.std.specs.Borrow.{MutBor}
use Rattle.std.specs.Fn.{Once, FnOnceReturnsAtMut}
use Rattle.posix.specs.Common.{Process, IsRising, lookup, changed, parent_of, is_member, greatest_pid, chosen}
use Rattle.proctable.specs.declared.records.Record.{Record}
use Rattle.proctable.specs.declared.own_part.OwnPart.{OwnPart}
use Rattle.proctable.specs.Records.{give_own, process_of, with_record}
use Rattle.jobs.specs.declared.indexes.Indexes.{Indexes}
use Rattle.pidset.specs.declared.index.Pair.{Pair}
use Rattle.pidset.specs.Rows.{HasRoom, IsOnAnotherPage}
use Rattle.pidset.specs.Indexes.{HaveParents, IsAnchorIndex, IsIndex}
use Rattle.jobs.specs.Indexes.{AreIndexes, IsNumber, record_seen, keeps_group_and_session, parent_key, sizes_in}

-- the processes in rising order of their IDs, how many more fit in reserved room, for how many IDs of each page there
-- is room, and how many slots have been read
pub record JobsView : Type 0 where
  pub processes : List Process
  pub room : ℕ
  pub sizes : List ℕ
  pub visits : ℕ

-- no process has ID 0, or one above the largest
abbrev pub AreNumbers : List Process → Type 0
AreNumbers rs = (p : ℕ) → (p ≡ 0) ⊎ (greatest_pid < p) → lookup p rs ≡ None

-- there is room for each ID, and for that of each process group
abbrev pub AreWithin : List ℕ → List Process → Type 0
AreWithin sizes rs = (p : ℕ) (r : Process) → lookup p rs ≡ Some r → HasRoom sizes r.pid × IsNumber r.group × HasRoom sizes r.group

-- no process has an ID on the page of n, or is in a process group that has one
abbrev pub AreOnOtherPages : ℕ → List Process → Type 0
AreOnOtherPages n rs = (p : ℕ) (r : Process) → lookup p rs ≡ Some r → IsOnAnotherPage r.pid n × IsOnAnotherPage r.group n

-- a child is born in its parent's process group; the parent is 0 if there is no process yet
abbrev pub IsParentIn : ℕ → ℕ → List Process → Type 0
IsParentIn parent group rs = ((parent ≡ 0) × (rs ≡ [])) ⊎ ((up : Process) × (lookup parent rs ≡ Some up) × (up.group ≡ group))

-- the process has a parent
abbrev pub HasParent : ℕ → Process → Type 0
HasParent p r = r.parent ≢ 0

-- the index of anchors is right, and each parent exists
pub record AreAnchors (rs : List Process) (b : Indexes) : Type 0 where
  pub index : IsAnchorIndex rs b.anchors.pairs
  pub parents : HaveParents HasParent rs

-- these pairs are the children of each process; no process has ID 0
pub record AreKin (rs : List Process) (pairs : List Pair) : Type 0 where
  pub rising : IsRising rs
  pub none : lookup 0 rs ≡ None
  pub index : IsIndex parent_key rs pairs

-- what holds of a table: IDs rise and are in range, the count is right, and so are the indexes
pub record IsKept (n : ℕ) (b : Indexes) (rs : List Process) : Type 0 where
  pub rising : IsRising rs
  pub numbers : AreNumbers rs
  pub within : AreWithin (sizes_in b) rs
  pub count : n ≡ length rs
  pub indexes : AreIndexes rs b
  pub anchors : AreAnchors rs b
  pub children : IsIndex parent_key rs b.children.pairs

-- A look leaves the processes and all room unchanged, and reads at most n slots. The count of slots read never falls.
-- Each look also proves that the IDs rise and are in range.
pub record Looks (n : ℕ) (old new : JobsView) : Type 0 where
  pub processes : new.processes ≡ old.processes
  pub room : new.room ≡ old.room
  pub sizes : new.sizes ≡ old.sizes
  pub visits : new.visits ≤ old.visits + n
  pub no_fewer : old.visits ≤ new.visits
  pub rising : IsRising old.processes
  pub numbers : AreNumbers old.processes

-- `what` holds of the result, and the call only looks
pub record Finds (n : ℕ) (old new : JobsView) (what : Type 0) : Type 0 where
  pub value : what
  pub looks : Looks n old new

-- a change that takes no room, and reads at most n slots
pub record Costs (n : ℕ) (old new : JobsView) : Type 0 where
  pub room : new.room ≡ old.room
  pub sizes : new.sizes ≡ old.sizes
  pub visits : new.visits ≤ old.visits + n
  pub no_fewer : old.visits ≤ new.visits

-- the same costs for any kind of table
pub record Spends {K : Type 0} (n : ℕ) (room_of visits_of : K → ℕ) (old new : K) : Type 0 where
  pub room : room_of new ≡ room_of old
  pub visits : visits_of new ≤ visits_of old + n
  pub no_fewer : visits_of old ≤ visits_of new

-- one more slot was read
abbrev pub looked : (ℕ → ℕ) → JobsView → JobsView
looked more t = record t { visits = more t.visits }

-- one more slot was read, and p has this own part
abbrev pub lent : (ℕ → ℕ) → JobsView → ℕ → OwnPart → JobsView
lent more t p o = record t { processes = changed p (give_own o) t.processes; visits = more t.visits }

-- true if the process has a signal to act on, which it does next
abbrev pub takes_signal : Process → Bool
takes_signal r = is_some (chosen r.life r.signals)

-- ---- closures that change a record

-- the closure changes only signals and the alarm
abbrev pub ChangesSignals : {F T : Type 0} → Once F (MutBor Record × Unit {0}) (T × (MutBor Record × Unit {0})) → F → Type 0
ChangesSignals {T = T} g change = (b c : Record) (r : T) → FnOnceReturnsAtMut g change b r c → c ≡ record b { alarm = c.alarm; own = record (b.own) { signals = c.own.signals } }

-- p may be in the process group g: g is the ID of p, or g has a member
abbrev pub IsGroupFor : ℕ → ℕ → List Process → Type 0
IsGroupFor p g rs = (g ≡ p) ⊎ (list_any (is_member g) rs ≡ true)

-- whatever the closure does to the record of p, `what` holds of it before and after
abbrev pub Does : {F T : Type 0} → Once F (MutBor Record × Unit {0}) (T × (MutBor Record × Unit {0})) → F → List Process → ℕ → (Record → Record → Type 0) → Type 0
Does {T = T} g change rs p what = (b c : Record) (r : T) → lookup p rs ≡ Some (process_of p (parent_of p rs) b) → FnOnceReturnsAtMut g change b r c → what b c

-- the closure leaves p in its process group, or moves it to one in which p may be
abbrev pub StaysGrouped : {F T : Type 0} → Once F (MutBor Record × Unit {0}) (T × (MutBor Record × Unit {0})) → F → List Process → ℕ → Type 0
StaysGrouped g change rs p = Does g change rs p (λ b c. (c.group ≡ b.group) ⊎ IsGroupFor p c.group rs)

-- the closure leaves p in its process group and its session, and doesn't revive it
abbrev pub StaysPut : {F T : Type 0} → Once F (MutBor Record × Unit {0}) (T × (MutBor Record × Unit {0})) → F → List Process → ℕ → Type 0
StaysPut g change rs p = Does g change rs p (λ b c. keeps_group_and_session (record_seen b) (record_seen c) ≡ true)

-- the closure ran on the record of p, and returned r
pub record IsRun {F T : Type 0} (g : Once F (MutBor Record × Unit {0}) (T × (MutBor Record × Unit {0}))) (change : F) (rs ts : List Process) (p : ℕ) (r : T) : Type 0 where
  pub before : Record
  pub after : Record
  pub found : lookup p rs ≡ Some (process_of p (parent_of p rs) before)
  pub ran : FnOnceReturnsAtMut g change before r after
  pub is : ts ≡ with_record rs p after
