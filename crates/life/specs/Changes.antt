-- Changes of one process, and what is kept beside its record.
use Rattle.std.specs.Prelude.{◌≡◌, ℕ, ◌<◌, ◌≤◌, ◌==◌, ◌||◌, ◌⊎◌, Bool, false, not, List, Some}
use Rattle.std.specs.Borrow.{MutBor}
use Rattle.std.specs.Fn.{Once, FnOnceReturnsAtMut}
use Rattle.posix.specs.declared.process.Life.{Life}
use Rattle.posix.specs.declared.process.News.{News}
use Rattle.posix.specs.Common.{Process, lookup, parent_of, State, IsRegular}
use Rattle.pidalloc.specs.Rows.{Pids, row, is_free_in}
use Rattle.jobs.specs.IndexedTables.{Does}
use Rattle.proctable.specs.declared.records.Record.{Record}
use Rattle.proctable.specs.Records.{process_of, with_record}
use Rattle.jobs.specs.declared.indexes.IndexedFields.{IndexedFields}

-- whatever the closure does to the record of p, a regular state stays regular
abbrev pub StaysRegular : {F T : Type 0} → Once F (MutBor Record × Unit {0}) (T × (MutBor Record × Unit {0})) → F → State → ℕ → Type 0
StaysRegular {T = T} g change s p =
    IsRegular s → (b c : Record) (r : T) → lookup p s.processes ≡ Some (process_of p (parent_of p s.processes) b) → FnOnceReturnsAtMut g change b r c → IsRegular (record s { processes = with_record s.processes p c })

-- the closure leaves p in its session, or puts it in one that p leads
abbrev pub StaysInSession : {F T : Type 0} → Once F (MutBor Record × Unit {0}) (T × (MutBor Record × Unit {0})) → F → List Process → ℕ → Type 0
StaysInSession g change rs p = Does g change rs p (λ b c. (c.session ≡ b.session) ⊎ (c.session ≡ p))

-- its process group or session has changed
abbrev pub has_moved : IndexedFields → IndexedFields → Bool
has_moved old new = not (old.group == new.group) || not (old.session == new.session)

-- the rows count its process group and session IDs, and can count its new ones, which are already in use
pub record CanMoveNumbers (p : Pids) (old new : IndexedFields) : Type 0 where
  pub group_range : old.group ≤ p.pidmax
  pub session_range : old.session ≤ p.pidmax
  pub to_group_range : new.group ≤ p.pidmax
  pub to_session_range : new.session ≤ p.pidmax
  pub group_count : 1 ≤ (row p.rows old.group).group
  pub session_count : 1 ≤ (row p.rows old.session).session
  pub to_group_count : (row p.rows new.group).group < 4294967295
  pub to_session_count : (row p.rows new.session).session < 4294967295
  pub to_group_borne : is_free_in p.rows new.group ≡ false
  pub to_session_borne : is_free_in p.rows new.session ≡ false

-- The process is in this state from now on, with this unreported status change.
abbrev pub lives : Life → News → Process → Process
lives l n r = record r { life = l; news = n }
