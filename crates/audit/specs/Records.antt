-- What the auditor keeps of each process ID: a record of its newest life.
use Rattle.std.specs.Prelude.{ℕ, ◌≡◌, ◌==◌, Bool, true, false, if◌then◌else◌, nat_eq, List, Option, Some, None, option_map, map}
use Rattle.std.specs.Map.{keys_of, lookup}
use Rattle.audit.specs.declared.records.Record.{Record}
use Rattle.audit.specs.declared.records.Life.{Life}
use Rattle.audit.specs.declared.records.State.{State}
use Rattle.audit.specs.declared.records.State.TheVariants.{Living, Ended}
use Rattle.audit.specs.declared.records.Change.{Change}
use Rattle.audit.specs.declared.records.Change.TheVariants as change
use Rattle.laws.specs.Keeping.{Alive, Kept, NeverBorn, Lives, Died, after_stop, after_mark, after_report, ended_with}

abbrev pub is_living_state : State → Bool
is_living_state (Living life) = true
is_living_state (Ended status reported) = false

-- The state of a new life.
abbrev pub newborn_state : State
newborn_state = Living (record { is_marked = false; has_stopped = false; stop = None; may_continue = false })

-- Returns what is kept of a life that has not ended.
abbrev pub alive : ℕ → Life → Alive
alive parent life = record { parent = parent; is_marked = life.is_marked; has_stopped = life.has_stopped; stop = life.stop; may_continue = life.may_continue }

-- Returns what is kept of a life with this parent and state.
abbrev pub kept_as : ℕ → State → Kept
kept_as parent (Living life) = Lives (alive parent life)
kept_as parent (Ended status reported) = Died (record { parent = parent; status = status; reported = reported })

-- Returns what is kept after a change.
abbrev pub after : Change → Kept → Kept
after (change.Stopped s) k = after_stop s k
after (change.Marked mark) k = after_mark mark k
after (change.Reported w) k = after_report w k
after (change.Ended w) k = ended_with w k

-- Returns what a record keeps.
abbrev pub kept_record : Option Record → Kept
kept_record None = NeverBorn
kept_record (Some r) = kept_as r.parent r.state

-- Returns the record of c among the entries of a map, if any.
abbrev pub record_in : List (ℕ × Record) → ℕ → Option Record
record_in entries c = lookup (nat_eq c) entries

-- Returns what is kept of c.
unfoldable pub kept_by : List (ℕ × Record) → ℕ → Kept
kept_by entries c = kept_record (record_in entries c)

-- The life of p is changed, and no other.
abbrev pub IsAfter : Change → ℕ → List (ℕ × Record) → List (ℕ × Record) → Type 0
IsAfter x p old new = (c : ℕ) → kept_by new c ≡ (if p == c then after x (kept_by old c) else kept_by old c)

-- Returns what is kept of each process ID that a process ever had.
unfoldable pub kept_all : List (ℕ × Record) → List (ℕ × Kept)
kept_all entries = map (λ e. (e.0, kept_record (Some e.1))) entries

-- Returns the records with that of p changed.
abbrev pub changed : ℕ → (Record → Record) → (ℕ → Option Record) → ℕ → Option Record
changed p f records q = if p == q then option_map f (records q) else records q

-- The new records are the old ones changed by f, and have the same keys.
pub record Become (f : (ℕ → Option Record) → ℕ → Option Record) (old new : List (ℕ × Record)) : Type 0 where
  pub is : (q : ℕ) → record_in new q ≡ f (record_in old) q
  pub keys : keys_of new ≡ keys_of old

-- Returns true if the process lives and is a child subreaper.
abbrev pub has_mark_now : Kept → Bool
has_mark_now NeverBorn = false
has_mark_now (Lives a) = a.is_marked
has_mark_now (Died d) = false

-- No process is a living child subreaper.
abbrev pub NobodyMarked : (ℕ → Kept) → Type 0
NobodyMarked kept = (q : ℕ) → has_mark_now (kept q) ≡ false
