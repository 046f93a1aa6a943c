-- The model of a table in slots.
use Rattle.std.specs.Prelude.{◌≡◌, ℕ, List, length, filter_map, Some}
use Rattle.std.specs.List.{AllByRecursion}
use Rattle.slab.specs.Slab.{Slab, get, slab_len}
use Rattle.posix.specs.Common.{Process}
use Rattle.pidset.specs.Numbers.{Rises}
use Rattle.pidset.specs.Pages.{Entry, pids_of}
use Rattle.proctable.specs.declared.records.Record.{Record}
use Rattle.proctable.specs.Records.{with_record}
use Rattle.proctable.specs.Slots.{one_more}

-- its processes, how many more it has room for, and how many slots were read
pub record SlabView : Type 0 where
  pub processes : List Process
  pub room : ℕ
  pub visits : ℕ

abbrev pub slab_with_record : SlabView → ℕ → Record → SlabView
slab_with_record t p b = record t { processes = with_record t.processes p b; visits = one_more t.visits }

unfoldable pub processes_in : List (Entry ℕ) → Slab Process → List Process
processes_in es slab = filter_map (λ (e : Entry ℕ). get slab e.value) es

-- the slot of an entry has its process
pub record Stands (slab : Slab Process) (e : Entry ℕ) : Type 0 where
  pub what : Process
  pub at : get slab e.value ≡ Some what
  pub named : what.pid ≡ e.pid

-- the entries rise, and lead to all slots that have a process
pub record IsIndexed (es : List (Entry ℕ)) (slab : Slab Process) : Type 0 where
  pub rising : Rises (pids_of es)
  pub standing : AllByRecursion (Stands slab) es
  pub counted : slab_len slab ≡ length es
