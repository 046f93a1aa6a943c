-- The model of the slots of processes, and reads and writes of one slot.
use Rattle.std.specs.Prelude.{ℕ, ◌+◌, ◌-◌, ◌^◌, min, max}
use Rattle.std.specs.Borrow.{RattleType}
use Rattle.slab.specs.Slab.{Slab, with_value}
use Rattle.posix.specs.Common.{Process}
use Rattle.proctable.specs.contracts.slot.Slot.{the_row as the_slot_row}

-- the processes by slot, and how many slots were read
pub record SlotsView : Type 0 where
  pub processes : Slab Process
  pub visits : ℕ

abbrev pub slot_row : RattleType
slot_row = the_slot_row

-- one more, up to the largest count, and never less
abbrev pub one_more : ℕ → ℕ
one_more n = max n (min (n + 1) (2 ^ 128 - 1))

-- the slots with another process in one slot, which was read once
abbrev pub with_process : SlotsView → ℕ → Process → SlotsView
with_process s slot r = record { processes = with_value s.processes slot r; visits = one_more s.visits }
