-- Instructions that are plain or give a note, run one after another.
use Rattle.std.specs.Prelude.{ℕ, zero, suc, ◌+◌, ◌-◌, List, [], ◌∷◌}
use Rattle.posix.specs.declared.instr.Instr.{Instr}
use Rattle.posix.specs.declared.instr.Trap.{Trap}
use Rattle.posix.specs.declared.instr.Trap.TheVariants as trap
use Rattle.posix.specs.Common.{Cpu}
use Rattle.umach.specs.Bursts.{exec_until}
use Rattle.life.specs.declared.noted_bursts.Note.{Note}

-- a burst ends after so many notes
abbrev pub most_notes : ℕ
most_notes = 32

-- the number of the last step taken, the notes, and how the instruction after it came out
pub record StepsTaken : Type 0 where
  pub last : ℕ
  pub notes : List Note
  pub trap : Trap  -- Next if it wasn't looked at

-- these, and the processor after them
pub record NotedBurst : Type 0 where
  pub taken : StepsTaken
  pub cpu : Cpu

-- no step after number done is taken
abbrev pub ends_at : ℕ → Trap → Cpu → NotedBurst
ends_at done t c = record { taken = record { last = done; notes = []; trap = t }; cpu = c }

-- this note, and then the rest
abbrev pub with_note : Note → NotedBurst → NotedBurst
with_note note rest = record { taken = record { last = rest.taken.last; notes = note ∷ rest.taken.notes; trap = rest.taken.trap }; cpu = rest.cpu }

-- the instruction after step number done came out in this way; if it gave a note, the rest follows
abbrev pub then_note : ℕ → Trap → Cpu → NotedBurst → NotedBurst
then_note done trap.Next c rest = ends_at done trap.Next c
then_note done (trap.Note value) c rest = with_note (record { step = done + 1; value = value }) rest
then_note done (trap.Call call) c rest = ends_at done (trap.Call call) c
then_note done (trap.Fault sig) c rest = ends_at done (trap.Fault sig) c

-- the steps after number done up to number last, with at most so many notes
unfoldable pub exec_with_notes : List Instr → ℕ → ℕ → ℕ → Cpu → NotedBurst
exec_with_notes program zero done last c = ends_at done trap.Next c
exec_with_notes program (suc room) done last c =
    then_note (done + (exec_until program (last - done) c).count) (exec_until program (last - done) c).trap (exec_until program (last - done) c).cpu
    (exec_with_notes program room ((done + (exec_until program (last - done) c).count) + 1) last (exec_until program (last - done) c).cpu)
