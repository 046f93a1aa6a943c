-- The targets of the jumps of a program.
use Rattle.std.specs.Prelude.{◌≡◌, ℕ, ◌+◌, ◌<◌, ◌==◌, Bool, false, List, length, slice_index_or}
use Rattle.std.specs.List.{list_any}
use Rattle.posix.specs.declared.instr.Instr.{Instr}
use Rattle.posix.specs.declared.instr.Instr.TheVariants.{Set, Move, Compute, Load, Store, Jump, JumpIf, Note, Sys}

-- True if an instruction is a jump to a place.
abbrev pub jumps_to : ℕ → Instr → Bool
jumps_to place (Set a z) = false
jumps_to place (Move a b) = false
jumps_to place (Compute operator a b) = false
jumps_to place (Load a b) = false
jumps_to place (Store a b) = false
jumps_to place (Jump address) = address == place + 16
jumps_to place (JumpIf condition a address) = address == place + 16
jumps_to place (Note a) = false
jumps_to place (Sys call) = false

-- True if one of these instructions is a jump to a place.
abbrev pub is_target : List Instr → ℕ → Bool
is_target instrs place = list_any (jumps_to place) instrs

abbrev pub told_of : List Bool → ℕ → Bool
told_of are_targets place = slice_index_or are_targets place false

-- For each place of a program, the list has whether one of these instructions is a jump to it.
abbrev pub AreTold : List Instr → List Instr → List Bool → Type 0
AreTold program instrs are_targets = (place : ℕ) → place < length program → told_of are_targets place ≡ is_target instrs place
