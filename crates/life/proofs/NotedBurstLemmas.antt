-- Instructions that are plain or give a note, run one after another.
use Rattle.std.proofs.Common.{◌≡◌, ℕ, zero, suc, ◌+◌, ◌-◌, ◌<◌, ◌≤◌, ◌≢◌, ℤ, ap, ◌∙◌, arith, refl, List, [], ◌∷◌, ◌++◌, length, append-nil, append_assoc, length-append}
use Rattle.posix.specs.declared.instr.Instr.{Instr}
use Rattle.posix.specs.declared.instr.Trap.{Trap}
use Rattle.posix.specs.declared.instr.Trap.TheVariants as trap
use Rattle.posix.specs.Common.{Cpu, Process, State, code_of}
use Rattle.umach.specs.Bursts.{exec_until, IsWithin}
use Rattle.life.specs.declared.noted_bursts.Note.{Note}
use Rattle.life.specs.NotedBursts.{NotedBurst, ends_at, then_note, most_notes, exec_with_notes}
use Rattle.life.proofs.CodeLemmas.{no_burst}

-- with these notes before
abbrev pub with_notes : List Note → NotedBurst → NotedBurst
with_notes ns b = record { taken = record { last = b.taken.last; notes = ns ++ b.taken.notes; trap = b.taken.trap }; cpu = b.cpu }

-- the rest of a burst that has given these notes
abbrev pub rest_after : List Instr → ℕ → Cpu → ℕ → List Note → NotedBurst
rest_after program last c done ns = exec_with_notes program (most_notes - length ns) done last c

-- if there is room for a note, plain instructions are run, and this is what the code found of them
found_first : (program : List Instr) (room done last n : ℕ) (t : Trap) (c d : Cpu) → 0 < room
    → n ≡ (exec_until program (last - done) c).count → t ≡ (exec_until program (last - done) c).trap → d ≡ (exec_until program (last - done) c).cpu
    → exec_with_notes program room done last c ≡ then_note (done + n) t d (exec_with_notes program (room - 1) ((done + n) + 1) last d)
unfolding exec_with_notes
found_first program zero done last n t c d some count trap_is cpu = absurd (omega (arith, some))
found_first program (suc room) done last n t c d some count trap_is cpu = let same : suc room - 1 ≡ room = omega arith in rw (count, trap_is, cpu, same) refl

-- a note was given
pub note_given : (program : List Instr) (from done last n : ℕ) (t : Trap) (z : ℤ) (old c d : Cpu) (ns : List Note) → length ns < most_notes
    → n ≡ (exec_until program (last - done) c).count → t ≡ (exec_until program (last - done) c).trap → d ≡ (exec_until program (last - done) c).cpu → t ≡ trap.Note z
    → exec_with_notes program most_notes from last old ≡ with_notes ns (rest_after program last c done ns)
    → exec_with_notes program most_notes from last old
    ≡ with_notes (ns ++ record { step = (done + n) + 1; value = z } ∷ []) (rest_after program last d ((done + n) + 1) (ns ++ record { step = (done + n) + 1; value = z } ∷ []))
note_given program from done last n t z old c d ns fits count trap_is cpu is h =
    let x : Note = record { step = (done + n) + 1; value = z } in
    let room : most_notes - length (ns ++ x ∷ []) ≡ (most_notes - length ns) - 1 = omega (arith, fits, length-append ns (x ∷ [])) in
    let first = found_first program (most_notes - length ns) done last n t c d (omega (arith, fits)) count trap_is cpu in
    rw (room, append_assoc ns (x ∷ []) (exec_with_notes program ((most_notes - length ns) - 1) ((done + n) + 1) last d).taken.notes) (h ∙ ap (with_notes ns) (rw is at first))

-- what isn't a note ends the burst
ends_by : (done : ℕ) (t : Trap) (d : Cpu) (rest : NotedBurst) → ((z : ℤ) → t ≢ trap.Note z) → then_note done t d rest ≡ ends_at done t d
ends_by done (trap.Note z) d rest other = absurd (other z refl)
ends_by done t d rest other = refl

-- no note was given
pub none_given : (program : List Instr) (from done last n : ℕ) (t : Trap) (old c d : Cpu) (ns : List Note) → length ns < most_notes
    → n ≡ (exec_until program (last - done) c).count → t ≡ (exec_until program (last - done) c).trap → d ≡ (exec_until program (last - done) c).cpu → ((z : ℤ) → t ≢ trap.Note z)
    → exec_with_notes program most_notes from last old ≡ with_notes ns (rest_after program last c done ns)
    → exec_with_notes program most_notes from last old ≡ record { taken = record { last = done + n; notes = ns; trap = t }; cpu = d }
none_given program from done last n t old c d ns fits count trap_is cpu other h =
    h ∙ ap (with_notes ns) (found_first program (most_notes - length ns) done last n t c d (omega (arith, fits)) count trap_is cpu
    ∙ ends_by (done + n) t d (exec_with_notes program ((most_notes - length ns) - 1) ((done + n) + 1) last d) other)
    ∙ ap (λ (l : List Note). record { taken = record { last = done + n; notes = l; trap = t }; cpu = d }) (append-nil ns)

-- there is no room for another one
pub is_filled : (program : List Instr) (from done last : ℕ) (old c : Cpu) (ns : List Note) → most_notes ≤ length ns
    → exec_with_notes program most_notes from last old ≡ with_notes ns (rest_after program last c done ns)
    → exec_with_notes program most_notes from last old ≡ record { taken = record { last = done; notes = ns; trap = trap.Next }; cpu = c }
unfolding exec_with_notes
is_filled program from done last old c ns full h =
    let none : most_notes - length ns ≡ 0 = omega (arith, full) in
    h ∙ rw (none, append-nil ns) refl

-- as many plain instructions as there may be, and fewer if another one was looked at
pub within_all : (n most : ℕ) (t : Trap) → IsWithin most n t → (n ≤ most) × (t ≢ trap.Next → n < most)
within_all n most trap.Next within = (omega (arith, within), λ other. absurd (other refl))
within_all n most t within = (omega (arith, within), λ other. within)

-- without code the first instruction is a fault
pub no_notes : (s : State) (me : Process) (before last : ℕ) → code_of s me ≡ [] → before < last → exec_with_notes (code_of s me) most_notes before last me.cpu ≡ ends_at before (trap.Fault 11) me.cpu
no_notes s me before last e some = grind (arith, e, some, found_first, no_burst)
