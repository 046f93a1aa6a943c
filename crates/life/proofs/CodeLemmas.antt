-- The code that a process runs.
use Rattle.std.proofs.Common.{◌≡◌, ◌<◌, ℕ, zero, suc, ℤ, pos, negsuc, true, false, cond, refl, ap, sym, ◌∙◌, List, [], length, slice_get, slice_index_or, Option, Some, None, nat_lt, nat_le, ◌-◌, arith}
use Rattle.std.proofs.lemmas.Bool.{ltb-true, ltb-false}
use Rattle.std.proofs.lemmas.Option.{slice_get_read, slice_get_past}
use Rattle.posix.specs.declared.instr.Instr.{Instr}
use Rattle.posix.specs.Common.{Process, Program, State, process, change, StaysUnlessRun, exec_one, faulted, fetched, code_of, instructions, set_cpu, IsRising}
use Rattle.posix.specs.declared.instr.Trap.{Trap}
use Rattle.posix.specs.declared.instr.Trap.TheVariants as trap
use Rattle.umach.specs.Bursts.{exec_until}
use Rattle.posix.proofs.TableLemmas.{changed_id}

pub code_is : (s : State) (me : Process) (n : ℕ) (programs : List Program) (o : Option Program) → programs ≡ s.world.programs → n ≡ me.program → slice_get programs n ≡ o → code_of s me ≡ instructions o
code_is s me n programs o same number found = ap instructions (sym (ap (λ (ps : List Program). slice_get ps n) same ∙ ap (slice_get s.world.programs) number) ∙ found)

-- what the test of a place says
pub get_some : {A : Type 0} (xs : List A) (n : ℕ) (x : A) → (true ≡ nat_lt n (length xs)) × (x ≡ slice_index_or xs n x) → slice_get xs n ≡ Some x
get_some xs n x h = slice_get_read xs (length xs) n x refl (ltb-true _ _ (sym h.0)) h.1

pub past_none : {A : Type 0} (xs : List A) (n : ℕ) → false ≡ nat_lt n (length xs) → slice_get xs n ≡ None
past_none xs n past = slice_get_past xs n (ltb-false _ _ (sym past))

nothing_there : (z : ℤ) → fetched [] z ≡ None
nothing_there (pos n) = elim (nat_le 16 n) as (λ b. cond b (slice_get {X = Instr} [] (n - 16)) None ≡ None) [ true ↦ refl | false ↦ refl ]
nothing_there (negsuc n) = refl

-- without code each instruction is a fault
pub no_code : (s : State) (me : Process) → code_of s me ≡ [] → exec_one (code_of s me) me.cpu ≡ faulted me.cpu 11
unfolding exec_one
no_code s me e = rw (e, nothing_there me.cpu.pc) refl

-- and the first ends a run of them
pub no_burst : (s : State) (me : Process) (most : ℕ) → code_of s me ≡ [] → 0 < most → exec_until (code_of s me) most me.cpu ≡ record { count = 0; trap = trap.Fault 11; cpu = me.cpu }
unfolding exec_until
no_burst s me zero e lt = absurd (omega (arith, lt))
no_burst s me (suc most) e lt = grind (arith, e, lt, no_code)

-- a fault changes no record
pub same_cpu : (s : State) (p : ℕ) (me : Process) → IsRising s.processes → process s p ≡ Some me → s ≡ change s p (set_cpu me.cpu)
unfolding set_cpu
same_cpu s p me up e = ap (λ rs. record s { processes = rs }) (sym (changed_id p (set_cpu me.cpu) s.processes up me e refl))

-- what leaves a thing leaves what is made of it
pub stays_by : {A B : Type 0} (f : A → B) (t : Trap) (a b : A) → StaysUnlessRun t a b → StaysUnlessRun t (f a) (f b)
stays_by f trap.Next a b h = tt
stays_by f (trap.Note value) a b h = tt
stays_by f t a b h = ap f h
