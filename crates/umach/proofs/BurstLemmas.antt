-- Instructions, one after another.
use Rattle.std.proofs.Common.{◌≡◌, ℕ, zero, suc, ◌+◌, ◌-◌, ◌<◌, refl, ap, sym, ◌∙◌, arith, List, add-zero}
use Rattle.posix.specs.declared.call.Call.{Call}
use Rattle.posix.specs.declared.instr.Instr.{Instr}
use Rattle.posix.specs.declared.instr.Trap.{Trap}
use Rattle.posix.specs.declared.instr.Trap.TheVariants as trap
use Rattle.posix.specs.Common.{Cpu, exec_one, StaysUnlessRun}
use Rattle.umach.specs.Bursts.{Burst, then_rest, exec_until}

-- after so many plain instructions
abbrev pub later : ℕ → Burst → Burst
later n b = record { count = n + b.count; trap = b.trap; cpu = b.cpu }

-- the first of them is run
first_of : (program : List Instr) (most i : ℕ) (c : Cpu) → i < most
    → exec_until program (most - i) c ≡ then_rest (exec_one program c).trap c (exec_one program c).cpu (exec_until program (most - (i + 1)) (exec_one program c).cpu)
unfolding exec_until
first_of program most i c lt =
    let e : most - i ≡ suc (most - (i + 1)) = omega (arith, lt) in
    ap (λ n. exec_until program n c) e

-- a plain one
pub left_later : (program : List Instr) (most i : ℕ) (old c d : Cpu) (t : Trap) → i < most → t ≡ (exec_one program c).trap → d ≡ (exec_one program c).cpu → t ≡ trap.Next
    → exec_until program most old ≡ later i (exec_until program (most - i) c) → exec_until program most old ≡ later (i + 1) (exec_until program (most - (i + 1)) d)
left_later program most i old c d t lt is cpu plain h =
    let rest = exec_until program (most - (i + 1)) in
    let next : (exec_one program c).trap ≡ trap.Next = sym is ∙ plain in
    let more : i + ((rest d).count + 1) ≡ (i + 1) + (rest d).count = omega arith in
    h ∙ ap (later i) (first_of program most i c lt ∙ ap (λ x. then_rest x c (exec_one program c).cpu (rest (exec_one program c).cpu)) next)
    ∙ ap (λ x. later i (then_rest trap.Next c x (rest x))) (sym cpu)
    ∙ ap (λ (n : ℕ). record { count = n; trap = (rest d).trap; cpu = (rest d).cpu }) more

-- one that isn't plain is the last
ended : (t : Trap) (c d : Cpu) (i : ℕ) (rest : Burst) → (t ≡ trap.Next → ⊥) → StaysUnlessRun t c d → later i (then_rest t c d rest) ≡ record { count = i; trap = t; cpu = d }
ended trap.Next c d i rest other stays = absurd (other refl)
ended (trap.Note value) c d i rest other stays = ap (λ (n : ℕ). record { count = n; trap = trap.Note value; cpu = d }) (add-zero i)
ended (trap.Call call) c d i rest other stays = ap (λ (n : ℕ). record { count = n; trap = trap.Call call; cpu = c }) (add-zero i) ∙ ap (λ x. record { count = i; trap = trap.Call call; cpu = x }) (sym stays)
ended (trap.Fault sig) c d i rest other stays = ap (λ (n : ℕ). record { count = n; trap = trap.Fault sig; cpu = c }) (add-zero i) ∙ ap (λ x. record { count = i; trap = trap.Fault sig; cpu = x }) (sym stays)

-- one that isn't plain ends the run
pub left_ends : (program : List Instr) (most i : ℕ) (old c d : Cpu) (t : Trap) → i < most → t ≡ (exec_one program c).trap → d ≡ (exec_one program c).cpu → (t ≡ trap.Next → ⊥)
    → StaysUnlessRun t c d
    → exec_until program most old ≡ later i (exec_until program (most - i) c) → exec_until program most old ≡ record { count = i; trap = t; cpu = d }
left_ends program most i old c d t lt is cpu other stays h =
    h ∙ ap (later i) (first_of program most i c lt ∙ ap (λ x. then_rest x c (exec_one program c).cpu (exec_until program (most - (i + 1)) (exec_one program c).cpu)) (sym is))
    ∙ ap (λ x. later i (then_rest t c x (exec_until program (most - (i + 1)) x))) (sym cpu)
    ∙ ended t c d i (exec_until program (most - (i + 1)) d) other stays

-- all were plain
pub left_none : (program : List Instr) (most i : ℕ) (old c : Cpu) → i ≡ most → exec_until program most old ≡ later i (exec_until program (most - i) c)
    → exec_until program most old ≡ record { count = most; trap = trap.Next; cpu = c }
unfolding exec_until
left_none program most i old c all h =
    let none : most - i ≡ 0 = omega (arith, all) in
    h ∙ ap (λ n. later i (exec_until program n c)) none ∙ ap (λ (n : ℕ). record { count = n; trap = trap.Next; cpu = c }) (add-zero i ∙ all)

-- ---- a call

-- where instructions end at a call, it is what comes next
stops_by : (program : List Instr) (c new : Cpu) (call : Call) (t : Trap) → (exec_one program c).trap ≡ t → (rest : Burst)
    → (rest.trap ≡ trap.Call call → (exec_one program rest.cpu).trap ≡ trap.Call call) → (then_rest t c new rest).trap ≡ trap.Call call
    → (exec_one program (then_rest t c new rest).cpu).trap ≡ trap.Call call
stops_by program c new call trap.Next is rest more e = more e
stops_by program c new call (trap.Note value) is rest more e = absurd (cc)
stops_by program c new call (trap.Call other) is rest more e = is ∙ e
stops_by program c new call (trap.Fault sig) is rest more e = absurd (cc)

pub stops_at : (program : List Instr) (call : Call) (most : ℕ) (c : Cpu) → (exec_until program most c).trap ≡ trap.Call call
    → (exec_one program (exec_until program most c).cpu).trap ≡ trap.Call call
unfolding exec_until
stops_at program call zero c e = absurd (cc)
stops_at program call (suc most) c e =
    stops_by program c (exec_one program c).cpu call (exec_one program c).trap refl (exec_until program most (exec_one program c).cpu) (stops_at program call most (exec_one program c).cpu) e
