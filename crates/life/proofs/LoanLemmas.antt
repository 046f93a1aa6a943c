-- What a process may change of itself.
use Rattle.std.proofs.Common.{◌≡◌, ℕ, refl, ap, ◌∙◌, subst, Some, List}
use Rattle.std.specs.Option.{IfSome, IsSome}
use Rattle.posix.specs.declared.instr.Trap.{Trap}
use Rattle.posix.specs.Common.{Process, Cpu, IsRising, lookup, changed, StaysUnlessRun, set_cpu, State, process, change, IsRegular}
use Rattle.posix.proofs.RegularLemmas.{Keeps, regular_change}
use Rattle.posix.proofs.TouchLemmas.{Unseen, touches_unseen}
use Rattle.pidalloc.specs.Rows.{Pids}
use Rattle.pidalloc.specs.Places.{Places}
use Rattle.pidset.specs.Numbers.{PidSetView}
use Rattle.proctable.specs.declared.own_part.OwnPart.{OwnPart}
use Rattle.proctable.specs.Records.{own_of, give_own}
use Rattle.jobs.proofs.LoanLemmas.{own_found, read_at, written_at}
use Rattle.life.specs.Machines.{IsMachine, Terminals}
use Rattle.life.specs.Rechecks.{rechecking}
use Rattle.life.proofs.CodeLemmas.{stays_by}
use Rattle.life.proofs.FunnelLemmas.{machine_changed}
use Rattle.life.proofs.RecheckLemmas.{listed_change}

-- it is nothing that the shape of a machine depends on
pub keeps_give_own : {now : ℕ} (o : OwnPart) → Keeps now (give_own o)
keeps_give_own o = record { pid = λ r. refl; parent = λ r. refl; group = λ r. refl; session = λ r. refl; zombie = λ r. refl; alarm = λ r h. h }

-- nor that a parent sees
pub unseen_give_own : (o : OwnPart) → Unseen (give_own o)
unseen_give_own o = record { pid = λ r. refl; parent = λ r. refl; group = λ r. refl; life = λ r. refl; news = λ r. refl }

-- the value of a loan, said of the existing record
pub own_is : (s : State) (p : ℕ) (o : OwnPart) (me : Process) → IfSome (process s p) (λ r. o ≡ own_of r) → process s p ≡ Some me → o ≡ own_of me
own_is s p o me h e = own_found s.processes p o me h e

-- ---- without the record at hand

-- a loan through which nothing was written
pub only_read : (s : State) (p : ℕ) (o : OwnPart) → IsRegular s → IfSome (process s p) (λ r. o ≡ own_of r) → change s p (give_own o) ≡ s
only_read s p o i h = ap (λ rs. record s { processes = rs }) (read_at s.processes i.rising p o (lookup p s.processes) refl h)

-- a loan through which was written what f does
pub was_written : (s : State) (p : ℕ) (o w : OwnPart) (f : Process → Process) → IsRegular s → IfSome (process s p) (λ r. o ≡ own_of r) → ((r : Process) → give_own w r ≡ f (give_own o r))
    → change s p (give_own w) ≡ change s p f
was_written s p o w f i h did = ap (λ rs. record s { processes = rs }) (written_at s.processes i.rising p o w f (lookup p s.processes) refl h did)

-- ---- an instruction

-- what was run is the processor of the existing process
pub cpu_ran : (rs : List Process) → IsRising rs → (p : ℕ) (o : OwnPart) → IfSome (lookup p rs) (λ r. o ≡ own_of r) → (f : Cpu → Cpu) (c : Cpu) → c ≡ f o.cpu → (me : Process) → lookup p rs ≡ Some me
    → changed p (give_own (record o { cpu = c })) rs ≡ changed p (set_cpu (f me.cpu)) rs
unfolding set_cpu
cpu_ran rs up p o h f c is me e =
    let same : o ≡ own_of me = own_found rs p o me h e in
    written_at rs up p o (record o { cpu = c }) (set_cpu c) (lookup p rs) refl h (λ r. refl) ∙ ap (λ x. changed p (set_cpu x) rs) (is ∙ ap (λ (w : OwnPart). f w.cpu) same)

-- one that leaves the processor leaves the processes
pub cpu_stays : (t : Trap) (rs : List Process) → IsRising rs → (p : ℕ) (o : OwnPart) (c : Cpu) → IfSome (lookup p rs) (λ r. o ≡ own_of r) → StaysUnlessRun t o.cpu c → StaysUnlessRun t rs (changed p (give_own (record o { cpu = c })) rs)
cpu_stays t rs up p o c h stays =
    let lent = λ (x : Cpu). changed p (give_own (record o { cpu = x })) rs in
    subst (λ xs. StaysUnlessRun t xs (lent c)) (read_at rs up p o (lookup p rs) refl h) (stays_by lent t o.cpu c stays)

-- ---- a machine

-- whatever was written through a loan, the machine keeps
pub machine_lent : {groups_at_risk : PidSetView} {terminals : Terminals} (s : State) (pids : Pids) (places : Places) (to_recheck after : PidSetView) (p : ℕ) (w : OwnPart)
    → IsSome (process s p) → IsMachine s pids places to_recheck groups_at_risk terminals → after.pids ≡ rechecking p s.order to_recheck.pids → after.room ≡ to_recheck.room
    → IsMachine (change s p (give_own w)) pids places after groups_at_risk terminals
machine_lent s pids places to_recheck after p w here i put room =
    machine_changed s pids places to_recheck after p (give_own w) (record { pid = λ r. refl; parent = λ r. refl; group = λ r. refl; session = λ r. refl }) (regular_change p (give_own w) s (keeps_give_own w) i.sound.regular) i room
    (listed_change s p (give_own w) to_recheck after i.listed (λ r. refl) (touches_unseen s p (give_own w) (unseen_give_own w)) here put room)
