-- Instructions that are plain or give a note, one after another, are steps.
use Rattle.std.proofs.Common.{◌≡◌, ◌==◌, ℕ, zero, suc, ◌+◌, ◌-◌, ◌≤◌, length, Bool, true, false, cond, not, ◌||◌, refl, ap, sym, ◌∙◌, arith, subst, List, [], ◌∷◌, ◌++◌, append-nil, add-zero, Some, None, option_map, option_and_then, is_some}
use Rattle.std.specs.Prelude.{replicate}
use Rattle.std.specs.List.{list_any}
use Rattle.std.proofs.lemmas.List.{length-replicate, map-append}
use Rattle.posix.specs.declared.event.Event.{Event}
use Rattle.posix.specs.declared.instr.Instr.{Instr}
use Rattle.posix.specs.declared.instr.Trap.{Trap}
use Rattle.posix.specs.declared.instr.Trap.TheVariants as trap
use Rattle.posix.specs.declared.call.Call.{Call}
use Rattle.posix.specs.declared.event.Event.TheVariants.{Step}
use Rattle.posix.specs.declared.entry.Entry.{Entry}
use Rattle.posix.specs.declared.entry.Entry.TheVariants.{Noted}
use Rattle.posix.specs.Common.{Process, Cpu, is_zombie, Line, line, numbered, is_free, IsRising, at, bears, changed, State, is_in, has_place, change, current, process, current_process, exec_one, Outcome, silent, chosen, RunsFrom, attempt, IsStep, next, happens, step, begin_call, after_trap, code_of, set_cpu, settled, IsSettled, IsRegular}
use Rattle.calls.specs.Outcomes.{IsActing}
use Rattle.std.proofs.lemmas.Option.{same_Some}
use Rattle.posix.proofs.ResultLemmas.{none_from}
use Rattle.posix.proofs.TableLemmas.{pid_looked, rising_changed, changed_id}
use Rattle.posix.proofs.WakeLemmas.{next_settled}
use Rattle.posix.proofs.OrderLemmas.{first_in}
use Rattle.posix.proofs.TouchLemmas.{unseen_set_cpu}
use Rattle.posix.proofs.UnseenLemmas.{settle_unseen}
use Rattle.proctable.specs.declared.snapshot.Snapshot.{Snapshot}
use Rattle.proctable.specs.Records.{snapshot_of}
use Rattle.umach.specs.Bursts.{Burst, then_rest, exec_until}
use Rattle.umach.proofs.BurstLemmas.{stops_at}
use Rattle.life.specs.declared.noted_bursts.Note.{Note}
use Rattle.life.specs.NotedBursts.{StepsTaken, NotedBurst, then_note, most_notes, exec_with_notes}
use Rattle.kernel.specs.Counts.{after_taken}
use Rattle.kernel.specs.Steps.{Bursts, ComesTo, IsReadOfCurrent, note_line, noted_lines, runner, taken_at_once}
use Rattle.calls.proofs.CallLemmas.{changed_then}
use Rattle.calls.proofs.ChosenLemmas.{changed_there, act_runs}
use Rattle.kernel.proofs.EventLemmas.{replicate_joined}
use Rattle.kernel.proofs.RunLemmas.{runs_then}

-- p is current, and about to run an instruction
pub record IsReady (s : State) (p : ℕ) (me : Process) : Type 0 where
  pub going : s.halted ≡ false
  pub rising : IsRising s.processes
  pub settled : IsSettled s
  pub place : is_in p s.order ≡ true
  pub now : current s ≡ Some p
  pub here : process s p ≡ Some me
  pub living : is_zombie me.life ≡ false
  pub free : me.blocked ≡ None
  pub none : chosen me.life me.signals ≡ None

-- the current process is in the run queue, whichever of two equal states is looked at
pub placed_now : (s t : State) (p : ℕ) → t ≡ s → current s ≡ Some p → has_place t p ≡ true
placed_now s t p same now = ap (λ (u : State). is_in p u.order) same ∙ first_in p s.order now

-- what is read of the current process, in either of two equal states
pub read_of_current : (s t : State) (p : ℕ) (it : Snapshot) → t ≡ s → IsRegular s → current s ≡ Some p → Some it ≡ option_map snapshot_of (process s p) → IsReadOfCurrent t it
read_of_current s t p it same regular now read =
    let place = first_in p s.order now in
    let placed = regular.placed p place in
    let named : it.pid ≡ p = ap (λ (f : Snapshot). f.pid) (same_Some _ _ (read ∙ ap (option_map snapshot_of) placed.found)) ∙ pid_looked p s.processes placed.what placed.found in
    subst (λ (u : State). IsReadOfCurrent u it) (sym same)
    (subst (λ n. IsActing s n → current s ≡ Some n → Some it ≡ option_map snapshot_of (process s n) → IsReadOfCurrent s it) named (λ acting now read. record { acting = acting; now = now; read = read })
    (record { placed = placed; place = place }) now read)

-- it is the current process
is_current : (s : State) (p : ℕ) (me : Process) → IsReady s p me → current_process s ≡ Some me
is_current s p me r = ap (option_and_then (process s)) r.now ∙ r.here

-- with another processor it is ready, too, if nothing is left to settle
stays_ready : (s : State) (p : ℕ) (me : Process) (c : Cpu) → IsReady s p me → IsSettled (change s p (set_cpu c)) → IsReady (change s p (set_cpu c)) p (set_cpu c me)
unfolding set_cpu
stays_ready s p me c r settled = record {
  going = r.going;
  rising = rising_changed p (set_cpu c) (λ r. refl) s.processes r.rising;
  settled = settled;
  place = r.place;
  now = r.now;
  here = changed_there p (set_cpu c) (λ r. refl) s.processes me r.here;
  living = r.living;
  free = r.free;
  none = r.none;
}

-- the processor that was set last is there
last_cpu : (s : State) (p : ℕ) (c d : Cpu) → change (change s p (set_cpu c)) p (set_cpu d) ≡ change s p (set_cpu d)
unfolding set_cpu
last_cpu s p c d = ap (λ rs. record s { processes = rs }) (changed_then p (set_cpu d) (set_cpu c) (λ r. refl) s.processes)

-- the processor that was there leaves the machine
same_cpu : (s : State) (p : ℕ) (me : Process) → IsReady s p me → change s p (set_cpu me.cpu) ≡ s
unfolding set_cpu
same_cpu s p me r = ap (λ rs. record s { processes = rs }) (changed_id p (set_cpu me.cpu) s.processes r.rising me r.here refl)

-- the processor that was set is the process's, whose code stays
goes_on : {A : Type 0} (f : List Instr → Cpu → A) (s : State) (p : ℕ) (me : Process) (c : Cpu) → f (code_of (change s p (set_cpu c)) (set_cpu c me)) (set_cpu c me).cpu ≡ f (code_of s me) c
unfolding set_cpu
goes_on f s p me c = refl

-- ---- one instruction

-- an instruction that changes only the processor puts no process in the run queue; no more belongs to the event
ran_plain : (s : State) (p : ℕ) (me : Process) (es : List Entry) → IsReady s p me → let c = (exec_one (code_of s me) me.cpu).cpu in
    after_trap true s me c (exec_one (code_of s me) me.cpu).trap ≡ record { state = change s p (set_cpu c); entries = es } → IsStep s Step es (change s p (set_cpu c))
unfolding next happens step set_cpu
ran_plain s p me es r ran =
    let c = (exec_one (code_of s me) me.cpu).cpu in
    let t = change s p (set_cpu c) in
    let went : happens true s Step ≡ record { state = t; entries = es } = ap (step true s) (is_current s p me r) ∙ act_runs true s me r.free r.none ∙ ran in
    record {
      granted = true;
      comes = ap (λ b. cond {A = Outcome} b (silent s) (settled (happens true s Step))) r.going ∙ ap settled went
          ∙ ap (λ (u : State). record { state = u; entries = es }) (settle_unseen s p (set_cpu c) (unseen_set_cpu c) (λ r. refl) r.rising r.settled r.place);
    }

-- ---- steps, one after another

-- The steps after number before, up to number last, lead from old to new and show these notes of p.
record Leads (old : State) (before last p : ℕ) (notes : List Note) (new : State) : Type 0 where
  pub on : before ≤ last
  pub steps : Bursts old before last p notes new

-- none
none_leads : (s : State) (before last p : ℕ) → last ≡ before → IsSettled s → Leads s before last p [] s
none_leads s before last p at settled =
    let zero : last - before ≡ 0 = omega (arith, at) in
    record {
      on = omega (arith, at);
      steps = record { runs = subst (λ (n : ℕ). RunsFrom (before + 1) s (replicate n Step) [] s) (sym zero) (refl, refl); births = refl; ticks = refl; settled = settled };
    }

-- one
one_leads : (s t : State) (before last p : ℕ) (es : List Entry) (ns : List Note) → last ≡ before + 1 → noted_lines p ns ≡ numbered (before + 1) es → s.halted ≡ false → t.births ≡ s.births → t.ticks ≡ s.ticks → IsStep s Step es t
    → Leads s before last p ns t
one_leads s t before last p es ns at lines going births ticks step =
    let one : 1 ≡ last - before = omega (arith, at) in
    record {
      on = omega (arith, at);
      steps = record {
        runs = subst (λ (n : ℕ). RunsFrom (before + 1) s (replicate n Step) (noted_lines p ns) t) one (t, es, [], step, lines ∙ sym (append-nil (numbered (before + 1) es)), (refl, refl));
        births = births;
        ticks = ticks;
        settled = next_settled s t Step es step going;
      };
    }

-- some, and then others
lead_then : (s t u : State) (a b c p : ℕ) (ns ms : List Note) → Leads s a b p ns t → Leads t b c p ms u → Leads s a c p (ns ++ ms) u
lead_then s t u a b c p ns ms f g =
    let at : b + 1 ≡ (a + 1) + length (replicate (b - a) Step) = omega (arith, length-replicate (b - a) Step, f.on) in
    let count : (b - a) + (c - b) ≡ c - a = omega (arith, f.on, g.on) in
    record {
      on = omega (arith, f.on, g.on);
      steps = record {
        runs = subst (λ (ls : List Line). RunsFrom (a + 1) s (replicate (c - a) Step) ls u) (sym (map-append (note_line p) ns ms))
            (subst (λ (xs : List Event). RunsFrom (a + 1) s xs (noted_lines p ns ++ noted_lines p ms) u) (replicate_joined (b - a) (c - b) (c - a) Step count)
            (runs_then (replicate (b - a) Step) (replicate (c - b) Step) (a + 1) s t u (noted_lines p ns) (noted_lines p ms) f.steps.runs (subst (λ (n : ℕ). RunsFrom n t (replicate (c - b) Step) (noted_lines p ms) u) at g.steps.runs)));
        births = g.steps.births ∙ f.steps.births;
        ticks = g.steps.ticks ∙ f.steps.ticks;
        settled = g.steps.settled;
      };
    }

-- ---- instructions up to one that isn't plain

-- the number of the last step, if those up to number n were plain: a note is one more, and a call and a fault are left
-- to a step of their own
abbrev last_step : ℕ → Trap → ℕ
last_step n (trap.Note z) = n + 1
last_step n t = n

-- what it shows
abbrev noted : ℕ → Trap → List Note
noted n (trap.Note z) = record { step = n + 1; value = z } ∷ []
noted n t = []

-- so the instructions of a burst are steps
abbrev BurstLeads : State → ℕ → ℕ → Burst → Type 0
BurstLeads s before p b = Leads s before (last_step (before + b.count) b.trap) p (noted (before + b.count) b.trap) (change s p (set_cpu b.cpu))

-- none was run
none_ran : (s : State) (before last p : ℕ) (me : Process) → last ≡ before → IsReady s p me → Leads s before last p [] (change s p (set_cpu me.cpu))
none_ran s before last p me at r = subst (Leads s before last p []) (sym (same_cpu s p me r)) (none_leads s before last p at r.settled)

-- the outcome of the first instruction, and then the rest
by_trap : (s : State) (before p : ℕ) (me : Process) → IsReady s p me → (t : Trap) → (exec_one (code_of s me) me.cpu).trap ≡ t → (rest : Burst) → let new = change s p (set_cpu (exec_one (code_of s me) me.cpu).cpu) in
    (IsReady new p (set_cpu (exec_one (code_of s me) me.cpu).cpu me) → BurstLeads new (before + 1) p rest) → BurstLeads s before p (then_rest t me.cpu (exec_one (code_of s me) me.cpu).cpu rest)
unfolding after_trap
by_trap s before p me r trap.Next is rest more =
    let c = (exec_one (code_of s me) me.cpu).cpu in
    let new = change s p (set_cpu c) in
    let step : IsStep s Step [] new = ran_plain s p me [] r (rw (is, pid_looked p s.processes me r.here) refl) in
    let number : (before + 1) + rest.count ≡ before + (rest.count + 1) = omega arith in
    subst (λ (n : ℕ). Leads s before (last_step n rest.trap) p (noted n rest.trap) (change s p (set_cpu rest.cpu))) number
    (subst (Leads s before (last_step ((before + 1) + rest.count) rest.trap) p (noted ((before + 1) + rest.count) rest.trap)) (last_cpu s p c rest.cpu)
    (lead_then s new _ before (before + 1) _ p [] _ (one_leads s new before (before + 1) p [] [] refl refl r.going refl refl step) (more (stays_ready s p me c r (next_settled s new Step [] step r.going)))))
by_trap s before p me r (trap.Note z) is rest more =
    let new = change s p (set_cpu (exec_one (code_of s me) me.cpu).cpu) in
    let number : (before + 0) + 1 ≡ before + 1 = omega arith in
    one_leads s new before ((before + 0) + 1) p (Noted p z ∷ []) _ number (ap (λ (n : ℕ). line n (Noted p z) ∷ []) number) r.going refl refl (ran_plain s p me (Noted p z ∷ []) r (rw (is, pid_looked p s.processes me r.here) refl))
by_trap s before p me r t is rest more = none_ran s before (before + 0) p me (add-zero before) r

-- instructions that are run while each is plain, and perhaps one that gives a note, are these events
burst_leads : (most before : ℕ) (s : State) (p : ℕ) (me : Process) → IsReady s p me → BurstLeads s before p (exec_until (code_of s me) most me.cpu)
unfolding exec_until
burst_leads zero before s p me r = none_ran s before (before + 0) p me (add-zero before) r
burst_leads (suc most) before s p me r =
    let c = (exec_one (code_of s me) me.cpu).cpu in
    let new = change s p (set_cpu c) in
    by_trap s before p me r (exec_one (code_of s me) me.cpu).trap refl (exec_until (code_of s me) most c)
    (λ ready. subst (BurstLeads new (before + 1) p) (goes_on (λ program d. exec_until program most d) s p me c) (burst_leads most (before + 1) new p (set_cpu c me) ready))

-- ---- what the code read and did

-- a current process in no call and with no signal chosen is about to run an instruction
pub record Readies (s : State) (p : ℕ) : Type 0 where
  pub me : Process
  pub ready : IsReady s p me

pub readies : (s : State) (p : ℕ) (f : Snapshot) → s.halted ≡ false → IsSettled s → IsRegular s → current s ≡ Some p → Some f ≡ option_map snapshot_of (process s p) → is_some f.chosen ≡ false
    → is_some f.blocked ≡ false → Readies s p
readies s p f going settled regular now read none free =
    let place = first_in p s.order now in
    let placed = regular.placed p place in
    let me = placed.what in
    let told : Some f ≡ Some (snapshot_of me) = read ∙ ap (option_map snapshot_of) placed.found in
    let is : f ≡ snapshot_of me = cc in
    record {
      me = me;
      ready = record {
        going = going;
        rising = regular.rising;
        settled = settled;
        place = place;
        now = now;
        here = placed.found;
        living = placed.living;
        free = ap (λ (g : Snapshot). g.blocked) (sym is) ∙ none_from f.blocked free;
        none = ap (λ (g : Snapshot). g.chosen) (sym is) ∙ none_from f.chosen none;
      };
    }

-- ---- with their notes

-- instructions that are plain or give a note are these steps
abbrev NotesLead : State → ℕ → ℕ → NotedBurst → Type 0
NotesLead s before p b = Leads s before b.taken.last p b.taken.notes (change s p (set_cpu b.cpu))

-- those up to one that isn't plain, and what follows it
by_burst : (s : State) (before p n : ℕ) (t : Trap) (c : Cpu) (rest : NotedBurst) → Leads s before (last_step n t) p (noted n t) (change s p (set_cpu c))
    → (IsSettled (change s p (set_cpu c)) → NotesLead (change s p (set_cpu c)) (n + 1) p rest) → NotesLead s before p (then_note n t c rest)
by_burst s before p n (trap.Note z) c rest first more =
    subst (Leads s before rest.taken.last p (record { step = n + 1; value = z } ∷ rest.taken.notes)) (last_cpu s p c rest.cpu)
    (lead_then s (change s p (set_cpu c)) _ before (n + 1) rest.taken.last p (record { step = n + 1; value = z } ∷ []) rest.taken.notes first (more first.steps.settled))
by_burst s before p n t c rest first more = first

notes_lead : (room before last : ℕ) (s : State) (p : ℕ) (me : Process) → IsReady s p me → NotesLead s before p (exec_with_notes (code_of s me) room before last me.cpu)
unfolding exec_with_notes
notes_lead zero before last s p me r = none_ran s before before p me refl r
notes_lead (suc room) before last s p me r =
    let b = exec_until (code_of s me) (last - before) me.cpu in
    let done = (before + b.count) + 1 in
    by_burst s before p (before + b.count) b.trap b.cpu (exec_with_notes (code_of s me) room done last b.cpu) (burst_leads (last - before) before s p me r)
    (λ settled. subst (NotesLead (change s p (set_cpu b.cpu)) done p) (goes_on (λ program c. exec_with_notes program room done last c) s p me b.cpu)
    (notes_lead room done last (change s p (set_cpu b.cpu)) p (set_cpu b.cpu me) (stays_ready s p me b.cpu r settled)))

-- ---- the call after a burst

-- a process that is ready and comes to a call begins it by the next step
comes : (s : State) (p : ℕ) (me : Process) (call : Call) → IsReady s p me → (exec_one (code_of s me) me.cpu).trap ≡ trap.Call call → ComesTo s p call
unfolding step after_trap
comes s p me call r is =
    record {
      going = r.going;
      acting = record { placed = record { what = me; found = r.here; living = r.living }; place = r.place };
      none_chosen = λ m e. let same : me ≡ m = cc in subst (λ (x : Process). chosen x.life x.signals ≡ None) same r.none;
      now = is_current s p me r;
      free = r.free;
      next = is;
      begins = λ granted m e.
          let same : me ≡ m = cc in
          subst (λ (x : Process). step granted s (current_process s) ≡ begin_call s x (attempt granted s x call)) same
          (ap (step granted s) (is_current s p me r) ∙ act_runs granted s me r.free r.none ∙ ap (after_trap granted s me (exec_one (code_of s me) me.cpu).cpu) is);
    }

-- if such instructions end at a call
then_calls : (program : List Instr) (call : Call) (done : ℕ) (t : Trap) (c : Cpu) (rest : NotedBurst) → (t ≡ trap.Call call → (exec_one program c).trap ≡ trap.Call call)
    → (rest.taken.trap ≡ trap.Call call → (exec_one program rest.cpu).trap ≡ trap.Call call) → (then_note done t c rest).taken.trap ≡ trap.Call call
    → (exec_one program (then_note done t c rest).cpu).trap ≡ trap.Call call
then_calls program call done (trap.Note z) c rest here more e = more e
then_calls program call done (trap.Call other) c rest here more e = here e
then_calls program call done t c rest here more e = absurd (cc)

notes_call : (program : List Instr) (call : Call) (room before last : ℕ) (c : Cpu) → (exec_with_notes program room before last c).taken.trap ≡ trap.Call call
    → (exec_one program (exec_with_notes program room before last c).cpu).trap ≡ trap.Call call
unfolding exec_with_notes
notes_call program call zero before last c e = absurd (cc)
notes_call program call (suc room) before last c e =
    let b = exec_until program (last - before) c in
    let done = (before + b.count) + 1 in
    then_calls program call (before + b.count) b.trap b.cpu (exec_with_notes program room done last b.cpu) (stops_at program call (last - before) c) (notes_call program call room done last b.cpu) e

-- ---- what the code found

-- the steps, that they are those of the definitions, and the call after them
pub record Shows (s : State) (p before last : ℕ) (taken : StepsTaken) (new : State) : Type 0 where
  pub runs : Bursts s before taken.last p taken.notes new
  pub exact : taken_at_once s before last (current_process s) ≡ taken
  pub whose : p ≡ runner (current_process s)
  pub call : (call : Call) → taken.trap ≡ trap.Call call → ComesTo new p call
  pub numbers : (n : ℕ) → is_free new.processes n ≡ is_free s.processes n
  pub state : new ≡ after_taken s before last (current_process s)

-- another processor leaves the IDs in use as they are
borne_kept : (n p : ℕ) (c : Cpu) (rs : List Process) → list_any (bears n) (changed p (set_cpu c) rs) ≡ list_any (bears n) rs
unfolding changed set_cpu
borne_kept n p c [] = refl
borne_kept n p c (r ∷ rs) = ap (λ b. b || list_any (bears n) (changed p (set_cpu c) rs)) (one (r.pid == p)) ∙ ap (λ b. bears n r || b) (borne_kept n p c rs)
  where
    one : (b : Bool) → bears n (cond b (set_cpu c r) r) ≡ bears n r
    one true = refl
    one false = refl

free_kept : (n p : ℕ) (c : Cpu) (rs : List Process) → is_free (changed p (set_cpu c) rs) n ≡ is_free rs n
unfolding is_free
free_kept n p c rs = ap not (borne_kept n p c rs)

-- the whole outcome of an instruction list is that of the steps
shows_by : (s : State) (p : ℕ) (me : Process) (before last : ℕ) → IsReady s p me → Shows s p before last (exec_with_notes (code_of s me) most_notes before last me.cpu).taken
    (change s p (set_cpu (exec_with_notes (code_of s me) most_notes before last me.cpu).cpu))
unfolding set_cpu
shows_by s p me before last r =
    let b = exec_with_notes (code_of s me) most_notes before last me.cpu in
    let ran = notes_lead most_notes before last s p me r in
    let free : is_some me.blocked ≡ false = ap is_some r.free in
    let none : is_some (chosen me.life me.signals) ≡ false = ap is_some r.none in
    record {
      runs = ran.steps;
      exact = ap (taken_at_once s before last) (is_current s p me r) ∙ rw (none, free) refl;
      whose = sym (ap runner (is_current s p me r) ∙ rw (none, free) (pid_looked p s.processes me r.here));
      call = λ call e. comes (change s p (set_cpu b.cpu)) p (set_cpu b.cpu me) call (stays_ready s p me b.cpu r ran.steps.settled) (notes_call (code_of s me) call most_notes before last me.cpu e);
      numbers = λ n. free_kept n p b.cpu s.processes;
      state = sym (ap (after_taken s before last) (is_current s p me r) ∙ rw (none, free) (ap (λ n. change s n (set_cpu b.cpu)) (pid_looked p s.processes me r.here)));
    }

pub shows : (s x : State) (p : ℕ) → Readies s p → x ≡ s → (before last : ℕ) (taken : StepsTaken) (new : State)
    → ((r : Process) → process x p ≡ Some r → (exec_with_notes (code_of x r) most_notes before last r.cpu).taken ≡ taken)
    → ((r : Process) → process x p ≡ Some r → new ≡ change x p (set_cpu (exec_with_notes (code_of x r) most_notes before last r.cpu).cpu)) → Shows s p before last taken new
shows s x p r same before last taken new taken_is state =
    let me = r.me in
    let e = ap (λ (y : State). process y p) same ∙ r.ready.here in
    subst (λ (y : State). ((exec_with_notes (code_of y me) most_notes before last me.cpu).taken ≡ taken) → new ≡ change y p (set_cpu (exec_with_notes (code_of y me) most_notes before last me.cpu).cpu) → Shows s p before last taken new) (sym same)
    (λ taken_here state_here. subst (λ (t : StepsTaken). Shows s p before last t new) taken_here (subst (Shows s p before last _) (sym state_here) (shows_by s p me before last r.ready)))
    (taken_is me e) (state me e)
