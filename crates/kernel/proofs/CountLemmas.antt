-- How many slots an event reads: its calls, and what settles it.
use Rattle.std.proofs.Common.{◌≡◌, ◌≢◌, ℕ, ◌+◌, ◌≤◌, suc, true, false, cond, subst, ◌||◌, refl, ap, sym, ◌∙◌, arith, List, [], ◌∷◌, length, count_by, Some, None, Option, option_map, filter, slice_get, ◌==◌, is_some, zero, not, ◌&&◌, ◌⊎◌, inl, inr}
use Rattle.std.specs.Option.{IfSome, option_map_or}
use Rattle.std.proofs.lemmas.Bool.{eqb-true, ne_eqb, both_ways}
use Rattle.std.proofs.lemmas.List.Sums.{length-filter}
use Rattle.posix.specs.Common.{Process, State, current_process, Console, key_signal, IsRegular, chosen, exec_one, code_of, wait_in, wait_by, is_block, members_in}
use Rattle.life.specs.declared.consoles.Unchecked.{Unchecked}
use Rattle.life.specs.declared.consoles.Unchecked.TheVariants.{Nothing, In, All}
use Rattle.life.specs.Foregrounds.{is_unchecked}
use Rattle.life.specs.Machines.{MachineView}
use Rattle.calls.specs.Outcomes.{AreFew, CostsAtMost, CostsWithRechecks, changes_caller_alone, slots_of_brief}
use Rattle.calls.specs.Counts.{slots_of_checking, slots_of_rechecks}
use Rattle.kernel.specs.Counts.{IsAtRest, ReadsAtMost, slots_of_own_step, slots_of_acting, slots_of_blocking, slots_of_event, slots_of_step, slots_of_steps, slots_of_taken, slots_of_trap, after_taken, is_kill, delivers_nothing}
use Rattle.kernel.specs.Steps.{changes_one, enters, is_followed_by_step, is_held, next_changes_one, next_enters, taken_at_once}
use Rattle.life.specs.NotedBursts.{StepsTaken}
use Rattle.posix.specs.declared.event.Event.TheVariants.{Step}
use Rattle.posix.specs.declared.call.Call.{Call}
use Rattle.posix.specs.declared.instr.Trap.TheVariants as trap
use Rattle.std.proofs.lemmas.Option.{same_Some}
use Rattle.calls.proofs.BriefLemmas.{brief_more}
use Rattle.std.proofs.Math.Bool.{and-false}
use Rattle.posix.specs.declared.waits.WaitCall.{WaitCall}
use Rattle.posix.specs.declared.process.Blocked.{Blocked}
use Rattle.posix.specs.declared.process.Blocked.TheVariants as blocked
use Rattle.posix.specs.declared.call.Call.TheVariants.{Waitpid, Waitid, Kill, Sigqueue}
use Rattle.life.specs.Consoles.{foreground_members, slots_of_key, slots_of_signal_key}

-- ---- calls with a bound on the slots that they read, besides those that change only their caller

-- they are waits, and sends, which needn't wait
pub brief_call : (call : Call) (me : Process) (holds : ℕ → Type 0) → (is_some (wait_in call) ≡ true → holds 6) → ((call ≡ Kill) ⊎ (call ≡ Sigqueue) → ⊥) → IfSome (slots_of_brief call me) holds
brief_call Waitpid me holds waits done = waits refl
brief_call Waitid me holds waits done = waits refl
brief_call Kill me holds waits done = absurd (done (inl refl))
brief_call Sigqueue me holds waits done = absurd (done (inr refl))
brief_call call me holds waits done = tt

-- what a wait reads, and a process that is blocked in it
pub wait_reads : (call : Call) (me : Process) → is_some (wait_in call) ≡ true → (slots_of_brief call me ≡ Some 6) × (slots_of_blocking call ≡ 1)
wait_reads Waitpid me e = (refl, refl)
wait_reads Waitid me e = (refl, refl)
wait_reads call me e = absurd (cc)

-- a signal that is chosen for a process that has to wait is delivered
pub nothing_delivered : (s : State) (me : Process) (call : WaitCall) (sig : ℕ) → chosen me.life me.signals ≡ Some sig → is_block (wait_by call s me) ≡ true → delivers_nothing s call me ≡ true → ⊥
nothing_delivered s me call sig takes waits nothing =
    let no : (not (is_kill (Some sig)) && false) ≡ true = subst (λ b. (not (is_kill (Some sig)) && (false || not b)) ≡ true) waits (subst (λ o. (not (is_kill o) && (not (is_some o) || not (is_block (wait_by call s me)))) ≡ true) takes nothing) in
    both_ways _ (and-false (not (is_kill (Some sig)))) no

-- so a process that is blocked in a call is counted if it waits, and no signal is delivered
pub acting_blocked : (s : State) (me : Process) (b : Blocked) (holds : ℕ → Type 0) → ((call : WaitCall) → b ≡ blocked.Wait call → delivers_nothing s call me ≡ true → holds 6) → IfSome (slots_of_acting s me (Some b)) holds
acting_blocked s me (blocked.Wait call) holds h = elim (delivers_nothing s call me) as (λ b. delivers_nothing s call me ≡ b → IfSome (cond b (Some 6) None) holds) [ true ↦ λ e. h call refl e | false ↦ λ e. tt ] refl
acting_blocked s me b holds h = tt

-- ---- a key

-- a key reads one slot for each member of the foreground process group, at most
pub key_slots : (console byte : ℕ) (m : MachineView) → slots_of_key console byte m ≤ length (foreground_members console m.state)
key_slots zero byte m = omega arith
key_slots (suc k) byte m = by (key_signal byte) (slice_get m.state.consoles k)
  where
    by : (sig : Option ℕ) (o : Option Console) → slots_of_signal_key sig o m.state.processes ≤ length (option_map_or (λ c. members_in c.foreground m.state.processes) o [])
    by None o = omega arith
    by (Some n) None = omega arith
    by (Some n) (Some c) = omega arith

-- ---- one more slot

-- if there is a current process, whichever it is
pub counts_one : (o : Option Process) {m n : ℕ} → m ≤ n → IfSome o (λ me. m ≤ n)
counts_one None h = tt
counts_one (Some me) h = h

-- ---- foregrounds

-- none is looked at if all are checked
pub none_unchecked : (cs : List Console) → count_by (is_unchecked Nothing) cs ≡ 0
none_unchecked [] = refl
none_unchecked (c ∷ cs) = none_unchecked cs

-- a session has one console
abbrev AreApart : List Console → Type 0
AreApart cs = (i j : ℕ) (c d : Console) → slice_get cs i ≡ Some c → slice_get cs j ≡ Some d → c.session ≢ 0 → c.session ≡ d.session → i ≡ j

-- and no second one
one_terminal : (session : ℕ) (cs : List Console) → session ≢ 0 → AreApart cs → length (filter (λ c. c.session == session) cs) ≤ 1
one_terminal session [] some apart = omega arith
one_terminal session (c ∷ cs) some apart = elim (c.session == session) as (λ b. (c.session == session) ≡ b → length (cond b (c ∷ filter (λ c. c.session == session) cs) (filter (λ c. c.session == session) cs)) ≤ 1) [
  | true ↦ λ e.
      let own = eqb-true c.session session e in
      let none = others cs (λ j d at same. let no = apart 0 (suc j) c d refl at (λ zero. some (sym own ∙ zero)) (own ∙ sym same) in omega (arith, no)) in
      omega (arith, none)
  | false ↦ λ e. one_terminal session cs some (λ i j c d a b k e. let both = apart (suc i) (suc j) c d a b k e in omega (arith, both))
] refl
  where
    others : (ds : List Console) → ((j : ℕ) (d : Console) → slice_get ds j ≡ Some d → d.session ≢ session) → length (filter (λ c. c.session == session) ds) ≡ 0
    others [] none = refl
    others (d ∷ ds) none = rw (ne_eqb d.session session (none 0 d refl)) (others ds (λ j d at. none (suc j) d at))

-- no more consoles are unchecked
few_unchecked : (s : State) → IsRegular s → (u : Unchecked) → AreFew u → count_by (is_unchecked u) s.consoles ≤ slots_of_checking u
few_unchecked s i Nothing few = let none = none_unchecked s.consoles in omega (arith, none)
few_unchecked s i (In session) few =
    let one = subst (λ b. length (filter (λ c. b || c.session == session) s.consoles) ≤ 1) (sym (ne_eqb session 0 few)) (one_terminal session s.consoles few i.consoles.apart) in
    let same = length-filter (is_unchecked (In session)) s.consoles in
    omega (arith, one, same)
few_unchecked s i All few = absurd few

-- what settling reads after what is brief
pub settling_brief : (most : ℕ) (old new : MachineView) → IsAtRest old → CostsWithRechecks most old new → ReadsAtMost most old new
settling_brief most old new rest h =
    let few = few_unchecked old.state rest.regular new.foregrounds_unchecked h.unchecked in
    let consoles = ap (count_by (is_unchecked new.foregrounds_unchecked)) h.consoles in
    let read = h.reads in
    omega (arith, few, consoles, read)

-- and after a step that leaves nothing to settle
pub settling_none : (n : ℕ) (old new : MachineView) → IsAtRest old → CostsAtMost n old new → ReadsAtMost n old new
unfolding slots_of_rechecks
settling_none n old new rest costs = rw (costs.to_recheck ∙ rest.none, costs.foregrounds_unchecked ∙ rest.checked, none_unchecked new.state.consoles) (let read = costs.visits in omega (arith, read))

-- and if so many slots are read to recheck, and no foreground process group is unchecked
pub settling_rechecks : (most k : ℕ) (old new : MachineView) → new.foregrounds_unchecked ≡ Nothing → slots_of_rechecks new.state.processes None new.to_recheck ≤ k → new.visits + k ≤ old.visits + most → ReadsAtMost most old new
settling_rechecks most k old new checked few read =
    let none = ap (λ u. count_by (is_unchecked u) new.state.consoles) checked ∙ none_unchecked new.state.consoles in
    omega (arith, few, read, none)

-- a step that changes one process, or enters a handler, costs as much
pub own_costs : (s : State) (o : Option Process) (old new : MachineView) → (next_changes_one s o ≡ true → CostsAtMost 2 old new) → (next_enters s o ≡ true → CostsAtMost 3 old new) → IfSome (slots_of_own_step s o) (λ n. CostsAtMost n old new)
own_costs s o old new one enters = elim (next_changes_one s o) as (λ b. (b ≡ true → CostsAtMost 2 old new) → IfSome (cond b (Some 3) (cond (next_enters s o) (Some 4) None)) (λ n. CostsAtMost n old new)) [
  | true ↦ λ h. more 2 3 (omega arith) (h refl)
  | false ↦ λ h. elim (next_enters s o) as (λ b. (b ≡ true → CostsAtMost 3 old new) → IfSome (cond b (Some 4) None) (λ n. CostsAtMost n old new)) [ true ↦ λ k. more 3 4 (omega arith) (k refl) | false ↦ λ k. tt ] enters
] one
  where
    more : (m n : ℕ) → m ≤ n → CostsAtMost m old new → CostsAtMost n old new
    more m n few costs = record { visits = let read = costs.visits in omega (arith, read, few); to_recheck = costs.to_recheck; foregrounds_unchecked = costs.foregrounds_unchecked }

-- so after a step
pub step_reads : (old new : MachineView) (o : Option Process) → IsAtRest old → IfSome (slots_of_own_step old.state o) (λ n. CostsAtMost n old new)
    → ((me : Process) → o ≡ Some me → IfSome (slots_of_acting old.state me me.blocked) (λ n. CostsWithRechecks (n + 1) old new)) → IfSome (slots_of_step old.state o) (λ n. ReadsAtMost n old new)
step_reads old new None rest costs brief = settling_none 3 old new rest costs
step_reads old new (Some me) rest costs brief = by (slots_of_own_step old.state (Some me)) costs
  where
    acts : (a : Option ℕ) → IfSome a (λ n. CostsWithRechecks (n + 1) old new) → IfSome (option_map (λ n. n + 1) a) (λ n. ReadsAtMost n old new)
    acts None h = tt
    acts (Some n) h = let all = settling_brief (n + 1) old new rest h in omega (arith, all)

    by : (own : Option ℕ) → IfSome own (λ n. CostsAtMost n old new) → IfSome (cond (is_some own) own (option_map (λ n. n + 1) (slots_of_acting old.state me me.blocked))) (λ n. ReadsAtMost n old new)
    by None h = acts (slots_of_acting old.state me me.blocked) (brief me refl)
    by (Some n) h = settling_none n old new rest h

-- so if the step begins this call
pub call_reads : (call : Call) (old new : MachineView) (me : Process) → IsAtRest old → chosen me.life me.signals ≡ None → me.blocked ≡ None → (exec_one (code_of old.state me) me.cpu).trap ≡ trap.Call call
    → (changes_caller_alone call ≡ true → CostsAtMost 1 old new) → IfSome (slots_of_brief call me) (λ n. CostsWithRechecks (n + slots_of_blocking call) old new) → IfSome (slots_of_step old.state (Some me)) (λ n. ReadsAtMost n old new)
call_reads call old new me rest none free is own brief = step_reads old new (Some me) rest costs (λ m e. subst (λ m. IfSome (slots_of_acting old.state m m.blocked) (λ n. CostsWithRechecks (n + 1) old new)) (same_Some _ _ e) acts)
  where
    held : is_held me ≡ false
    held = ap (λ o. is_some o || is_some me.blocked) none ∙ ap is_some free

    costs : IfSome (slots_of_own_step old.state (Some me)) (λ n. CostsAtMost n old new)
    costs =
        let t = (exec_one (code_of old.state me) me.cpu).trap in
        subst (λ b. IfSome (cond (cond b false (changes_one t)) (Some 3) (cond (cond b false (enters me t)) (Some 4) None)) (λ n. CostsAtMost n old new)) (sym held)
        (subst (λ t. IfSome (cond (changes_one t) (Some 3) (cond (enters me t) (Some 4) None)) (λ n. CostsAtMost n old new)) (sym is)
        (elim (changes_caller_alone call) as (λ b. (b ≡ true → CostsAtMost 1 old new) → IfSome (cond b (Some 3) None) (λ n. CostsAtMost n old new)) [
          | true ↦ λ h. let one = h refl in record { visits = let few = one.visits in omega (arith, few); to_recheck = one.to_recheck; foregrounds_unchecked = one.foregrounds_unchecked }
          | false ↦ λ h. tt
        ] own))

    more : (o : Option ℕ) → IfSome o (λ n. CostsWithRechecks (n + slots_of_blocking call) old new) → IfSome (option_map (λ n. n + slots_of_blocking call + 1) o) (λ n. CostsWithRechecks (n + 1) old new)
    more None h = tt
    more (Some n) h = brief_more (n + slots_of_blocking call) _ old new (omega arith) h

    acts : IfSome (slots_of_acting old.state me me.blocked) (λ n. CostsWithRechecks (n + 1) old new)
    acts =
        subst (λ o. IfSome (slots_of_acting old.state me o) (λ n. CostsWithRechecks (n + 1) old new)) (sym free)
        (subst (λ o. IfSome (cond (is_some o) None (slots_of_trap me (exec_one (code_of old.state me) me.cpu).trap)) (λ n. CostsWithRechecks (n + 1) old new)) (sym none)
        (subst (λ t. IfSome (slots_of_trap me t) (λ n. CostsWithRechecks (n + 1) old new)) (sym is) (more (slots_of_brief call me) brief)))

-- ---- steps that are taken at once

-- they read two slots, and those of the step that follows them
pub steps_read : (before last old mid new : ℕ) (s t : State) (taken : StepsTaken) → s.halted ≡ false → taken_at_once s before last (current_process s) ≡ taken → t ≡ after_taken s before last (current_process s) → mid ≤ old + 2
    → (is_followed_by_step before taken.last taken.trap ≡ true → IfSome (slots_of_event Step t) (λ n. new ≤ mid + n)) → (is_followed_by_step before taken.last taken.trap ≡ false → new ≡ mid) → IfSome (slots_of_steps before last s) (λ n. new ≤ old + n)
steps_read before last old mid new s t taken going exact is few follows alone =
    subst (λ b. IfSome (cond b (slots_of_event Step s) (slots_of_taken before (taken_at_once s before last (current_process s)) (after_taken s before last (current_process s)))) (λ n. new ≤ old + n)) (sym going)
    (subst (λ k. IfSome (slots_of_taken before k (after_taken s before last (current_process s))) (λ n. new ≤ old + n)) (sym exact)
    (subst (λ u. IfSome (slots_of_taken before taken u) (λ n. new ≤ old + n)) is
    (elim (is_followed_by_step before taken.last taken.trap) as (λ b. (b ≡ true → IfSome (slots_of_event Step t) (λ n. new ≤ mid + n)) → (b ≡ false → new ≡ mid) → IfSome (cond b (option_map (λ n. n + 2) (slots_of_event Step t)) (Some 2)) (λ n. new ≤ old + n)) [
      | true ↦ λ h k. more (slots_of_event Step t) (h refl)
      | false ↦ λ h k. let same = k refl in omega (arith, same, few)
    ] follows alone)))
  where
    more : (o : Option ℕ) → IfSome o (λ n. new ≤ mid + n) → IfSome (option_map (λ n. n + 2) o) (λ n. new ≤ old + n)
    more None h = tt
    more (Some n) h = omega (arith, h, few)
