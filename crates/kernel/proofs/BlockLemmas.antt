-- A process that has just found that it has to wait for a child, and is blocked in that wait, isn't runnable.
use Rattle.std.proofs.Common.{◌≡◌, ℕ, true, false, not, refl, ap, sym, ◌∙◌, Some, None, Option}
use Rattle.std.proofs.Math.Bool.{and-false}
use Rattle.posix.specs.declared.process.Blocked.{Blocked}
use Rattle.posix.specs.declared.process.Blocked.TheVariants as blocked
use Rattle.posix.specs.declared.waits.WaitCall.{WaitCall}
use Rattle.posix.specs.Common.{Process, is_running, is_in_read, State, change, process, has_place, Block, wait_by, chosen, attempt_again, can_act, can_go_on, is_block, enter}
use Rattle.life.specs.Rechecks.{is_in_wait}
use Rattle.life.specs.Consoles.{reads}
use Rattle.posix.proofs.SeeLemmas.{can_act_alike}
use Rattle.posix.proofs.TouchLemmas.{Unseen, sees_unseen}
use Rattle.posix.proofs.WaitLemmas.{by_wait}
use Rattle.calls.proofs.ChosenLemmas.{changed_there, none_chosen}

-- ---- a wait blocks in a wait

wait_blocks : (s : State) (me : Process) (call : WaitCall) (b : Blocked) → wait_by call s me ≡ Block b → b ≡ blocked.Wait call
wait_blocks s me call b =
    by_wait (λ a. a ≡ Block b → b ≡ blocked.Wait call) call s me (λ why e. absurd (cc)) (λ e. absurd (cc)) (λ e. cc)
    (λ target options child status e. (λ k. absurd (cc), λ k. absurd (cc))) (λ target options child status e. (λ k. absurd (cc), λ k. absurd (cc)))

-- ---- the process that is blocked

unseen_enter : (b : Blocked) → Unseen (enter b)
unfolding enter
unseen_enter b = record { pid = λ r. refl; parent = λ r. refl; group = λ r. refl; life = λ r. refl; news = λ r. refl }

-- a process that has to wait in its call, with no signal, isn't runnable
pub wait_rests : (s : State) (me : Process) → chosen me.life me.signals ≡ None → can_go_on s me me.blocked ≡ false → can_act s me ≡ false
unfolding can_act
wait_rests s me none waits = rw (none_chosen me.life me.signals none, waits, none, and-false) (and-false (is_running me.life))

-- nor is one that waits for a child
waiter_rests : (s : State) (me : Process) (call : WaitCall) → chosen me.life me.signals ≡ None → is_block (wait_by call s me) ≡ true → can_act s (enter (blocked.Wait call) me) ≡ false
unfolding enter attempt_again wait_by
waiter_rests s me call none waits = wait_rests s (enter (blocked.Wait call) me) none (ap not waits)

-- nor once it is blocked
pub blocked_rests : (s : State) (p : ℕ) (me : Process) (call : WaitCall) (b : Blocked) → process s p ≡ Some me → chosen me.life me.signals ≡ None → wait_by call s me ≡ Block b
    → (r : Process) → process (change s p (enter b)) p ≡ Some r → can_act (change s p (enter b)) r ≡ false
blocked_rests s p me call b here none waits r e =
    let same : b ≡ blocked.Wait call = wait_blocks s me call b waits in
    let there = changed_there p (enter b) (unseen_enter b).pid s.processes me here in
    let is : enter b me ≡ r = cc in
    let t = change s p (enter b) in
    let still : can_act s (enter b me) ≡ false = ap (λ c. can_act s (enter c me)) same ∙ waiter_rests s me call none (ap is_block waits) in
    ap (can_act t) (sym is) ∙ can_act_alike s t (enter b me) (enter b me) (record { parent = (enter b me).parent; is = refl }) refl (sees_unseen p (enter b me).pid (enter b) (unseen_enter b) s.processes) ∙ still

-- nor does it read
pub blocked_unread : (s : State) (p : ℕ) (me : Process) (call : WaitCall) (b : Blocked) → process s p ≡ Some me → wait_by call s me ≡ Block b → (r : Process) → process (change s p (enter b)) p ≡ Some r → is_in_read r.blocked ≡ false
unfolding enter
blocked_unread s p me call b here waits r e =
    let there = changed_there p (enter b) (unseen_enter b).pid s.processes me here in
    let is : enter b me ≡ r = cc in
    ap (λ (r : Process). is_in_read r.blocked) (sym is) ∙ ap (λ c. is_in_read (Some c)) (wait_blocks s me call b waits)

-- ---- the process that waits on

-- nor does one that waits for a child read
pub wait_unread : (b : Option Blocked) → is_in_wait b ≡ true → is_in_read b ≡ false
wait_unread (Some blocked.Read) e = absurd (cc)
wait_unread b e = refl

-- ---- a process in the run queue

-- waits to read from nothing
pub placed_unread : (s : State) (p : ℕ) → has_place s p ≡ true → None ≡ reads s p
placed_unread s p place = rw place refl
