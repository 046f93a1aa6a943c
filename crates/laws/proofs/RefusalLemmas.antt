-- What the entries of an event tell: what a refused call changes, and that who is born has a free number.
use Rattle.std.proofs.Common.{rules, ◌≡◌, ◌≢◌, ℕ, zero, suc, Bool, true, false, refl, ap, sym, ◌∙◌, arith, subst, List, [], ◌∷◌, ◌++◌, Option, Some, None, ◌==◌, Contains, pos, negsuc, ℤ}
use Rattle.std.proofs.lemmas.Bool.{cond_both}
use Rattle.posix.specs.Common.{finish_moved, Process, Credentials, IsRising, State, current, next_pid, Outcome, Attempted, Done, silent, finish, finished, refusal, is_interrupted, end_process, gives_nothing, call_of, interruption, stop_process, attempt, attempt_again, IsSettled, settle, IsStep, next, happens, act, is_free}
use Rattle.std.specs.List.{AllByRecursion}
use Rattle.posix.specs.declared.call.Call.{Call}
use Rattle.posix.specs.declared.call.Call.TheVariants.{Fork}
use Rattle.posix.specs.declared.event.Event.{Event}
use Rattle.posix.specs.declared.event.Event.TheVariants.{Step}
use Rattle.posix.specs.declared.errno.Errno.TheVariants.{EINTR, EAGAIN}
use Rattle.posix.specs.declared.entry.Entry.{Entry}
use Rattle.posix.specs.declared.entry.Entry.TheVariants.{Called, NoMemory}
use Rattle.posix.specs.declared.process.Action.{Action}
use Rattle.posix.specs.declared.process.Blocked.{Blocked}
use Rattle.posix.specs.declared.waits.WaitCall.{WaitCall}
use Rattle.posix.specs.declared.waits.WaitCall.TheVariants as wait
use Rattle.posix.proofs.TableLemmas.{pid_looked}
use Rattle.posix.proofs.OrderLemmas.{first_in}
use Rattle.laws.proofs.WokenLemmas.{by_event}
use Rattle.posix.proofs.TouchLemmas.{Unseen}
use Rattle.posix.proofs.UnseenLemmas.{settle_unseen}
use Rattle.posix.proofs.NextLemmas.{new_number}
use Rattle.posix.proofs.AttemptLemmas.{Meets, Retries, Ways, Gives, SetsIds, Sends, by_again, by_attempt}
use Rattle.posix.proofs.DeliveryLemmas.{Deliveries, by_return, by_act, by_step}
use Rattle.laws.specs.Lives.{is_fork, born_by}

-- ---- what entries tell of the states

-- which negative results count, and what holds where there was no memory
record Terms : Type 1 where
  counts : ℕ → Type 0
  wanting : Type 0

-- a fork gives a number that is free in the state before
abbrev GivesFree : State → Call → ℕ → Type 0
GivesFree s Fork n = is_free s.processes n ≡ true
GivesFree s _ n = Unit {0}

-- of what no fork does nothing is asked
not_forked : (s : State) (P : Call → Type 0) → (P Fork → ⊥) → (call : Call) (n : ℕ) → P call → GivesFree s call n
not_forked s P never Fork n is = absurd (never is)
not_forked s P never call n is = tt

-- where the entry tells that a call of p was refused, by a result that counts, this is all that changed; and who is born has
-- a free number
abbrev Explained : Terms → State → ℕ → State → Entry → Type 0
Explained C s p new (Called q call (pos n)) = GivesFree s call n
Explained C s p new (Called q call (negsuc n)) = C.counts n → (q ≡ p) × (new ≡ finish s p ((0, negsuc n) ∷ []))
Explained C s p new (NoMemory q call) = C.wanting × (q ≡ p) × (new ≡ finish s p ((0, refusal EAGAIN) ∷ []))
Explained C s p new _ = Unit {0}

-- all negative results; and there is no want of memory
abbrev Any : Terms
Any = record { counts = λ n. Unit {0}; wanting = ⊥ }

-- all but -4, which a call gives that a signal interrupts; memory is wanting where it isn't granted
abbrev NotInterrupted : Bool → Terms
NotInterrupted granted = record { counts = λ n. n ≢ 3; wanting = granted ≡ false }

-- the same of all entries of an outcome
abbrev ExplainedBy : Terms → State → ℕ → Outcome → Type 0
ExplainedBy C s p o = AllByRecursion (Explained C s p o.state) o.entries

-- the same of an attempt that is done
abbrev ExplainedIf : Terms → State → ℕ → Attempted → Type 0
ExplainedIf C s p = Meets (ExplainedBy C s p) (λ t. Unit {0})

-- bytes that are moved
explained_moved : (C : Terms) (s t : State) (p : ℕ) (call : Call) (bytes : List ℕ) → is_fork call ≡ false → ExplainedIf C s p (finish_moved t p call bytes)
explained_moved C s t p call [] other = (not_forked s (λ call. is_fork call ≡ false) (λ e. cc) call 0 other, tt)
explained_moved C s t p call (b ∷ bs) other = (tt, tt)

-- ---- calls

explained_retries : (C : Terms) (s : State) (me : Process) → Retries (ExplainedBy C s me.pid) (λ t. Unit {0}) s me
explained_retries C s me =
    let gives = λ (call : Call) (n : ℕ) (is : Gives s me call n). not_forked s (λ call. Gives s me call n) (λ is. is) call n is in
    search (rules, gives, nothing, explained_moved)
  where
    nothing : (call : WaitCall) → ExplainedIf C s me.pid (gives_nothing s me.pid call)
    nothing wait.Waitpid = (tt, tt)
    nothing wait.Waitid = (tt, tt)

-- an end refuses nothing
explained_end : (C : Terms) (s t : State) (r : Process) (status : ℕ) → ExplainedBy C s r.pid (end_process t r status)
unfolding end_process
explained_end C s t r status = cond_both (r.pid == 1) _ _ (ExplainedBy C s r.pid) (λ e. (tt, (tt, tt))) (λ e. (tt, tt))

-- a call that is interrupted gives -4
explained_interrupted : (granted : Bool) (s : State) (p : ℕ) (b : Option Blocked) (a : Action) (o : Outcome) → ExplainedBy (NotInterrupted granted) s p o
    → ExplainedBy (NotInterrupted granted) s p (record { state = o.state; entries = interruption p b a ++ o.entries })
explained_interrupted granted s p None a o h = h
explained_interrupted granted s p (Some b) a o h =
    cond_both (is_interrupted (Some b) a) (Called p (call_of b) (refusal EINTR) ∷ []) [] (λ (es : List Entry). ExplainedBy (NotInterrupted granted) s p (record { state = o.state; entries = es ++ o.entries }))
    (λ t. (λ other. absurd (other refl), h)) (λ t. h)

-- nor does a signal that acts
explained_deliveries : (granted : Bool) (s : State) (r : Process) → Deliveries (ExplainedBy (NotInterrupted granted) s r.pid) (λ t. Unit {0}) r
unfolding stop_process
explained_deliveries granted s r = search (rules, explained_end, explained_interrupted)

explained_ways : (granted : Bool) (s : State) (me : Process) → Ways (ExplainedBy (NotInterrupted granted) s me.pid) (λ t. Unit {0}) granted s me
explained_ways granted s me =
    let bears = λ (n : ℕ) (is : next_pid s ≡ Some n). (new_number s n is).free in
    let sets_ids = λ (call : Call) (c : Credentials) (is : SetsIds me call c). not_forked s (λ call. SetsIds me call c) (λ is. is) call 0 is in
    let sends = λ (call : Call) (value : ℤ) (is : Sends me call value). not_forked s (λ call. Sends me call value) (λ is. is) call 0 is in
    let returns = by_return (ExplainedBy (NotInterrupted granted) s me.pid) (λ t. Unit {0}) me (explained_deliveries granted s me) s tt in
    search (rules, explained_retries, explained_end, explained_moved, bears, sets_ids, sends, returns)

-- ---- an entry among others

-- what all entries have, each has
all_contains : (P : Entry → Type 0) (es : List Entry) → AllByRecursion P es → (e : Entry) → Contains es e → P e
all_contains P [] h e c = let l = c.1 in absurd (omega arith)
all_contains P (x ∷ xs) h e (zero, l, is) = subst P is h.0
all_contains P (x ∷ xs) h e (suc k, l, is) = all_contains P xs h.1 e (k, omega arith, is)

-- ---- an attempt

-- a negative result of an attempt
pub attempt_refused : (granted : Bool) (s : State) (me : Process) (call : Call) (o : Outcome) → attempt granted s me call ≡ Done o
    → (p n : ℕ) (called : Call) → n ≢ 3 → Contains o.entries (Called p called (negsuc n)) → o.state ≡ finish s me.pid ((0, negsuc n) ∷ [])
attempt_refused granted s me call o is p n called other c =
    (all_contains (Explained (NotInterrupted granted) s me.pid o.state) o.entries (subst (ExplainedIf (NotInterrupted granted) s me.pid) is (by_attempt (ExplainedBy (NotInterrupted granted) s me.pid) (λ t. Unit {0}) granted s me (explained_ways granted s me) call)) (Called p called (negsuc n)) c other).1

-- no memory in an attempt
pub attempt_no_memory : (granted : Bool) (s : State) (me : Process) (call : Call) (o : Outcome) → attempt granted s me call ≡ Done o
    → (p : ℕ) (called : Call) → Contains o.entries (NoMemory p called) → o.state ≡ finish s me.pid ((0, refusal EAGAIN) ∷ [])
attempt_no_memory granted s me call o is p called c =
    (all_contains (Explained (NotInterrupted granted) s me.pid o.state) o.entries (subst (ExplainedIf (NotInterrupted granted) s me.pid) is (by_attempt (ExplainedBy (NotInterrupted granted) s me.pid) (λ t. Unit {0}) granted s me (explained_ways granted s me) call)) (NoMemory p called) c).2

-- a negative result of a repeated attempt
pub again_refused : (s : State) (me : Process) (b : Blocked) (o : Outcome) → attempt_again s me b ≡ Done o
    → (p n : ℕ) (called : Call) → Contains o.entries (Called p called (negsuc n)) → o.state ≡ finish s me.pid ((0, negsuc n) ∷ [])
again_refused s me b o is p n called c =
    (all_contains (Explained Any s me.pid o.state) o.entries (subst (ExplainedIf Any s me.pid) is (by_again (ExplainedBy Any s me.pid) (λ t. Unit {0}) s me (explained_retries Any s me) b)) (Called p called (negsuc n)) c tt).1

-- no memory in a repeated attempt
pub again_no_memory : (s : State) (me : Process) (b : Blocked) (o : Outcome) → attempt_again s me b ≡ Done o
    → (p : ℕ) (called : Call) → Contains o.entries (NoMemory p called) → o.state ≡ finish s me.pid ((0, refusal EAGAIN) ∷ [])
again_no_memory s me b o is p called c =
    (all_contains (Explained Any s me.pid o.state) o.entries (subst (ExplainedIf Any s me.pid) is (by_again (ExplainedBy Any s me.pid) (λ t. Unit {0}) s me (explained_retries Any s me) b)) (NoMemory p called) c).2

-- ---- an event

-- a turn
explained_act : (granted : Bool) (s : State) (r : Process) → ExplainedBy (NotInterrupted granted) s r.pid (act granted s r)
explained_act granted s r = by_act (ExplainedBy (NotInterrupted granted) s r.pid) (λ t. Unit {0}) (λ t. Unit {0}) granted s r (search (rules, explained_deliveries, explained_ways))

-- what an entry tells of the current process
record Told (granted : Bool) (s new : State) (e : Entry) : Type 0 where
  who : ℕ
  first : current s ≡ Some who
  tells : Explained (NotInterrupted granted) s who new e

-- the same of all entries of an outcome
abbrev ToldBy : Bool → State → Outcome → Type 0
ToldBy granted s o = (e : Entry) → Contains o.entries e → Told granted s o.state e

-- there is none
told_none : (granted : Bool) (s t : State) → ToldBy granted s (silent t)
told_none granted s t e c = let l = c.1 in absurd (omega arith)

-- an event
told_happens : (granted : Bool) (s : State) (event : Event) → ToldBy granted s (happens granted s event)
unfolding happens
told_happens granted s Step = by_step (ToldBy granted s) granted s (told_none granted s s) (λ p r first f e c. record {
  who = r.pid;
  first = first ∙ ap Some (sym (pid_looked p s.processes r f));
  tells = all_contains (Explained (NotInterrupted granted) s r.pid (act granted s r).state) (act granted s r).entries (explained_act granted s r) e c;
})
told_happens granted s event = told_none granted s _

-- the state before all are asked, and what an entry tells of it
record Unsettled (granted : Bool) (s new : State) (e : Entry) : Type 0 where
  mid : State
  is : new ≡ settle mid
  tells : Told granted s mid e

-- an entry that an event shows
unsettled : (old new : State) (event : Event) (entries : List Entry) (h : IsStep old event entries new) (e : Entry) → Contains entries e → Unsettled h.granted old new e
unsettled old new event entries h e =
    by_event (λ o. Contains o.entries e → Unsettled h.granted old o.state e) old new event entries h (λ t c. let l = c.1 in absurd (omega arith))
    (λ t c. record { mid = (happens h.granted old event).state; is = refl; tells = told_happens h.granted old event e c })

-- where memory was wanting, it wasn't granted
pub memory_refused : (granted : Bool) (s : State) (event : Event) (p : ℕ) (call : Call) → Contains (next granted s event).entries (NoMemory p call) → granted ≡ false
memory_refused granted s event p call c = (unsettled s (next granted s event).state event (next granted s event).entries (record { granted = granted; comes = refl }) (NoMemory p call) c).tells.tells.0

-- The number of each birth is borne by no record before it, as that of a process, a group or a session.
pub birth_free : (old new : State) (event : Event) (entries : List Entry) → IsStep old event entries new → (e : Entry) (n : ℕ) → Contains entries e → born_by e ≡ Some n → is_free old.processes n ≡ true
birth_free old new event entries h e n c born = let u = unsettled old new event entries h e c in by u.tells.who u.mid e u.tells.tells born
  where
    by : (p : ℕ) (mid : State) (e : Entry) → Explained (NotInterrupted h.granted) old p mid e → born_by e ≡ Some n → is_free old.processes n ≡ true
    by p mid (Called q Fork (pos zero)) t b = absurd (cc)
    by p mid (Called q Fork (pos (suc m))) t b = let same : suc m ≡ n = cc in subst (λ k. is_free old.processes k ≡ true) same t
    by p mid e t b = absurd (cc)

-- ---- a call that fails wakes no process

-- a call that is finished changes nothing that others see
unseen_finished : (ws : List (ℕ × ℤ)) → Unseen (finished ws)
unfolding finished
unseen_finished ws = record { pid = λ r. refl; parent = λ r. refl; group = λ r. refl; life = λ r. refl; news = λ r. refl }

-- to settle does nothing then, where the call is the current process's
finished_alone : {granted : Bool} {e : Entry} (old new : State) (p : ℕ) (ws : List (ℕ × ℤ)) → IsRising old.processes → IsSettled old → (u : Unsettled granted old new e)
    → (p ≡ u.tells.who) × (u.mid ≡ finish old u.tells.who ws) → new ≡ finish old p ws
unfolding finished
finished_alone old new p ws up still u t =
    u.is ∙ ap settle (t.1 ∙ ap (λ m. finish old m ws) (sym t.0)) ∙ settle_unseen old p (finished ws) (unseen_finished ws) (λ r. refl) up still (first_in p old.order (u.tells.first ∙ ap Some (sym t.0)))

-- a negative result of an event
pub event_refused : (old new : State) (event : Event) (entries : List Entry) → IsStep old event entries new → IsRising old.processes → IsSettled old
    → (p n : ℕ) (call : Call) → n ≢ 3 → Contains entries (Called p call (negsuc n)) → new ≡ finish old p ((0, negsuc n) ∷ [])
event_refused old new event entries h up still p n call other c =
    let u = unsettled old new event entries h (Called p call (negsuc n)) c in
    finished_alone old new p ((0, negsuc n) ∷ []) up still u (u.tells.tells other)

-- no memory in an event
pub event_no_memory : (old new : State) (event : Event) (entries : List Entry) → IsStep old event entries new → IsRising old.processes → IsSettled old
    → (p : ℕ) (call : Call) → Contains entries (NoMemory p call) → new ≡ finish old p ((0, refusal EAGAIN) ∷ [])
event_no_memory old new event entries h up still p call c =
    let u = unsettled old new event entries h (NoMemory p call) c in
    finished_alone old new p ((0, refusal EAGAIN) ∷ []) up still u (u.tells.tells.1, u.tells.tells.2)
