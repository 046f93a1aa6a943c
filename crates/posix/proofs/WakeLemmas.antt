-- What an event comes to, and that nothing is left to settle then: who can act has a place.
use Rattle.std.proofs.Common.{◌≡◌, ℕ, ◌+◌, Bool, true, false, refl, ap, sym, ◌∙◌, arith, subst, List, [], ◌∷◌, filter, Some}
use Rattle.posix.specs.declared.event.Event.{Event}
use Rattle.posix.specs.declared.entry.Entry.{Entry}
use Rattle.posix.specs.Common.{Process, lookup, pids, State, World, boot, is_in, Outcome, Line, RunsFrom, give_places, clear_foregrounds, settle, wakes, can_act, IsSettled, NoWakeIsLost, IsStep, next, happens, act}
use Rattle.posix.proofs.MemberLemmas.{in_append}
use Rattle.posix.proofs.TableLemmas.{pid_looked}
use Rattle.posix.proofs.SeeLemmas.{can_act_order}
use Rattle.posix.proofs.CountLemmas.{next_halted}
use Rattle.posix.proofs.FreshLemmas.{fresh_cleared, first_fresh}

-- ---- what an event comes to

-- an event before a halt is settled, which shows nothing
pub next_awake : (granted : Bool) (s : State) (event : Event) → s.halted ≡ false → next granted s event ≡ record { state = settle (happens granted s event).state; entries = (happens granted s event).entries }
unfolding next
next_awake granted s event e = rw e refl

-- after a halt nothing changes
pub nothing_after_halt : (old new : State) (event : Event) (entries : List Entry) → IsStep old event entries new → old.halted ≡ true → new ≡ old
nothing_after_halt old new event entries h halted = ap (λ (o : Outcome). o.state) (sym h.comes ∙ next_halted h.granted old event halted)

-- ---- runs

-- what each step keeps, a run keeps
pub run_keeps : (P : State → Type 0) → ((old new : State) (event : Event) (entries : List Entry) → IsStep old event entries new → P old → P new)
    → (k : ℕ) (old last : State) (events : List Event) (lines : List Line) → RunsFrom k old events lines last → P old → P last
run_keeps P keeps k old last [] lines run h = subst P (sym run.1) h
run_keeps P keeps k old last (event ∷ events) lines run h = run_keeps P keeps (k + 1) run.0 last events run.2 run.5 (keeps old run.0 event run.1 run.3 h)

-- ---- no wake is lost

-- who passes a test is among the numbers of those that do
among : (t : Process → Bool) (rs : List Process) (p : ℕ) (r : Process) → lookup p rs ≡ Some r → t r ≡ true → is_in p (pids (filter t rs)) ≡ true
unfolding lookup is_in
among t [] p r e k = absurd (cc)
among t (x ∷ xs) p r e k = grind (arith, k, among t xs p r)

-- who can act is given a place
places_given : (s : State) (p : ℕ) (r : Process) → lookup p s.processes ≡ Some r → can_act s r ≡ true → is_in p (give_places s).order ≡ true
unfolding give_places
places_given s p r e c = in_append p s.order _ ∙ grind (arith, pid_looked p s.processes r e, c, among (wakes s) s.processes p r e)

-- to settle leaves nothing to settle
pub is_settled : (s : State) → IsSettled (settle s)
unfolding settle give_places
is_settled s =
    let t = clear_foregrounds s in
    record { awake = λ p r e c. places_given t p r e (sym (can_act_order t _ r) ∙ c); fresh = fresh_cleared s }

-- after an event nothing is left
pub next_settled : (old new : State) (event : Event) (entries : List Entry) → IsStep old event entries new → old.halted ≡ false → IsSettled new
next_settled old new event entries h going =
    let is : settle (happens h.granted old event).state ≡ new = ap (λ (o : Outcome). o.state) (sym (next_awake h.granted old event going) ∙ h.comes) in
    subst IsSettled is (is_settled (happens h.granted old event).state)

-- nor is anything where nothing was before, after a halt too
pub settled_stays : (old new : State) (event : Event) (entries : List Entry) → IsStep old event entries new → IsSettled old → IsSettled new
settled_stays old new event entries h settled = elim old.halted as (λ b. old.halted ≡ b → IsSettled new) [
  | true ↦ λ t. subst IsSettled (sym (nothing_after_halt old new event entries h t)) settled
  | false ↦ λ t. next_settled old new event entries h t
] refl

-- after an event who can act has a place
pub act_has_place : (old new : State) (event : Event) (entries : List Entry) → IsStep old event entries new → old.halted ≡ false → NoWakeIsLost new
act_has_place old new event entries h awake = (next_settled old new event entries h awake).awake

-- at the start
pub first_has_place : (w : World) → NoWakeIsLost (boot w)
unfolding lookup is_in
first_has_place w p r e act = grind (arith, e)

-- and nothing is left to settle
pub first_settled : (w : World) → IsSettled (boot w)
first_settled w = record { awake = first_has_place w; fresh = first_fresh w }
