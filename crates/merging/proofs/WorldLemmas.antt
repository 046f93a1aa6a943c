-- No event changes the world.
use Rattle.std.proofs.Common.{◌≡◌, ℕ, ◌+◌, Bool, true, false, refl, ap, ◌∙◌, List, [], ◌∷◌, take, Option, Some, None, ◌==◌}
use Rattle.posix.specs.declared.call.Call.{Call}
use Rattle.posix.specs.declared.call.Call.TheVariants.{Read, Write}
use Rattle.posix.specs.declared.event.Event.{Event}
use Rattle.posix.specs.declared.event.Event.TheVariants.{Hangup, Key, Step, Tick}
use Rattle.posix.specs.Common.{pass_time, Console, console_at, stop_process, end_process, end_with_heir, hang_up, heir_in, Outcome, Process, argument, clear_foregrounds, give_places, settle, State, current, exited, killed, hangup, hangup_on, happens, key, key_on, next, rotate, tick, finish_moved, bytes_in}
use Rattle.posix.proofs.AttemptLemmas.{Meets, Retries, Ways}
use Rattle.posix.proofs.CountLemmas.{by_next}
use Rattle.posix.proofs.DeliveryLemmas.{Deliveries, by_act, by_return, by_step}
use Rattle.posix.proofs.NoticeLemmas.{end_first, end_other, only_hung_up}
use Rattle.counting.specs.Courses.{course_from}

-- Its world is that of s.
abbrev Stays : State → State → Type 0
Stays s t = t.world ≡ s.world

-- So is the world of a resulting state.
abbrev StaysIn : State → Outcome → Type 0
StaysIn s o = Stays s o.state

-- ---- terminations and signals

-- A process terminates, and its children get a new parent.
world_ends : (s : State) (r : Process) (heir status : ℕ) → StaysIn s (end_with_heir s r heir status)
world_ends s r heir status = elim (r.pid == 1) as (λ b. (r.pid == 1) ≡ b → StaysIn s (end_with_heir s r heir status)) [
  | true ↦ λ t. ap (λ (n : State). n.world) (end_first s r heir status t)
  | false ↦ λ t. ap (λ (n : State). n.world) (end_other s r heir status t)
] refl

-- The terminal of its session is hung up before.
world_end : (s : State) (r : Process) (status : ℕ) → StaysIn s (end_process s r status)
unfolding end_process
world_end s r status = world_ends (hang_up s r) r (heir_in (hang_up s r).processes r.pid) status ∙ ap (λ (n : State). n.world) (only_hung_up s r)

-- A process is stopped.
world_stop : (s : State) (r : Process) (n : ℕ) → StaysIn s (stop_process s r n)
unfolding stop_process
world_stop s r n = refl

-- A signal that acts.
world_deliveries : (s : State) (r : Process) → Deliveries (StaysIn s) (Stays s) r
world_deliveries s r = record {
  kills = λ t n b sig. world_end t r (killed n) ∙ b;
  interrupts = λ a o h. h;
  enters = λ t signal address b comes. b;
  shows_handler = λ t signal address b comes. b;
  discards = λ t n b sig. b;
  stops = λ t n b sig stops. world_stop t r n ∙ b;
  takes = λ t n b. b;
  returns = λ t frame b is. b;
}

-- ---- calls

-- Bytes that are moved.
world_moved : (p : ℕ) (s t : State) (call : Call) (bytes : List ℕ) → Stays s t → Meets (StaysIn s) (Stays s) (finish_moved t p call bytes)
world_moved p s t call [] w = w
world_moved p s t call (x ∷ xs) w = w

-- The call that a process is blocked in, and each call.
world_retries : (s : State) (me : Process) → Retries (StaysIn s) (Stays s) s me
world_retries s me = record {
  refuses = λ call n fails few. refl;
  gives = λ call n is. refl;
  finds_nothing = λ call. refl;
  tells_end = λ call target options child status is. (refl, refl);
  tells_change = λ call target options child status is. (refl, refl);
  reads = λ c span line rest has fits is. world_moved me.pid s _ Read (take span.count line) refl;
  begins_again = λ n is. refl;
}

world_ways : (granted : Bool) (s : State) (me : Process) → Ways (StaysIn s) (Stays s) granted s me
world_ways granted s me = record {
  retries = world_retries s me;
  wants_memory = λ call wants none. refl;
  exits = world_end s me (exited (argument me 1));
  bears = λ n is. refl;
  yields = refl;
  sets_ids = λ call c is. refl;
  sends = λ call target value n is permitted. refl;
  sets_action = λ n g is. refl;
  sets_mask = λ what. refl;
  tells_pending = refl;
  returns = by_return _ (Stays s) me (world_deliveries s me) s refl;
  sets_alarm = λ n is. refl;
  executes = λ n program is. refl;
  moves = λ r group h is goes. refl;
  leads = λ alone. refl;
  acquires = λ k c is may. refl;
  sets_foreground = λ g is. refl;
  sets_tostop = λ b. refl;
  writes = λ span fits. world_moved me.pid s s Write (bytes_in span me.cpu.memory) refl;
  marks = λ mark. refl;
}

-- ---- events

-- A tick, with a process to rotate or without.
world_rotate : (s : State) (o : Option ℕ) → Stays s (rotate (pass_time s) o)
world_rotate s None = refl
world_rotate s (Some p) = refl

-- A key, on an existing console or another one.
world_key : (s : State) (console byte : ℕ) (o : Option Console) → Stays s (key_on s console byte o)
world_key s console byte None = refl
world_key s console byte (Some c) = refl

-- A hangup, on an existing console or another one.
world_hangup : (s : State) (console : ℕ) (o : Option Console) → Stays s (hangup_on s console o)
world_hangup s console None = refl
world_hangup s console (Some c) = refl

-- What happens at any event.
world_happens : (granted : Bool) (s : State) (x : Event) → StaysIn s (happens granted s x)
unfolding happens tick key hangup
world_happens granted s Step = by_step (StaysIn s) granted s refl (λ p r first is. by_act (StaysIn s) (Stays s) (Stays s) granted s r (record {
  here = refl;
  deliveries = world_deliveries s r;
  calls = world_ways granted s r;
  enters_call = λ b. refl;
  begins_again = λ t h. h;
  leaves_call = λ t h. h;
  waits = refl;
  runs = refl;
  notes = λ z is. refl;
}))
world_happens granted s Tick = world_rotate s (current s)
world_happens granted s (Key console byte) = world_key s console byte (console_at console s.consoles)
world_happens granted s (Hangup console) = world_hangup s console (console_at console s.consoles)

-- An event, also after a halt.
pub next_keeps_world : (granted : Bool) (s : State) (x : Event) → (next granted s x).state.world ≡ s.world
unfolding settle give_places clear_foregrounds
next_keeps_world granted s x = by_next (StaysIn s) granted s x (λ h. refl) (λ h. world_happens granted s x)

-- A run with all memory granted.
pub course_keeps_world : (k : ℕ) (s : State) (events : List Event) → (course_from k s events).last.world ≡ s.world
course_keeps_world k s [] = refl
course_keeps_world k s (x ∷ xs) = course_keeps_world (k + 1) (next true s x).state xs ∙ next_keeps_world true s x
