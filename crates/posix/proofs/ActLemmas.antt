-- What a process does as its turn comes changes its own place alone, and raises the count of births by one at most.
use Rattle.std.proofs.Common.{◌≡◌, ◌≤◌, ℕ, ◌+◌, Bool, true, false, refl, ap, sym, ◌∙◌, arith, subst, List, [], ◌∷◌, ◌++◌, take, ◌==◌, inl, inr, ◌⊎◌}
use Rattle.std.proofs.lemmas.Bool.{eqb-true}
use Rattle.posix.specs.declared.call.Call.{Call}
use Rattle.posix.specs.declared.call.Call.TheVariants.{Read, Write}
use Rattle.posix.specs.Common.{exited, killed, Process, argument, State, without, heir_in, end_with_heir, hang_up, end_process, stop_process, bytes_in, finish_moved, act}
use Rattle.posix.proofs.NoticeLemmas.{end_first, end_other, only_hung_up}
use Rattle.posix.proofs.AttemptLemmas.{Meets, Retries, Ways}
use Rattle.posix.proofs.DeliveryLemmas.{Deliveries, by_return, by_act}

-- nothing happens to the order, or p loses its place, or p goes last
abbrev pub Turned : ℕ → List ℕ → List ℕ → Type 0
Turned p old new = (new ≡ old) ⊎ ((new ≡ without p old) ⊎ (new ≡ without p old ++ p ∷ []))

-- the order turned by p alone, one birth happened at most, and no time passed
pub record Acted (p : ℕ) (old new : State) : Type 0 where
  pub births : new.births ≤ old.births + 1
  pub ticks : new.ticks ≡ old.ticks
  pub order : Turned p old.order new.order

-- nothing of that changed
stays : (p : ℕ) (s t : State) → t.births ≡ s.births → t.ticks ≡ s.ticks → t.order ≡ s.order → Acted p s t
stays p s t b k o = record { births = omega (arith, b); ticks = k; order = inl o }

-- p lost its place
leaves : (p : ℕ) (s t : State) → t.births ≡ s.births → t.ticks ≡ s.ticks → t.order ≡ without p s.order → Acted p s t
leaves p s t b k o = record { births = omega (arith, b); ticks = k; order = inr (inl o) }

-- where nothing of that changed before
from : (p : ℕ) (s t u : State) → t.births ≡ s.births → t.ticks ≡ s.ticks → t.order ≡ s.order → Acted p t u → Acted p s u
from p s t u b k o h = record { births = omega (arith, b, h.births); ticks = h.ticks ∙ k; order = subst (λ (l : List ℕ). Turned p l u.order) o h.order }

-- ---- ends and signals

-- who ends loses its place
acted_ends : (s : State) (r : Process) (heir status : ℕ) → Acted r.pid s (end_with_heir s r heir status).state
acted_ends s r heir status = elim (r.pid == 1) as (λ b. (r.pid == 1) ≡ b → Acted r.pid s (end_with_heir s r heir status).state) [
  | true ↦ λ t.
      let is = end_first s r heir status t in
      leaves r.pid s _ (ap (λ (n : State). n.births) is) (ap (λ (n : State). n.ticks) is) (ap (λ (n : State). n.order) is ∙ ap (λ n. without n s.order) (sym (eqb-true r.pid 1 t)))
  | false ↦ λ t.
      let is = end_other s r heir status t in
      leaves r.pid s _ (ap (λ (n : State). n.births) is) (ap (λ (n : State). n.ticks) is) (ap (λ (n : State). n.order) is)
] refl

-- its session's terminal is hung up before
acted_end : (s : State) (r : Process) (status : ℕ) → Acted r.pid s (end_process s r status).state
unfolding end_process
acted_end s r status =
    let only = only_hung_up s r in
    from r.pid s (hang_up s r) _ (ap (λ (n : State). n.births) only) (ap (λ (n : State). n.ticks) only) (ap (λ (n : State). n.order) only) (acted_ends (hang_up s r) r (heir_in (hang_up s r).processes r.pid) status)

-- who is stopped loses its place
acted_stop : (s : State) (r : Process) (n : ℕ) → Acted r.pid s (stop_process s r n).state
unfolding stop_process
acted_stop s r n = leaves r.pid s _ refl refl refl

-- births, ticks and order are those of s
record IsStill (s t : State) : Type 0 where
  births : t.births ≡ s.births
  ticks : t.ticks ≡ s.ticks
  order : t.order ≡ s.order

-- a signal that acts leaves the place, or r loses it
acted_deliveries : (s : State) (r : Process) → Deliveries (λ o. Acted r.pid s o.state) (IsStill s) r
acted_deliveries s r = record {
  kills = λ t n b sig. from r.pid s t _ b.births b.ticks b.order (acted_end t r (killed n));
  interrupts = λ a o h. h;
  enters = λ t signal address b comes. record { births = b.births; ticks = b.ticks; order = b.order };
  shows_handler = λ t signal address b comes. stays r.pid s _ b.births b.ticks b.order;
  discards = λ t n b sig. stays r.pid s _ b.births b.ticks b.order;
  stops = λ t n b sig stops. from r.pid s t _ b.births b.ticks b.order (acted_stop t r n);
  takes = λ t n b. record { births = b.births; ticks = b.ticks; order = b.order };
  returns = λ t frame b is. stays r.pid s _ b.births b.ticks b.order;
}

-- ---- calls

-- bytes that are moved
acted_moved : (p : ℕ) (s t : State) (call : Call) (bytes : List ℕ) → t.births ≡ s.births → t.ticks ≡ s.ticks → t.order ≡ s.order → Meets (λ o. Acted p s o.state) (Acted p s) (finish_moved t p call bytes)
acted_moved p s t call [] b k o = stays p s _ b k o
acted_moved p s t call (x ∷ xs) b k o = stays p s _ b k o

acted_retries : (s : State) (me : Process) → Retries (λ o. Acted me.pid s o.state) (Acted me.pid s) s me
acted_retries s me = record {
  refuses = λ call n fails few. stays me.pid s _ refl refl refl;
  gives = λ call n is. stays me.pid s _ refl refl refl;
  finds_nothing = λ call. stays me.pid s _ refl refl refl;
  tells_end = λ call target options child status is. (stays me.pid s _ refl refl refl, stays me.pid s _ refl refl refl);
  tells_change = λ call target options child status is. (stays me.pid s _ refl refl refl, stays me.pid s _ refl refl refl);
  reads = λ c span line rest has fits is. acted_moved me.pid s _ Read (take span.count line) refl refl refl;
  begins_again = λ n is. stays me.pid s _ refl refl refl;
}

acted_ways : (granted : Bool) (s : State) (me : Process) → Ways (λ o. Acted me.pid s o.state) (Acted me.pid s) granted s me
acted_ways granted s me = record {
  retries = acted_retries s me;
  wants_memory = λ call wants none. stays me.pid s _ refl refl refl;
  exits = acted_end s me (exited (argument me 1));
  bears = λ n is. record { births = omega arith; ticks = refl; order = inl refl };
  yields = record { births = omega arith; ticks = refl; order = inr (inr refl) };
  sets_ids = λ call c is. stays me.pid s _ refl refl refl;
  sends = λ call target value n is permitted. stays me.pid s _ refl refl refl;
  sets_action = λ n g is. stays me.pid s _ refl refl refl;
  sets_mask = λ what. stays me.pid s _ refl refl refl;
  tells_pending = stays me.pid s _ refl refl refl;
  returns = by_return _ (IsStill s) me (acted_deliveries s me) s (record { births = refl; ticks = refl; order = refl });
  sets_alarm = λ n is. stays me.pid s _ refl refl refl;
  executes = λ n program is. stays me.pid s _ refl refl refl;
  moves = λ r group h is goes. stays me.pid s _ refl refl refl;
  leads = λ alone. stays me.pid s _ refl refl refl;
  acquires = λ k c is may. stays me.pid s _ refl refl refl;
  sets_foreground = λ g is. stays me.pid s _ refl refl refl;
  sets_tostop = λ b. stays me.pid s _ refl refl refl;
  writes = λ span fits. acted_moved me.pid s s Write (bytes_in span me.cpu.memory) refl refl refl;
  marks = λ mark. stays me.pid s _ refl refl refl;
}

-- ---- a turn

-- a turn
pub acted : (granted : Bool) (s : State) (r : Process) → Acted r.pid s (act granted s r).state
acted granted s r = by_act (λ o. Acted r.pid s o.state) (Acted r.pid s) (IsStill s) granted s r (record {
  here = record { births = refl; ticks = refl; order = refl };
  deliveries = acted_deliveries s r;
  calls = acted_ways granted s r;
  enters_call = λ b. leaves r.pid s _ refl refl refl;
  begins_again = λ t h. h;
  leaves_call = λ t h. record { births = h.births; ticks = h.ticks; order = h.order };
  waits = leaves r.pid s _ refl refl refl;
  runs = stays r.pid s _ refl refl refl;
  notes = λ z is. stays r.pid s _ refl refl refl;
})
