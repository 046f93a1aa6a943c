-- Who has a place keeps it, and comes nearer to its turn.
use Rattle.std.proofs.Common.{◌≡◌, ◌≢◌, ℕ, zero, suc, add-zero, append_assoc, ◌+◌, ◌≤◌, Bool, true, false, cond, not, refl, ap, sym, ◌∙◌, arith, subst, List, [], ◌∷◌, ◌++◌, filter, Option, Some, None, ◌==◌, slice_get, inl, inr, ◌⊎◌}
use Rattle.std.proofs.lemmas.Bool.{eqb-true, eq-eqb, ne_eqb, or_left, false_from_ne_true}
use Rattle.std.proofs.lemmas.List.Sums.{sum_by-cons}
use Rattle.posix.specs.declared.event.Event.{Event}
use Rattle.posix.specs.declared.event.Event.TheVariants.{Step, Tick, Key, Hangup}
use Rattle.posix.specs.declared.entry.Entry.{Entry}
use Rattle.posix.specs.Common.{State, is_in, without, current, IsDistinct, console_at, settle, pass_time, IsStep, happens, tick, rotate, key, key_on, hangup, hangup_on, Line, numbered, RunsFrom}
use Rattle.laws.specs.Turns.{places_before, is_tick, ticks_in, HasTurn}
use Rattle.posix.proofs.TableLemmas.{pid_looked}
use Rattle.posix.proofs.OrderLemmas.{without_absent}
use Rattle.posix.proofs.ActLemmas.{Turned, acted}
use Rattle.posix.proofs.DeliveryLemmas.{by_step}
use Rattle.posix.proofs.MemberLemmas.{in_append, others_stay}
use Rattle.posix.proofs.WakeLemmas.{nothing_after_halt}
use Rattle.laws.proofs.WokenLemmas.{by_event, given_places, order_settled}

-- ---- the order after an event

-- nothing happens, or the first may turn
abbrev pub FirstTurned : List ℕ → List ℕ → Type 0
FirstTurned old new = (new ≡ old) ⊎ ((p : ℕ) × (slice_get old 0 ≡ Some p) × Turned p old new)

-- before processes enter the run queue, an event moves or removes only the current process
pub turned_first : (granted : Bool) (s : State) (event : Event) → FirstTurned s.order (happens granted s event).state.order
unfolding happens tick key hangup
turned_first granted s Step = by_step (λ o. FirstTurned s.order o.state.order) granted s (inl refl) (λ p r first e. inr (r.pid, first ∙ ap Some (sym (pid_looked p s.processes r e)), (acted granted s r).order))
turned_first granted s Tick = elim (current s) as (λ c. current s ≡ c → FirstTurned s.order (rotate (pass_time s) c).order) [ None ↦ λ first. inl refl | Some p ↦ λ first. inr (p, first, inr (inr refl)) ] refl
turned_first granted s (Key console byte) = elim (console_at console s.consoles) as (λ c. FirstTurned s.order (key_on s console byte c).order) [ None ↦ inl refl | Some c ↦ inl refl ]
turned_first granted s (Hangup console) = elim (console_at console s.consoles) as (λ c. FirstTurned s.order (hangup_on s console c).order) [ None ↦ inl refl | Some c ↦ inl refl ]

-- one other than q may have turned
abbrev OtherTurned : ℕ → List ℕ → List ℕ → Type 0
OtherTurned q old new = (p : ℕ) × (p ≢ q) × Turned p old new

-- an event turns another than q where q isn't current
turned_event : (granted : Bool) (s : State) (event : Event) (q : ℕ) → current s ≢ Some q → OtherTurned q s.order (happens granted s event).state.order
turned_event granted s event q ne = elim (turned_first granted s event) [
  | inl same ↦ (suc q, λ e. omega (arith, e), inl same)
  | inr first ↦ (first.0, λ e. ne (first.1 ∙ ap Some e), first.2)
]

-- ---- how many are before q

-- the first is before another
first_other : (q x : ℕ) (xs : List ℕ) → (x == q) ≡ false → places_before q (x ∷ xs) ≡ places_before q xs + 1
unfolding places_before
first_other q x xs e = rw e refl

-- the processes after q don't count
before_front : (q : ℕ) (xs ys : List ℕ) → is_in q xs ≡ true → places_before q (xs ++ ys) ≡ places_before q xs
unfolding places_before is_in
before_front q [] ys e = absurd (cc)
before_front q (x ∷ xs) ys e = grind (arith, before_front q xs ys)

-- with p gone, no more are before another
before_without : (p q : ℕ) (o : List ℕ) → p ≢ q → places_before q (without p o) ≤ places_before q o
unfolding places_before without
before_without p q [] ne = omega arith
before_without p q (x ∷ xs) ne = grind (arith, ne, before_without p q xs ne, eqb-true)

-- a place, and no more before it than there were
abbrev pub Nearer : ℕ → List ℕ → List ℕ → Type 0
Nearer q old new = (is_in q new ≡ true) × (places_before q new ≤ places_before q old)

-- another's turn brings q nearer
nearer_turned : (p q : ℕ) (old new : List ℕ) → p ≢ q → is_in q old ≡ true → Turned p old new → Nearer q old new
nearer_turned p q old new ne e (inl same) = (ap (is_in q) same ∙ e, rw same (omega arith))
nearer_turned p q old new ne e (inr (inl less)) = (ap (is_in q) less ∙ others_stay p q old (λ k. ne (sym k)) ∙ e, rw less (before_without p q old ne))
nearer_turned p q old new ne e (inr (inr last)) =
    let stays = others_stay p q old (λ k. ne (sym k)) ∙ e in (
      ap (is_in q) last ∙ in_append q (without p old) (p ∷ []) ∙ or_left _ _ stays,
      rw (last, before_front q (without p old) (p ∷ []) stays) (before_without p q old ne),
    )

-- to settle leaves who is before q
nearer_settled : (s : State) (q : ℕ) (old : List ℕ) → Nearer q old s.order → Nearer q old (settle s).order
nearer_settled s q old h = (
  ap (is_in q) (order_settled s) ∙ in_append q s.order _ ∙ or_left _ _ h.0,
  rw (order_settled s, before_front q s.order (given_places s) h.0) h.1,
)

-- an event brings q nearer: who isn't current keeps its place, and no more places come before it
pub nearer_after : (old new : State) (event : Event) (entries : List Entry) → IsStep old event entries new
    → (q : ℕ) → is_in q old.order ≡ true → current old ≢ Some q → Nearer q old.order new.order
nearer_after old new event entries h q e ne =
    by_event (λ o. Nearer q old.order o.state.order) old new event entries h (λ t. (e, omega arith))
    (λ t. let turned = turned_event h.granted old event q ne in nearer_settled _ q old.order (nearer_turned turned.0 q old.order _ turned.1 e turned.2))

-- ---- a tick

-- the first is before each other
one_before : (p q : ℕ) (o : List ℕ) → IsDistinct o → slice_get o 0 ≡ Some p → p ≢ q → places_before q o ≡ places_before q (without p o) + 1
unfolding without IsDistinct
one_before p q [] d e ne = absurd (cc)
one_before p q (x ∷ xs) d e ne =
    let same : x ≡ p = cc in
    let rest : filter (λ y. not (y == p)) xs ≡ xs = without_absent p xs (subst (λ n. is_in n xs ≡ false) same d.0) in
    let t : (x == p) ≡ true = eq-eqb x p same in
    let u : (x == q) ≡ false = ne_eqb _ _ (λ k. ne (sym same ∙ k)) in
    first_other q x xs u ∙ ap (λ l. places_before q l + 1) (sym (rw t rest))

-- who has a place is not in an order without a first
no_first : (q : ℕ) (o : List ℕ) → slice_get o 0 ≡ None → is_in q o ≡ true → ⊥
unfolding is_in
no_first q [] k e = absurd (cc)
no_first q (x ∷ xs) k e = absurd (cc)

-- a tick moves the first process to the end, after q
record Rotated (q : ℕ) (old new : List ℕ) : Type 0 where
  first : ℕ
  is : slice_get old 0 ≡ Some first
  other : first ≢ q
  rest : places_before q new ≡ places_before q (without first old)

rotated : (old new : State) (entries : List Entry) → IsStep old Tick entries new → old.halted ≡ false → (q : ℕ) → is_in q old.order ≡ true → current old ≢ Some q → Rotated q old.order new.order
unfolding happens tick
rotated old new entries h awake q e ne =
    by_event (λ o. Rotated q old.order o.state.order) old new Tick entries h (λ t. let no = sym awake ∙ t in absurd (cc)) (λ t. of (current old) refl ne)
  where
    of : (c : Option ℕ) → current old ≡ c → c ≢ Some q → Rotated q old.order (settle (rotate (pass_time old) c)).order
    of None is ne = absurd (no_first q old.order is e)
    of (Some p) is ne =
        let away : p ≢ q = λ x. ne (ap Some x) in
        let stays = others_stay p q old.order (λ x. away (sym x)) ∙ e in
        let last = before_front q (without p old.order ++ p ∷ []) _ (in_append q (without p old.order) (p ∷ []) ∙ or_left _ _ stays) in
        record { first = p; is = is; other = away; rest = ap (places_before q) (order_settled (rotate (pass_time old) (Some p))) ∙ last ∙ before_front q (without p old.order) (p ∷ []) stays }

-- at a tick one place less comes before q
pub tick_nears : (old new : State) (entries : List Entry) → IsStep old Tick entries new → old.halted ≡ false → IsDistinct old.order
    → (q : ℕ) → is_in q old.order ≡ true → current old ≢ Some q → places_before q old.order ≡ places_before q new.order + 1
tick_nears old new entries h awake d q e ne = let r = rotated old new entries h awake q e ne in one_before r.first q old.order d r.is r.other ∙ ap (λ n. n + 1) (sym r.rest)

-- ---- the turn

-- with no place before it a process is current
pub turn_is_here : (q : ℕ) (o : List ℕ) → is_in q o ≡ true → places_before q o ≡ 0 → slice_get o 0 ≡ Some q
unfolding is_in places_before
turn_is_here q [] e k = absurd (cc)
turn_is_here q (x ∷ xs) e k = grind (arith, k, eqb-true x q)

-- with places before it the process isn't current
not_current : (q n : ℕ) (o : List ℕ) → places_before q o ≡ suc n → slice_get o 0 ≢ Some q
unfolding places_before
not_current q n [] k e = absurd (cc)
not_current q n (x ∷ xs) k e = grind (arith, k, e, eq-eqb x q)

-- ---- a run

-- at a tick fewer are before another than the first
fewer_before : (p q : ℕ) (o : List ℕ) → slice_get o 0 ≡ Some p → p ≢ q → places_before q (without p o) + 1 ≤ places_before q o
unfolding without
fewer_before p q [] e ne = absurd (cc)
fewer_before p q (x ∷ xs) e ne =
    let same : x ≡ p = cc in
    let t : (x == p) ≡ true = eq-eqb x p same in
    let u : (x == q) ≡ false = ne_eqb _ _ (λ k. ne (sym same ∙ k)) in
    let l : places_before q (filter (λ y. not (y == p)) xs) ≤ places_before q xs = before_without p q xs ne in
    let f = first_other q x xs u in
    rw t (omega (arith, l, f))

-- what is left of the ticks is enough
enough : (old new : State) (event : Event) (entries : List Entry) (events : List Event) → IsStep old event entries new → old.halted ≡ false
    → (q : ℕ) → is_in q old.order ≡ true → current old ≢ Some q → places_before q old.order ≤ ticks_in (event ∷ events) → places_before q new.order ≤ ticks_in events
enough old new Tick entries events h awake q e ne l =
    let r = rotated old new entries h awake q e ne in
    let n = fewer_before r.first q old.order r.is r.other in
    let k = r.rest in
    let one : ticks_in (Tick ∷ events) ≡ 1 + ticks_in events = sum_by-cons (λ e. cond (is_tick e) 1 0) Tick events in
    omega (arith, n, k, l, one)
enough old new event entries events h awake q e ne l = let n = (nearer_after old new event entries h q e ne).1 in omega (arith, n, l)

-- without a halt at the end there was none before
awake_before : (k : ℕ) (s last : State) (events : List Event) (lines : List Line) → RunsFrom k s events lines last → last.halted ≡ false → s.halted ≡ false
awake_before k s last [] lines run awake = sym (ap (λ (s : State). s.halted) run.1) ∙ awake
awake_before k s last (event ∷ events) lines run awake = false_from_ne_true s.halted (λ h.
    let stays = sym (ap (λ (s : State). s.halted) (nothing_after_halt s run.0 event run.1 run.3 h) ∙ h) ∙ awake_before (k + 1) run.0 last events run.2 run.5 awake in
    cc)

-- the turn is at the start
turn_now : (q k : ℕ) (old last : State) (events : List Event) (lines : List Line) → RunsFrom k old events lines last → current old ≡ Some q → HasTurn q k old events lines last
turn_now q k old last events lines run turn = record {
  early = [];
  late = events;
  shown = [];
  rest = lines;
  mid = old;
  all_events = refl;
  all_lines = refl;
  before = (refl, refl);
  turn = turn;
  after = subst (λ n. RunsFrom n old events lines last) (sym (add-zero k)) run;
}

-- the turn comes after the first event
turn_later : (q k : ℕ) (old mid last : State) (event : Event) (events : List Event) (entries : List Entry) (lines rest : List Line)
    → IsStep old event entries mid → lines ≡ numbered k entries ++ rest → HasTurn q (k + 1) mid events rest last → HasTurn q k old (event ∷ events) lines last
turn_later q k old mid last event events entries lines rest step is h = record {
  early = event ∷ h.early;
  late = h.late;
  shown = numbered k entries ++ h.shown;
  rest = h.rest;
  mid = h.mid;
  all_events = ap (λ es. event ∷ es) h.all_events;
  all_lines = is ∙ ap (λ ls. numbered k entries ++ ls) h.all_lines ∙ sym (append_assoc (numbered k entries) h.shown h.rest);
  before = (mid, entries, h.shown, step, refl, h.before);
  turn = h.turn;
  after = subst (λ n. RunsFrom n h.mid h.late h.rest last) (omega arith) h.after;
}

-- with enough ticks the turn comes
pub turn_comes : (q k : ℕ) (old last : State) (events : List Event) (lines : List Line) → RunsFrom k old events lines last → last.halted ≡ false
    → is_in q old.order ≡ true → places_before q old.order ≤ ticks_in events → HasTurn q k old events lines last
turn_comes q k old last [] lines run awake e l = turn_now q k old last [] lines run (turn_is_here q old.order e (omega (arith, l)))
turn_comes q k old last (event ∷ events) lines run awake e l =
    elim (places_before q old.order) as (λ n. places_before q old.order ≡ n → HasTurn q k old (event ∷ events) lines last) [
      | zero ↦ λ z. turn_now q k old last (event ∷ events) lines run (turn_is_here q old.order e z)
      | suc n ↦ λ z.
          let ne : current old ≢ Some q = not_current q n old.order z in
          let lit : old.halted ≡ false = awake_before k old last (event ∷ events) lines run awake in
          let stays = (nearer_after old run.0 event run.1 run.3 q e ne).0 in
          let left = enough old run.0 event run.1 events run.3 lit q e ne l in
          turn_later q k old run.0 last event events run.1 lines run.2 run.3 run.4 (turn_comes q (k + 1) run.0 last events run.2 run.5 awake stays left)
    ] refl
