-- Steps and whole runs: the lines agree with the state.
use Rattle.std.proofs.Common.{◌≡◌, ◌≢◌, ℕ, ◌+◌, ◌≤◌, Bool, true, false, cond, refl, ap, sym, ◌∙◌, arith, subst, List, [], ◌∷◌, ◌++◌, append_assoc, append-nil, add-zero, length, Some, None, ◌==◌, inl, inr, ◌⊎◌, ◌<◌}
use Rattle.std.proofs.lemmas.Bool.{ne_eqb, cases_eq}
use Rattle.posix.specs.declared.event.Event.{Event}
use Rattle.posix.specs.declared.event.Event.TheVariants.{Step, Tick, Key, Hangup}
use Rattle.posix.specs.declared.entry.Entry.{Entry}
use Rattle.posix.specs.Common.{Process, first_process, is_zombie, is_stopped, lookup, State, World, boot, is_in, Line, numbered, RunsFrom, Runs, IsRegular, IsStep, happens, settled, KILL, is_pending, IsEvent, IsWorld}
use Rattle.laws.specs.Lives.{parents_from, newest_life}
use Rattle.laws.specs.Keeping.{kept_of}
use Rattle.std.specs.List.{AllByRecursion, list_all}
use Rattle.laws.specs.TraceLines.{is_line}
use Rattle.laws.specs.Kinds.{AreKinds}
use Rattle.laws.proofs.KindLemmas.{all_append}
use Rattle.laws.proofs.FormStays.{first_kinds, step_formed, step_kinds}
use Rattle.laws.specs.Agree.{AgreeOn, AgreeIn, Agree, AreTurns, IsOrderly, IsTraceOf, phase_between}
use Rattle.posix.proofs.TableLemmas.{pid_looked}
use Rattle.posix.proofs.OrderLemmas.{first_in}
use Rattle.laws.proofs.WokenLemmas.{by_event}
use Rattle.posix.proofs.DeliveryLemmas.{by_step}
use Rattle.posix.proofs.RegularLemmas.{regular_first}
use Rattle.laws.proofs.LawfulLemmas.{laws_none}
use Rattle.laws.proofs.RegularStays.{happens_regular, step_regular}
use Rattle.laws.proofs.QuietOperations.{quiet_tick, quiet_key, quiet_hangup, quiet_settle}
use Rattle.laws.proofs.ToldOutcomes.{IsTold, told_quiet, told_before}
use Rattle.laws.proofs.QuietLemmas.{quiet_same}
use Rattle.laws.proofs.AgreeStays.{told_act}

-- ---- an event

-- what happens at an event
told_happens : (granted : Bool) (s : State) (event : Event) → s.halted ≡ false → IsRegular s → AreTurns s → IsTold s (happens granted s event)
unfolding happens
told_happens granted s Step awake i turns = by_step (IsTold s) granted s (told_quiet s s awake (quiet_same s)) (λ p r first e.
    let named : p ≡ r.pid = sym (pid_looked p s.processes r e) in
    let placed = i.placed p (first_in p s.order first) in
    let same : placed.what ≡ r = let both = sym placed.found ∙ e in cc in
    told_act granted s r awake i.rising (subst (λ n. lookup n s.processes ≡ Some r) named e) (subst (λ n. is_in n s.order ≡ true) named (first_in p s.order first))
    (ap (λ (r : Process). is_zombie r.life) (sym same) ∙ placed.living) turns)
told_happens granted s Tick awake i turns = told_quiet s _ awake (quiet_tick s)
told_happens granted s (Key console byte) awake i turns = told_quiet s _ awake (quiet_key s console byte)
told_happens granted s (Hangup console) awake i turns = told_quiet s _ awake (quiet_hangup s console)

-- and to settle after it
told_settled : (granted : Bool) (s : State) (event : Event) → s.halted ≡ false → IsRegular s → AreTurns s → IsTold s (settled (happens granted s event))
told_settled granted s event awake i turns =
    told_before s (happens granted s event).state _ (happens granted s event).entries (told_happens granted s event awake i turns) (quiet_settle (happens granted s event).state (happens_regular granted s event i awake).rising)

-- ---- a step of the relation

-- After an event the lines so far and those of the event agree with the state.
pub step_agrees : (old new : State) (event : Event) (entries : List Entry) → IsStep old event entries new → IsRegular old → AreTurns old
    → (lines : List Line) (k : ℕ) → Agree lines k old → Agree (lines ++ numbered (k + 1) entries) (k + 1) new
step_agrees old new event entries h i turns lines k a =
    let later : AgreeIn (phase_between old.halted) lines (k + 1) old = record { laws = a.laws; number = let n = a.number in omega (arith, n); records = a.records; born = a.born; counts = a.counts; phase = a.phase } in
    by_event (λ o. Agree (lines ++ numbered (k + 1) o.entries) (k + 1) o.state) old new event entries h (λ t. subst (λ ls. Agree ls (k + 1) old) (sym (append-nil lines)) later)
    (λ t. (told_settled h.granted old event t i turns).agree lines (k + 1) (subst (λ b. AgreeIn (phase_between b) lines (k + 1) old) t later))

-- who has a place and is stopped has KILL pending, still
pub step_turns : (old new : State) (event : Event) (entries : List Entry) → IsStep old event entries new → IsRegular old → AreTurns old → AreTurns new
step_turns old new event entries h i turns = by_event (λ o. AreTurns o.state) old new event entries h (λ t. turns) (λ t. (told_settled h.granted old event t i turns).turns turns)

-- ---- the start

pub first_turns : (w : World) → AreTurns (boot w)
unfolding lookup
first_turns w = record { turns = λ p r e found stops. one p r (1 == p) found stops }
  where
    one : (p : ℕ) (r : Process) (b : Bool) → cond b (Some first_process) None ≡ Some r → is_stopped r.life ≡ true → is_pending r.signals KILL ≡ true
    one p r true found stops = let same : first_process ≡ r = cc in let no : false ≡ true = ap (λ (r : Process). is_stopped r.life) same ∙ stops in absurd (cc)
    one p r false found stops = absurd (cc)

-- the empty trace agrees with the start
pub first_agrees : (w : World) → Agree [] 0 (boot w)
unfolding kept_of newest_life parents_from lookup
first_agrees w = record { laws = laws_none; number = omega arith; records = λ p. one p (cases_eq p 1); born = refl; counts = refl; phase = refl }
  where
    one : (p : ℕ) → (p ≡ 1) ⊎ (p ≢ 1) → AgreeOn (kept_of [] p) (lookup p (first_process ∷ []))
    one p (inl same) = subst (λ n. AgreeOn (kept_of [] n) (lookup n (first_process ∷ []))) (sym same) (record { living = refl; parent = refl; mark = refl; news = tt; stopped = λ e. absurd (cc) })
    one p (inr other) = rw (ne_eqb p 1 other, ne_eqb 1 p (λ e. other (sym e))) tt

-- ---- traces

-- the start is orderly, and the empty trace is its trace
pub first_orderly : (w : World) → IsWorld w → IsOrderly (boot w)
first_orderly w h = record { turns = first_turns w; kinds = first_kinds w h }

pub first_trace : (w : World) → IsTraceOf [] 0 (boot w)
first_trace w = record { forms = refl; agree = first_agrees w }

-- a state stays orderly
pub step_orderly : (old new : State) (event : Event) (entries : List Entry) → IsStep old event entries new → IsEvent event → IsRegular old → IsOrderly old → IsOrderly new
step_orderly old new event entries h b i o = record { turns = step_turns old new event entries h i o.turns; kinds = step_kinds old new event entries h i o.kinds b }

-- After an event the lines so far and those of the event are its trace.
pub step_trace : (old new : State) (event : Event) (entries : List Entry) → IsStep old event entries new → IsEvent event → IsRegular old → IsOrderly old
    → (lines : List Line) (k : ℕ) → k < 1000000000000 → IsTraceOf lines k old → IsTraceOf (lines ++ numbered (k + 1) entries) (k + 1) new
step_trace old new event entries h b i o lines k few t = record {
  forms = all_append is_line lines (numbered (k + 1) entries) t.forms (step_formed old new event entries h i o.kinds b k few);
  agree = step_agrees old new event entries h i o.turns lines k t.agree;
}

-- ---- runs

-- who has a place and is stopped has KILL pending, still
pub runs_turns : (k : ℕ) (old last : State) (events : List Event) (lines : List Line) → RunsFrom k old events lines last → IsRegular old → AreTurns old → AreTurns last
runs_turns k old last [] lines run i turns = subst AreTurns (sym run.1) turns
runs_turns k old last (event ∷ events) lines run i turns = runs_turns (k + 1) run.0 last events run.2 run.5 (step_regular old run.0 event run.1 run.3 i) (step_turns old run.0 event run.1 run.3 i turns)

-- lines that agree with a state, and those of a run from it, agree with its last state
pub runs_agree : (j : ℕ) (old last : State) (events : List Event) (lines before : List Line) → RunsFrom (j + 1) old events lines last → IsRegular old → AreTurns old → Agree before j old → Agree (before ++ lines) (j + length events) last
runs_agree j old last [] lines before run i turns a =
    subst (λ ls. Agree (before ++ ls) (j + 0) last) (sym run.0) (subst (λ ls. Agree ls (j + 0) last) (sym (append-nil before)) (subst (λ n. Agree before n last) (sym (add-zero j)) (subst (Agree before j) (sym run.1) a)))
runs_agree j old last (event ∷ events) lines before run i turns a =
    let shown = numbered (j + 1) run.1 in
    let all = runs_agree (j + 1) run.0 last events run.2 (before ++ shown) run.5 (step_regular old run.0 event run.1 run.3 i) (step_turns old run.0 event run.1 run.3 i turns) (step_agrees old run.0 event run.1 run.3 i turns before j a) in
    let count : j + 1 + length events ≡ j + length (event ∷ events) = omega arith in
    subst (λ n. Agree (before ++ lines) n last) count (subst (λ ls. Agree ls (j + 1 + length events) last) (append_assoc before shown run.2 ∙ ap (λ ls. before ++ ls) (sym run.4)) all)

-- Each line has its form, and all parts of the last state are of their kinds.
pub record AreFormed (lines : List Line) (s : State) : Type 0 where
  pub forms : list_all is_line lines ≡ true
  pub kinds : AreKinds s

pub runs_formed : (j : ℕ) (old last : State) (events : List Event) (lines : List Line) → RunsFrom (j + 1) old events lines last → AllByRecursion IsEvent events → j + length events ≤ 1000000000000
    → IsRegular old → AreKinds old → AreFormed lines last
runs_formed j old last [] lines run bytes few i kinds = record { forms = subst (λ ls. list_all is_line ls ≡ true) (sym run.0) refl; kinds = subst AreKinds (sym run.1) kinds }
runs_formed j old last (event ∷ events) lines run bytes few i kinds =
    let shown = numbered (j + 1) run.1 in
    let rest = runs_formed (j + 1) run.0 last events run.2 run.5 bytes.1 (omega (arith, few)) (step_regular old run.0 event run.1 run.3 i) (step_kinds old run.0 event run.1 run.3 i kinds bytes.0) in
    record {
      forms = subst (λ ls. list_all is_line ls ≡ true) (sym run.4) (all_append is_line shown run.2 (step_formed old run.0 event run.1 run.3 i kinds bytes.0 j (omega (arith, few))) rest.forms);
      kinds = rest.kinds;
    }

-- The lines of a run agree with its last state.
pub run_agrees : (w : World) (events : List Event) (lines : List Line) (last : State) → 1 ≤ w.pidmax → Runs w events lines last → Agree lines (length events) last
run_agrees w events lines last most run =
    let count : 0 + length events ≡ length events = omega arith in
    subst (λ n. Agree lines n last) count (runs_agree 0 (boot w) last events lines [] run (regular_first w most) (first_turns w) (first_agrees w))

-- They are its trace, where the numbers of the world and of the events are within their ranges.
pub run_trace : (w : World) (events : List Event) (lines : List Line) (last : State) → 1 ≤ w.pidmax → IsWorld w → AllByRecursion IsEvent events → length events ≤ 1000000000000 → Runs w events lines last → IsTraceOf lines (length events) last
run_trace w events lines last most world bytes few run = record {
  forms = (runs_formed 0 (boot w) last events lines run bytes (omega (arith, few)) (regular_first w most) (first_kinds w world)).forms;
  agree = run_agrees w events lines last most run;
}
