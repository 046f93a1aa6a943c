-- Kernels that ran events, and kernels that were only read.
use Rattle.std.proofs.Common.{◌≡◌, ℕ, ◌+◌, ◌-◌, ◌<◌, ◌≤◌, List, [], ◌++◌, length, take, drop, refl, ap, sym, subst, ◌∙◌, arith, get_or, append_assoc, length-append, max, min}
use Rattle.std.specs.Prelude.{replicate}
use Rattle.std.proofs.lemmas.List.{length-replicate, length-take-le, take-append-le, take-replicate}
use Rattle.std.proofs.Math.Seq.{take-append-add}
use Rattle.posix.specs.declared.entry.Entry.{Entry}
use Rattle.posix.specs.declared.event.Event.{Event}
use Rattle.posix.specs.Common.{numbered, State, World, boot, IsStep, Runs, RunsFrom}
use Rattle.text.specs.EventLists.{CountedEvent, expanded}
use Rattle.kernel.specs.Views.{KernelView}
use Rattle.kernel.proofs.EventLemmas.{expanded_split, replicate_joined, run_fits}
use Rattle.kernel.proofs.RunLemmas.{runs_then}
use Rattle.showing.specs.Pasts.{IsReached, IsSame, AreGiven}

pub same_then : {a b c : KernelView} → IsSame a b → IsSame b c → IsSame a c
same_then p q = record { state = q.state ∙ p.state; events = q.events ∙ p.events }

-- ---- one event, run again and again

-- not at all
pub given_same : (x : Event) (a b : KernelView) → IsSame a b → AreGiven x a b
given_same x a b same =
    let looked = same.events in
    let none : b.events - a.events ≡ 0 = omega (arith, looked) in
    record { lines = []; more = omega (arith, looked); runs = subst (λ (n : ℕ). RunsFrom (a.events + 1) a.state (replicate n x) [] b.state) (sym none) (refl, same.state) }

-- once, between two readings
pub given_one : (x : Event) (a b c d : KernelView) (es : List Entry) → IsSame a b → IsStep b.state x es c.state → c.events ≡ b.events + 1 → IsSame c d → AreGiven x a d
given_one x a b c d es before step one after =
    let looked = before.events in
    let looked_again = after.events in
    let once : d.events - a.events ≡ 1 = omega (arith, looked, looked_again, one) in
    let stepped : IsStep a.state x es d.state = subst (λ (s : State). IsStep a.state x es s) (sym after.state) (subst (λ (s : State). IsStep s x es c.state) before.state step) in
    record {
      lines = numbered (a.events + 1) es ++ [];
      more = omega (arith, looked, looked_again, one);
      runs = subst (λ (n : ℕ). RunsFrom (a.events + 1) a.state (replicate n x) (numbered (a.events + 1) es ++ []) d.state) (sym once) (d.state, es, [], stepped, refl, (refl, refl));
    }

pub given_then : (x : Event) (a b c : KernelView) → AreGiven x a b → AreGiven x b c → AreGiven x a c
given_then x a b c p q =
    let n = b.events - a.events in
    let more = p.more in
    let again = q.more in
    let at : b.events + 1 ≡ (a.events + 1) + length (replicate n x) = omega (arith, more, length-replicate n x) in
    let joined : replicate n x ++ replicate (c.events - b.events) x ≡ replicate (c.events - a.events) x = replicate_joined n (c.events - b.events) (c.events - a.events) x (omega (arith, more, again)) in
    record {
      lines = p.lines ++ q.lines;
      more = omega (arith, more, again);
      runs = subst (λ (l : List Event). RunsFrom (a.events + 1) a.state l (p.lines ++ q.lines) c.state) joined
          (runs_then (replicate n x) (replicate (c.events - b.events) x) (a.events + 1) a.state b.state c.state p.lines q.lines p.runs
          (subst (λ (k : ℕ). RunsFrom k b.state (replicate (c.events - b.events) x) q.lines c.state) at q.runs));
    }

-- ---- the first events of a list

-- a number of events that ends within a run of equal events
taken_in : (before after : List Event) (x : Event) (n j : ℕ) → length before ≤ j → j ≤ length before + n → take j ((before ++ replicate n x) ++ after) ≡ before ++ replicate (j - length before) x
taken_in before after x n j from to =
    let m = j - length before in
    let at : j ≡ length before + m = omega (arith, from) in
    let len = length-append before (replicate n x) in
    let reps = length-replicate n x in
    take-append-le j (before ++ replicate n x) after (omega (arith, to, len, reps))
    ∙ ap (λ (i : ℕ). take i (before ++ replicate n x)) at
    ∙ take-append-add before (replicate n x) m
    ∙ ap (λ (l : List Event). before ++ l) (take-replicate m n x (omega (arith, to)))

taken_more : (before after : List Event) (x : Event) (n j k : ℕ) → length before ≤ j → j ≤ k → k ≤ length before + n →
    take k ((before ++ replicate n x) ++ after) ≡ take j ((before ++ replicate n x) ++ after) ++ replicate (k - j) x
taken_more before after x n j k from rising to =
    taken_in before after x n k (omega (arith, from, rising)) to
    ∙ ap (λ (l : List Event). before ++ l) (sym (replicate_joined (j - length before) (k - j) (k - length before) x (omega (arith, from, rising))))
    ∙ sym (append_assoc before (replicate (j - length before) x) (replicate (k - j) x))
    ∙ ap (λ (l : List Event). l ++ replicate (k - j) x) (sym (taken_in before after x n j from (omega (arith, rising, to))))

-- ---- kernels that have run the first events

-- more events of the run at index i were run, up to the last requested event
pub reached_more : (w : World) (all : List Event) (rs : List CountedEvent) (i : ℕ) (r : CountedEvent) (a b : KernelView) (old last end stop : ℕ) → i < length rs → r ≡ get_or rs i r → expanded rs ≡ all
    → end ≡ length (expanded (take i rs)) → a.events ≡ max old (min last end) → stop ≡ min (end + r.count) last → a.events < stop → b.events ≤ stop → AreGiven r.event a b → IsReached w all a → IsReached w all b
reached_more w all rs i r a b old last end stop lt is same at now until before_it to g reached =
    let before = expanded (take i rs) in
    let split = expanded_split rs i r lt is ∙ same in
    let fits = run_fits rs r end 0 i (length all) all lt is same (omega (arith, at)) (omega arith) in
    let more = g.more in
    let from : length before ≤ a.events = omega (arith, at, now, until, before_it) in
    let short : b.events ≤ length before + r.count = omega (arith, at, until, to) in
    let within : b.events ≤ length all = omega (arith, until, to, fits) in
    let taken : take b.events all ≡ take a.events all ++ replicate (b.events - a.events) r.event = subst (λ (l : List Event). take b.events l ≡ take a.events l ++ replicate (b.events - a.events) r.event) split
    (taken_more before (expanded (drop (i + 1) rs)) r.event r.count a.events b.events from more short) in
    let len : a.events + 1 ≡ 1 + length (take a.events all) = omega (arith, length-take-le a.events all reached.within) in
    record {
      lines = reached.lines ++ g.lines;
      within = within;
      runs = subst (λ (l : List Event). Runs w l (reached.lines ++ g.lines) b.state) (sym taken)
          (runs_then (take a.events all) (replicate (b.events - a.events) r.event) 1 (boot w) a.state b.state reached.lines g.lines reached.runs
          (subst (λ (n : ℕ). RunsFrom n a.state (replicate (b.events - a.events) r.event) g.lines b.state) len g.runs));
    }
