-- Counted runs of events, one after another.
use Rattle.std.proofs.Common.{◌≡◌, ◌≢◌, ℕ, zero, suc, true, false, cond, Option, None, ◌+◌, ◌<◌, ◌≤◌, List, [], ◌∷◌, ◌++◌, length, take, drop, ap, sym, ◌∙◌, append-nil, length-append, get_or, refl, subst, arith}
use Rattle.std.specs.Prelude.{replicate, option_and_then}
use Rattle.std.proofs.lemmas.List.{length-replicate, replicate-append-replicate, take_more, take-append-drop}
use Rattle.std.proofs.lemmas.List.Concat.{flat_map-append}
use Rattle.std.proofs.lemmas.Bool.{eqb-true}
use Rattle.posix.specs.declared.event.Event.{Event}
use Rattle.posix.specs.declared.event.Event.TheVariants.{Step}
use Rattle.posix.specs.declared.instr.Trap.{Trap}
use Rattle.posix.specs.declared.instr.Trap.TheVariants as trap
use Rattle.posix.specs.declared.entry.Entry.{Entry}
use Rattle.posix.specs.Common.{State, current, current_process, process, Outcome, silent, IsRegular, RunsFrom, settle, IsSettled, IsStep, next, happens, step, settled}
use Rattle.posix.proofs.UnseenLemmas.{covers_none, settle_none}
use Rattle.posix.proofs.CountLemmas.{Counts, counts_next}
use Rattle.kernel.specs.Steps.{is_followed_by_step}
use Rattle.text.specs.EventLists.{CountedEvent, expanded, run_events}

pub replicate_joined : (a b n : ℕ) (x : Event) → a + b ≡ n → replicate a x ++ replicate b x ≡ replicate n x
replicate_joined a b n x e = replicate-append-replicate a b x ∙ ap (λ (m : ℕ). replicate m x) e

pub replicate_three : (a b c n : ℕ) (x : Event) → (a + b) + c ≡ n → (replicate a x ++ replicate b x) ++ replicate c x ≡ replicate n x
replicate_three a b c n x e = ap (λ (l : List Event). l ++ replicate c x) (replicate_joined a b (a + b) x refl) ∙ replicate_joined (a + b) c n x e

-- the run at i adds its events to those of the runs before it
pub expanded_more : (rs : List CountedEvent) (i : ℕ) (r : CountedEvent) → i < length rs → r ≡ get_or rs i r → expanded (take (i + 1) rs) ≡ expanded (take i rs) ++ run_events r
expanded_more rs i r lt is =
    ap expanded (take_more rs i r lt) ∙ flat_map-append run_events (take i rs) (get_or rs i r ∷ [])
    ∙ ap (λ (l : List Event). expanded (take i rs) ++ l) (append-nil (run_events (get_or rs i r)))
    ∙ ap (λ (q : CountedEvent). expanded (take i rs) ++ run_events q) (sym is)

pub expanded_split : (rs : List CountedEvent) (i : ℕ) (r : CountedEvent) → i < length rs → r ≡ get_or rs i r → (expanded (take i rs) ++ run_events r) ++ expanded (drop (i + 1) rs) ≡ expanded rs
expanded_split rs i r lt is =
    ap (λ (l : List Event). l ++ expanded (drop (i + 1) rs)) (sym (expanded_more rs i r lt is)) ∙ sym (flat_map-append run_events (take (i + 1) rs) (drop (i + 1) rs))
    ∙ ap expanded (take-append-drop (i + 1) rs)

-- the run at i is within the limit that all are within
pub run_fits : (rs : List CountedEvent) (r : CountedEvent) (now old i most : ℕ) (all : List Event) → i < length rs → r ≡ get_or rs i r → expanded rs ≡ all → now ≡ old + length (expanded (take i rs)) →
    old + length all ≤ most → now + r.count ≤ most
run_fits rs r now old i most all lt is same at fits =
    let split = ap length (expanded_split rs i r lt is ∙ same) in
    let len : length ((expanded (take i rs) ++ run_events r) ++ expanded (drop (i + 1) rs)) ≡ (length (expanded (take i rs)) + r.count) + length (expanded (drop (i + 1) rs)) =
    simp (length-append, length-replicate) in
    omega (arith, split, len)

pub events_more : (rs : List CountedEvent) (r : CountedEvent) (i old now new : ℕ) → i < length rs → r ≡ get_or rs i r → now ≡ old + length (expanded (take i rs)) → new ≡ now + r.count →
    new ≡ old + length (expanded (take (i + 1) rs))
events_more rs r i old now new lt is at more =
    let len : length (expanded (take i rs) ++ run_events r) ≡ length (expanded (take i rs)) + r.count = simp (length-append, length-replicate) in
    let step = ap length (expanded_more rs i r lt is) in
    omega (arith, step, len)

-- there are no more births and ticks than events, after one more, too
pub counts_on : (s t : State) (x : Event) (es : List Entry) (n : ℕ) → IsStep s x es t → s.births ≤ n + 1 → s.ticks ≤ n → (t.births ≤ (n + 1) + 1) × (t.ticks ≤ n + 1)
counts_on s t x es n step births ticks =
    let c = subst (Counts s) (ap (λ (o : Outcome). o.state) step.comes) (counts_next step.granted s x) in
    let b = c.births in
    let k = c.ticks in
    (omega (arith, b, births), omega (arith, k, ticks))

-- ---- a step of its own after others

-- if one follows, it is within the bound
pub followed_short : (before last n : ℕ) (t : Trap) → before < last → is_followed_by_step before n t ≡ true → (t ≢ trap.Next → n < last) → n < last
followed_short before last n trap.Next some follows short = omega (arith, some, eqb-true n before follows)
followed_short before last n t some follows short = short (λ e. absurd (cc))

-- ---- events that change and show nothing

-- if the run queue is empty, a step changes and shows nothing
pub rest_idle : (s : State) → s.halted ≡ false → current s ≡ None → IsRegular s → IsSettled s → next true s Step ≡ silent s
unfolding next happens step
rest_idle s going none regular settled_s =
    let nobody : current_process s ≡ None = ap (λ (o : Option ℕ). option_and_then (process s) o) none in
    let happened : happens true s Step ≡ silent s = ap (step true s) nobody in
    let stays : settle s ≡ s = settle_none s regular.rising settled_s.fresh (covers_none s settled_s.awake) in
    ap (λ b. cond b (silent s) (settled (happens true s Step))) going ∙ ap settled happened ∙ ap silent stays

pub runs_idle : (n k : ℕ) (s : State) (x : Event) → next true s x ≡ silent s → RunsFrom k s (replicate n x) [] s
runs_idle zero k s x idle = (refl, refl)
runs_idle (suc n) k s x idle = (s, [], [], record { granted = true; comes = idle }, refl, runs_idle n (k + 1) s x idle)
