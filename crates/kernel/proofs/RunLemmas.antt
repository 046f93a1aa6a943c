-- How runs of the machine are joined, and what is written of them.
use Rattle.std.proofs.Common.{◌≡◌, ℕ, ◌+◌, ◌-◌, ◌%◌, ◌^◌, ◌<◌, ◌≤◌, List, [], ◌∷◌, ◌++◌, length, take, drop, refl, ap, ap₂, sym, subst, ◌∙◌, append_assoc, append-nil, add-zero, length-append, get_or, arith, cond, Bool, true, false}
use Rattle.std.specs.Prelude.{map, replicate}
use Rattle.std.specs.Int.{from_bool}
use Rattle.std.proofs.lemmas.List.{take_more, take-append-drop, map-append, length-map, length-replicate, replicate_more}
use Rattle.std.proofs.lemmas.List.Sums.{count_by-le-length}
use Rattle.posix.specs.declared.event.Event.{Event}
use Rattle.posix.specs.declared.event.Event.TheVariants.{Step}
use Rattle.posix.specs.declared.entry.Entry.{Entry}
use Rattle.posix.specs.Common.{Line, line, numbered, reported, reports_end, State, IsStep, next, RunsFrom, print, print_line}
use Rattle.trace.specs.Sinks.{Seen, TakesAll, Gathers, BreaksOff}
use Rattle.text.specs.EventTexts.{most_events}
use Rattle.life.specs.declared.noted_bursts.Note.{Note}
use Rattle.kernel.specs.Steps.{Bursts, noted_lines}
use Rattle.kernel.specs.PrintLaws.{print_then, reported_then}
use Rattle.kernel.specs.Progress.{Shows, Breaks, Prints, WritesTrace, BreaksTrace}
use Rattle.trace.proofs.SinkLemmas.{gathers_then, gathers_break, break_on, flush_takes, flush_breaks}

-- ---- runs

-- a run goes on from the end of another
pub runs_then : (xs ys : List Event) (k : ℕ) (a b c : State) (ls ms : List Line) →
    RunsFrom k a xs ls b → RunsFrom (k + length xs) b ys ms c → RunsFrom k a (xs ++ ys) (ls ++ ms) c
runs_then [] ys k a b c ls ms (none, same) q =
    subst (λ (l : List Line). RunsFrom k a ys (l ++ ms) c) (sym none) (subst (λ (s : State). RunsFrom k s ys ms c) same (subst (λ (n : ℕ). RunsFrom n b ys ms c) (add-zero k) q))
runs_then (x ∷ xs) ys k a b c ls ms (mid, entries, rest, step, lines, p) q =
    let at : k + length (x ∷ xs) ≡ (k + 1) + length xs = omega arith in (
      mid,
      entries,
      rest ++ ms,
      step,
      ap (λ (l : List Line). l ++ ms) lines ∙ append_assoc (numbered k entries) rest ms,
      runs_then xs ys (k + 1) mid b c rest ms p (subst (λ (n : ℕ). RunsFrom n b ys ms c) at q),
    )

-- from every state every list of events has a run
runs_on : (xs : List Event) (k : ℕ) (a : State) → (ls : List Line) × (b : State) × RunsFrom k a xs ls b
runs_on [] k a = ([], a, (refl, refl))
runs_on (x ∷ xs) k a =
    let done = next true a x in
    let more = runs_on xs (k + 1) done.state in
    (numbered k done.entries ++ more.0, more.1, (done.state, done.entries, more.0, record { granted = true; comes = refl }, refl, more.2))

-- notes report no termination
none_ended : (p : ℕ) (ns : List Note) → reported (noted_lines p ns) ≡ 0
none_ended p [] = refl
none_ended p (n ∷ ns) = none_ended p ns

-- no more terminations than entries
pub ends_within : (k : ℕ) (es : List Entry) → reported (numbered k es) ≤ length es
ends_within k es = omega (arith, count_by-le-length (λ (l : Line). reports_end l.entry) (numbered k es), length-map es (line k))

-- the same entries with the same number are the same lines
same_lines : (j k : ℕ) (fs es : List Entry) → j ≡ k → fs ≡ es → numbered j fs ≡ numbered k es
same_lines j k fs es at same = ap (λ (n : ℕ). numbered n fs) at ∙ ap (numbered k) same

-- ---- what was made of their lines

-- a run goes on, and what was made of its lines goes on, too
pub shows_next : (k j : ℕ) (xs ys zs : List Event) (s m e : State) (P Q R : List Line → Type 0) → j ≡ k + length xs → xs ++ ys ≡ zs → ((ls ms : List Line) → P ls → Q ms → R (ls ++ ms))
    → Shows k s xs m P → Shows j m ys e Q → Shows k s zs e R
shows_next k j xs ys zs s m e P Q R at all then p q =
    subst (λ (l : List Event). Shows k s l e R) all (record {
      lines = p.lines ++ q.lines;
      run = runs_then xs ys k s m e p.lines q.lines p.run (subst (λ (n : ℕ). RunsFrom n m ys q.lines e) at q.run);
      holds = then p.lines q.lines p.holds q.holds;
      few = omega (arith, p.few, q.few, reported_then p.lines q.lines, length-append xs ys);
    })

-- or it breaks off
pub breaks_next : (k j : ℕ) (xs ys more zs : List Event) (s m e : State) (P Q R : List Line → Type 0) → j ≡ k + length xs → (xs ++ ys) ++ more ≡ zs → ((ls ms : List Line) → P ls → Q ms → R (ls ++ ms))
    → Shows k s xs m P → Breaks j m ys e Q → Breaks k s zs e R
breaks_next k j xs ys more zs s m e P Q R at all then p q = record {
  given = xs ++ q.given;
  rest = q.rest ++ more;
  all = append_assoc xs q.given (q.rest ++ more) ∙ ap (λ (l : List Event). xs ++ l) (sym (append_assoc q.given q.rest more) ∙ ap (λ (l : List Event). l ++ more) q.all) ∙ sym (append_assoc xs ys more) ∙ all;
  shows = shows_next k j xs q.given (xs ++ q.given) s m e P Q R at refl then p q.shows;
}

-- what breaks off as all was given
pub breaks_all : (k : ℕ) (xs : List Event) (s e : State) (P : List Line → Type 0) → Shows k s xs e P → Breaks k s xs e P
breaks_all k xs s e P p = record { given = xs; rest = []; all = append-nil xs; shows = p }

-- what is shown at once, the notes first
pub shows_once : (k j e n p : ℕ) (x : Event) (s t : State) (ns ms : List Note) (es fs : List Entry) (P : List Line → Type 0) → 0 < n → ms ≡ ns → j ≡ e → fs ≡ es → length es ≤ 4
    → RunsFrom k s (replicate n x) (noted_lines p ns ++ numbered e es) t → P (noted_lines p ms ++ numbered j fs) → Shows k s (replicate n x) t P
shows_once k j e n p x s t ns ms es fs P some notes at same few run holds =
    record {
      lines = noted_lines p ns ++ numbered e es;
      run = run;
      holds = subst P (ap₂ (λ (ls ms : List Line). ls ++ ms) (ap (noted_lines p) notes) (same_lines j e fs es at same)) holds;
      few = omega (arith, reported_then (noted_lines p ns) (numbered e es), none_ended p ns, ends_within e es, few, some, length-replicate n x);
    }

-- ---- what is printed of them

-- what broke off did so whatever lines come after
pub lines_broken : (a b : Seen) (p : List ℕ) (ls ms : List Line) → BreaksOff a b (p ++ print ls) → BreaksOff a b (p ++ print (ls ++ ms))
lines_broken a b p ls ms v = rw (print_then, ← append_assoc) (break_on a b (p ++ print ls) (print ms) v)

-- notes are printed, and then entries
pub prints_both : (k p : ℕ) (ns : List Note) (es : List Entry) (a m b : Seen) (w v q : List ℕ) (f ends g : ℕ) → Gathers a w m v (print (noted_lines p ns)) → Gathers m v b q (print (numbered k es)) → reported (numbered k es) ≡ ends
    → g ≡ (f + ends) % 2 ^ 64 → Prints a w f b q g (noted_lines p ns ++ numbered k es)
prints_both k p ns es a m b w v q f ends g first then counted sum = record {
  gathered = rw print_then (gathers_then a m b w v q (print (noted_lines p ns)) (print (numbered k es)) first then);
  counted = λ small.
      let all : reported (noted_lines p ns ++ numbered k es) ≡ ends = omega (arith, reported_then (noted_lines p ns) (numbered k es), none_ended p ns, counted) in
      sum ∙ omega (arith, small, all);
}

-- ---- the lines of some things, one each

-- those up to index i print as those before it, and then the one at i
lines_more : {A : Type 0} (f : A → Line) (xs : List A) (i : ℕ) (d : A) → i < length xs → print (map f (take (i + 1) xs)) ≡ print (map f (take i xs)) ++ print_line (f (get_or xs i d))
lines_more f xs i d lt =
    ap (λ l. print (map f l)) (take_more xs i d lt) ∙ ap print (map-append f (take i xs) (get_or xs i d ∷ [])) ∙ print_then (map f (take i xs)) (f (get_or xs i d) ∷ [])
    ∙ ap (λ (l : List ℕ). print (map f (take i xs)) ++ l) (append-nil (print_line (f (get_or xs i d))))

-- all print as those before index i, the one at i and those after it
lines_split : {A : Type 0} (f : A → Line) (xs : List A) (i : ℕ) (d : A) → i < length xs
    → print (map f xs) ≡ print (map f (take i xs)) ++ (print_line (f (get_or xs i d)) ++ print (map f (drop (i + 1) xs)))
lines_split f xs i d lt =
    ap (λ l. print (map f l)) (sym (take-append-drop (i + 1) xs)) ∙ ap print (map-append f (take (i + 1) xs) (drop (i + 1) xs)) ∙ print_then (map f (take (i + 1) xs)) (map f (drop (i + 1) xs))
    ∙ ap (λ (l : List ℕ). l ++ print (map f (drop (i + 1) xs))) (lines_more f xs i d lt)
    ∙ append_assoc (print (map f (take i xs))) (print_line (f (get_or xs i d))) (print (map f (drop (i + 1) xs)))

-- the lines before index i are yet to be put, and then the one at i
pub line_gathered : {A : Type 0} (f : A → Line) (xs : List A) (i : ℕ) (d : A) (a b c : Seen) (p q r text : List ℕ) → i < length xs → text ≡ print_line (f (get_or xs i d)) →
    Gathers a p b q (print (map f (take i xs))) → Gathers b q c r text → Gathers a p c r (print (map f (take (i + 1) xs)))
line_gathered f xs i d a b c p q r text lt e g h =
    subst (Gathers a p c r) (sym (lines_more f xs i d lt))
    (gathers_then a b c p q r (print (map f (take i xs))) (print_line (f (get_or xs i d))) g (subst (Gathers b q c r) e h))

-- the lines before index i are yet to be put, and the one at i breaks off
pub line_broken : {A : Type 0} (f : A → Line) (xs : List A) (i : ℕ) (d : A) (a b c : Seen) (p q text : List ℕ) → i < length xs → text ≡ print_line (f (get_or xs i d)) →
    Gathers a p b q (print (map f (take i xs))) → BreaksOff b c (q ++ text) → BreaksOff a c (p ++ print (map f xs))
line_broken f xs i d a b c p q text lt e g h =
    let one = print_line (f (get_or xs i d)) in
    let rest = print (map f (drop (i + 1) xs)) in
    let here : BreaksOff b c (q ++ one) = subst (λ (l : List ℕ). BreaksOff b c (q ++ l)) e h in
    let all : BreaksOff b c (q ++ (one ++ rest)) = subst (BreaksOff b c) (append_assoc q one rest) (break_on b c (q ++ one) rest here) in
    subst (λ (l : List ℕ). BreaksOff a c (p ++ l)) (sym (lines_split f xs i d lt))
    (gathers_break a b c p q (print (map f (take i xs))) (one ++ rest) g all)

-- a Bool as a number
one_or_none : (b : Bool) → cond b 1 0 ≡ from_bool b
one_or_none true = refl
one_or_none false = refl

-- the terminations before index i, and then the one at i
pub ends_more : (k : ℕ) (es : List Entry) (i : ℕ) (d : Entry) → i < length es →
    reported (numbered k (take (i + 1) es)) ≡ reported (numbered k (take i es)) + from_bool (reports_end (get_or es i d))
ends_more k es i d lt =
    ap (λ (l : List Entry). reported (numbered k l)) (take_more es i d lt) ∙ ap reported (map-append (line k) (take i es) (get_or es i d ∷ []))
    ∙ reported_then (numbered k (take i es)) (numbered k (get_or es i d ∷ [])) ∙ omega (arith, one_or_none (reports_end (get_or es i d)))

-- ---- one event

-- a step after a burst
pub step_after : {before n p : ℕ} {s m t : State} {ns : List Note} {es : List Entry} → Bursts s before n p ns m → before ≤ n → IsStep m Step es t → RunsFrom (before + 1) s (replicate ((n + 1) - before) Step) (noted_lines p ns ++ numbered (n + 1) es) t
step_after {before = before} {n = n} {p = p} {s = s} {m = m} {t = t} {ns = ns} {es = es} b on step =
    let here : n + 1 ≡ (before + 1) + length (replicate (n - before) Step) = omega (arith, on, length-replicate (n - before) Step) in
    let count : (n - before) + 1 ≡ (n + 1) - before = omega (arith, on) in
    let one : RunsFrom ((before + 1) + length (replicate (n - before) Step)) m (Step ∷ []) (numbered (n + 1) es) t =
    subst (λ (j : ℕ). RunsFrom j m (Step ∷ []) (numbered (n + 1) es) t) here (t, es, [], step, sym (append-nil (numbered (n + 1) es)), (refl, refl)) in
    subst (λ (l : List Event). RunsFrom (before + 1) s l (noted_lines p ns ++ numbered (n + 1) es) t) (replicate_more (n - before) Step ∙ ap (λ (k : ℕ). replicate k Step) count)
    (runs_then (replicate (n - before) Step) (Step ∷ []) (before + 1) s m t (noted_lines p ns) (numbered (n + 1) es) b.runs one)

-- ---- all that waited is put

-- the trace is taken
pub writes_all : (k : ℕ) (xs : List Event) (s e : State) (a b c : Seen) (p q : List ℕ) (g : ℕ) → p ≡ [] → length xs ≤ most_events → Shows k s xs e (Prints a p 0 b q g) → TakesAll b c q → WritesTrace k s xs e a c g
writes_all k xs s e a b c p q g none few w t = record {
  lines = w.lines;
  run = w.run;
  holds = (
    flush_takes a b c q (print w.lines) (subst (λ (l : List ℕ). Gathers a l b q (print w.lines)) none w.holds.gathered) t,
    (let fits : length xs ≤ 1000000000000 = few in omega (arith, w.holds.counted (omega (arith, w.few, fits)))),
  );
  few = w.few;
}

-- or it breaks off
pub writes_break : (k : ℕ) (xs : List Event) (s e : State) (a b c : Seen) (p q : List ℕ) (g h : ℕ) → p ≡ [] → Shows k s xs e (Prints a p h b q g) → BreaksOff b c q → BreaksTrace k s xs a c
writes_break k xs s e a b c p q g h none w t = record {
  lines = w.lines;
  last = e;
  run = w.run;
  broken = flush_breaks a b c q (print w.lines) (subst (λ (l : List ℕ). Gathers a l b q (print w.lines)) none w.holds.gathered) t;
}

-- if the printing broke off, the trace did, whatever events come after
pub stops_break : (k : ℕ) (xs : List Event) (s e : State) (a b : Seen) (p : List ℕ) → p ≡ [] → Breaks k s xs e (λ lines. BreaksOff a b (p ++ print lines)) → BreaksTrace k s xs a b
stops_break k xs s e a b p none w =
    let v = w.shows in
    let more = runs_on w.rest (k + length w.given) e in
    subst (λ (l : List Event). BreaksTrace k s l a b) w.all (record {
      lines = v.lines ++ more.0;
      last = more.1;
      run = runs_then w.given w.rest k s e more.1 v.lines more.0 v.run more.2;
      broken = subst (λ (l : List ℕ). BreaksOff a b (l ++ print (v.lines ++ more.0))) none (lines_broken a b p v.lines more.0 v.holds);
    })

pub ruleset trace_rules = (writes_all, writes_break, stops_break)
