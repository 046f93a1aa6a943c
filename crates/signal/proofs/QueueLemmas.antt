-- The queue of real-time signals, and the bits that say which numbers are queued.
use Rattle.std.proofs.Common.{◌≡◌, ◌≢◌, ℕ, zero, suc, ◌-◌, ◌^◌, ◌<◌, ◌≤◌, Bool, true, false, not, ◌&&◌, ◌==◌, nat_le, nat_lt, List, [], ◌∷◌, ◌++◌, length, refl, sym, ap, ◌∙◌, subst, arith, bit_and, filter, get_or, Option, Some, None, is_some, inl, inr}
use Rattle.std.specs.Prelude.{if◌then◌else◌}
use Rattle.std.specs.Int.{bit_at}
use Rattle.std.specs.List.{list_any, position, position_or_len, remove}
use Rattle.std.proofs.lemmas.Bool.{and_parts, and_right, cases_eq, cond-true, eq-eqb, eqb-true, false_from_ne_true, leb-true, lt-leb, ltb-false, ne_eqb, not-true, or_left, or_right}
use Rattle.std.proofs.lemmas.List.Folds.{list_any-append}
use Rattle.std.proofs.lemmas.List.Quantifiers.{position-Some}
use Rattle.std.proofs.lemmas.List.Sums.{fails_before_first}
use Rattle.posix.specs.declared.process.Carried.{Carried}
use Rattle.posix.specs.declared.process.Life.{Life}
use Rattle.posix.specs.declared.process.PendingSignal.{PendingSignal}
use Rattle.posix.specs.Common.{CONT, STOP, TTOU, is_realtime, is_stop_signal, has, Signals, after_discards, generated, gets_no_signals, has_sig, is_pending, keeps, make_pending, with_pending, with_queue, without_stops, first_carried, from_kernel, taken, without_first}
use Rattle.signal.specs.SignalTables.{TablesView, MarksQueued, signals_of}
use Rattle.signal.proofs.SetLemmas.{less_other, less_same, same_standard}

-- ---- the numbers of real-time signals

pub above_33 : (s : ℕ) → is_realtime s ≡ true → 33 < s
above_33 s is = leb-true 34 s (and_parts _ _ is).0

pub at_most_64 : (s : ℕ) → is_realtime s ≡ true → s ≤ 64
at_most_64 s is = leb-true s 64 (and_parts _ _ is).1

-- ---- the first signal with a number

-- a signal that passes has a position exactly if there is one
pub is_some_position : (t : PendingSignal → Bool) (q : List PendingSignal) → is_some (position t q) ≡ list_any t q
is_some_position t [] = refl
is_some_position t (m ∷ q) = grind (arith, is_some_position t q)

-- the first signal with a number is at the index before which none has it
first_at : (s i : ℕ) (q : List PendingSignal) (d : PendingSignal) → i < length q → has_sig s (get_or q i d) ≡ true → ((k : ℕ) → k < i → has_sig s (get_or q k d) ≡ false)
    → (first_carried s q ≡ Some (get_or q i d).carried) × (without_first s q ≡ remove q i)
unfolding first_carried without_first
first_at s i [] d l e before = absurd (omega arith)
first_at s zero (m ∷ q) d l e before = (grind (arith, e), grind (arith, e))
first_at s (suc i) (m ∷ q) d l e before =
    let here : has_sig s m ≡ false = before 0 (omega arith) in
    let later = first_at s i q d (omega (arith, l)) e (λ k low. before (suc k) (omega (arith, low))) in
    (grind (arith, here, later.0), grind (arith, here, later.1))

-- without one, nothing is taken
none_at : (s : ℕ) (q : List PendingSignal) (d : PendingSignal) → ((k : ℕ) → k < length q → has_sig s (get_or q k d) ≡ false) → (first_carried s q ≡ None) × (without_first s q ≡ q)
unfolding first_carried without_first
none_at s [] d none = (refl, refl)
none_at s (m ∷ q) d none =
    let here : has_sig s m ≡ false = none 0 (omega arith) in
    let later = none_at s q d (λ k low. none (suc k) (omega (arith, low))) in
    (grind (arith, here, later.0), grind (arith, here, later.1))

-- what is taken if a search finds an index, and if it finds none
pub taken_at : (s i : ℕ) (q : List PendingSignal) (d : PendingSignal) → position (has_sig s) q ≡ Some i → (first_carried s q ≡ Some (get_or q i d).carried) × (without_first s q ≡ remove q i)
taken_at s i q d e =
    let first = position-Some (has_sig s) q i d e in
    first_at s i q d first.0 first.1 first.2

pub taken_nowhere : (s : ℕ) (q : List PendingSignal) → position (has_sig s) q ≡ None → (first_carried s q ≡ None) × (without_first s q ≡ q)
taken_nowhere s q e = none_at s q d (λ k l. fails_before_first (has_sig s) q k d (omega (arith, l, behind)))
  where
    d : PendingSignal
    d = record { sig = s; carried = from_kernel }

    behind : length q ≤ position_or_len (has_sig s) q
    behind = ltb-false _ _ (false_from_ne_true _ (λ t. let there = cond-true (nat_lt (position_or_len (has_sig s) q) (length q)) (Some (position_or_len (has_sig s) q)) None t in cc))

-- ---- which numbers are queued

-- after a signal is queued, its number is queued, and other numbers are queued as before
pub queued_own : (m : PendingSignal) (q : List PendingSignal) → list_any (has_sig m.sig) (q ++ m ∷ []) ≡ true
queued_own m q = list_any-append (has_sig m.sig) q (m ∷ []) ∙ or_right _ _ (or_left _ _ (eq-eqb m.sig m.sig refl))

pub queued_others : (m : PendingSignal) (q : List PendingSignal) (n : ℕ) → n ≢ m.sig → list_any (has_sig n) (q ++ m ∷ []) ≡ list_any (has_sig n) q
queued_others m q n ne = list_any-append (has_sig n) q (m ∷ []) ∙ grind (arith, ne_eqb m.sig n (λ e. ne (sym e)))

-- a signal with one number has no other
no_other : (s n : ℕ) (m : PendingSignal) → n ≢ s → has_sig s m ≡ true → has_sig n m ≡ false
no_other s n m ne e = ne_eqb m.sig n (λ is. ne (sym is ∙ eqb-true m.sig s e))

-- after the first signal with a number is taken, other numbers are queued as before, and this number only if it was
pub taken_others : (s n : ℕ) (q : List PendingSignal) → n ≢ s → list_any (has_sig n) (without_first s q) ≡ list_any (has_sig n) q
unfolding without_first
taken_others s n [] ne = refl
taken_others s n (m ∷ q) ne = grind (arith, no_other s n m ne, taken_others s n q ne)

pub taken_own : (s : ℕ) (q : List PendingSignal) → list_any (has_sig s) (without_first s q) ≡ true → list_any (has_sig s) q ≡ true
unfolding without_first
taken_own s [] e = e
taken_own s (m ∷ q) e = grind (arith, e, taken_own s q)

abbrev pub has_other : ℕ → PendingSignal → Bool
has_other s m = not (has_sig s m)

-- after all signals with a number are discarded, other numbers are queued as before, and this number isn't
pub discarded_others : (s n : ℕ) (q : List PendingSignal) → n ≢ s → list_any (has_sig n) (filter (has_other s) q) ≡ list_any (has_sig n) q
discarded_others s n [] ne = refl
discarded_others s n (m ∷ q) ne = grind (arith, no_other s n m ne, discarded_others s n q ne)

pub discarded_own : (s : ℕ) (q : List PendingSignal) → list_any (has_sig s) (filter (has_other s) q) ≡ false
discarded_own s [] = refl
discarded_own s (m ∷ q) = grind (arith, discarded_own s q)

-- ---- generation

-- a real-time signal discards nothing
no_discards : (s : ℕ) (g : Signals) → 33 < s → after_discards s g ≡ g
no_discards s g above =
    ap (λ b. if b then without_stops g else if is_stop_signal s then with_pending CONT None g else g) (ne_eqb s CONT (λ e. omega (arith, above, e)))
    ∙ ap (λ b. if b then with_pending CONT None g else g) (and_right (nat_le STOP s) (nat_le s TTOU) (lt-leb s TTOU (omega (arith, above))))

-- a real-time signal that is kept is queued
pub generated_queued : (p : ℕ) (life : Life) (signal : PendingSignal) (g : Signals) → is_realtime signal.sig ≡ true → (not (gets_no_signals p life g signal.sig) && keeps g signal.sig) ≡ true
    → generated p life signal g ≡ with_queue (g.queue ++ signal ∷ []) g
unfolding generated
generated_queued p life signal g is kept =
    let s = signal.sig in
    let both = and_parts _ _ kept in
    ap (λ b. if b then g else (let h = after_discards s g in if keeps g s then make_pending signal h else h)) (not-true _ both.0)
    ∙ ap (λ b. let h = after_discards s g in if b then make_pending signal h else h) both.1
    ∙ ap (make_pending signal) (no_discards s g (above_33 s is))
    ∙ ap (λ b. if b then with_queue (g.queue ++ signal ∷ []) g else if is_pending g s then g else with_pending s (Some signal.carried) g) is

-- ---- the bits of queued numbers

-- a standard signal changes none of them
pub marks_stay : (p p' s : ℕ) (q : List PendingSignal) → MarksQueued p q → s ≤ 31 → ((j : ℕ) → j ≢ s - 1 → bit_at p' j ≡ bit_at p j) → MarksQueued p' q
marks_stay p p' s q marks low same n past = ap (λ b. b == 1) (same (n - 1) (λ e. omega (arith, past, low, e))) ∙ marks n past

-- a real-time signal changes only its own bit
pub marks_change : (p p' s : ℕ) (q q' : List PendingSignal) → MarksQueued p q → is_realtime s ≡ true → has p' s ≡ list_any (has_sig s) q'
    → ((j : ℕ) → j ≢ s - 1 → bit_at p' j ≡ bit_at p j) → ((n : ℕ) → n ≢ s → list_any (has_sig n) q' ≡ list_any (has_sig n) q) → MarksQueued p' q'
marks_change p p' s q q' marks is own bits others n past = elim (cases_eq n s) [
  | inl e ↦ subst (λ k. has p' k ≡ (is_realtime k && list_any (has_sig k) q')) (sym e) (own ∙ ap (λ b. b && list_any (has_sig s) q') (sym is))
  | inr ne ↦ ap (λ b. b == 1) (bits (n - 1) (λ e. ne (omega (arith, past, above_33 s is, e)))) ∙ marks n past ∙ ap (λ b. is_realtime n && b) (sym (others n ne))
]

-- the last signal with its number is taken
pub marks_last_taken : (p s : ℕ) (q : List PendingSignal) → MarksQueued p q → p < 2 ^ 64 → is_realtime s ≡ true → list_any (has_sig s) (without_first s q) ≡ false
    → MarksQueued (bit_and p (2 ^ 64 - 1 - 2 ^ (s - 1))) (without_first s q)
marks_last_taken p s q marks small is last =
    let within : s - 1 < 64 = omega (arith, above_33 s is, at_most_64 s is) in
    marks_change p (bit_and p (2 ^ 64 - 1 - 2 ^ (s - 1))) s q (without_first s q) marks is (ap (λ b. b == 1) (less_same p (s - 1) within) ∙ sym last)
    (λ j ne. less_other p (s - 1) j small within ne) (λ n ne. taken_others s n q ne)

-- one of several is taken
pub marks_taken : (p s : ℕ) (q : List PendingSignal) → MarksQueued p q → is_realtime s ≡ true → list_any (has_sig s) (without_first s q) ≡ true → MarksQueued p (without_first s q)
marks_taken p s q marks is more =
    let own : has p s ≡ list_any (has_sig s) (without_first s q) =
    marks s (omega (arith, above_33 s is)) ∙ ap (λ b. b && list_any (has_sig s) q) is ∙ taken_own s q more ∙ sym more in
    marks_change p p s q (without_first s q) marks is own (λ j ne. refl) (λ n ne. taken_others s n q ne)

-- the signals of a process after one is taken
pub taken_queued : (mask p p' s : ℕ) (t : TablesView) → is_realtime s ≡ true → ((j : ℕ) → j < 31 → bit_at p' j ≡ bit_at p j)
    → signals_of mask p' (record t { queue = without_first s t.queue }) ≡ taken s (signals_of mask p t)
unfolding taken
taken_queued mask p p' s t is same =
    let g : Signals = signals_of mask p t in
    ap (λ (xs : List (Option Carried)). record g { standard = xs; queue = without_first s t.queue }) (same_standard p' p t.carried same)
    ∙ ap (λ b. if b then with_queue (without_first s g.queue) g else with_pending s None g) (sym is)
