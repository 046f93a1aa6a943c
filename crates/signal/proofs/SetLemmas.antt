-- The set of pending signals, bit by bit.
use Rattle.std.proofs.Common.{◌≡◌, ◌≢◌, ℕ, zero, suc, ◌+◌, ◌-◌, ◌*◌, ◌/◌, ◌^◌, ◌<◌, ◌≤◌, min, max, Bool, true, false, not, ◌&&◌, ◌==◌, List, [], ◌∷◌, ◌++◌, length, map, refl, sym, ap, ◌∙◌, arith, get_or, set, Option, Some, None, is_some, find, bit_and, bit_or, inl, inr}
use Rattle.std.specs.Prelude.{replicate, if◌then◌else◌, unwrap_or}
use Rattle.std.specs.Int.{bit_at, trailing_zeros, w64}
use Rattle.std.specs.List.{list_any, range_with_len}
use Rattle.std.proofs.lemmas.Bool.Decides.{nat_tests}
use Rattle.std.proofs.lemmas.Bool.{cases_lt}
use Rattle.std.proofs.lemmas.List.{get_or-replicate, get_or-set_same, get_or-set_other, get_or_past, length-replicate}
use Rattle.std.proofs.lemmas.List.FromFn.{get_or-map-range_with_len, length-map-range_with_len, fill_by_all}
use Rattle.std.proofs.lemmas.Nat.Bits.{bit_at_lowest, bit_at-suc, bit_at-zero, bit_at_and, bit_at_or, bit_at_not, bit_at-pow_same, bit_at-pow_other, bit_at-trailing_zeros, bit_at-lt, bit_at_above, same_from_bits}
use Rattle.std.proofs.lemmas.Nat.{pow_below}
use Rattle.posix.proofs.RangeLemmas.{find_range_none, find_range_first}
use Rattle.posix.specs.declared.process.Carried.{Carried}
use Rattle.posix.specs.Common.{is_realtime, is_signal, except, has, nothing_pending, has_sig, is_pending, set_of, bit_of, all_signals, carried_by, first_carried, from_kernel, is_ready}
use Rattle.signal.specs.SignalTables.{TablesView, MarksQueued, pending_at, signals_of, standard_of}
use Rattle.signal.proofs.FieldLemmas.{made_at, made_same, set_made}

bit_below : (b : Bool) → bit_of b < 2
bit_below b = grind arith

-- bit i is the i-th bit of a set
bit_of_set : (bs : List Bool) (i : ℕ) → bit_at (set_of bs) i ≡ bit_of (get_or bs i false)
unfolding set_of
bit_of_set [] i = bit_at-zero i
bit_of_set (b ∷ bs) zero =
    let l = bit_below b in
    bit_at_lowest (2 * set_of bs + bit_of b) ∙ omega arith
bit_of_set (b ∷ bs) (suc i) =
    let l = bit_below b in
    let others : (2 * set_of bs + bit_of b) / 2 ≡ set_of bs = omega arith in
    bit_at-suc (2 * set_of bs + bit_of b) i ∙ ap (λ n. bit_at n i) others ∙ bit_of_set bs i

bit_kept : (n : ℕ) → n < 2 → bit_of (n == 1) ≡ n
bit_kept n l = grind (arith, nat_tests)

one_back : (j : ℕ) → j + 1 - 1 ≡ j
one_back j = omega arith

-- a set is that of the signals that it contains
pub set_is : (f : ℕ → Bool) (p : ℕ) → p < 2 ^ 64 → ((s : ℕ) → f s ≡ has p s) → set_of (map f (range_with_len 1 64)) ≡ p
set_is f p small same = same_from_bits (set_of (map f (range_with_len 1 64))) p (λ j. bit_of_set (map f (range_with_len 1 64)) j ∙ elim (cases_lt j 64) [
  | inl l ↦ ap bit_of (get_or-map-range_with_len f 1 64 j (j + 1) false l (omega arith) ∙ same (j + 1) ∙ ap (λ i. bit_at p i == 1) (one_back j)) ∙ bit_kept (bit_at p j) (bit_at-lt p j)
  | inr past ↦ ap bit_of (get_or_past (map f (range_with_len 1 64)) j false (omega (arith, past, length-map-range_with_len f 1 64))) ∙ sym (bit_at_above p 64 j small past)
])

-- the bits of 64 that aren't in a set
not_in : (b j : ℕ) → b < 2 ^ 64 → j < 64 → bit_at (2 ^ 64 - 1 - b) j ≡ 1 - bit_at b j
not_in b j h l = bit_at_not w64 b j h l

-- ---- pending signals from the set

pub length_standard : (p : ℕ) (cs : List Carried) → length (standard_of p cs) ≡ 31
unfolding standard_of
length_standard p cs = length-map-range_with_len (pending_at p cs) 0 31

pub pending_there : (p : ℕ) (cs : List Carried) (i : ℕ) → i < 31 → get_or (standard_of p cs) i None ≡ pending_at p cs i
unfolding standard_of
pending_there p cs i l = made_at (pending_at p cs) 31 i None l

pending_by : (n m : ℕ) (c d : Carried) → n ≡ m → c ≡ d → (if n == 1 then Some c else None) ≡ (if m == 1 then Some d else None)
pending_by n m c d e f = cc

-- if each row carries the same, all pending standard signals do
pub standard_same : (p : ℕ) (cs ds : List Carried) → ((k : ℕ) → k < 31 → pending_at p cs k ≡ pending_at p ds k) → standard_of p cs ≡ standard_of p ds
unfolding standard_of
standard_same p cs ds same = made_same (pending_at p cs) (pending_at p ds) 31 None same

-- without signals in the set, none is pending
pub none_pending : (cs : List Carried) → standard_of 0 cs ≡ nothing_pending
unfolding standard_of nothing_pending
none_pending cs = sym (fill_by_all (pending_at 0 cs) (replicate 31 None) 31 None (length-replicate {A = Option Carried} 31 None) (λ k l.
    get_or-replicate 31 k None None l ∙ sym (ap (λ n. if n == 1 then Some (get_or cs k from_kernel) else None) (bit_at-zero k))))

pub without_pending : (mask : ℕ) (t : TablesView) → signals_of mask 0 t ≡ record (signals_of mask 0 t) { standard = nothing_pending }
without_pending mask t = ap (λ (xs : List (Option Carried)). record (signals_of mask 0 t) { standard = xs }) (none_pending t.carried)

-- ---- one bit more or less

pub more_same : (p i : ℕ) → bit_at (bit_or p (2 ^ i)) i ≡ 1
more_same p i = bit_at_or p (2 ^ i) i ∙ ap (max (bit_at p i)) (bit_at-pow_same i) ∙ omega (arith, bit_at-lt p i)

pub more_other : (p i j : ℕ) → j ≢ i → bit_at (bit_or p (2 ^ i)) j ≡ bit_at p j
more_other p i j ne = bit_at_or p (2 ^ i) j ∙ ap (max (bit_at p j)) (bit_at-pow_other i j ne) ∙ omega arith

pub less_same : (p i : ℕ) → i < 64 → bit_at (bit_and p (2 ^ 64 - 1 - 2 ^ i)) i ≡ 0
less_same p i l =
    bit_at_and p (2 ^ 64 - 1 - 2 ^ i) i
    ∙ ap (min (bit_at p i)) (not_in (2 ^ i) i (pow_below i 64 l) l)
    ∙ ap (λ n. min (bit_at p i) (1 - n)) (bit_at-pow_same i)
    ∙ omega arith

pub less_other : (p i j : ℕ) → p < 2 ^ 64 → i < 64 → j ≢ i → bit_at (bit_and p (2 ^ 64 - 1 - 2 ^ i)) j ≡ bit_at p j
less_other p i j small l ne = bit_at_and p (2 ^ 64 - 1 - 2 ^ i) j ∙ elim (cases_lt j 64) [
  | inl low ↦ ap (min (bit_at p j)) (not_in (2 ^ i) j (pow_below i 64 l) low ∙ ap (λ n. 1 - n) (bit_at-pow_other i j ne)) ∙ omega (arith, bit_at-lt p j)
  | inr past ↦ let none = bit_at_above p 64 j small past in omega (arith, none)
]

-- ---- the signals of a process with the set

-- only the bits of standard signals count
pub same_standard : (p q : ℕ) (cs : List Carried) → ((i : ℕ) → i < 31 → bit_at p i ≡ bit_at q i) → standard_of p cs ≡ standard_of q cs
unfolding standard_of
same_standard p q cs same = fill_by_all (pending_at q cs) (standard_of p cs) 31 None (length_standard p cs) (λ k l. pending_there p cs k l ∙ pending_by _ _ _ _ (same k l) refl)

-- one more signal, with what it carries
pub one_more : (p : ℕ) (cs : List Carried) (i : ℕ) (c : Carried) → i < 31 → length cs ≡ 31 → standard_of (bit_or p (2 ^ i)) (set cs i c) ≡ set (standard_of p cs) i (Some c)
unfolding standard_of
one_more p cs i c l n =
    let g = pending_at (bit_or p (2 ^ i)) (set cs i c) in
    let is : g i ≡ Some c = pending_by _ 1 _ c (more_same p i) (get_or-set_same cs i c from_kernel (omega (arith, l, n))) in
    sym (ap (set (standard_of p cs) i) (sym is) ∙ set_made (pending_at p cs) g 31 i None (λ j low ne.
    pending_by _ _ _ _ (sym (more_other p i j ne)) (sym (get_or-set_other cs i j c from_kernel ne))))

-- one signal less
pub one_less : (p : ℕ) (cs : List Carried) (i : ℕ) → p < 2 ^ 64 → i < 64 → standard_of (bit_and p (2 ^ 64 - 1 - 2 ^ i)) cs ≡ set (standard_of p cs) i None
unfolding standard_of
one_less p cs i small l =
    let q = bit_and p (2 ^ 64 - 1 - 2 ^ i) in
    let is : pending_at q cs i ≡ None = ap (λ n. if n == 1 then Some (get_or cs i from_kernel) else None) (less_same p i l) in
    sym (ap (set (standard_of p cs) i) (sym is) ∙ set_made (pending_at p cs) (pending_at q cs) 31 i None (λ j low ne.
    pending_by _ _ _ _ (sym (less_other p i j small l ne)) refl))

-- what a pending signal carries is in its row
carried_there : (p : ℕ) (cs : List Carried) (i : ℕ) → is_some (get_or (standard_of p cs) i None) ≡ true → get_or cs i from_kernel ≡ unwrap_or (get_or (standard_of p cs) i None) from_kernel
carried_there p cs i e = elim (cases_lt i 31) [
  | inl l ↦ by_bit (bit_at p i == 1) (sym (ap is_some (pending_there p cs i l)) ∙ e) ∙ sym (ap (λ o. unwrap_or o from_kernel) (pending_there p cs i l))
  | inr past ↦ absurd (let none = ap is_some (get_or_past (standard_of p cs) i None (omega (arith, past, length_standard p cs))) in cc)
]
  where
    by_bit : (b : Bool) → is_some (if b then Some (get_or cs i from_kernel) else None) ≡ true → get_or cs i from_kernel ≡ unwrap_or (if b then Some (get_or cs i from_kernel) else None) from_kernel
    by_bit true e = refl
    by_bit false e = absurd (cc)

-- ---- what the set says about one signal

no_realtime : (s : ℕ) → s ≤ 31 → is_realtime s ≡ false
no_realtime s l = grind (arith, nat_tests, l)

pub is_pending_by : (mask p : ℕ) (t : TablesView) → MarksQueued p t.queue → (s : ℕ) → is_pending (signals_of mask p t) s ≡ has p s
is_pending_by mask p t marks s = elim (cases_lt 31 s) [
  | inl past ↦ above (is_realtime s) (list_any (has_sig s) t.queue) _ _ (ap is_some (get_or_past (standard_of p t.carried) (s - 1) None (omega (arith, past, length_standard p t.carried)))) (marks s past)
  | inr low ↦ below (is_realtime s) (list_any (has_sig s) t.queue) _ _ (no_realtime s low) (ap is_some (pending_there p t.carried (s - 1) (omega (arith, low))) ∙ by_bit (has p s) (get_or t.carried (s - 1) from_kernel))
]
  where
    above : (b x y z : Bool) → y ≡ false → z ≡ (b && x) → (if b then x else y) ≡ z
    above b x y z e f = grind (arith, e, f)

    below : (b x y z : Bool) → b ≡ false → y ≡ z → (if b then x else y) ≡ z
    below b x y z e f = grind (arith, e, f)

    by_bit : (b : Bool) (c : Carried) → is_some (if b then Some c else None) ≡ b
    by_bit b c = grind arith

-- what a pending standard signal carries
pub carried_standard : (mask p : ℕ) (t : TablesView) (s : ℕ) → is_realtime s ≡ false → is_pending (signals_of mask p t) s ≡ true → get_or t.carried (s - 1) from_kernel ≡ carried_by s (signals_of mask p t)
carried_standard mask p t s standard pending =
    let o = get_or (standard_of p t.carried) (s - 1) None in
    let there : is_pending (signals_of mask p t) s ≡ is_some o = ap (λ b. if b then list_any (has_sig s) t.queue else is_some o) standard in
    carried_there p t.carried (s - 1) (sym there ∙ pending)
    ∙ sym (ap (λ b. unwrap_or (if b then first_carried s t.queue else o) from_kernel) standard)

-- ---- the lowest ready signal

two_bits : (m n : ℕ) → m < 2 → n < 2 → (min m (1 - n) == 1) ≡ ((m == 1) && not (n == 1))
two_bits m n l k = grind (arith, nat_tests)

-- signal s is in the set of ready signals
pub is_ready_by : (mask p : ℕ) (t : TablesView) → MarksQueued p t.queue → mask < 2 ^ 64 → (s : ℕ) → s < 65 → is_ready (signals_of mask p t) s ≡ has (except p mask) s
is_ready_by mask p t marks small s l =
    ap (λ b. b && not (has mask s)) (is_pending_by mask p t marks s)
    ∙ sym (two_bits (bit_at p (s - 1)) (bit_at mask (s - 1)) (bit_at-lt p (s - 1)) (bit_at-lt mask (s - 1)))
    ∙ ap (λ n. n == 1) (sym (bit_at_and p (2 ^ 64 - 1 - mask) (s - 1) ∙ ap (min (bit_at p (s - 1))) (not_in mask (s - 1) small (omega (arith, l)))))

-- above 31, only real-time signals are ready
pub is_unready : (mask p : ℕ) (t : TablesView) → MarksQueued p t.queue → (s : ℕ) → 31 < s → is_realtime s ≡ false → is_ready (signals_of mask p t) s ≡ false
is_unready mask p t marks s past e = ap (λ b. b && not (has mask s)) (is_pending_by mask p t marks s ∙ marks s past ∙ ap (λ b. b && list_any (has_sig s) t.queue) e)

-- a search through the signals may include 32 and 33 if they don't pass
find_signal : (f : ℕ → Bool) → f 32 ≡ false → f 33 ≡ false → find f all_signals ≡ find f (range_with_len 1 64)
find_signal f e e2 = gap (range_with_len 1 31)
  where
    gap : (xs : List ℕ) → find f (xs ++ range_with_len 34 31) ≡ find f (xs ++ 32 ∷ 33 ∷ range_with_len 34 31)
    gap [] = rw (e, e2) refl
    gap (x ∷ xs) = ap (λ o. if f x then Some x else o) (gap xs)

-- a number of a signal, except 32 and 33
is_number : (s : ℕ) → 1 ≤ s → s ≤ 64 → s ≢ 32 → s ≢ 33 → is_signal s ≡ true
is_number s lo hi ne ne2 = grind (arith, nat_tests, lo, hi, ne, ne2)

-- if the set of ready signals is empty, no signal is ready
pub none_ready : (f : ℕ → Bool) (r : ℕ) → ((s : ℕ) → s < 65 → f s ≡ has r s) → f 32 ≡ false → f 33 ≡ false → r ≡ 0 → find f all_signals ≡ None
none_ready f r same e e2 none = find_signal f e e2 ∙ find_range_none f 1 64 (λ k lo hi.
    same k hi ∙ ap (λ n. bit_at n (k - 1) == 1) none ∙ ap (λ b. b == 1) (bit_at-zero (k - 1)))

-- the lowest bit of the set of ready signals is the lowest signal
pub least_is : (f : ℕ → Bool) (r : ℕ) → ((s : ℕ) → s < 65 → f s ≡ has r s) → f 32 ≡ false → f 33 ≡ false → 0 < r → r < 2 ^ 64
    → (is_signal (trailing_zeros w64 r + 1) ≡ true) × (find f all_signals ≡ Some (trailing_zeros w64 r + 1))
least_is f r same e e2 some small =
    let t : ℕ = trailing_zeros w64 r in
    let low = bit_at-trailing_zeros w64 r some small in
    let l : t < 64 = low.0 in
    let there : f (t + 1) ≡ true = same (t + 1) (omega (arith, l)) ∙ ap (λ i. bit_at r i == 1) (one_back t) ∙ ap (λ b. b == 1) low.1 in (
      is_number (t + 1) (omega arith) (omega (arith, l)) (λ is. let g = ap f is in cc) (λ is. let g = ap f is in cc),
      find_signal f e e2 ∙ find_range_first f 1 64 (t + 1) (omega arith) (omega (arith, l)) (λ k lo hi.
          same k (omega (arith, hi, l)) ∙ ap (λ b. b == 1) (low.2 (k - 1) (omega (arith, lo, hi)))) there,
    )
