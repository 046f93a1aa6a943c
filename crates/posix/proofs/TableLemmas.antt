-- Facts on the table of processes as a list in rising pid order.
use Rattle.std.proofs.Common.{◌≡◌, ℕ, zero, suc, ◌+◌, ◌<◌, Bool, true, false, cond, refl, ap, arith, subst, List, [], ◌∷◌, length, map, filter, slice_get, Some, None, option_map, ◌==◌, nat_lt}
use Rattle.std.specs.List.{AllByRecursion, list_any}
use Rattle.std.proofs.lemmas.Bool.{eqb-true, eqb-false, ne_eqb}
use Rattle.std.proofs.lemmas.Bool.Decides.{nat_tests}
use Rattle.posix.specs.Common.{Process, IsRising, lookup, at, changed, inserted, removed, reparented, adopted}
use Rattle.posix.proofs.MapLemmas.{at_pid}

-- each pid is above n
abbrev pub Above : ℕ → List Process → Type 0
Above n rs = AllByRecursion (λ (q : Process). n < q.pid) rs

-- the process at any place has a pid above n
pub above_get : (n : ℕ) (rs : List Process) → Above n rs → (i : ℕ) (r : Process) → slice_get rs i ≡ Some r → n < r.pid
above_get n [] h i r e = absurd (cc)
above_get n (x ∷ xs) h zero r e = let same : x ≡ r = cc in subst (λ (r : Process). n < r.pid) same h.0
above_get n (x ∷ xs) h (suc i) r e = above_get n xs h.1 i r e

-- what lies above a number lies above each smaller one
pub above_less : (m n : ℕ) (rs : List Process) → m < n → Above n rs → Above m rs
above_less m n [] l h = tt
above_less m n (x ∷ xs) l h = (omega (arith, h.0), above_less m n xs l h.1)

-- no process below p has the ID
pub lookup_above : (p : ℕ) (rs : List Process) → Above p rs → lookup p rs ≡ None
unfolding lookup
lookup_above p [] h = refl
lookup_above p (x ∷ xs) h = rw (ne_eqb x.pid p (λ e. omega (arith, h.0))) (lookup_above p xs h.1)

-- a change of a process that isn't there does nothing
pub changed_absent : (p : ℕ) (f : Process → Process) (rs : List Process) → lookup p rs ≡ None → changed p f rs ≡ rs
unfolding changed lookup
changed_absent p f [] e = refl
changed_absent p f (r ∷ rs) e = grind (arith, changed_absent p f rs)

-- where all lie above p, it does nothing
pub changed_above : (p : ℕ) (f : Process → Process) (rs : List Process) → Above p rs → changed p f rs ≡ rs
changed_above p f rs h = changed_absent p f rs (lookup_above p rs h)

-- a removal of a process that isn't there does nothing
pub remove_none : (p : ℕ) (rs : List Process) → lookup p rs ≡ None → removed p rs ≡ rs
unfolding removed lookup
remove_none p [] e = refl
remove_none p (r ∷ rs) e = grind (arith, remove_none p rs)

-- where all lie above p, it does nothing
pub remove_above : (p : ℕ) (rs : List Process) → Above p rs → removed p rs ≡ rs
remove_above p rs h = remove_none p rs (lookup_above p rs h)

-- ---- how many there are

-- one more where a record comes in
pub length_inserted : (r : Process) (rs : List Process) → length (inserted r rs) ≡ length rs + 1
unfolding inserted
length_inserted r [] = refl
length_inserted r (x ∷ xs) = let rest = length_inserted r xs in grind (arith, rest)

-- one less where a record goes
pub length_removed : (p : ℕ) (r : Process) (rs : List Process) → IsRising rs → lookup p rs ≡ Some r → length rs ≡ length (removed p rs) + 1
unfolding removed lookup IsRising
length_removed p r [] up e = absurd (cc)
length_removed p r (x ∷ xs) up e = grind (arith, λ (i : x.pid ≡ p). ap length (remove_above p xs (subst (λ n. Above n xs) i up.0)), length_removed p r xs up.1, eqb-true x.pid p)

-- ---- what stays in rising order

-- all stay above n where each record keeps its pid
above_map : (n : ℕ) (f : Process → Process) → ((r : Process) → (f r).pid ≡ r.pid) → (rs : List Process) → Above n rs → Above n (map f rs)
above_map n f keeps [] h = tt
above_map n f keeps (r ∷ rs) h = (omega (arith, keeps r, h.0), above_map n f keeps rs h.1)

-- the order stays where each record keeps its pid
pub rising_map : (f : Process → Process) → ((r : Process) → (f r).pid ≡ r.pid) → (rs : List Process) → IsRising rs → IsRising (map f rs)
unfolding IsRising
rising_map f keeps [] h = tt
rising_map f keeps (r ∷ rs) h = (rw (keeps r) (above_map r.pid f keeps rs h.0), rising_map f keeps rs h.1)

-- so it does where one record changes and keeps its pid
pub rising_changed : (p : ℕ) (f : Process → Process) → ((r : Process) → (f r).pid ≡ r.pid) → (rs : List Process) → IsRising rs → IsRising (changed p f rs)
unfolding changed
rising_changed p f keeps rs up = rising_map (at p f) (at_pid p f keeps) rs up

-- a process that gets another parent keeps all that does not depend on the parent
pub reparented_keeps : {A : Type 0} (field : Process → A) (from to : ℕ) → ((r : Process) → field (record r { parent = to }) ≡ field r) → (r : Process) → field (reparented from to r) ≡ field r
reparented_keeps field from to keeps r = elim (r.parent == from) as (λ b. field (cond b (record r { parent = to }) r) ≡ field r) [ true ↦ keeps r | false ↦ refl ]

-- its pid, say
pub pid_reparented : (from to : ℕ) (r : Process) → (reparented from to r).pid ≡ r.pid
pid_reparented from to r = reparented_keeps (λ r. r.pid) from to (λ r. refl) r

-- the order stays where children get another parent
pub rising_adopted : (from to : ℕ) (rs : List Process) → IsRising rs → IsRising (adopted from to rs)
unfolding adopted
rising_adopted from to rs h = rising_map (reparented from to) (pid_reparented from to) rs h

-- some of those above n are above n
pub above_filter : (n : ℕ) (t : Process → Bool) (rs : List Process) → Above n rs → Above n (filter t rs)
above_filter n t [] h = tt
above_filter n t (r ∷ rs) h = elim (t r) as (λ b. Above n (cond b (r ∷ filter t rs) (filter t rs))) [ true ↦ (h.0, above_filter n t rs h.1) | false ↦ above_filter n t rs h.1 ]

-- some of a rising list are in rising order
pub rising_filter : (t : Process → Bool) (rs : List Process) → IsRising rs → IsRising (filter t rs)
unfolding IsRising
rising_filter t [] h = tt
rising_filter t (r ∷ rs) h = elim (t r) as (λ b. IsRising (cond b (r ∷ filter t rs) (filter t rs))) [ true ↦ (above_filter r.pid t rs h.0, rising_filter t rs h.1) | false ↦ rising_filter t rs h.1 ]

-- the order stays where a process is removed
pub rising_removed : (p : ℕ) (rs : List Process) → IsRising rs → IsRising (removed p rs)
unfolding removed
rising_removed p rs h = rising_filter _ rs h

-- all stay above n where a process above n goes in
above_inserted : (n : ℕ) (new : Process) (rs : List Process) → n < new.pid → Above n rs → Above n (inserted new rs)
unfolding inserted
above_inserted n new [] l h = (l, tt)
above_inserted n new (r ∷ rs) l h = elim (nat_lt new.pid r.pid) as (λ b. Above n (cond b (new ∷ r ∷ rs) (r ∷ inserted new rs))) [ true ↦ (l, h) | false ↦ (h.0, above_inserted n new rs l h.1) ]

-- the order stays when a process is inserted whose ID no process has
pub rising_inserted : (new : Process) (rs : List Process) → IsRising rs → lookup new.pid rs ≡ None → IsRising (inserted new rs)
unfolding IsRising inserted lookup
rising_inserted new [] h e = (tt, tt)
rising_inserted new (r ∷ rs) h e = grind (arith, nat_tests, h.0, h.1, above_less new.pid r.pid rs, above_inserted r.pid new rs, rising_inserted new rs h.1)

-- ---- changes of one record

-- two changes that do the same to the existing record have the same result
pub changed_same : (p : ℕ) (f g : Process → Process) (rs : List Process) → IsRising rs → (r : Process) → lookup p rs ≡ Some r → f r ≡ g r → changed p f rs ≡ changed p g rs
unfolding changed lookup IsRising
changed_same p f g [] up r e same = refl
changed_same p f g (x ∷ xs) up r e same = grind (arith, same, λ (i : x.pid ≡ p). changed_above p f xs (subst (λ n. Above n xs) i up.0), λ (i : x.pid ≡ p). changed_above p g xs (subst (λ n. Above n xs) i up.0), changed_same p f g xs up.1 r, eqb-true x.pid p)

-- a change that leaves the existing record unchanged does nothing
pub changed_id : (p : ℕ) (f : Process → Process) (rs : List Process) → IsRising rs → (r : Process) → lookup p rs ≡ Some r → f r ≡ r → changed p f rs ≡ rs
unfolding changed lookup IsRising
changed_id p f [] up r e same = refl
changed_id p f (x ∷ xs) up r e same = grind (arith, same, λ (i : x.pid ≡ p). changed_above p f xs (subst (λ n. Above n xs) i up.0), changed_id p f xs up.1 r, eqb-true x.pid p)

-- after a change of p, p is found changed, and any other as it was
pub lookup_changed : (p q : ℕ) (f : Process → Process) → ((r : Process) → (f r).pid ≡ r.pid) → (rs : List Process)
    → lookup q (changed p f rs) ≡ cond (q == p) (option_map f (lookup q rs)) (lookup q rs)
unfolding lookup changed
lookup_changed p q f keeps [] = grind arith
lookup_changed p q f keeps (r ∷ rs) = grind (arith, keeps r, lookup_changed p q f keeps rs, eqb-true, eqb-false)

-- who is found by a pid has it
pub pid_looked : (p : ℕ) (rs : List Process) (r : Process) → lookup p rs ≡ Some r → r.pid ≡ p
unfolding lookup
pid_looked p [] r e = absurd (cc)
pid_looked p (x ∷ rs) r e = grind (arith, pid_looked p rs r, eqb-true x.pid p)

-- if no process passes a test, no process that is found passes it
pub none_found : (t : Process → Bool) (rs : List Process) → list_any t rs ≡ false → (p : ℕ) (r : Process) → lookup p rs ≡ Some r → t r ≡ false
unfolding lookup
none_found t [] none p r e = absurd (cc)
none_found t (x ∷ xs) none p r e = grind (arith, none, e, none_found t xs)
