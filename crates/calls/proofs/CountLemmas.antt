-- How many slots rechecking reads.
use Rattle.std.proofs.Common.{◌≡◌, ℕ, ◌+◌, ◌*◌, ◌≤◌, Bool, true, false, cond, not, ◌||◌, refl, ap, arith, List, [], ◌∷◌, length, subst, Some, None, Option, slice_get, ◌==◌, is_some, nat_lt}
use Rattle.std.proofs.lemmas.Bool.{eq-eqb, or_left, or_right}
use Rattle.posix.specs.declared.process.Blocked.{Blocked}
use Rattle.posix.specs.declared.process.Blocked.TheVariants as blocked
use Rattle.posix.specs.declared.waits.Asked.{Asked}
use Rattle.posix.specs.Common.{Process, lookup, is_in, without, chosen, asked_by}
use Rattle.posix.proofs.OrderLemmas.{without_absent}
use Rattle.pidset.specs.Numbers.{Rises, with_number}
use Rattle.pidset.proofs.NumberLemmas.{not_in_above}
use Rattle.life.specs.Rechecks.{AreTaking, NeedNoChild, is_in_wait, asked_in}
use Rattle.calls.specs.Counts.{neighbour, slots_of_call, slots_of_rechecking, slots_of_rechecks, slots_of_asking, reports_first, slots_of_first}
use Rattle.jobs.specs.IndexedTables.{takes_signal}

-- ---- those to recheck

-- what the first one reads, and what the others do
pub rechecks_first : (rs : List Process) (last : Option ℕ) (ns : List ℕ) (p : ℕ) → Rises ns → slice_get ns 0 ≡ Some p → slots_of_rechecking rs (neighbour last ns) (lookup p rs) + slots_of_rechecks rs (Some p) (without p ns) ≡ slots_of_rechecks rs last ns
unfolding slots_of_rechecks without Rises
rechecks_first rs last [] p up first = absurd (cc)
rechecks_first rs last (n ∷ ns) p up first =
    let same : n ≡ p = cc in
    let others : without n (n ∷ ns) ≡ ns = rw (eq-eqb n n refl) (without_absent n ns (not_in_above n n ns (omega arith) up.0)) in
    subst (λ q. slots_of_rechecking rs (neighbour last (n ∷ ns)) (lookup q rs) + slots_of_rechecks rs (Some q) (without q (n ∷ ns)) ≡ slots_of_rechecks rs last (n ∷ ns)) same
    (ap (λ l. slots_of_rechecking rs (neighbour last (n ∷ ns)) (lookup n rs) + slots_of_rechecks rs (Some n) l) others)

-- one for each, if a signal is chosen for each
pub rechecks_taking : (rs : List Process) (last : Option ℕ) (ns : List ℕ) → AreTaking rs ns → slots_of_rechecks rs last ns ≤ length ns
unfolding slots_of_rechecks is_in
rechecks_taking rs last [] h = omega arith
rechecks_taking rs last (n ∷ ns) h =
    let it = h n (or_left _ _ (eq-eqb n n refl)) in
    let rest = rechecks_taking rs (Some n) ns (λ p e. h p (or_right _ _ e)) in
    rw (it.1, it.2) (omega (arith, rest))

-- a call that isn't a wait takes at most one more
call_brief : (rs : List Process) (first : Option ℕ) (me : Process) (b : Option Blocked) → not (is_in_wait b) ≡ true → slots_of_call rs first me b ≤ 1
call_brief rs first me (Some (blocked.Wait call)) e = absurd (cc)
call_brief rs first me (Some blocked.Read) e = omega arith
call_brief rs first me b e = omega arith

-- a process that isn't in a wait, or has a chosen signal, takes at most two
pub judged_brief : (rs : List Process) (first : Option ℕ) (r : Process) → (is_some (chosen r.life r.signals) || not (is_in_wait r.blocked)) ≡ true → slots_of_rechecking rs first (Some r) ≤ 2
judged_brief rs first r e = by (is_some (chosen r.life r.signals)) e
  where
    by : (b : Bool) → (b || not (is_in_wait r.blocked)) ≡ true → 1 + cond b 0 (slots_of_call rs first r r.blocked) ≤ 2
    by true e = omega arith
    by false e = let one = call_brief rs first r r.blocked e in omega (arith, one)

-- two for each, if no child has to be looked at
pub rechecks_brief : (rs : List Process) (last : Option ℕ) (ns : List ℕ) → NeedNoChild rs ns → slots_of_rechecks rs last ns ≤ 2 * length ns
unfolding slots_of_rechecks is_in
rechecks_brief rs last [] h = omega arith
rechecks_brief rs last (n ∷ ns) h =
    let it = h n (or_left _ _ (eq-eqb n n refl)) in
    let rest = rechecks_brief rs (Some n) ns (λ p e. h p (or_right _ _ e)) in
    let one = judged_brief rs (neighbour last (n ∷ ns)) it.0 it.2 in
    rw it.1 (omega (arith, rest, one))

-- none if the recheck list is empty
pub rechecks_none : (rs : List Process) (last : Option ℕ) (ns : List ℕ) → ns ≡ [] → slots_of_rechecks rs last ns ≡ 0
unfolding slots_of_rechecks
rechecks_none rs last ns none = rw none refl

-- ---- a wait

-- its wait reports the child that is looked at first
abbrev pub reports_at_once : List Process → ℕ → Process → Option Asked → Bool
reports_at_once rs q r None = true
reports_at_once rs q r (Some a) = reports_first rs (Some q) r.pid r.group a

asking_told : (rs : List Process) (q : ℕ) (r : Process) (o : Option Asked) → reports_at_once rs q r o ≡ true → slots_of_asking rs (Some q) r.pid r.group o ≤ 2
asking_told rs q r None e = omega arith
asking_told rs q r (Some a) e = rw e (omega arith)

-- a parent whose wait does
pub judged_told : (rs : List Process) (q : ℕ) (r : Process) → (takes_signal r || (not (is_in_wait r.blocked) || reports_at_once rs q r (asked_in r r.blocked))) ≡ true → slots_of_rechecking rs (Some q) (Some r) ≤ 3
judged_told rs q r e = by (takes_signal r) r.blocked e
  where
    by : (t : Bool) (b : Option Blocked) → (t || (not (is_in_wait b) || reports_at_once rs q r (asked_in r b))) ≡ true → 1 + cond t 0 (slots_of_call rs (Some q) r b) ≤ 3
    by true b e = omega arith
    by false (Some (blocked.Wait call)) e = let two = asking_told rs q r (asked_by call r) e in omega (arith, two)
    by false (Some blocked.Read) e = omega arith
    by false b e = omega arith

-- any process
judged_any : (rs : List Process) (first : Option ℕ) (r : Process) → slots_of_rechecking rs first (Some r) ≤ 4
judged_any rs first r = by (takes_signal r) r.blocked
  where
    most : (first : Option ℕ) → slots_of_first first ≤ 1
    most None = omega arith
    most (Some q) = omega arith

    asking : (o : Option Asked) → slots_of_asking rs first r.pid r.group o ≤ 3
    asking None = omega arith
    asking (Some a) = elim (reports_first rs first r.pid r.group a) as (λ k. cond k 2 (2 + slots_of_first first) ≤ 3) [
      | true ↦ omega arith
      | false ↦ let one = most first in omega (arith, one)
    ]

    by : (t : Bool) (b : Option Blocked) → 1 + cond t 0 (slots_of_call rs first r b) ≤ 4
    by true b = omega arith
    by false (Some (blocked.Wait call)) = let all = asking (asked_by call r) in omega (arith, all)
    by false (Some blocked.Read) = omega arith
    by false b = omega arith

-- only one process
pub rechecks_one : (rs : List Process) (p : ℕ) (r : Process) → lookup p rs ≡ Some r → slots_of_rechecks rs None (p ∷ []) ≤ 4
unfolding slots_of_rechecks
rechecks_one rs p r found = rw found (let one = judged_any rs None r in omega (arith, one))

-- a child and its parent, which waits for just it, or looks at no child
pub rechecks_pair : (rs : List Process) (p q : ℕ) (child parent : Process) → lookup p rs ≡ Some child → lookup q rs ≡ Some parent → (takes_signal parent || (not (is_in_wait parent.blocked) || reports_at_once rs p parent (asked_in parent parent.blocked))) ≡ true
    → slots_of_rechecks rs None (with_number q (p ∷ [])) ≤ 7
unfolding slots_of_rechecks with_number
rechecks_pair rs p q child parent here up told =
    let three = judged_told rs p parent told in
    elim (nat_lt q p) as (λ b. slots_of_rechecks rs None (cond b (q ∷ p ∷ []) (cond (q == p) (p ∷ []) (p ∷ q ∷ []))) ≤ 7) [
      | true ↦ rw (here, up) (let four = judged_any rs (Some q) child in omega (arith, three, four))
      | false ↦ elim (q == p) as (λ b. slots_of_rechecks rs None (cond b (p ∷ []) (p ∷ q ∷ [])) ≤ 7) [
        | true ↦ rw here (let four = judged_any rs None child in omega (arith, four))
        | false ↦ rw (here, up) (let four = judged_any rs (Some q) child in omega (arith, three, four))
      ]
    ]
