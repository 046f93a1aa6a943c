-- Processes of a table in rising order, and children, read off one after another.
use Rattle.std.proofs.Common.{◌≡◌, ℕ, ◌+◌, length, is_some, ◌<◌, ◌≤◌, Bool, true, false, not, ◌&&◌, ◌||◌, cond, refl, ap, sym, ◌∙◌, arith, subst, List, [], ◌∷◌, ◌++◌, filter, Option, Some, None, ◌==◌, ◌-◌, nat_lt, nat_le, inl, inr}
use Rattle.std.specs.List.{AllByRecursion, list_any}
use Rattle.std.specs.Option.{IfSome, IsSome}
use Rattle.std.proofs.lemmas.List.Elements.{filter-append}
use Rattle.std.proofs.lemmas.Bool.{eqb-true, eq-eqb, ne_eqb, ltb-true, cases_order, and_parts, or_cases, false_from_ne_true}
use Rattle.std.proofs.lemmas.Bool.Decides.{nat_tests}
use Rattle.std.proofs.lemmas.Option.{IfSome_then}
use Rattle.posix.specs.Common.{Process, IsRising, IsNext, has_pid, lookup, pids, removed, is_child, children_in, first_pid, above, next_above, left_of, is_in}
use Rattle.posix.proofs.TableLemmas.{Above, above_less, lookup_above, pid_looked, rising_filter}

-- of a list above n, all lie above n
pub above_all : (n : ℕ) (rs : List Process) → Above n rs → above n rs ≡ rs
above_all n [] a = refl
above_all n (x ∷ xs) a = let t : nat_lt n x.pid ≡ true = grind (arith, nat_tests, a.0) in rw t (ap (λ ys. x ∷ ys) (above_all n xs a.1))

-- of a list above n, all are left from n on
from_all : (n : ℕ) (rs : List Process) → Above n rs → left_of (Some n) rs ≡ rs
from_all n [] a = refl
from_all n (x ∷ xs) a = let t : nat_le n x.pid ≡ true = grind (arith, nat_tests, a.0) in rw t (ap (λ ys. x ∷ ys) (from_all n xs a.1))

-- from the head, the whole list is left
pub left_of_head : (rs : List Process) → IsRising rs → left_of (first_pid rs) rs ≡ rs
unfolding IsRising
left_of_head [] up = refl
left_of_head (x ∷ xs) up = let t : nat_le x.pid x.pid ≡ true = grind (arith, nat_tests) in rw t (ap (λ ys. x ∷ ys) (from_all x.pid xs up.0))

-- what comes next lies above
pub head_above : (n : ℕ) (rs : List Process) → IfSome (first_pid (above n rs)) (λ y. n < y)
head_above n [] = tt
head_above n (x ∷ xs) = grind (arith, nat_tests, head_above n xs)

-- a head below what comes next is not left
skip : (o : Option ℕ) (x : Process) (xs : List Process) → IfSome o (λ y. x.pid < y) → left_of o (x ∷ xs) ≡ left_of o xs
skip None x xs h = refl
skip (Some y) x xs h = let t : nat_le y x.pid ≡ false = grind (arith, nat_tests, h) in rw t refl

-- what lies above n lies above each smaller number
pub weaker : (o : Option ℕ) (x n : ℕ) → x < n → IfSome o (λ y. n < y) → IfSome o (λ y. x < y)
weaker None x n h a = tt
weaker (Some y) x n h a = omega arith

-- the head of a list above n lies above n
pub head_of : (n : ℕ) (xs : List Process) → Above n xs → IfSome (first_pid xs) (λ y. n < y)
head_of n [] a = tt
head_of n (y ∷ ys) a = a.0

-- what a walk over a list knows at c: the record, and what is left after it
pub record Here (rs : List Process) (c : ℕ) : Type 0 where
  pub what : Process
  pub named : what.pid ≡ c
  pub left : left_of (Some c) rs ≡ what ∷ left_of (first_pid (above c rs)) rs
  pub found : lookup c rs ≡ Some what

-- where what is left from c begins with c, a walk knows this
pub here : (rs : List Process) → IsRising rs → (c : ℕ) → first_pid (left_of (Some c) rs) ≡ Some c → Here rs c
unfolding IsRising lookup
here [] up c e = absurd (cc)
here (x ∷ xs) up c e =
    elim (cases_order x.pid c) [
      | inl eq ↦
          let t : nat_le c x.pid ≡ true = grind (arith, nat_tests) in
          let u : nat_lt c x.pid ≡ false = grind (arith, nat_tests) in
          let above_c : Above c xs = subst (λ n. Above n xs) eq up.0 in
          let rest : left_of (first_pid xs) (x ∷ xs) ≡ xs = skip _ x xs (head_of x.pid xs up.0) ∙ left_of_head xs up.1 in
          record {
            what = x;
            named = eq;
            left = rw (t, u, above_all c xs above_c, from_all c xs above_c, rest) refl;
            found = rw (eq-eqb x.pid c eq) refl;
          }
      | inr (inl lt) ↦
          let t : nat_le c x.pid ≡ false = grind (arith, nat_tests) in
          let u : nat_lt c x.pid ≡ false = grind (arith, nat_tests) in
          let i = here xs up.1 c (rw t at e) in
          record {
            what = i.what;
            named = i.named;
            left = rw (t, u) (i.left ∙ ap (λ l. i.what ∷ l) (sym (skip _ x xs (weaker _ x.pid c lt (head_above c xs)))));
            found = rw (ne_eqb x.pid c (λ k. omega (arith, k))) i.found;
          }
      | inr (inr gt) ↦ absurd (grind (arith, nat_tests, e, gt))
    ]

-- where y is the first above n, what is left from y begins with y
head_from : (rs : List Process) (n y : ℕ) → first_pid (above n rs) ≡ Some y → first_pid (left_of (Some y) rs) ≡ Some y
head_from [] n y e = e
head_from (x ∷ xs) n y e = grind (arith, nat_tests, head_above n xs, head_from xs n y)

-- what is left from the first above n, if there is one, begins with it
pub head_left_of : (rs : List Process) (n : ℕ) → first_pid (left_of (first_pid (above n rs)) rs) ≡ first_pid (above n rs)
head_left_of rs n = elim (first_pid (above n rs)) as (λ o. first_pid (above n rs) ≡ o → first_pid (left_of o rs) ≡ o) [ None ↦ λ e. refl | Some y ↦ λ e. head_from rs n y e ] refl

-- who is found in a list above n lies above n
pub found_above : (n q : ℕ) (xs : List Process) (r : Process) → Above n xs → lookup q xs ≡ Some r → n < q
unfolding lookup
found_above n q [] r a e = absurd (cc)
found_above n q (x ∷ xs) r a e = grind (arith, a.0, found_above n q xs r a.1, eqb-true x.pid q)

-- who is found among some is found among all
pub record InFilter (t : Process → Bool) (rs : List Process) (c : ℕ) (r : Process) : Type 0 where
  pub found : lookup c rs ≡ Some r
  pub passes : t r ≡ true

-- who is found among those that pass a test is found among all, and passes it
pub in_filter : (t : Process → Bool) (rs : List Process) → IsRising rs → (c : ℕ) (r : Process) → lookup c (filter t rs) ≡ Some r → InFilter t rs c r
unfolding lookup IsRising
in_filter t [] up c r e = absurd (cc)
in_filter t (x ∷ xs) up c r e = record {
  found = grind (arith, e, λ (k : lookup c (filter t xs) ≡ Some r). (in_filter t xs up.1 c r k).found, found_above x.pid c xs r up.0, eqb-true x.pid c);
  passes = grind (arith, e, λ (k : lookup c (filter t xs) ≡ Some r). (in_filter t xs up.1 c r k).passes);
}

-- what a walk over the children of p knows at the child c
pub record AtChild (rs : List Process) (p c : ℕ) : Type 0 where
  pub what : Process
  pub named : what.pid ≡ c
  pub found : lookup c rs ≡ Some what
  pub parent : what.parent ≡ p
  pub left : left_of (Some c) (children_in p rs) ≡ what ∷ left_of (first_pid (above c (children_in p rs))) (children_in p rs)
  pub next : first_pid (left_of (first_pid (above c (children_in p rs))) (children_in p rs)) ≡ first_pid (above c (children_in p rs))

-- where what is left of the children from c begins with c, a walk knows this
pub at_child : (rs : List Process) → IsRising rs → (p c : ℕ) → first_pid (left_of (Some c) (children_in p rs)) ≡ Some c → AtChild rs p c
unfolding children_in
at_child rs up p c e =
    let h = here (filter (is_child p) rs) (rising_filter (is_child p) rs up) c e in
    let i = in_filter (is_child p) rs up c h.what h.found in
    record { what = h.what; named = h.named; found = i.found; parent = eqb-true _ _ i.passes; left = h.left; next = head_left_of (filter (is_child p) rs) c }

-- where a walk over the children begins
pub at_first : (rs : List Process) → IsRising rs → (p : ℕ) → left_of (first_pid (children_in p rs)) (children_in p rs) ≡ children_in p rs
unfolding children_in
at_first rs up p = left_of_head (filter (is_child p) rs) (rising_filter (is_child p) rs up)

-- ---- a walk over those that pass a test: one law for all walks

-- what all that are looked up have, all have
pub all_looked : (P : Process → Type 0) (rs : List Process) → IsRising rs → ((p : ℕ) (r : Process) → lookup p rs ≡ Some r → P r) → AllByRecursion P rs
unfolding lookup IsRising
all_looked P [] up h = tt
all_looked P (x ∷ xs) up h = (
  h x.pid x (rw (eq-eqb x.pid x.pid refl) refl),
  all_looked P xs up.1 (λ p r e. let low = found_above x.pid p xs r up.0 e in h p r (rw (ne_eqb x.pid p (λ s. omega (arith, low, s))) e)),
)

-- who passes a test is one that does
pub any_looked : (t : Process → Bool) (p : ℕ) (rs : List Process) (r : Process) → lookup p rs ≡ Some r → t r ≡ true → list_any t rs ≡ true
unfolding lookup
any_looked t p [] r e k = absurd (cc)
any_looked t p (x ∷ xs) r e k = grind (arith, e, k, any_looked t p xs r)

-- and where one does, one that does is there
pub some_looked : (t : Process → Bool) (rs : List Process) → IsRising rs → list_any t rs ≡ true → (r : Process) × (lookup r.pid rs ≡ Some r) × (t r ≡ true)
unfolding lookup IsRising
some_looked t [] up e = absurd (cc)
some_looked t (x ∷ xs) up e = elim (or_cases (t x) _ e) [
  | inl k ↦ (x, rw (eq-eqb x.pid x.pid refl) refl, k)
  | inr k ↦
      let i = some_looked t xs up.1 k in
      let low = found_above x.pid i.0.pid xs i.0 up.0 i.1 in
      (i.0, rw (ne_eqb x.pid i.0.pid (λ s. omega (arith, low, s))) i.1, i.2)
]

-- where one of those that pass a test passes another, one passes both
pub any_filter : (t u : Process → Bool) (rs : List Process) → list_any u (filter t rs) ≡ list_any (λ r. t r && u r) rs
any_filter t u [] = refl
any_filter t u (x ∷ xs) = grind (arith, any_filter t u xs)

-- whose number is among those of processes is found there
pub pid_found : (q : ℕ) (rs : List Process) → is_in q (pids rs) ≡ true → (r : Process) × (lookup q rs ≡ Some r)
unfolding is_in lookup
pid_found q [] e = absurd (cc)
pid_found q (r ∷ rs) e = elim (r.pid == q) as (λ b. (b || is_in q (pids rs)) ≡ true → (x : Process) × (cond b (Some r) (lookup q rs) ≡ Some x)) [
  | true ↦ λ k. (r, refl)
  | false ↦ λ k. pid_found q rs k
] e

-- those with the number p: one, or none
abbrev pub numbered : ℕ → List Process → List Process
numbered p rs = filter (has_pid p) rs

-- if there is no such process, no process has the ID
pub numbered_none : (p : ℕ) (rs : List Process) → lookup p rs ≡ None → numbered p rs ≡ []
unfolding lookup
numbered_none p [] e = refl
numbered_none p (x ∷ xs) e = grind (arith, numbered_none p xs)

-- in a list above p, no process has the ID p
none_numbered : (p : ℕ) (rs : List Process) → Above p rs → numbered p rs ≡ []
none_numbered p rs a = numbered_none p rs (lookup_above p rs a)

-- an existing process is the one with its ID
pub numbered_one : (p : ℕ) (rs : List Process) → IsRising rs → (q : Process) → lookup p rs ≡ Some q → numbered p rs ≡ q ∷ []
unfolding lookup IsRising
numbered_one p [] up q e = absurd (cc)
numbered_one p (x ∷ xs) up q e = grind (arith, λ (i : x.pid ≡ p). none_numbered p xs (subst (λ n. Above n xs) i up.0), numbered_one p xs up.1 q, eqb-true x.pid p)

-- from p on, p is left, if it is there, and those above
pub left_split : (p : ℕ) (rs : List Process) → IsRising rs → left_of (Some p) rs ≡ numbered p rs ++ above p rs
unfolding IsRising
left_split p [] up = refl
left_split p (x ∷ xs) up = grind (arith, nat_tests, left_split p xs up.1, λ (l : p < x.pid). none_numbered p xs (above_less p x.pid xs l up.0))

-- tests that agree on those that pass another
filters_agree : (t u v : Process → Bool) (rs : List Process) → AllByRecursion (λ r. t r ≡ true → u r ≡ v r) rs → filter t (filter u rs) ≡ filter t (filter v rs)
filters_agree t u v [] h = refl
filters_agree t u v (r ∷ rs) h = grind (arith, h.0, filters_agree t u v rs h.1)

-- whether a number is left, from the one that comes next on
abbrev pub is_left : Option ℕ → ℕ → Bool
is_left None q = false
is_left (Some n) q = nat_le n q

pub left_is : (o : Option ℕ) (rs : List Process) → left_of o rs ≡ filter (λ r. is_left o r.pid) rs
left_is None [] = refl
left_is None (x ∷ xs) = left_is None xs
left_is (Some n) rs = refl

-- who passes is left just where it lies above n
is_left_above : (t : Process → Bool) (n : ℕ) (rs : List Process) (next : Option ℕ) → IsNext t n rs next → (r : Process) → lookup r.pid rs ≡ Some r → t r ≡ true → is_left next r.pid ≡ nat_lt n r.pid
is_left_above t n rs None i r e k = let none = i.between r.pid r e in grind (arith, nat_tests, k, none)
is_left_above t n rs (Some m) i r e k = let none = i.between r.pid r e in let above = i.above in grind (arith, nat_tests, k, none, above)

-- from the one that comes next after n on, those that pass are left that lie above n
pub rest_of_walk : (t : Process → Bool) (n : ℕ) (rs : List Process) (next : Option ℕ) → IsRising rs → IsNext t n rs next → filter t (left_of next rs) ≡ filter t (above n rs)
rest_of_walk t n rs next up i =
    ap (filter t) (left_is next rs)
    ∙ filters_agree t (λ r. is_left next r.pid) (λ r. nat_lt n r.pid) rs (all_looked (λ r. t r ≡ true → is_left next r.pid ≡ nat_lt n r.pid) rs up (λ q r e k. is_left_above t n rs next i r (ap (λ m. lookup m rs) (pid_looked q rs r e) ∙ e) k))

-- a walk begins with all that pass
pub walk_begins : (t : Process → Bool) (rs : List Process) (next : Option ℕ) → IsRising rs → ((p : ℕ) (r : Process) → lookup p rs ≡ Some r → 1 ≤ r.pid) → IsNext t 0 rs next → filter t (left_of next rs) ≡ filter t rs
walk_begins t rs next up least i = rest_of_walk t 0 rs next up i ∙ ap (filter t) (above_all 0 rs (all_looked _ rs up least))

-- at p, that one is left, if it is there and passes, and those that lie above
pub walk_splits : (t : Process → Bool) (p : ℕ) (rs : List Process) → IsRising rs → filter t (left_of (Some p) rs) ≡ filter t (numbered p rs) ++ filter t (above p rs)
walk_splits t p rs up = ap (filter t) (left_split p rs up) ∙ filter-append t (numbered p rs) (above p rs)

-- at an existing process p, what is left is p, if it passes, and what is left from the next process on
pub walk_at : (t : Process → Bool) (p : ℕ) (rs : List Process) → IsRising rs → (r : Process) → lookup p rs ≡ Some r → (next : Option ℕ) → IsNext t p rs next
    → filter t (left_of (Some p) rs) ≡ filter t (r ∷ []) ++ filter t (left_of next rs)
walk_at t p rs up r e next i =
    walk_splits t p rs up
    ∙ ap (λ l. filter t l ++ filter t (above p rs)) (numbered_one p rs up r e)
    ∙ ap (λ l. filter t (r ∷ []) ++ l) (sym (rest_of_walk t p rs next up i))

-- ---- who comes next

-- the record with the number q is there, and passes
abbrev pub Passes : (Process → Bool) → List Process → ℕ → Type 0
Passes w rs q = (r : Process) × (lookup q rs ≡ Some r) × (w r ≡ true)

-- the first that passes is there
pub first_passes : (w : Process → Bool) (rs : List Process) → IsRising rs → IfSome (first_pid (filter w rs)) (Passes w rs)
unfolding lookup IsRising
first_passes w [] up = tt
first_passes w (x ∷ xs) up = elim (w x) as (λ b. w x ≡ b → IfSome (first_pid (cond b (x ∷ filter w xs) (filter w xs))) (Passes w (x ∷ xs))) [
  | true ↦ λ e. (x, rw (eq-eqb x.pid x.pid refl) refl, e)
  | false ↦ λ e. IfSome_then _ {P = Passes w xs} (first_passes w xs up.1) (λ q i.
      let low = found_above x.pid q xs i.0 up.0 i.1 in
      (i.0, rw (ne_eqb x.pid q (λ k. omega (arith, low, k))) i.1, i.2))
] refl

-- no process before it passes
pub none_passes_before : (w : Process → Bool) (rs : List Process) → IsRising rs → (q : ℕ) (r : Process) → lookup q rs ≡ Some r → w r ≡ true → IfSome (first_pid (filter w rs)) (λ m. q < m) → ⊥
unfolding lookup IsRising
none_passes_before w [] up q r e k h = absurd (cc)
none_passes_before w (x ∷ xs) up q r e k h = grind (arith, k, h, found_above x.pid q xs r up.0, none_passes_before w xs up.1 q r, eqb-true x.pid q)

-- the first of a narrower test comes next, where those above n that pass the wider one pass it
pub first_is_next : (t w : Process → Bool) (n : ℕ) (rs : List Process) → IsRising rs → ((r : Process) → w r ≡ true → n < r.pid) → ((r : Process) → n < r.pid → t r ≡ true → w r ≡ true) → IsNext t n rs (first_pid (filter w rs))
first_is_next t w n rs up high wide =
    let first = first_passes w rs up in
    record {
      there = IfSome_then _ {P = Passes w rs} first (λ q i. subst IsSome (sym i.1) refl);
      above = IfSome_then _ {P = Passes w rs} first (λ q i. subst (λ m. n < m) (pid_looked q rs i.0 i.1) (high i.0 i.2));
      between = λ q r e l h. false_from_ne_true (t r) (λ k. none_passes_before w rs up q r e (wide r (subst (λ m. n < m) (sym (pid_looked q rs r e)) l) k) h);
    }

-- the least number above n comes next, whatever the test
pub least_is_next : (t : Process → Bool) (n : ℕ) (rs : List Process) → IsRising rs → IsNext t n rs (next_above n rs)
unfolding next_above
least_is_next t n rs up = first_is_next t (λ r. nat_lt n r.pid) n rs up (λ r e. ltb-true _ _ e) (λ r l k. let u : nat_lt n r.pid ≡ true = grind (arith, nat_tests) in u)

-- two tests may come in either order
pub filters_commute : (s t : Process → Bool) (rs : List Process) → filter s (filter t rs) ≡ filter t (filter s rs)
filters_commute s t [] = refl
filters_commute s t (x ∷ xs) = grind (arith, filters_commute s t xs)

-- children, where one goes
pub children_removed : (p c : ℕ) (rs : List Process) → children_in p (removed c rs) ≡ removed c (children_in p rs)
unfolding children_in removed
children_removed p c rs = filters_commute (is_child p) (λ r. not (r.pid == c)) rs

-- two tests, one after another
pub both_pass : (t u : Process → Bool) (rs : List Process) → filter u (filter t rs) ≡ filter (λ r. t r && u r) rs
both_pass t u [] = refl
both_pass t u (x ∷ xs) = grind (arith, both_pass t u xs)

-- the least of those that pass it comes next too
pub passing_is_next : (t : Process → Bool) (n : ℕ) (rs : List Process) → IsRising rs → IsNext t n rs (first_pid (above n (filter t rs)))
passing_is_next t n rs up =
    subst (λ l. IsNext t n rs (first_pid l)) (sym (both_pass t (λ r. nat_lt n r.pid) rs))
    (first_is_next t (λ r. t r && nat_lt n r.pid) n rs up (λ r e. ltb-true _ _ (and_parts (t r) _ e).1) (λ r l k. let u : nat_lt n r.pid ≡ true = grind (arith, nat_tests) in rw (k, u) refl))

-- ---- a walk over those that pass a test, by the numbers of these alone

-- what is left begins with the one that comes next
pub next_begins : (n : ℕ) (rs : List Process) (next : Option ℕ) → next ≡ first_pid (above n rs) → first_pid (left_of next rs) ≡ next
next_begins n rs next e = rw e (head_left_of rs n)

-- what a walk over those that pass a test knows at p, which is one of them
pub record AtOne (t : Process → Bool) (p : ℕ) (rs : List Process) : Type 0 where
  pub what : Process
  pub found : lookup p rs ≡ Some what
  pub left : left_of (Some p) (filter t rs) ≡ what ∷ left_of (first_pid (above p (filter t rs))) (filter t rs)

-- where it comes next, and what is left begins with it
pub one_here : (t : Process → Bool) (p : ℕ) (rs : List Process) (next : Option ℕ) → IsRising rs → next ≡ Some p → first_pid (left_of next (filter t rs)) ≡ next → AtOne t p rs
one_here t p rs next up comes begins =
    let h = here (filter t rs) (rising_filter t rs up) p (rw comes at begins) in
    record { what = h.what; found = (in_filter t rs up p h.what h.found).found; left = h.left }

-- one less is left after it
pub one_less : (t : Process → Bool) (p : ℕ) (rs : List Process) (next after : Option ℕ) → AtOne t p rs → next ≡ Some p → after ≡ first_pid (above p (filter t rs)) → length (left_of next (filter t rs)) ≡ 1 + length (left_of after (filter t rs))
one_less t p rs next after at comes e = let long = ap length at.left in rw (comes, e) (omega (arith, long))

-- all who pass lie above 0
pub passing_above : (t : Process → Bool) (rs : List Process) → IsRising rs → ((q : ℕ) (r : Process) → lookup q rs ≡ Some r → 1 ≤ r.pid) → above 0 (filter t rs) ≡ filter t rs
passing_above t rs up least = filters_commute (λ r. nat_lt 0 r.pid) t rs ∙ ap (filter t) (above_all 0 rs (all_looked _ rs up least))

-- so from the first of them on all are left
pub all_left : (rs : List Process) (next : Option ℕ) → IsRising rs → above 0 rs ≡ rs → next ≡ first_pid (above 0 rs) → left_of next rs ≡ rs
all_left rs next up all e = ap (λ o. left_of o rs) (e ∙ ap first_pid all) ∙ left_of_head rs up

-- there is a first of those that pass a test where one passes it
pub has_first : (t : Process → Bool) (rs : List Process) → is_some (first_pid (filter t rs)) ≡ list_any t rs
has_first t [] = refl
has_first t (r ∷ rs) = grind (arith, has_first t rs)

-- ---- how long a walk is

-- no more than this many numbers may come next, of those below m
abbrev pub numbers_left : ℕ → Option ℕ → ℕ
numbers_left m None = 0
numbers_left m (Some p) = m - p

-- fewer do after p
pub fewer_left : (m p : ℕ) (next : Option ℕ) → p < m → IfSome next (λ q. p < q) → numbers_left m next < m - p
fewer_left m p None l h = omega arith
fewer_left m p (Some q) l h = omega (arith, h)
